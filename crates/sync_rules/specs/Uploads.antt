-- What a sync uploads of a folder. Our own. Read UploadsSo, at the end, then OffersAt and IsUploadOf.
use Rattle.std.specs.Prelude.{ℕ, ◌≡◌, true, false, All, List, [], ◌∷◌, ◌++◌, Option, None, Some, Ok, ⊤}
use Rattle.std.specs.FinMap as fin
use Rattle.std.specs.List.{Contains, filter_map, flat_map}
use Rattle.std.specs.Option.{option_or}
use Rattle.ids.specs.Key.{Objects}
use Rattle.ids.specs.ObjectId.{nil}
use Rattle.ids.specs.declared.key.Key.{Key}
use Rattle.tree_model.specs.Path.{PathV}
use Rattle.tree_model.specs.Tree.{Tree}
use Rattle.block_chunker.specs.declared.cuts.Cuts.{Cuts}
use Rattle.commit_objects.specs.Commit.{commit_of}
use Rattle.commit_objects.specs.declared.commit.Commit.{Commit}
use Rattle.object_graph.specs.Objects.{commit_key, fs_key}
use Rattle.object_graph.specs.Reached.{ReachedFrom}
use Rattle.object_graph.specs.Traversal.{is_in}
use Rattle.folder_side.specs.Folder.{Contents}
use Rattle.local_index.specs.declared.index.Index.{Index}
use Rattle.local_index.specs.declared.index.Known.{Known}
use Rattle.local_index.specs.declared.index.Known.TheVariants as known
use Rattle.http_front.specs.declared.order.What.{What}
use Rattle.http_front.specs.declared.order.What.TheVariants as what
use Rattle.remote_calls.specs.Sends.{Sent}
use Rattle.sync_rules.specs.Causes.{HasPath}
use Rattle.sync_rules.specs.Named.{IsHad, asked_head, got_in, is_upload, keys_named, last_round}
use Rattle.sync_rules.specs.Offer.{Agrees, IsOffer}
use Rattle.sync_rules.specs.Premises.{Over}

-- ---- what is uploaded of a folder

-- the head that was asked in the round has no tree: its commit was got, and its root is forty zeros
pub record IsEmptyHead (before : List Sent) : Type 0 where
  pub head : List ℕ
  pub asked : asked_head before None ≡ Some head
  pub bytes : List ℕ
  pub got : Contains (flat_map got_in before) (commit_key head, Some bytes)
  pub commit : Commit
  pub spells : commit_of bytes ≡ Ok commit
  pub named : commit.id ≡ head
  pub none : commit.root ≡ nil

-- nothing is uploaded but on such a head; `before` was sent before these
abbrev pub UploadsOnEmpty : (before : List Sent) → List Sent → Type 0
UploadsOnEmpty before [] = ⊤
UploadsOnEmpty before (sent ∷ more) = (is_upload sent.0.what ≡ true → IsEmptyHead before) × UploadsOnEmpty (before ++ sent ∷ []) more

-- a folder that has something is offered to a library with which it was never synced only where that has nothing
abbrev pub JoinsSo : Contents → Index → List Sent → Type 0
JoinsSo c index more = index.base ≡ None → HasPath c → UploadsOnEmpty [] more

-- the file objects that an index knows: the library has them, and their blocks
abbrev pub file_key : Known → Option Key
file_key known.Dir = None
file_key (known.File id own size mode mtime modifier) = Some (fs_key id)

abbrev pub known_files : Index → List Key
known_files index = filter_map (λ (entry : PathV × Known). file_key entry.1) (fin.entries index.entries)

-- what was sent in the round of a commit: nothing but what it needs was sent or asked about, and each object that it needs was, but for
-- the files that the index knows and what they alone need
pub record IsUploadOf (objects : Objects) (index : Index) (round : List Sent) (id : List ℕ) : Type 0 where
  pub needed : All (λ (key : Key). ReachedFrom objects [] (commit_key id ∷ []) key) (keys_named round)
  pub whole : (key : Key) → ReachedFrom objects (known_files index) (commit_key id ∷ []) key → is_in (keys_named round) key ≡ true

-- a library is asked to stand at nothing but what the folder offers, over any objects that have what was named before, and after all of
-- it was uploaded
abbrev pub OffersAt : Cuts → Contents → Index → (user : List ℕ) → (ℕ → Type 0) → (before : List Sent) → What → Type 0
OffersAt cuts c i user shows before (what.Update id) = (had : List (Key × List ℕ)) × IsHad before had
    × ((objects : Objects) (base : Tree) → Over objects cuts c i base had
    → (moment : ℕ) × shows moment × IsOffer objects cuts c i moment user (option_or i.base (asked_head before None)) id
    × IsUploadOf objects i (last_round before []) id)
OffersAt cuts c i user shows before asked = ⊤

abbrev pub OffersEach : Cuts → Contents → Index → (user : List ℕ) → (ℕ → Type 0) → (before : List Sent) → List Sent → Type 0
OffersEach cuts c i user shows before [] = ⊤
OffersEach cuts c i user shows before (sent ∷ more) = OffersAt cuts c i user shows before sent.0.what × OffersEach cuts c i user shows (before ++ sent ∷ []) more

-- nothing is sent, nor asked what is to be sent
abbrev pub UploadsNone : List Sent → Type 0
UploadsNone more = All (λ sent. is_upload sent.0.what ≡ false) more

-- what is uploaded of a folder: nothing where it agrees with its index, so no commit is made of a folder in which nothing changed; to a
-- library with which it was never synced only where one of both is empty; and no commit but what the folder offers
pub record UploadsSo (cuts : Cuts) (c : Contents) (i : Index) (user : List ℕ) (more : List Sent) (shows : ℕ → Type 0) : Type 0 where
  pub changed : Agrees cuts c i → UploadsNone more
  pub joins : JoinsSo c i more
  pub offers : OffersEach cuts c i user shows [] more

-- What a call of a library is due: which answer, or which change. Our own. The refusals of a list come in its order.
-- Read Due and decided, then act_due and due.
use Rattle.std.specs.Prelude.{ℕ, nat_lt, nat_le, Bool, false, not, if◌then◌else◌, List, [], ◌∷◌, ◌++◌, filter, find, map as map_list, Option, None, Some, option_map, Result, Ok, Err}
use Rattle.std.specs.Bool.{then_some}
use Rattle.std.specs.FinMap as map
use Rattle.std.specs.Str.{bytes_eq}
use Rattle.sha1.specs.Sha1.{sha1}
use Rattle.ids.specs.declared.key.Key.{Key}
use Rattle.ids.specs.declared.key.Kind.{Kind}
use Rattle.ids.specs.declared.key.Kind.TheVariants as kind
use Rattle.commit_objects.specs.Commit.{commit_of}
use Rattle.commit_objects.specs.CommitKey as commit_key_words
use Rattle.commit_objects.specs.declared.commit.Commit.{Commit}
use Rattle.commit_objects.specs.declared.fault.BadCommit.{BadCommit}
use Rattle.fs_objects.specs.FsKey as fs_key_words
use Rattle.fs_objects.specs.FsObject.{fs_of}
use Rattle.fs_objects.specs.declared.fault.BadFs.{BadFs}
use Rattle.fs_objects.specs.declared.fs_object.FsObject.{FsObject}
use Rattle.library_state.specs.Rights.{right_number}
use Rattle.library_state.specs.declared.call.Act.{Act}
use Rattle.library_state.specs.declared.call.Act.TheVariants as act
use Rattle.library_state.specs.declared.call.Call.{Call}
use Rattle.library_state.specs.declared.call.Op.TheVariants as op
use Rattle.library_state.specs.declared.refusal.Refusal.{Refusal}
use Rattle.library_state.specs.declared.refusal.Refusal.TheVariants as refusal
use Rattle.library_state.specs.declared.reply.Reply.{Reply}
use Rattle.library_state.specs.declared.reply.Reply.TheVariants as reply
use Rattle.library_state.specs.declared.right.Right.{Right}
use Rattle.library_state.specs.declared.right.Right.TheVariants as right
use Rattle.library_state.specs.declared.history.Install.{Install}
use Rattle.library_state.specs.declared.state.LibState.{LibState}
use Rattle.library_state.specs.declared.token.Token.{Token}
use Rattle.object_graph.specs.FsIds.{fs_ids}
use Rattle.object_graph.specs.Objects.{commit_key, same_id, is_nil}
use Rattle.object_graph.specs.Traversal.{walk_commit, distinct_from}
use Rattle.object_graph.specs.declared.fault.TreeFault.{TreeFault}
use Rattle.library_rules.specs.LibraryState.{State, head_of, is_kept, is_stored, is_day_count}
use Rattle.library_rules.specs.MergeBase.{Based, Base, NoBase, base_of, refusal_of}
use Rattle.library_rules.specs.declared.entry.Stored.{Stored}

-- what a call is due: denied; an answer, and no object is stored; an object is stored; a commit becomes the head; or
-- a commit that this user pushed is merged into the head, over a merge base
pub data Due : Type 0 where
  Denies : Due
  Says : Reply → Due
  Stores : Stored → Due
  Installs : List ℕ → Due
  Merges : (user base pushed : List ℕ) → Due

-- ---- who may ask

-- the right that an act needs
abbrev pub right_for : Act → Right
right_for (act.Check op.Upload) = right.Write
right_for (act.Check op.Download) = right.Read
right_for act.Head = right.Read
right_for (act.Get key) = right.Read
right_for (act.Put key bytes) = right.Write
right_for (act.Missing kind ids) = right.Write
right_for (act.Update commit) = right.Write
right_for (act.Limit days) = right.Owner
right_for (act.Ids server client) = right.Read

-- the token of a secret
abbrev pub token_of : List Token → Option (List ℕ) → Option Token
token_of tokens None = None
token_of tokens (Some secret) = find (λ token. bytes_eq secret token.secret) tokens

-- whether a token's right is enough for an act
abbrev pub may : Token → Act → Bool
may token a = nat_le (right_number (right_for a)) (right_number token.right)

-- ---- objects

-- the keys of some ids; forty zeros name nothing
abbrev pub keys_of : Kind → List (List ℕ) → List Key
keys_of k [] = []
keys_of k (id ∷ ids) = if is_nil id then keys_of k ids else record { kind = k; id = id } ∷ keys_of k ids

-- the ids of some keys, in their order
abbrev pub ids_of : List Key → List (List ℕ)
ids_of keys = map_list (λ key. key.id) keys

-- what is stored under a key, or that nothing is
abbrev pub got : Key → Option (List ℕ) → Reply
got key None = reply.Refused (refusal.NoObject key)
got key (Some bytes) = reply.Got bytes

-- the first refusal of a list
abbrev pub first_refusal : List (Option Refusal) → Option Refusal
first_refusal [] = None
first_refusal (None ∷ others) = first_refusal others
first_refusal (Some why ∷ others) = Some why

-- blocks, files and directories are named by their SHA-1
abbrev pub other_name : Key → List ℕ → Option Refusal
other_name key bytes = then_some (not (same_id (sha1 bytes) key.id)) (refusal.Wrong (sha1 bytes))

-- bytes that are no file and no directory object are told by the number of the first check that fails
abbrev pub not_fs : Result FsObject BadFs → Option Refusal
not_fs (Ok object) = None
not_fs (Err bad) = Some (refusal.BadFs (fs_key_words.fault_code bad))

-- a commit must bear the name under which it is put, and be one of this library
abbrev pub not_commit : (lib id : List ℕ) → Result Commit BadCommit → List (Option Refusal)
not_commit lib id (Ok commit) = then_some (not (same_id commit.id id)) (refusal.Wrong commit.id) ∷ then_some (not (same_id commit.lib lib)) (refusal.OtherLibrary commit.lib) ∷ []
not_commit lib id (Err bad) = Some (refusal.BadCommit (commit_key_words.fault_code bad)) ∷ []

-- whether other bytes than these are there
abbrev pub other_bytes : Option (List ℕ) → List ℕ → Bool
other_bytes None bytes = false
other_bytes (Some there) bytes = not (bytes_eq there bytes)

-- the refusals of a put by the kind of the object, in their order
abbrev pub put_refusals : (lib : List ℕ) → Kind → Key → List ℕ → List (Option Refusal)
put_refusals lib kind.Block key bytes = other_name key bytes ∷ []
put_refusals lib kind.Fs key bytes = other_name key bytes ∷ not_fs (fs_of bytes) ∷ []
put_refusals lib kind.Commit key bytes = not_commit lib key.id (commit_of bytes)

-- ---- what the state alone decides, whatever is stored

-- an update of a kept commit: it was pushed already; and one whose upload was checked before the last collection began
abbrev pub update_decided : LibState → Token → List ℕ → Option Reply
update_decided state token pushed =
    if is_kept state.kept pushed then Some (reply.Updated (head_of state.kept))
    else if nat_lt token.last state.collection then Some (reply.Refused (refusal.Stale token.last state.collection))
    else None

-- a put is refused for its bytes, or since its id has forty zeros
abbrev pub put_decided : List ℕ → Key → List ℕ → Option Reply
put_decided lib key bytes = option_map reply.Refused (first_refusal (put_refusals lib key.kind key bytes ++ then_some (is_nil key.id) (refusal.Taken key.id) ∷ []))

-- a list of a commit that isn't kept
abbrev pub ids_decided : List Install → List ℕ → Option Reply
ids_decided kept server = if is_kept kept server then None else Some (reply.Refused (refusal.NoObject (commit_key server)))

-- the answer to an act of one whose right is enough, or none where the objects decide
abbrev pub act_decided : LibState → Token → Act → Option Reply
act_decided state token (act.Check o) = Some reply.Checked
act_decided state token act.Head = Some (reply.HeadIs (head_of state.kept))
act_decided state token (act.Get key) = None
act_decided state token (act.Put key bytes) = put_decided state.lib key bytes
act_decided state token (act.Missing k ids) = None
act_decided state token (act.Update commit) = update_decided state token commit
act_decided state token (act.Limit days) = Some (if is_day_count days then reply.Limited else reply.Refused (refusal.BadDays days))
act_decided state token (act.Ids server client) = ids_decided state.kept server

abbrev pub token_decided : LibState → Act → Option Token → Option Reply
token_decided state a None = Some (reply.Refused refusal.Denied)
token_decided state a (Some token) = if may token a then act_decided state token a else Some (reply.Refused refusal.Denied)

-- the answer to a call that the state alone decides
abbrev pub decided : LibState → Call → Option Reply
decided state call = token_decided state call.act (token_of state.tokens call.secret)

-- the answer that the state decides, or else the one that the objects decide
abbrev pub said_by : Option Reply → Reply → Reply
said_by (Some r) later = r
said_by None later = later

-- the same of what is due
abbrev pub by_state : Option Reply → Due → Due
by_state (Some r) later = Says r
by_state None later = later

module _ (s : State) where
  -- ---- what the objects decide

  -- other bytes are stored under the key; else the object is stored, or was stored already
  abbrev pub put_by_objects : Key → List ℕ → Due
  put_by_objects key bytes =
      if other_bytes (map.get s.objects key) bytes then Says (reply.Refused (refusal.Taken key.id))
      else if is_stored s.objects key then Says (reply.Stored false)
      else Stores (record { key = key; bytes = bytes })

  -- what a put is due: its first refusal, if one comes; that the key has other bytes is looked for last
  abbrev pub put_due : Key → List ℕ → Due
  put_due key bytes = by_state (put_decided s.state.lib key bytes) (put_by_objects key bytes)

  -- the ids that name nothing that is stored, in the order asked, each once
  abbrev pub absent : Kind → List (List ℕ) → List (List ℕ)
  absent k ids = ids_of (distinct_from [] (filter (λ key. not (is_stored s.objects key)) (keys_of k ids)))

  -- a client's commit that isn't kept counts as none
  abbrev pub kept_alone : Option (List ℕ) → Option (List ℕ)
  kept_alone None = None
  kept_alone (Some commit) = if is_kept s.state.kept commit then Some commit else None

  -- the files and directories that a kept commit needs and a client's doesn't
  abbrev pub listed : List ℕ → Option (List ℕ) → Reply
  listed server client = reply.Listed (fs_ids s.objects server (kept_alone client))

  -- ---- update

  -- a pushed commit that is complete becomes the head where its base is the head, and else is merged into it
  abbrev pub complete_due : (user base pushed : List ℕ) → Option TreeFault → Due
  complete_due user base pushed (Some fault) = Says (reply.Refused (refusal_of fault))
  complete_due user base pushed None = if same_id base (head_of s.state.kept) then Installs pushed else Merges user base pushed

  -- without a merge base the update is refused as the search for it is; else the pushed commit must be complete
  abbrev pub base_due : (user pushed : List ℕ) → Based → Due
  base_due user pushed (NoBase why) = Says (reply.Refused why)
  base_due user pushed (Base base) = complete_due user base pushed (walk_commit s.objects pushed).fault

  -- a commit that isn't kept is taken in from its merge base
  abbrev pub update_due : Token → List ℕ → Due
  update_due token pushed = by_state (update_decided s.state token pushed) (base_due token.user pushed (base_of s pushed))

  -- ---- all calls

  -- what the objects decide of an act; of a check, the head and a limit the state decides all
  abbrev pub act_by_objects : Token → Act → Due
  act_by_objects token (act.Check o) = Denies
  act_by_objects token act.Head = Denies
  act_by_objects token (act.Get key) = Says (got key (map.get s.objects key))
  act_by_objects token (act.Put key bytes) = put_by_objects key bytes
  act_by_objects token (act.Missing k ids) = Says (reply.Absent (absent k ids))
  act_by_objects token (act.Update commit) = base_due token.user commit (base_of s commit)
  act_by_objects token (act.Limit days) = Denies
  act_by_objects token (act.Ids server client) = Says (listed server client)

  -- what an act is due, of one whose right is enough
  abbrev pub act_due : Token → Act → Due
  act_due token a = by_state (act_decided s.state token a) (act_by_objects token a)

  -- an unknown secret is denied, and so is a right that isn't enough
  abbrev pub token_due : Act → Option Token → Due
  token_due a None = Denies
  token_due a (Some token) = if may token a then act_due token a else Denies

  -- what a call is due, by the token of its secret
  abbrev pub due : Call → Due
  due call = token_due call.act (token_of s.state.tokens call.secret)

-- What the sends of a sync name, and the bytes that it had for that. Our own. Read has_name and IsHad first, then HasAll, HasGot and
-- AreTextsOf; last_head is the head that they name, and last_round, at the end, what was sent in one round.
use Rattle.std.specs.Prelude.{ℕ, ◌≡◌, Bool, true, false, if◌then◌else◌, All, List, [], ◌∷◌, ◌++◌, Option, None, Some, Ok, is_ok, map, ⊤}
use Rattle.std.specs.FinMap as fin
use Rattle.std.specs.List.{Contains, filter_map, flat_map}
use Rattle.std.specs.Str.{bytes_eq}
use Rattle.sha1.specs.Sha1.{sha1}
use Rattle.ids.specs.Key.{Objects}
use Rattle.ids.specs.declared.key.Key.{Key}
use Rattle.ids.specs.declared.key.Kind.{Kind}
use Rattle.ids.specs.declared.key.Kind.TheVariants as kind
use Rattle.library_state.specs.declared.call.Op.TheVariants as op
use Rattle.library_state.specs.declared.reply.Reply.TheVariants as reply
use Rattle.object_graph.specs.Objects.{commit_in, fs_key}
use Rattle.object_graph.specs.Traversal.{is_in}
use Rattle.http_front.specs.declared.order.What.{What}
use Rattle.http_front.specs.declared.order.What.TheVariants as what
use Rattle.http_front.specs.declared.outcome.Outcome.TheVariants.{Plain, Packed}
use Rattle.http_front.specs.declared.row.Row.{Row}
use Rattle.remote_calls.specs.Sends.{Ending, Sent}

-- ---- what is named, and with which bytes

-- an object that is named, with its bytes where these were sent or got
abbrev pub Named : Type 0
Named = Key × Option (List ℕ)

abbrev pub row_named : Row → Named
row_named row = (fs_key row.id, Some row.bytes)

-- what an order names and sends
abbrev pub named_by : What → List Named
named_by (what.Put key bytes) = (key, Some bytes) ∷ []
named_by (what.PutFs rows) = map row_named rows
named_by (what.Missing kind ids) = map (λ id. (record { kind = kind; id = id }, None)) ids
named_by _ = []

-- what it was given
abbrev pub got_by : What → Ending → List Named
got_by (what.Get key) (Ok (Plain (reply.Got bytes) tag)) = (key, Some bytes) ∷ []
got_by (what.GetFs ids) (Ok (Packed rows)) = map row_named rows
got_by _ _ = []

abbrev pub got_in : Sent → List Named
got_in sent = got_by sent.0.what sent.1

-- whether this is the name of some bytes: the one that a commit tells in them, and of all else their SHA-1
abbrev pub is_name_of : Kind → (id bytes : List ℕ) → Bool
is_name_of kind.Commit id bytes = is_ok (commit_in id (Some bytes))
is_name_of kind.Fs id bytes = bytes_eq (sha1 bytes) id
is_name_of kind.Block id bytes = bytes_eq (sha1 bytes) id

abbrev pub has_name : Key → List ℕ → Bool
has_name key bytes = is_name_of key.kind key.id bytes

-- what was sent or got under another name isn't had
abbrev pub if_named : Named → Option Named
if_named (key, None) = Some (key, None)
if_named (key, Some bytes) = if has_name key bytes then Some (key, Some bytes) else None

abbrev pub names_in : Sent → List Named
names_in sent = filter_map if_named (named_by sent.0.what ++ got_in sent)

-- all that an order was given came under its name
abbrev pub IsNamedSo : Named → Type 0
IsNamedSo (key, None) = ⊤
IsNamedSo (key, Some bytes) = has_name key bytes ≡ true

abbrev pub GetsNamed : Sent → Type 0
GetsNamed sent = All IsNamedSo (got_in sent)

-- the bytes that the sync had for it: those that were sent or got, and for what was asked for by its name alone some with that
-- name
abbrev pub IsHadOf : Named → Key × List ℕ → Type 0
IsHadOf (key, Some bytes) had = had ≡ (key, bytes)
IsHadOf (key, None) had = (had.0 ≡ key) × (sha1 had.1 ≡ key.id)

abbrev pub IsHadFor : List Named → List (Key × List ℕ) → Type 0
IsHadFor [] [] = ⊤
IsHadFor (named ∷ more) (had ∷ others) = IsHadOf named had × IsHadFor more others
IsHadFor _ _ = ⊥

abbrev pub IsHad : List Sent → List (Key × List ℕ) → Type 0
IsHad sends had = IsHadFor (flat_map names_in sends) had

-- each of them is stored with these bytes
abbrev pub HasAll : Objects → List (Key × List ℕ) → Type 0
HasAll objects [] = ⊤
HasAll objects (had ∷ more) = (fin.get objects had.0 ≡ Some had.1) × HasAll objects more

-- what was got under its name is stored with these bytes. Nothing is said of what was only asked about, so this can be met over
-- every folder, also one that tells nothing
abbrev pub HasGot : Objects → List Sent → Type 0
HasGot objects sends = (key : Key) (bytes : List ℕ) → Contains (flat_map got_in sends) (key, Some bytes) → has_name key bytes ≡ true → fin.get objects key ≡ Some bytes

-- the list grew by these sends, and this was had for them
pub record Sends (old new more : List Sent) (had : List (Key × List ℕ)) : Type 0 where
  pub grown : new ≡ old ++ more
  pub had_them : IsHad more had

-- ---- the head

-- a head that was named, and the commit that was pushed for it
abbrev pub Head : Type 0
Head = List ℕ × Option (List ℕ)

abbrev pub head_after : What → Ending → Option Head → Option Head
head_after (what.Head asked) (Ok (Plain (reply.HeadIs id) tag)) before = Some (id, None)
head_after (what.Update pushed) (Ok (Plain (reply.Updated id) tag)) before = Some (id, Some pushed)
head_after _ _ before = before

-- the head that the last reply of its kind named
abbrev pub last_head : List Sent → Option Head → Option Head
last_head [] before = before
last_head (sent ∷ more) before = last_head more (head_after sent.0.what sent.1 before)

-- the last order asked the library to stand at this commit: nothing was sent behind it
abbrev pub EndsAtUpdate : List Sent → (id : List ℕ) → Type 0
EndsAtUpdate more id = (before : List Sent) × (sent : Sent) × (more ≡ before ++ sent ∷ []) × (sent.0.what ≡ what.Update id)

-- the head that was asked since the last upload check, which begins a round
abbrev pub asked_after : What → Ending → Option (List ℕ) → Option (List ℕ)
asked_after (what.Check op.Upload) ending before = None
asked_after (what.Head asked) (Ok (Plain (reply.HeadIs id) tag)) before = Some id
asked_after _ _ before = before

abbrev pub asked_head : List Sent → Option (List ℕ) → Option (List ℕ)
asked_head [] before = before
asked_head (sent ∷ more) before = asked_head more (asked_after sent.0.what sent.1 before)

-- ---- which objects are asked about, sent, lacked and asked for

-- those that are sent or asked about
abbrev pub keys_named : List Sent → List Key
keys_named sends = map (λ (named : Named). named.0) (flat_map (λ (sent : Sent). named_by sent.0.what) sends)

-- texts of some of them, each under its own name: what a call had for names that it sent or asked about
pub record AreTextsOf (sends : List Sent) (texts : Objects) : Type 0 where
  pub named : (key : Key) (bytes : List ℕ) → fin.get texts key ≡ Some bytes → is_in (keys_named sends) key ≡ true
  pub own : (key : Key) (bytes : List ℕ) → fin.get texts key ≡ Some bytes → has_name key bytes ≡ true

-- those that are sent
abbrev pub put_by : What → List Key
put_by (what.Put key bytes) = key ∷ []
put_by (what.PutFs rows) = map (λ (row : Row). fs_key row.id) rows
put_by _ = []

abbrev pub keys_put : List Sent → List Key
keys_put sends = flat_map (λ (sent : Sent). put_by sent.0.what) sends

-- those that the library told to lack
abbrev key_of : Kind → List ℕ → Key
key_of kind id = record { kind = kind; id = id }

abbrev pub lacked_by : What → Ending → List Key
lacked_by (what.Missing kind ids) (Ok (Plain (reply.Absent absent) tag)) = map (key_of kind) absent
lacked_by _ _ = []

abbrev pub keys_lacked : List Sent → List Key
keys_lacked sends = flat_map (λ (sent : Sent). lacked_by sent.0.what sent.1) sends

-- those that are asked for
abbrev pub asked_by : What → List Key
asked_by (what.Get key) = key ∷ []
asked_by (what.GetFs ids) = map fs_key ids
asked_by _ = []

abbrev pub keys_asked : List Sent → List Key
keys_asked sends = flat_map (λ (sent : Sent). asked_by sent.0.what) sends

-- ---- rounds

-- an upload check begins a round
abbrev pub begins_round : What → Bool
begins_round (what.Check op.Upload) = true
begins_round _ = false

abbrev pub round_after : List Sent → Sent → List Sent
round_after round sent = if begins_round sent.0.what then [] else round ++ sent ∷ []

-- what was sent in the last round, behind its check
abbrev pub last_round : List Sent → List Sent → List Sent
last_round [] round = round
last_round (sent ∷ more) round = last_round more (round_after round sent)

-- ---- orders by kind

-- those that ask what one may do
abbrev pub is_check : What → Bool
is_check (what.Check op) = true
is_check _ = false

-- those that ask for objects
abbrev pub is_get : What → Bool
is_get (what.Get key) = true
is_get (what.GetFs ids) = true
is_get _ = false

-- those that ask for a part of a tree
abbrev pub is_of_tree : Kind → Bool
is_of_tree kind.Commit = false
is_of_tree kind.Fs = true
is_of_tree kind.Block = true

abbrev pub gets_tree : What → Bool
gets_tree (what.Get key) = is_of_tree key.kind
gets_tree (what.GetFs ids) = true
gets_tree _ = false

abbrev pub is_block : Kind → Bool
is_block kind.Commit = false
is_block kind.Fs = false
is_block kind.Block = true

-- those that send something, or ask what is to be sent
abbrev pub is_upload : What → Bool
is_upload (what.Missing kind ids) = true
is_upload (what.Put key bytes) = true
is_upload (what.PutFs rows) = true
is_upload (what.Update commit) = true
is_upload _ = false

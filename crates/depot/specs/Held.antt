-- Which keys the index knows after a call, and which answers tell that it lacks one. Our own. Read IndexSo and TellsMissing; the words
-- after them are for private clauses.
use Rattle.std.specs.Prelude.{◌≡◌, ◌||◌, not, ℕ, true, false, filter, is_some, List, [], ◌∷◌, Option}
use Rattle.std.specs.FinMap as map
use Rattle.std.specs.List.{list_any}
use Rattle.ids.specs.declared.key.Key.{Key}
use Rattle.library_state.specs.declared.call.Act.{Act}
use Rattle.library_state.specs.declared.call.Act.TheVariants as act
use Rattle.library_state.specs.declared.refusal.Refusal.TheVariants as refusal
use Rattle.library_state.specs.declared.reply.Reply.{Reply}
use Rattle.library_state.specs.declared.reply.Reply.TheVariants as reply
use Rattle.library_state.specs.declared.reply.Reply.TheVariants.{Stored}
use Rattle.object_graph.specs.Objects.{same_id}
use Rattle.object_graph.specs.Traversal.{is_in}
use Rattle.object_store.specs.StoreView.{Index}

-- after a put that was answered so: the keys from before and, where the object is new, its key, which wasn't known
abbrev pub HoldsPut : Key → Reply → Index → Index → Type 0
HoldsPut key (Stored true) old new = (is_some (map.get old key) ≡ false) × ((k : Key) → is_some (map.get new k) ≡ (is_some (map.get old k) || is_in (key ∷ []) k))
HoldsPut key (Stored false) old new = (is_some (map.get old key) ≡ true) × (new ≡ old)
HoldsPut key other old new = new ≡ old

-- the keys from before, and maybe more
abbrev pub HoldsStill : Index → Index → Type 0
HoldsStill old new = (key : Key) → is_some (map.get old key) ≡ true → is_some (map.get new key) ≡ true

-- after a call that was answered so: a put may add its key, an update keeps each key, and every other call leaves the index
abbrev pub IndexSo : Act → Reply → Index → Index → Type 0
IndexSo (act.Check o) r old new = new ≡ old
IndexSo act.Head r old new = new ≡ old
IndexSo (act.Get key) r old new = new ≡ old
IndexSo (act.Put key bytes) r old new = HoldsPut key r old new
IndexSo (act.Missing k ids) r old new = new ≡ old
IndexSo (act.Update pushed) r old new = HoldsStill old new
IndexSo (act.Limit days) r old new = new ≡ old
IndexSo (act.Ids server client) r old new = new ≡ old

-- the answer tells that nothing is stored under the key: it is refused to one who gets it, told absent to one who asks what is
-- missing, and an update or a list that needs it is refused as incomplete
pub data TellsMissing (key : Key) (a : Act) (r : Reply) : Type 0 where
  got : a ≡ act.Get key → r ≡ reply.Refused (refusal.NoObject key) → TellsMissing key a r
  absent : (ids found : List (List ℕ)) → a ≡ act.Missing key.kind ids → r ≡ reply.Absent found → list_any (same_id key.id) found ≡ true → TellsMissing key a r
  needed : (pushed : List ℕ) → a ≡ act.Update pushed → r ≡ reply.Refused (refusal.Incomplete key) → TellsMissing key a r
  needed_by : (server : List ℕ) (client : Option (List ℕ)) → a ≡ act.Ids server client → r ≡ reply.Refused (refusal.Incomplete key) → TellsMissing key a r

-- the keys from before, and some of these
pub record HoldsMore (keys : List Key) (old new : Index) : Type 0 where
  pub stays : (key : Key) → is_some (map.get old key) ≡ true → is_some (map.get new key) ≡ true
  pub came : (key : Key) → is_some (map.get new key) ≡ true → is_some (map.get old key) ≡ false → is_in keys key ≡ true

-- all of these
pub record KnowsAll (keys : List Key) (index : Index) : Type 0 where
  pub each : (key : Key) → is_in keys key ≡ true → is_some (map.get index key) ≡ true

-- those of the keys that the index lacks
abbrev pub lacking : Index → List Key → List Key
lacking index keys = filter (λ key. not (is_some (map.get index key))) keys

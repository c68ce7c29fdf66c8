-- What a library that is kept answers, and what a call leaves of it. Our own. Read AnswersSo, then decided and MayAnswer,
-- then SlotSo; what is left of the state is in NextState.
use Rattle.std.specs.Prelude.{◌≡◌, ◌≢◌, ◌⊎◌, ℕ, Bool, true, false, List, [], Option, None, Some, is_some, filter, not, IsSome, IsNone, IsTrue, ⊤}
use Rattle.std.specs.FinMap as map
use Rattle.ids.specs.Key.{Objects}
use Rattle.ids.specs.declared.key.Key.{Key}
use Rattle.ids.specs.declared.key.Kind.{Kind}
use Rattle.library_rules.specs.Calls.{ids_of, keys_of, may, token_of}
pub use Rattle.library_rules.specs.Calls.{act_decided, decided, ids_decided, put_decided, token_decided, update_decided}
use Rattle.library_rules.specs.Changes.{is_refused}
use Rattle.library_rules.specs.History.{Permits, StepSo, lone}
use Rattle.library_rules.specs.LibraryState.{State}
use Rattle.library_rules.specs.declared.entry.Entry.{Entry}
use Rattle.library_rules.specs.declared.entry.Step.TheVariants.{Asked}
use Rattle.library_rules.specs.declared.entry.Stored.{Stored}
use Rattle.library_state.specs.declared.call.Act.{Act}
use Rattle.library_state.specs.declared.call.Act.TheVariants as act
use Rattle.library_state.specs.declared.call.Call.{Call}
use Rattle.library_state.specs.declared.refusal.Refusal.{Refusal}
use Rattle.library_state.specs.declared.refusal.Refusal.TheVariants as refusal
use Rattle.library_state.specs.declared.reply.Reply.{Reply}
use Rattle.library_state.specs.declared.reply.Reply.TheVariants as reply
use Rattle.library_state.specs.declared.state.LibState.{LibState}
use Rattle.library_state.specs.declared.token.Token.{Token}
use Rattle.object_graph.specs.Objects.{is_nil}
use Rattle.object_graph.specs.Traversal.{distinct_from}
use Rattle.object_store.specs.Shelf.{Contents}
use Rattle.object_store.specs.Store.{GivesOther, IsDamage, IsWhole}
use Rattle.object_store.specs.StoreView.{AddsNoStray, Index, objects_of, status_of}
use Rattle.object_store.specs.declared.error.StoreFault.{StoreFault}
use Rattle.object_store.specs.declared.shelf.Slot.{Slot as ShelfSlot}
use Rattle.object_store.specs.declared.shelf.Slot.TheVariants.{Object}
use Rattle.tree_merge.specs.TreeBuilding.{IsCollision}
use Rattle.depot.specs.Changing.{IsPlaceOf}
use Rattle.depot.specs.DepotView.{DepotView, state_of}
use Rattle.depot.specs.FreshKeys.{RunsOn, told_there}
pub use Rattle.depot.specs.NextState.{next_by, next_state, state_after, with_install}
use Rattle.depot.specs.ObjectCalls.{Counts, IsToldDamage, is_counted}
use Rattle.depot.specs.Refusals.{store_refusal}
use Rattle.depot.specs.Writing.{IsWritten, LeftBy, Slot, settled}

-- the answer is permitted, and what is left is what it leaves by these entries of the history: the same state by none, or
-- the one after its one entry
pub record AnswersSo (s : State) (call : Call) (moment : ℕ) (r : Reply) (changes : List Entry) (after : Option State) : Type 0 where
  pub state : State
  pub left : after ≡ Some state
  pub step : StepSo s (Asked call) moment r state changes

-- the same by some entries
abbrev pub AnswersBySome : State → Call → ℕ → Reply → Option State → Type 0
AnswersBySome s call moment r after = (changes : List Entry) × AnswersSo s call moment r changes after

-- whether a token may do this
abbrev pub permits : Option Token → Act → Bool
permits None a = false
permits (Some token) a = may token a

-- the token of the secret stands at this place, and its right is enough for the act
pub record MayAsk (tokens : List Token) (secret : Option (List ℕ)) (a : Act) (place : ℕ) : Type 0 where
  pub digits : List ℕ
  pub shown : secret ≡ Some digits
  pub at : IsPlaceOf tokens digits place
  pub right : permits (token_of tokens secret) a ≡ true

-- ---- over any shelf: which answers may come, and the cause of each fault

-- a failure of the shelf, and want of memory
abbrev pub is_free_refusal : Refusal → Bool
is_free_refusal refusal.Store = true
is_free_refusal refusal.NoMemory = true
is_free_refusal other = false

abbrev pub is_free_reply : Reply → Bool
is_free_reply (reply.Refused why) = is_free_refusal why
is_free_reply other = false

-- a fault in the place of an answer: damage comes only where the shelf may give such bytes, which have another name, or none
abbrev pub MayFail : (ShelfSlot → Option (List ℕ) → Type 0) → Refusal → Type 0
MayFail may_give refusal.Store = ⊤
MayFail may_give refusal.NoMemory = ⊤
MayFail may_give (refusal.Damaged want got) = (got ≢ Some want) × (key : Key) × IsDamage may_give key want got
MayFail may_give other = ⊥

-- the shelf may give other bytes for a key of this id
pub record IsGivenOther (may_give : ShelfSlot → Option (List ℕ) → Type 0) (id : List ℕ) : Type 0 where
  pub key : Key
  pub named : id ≡ key.id
  pub bytes : List ℕ
  pub other : GivesOther may_give key bytes

-- an object that a merge makes can't be stored under this id: it has forty zeros, or two things have it
abbrev pub IsTakenBy : (ShelfSlot → Option (List ℕ) → Type 0) → List ℕ → Type 0
IsTakenBy may_give id = (is_nil id ≡ true) ⊎ (IsCollision id ⊎ IsGivenOther may_give id)

module _ (index : Index) where
  -- ---- objects, of which the index knows each that is stored

  -- a fault of a call that reads this key alone
  abbrev pub MayFailAt : (ShelfSlot → Option (List ℕ) → Type 0) → Key → Refusal → Type 0
  MayFailAt may_give key refusal.Store = ⊤
  MayFailAt may_give key refusal.NoMemory = ⊤
  MayFailAt may_give key (refusal.Damaged want got) = (got ≢ Some want) × IsSome (map.get index key) × IsDamage may_give key want got
  MayFailAt may_give key other = ⊥

  -- an object isn't there exactly where the index lacks its key, and bytes that are given are under their own name
  abbrev pub MayRefuseGet : (ShelfSlot → Option (List ℕ) → Type 0) → Key → Refusal → Type 0
  MayRefuseGet may_give key (refusal.NoObject other) = (other ≡ key) × IsNone (map.get index key)
  MayRefuseGet may_give key why = MayFailAt may_give key why

  abbrev pub MayGet : (ShelfSlot → Option (List ℕ) → Type 0) → Key → Reply → Type 0
  MayGet may_give key (reply.Got bytes) = IsSome (map.get index key) × IsWhole may_give key (Some bytes)
  MayGet may_give key (reply.Refused why) = MayRefuseGet may_give key why
  MayGet may_give key other = ⊥

  -- the key is taken where the shelf may give other bytes
  abbrev pub MayRefusePut : (ShelfSlot → Option (List ℕ) → Type 0) → Key → List ℕ → Refusal → Type 0
  MayRefusePut may_give key bytes (refusal.Taken id) = (id ≡ key.id) × IsSome (map.get index key) × GivesOther may_give key bytes
  MayRefusePut may_give key bytes why = MayFailAt may_give key why

  -- an object is new exactly where the index lacked its key
  abbrev pub MayPut : (ShelfSlot → Option (List ℕ) → Type 0) → Key → List ℕ → Reply → Type 0
  MayPut may_give key bytes (reply.Stored true) = IsNone (map.get index key)
  MayPut may_give key bytes (reply.Stored false) = IsSome (map.get index key) × may_give (Object key) (Some bytes)
  MayPut may_give key bytes (reply.Refused why) = MayRefusePut may_give key bytes why
  MayPut may_give key bytes other = ⊥

  -- the ids of which the index lacks the keys, in the order asked, each once; forty zeros are never among them
  abbrev pub unknown : Kind → List (List ℕ) → List (List ℕ)
  unknown k ids = ids_of (distinct_from [] (filter (λ key. not (is_some (map.get index key))) (keys_of k ids)))

  -- just these are told, or memory is wanted
  abbrev pub MayTell : Kind → List (List ℕ) → Reply → Type 0
  MayTell k ids (reply.Absent found) = found ≡ unknown k ids
  MayTell k ids (reply.Refused why) = why ≡ refusal.NoMemory
  MayTell k ids other = ⊥

  -- ---- trees

  -- the first thing that is wrong with stored objects; a key is told as incomplete only where the index lacks it
  abbrev pub MayRefuseTree : (ShelfSlot → Option (List ℕ) → Type 0) → Refusal → Type 0
  MayRefuseTree may_give (refusal.Incomplete key) = IsNone (map.get index key)
  MayRefuseTree may_give (refusal.Unreadable key) = ⊤
  MayRefuseTree may_give (refusal.WrongKind id) = ⊤
  MayRefuseTree may_give (refusal.WrongSize id) = ⊤
  MayRefuseTree may_give (refusal.TooDeep path) = ⊤
  MayRefuseTree may_give (refusal.TooMany paths) = ⊤
  MayRefuseTree may_give why = MayFail may_give why

  abbrev pub MayList : (ShelfSlot → Option (List ℕ) → Type 0) → Reply → Type 0
  MayList may_give (reply.Listed ids) = ⊤
  MayList may_give (reply.Refused why) = MayRefuseTree may_give why
  MayList may_give other = ⊥

  -- the same, and what the search for the merge base and the merge refuse
  abbrev pub MayRefuseUpdate : (ShelfSlot → Option (List ℕ) → Type 0) → Refusal → Type 0
  MayRefuseUpdate may_give (refusal.Unrelated steps) = ⊤
  MayRefuseUpdate may_give (refusal.TooLong path size) = ⊤
  MayRefuseUpdate may_give (refusal.Taken id) = IsTakenBy may_give id
  MayRefuseUpdate may_give why = MayRefuseTree may_give why

  abbrev pub MayUpdate : (ShelfSlot → Option (List ℕ) → Type 0) → Reply → Type 0
  MayUpdate may_give (reply.Updated id) = ⊤
  MayUpdate may_give (reply.Refused why) = MayRefuseUpdate may_give why
  MayUpdate may_give other = ⊥

  -- ---- all acts

  -- the answer to an act that the objects decide
  abbrev pub MayDo : (ShelfSlot → Option (List ℕ) → Type 0) → Act → Reply → Type 0
  MayDo may_give (act.Check o) r = ⊥
  MayDo may_give act.Head r = ⊥
  MayDo may_give (act.Get key) r = MayGet may_give key r
  MayDo may_give (act.Put key bytes) r = MayPut may_give key bytes r
  MayDo may_give (act.Missing k ids) r = MayTell k ids r
  MayDo may_give (act.Update commit) r = MayUpdate may_give r
  MayDo may_give (act.Limit days) r = ⊥
  MayDo may_give (act.Ids server client) r = MayList may_give r

  -- the answer is the one that the state decides, unless the shelf or memory failed; or one that the act may have
  abbrev pub MayAnswer : (ShelfSlot → Option (List ℕ) → Type 0) → Act → Option Reply → Reply → Type 0
  MayAnswer may_give a (Some said) r = (r ≡ said) ⊎ IsTrue (is_free_reply r)
  MayAnswer may_give a None r = MayDo may_give a r

-- ---- the state text

-- a call may be answered so, with these objects more
abbrev pub MayAnswerSo : State → Call → ℕ → Reply → Type 0
MayAnswerSo s call moment said = (added : List Stored) × Permits s (record (lone s (Asked call) moment said) { added = added })

-- what the slot holds after an answer. Nothing was written where the state stays, so the count of texts that were put does
-- too; the text of another state that is left,
-- after the present one where that was open; or, after a failure of the shelf, it is open whether the present text stands
-- or that of another state, which the call would have made by an answer that it could have; and after want of memory the
-- present one alone
pub data SlotSo (would : Reply → Type 0) (call : Call) (moment : ℕ) (r : Reply) (unsettled : Bool) (present : LibState) (old : Slot) (still : Bool) (after : LibState) (new : Slot) (before now : ℕ) : Type 0 where
  unwritten : after ≡ present → still ≡ unsettled → new ≡ old → now ≡ before → SlotSo would call moment r unsettled present old still after new before now
  rewritten : is_refused r ≡ false → after ≢ present → still ≡ false → IsWritten after (settled unsettled present old) new → SlotSo would call moment r unsettled present old still after new before now
  refused : (fault : StoreFault) → r ≡ reply.Refused (store_refusal fault) → (said : Reply) → is_refused said ≡ false → would said
      → next_state present call moment said ≢ present
      → LeftBy fault unsettled present (next_state present call moment said) old still new
      → SlotSo would call moment r unsettled present old still after new before now

-- an answer that a library which is told could give
abbrev pub Would : {S : Type 0} → (S → Option Contents) → (S → ℕ) → DepotView S → Call → ℕ → Reply → Type 0
Would contents faults old call moment said = (s : State) → state_of contents faults old ≡ Some s → MayAnswerSo s call moment said

-- ---- all of it

-- what a call answers and leaves
pub record Serves {S : Type 0} (contents : S → Option Contents) (may_give : S → ShelfSlot → Option (List ℕ) → Type 0) (texts faults : S → ℕ) (old : DepotView S)
    (call : Call) (moment : ℕ) (r : Reply) (new : DepotView S) : Type 0 where
  pub told : (s : State) → state_of contents faults old ≡ Some s → AnswersBySome s call moment r (state_of contents faults new)
  pub may_come : MayAnswer old.store.index (may_give new.store.shelf) call.act (decided old.state call) r
  pub damage : (objects : Objects) → objects_of contents old.store ≡ Some objects → IsToldDamage objects r
  pub count : Counts (faults old.store.shelf) (faults new.store.shelf) r
  pub left : new.state ≡ state_after old.state call moment r
  pub fresh : RunsOn old.store.index new.store.index (told_there old.store.index call.act r) old.running new.running
  pub marked : new.marked ≡ old.marked
  pub lying : is_counted r ≡ false → AddsNoStray contents old.store new.store
  pub slot : SlotSo (Would contents faults old call moment) call moment r old.unsettled old.state (status_of contents old.store) new.unsettled new.state (status_of contents new.store)
      (texts old.store.shelf) (texts new.store.shelf)

-- each call that asks this of one who may is served so
abbrev pub ServesAct : {S : Type 0} → (S → Option Contents) → (S → ShelfSlot → Option (List ℕ) → Type 0) → (texts faults : S → ℕ) → DepotView S → Act → Reply → DepotView S → Type 0
ServesAct contents may_give texts faults old a r new =
    (call : Call) (moment : ℕ) → permits (token_of old.state.tokens call.secret) call.act ≡ true → call.act ≡ a → Serves contents may_give texts faults old call moment r new

-- each such call by the token at this place, at this moment
abbrev pub ServesAt : {S : Type 0} → (S → Option Contents) → (S → ShelfSlot → Option (List ℕ) → Type 0) → (texts faults : S → ℕ) → DepotView S → ℕ → Act → ℕ
    → Reply → DepotView S → Type 0
ServesAt contents may_give texts faults old place a moment r new =
    (call : Call) → MayAsk old.state.tokens call.secret call.act place → call.act ≡ a → Serves contents may_give texts faults old call moment r new

-- Faults of a store and of a reading as refusals. The key lemmas are store_told, none_due, one_due, walk_not_damaged,
-- walk_needed, free_needed, refused_lays, walked_cause, may_refuse and counted_alike.
use Rattle.std.proofs.Common.{◌≡◌, ◌⊎◌, inl, inr, ℕ, true, true≢false, List, refl, sym, ap, subst, Option, None, Some, is_some, IsTrue}
use Rattle.ids.specs.Key.{Objects}
use Rattle.ids.specs.declared.key.Key.{Key}
use Rattle.library_rules.specs.LibraryState.{State, is_needed}
use Rattle.library_rules.specs.MergeBase.{refusal_of}
use Rattle.library_state.specs.declared.refusal.Refusal.{Refusal}
use Rattle.library_state.specs.declared.refusal.Refusal.TheVariants as refusal
use Rattle.object_graph.specs.declared.fault.TreeFault.{TreeFault}
use Rattle.object_graph.specs.declared.fault.TreeFault.TheVariants as tree
use Rattle.object_store.specs.Store.{is_free, is_of_shelf}
use Rattle.object_store.specs.StoreView.{Index}
use Rattle.object_store.specs.declared.error.StoreFault.{StoreFault}
use Rattle.object_store.specs.declared.error.StoreFault.TheVariants as store
use Rattle.object_store.specs.declared.shelf.Slot.{Slot}
use Rattle.collector.specs.Marking.{IsDamageOfNeeded}
use Rattle.collector.specs.Marks.{needed_by}
use Rattle.tree_walk.specs.Reading.{IsCause, IsDue, IsReadFault, IsStoreDue, is_counted}
use Rattle.tree_walk.specs.declared.fault.WalkFault.{WalkFault}
use Rattle.tree_walk.specs.declared.fault.WalkFault.TheVariants as walk
use Rattle.depot.specs.CollectionTurns.{IsToldNeeded, MayLayIn}
use Rattle.depot.specs.Answering.{MayRefuseTree, MayRefuseUpdate}
use Rattle.depot.specs.Giving.{GivesBy, IsOfSweep}
use Rattle.depot.specs.ObjectCalls.{IsToldDamageOf, IsToldRefusal, is_of_store}
use Rattle.depot.specs.Refusals.{store_refusal, walk_refusal}
use Rattle.depot.specs.declared.turn.Turn.TheVariants.{Refused}
use Rattle.depot.proofs.AnsweringLemmas.{damage_other}

-- ---- of a store

pub store_told : (objects : Objects) (fault : StoreFault) → IsStoreDue objects fault → IsToldRefusal objects (store_refusal fault)
store_told objects (store.Damaged want got) is = is
store_told objects other is = is

-- a free fault is one of the store's that may come in any place
pub free_told : (o : Objects) (fault : StoreFault) → IsTrue (is_free fault) → IsToldRefusal o (store_refusal fault)
free_told o store.Shelf free = tt
free_told o store.NoMemory free = tt
free_told o other free = absurd (true≢false (sym free))

pub counted_same : (fault : StoreFault) → is_of_shelf fault ≡ is_of_store (store_refusal fault)
counted_same store.Shelf = refl
counted_same other = refl

-- ---- of a reading

-- where no fault is due
pub none_due : (objects : Objects) (fault : WalkFault) → IsDue objects None fault → IsToldRefusal objects (walk_refusal fault)
none_due objects (walk.Store fault) is = store_told objects fault is
none_due objects other is = cc

-- where one is due
pub one_due : (objects : Objects) (due : TreeFault) (fault : WalkFault) → IsDue objects (Some due) fault
    → (refusal_of due ≡ walk_refusal fault) ⊎ IsToldRefusal objects (walk_refusal fault)
one_due objects due (walk.Incomplete key) is = let same : due ≡ tree.Incomplete key = cc in inl (ap refusal_of same)
one_due objects due (walk.Unreadable key) is = let same : due ≡ tree.Unreadable key = cc in inl (ap refusal_of same)
one_due objects due (walk.WrongKind id) is = let same : due ≡ tree.WrongKind id = cc in inl (ap refusal_of same)
one_due objects due (walk.WrongSize id) is = let same : due ≡ tree.WrongSize id = cc in inl (ap refusal_of same)
one_due objects due (walk.TooDeep path) is = let same : due ≡ tree.TooDeep path = cc in inl (ap refusal_of same)
one_due objects due (walk.TooMany paths) is = let same : due ≡ tree.TooMany paths = cc in inl (ap refusal_of same)
one_due objects due (walk.Store fault) is = inr (store_told objects fault is)

pub told_damage : (objects : Objects) (why : Refusal) → IsToldRefusal objects why → IsToldDamageOf objects why
told_damage objects (refusal.Damaged want got) is = is
told_damage objects other is = tt

-- the first fault of a commit isn't damage, unless the store tells it
pub walk_not_damaged : (objects : Objects) (o : Option TreeFault) (fault : WalkFault) → IsDue objects o fault → IsToldDamageOf objects (walk_refusal fault)
walk_not_damaged objects o (walk.Store fault) is = told_damage objects (store_refusal fault) (store_told objects fault is)
walk_not_damaged objects o other is = tt

-- ---- the object of a refused turn

-- damage of what commits need is that of what is needed
pub walk_needed : (s : State) (keys : List Key) (commits : List (List ℕ)) (fault : WalkFault)
    → ((key : Key) → needed_by s.objects commits key ≡ true → is_needed s.objects s.state.kept key ≡ true) → IsDamageOfNeeded s.objects commits fault
    → IsToldNeeded s (Refused (walk_refusal fault) keys)
walk_needed s keys commits (walk.Store (store.Damaged want got)) each (key, damage, needed, read) = (key, damage, each key needed, read)
walk_needed s keys commits (walk.Store other) each is = tt
walk_needed s keys commits other each is = tt

-- a failure of the shelf and want of memory tell none
pub free_needed : (s : State) (keys : List Key) (fault : StoreFault) → IsTrue (is_free fault) → IsToldNeeded s (Refused (store_refusal fault) keys)
free_needed s keys (store.Damaged want got) free = cc
free_needed s keys other free = tt

-- a turn that they end lays what a sweep does
pub refused_lays : (lib : List ℕ) (why : Refusal) (keys : List Key) (fault : StoreFault) (before now : Slot → Option (List ℕ) → Type 0) → why ≡ store_refusal fault → IsTrue (is_free fault)
    → GivesBy (IsOfSweep lib keys) before now → GivesBy (MayLayIn lib (Refused why keys)) before now
refused_lays lib why keys fault before now refusal free gives = subst (λ (w : Refusal). GivesBy (MayLayIn lib (Refused w keys)) before now) (sym refusal) (by fault free)
  where
    by : (f : StoreFault) → IsTrue (is_free f) → GivesBy (MayLayIn lib (Refused (store_refusal f) keys)) before now
    by store.Shelf is = gives
    by store.NoMemory is = gives
    by other is = absurd (true≢false (sym is))

-- ---- over any shelf

module _ (index : Index) (may_give : Slot → Option (List ℕ) → Type 0) where
  store_cause : (fault : StoreFault) → IsReadFault index may_give fault → MayRefuseTree index may_give (store_refusal fault)
  store_cause (store.Taken id) is = absurd is
  store_cause (store.Wrong id) is = absurd is
  store_cause (store.Damaged want got) is = (damage_other may_give is.key want got is.damage, is.key, is.damage)
  store_cause store.Shelf is = tt
  store_cause store.NoMemory is = tt

  -- a fault of a reading may refuse a list
  pub walked_cause : (fault : WalkFault) → IsCause index may_give fault → MayRefuseTree index may_give (walk_refusal fault)
  walked_cause (walk.Incomplete key) is = ap is_some is
  walked_cause (walk.Store fault) is = store_cause fault is
  walked_cause other is = tt

  tree_updates : (why : Refusal) → MayRefuseTree index may_give why → MayRefuseUpdate index may_give why
  tree_updates (refusal.Unrelated steps) is = tt
  tree_updates (refusal.TooLong path size) is = tt
  tree_updates (refusal.Taken id) is = absurd is
  tree_updates other is = is

  -- and an update
  pub may_refuse : (fault : WalkFault) → IsCause index may_give fault → MayRefuseUpdate index may_give (walk_refusal fault)
  may_refuse fault is = tree_updates (walk_refusal fault) (walked_cause fault is)

pub counted_alike : (fault : WalkFault) → is_counted fault ≡ is_of_store (walk_refusal fault)
counted_alike (walk.Store fault) = counted_same fault
counted_alike other = refl

-- The fault of a traversal as that of a check. The key lemmas are checked_fault and cause_before.
use Rattle.std.proofs.Common.{◌≡◌, ℕ, List, refl, Option, Err}
use Rattle.library_state.specs.declared.state.LibState.{LibState}
use Rattle.ids.specs.Key.{Objects}
use Rattle.object_graph.specs.declared.fault.TreeFault.{TreeFault}
use Rattle.object_store.specs.Shelf.{GivesNoMore}
use Rattle.object_store.specs.StoreView.{Index}
use Rattle.object_store.specs.declared.error.StoreFault.{StoreFault}
use Rattle.object_store.specs.declared.error.StoreFault.TheVariants.{Damaged}
use Rattle.object_store.specs.declared.shelf.Slot.{Slot}
use Rattle.object_store.specs.declared.shelf.Slot.TheVariants.{Object}
use Rattle.tree_walk.specs.Reading.{IsCause, IsDue, IsReadFault as IsWalkReadFault, IsStoreDue, is_counted}
use Rattle.tree_walk.specs.declared.fault.WalkFault.{WalkFault}
use Rattle.tree_walk.specs.declared.fault.WalkFault.TheVariants as walk
use Rattle.depot.specs.Start.{ChecksSo, IsCheckFault, IsReadFault, IsStateFault, IsToldFault, check_fault_of, is_check_counted}
use Rattle.depot.specs.declared.complete.CheckFault.{CheckFault}
use Rattle.depot.specs.declared.complete.CheckFault.TheVariants as check
use Rattle.depot.specs.declared.error.StartFault.{StartFault}
use Rattle.depot.specs.declared.error.StartFault.TheVariants as start

store_due : (objects : Objects) (fault : StoreFault) → IsStoreDue objects fault → IsToldFault objects fault
store_due objects (Damaged want got) is = is
store_due objects other is = is

-- the fault that is due, or one of the store
pub checked_fault : (objects : Objects) (due : Option TreeFault) (fault : WalkFault) → IsDue objects due fault → ChecksSo objects due (Err (check_fault_of fault))
checked_fault objects due (walk.Store fault) is = store_due objects fault is
checked_fault objects due other is = is

read_cause : (index : Index) (may_give : Slot → Option (List ℕ) → Type 0) (fault : StoreFault) → IsWalkReadFault index may_give fault → IsReadFault may_give fault
read_cause index may_give (Damaged want got) is = (is.key, is.damage)
read_cause index may_give other is = is

-- its cause
pub checked_cause : (index : Index) (may_give : Slot → Option (List ℕ) → Type 0) (fault : WalkFault) → IsCause index may_give fault → IsCheckFault may_give (check_fault_of fault)
checked_cause index may_give (walk.Store fault) is = read_cause index may_give fault is
checked_cause index may_give other is = tt

-- what a shelf may give after a call that reads it might give before
pub damage_before : {before now : Slot → Option (List ℕ) → Type 0} (fault : StoreFault) → GivesNoMore before now → IsReadFault now fault → IsReadFault before fault
damage_before (Damaged want got) gives (key, damage) =
    (key, record { given = damage.given; gives = gives (Object key) damage.given damage.gives; named = damage.named; other = damage.other })
damage_before other gives is = is

pub cause_before : {before now : Slot → Option (List ℕ) → Type 0} (fault : CheckFault) → GivesNoMore before now → IsCheckFault now fault → IsCheckFault before fault
cause_before (check.Tree fault) gives is = tt
cause_before (check.Store fault) gives is = damage_before fault gives is

pub start_before : {before now : Slot → Option (List ℕ) → Type 0} (state : LibState) (fault : StartFault) → GivesNoMore before now → IsStateFault state now fault → IsStateFault state before fault
start_before state (start.Store fault) gives is = damage_before fault gives is
start_before state other gives is = is

-- and the count
pub checked_count : (fault : WalkFault) → is_check_counted (check_fault_of fault) ≡ is_counted fault
checked_count (walk.Store fault) = refl
checked_count other = refl

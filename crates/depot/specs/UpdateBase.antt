-- How the merge base of a pushed commit is looked for. Our own. Read LooksSo and FindsSo.
use Rattle.std.specs.Prelude.{◌≡◌, ◌⊎◌, ℕ, true, false, List, Option, None, Some, Result, Ok, Err}
use Rattle.ids.specs.FaultCount.{FailsBy}
use Rattle.ids.specs.Key.{Objects}
use Rattle.commit_objects.specs.declared.commit.Commit.{Commit}
use Rattle.library_rules.specs.LibraryState.{is_kept}
use Rattle.library_rules.specs.MergeBase.{Based, Base, NoBase}
use Rattle.library_state.specs.declared.history.Install.{Install}
use Rattle.library_state.specs.declared.refusal.Refusal.{Refusal}
use Rattle.library_state.specs.declared.refusal.Refusal.TheVariants as refusal
use Rattle.object_graph.specs.Objects.{commit_at}
use Rattle.object_store.specs.Shelf.{Contents, GivesNoMore}
use Rattle.object_store.specs.StoreView.{Keeps, StoreView}
use Rattle.object_store.specs.declared.shelf.Slot.{Slot}
use Rattle.tree_walk.specs.Reading.{AnswersRead}
use Rattle.tree_walk.specs.declared.fault.WalkFault.{WalkFault}
use Rattle.depot.specs.ObjectCalls.{IsToldRefusal, is_of_store}
use Rattle.depot.specs.declared.update_base.Found.{Found}
use Rattle.depot.specs.declared.update_base.Found.TheVariants as found
use Rattle.depot.specs.declared.update_base.Look.{Look}
use Rattle.depot.specs.Refusals.{walk_refusal}
use Rattle.depot.specs.declared.update_base.Look.TheVariants as look

-- a call that may be refused reads: nothing that the store holds is changed, the shelf may give no more, no text is put, and
-- the shelf's count of faults rose where it failed, and stays else
pub record ReadsOnly {S T : Type 0} (contents : S → Option Contents) (may_give : S → Slot → Option (List ℕ) → Type 0) (texts faults : S → ℕ) (old new : StoreView S) (result : Result T Refusal) : Type 0 where
  pub kept : Keeps contents old new
  pub gives : GivesNoMore (may_give old.shelf) (may_give new.shelf)
  pub written : texts new.shelf ≡ texts old.shelf
  pub count : FailsBy is_of_store (faults old.shelf) (faults new.shelf) result

-- ---- one commit

-- the commit can be read, and this is its first parent
pub record HasParent (objects : Objects) (id : List ℕ) (parent : Option (List ℕ)) : Type 0 where
  pub commit : Commit
  pub reads : commit_at objects id ≡ Ok commit
  pub is : commit.parent ≡ parent

-- a commit is kept; or it isn't, and has this first parent, or none, or can't be read
abbrev pub LooksSo : Objects → List Install → List ℕ → Result Look WalkFault → Type 0
LooksSo objects kept id (Ok look.Kept) = is_kept kept id ≡ true
LooksSo objects kept id (Ok (look.Parent parent)) = (is_kept kept id ≡ false) × HasParent objects id (Some parent)
LooksSo objects kept id (Ok look.Last) = (is_kept kept id ≡ false) × HasParent objects id None
LooksSo objects kept id (Err fault) = (is_kept kept id ≡ false) × AnswersRead {T = Commit} objects (commit_at objects id) (Err fault)

-- ---- the merge base

-- the merge base was found, or why there is none, or the store failed
abbrev pub FindsSo : Objects → Based → Result Found WalkFault → Type 0
FindsSo objects based (Ok (found.At id)) = based ≡ Base id
FindsSo objects based (Ok (found.Unrelated steps)) = based ≡ NoBase (refusal.Unrelated steps)
FindsSo objects based (Err fault) = (based ≡ NoBase (walk_refusal fault)) ⊎ IsToldRefusal objects (walk_refusal fault)

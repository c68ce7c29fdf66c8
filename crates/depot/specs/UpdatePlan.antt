-- What an update is to do, found by reading alone. Our own. Read PlansOver, then PlansSo.
use Rattle.std.specs.Prelude.{◌≡◌, ◌≢◌, ◌⊎◌, ℕ, true, false, List, [], Option, None, Some, Result, Ok, Err}
use Rattle.library_rules.specs.Calls.{Due, Denies, Says, Stores, Installs, Merges}
use Rattle.library_rules.specs.LibraryState.{State, head_of, is_kept}
use Rattle.library_rules.specs.MergeCommit.{Clashes, Makes, OfTrees}
use Rattle.library_state.specs.declared.call.Act.TheVariants as act
use Rattle.library_state.specs.declared.call.Call.{Call}
use Rattle.library_state.specs.declared.refusal.Refusal.{Refusal}
use Rattle.library_state.specs.declared.refusal.Refusal.TheVariants as refusal
use Rattle.library_state.specs.declared.reply.Reply.TheVariants as reply
use Rattle.library_state.specs.declared.state.LibState.{LibState}
use Rattle.library_state.specs.declared.token.Token.{Token}
use Rattle.object_store.specs.Shelf.{Contents}
use Rattle.object_store.specs.StoreView.{Index, StoreView}
use Rattle.object_store.specs.declared.shelf.Slot.{Slot as ShelfSlot}
use Rattle.tree_model.specs.ThreeWayMerge as merged
use Rattle.tree_walk.specs.KnownTrees.{KnownView}
use Rattle.depot.specs.Answering.{MayAnswer, decided, update_decided}
use Rattle.depot.specs.DepotView.{FitsIn, IsSoundIn}
use Rattle.depot.specs.ObjectCalls.{IsToldRefusal}
use Rattle.depot.specs.Plan.{HasNames, objects_in}
use Rattle.depot.specs.declared.plan.Plan.{Plan}
use Rattle.conflict_names.specs.Naming.{merge_of}

-- what an update is planned over: a sound library that has a head, and what is known of its trees is right
pub record PlansOver {S : Type 0} (contents : S → Option Contents) (store : StoreView S) (state : LibState) (trees : KnownView) : Type 0 where
  pub sound : IsSoundIn contents store state
  pub known : FitsIn contents store trees
  pub some_kept : state.kept ≢ []

-- ---- a merge

-- the plan makes the merge
abbrev pub IsMergePlan : State → ℕ → (user base pushed : List ℕ) → Plan → Type 0
IsMergePlan s moment user base pushed plan = Makes s moment user base pushed plan.head (objects_in plan)

-- why a merge is refused before anything is stored
abbrev pub MergeRefuses : State → ℕ → (user base pushed : List ℕ) → Refusal → Type 0
MergeRefuses s moment user base pushed (refusal.TooLong path size) = OfTrees s base pushed (λ sides. merge_of sides ≡ merged.TooLong path size)
MergeRefuses s moment user base pushed (refusal.TooMany paths) = OfTrees s base pushed (λ sides. merge_of sides ≡ merged.TooMany paths)
MergeRefuses s moment user base pushed (refusal.Taken id) = Clashes s moment user base pushed id
MergeRefuses s moment user base pushed why = IsToldRefusal s.objects why

abbrev pub MergesSo : State → ℕ → (user base pushed : List ℕ) → Result Plan Refusal → Type 0
MergesSo s moment user base pushed (Ok plan) = IsMergePlan s moment user base pushed plan
MergesSo s moment user base pushed (Err why) = MergeRefuses s moment user base pushed why

-- ---- all cases

-- a plan does what is due
abbrev pub IsPlan : State → ℕ → Due → Plan → Type 0
IsPlan s moment Denies plan = ⊥
IsPlan s moment (Says r) plan = ⊥
IsPlan s moment (Stores x) plan = ⊥
IsPlan s moment (Installs pushed) plan = (plan.head ≡ pushed) × (objects_in plan ≡ [])
IsPlan s moment (Merges user base pushed) plan = IsMergePlan s moment user base pushed plan

-- a refusal that is due, or a fault of the store
abbrev pub IsPlanFault : State → ℕ → Due → Refusal → Type 0
IsPlanFault s moment Denies why = ⊥
IsPlanFault s moment (Says r) why = (r ≡ reply.Refused why) ⊎ IsToldRefusal s.objects why
IsPlanFault s moment (Stores x) why = ⊥
IsPlanFault s moment (Installs pushed) why = IsToldRefusal s.objects why
IsPlanFault s moment (Merges user base pushed) why = MergeRefuses s moment user base pushed why

-- what is planned where the pushed commit isn't kept and the upload isn't stale
abbrev pub PlansDue : State → ℕ → Due → Result Plan Refusal → Type 0
PlansDue s moment due (Ok plan) = IsPlan s moment due plan
PlansDue s moment due (Err why) = IsPlanFault s moment due why

-- nothing is to do for a commit that is kept; else a plan, or a refusal
abbrev pub PlansSo : State → ℕ → List ℕ → Due → Result (Option Plan) Refusal → Type 0
PlansSo s moment pushed due (Ok None) = (is_kept s.state.kept pushed ≡ true) × (due ≡ Says (reply.Updated (head_of s.state.kept)))
PlansSo s moment pushed due (Ok (Some plan)) = (is_kept s.state.kept pushed ≡ false) × IsPlan s moment due plan
PlansSo s moment pushed due (Err why) = IsPlanFault s moment due why

-- ---- over any shelf

-- none where the state decides that the head is answered; a plan where it decides nothing; a refusal that the state decides, or one that an update may have
abbrev pub DecidesSo : LibState → Token → List ℕ → Index → (ShelfSlot → Option (List ℕ) → Type 0) → Result (Option Plan) Refusal → Type 0
DecidesSo state token pushed index may_give (Ok None) = (is_kept state.kept pushed ≡ true) × (update_decided state token pushed ≡ Some (reply.Updated (head_of state.kept)))
DecidesSo state token pushed index may_give (Ok (Some plan)) = (is_kept state.kept pushed ≡ false) × (update_decided state token pushed ≡ None) × HasNames plan
DecidesSo state token pushed index may_give (Err why) = MayAnswer index may_give (act.Update pushed) (update_decided state token pushed) (reply.Refused why)

-- the same, of a call
abbrev pub DecidesCall : LibState → Call → List ℕ → Index → (ShelfSlot → Option (List ℕ) → Type 0) → Result (Option Plan) Refusal → Type 0
DecidesCall state call pushed index may_give (Ok None) = (is_kept state.kept pushed ≡ true) × (decided state call ≡ Some (reply.Updated (head_of state.kept)))
DecidesCall state call pushed index may_give (Ok (Some plan)) = (is_kept state.kept pushed ≡ false) × (decided state call ≡ None) × HasNames plan
DecidesCall state call pushed index may_give (Err why) = MayAnswer index may_give (act.Update pushed) (decided state call) (reply.Refused why)

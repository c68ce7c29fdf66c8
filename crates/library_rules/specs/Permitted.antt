-- Which entries are permitted after a call. Our own. Read DuePermits.
use Rattle.std.specs.Prelude.{◌≡◌, ◌⊎◌, ℕ, true, List, [], ◌∷◌}
use Rattle.library_state.specs.declared.refusal.Refusal.{Refusal}
use Rattle.library_state.specs.declared.refusal.Refusal.TheVariants as refusal
use Rattle.library_state.specs.declared.reply.Reply.TheVariants as reply
use Rattle.tree_model.specs.ThreeWayMerge as merged
use Rattle.library_rules.specs.Answered.{Plain, IsFault, Fails, OrFails}
use Rattle.library_rules.specs.Calls.{Due, Denies, Says, Stores, Installs, Merges}
use Rattle.library_rules.specs.LibraryState.{State}
use Rattle.library_rules.specs.MergeCommit.{OfTrees, Makes, Partly, Clashes}
use Rattle.library_rules.specs.declared.entry.Entry.{Entry}
use Rattle.conflict_names.specs.Naming.{merge_of}

-- the pushed commit was merged into the head
pub record IsMerged (s : State) (e : Entry) (user base pushed : List ℕ) : Type 0 where
  pub new : List ℕ
  pub says : Plain s e (reply.Updated new)
  pub made : Makes s e.moment user base pushed new e.added

-- why a merge is refused: a conflict name is too long, the merged tree has too many paths, or an object of it can't be
-- stored, and nothing is stored then; or by a fault, after which some of its objects may be stored
abbrev pub MergeFails : State → Entry → (user base pushed : List ℕ) → Refusal → Type 0
MergeFails s e user base pushed (refusal.TooLong path size) =
    (e.added ≡ []) × (e.faults ≡ s.faults) × OfTrees s base pushed (λ sides. merge_of sides ≡ merged.TooLong path size)
MergeFails s e user base pushed (refusal.TooMany paths) =
    (e.added ≡ []) × (e.faults ≡ s.faults) × OfTrees s base pushed (λ sides. merge_of sides ≡ merged.TooMany paths)
MergeFails s e user base pushed (refusal.Taken id) =
    (e.added ≡ []) × (e.faults ≡ s.faults) × Clashes s e.moment user base pushed id
MergeFails s e user base pushed why = IsFault s e why × ((e.added ≡ []) ⊎ Partly s e.moment user base pushed e.added)

-- the merge was refused, with its cause
pub record NotMerged (s : State) (e : Entry) (user base pushed : List ℕ) : Type 0 where
  pub why : Refusal
  pub reply : e.reply ≡ reply.Refused why
  pub cause : MergeFails s e user base pushed why

-- what is due is answered, or a fault; nothing but want of memory hides that a call is denied
abbrev pub DuePermits : State → Entry → Due → Type 0
DuePermits s e Denies = (Plain s e (reply.Refused refusal.Denied) ⊎ Plain s e (reply.Refused refusal.NoMemory)) × (e.added ≡ [])
DuePermits s e (Says r) = OrFails s e (Plain s e r)
DuePermits s e (Stores x) = (Plain s e (reply.Stored true) × (e.added ≡ x ∷ [])) ⊎ (Fails s e × (e.added ≡ []))
DuePermits s e (Installs pushed) = OrFails s e (Plain s e (reply.Updated pushed))
DuePermits s e (Merges user base pushed) = IsMerged s e user base pushed ⊎ NotMerged s e user base pushed

-- What is read and made for a merge. Our own. Read HasRoots, then PlansMade.
use Rattle.std.specs.Prelude.{◌≡◌, ◌⊎◌, ℕ, ◌==◌, Bool, true, false, not, List, length, Option, None, Some, Result, Ok, Err}
use Rattle.std.specs.FinMap as map
use Rattle.ids.specs.Key.{Objects}
use Rattle.commit_objects.specs.Commit.{commit_of}
use Rattle.commit_objects.specs.Proper.{IsProper}
use Rattle.commit_objects.specs.Spelling.{text_of}
use Rattle.commit_objects.specs.declared.commit.Commit.{Commit}
use Rattle.library_rules.specs.Calls.{other_bytes}
use Rattle.library_rules.specs.LibraryState.{State}
use Rattle.library_rules.specs.MergeCommit.{merge_commit}
use Rattle.library_state.specs.declared.refusal.Refusal.{Refusal}
use Rattle.library_state.specs.declared.refusal.Refusal.TheVariants as refusal
use Rattle.object_graph.specs.Objects.{commit_at, commit_key, is_nil}
use Rattle.object_graph.specs.Traversal.{IsComplete}
use Rattle.tree_merge.specs.declared.merging.Merged.{Merged}
use Rattle.tree_walk.specs.Reading.{AnswersRead, IsDue}
use Rattle.tree_walk.specs.declared.fault.WalkFault.{WalkFault}
use Rattle.depot.specs.ObjectCalls.{IsToldRefusal}
use Rattle.depot.specs.declared.update_merge.Roots.{Roots}
use Rattle.depot.specs.declared.plan.Plan.{Plan}

-- the merge base, the head and the pushed commit are complete
pub record AreComplete (objects : Objects) (base head pushed : List ℕ) : Type 0 where
  pub base_complete : IsComplete objects base
  pub head_complete : IsComplete objects head
  pub pushed_complete : IsComplete objects pushed

-- ---- roots

-- the commit can be read, and has this root
pub record HasRoot (objects : Objects) (id root : List ℕ) : Type 0 where
  pub commit : Commit
  pub reads : commit_at objects id ≡ Ok commit
  pub is : commit.root ≡ root

abbrev pub RootSo : Objects → List ℕ → Result (List ℕ) WalkFault → Type 0
RootSo objects id (Ok root) = HasRoot objects id root
RootSo objects id (Err fault) = AnswersRead {T = Commit} objects (commit_at objects id) (Err fault)

-- the three commits have these roots
pub record HasRoots (objects : Objects) (base head pushed : List ℕ) (roots : Roots) : Type 0 where
  pub of_base : HasRoot objects base roots.base
  pub of_head : HasRoot objects head roots.head
  pub of_pushed : HasRoot objects pushed roots.pushed

abbrev pub RootsSo : Objects → (base head pushed : List ℕ) → Result Roots WalkFault → Type 0
RootsSo objects base head pushed (Ok roots) = HasRoots objects base head pushed roots
RootsSo objects base head pushed (Err fault) = IsDue objects None fault

-- ---- the made commit

-- a merge gave a conflict name
abbrev pub has_copies : Merged → Bool
has_copies merged = not (length merged.conflicts == 0)

-- whether this text is stored as a commit; or other bytes are, or the id is forty zeros; or the store failed
abbrev pub StoredSo : Objects → List ℕ → List ℕ → Result Bool Refusal → Type 0
StoredSo objects id text (Ok true) = map.get objects (commit_key id) ≡ Some text
StoredSo objects id text (Ok false) = map.get objects (commit_key id) ≡ None
StoredSo objects id text (Err (refusal.Taken taken)) = (taken ≡ id) × ((is_nil id ≡ true) ⊎ (other_bytes (map.get objects (commit_key id)) text ≡ true))
StoredSo objects id text (Err why) = IsToldRefusal objects why

-- the text of a made commit is to be stored, or is stored
abbrev pub TextSo : Objects → Commit → Option (List ℕ) → Type 0
TextSo objects commit None = map.get objects (commit_key commit.id) ≡ Some (text_of commit)
TextSo objects commit (Some text) = (map.get objects (commit_key commit.id) ≡ None) × (text ≡ text_of commit)

-- the plan of what was merged: its directories, and the commit over them
pub record IsPlanOf (objects : Objects) (merged : Merged) (commit : Commit) (plan : Plan) : Type 0 where
  pub head_is : plan.head ≡ commit.id
  pub dirs_are : plan.dirs ≡ merged.made
  pub text_is : TextSo objects commit plan.text
  pub not_zeros : is_nil commit.id ≡ false
  pub reads_back : IsProper commit → commit_of (text_of commit) ≡ Ok commit

abbrev pub PlansMade : Objects → Merged → Commit → Result Plan Refusal → Type 0
PlansMade objects merged commit (Ok plan) = IsPlanOf objects merged commit plan
PlansMade objects merged commit (Err (refusal.Taken taken)) =
    (taken ≡ commit.id) × ((is_nil commit.id ≡ true) ⊎ (other_bytes (map.get objects (commit_key commit.id)) (text_of commit) ≡ true))
PlansMade objects merged commit (Err why) = IsToldRefusal objects why

-- the commit of what was merged
abbrev pub commit_over : State → ℕ → (user pushed : List ℕ) → Merged → Commit
commit_over s moment user pushed merged = merge_commit s moment user pushed merged.root (has_copies merged)

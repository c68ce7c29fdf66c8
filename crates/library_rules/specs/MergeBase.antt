-- The merge base of a pushed commit: the first kept commit from it along first parents. Our own. Read base_of.
use Rattle.library_rules.specs.declared.limits.TheConstants.{MAX_STEPS}
use Rattle.std.specs.Prelude.{ℕ, zero, suc, ◌+◌, if◌then◌else◌, List, [], ◌∷◌, Option, None, Some, Result, Ok, Err}
use Rattle.commit_objects.specs.declared.commit.Commit.{Commit}
use Rattle.library_state.specs.declared.refusal.Refusal.{Refusal}
use Rattle.library_state.specs.declared.refusal.Refusal.TheVariants as refusal
use Rattle.object_graph.specs.Objects.{commit_at}
use Rattle.object_graph.specs.declared.fault.TreeFault.{TreeFault}
use Rattle.object_graph.specs.declared.fault.TreeFault.TheVariants as fault
use Rattle.library_rules.specs.LibraryState.{State, is_kept}

-- the refusal that a fault of a tree is
abbrev pub refusal_of : TreeFault → Refusal
refusal_of (fault.Incomplete key) = refusal.Incomplete key
refusal_of (fault.Unreadable key) = refusal.Unreadable key
refusal_of (fault.WrongKind id) = refusal.WrongKind id
refusal_of (fault.WrongSize id) = refusal.WrongSize id
refusal_of (fault.TooDeep path) = refusal.TooDeep path
refusal_of (fault.TooMany paths) = refusal.TooMany paths

-- a base, or why there is none
pub data Based : Type 0 where
  Base : List ℕ → Based
  NoBase : Refusal → Based

-- after a commit that isn't kept its first parent is looked at; without one the commits are unrelated, after n steps
abbrev pub by_parent : (List ℕ → Based) → ℕ → Option (List ℕ) → Based
by_parent next n None = NoBase (refusal.Unrelated n)
by_parent next n (Some parent) = next parent

-- the commit must be stored, and must be a commit of that name
abbrev pub by_commit : (List ℕ → Based) → ℕ → Result Commit TreeFault → Based
by_commit next n (Err fault) = NoBase (refusal_of fault)
by_commit next n (Ok commit) = by_parent next n commit.parent

-- the first parent of a commit that could be read
abbrev pub parents_of : Result Commit TreeFault → Option (List ℕ)
parents_of (Err fault) = None
parents_of (Ok commit) = commit.parent

-- on to the parent, if there is one
abbrev pub along : (List ℕ → List (List ℕ)) → Option (List ℕ) → List (List ℕ)
along next None = []
along next (Some parent) = next parent

module _ (s : State) where
  -- from a commit on, which is n steps from the pushed one, with at most `left` steps to go
  unfoldable pub base_from : (left n : ℕ) → List ℕ → Based
  base_from zero n id = if is_kept s.state.kept id then Base id else by_commit (λ parent. NoBase (refusal.Unrelated n)) n (commit_at s.objects id)
  base_from (suc left) n id = if is_kept s.state.kept id then Base id else by_commit (base_from left (n + 1)) n (commit_at s.objects id)

  -- the merge base of a pushed commit, at most MAX_STEPS steps from it
  abbrev pub base_of : List ℕ → Based
  base_of pushed = base_from MAX_STEPS 0 pushed

  -- the commits that are looked at: from a commit along first parents, up to but without a kept one
  unfoldable pub chain_from : ℕ → List ℕ → List (List ℕ)
  chain_from zero id = if is_kept s.state.kept id then [] else id ∷ []
  chain_from (suc left) id = if is_kept s.state.kept id then [] else id ∷ along (chain_from left) (parents_of (commit_at s.objects id))

  -- the commits from a pushed one to its merge base, without that one
  abbrev pub chain_of : List ℕ → List (List ℕ)
  chain_of pushed = chain_from MAX_STEPS pushed

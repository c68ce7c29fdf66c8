-- What holds over legal histories. The key lemmas are sound_after, agrees_between and keeps_between.
use Rattle.std.proofs.Common.{◌≡◌, ℕ, zero, suc, ◌≤◌, true, List, [], ◌∷◌, ap, ◌∙◌, arith, Result, Ok, Err}
use Rattle.ids.specs.Key.{Objects}
use Rattle.commit_objects.specs.declared.commit.Commit.{Commit}
use Rattle.object_graph.specs.Objects.{commit_key, commit_at, commit_in}
use Rattle.object_graph.specs.Traversal.{start, visited, then_read, walk_root, walk_commit, is_in, needs}
use Rattle.object_graph.specs.Unchanged.{AgreeOn}
use Rattle.object_graph.specs.declared.fault.TreeFault.{TreeFault}
use Rattle.object_graph.proofs.KeyLemmas.{in_last, in_distinct}
use Rattle.object_graph.proofs.LocalityLemmas.{grows_root}
use Rattle.library_rules.specs.Changes.{apply}
use Rattle.library_rules.specs.History.{Legal, after}
use Rattle.library_rules.specs.LibraryState.{State, is_kept, IsSound}
use Rattle.library_rules.specs.declared.entry.Entry.{Entry}
use Rattle.library_rules.proofs.KeepingLemmas.{agrees_itself, agrees_then}
use Rattle.library_rules.proofs.StepLemmas.{sound_apply, agrees_after}

pub sound_after : (s : State) (es : List Entry) (n : ℕ) → Legal s es → IsSound s → IsSound (after s es n)
sound_after s es zero legal sound = sound
sound_after s [] (suc n) legal sound = sound
sound_after s (e ∷ es) (suc n) legal sound = sound_after (apply s e) es n legal.1 (sound_apply s e legal.0.permits sound)

-- from the first place on
along : (id : List ℕ) (s : State) (es : List Entry) (n : ℕ) → Legal s es → IsSound s → ((k : ℕ) → k ≤ n → is_kept (after s es k).state.kept id ≡ true)
    → AgreeOn (needs s.objects id) s.objects (after s es n).objects
along id s es zero legal sound kept = agrees_itself (needs s.objects id) s.objects
along id s [] (suc n) legal sound kept = agrees_itself (needs s.objects id) s.objects
along id s (e ∷ es) (suc n) legal sound kept =
    agrees_then s.objects (apply s e).objects (after (apply s e) es n).objects id
    (agrees_after s e legal.0.permits sound id (kept zero (omega arith)))
    (along id (apply s e) es n legal.1 (sound_apply s e legal.0.permits sound) (λ k le. kept (suc k) (omega arith)))

-- what a commit needs keeps its bytes while the commit is kept
pub agrees_between : (id : List ℕ) (s : State) (es : List Entry) (from to : ℕ) → Legal s es → IsSound s → from ≤ to
    → ((k : ℕ) → from ≤ k → k ≤ to → is_kept (after s es k).state.kept id ≡ true)
    → AgreeOn (needs (after s es from).objects id) (after s es from).objects (after s es to).objects
agrees_between id s es zero to legal sound le kept = along id s es to legal sound (λ k le. kept k (omega arith) le)
agrees_between id s [] (suc from) zero legal sound le kept = agrees_itself (needs s.objects id) s.objects
agrees_between id s [] (suc from) (suc to) legal sound le kept = agrees_itself (needs s.objects id) s.objects
agrees_between id s (e ∷ es) (suc from) zero legal sound le kept = absurd (omega arith)
agrees_between id s (e ∷ es) (suc from) (suc to) legal sound le kept =
    agrees_between id (apply s e) es from to legal.1 (sound_apply s e legal.0.permits sound) (omega arith)
    (λ k more less. kept (suc k) (omega arith) (omega arith))

-- a commit's own key is needed by it
pub commit_visited : (A : Objects) (id : List ℕ) → is_in (needs A id) (commit_key id) ≡ true
unfolding walk_commit
commit_visited A id = in_distinct (walk_commit A id).visits (commit_key id) ∙ by (commit_at A id)
  where
    by : (r : Result Commit TreeFault) → is_in (then_read r (λ commit. walk_root true A commit.root) (visited (commit_key id) start)).visits (commit_key id) ≡ true
    by (Ok commit) = (grows_root A A true commit.root (visited (commit_key id) start)).there (commit_key id) (in_last [] (commit_key id))
    by (Err fault) = in_last [] (commit_key id)

pub same_commit : (A B : Objects) (id : List ℕ) → AgreeOn (needs A id) A B → commit_at B id ≡ commit_at A id
same_commit A B id agree = ap (commit_in id) (agree.same (commit_key id) (commit_visited A id))

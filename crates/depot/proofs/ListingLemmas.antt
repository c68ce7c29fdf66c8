-- Lists of what kept commits need: the two commits are complete. The key lemma is commits_whole.
use Rattle.std.proofs.Common.{◌≡◌, ℕ, Bool, true, false, if◌then◌else◌, List, refl, ap, ◌∙◌, Option, None, Some}
use Rattle.library_rules.specs.Calls.{kept_alone}
use Rattle.library_rules.specs.LibraryState.{State, IsSound, is_kept}
use Rattle.tree_walk.specs.Files.{first_due}
use Rattle.tree_walk.specs.Visits.{commit_due, commits_due}

-- the commits that are asked about are complete, so no traversal has a fault
client_due : (s : State) → IsSound s → (client : Option (List ℕ)) → commit_due s.objects (kept_alone s client) ≡ None
client_due s sound None = refl
client_due s sound (Some commit) = by (is_kept s.state.kept commit) refl
  where
    by : (b : Bool) → is_kept s.state.kept commit ≡ b → commit_due s.objects (if b then Some commit else None) ≡ None
    by true is = sound.kept.complete commit is
    by false is = refl

pub commits_whole : (s : State) → IsSound s → (server : List ℕ) (client : Option (List ℕ)) → is_kept s.state.kept server ≡ true → commits_due s.objects server (kept_alone s client) ≡ None
commits_whole s sound server client is =
    ap (λ o. first_due o (commit_due s.objects (kept_alone s client))) (sound.kept.complete server is) ∙ client_due s sound client

-- What is known of what is marked stays right as candidates leave. The key lemmas are kept_met and fits_swept.
use Rattle.std.proofs.Common.{◌≡◌, ◌⊎◌, inl, inr, ℕ, true, List, [], ◌++◌, sym, ap, ◌∙◌, subst, subst₂, true≢false}
use Rattle.std.specs.List.{list_any}
use Rattle.std.proofs.lemmas.Bool.{false_from_ne_true}
use Rattle.std.specs.FinMap as map
use Rattle.ids.specs.declared.key.Key.{Key}
use Rattle.library_rules.specs.Changes.{without}
use Rattle.library_rules.specs.LibraryState.{IsSound, Running, State}
use Rattle.library_rules.proofs.KeepingLemmas.{kept_without}
use Rattle.library_rules.proofs.MemberLemmas.{any_found}
use Rattle.object_graph.specs.Objects.{same_id}
use Rattle.object_graph.specs.Traversal.{is_in, needs}
use Rattle.collector.specs.Collecting.{Collects}
use Rattle.collector.specs.Marks.{MarksView, is_candidate, needed_by}
use Rattle.collector.proofs.CollectingLemmas.{whole}
use Rattle.collector.proofs.LeadingLemmas.{all_marked, any_of}
use Rattle.tree_walk.specs.KnownTrees.{Fits, IsNeededBy, KeepsFor, KnownView, nothing_known}
use Rattle.tree_walk.proofs.KeptTreesLemmas.{fits_kept, fits_left}
use Rattle.tree_walk.proofs.KnownTreesLemmas.{fits_nothing}
use Rattle.depot.specs.DepotView.{KeepsMet}

-- the marks of a collection are those that stand in it
pub kept_met : (inside marks : MarksView) (commits : List (List ℕ)) (keys : List Key) (old new : KnownView) → inside ≡ marks → commits ≡ inside.commits → keys ≡ inside.marked ++ inside.pending
    → KeepsFor commits keys old new ⊎ (new ≡ nothing_known) → KeepsMet marks old new
kept_met inside marks commits keys old new same is_commits is_keys keeps =
    subst (λ (m : MarksView). KeepsMet m old new) same
    (subst₂ (λ (cs : List (List ℕ)) (ks : List Key). KeepsFor cs ks old new ⊎ (new ≡ nothing_known)) is_commits is_keys keeps)

-- what is marked is all that the commits need, and no candidate is marked
module _ (s : State) (running : Running) (marks : MarksView) (keys : List Key) (old new : KnownView) (sound : IsSound s) (collects : Collects s running marks) (none_waits : marks.pending ≡ [])
    (candidates : (key : Key) → is_in keys key ≡ true → is_candidate marks key ≡ true) (fits : Fits s.objects old) where
  needed : (key : Key) → is_in (marks.marked ++ marks.pending) key ≡ true → IsNeededBy s.objects marks.commits key
  needed key met =
      let one = any_of (λ commit. is_in (needs s.objects commit) key) marks.commits (collects.exact.each (whole s running marks sound collects) key met) in
      record { commit = one.0; is = one.1; there = one.2 }

  stays : (commits : List (List ℕ)) → commits ≡ marks.commits → (key : Key) → IsNeededBy s.objects commits key → map.get (without s.objects keys) key ≡ map.get s.objects key
  stays commits same key by =
      let is : needed_by s.objects marks.commits key ≡ true = any_found (λ commit. is_in (needs s.objects commit) key) marks.commits by.commit (ap (λ (cs : List (List ℕ)). list_any (same_id by.commit) cs) (sym same) ∙ by.is) by.there in
      kept_without s.objects keys key
      (false_from_ne_true (is_in keys key) (λ gone. true≢false (sym (all_marked s.objects marks collects.leads none_waits key is) ∙ collects.good.apart key (candidates key gone))))

  pub fits_swept : KeepsMet marks old new → Fits (without s.objects keys) new
  fits_swept (inl keeps) =
      fits_left s.objects (without s.objects keys) new
      (fits_kept s.objects marks.commits (marks.marked ++ marks.pending) old new fits keeps (whole s running marks sound collects) needed)
      (λ key by. stays new.commits keeps.commits key by) keeps.directories keeps.files
  fits_swept (inr none) = subst (Fits (without s.objects keys)) (sym none) (fits_nothing (without s.objects keys))

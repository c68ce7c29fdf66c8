-- The test of surviving directories says what the rules say. The key lemma is stays_means.
use Rattle.std.proofs.Common.{◌≡◌, ◌↔◌, ◌||◌, ◌&&◌, not, Bool, true, false, [], refl, sym, ap, ap₂, ◌∙◌, subst, append-nil, is_some, IsSome, true≢false, ◌⊎◌, inl, inr, ◌++◌, ◌∷◌}
use Rattle.std.specs.FinMap as map
use Rattle.std.proofs.lemmas.Bool.{and_parts, or_cases}
use Rattle.tree_model.specs.Path.{PathV}
use Rattle.tree_model.specs.Tree.{has_dir, file_at}
use Rattle.tree_model.specs.DirectorySurvival.{Sides, gets_file, kept_dir, keeps, stays, Stays, kept, file_below, dir_below, is_within, is_under, paths_of_all}
use Rattle.tree_model.specs.ConflictCopies.{in_trees}
use Rattle.tree_model.proofs.BelowLemmas.{within_is, within_of, under_of}
use Rattle.tree_model.proofs.ListedLemmas.{any_at}
use Rattle.tree_model.proofs.OneSideLemmas.{some_of_dir, some_of_file}
use Rattle.tree_model.proofs.NothingLostLemmas.{chosen_from}
use Rattle.tree_model.proofs.UnmovedLemmas.{in_second, in_third}
use Rattle.tree_model.proofs.ResultTreeLemmas.{stays_over_file, stays_over_dir, any_keeps}

module _ (s : Sides) where
  known_of : (q : PathV) → (IsSome (map.get s.head q)) ⊎ (IsSome (map.get s.pushed q)) → in_trees s q ≡ true
  known_of q (inl there) = in_second (is_some (map.get s.base q)) (is_some (map.get s.head q)) (is_some (map.get s.pushed q)) there
  known_of q (inr there) = in_third (is_some (map.get s.base q)) (is_some (map.get s.head q)) (is_some (map.get s.pushed q)) there

  known_kept : (d : PathV) → kept_dir s d ≡ true → in_trees s d ≡ true
  known_kept d e = known_of d (by (has_dir s.head d) (has_dir s.pushed d) refl refl e)
    where
      by : (h p : Bool) → has_dir s.head d ≡ h → has_dir s.pushed d ≡ p → kept_dir s d ≡ true → (IsSome (map.get s.head d)) ⊎ (IsSome (map.get s.pushed d))
      by true p is_h is_p e = inl (some_of_dir (map.get s.head d) is_h)
      by false true is_h is_p e = inr (some_of_dir (map.get s.pushed d) is_p)
      by false false is_h is_p e =
          absurd (true≢false (sym e ∙ ap₂ (λ (h p : Bool). (h && p) || ((h || p) && not (has_dir s.base d))) is_h is_p))

  known_file : (q : PathV) → gets_file s q ≡ true → in_trees s q ≡ true
  known_file q e = known_of q (by (chosen_from (file_at s.base q) (file_at s.head q) (file_at s.pushed q) e))
    where
      by : (is_some (file_at s.head q) ≡ true) ⊎ (is_some (file_at s.pushed q) ≡ true) → (IsSome (map.get s.head q)) ⊎ (IsSome (map.get s.pushed q))
      by (inl there) = inl (some_of_file (map.get s.head q) there)
      by (inr there) = inr (some_of_file (map.get s.pushed q) there)

  pub stays_from : (d : PathV) → Stays s d → stays s d ≡ true
  stays_from _ (kept d e) =
      any_keeps s d d (known_kept d e)
      (ap (λ b. b || (is_under d d && gets_file s d)) (ap₂ ◌&&◌ (subst (λ p. is_within d p ≡ true) (append-nil d) (within_of d [])) e))
  stays_from _ (file_below d q under e) = stays_over_file s d q (known_file q e) under e
  stays_from _ (dir_below d q under more) = stays_over_dir s d q under (stays_from q more)

  pub from_stays : (d : PathV) → stays s d ≡ true → Stays s d
  from_stays d e =
      let found = any_at (keeps s d) (paths_of_all s) e in
      let q = found.path in
      elim (or_cases (is_within d q && kept_dir s q) (is_under d q && gets_file s q) found.passes) [
        | inl h ↦
            let parts = and_parts (is_within d q) (kept_dir s q) h in
            let rest = within_is d q parts.0 in
            at_or_below q rest.0 rest.1 parts.1
        | inr h ↦
            let parts = and_parts (is_under d q) (gets_file s q) h in
            file_below d q parts.0 parts.1
      ]
    where
      at_or_below : (q rest : PathV) → q ≡ d ++ rest → kept_dir s q ≡ true → Stays s d
      at_or_below q [] is e = kept d (subst (λ p. kept_dir s p ≡ true) (is ∙ append-nil d) e)
      at_or_below q (n ∷ rest) is e = dir_below d q (subst (λ p. is_under d p ≡ true) (sym is) (under_of d n rest)) (kept q e)

  pub stays_means : (d : PathV) → (stays s d ≡ true) ↔ Stays s d
  stays_means d = (from_stays d, stays_from d)

-- Directories survive level by level. The key lemma is stays_levels.
use Rattle.std.proofs.Common.{◌≡◌, ◌↔◌, ℕ, ◌||◌, ◌&&◌, true, List, [], ◌∷◌, ◌++◌, sym, ap, ap₂, ◌∙◌, subst, append-nil, append_assoc, ◌⊎◌, inl, inr}
use Rattle.std.proofs.lemmas.Bool.{or_right, and_parts, or_cases}
use Rattle.tree_model.specs.Path.{PathV}
use Rattle.tree_model.specs.DirectorySurvival.{Sides, gets_file, kept_dir, keeps, stays, kept, file_below, dir_below, HasKeptEntry, is_within, is_under, paths_of_all}
use Rattle.tree_model.specs.ConflictCopies.{in_trees}
use Rattle.tree_model.proofs.BelowLemmas.{within_is, within_of, under_is, under_of}
use Rattle.tree_model.proofs.ListedLemmas.{any_at, listed}
use Rattle.tree_model.proofs.ResultTreeLemmas.{any_keeps}
use Rattle.tree_model.proofs.SurvivalLemmas.{stays_from, from_stays}

module _ (s : Sides) where
  split : (d : PathV) (n : List ℕ) (rest : PathV) → d ++ n ∷ rest ≡ (d ++ n ∷ []) ++ rest
  split d n rest = sym (append_assoc d (n ∷ []) rest)

  kept_below : (d r rest : PathV) → in_trees s r ≡ true → r ≡ d ++ rest → kept_dir s r ≡ true → (kept_dir s d ≡ true) ⊎ HasKeptEntry s d
  kept_below d r [] known is e = inl (subst (λ p. kept_dir s p ≡ true) (is ∙ append-nil d) e)
  kept_below d r (n ∷ rest) known is e =
      let child : PathV = d ++ n ∷ [] in
      let within : is_within child r ≡ true = subst (λ p. is_within child p ≡ true) (sym (is ∙ split d n rest)) (within_of child rest) in
      let stay : stays s child ≡ true = any_keeps s child r known (ap (λ b. b || (is_under child r && gets_file s r)) (ap₂ ◌&&◌ within e)) in
      inr (record { name = n; keeps = or_right (gets_file s child) (stays s child) stay })

  file_below_child : (d r : PathV) (n : List ℕ) (rest : PathV) → in_trees s r ≡ true → r ≡ d ++ n ∷ rest → gets_file s r ≡ true → HasKeptEntry s d
  file_below_child d r n [] known is e = record { name = n; keeps = ap (λ b. b || stays s (d ++ n ∷ [])) (subst (λ p. gets_file s p ≡ true) is e) }
  file_below_child d r n (m ∷ rest) known is e =
      let child : PathV = d ++ n ∷ [] in
      let under : is_under child r ≡ true = subst (λ p. is_under child p ≡ true) (sym (is ∙ split d n (m ∷ rest))) (under_of child m rest) in
      let stay : stays s child ≡ true = any_keeps s child r known (or_right (is_within child r && kept_dir s r) (is_under child r && gets_file s r) (ap₂ ◌&&◌ under e)) in
      record { name = n; keeps = or_right (gets_file s child) (stays s child) stay }

  level_from : (d : PathV) → stays s d ≡ true → (kept_dir s d ≡ true) ⊎ HasKeptEntry s d
  level_from d e =
      let found = any_at (keeps s d) (paths_of_all s) e in
      let r = found.path in
      let known : in_trees s r ≡ true = sym (listed s r) ∙ found.there in
      elim (or_cases (is_within d r && kept_dir s r) (is_under d r && gets_file s r) found.passes) [
        | inl h ↦
            let parts = and_parts (is_within d r) (kept_dir s r) h in
            let rest = within_is d r parts.0 in
            kept_below d r rest.0 known rest.1 parts.1
        | inr h ↦
            let parts = and_parts (is_under d r) (gets_file s r) h in
            let below = under_is d r parts.0 in
            inr (file_below_child d r below.name below.rest known below.is parts.1)
      ]

  level_to : (d : PathV) → (kept_dir s d ≡ true) ⊎ HasKeptEntry s d → stays s d ≡ true
  level_to d (inl e) = stays_from s d (kept d e)
  level_to d (inr entry) =
      elim (or_cases (gets_file s (d ++ entry.name ∷ [])) (stays s (d ++ entry.name ∷ [])) entry.keeps) [
        | inl gets ↦ stays_from s d (file_below d (d ++ entry.name ∷ []) (under_of d entry.name []) gets)
        | inr stay ↦ stays_from s d (dir_below d (d ++ entry.name ∷ []) (under_of d entry.name []) (from_stays s (d ++ entry.name ∷ []) stay))
      ]

  pub stays_levels : (d : PathV) → (stays s d ≡ true) ↔ ((kept_dir s d ≡ true) ⊎ HasKeptEntry s d)
  stays_levels d = (level_from d, level_to d)

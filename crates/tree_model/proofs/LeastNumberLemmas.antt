-- Each conflict copy has the least number that is free. The key lemma is least_free_spot.
use Rattle.std.proofs.Common.{◌≡◌, ℕ, ◌+◌, ◌<◌, ◌≤◌, ◌||◌, Bool, true, false, List, [], ◌∷◌, ◌++◌, map as map_list, length, refl, sym, ap, ◌∙◌, subst, arith}
use Rattle.std.specs.FinMap as map
use Rattle.std.proofs.Math.Bool.{or-false}
use Rattle.tree_model.specs.declared.node.FileVersion.{FileVersion}
use Rattle.tree_model.specs.Path.{PathV}
use Rattle.tree_model.specs.DirectorySurvival.{Sides, paths_of_all}
use Rattle.tree_model.specs.ConflictCopies.{in_trees, Naming, conflicts, conflict_spot, tries, leavers, is_gone, least_free, moves, is_among, IsLeastFree}
use Rattle.tree_model.specs.ThreeWayMerge.{IsNaming}
use Rattle.tree_model.proofs.ListedLemmas.{same_path, is_in}
use Rattle.tree_model.proofs.MovingLemmas.{least_from, least_before, least_is_free}
use Rattle.tree_model.proofs.CopyLemmas.{spots_apart, in_list, enough}

-- the paths that were taken, the last one first
taken_by : {X : Type 0} → List (X × PathV) → List PathV → List PathV
taken_by [] taken = taken
taken_by (m ∷ ms) taken = taken_by ms (m.1 ∷ taken)

abbrev places : {X : Type 0} → List (X × PathV) → List PathV
places ms = map_list (λ m. m.1) ms

in_taken : {X : Type 0} (q : PathV) (ms : List (X × PathV)) (taken : List PathV) → is_in q (taken_by ms taken) ≡ (is_in q (places ms) || is_in q taken)
unfolding taken_by
in_taken q [] taken = refl
in_taken q (m ∷ ms) taken = in_taken q ms (m.1 ∷ taken) ∙ swapped (is_in q (places ms)) (same_path q m.1) (is_in q taken)
  where
    swapped : (a b c : Bool) → (a || (b || c)) ≡ ((b || a) || c)
    swapped true true c = refl
    swapped true false c = refl
    swapped false true c = refl
    swapped false false c = refl

module _ {X : Type 0} (is_used : PathV → Bool) (spot : X → ℕ → PathV) (used : List PathV) (is_listed : (q : PathV) → is_used q ≡ true → is_in q used ≡ true)
    (apart : (x : X) (i j : ℕ) → spot x (1 + i) ≡ spot x (1 + j) → i ≡ j) (t : ℕ) where
  pub record Stands (taken : List PathV) (m : X × PathV) : Type 0 where
    pub number : ℕ
    pub from_one : 1 ≤ number
    pub at : m.1 ≡ spot m.0 number
    pub free : is_gone same_path is_used spot taken m.1 ≡ false
    pub least : (k : ℕ) → 1 ≤ k → k < number → is_gone same_path is_used spot taken (spot m.0 k) ≡ true

  stands : (before : List (X × PathV)) (m : X × PathV) (after : List (X × PathV)) (taken : List PathV) (xs : List X)
      → length used + length taken + length xs ≤ t → moves same_path is_used spot t taken xs ≡ before ++ m ∷ after → Stands (taken_by before taken) m
  unfolding taken_by
  stands [] m after taken [] enough e = cc
  stands [] m after taken (x ∷ xs) enough e =
      let to : PathV = spot x (least_free same_path is_used spot taken x t 1) in
      let first : (x, to) ≡ m = cc in
      subst (Stands taken) first (record {
        number = least_free same_path is_used spot taken x t 1;
        from_one = least_from is_used spot taken x t 1;
        at = refl;
        free = least_is_free is_used spot used is_listed apart taken x t (omega arith);
        least = λ k from below. least_before is_used spot taken x t 1 k from below;
      })
  stands (b ∷ before) m after taken [] enough e = cc
  stands (b ∷ before) m after taken (x ∷ xs) enough e =
      let to : PathV = spot x (least_free same_path is_used spot taken x t 1) in
      let first : (x, to) ≡ b = cc in
      let rest : moves same_path is_used spot t (to ∷ taken) xs ≡ before ++ m ∷ after = cc in
      let more : Stands (taken_by before (to ∷ taken)) m = stands before m after (to ∷ taken) xs (omega arith) rest in
      subst (λ (c : X × PathV). Stands (taken_by before (c.1 ∷ taken)) m) first more

pub least_free_spot : (naming : Naming) (s : Sides) → IsNaming naming → (before : List ((PathV × FileVersion) × PathV)) (copy : (PathV × FileVersion) × PathV) (after : List ((PathV × FileVersion) × PathV))
    → conflicts naming s ≡ before ++ copy ∷ after → IsLeastFree naming s (places before) copy
least_free_spot naming s is_naming before copy after e =
    let at : Stands (in_trees s) (conflict_spot naming) (paths_of_all s) (in_list naming is_naming s) (spots_apart naming is_naming) (tries s) (taken_by before []) copy =
    stands (in_trees s) (conflict_spot naming) (paths_of_all s) (in_list naming is_naming s) (spots_apart naming is_naming) (tries s) before copy after [] (map.entries (leavers s)) (omega (arith, enough s)) e in
    let gone : (q : PathV) → is_gone same_path (in_trees s) (conflict_spot naming) (taken_by before []) q ≡ (in_trees s q || is_among q (places before)) =
    λ q. ap (λ b. in_trees s q || b) (in_taken q before [] ∙ or-false (is_in q (places before))) in
    record {
      number = at.number;
      from_one = at.from_one;
      at = at.at;
      free = sym (gone copy.1) ∙ at.free;
      least = λ k from below. sym (gone (conflict_spot naming copy.0 k)) ∙ at.least k from below;
    }

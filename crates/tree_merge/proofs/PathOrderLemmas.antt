-- A directory stands before its entries in the byte order of paths. The key lemma is before_child.
use Rattle.std.proofs.Common.{◌≡◌, ℕ, true, List, [], ◌∷◌, ◌++◌, refl, ap, ◌∙◌, Less, nat_cmp}
use Rattle.std.specs.Ordering.{ordering_then}
use Rattle.std.specs.Cmp.{tied_itself, nat_cmp_total}
use Rattle.std.specs.Cmp.Lexicographic.{slice_cmp, nat_list_cmp_total}
use Rattle.tree_model.specs.Path.{PathV, path_cmp, slashed, segments}

slash_after : (a : List ℕ) → slice_cmp nat_cmp (a ++ []) (a ++ 47 ∷ []) ≡ Less
slash_after [] = refl
slash_after (x ∷ a) = ap (λ r. ordering_then r (slice_cmp nat_cmp (a ++ []) (a ++ 47 ∷ []))) (tied_itself nat_cmp_total x) ∙ slash_after a

pub before_child : (p : PathV) (n : List ℕ) → path_cmp p (p ++ n ∷ []) ≡ Less
before_child [] n = refl
before_child (a ∷ []) n = ap (λ r. ordering_then r (slice_cmp (slice_cmp nat_cmp) [] (segments (n ∷ [])))) (slash_after a)
before_child (a ∷ b ∷ p) n =
    ap (λ r. ordering_then r (slice_cmp (slice_cmp nat_cmp) (segments (b ∷ p)) (segments ((b ∷ p) ++ n ∷ [])))) (tied_itself nat_list_cmp_total (slashed a true))
    ∙ before_child (b ∷ p) n

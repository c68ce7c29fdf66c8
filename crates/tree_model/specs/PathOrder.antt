-- The byte order of paths is total and tells all paths apart. The key lemmas are paths_total and paths_exact.
use Rattle.std.proofs.Common.{◌≡◌, true, [], ◌∷◌, ◌++◌, refl, sym, ap, subst, nat_eq, if◌then◌else◌, Decides}
use Rattle.std.proofs.lemmas.List.{append_cancel_right}
use Rattle.std.specs.Ordering.{eq_by_cmp, is_eq}
use Rattle.std.specs.Bool.{one_answer}
use Rattle.std.specs.Cmp.{IsTotalOrder, on_total, tied_itself, Equal-is}
use Rattle.std.specs.Cmp.Lexicographic.{lists_total, nat_list_cmp_total, pointwise, pointwise_decides, bytes_decides}
use Rattle.std.specs.FinMap.{IsAntisymmetric, nat_cmp-IsAntisymmetric, slice_cmp-IsAntisymmetric}
use Rattle.tree_model.specs.Path.{PathV, slashed, has_more, segments, path_cmp}

pub paths_total : IsTotalOrder path_cmp
paths_total = on_total segments (lists_total nat_list_cmp_total)

-- the pieces of a path's text tell the path
pub segments_apart : (p q : PathV) → segments p ≡ segments q → p ≡ q
segments_apart [] [] e = refl
segments_apart [] (y ∷ q) e = cc
segments_apart (x ∷ p) [] e = cc
segments_apart (x ∷ p) (y ∷ q) e =
    let rest : segments p ≡ segments q = cc in
    let more : p ≡ q = segments_apart p q rest in
    let pieces : slashed x (has_more p) ≡ slashed y (has_more q) = cc in
    let same : x ++ (if has_more p then 47 ∷ [] else []) ≡ y ++ (if has_more p then 47 ∷ [] else []) =
    subst (λ r. slashed x (has_more p) ≡ slashed y (has_more r)) (sym more) pieces in
    let name : x ≡ y = append_cancel_right x y _ same in
    λ i. name i ∷ more i

pub paths_exact : IsAntisymmetric path_cmp
paths_exact x y e = segments_apart x y (slice_cmp-IsAntisymmetric (slice_cmp-IsAntisymmetric nat_cmp-IsAntisymmetric) (segments x) (segments y) e)

path_decides : (x y : PathV) → Decides (eq_by_cmp path_cmp x y) (x ≡ y)
path_decides x y = (
  λ e. paths_exact x y ((Equal-is (path_cmp x y)).0 e),
  λ e. subst (λ z. eq_by_cmp path_cmp x z ≡ true) e (ap is_eq (tied_itself paths_total x)),
)

pub paths_tie : (x y : PathV) → pointwise (pointwise nat_eq) x y ≡ eq_by_cmp path_cmp x y
paths_tie x y = one_answer (pointwise (pointwise nat_eq) x y) (eq_by_cmp path_cmp x y) (pointwise_decides bytes_decides x y) (path_decides x y)

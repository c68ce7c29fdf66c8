-- What comparisons of files told, kept by pairs. The key lemmas are nothing_compared and one_more.
use Rattle.std.proofs.Common.{◌≡◌, Bool, true, false, cond, [], refl, sym, ap, ◌∙◌, subst₂, None, Some}
use Rattle.std.specs.BTreeMap.{UpdatesBy, get, is_at}
use Rattle.std.specs.Cmp.{Equal-is}
use Rattle.std.specs.FinMap.{IsAntisymmetric}
use Rattle.std.specs.Map.{lookup}
use Rattle.std.specs.Ordering.{is_eq, ordering_then}
use Rattle.std.specs.declared.cmp.Ordering.{Ordering}
use Rattle.std.specs.declared.cmp.Ordering.TheVariants.{Less, Equal, Greater}
use Rattle.ids.specs.Key.{Objects}
use Rattle.ids.specs.ObjectId.{id_cmp}
use Rattle.ids.proofs.KeyOrderLemmas.{id_cmp_exact}
use Rattle.tree_merge.specs.Compared.{AreCompared, IsSame, pair_cmp}
use Rattle.tree_merge.specs.declared.compared.Compared.{Compared}
use Rattle.tree_merge.specs.declared.compared.Pair.{Pair}

-- both parts tie where the whole does
then_equal : (r s : Ordering) → ordering_then r s ≡ Equal → (r ≡ Equal) × (s ≡ Equal)
then_equal Less s e = cc
then_equal Equal s e = (refl, e)
then_equal Greater s e = cc

pub pair_cmp_exact : IsAntisymmetric pair_cmp
pair_cmp_exact a b e =
    let parts = then_equal (id_cmp a.left b.left) (id_cmp a.right b.right) e in
    let lefts : a.left ≡ b.left = id_cmp_exact a.left b.left parts.0 in
    let rights : a.right ≡ b.right = id_cmp_exact a.right b.right parts.1 in
    λ i. record { left = lefts i; right = rights i }

-- of no pair anything is told
pub nothing_compared : (objects : Objects) (compared : Compared) → compared.pairs.entries ≡ [] → AreCompared objects compared
nothing_compared objects compared none = record { right = λ pair same told. by pair same (sym told ∙ ap (lookup (is_at (pair_cmp pair))) none) }
  where
    by : (pair : Pair) (same : Bool) → Some same ≡ None → IsSame objects pair.left pair.right same
    by pair same e = cc

-- of one pair more it is told
pub one_more : (objects : Objects) (old new : Compared) (pair : Pair) (same : Bool) → UpdatesBy pair_cmp (pair_cmp pair) old.pairs new.pairs (Some same)
    → AreCompared objects old → IsSame objects pair.left pair.right same → AreCompared objects new
one_more objects old new pair same updates compared is = record { right = λ q told since. by q told (is_eq (pair_cmp pair q)) refl (sym (updates.0 q) ∙ since) }
  where
    by : (q : Pair) (told b : Bool) → is_eq (pair_cmp pair q) ≡ b → cond b (Some same) (get pair_cmp old.pairs q) ≡ Some told → IsSame objects q.left q.right told
    by q told true e at =
        let one : pair ≡ q = pair_cmp_exact pair q ((Equal-is (pair_cmp pair q)).0 e) in
        let value : same ≡ told = cc in
        subst₂ (λ (p : Pair) (b : Bool). IsSame objects p.left p.right b) one value is
    by q told false e at = compared.right q told at

-- What taking an end entry leaves of a `BTreeMap` seen as a finite map. The key lemmas are entries_last and entries_first.
use Rattle.std.proofs.Common.{◌≡◌, List, [], ◌∷◌, ◌++◌, All, refl, sym, ap, ◌∙◌, subst, Ordering, Less}
use Rattle.std.specs.List.{AllByRecursion}
use Rattle.std.specs.List.Sorted.{IsStrictlySortedBy}
use Rattle.std.specs.Cmp.{IsTotalOrder}
use Rattle.std.specs.Map.{keys_of}
use Rattle.std.specs.BTreeMap.{BTreeMap, IsOrdered}
use Rattle.std.specs.FinMap as map
use Rattle.std.proofs.lemmas.List.Elements.{recursion_from_All}
use Rattle.ids.specs.MapView.{map_of}
use Rattle.ids.proofs.MapLemmas.{entries-map_of}
use Rattle.ids.proofs.BasicLemmas.{AllByRecursion-push}

-- a key above the others goes to the end
pub IsStrictlySortedBy-push : {K : Type 0} (R : K → K → Ordering) (ks : List K) (k : K)
    → IsStrictlySortedBy R ks → AllByRecursion (λ q. R q k ≡ Less) ks → IsStrictlySortedBy R (ks ++ k ∷ [])
unfolding IsStrictlySortedBy
IsStrictlySortedBy-push R [] k s h = (tt, tt)
IsStrictlySortedBy-push R (q ∷ ks) k s h = (AllByRecursion-push (λ y. R q y ≡ Less) ks k s.0 h.0, IsStrictlySortedBy-push R ks k s.1 h.1)

keys_push : {K X : Type 0} (es : List (K × X)) (e : K × X) → keys_of (es ++ e ∷ []) ≡ keys_of es ++ e.0 ∷ []
keys_push [] e = refl
keys_push (f ∷ es) e = ap (λ ks. f.0 ∷ ks) (keys_push es e)

pub entries_last : {K X : Type 0} {R : K → K → Ordering} (o : IsTotalOrder R) (m n : BTreeMap K X) (e : K × X)
    → m.entries ≡ n.entries ++ e ∷ [] → IsOrdered R n → All (λ q. R q e.0 ≡ Less) (keys_of n.entries)
    → map.entries (map_of R m) ≡ map.entries (map_of R n) ++ e ∷ []
entries_last {R = R} o m n e is ordered below =
    let pushed = IsStrictlySortedBy-push R (keys_of n.entries) e.0 ordered (recursion_from_All (λ q. R q e.0 ≡ Less) (keys_of n.entries) below) in
    let sorted : IsOrdered R m = subst (IsStrictlySortedBy R) (sym (ap keys_of is ∙ keys_push n.entries e)) pushed in
    entries-map_of o m sorted ∙ is ∙ ap (λ es. es ++ e ∷ []) (sym (entries-map_of o n ordered))

pub entries_first : {K X : Type 0} {R : K → K → Ordering} (o : IsTotalOrder R) (m n : BTreeMap K X) (e : K × X)
    → m.entries ≡ e ∷ n.entries → IsOrdered R n → All (λ q. R e.0 q ≡ Less) (keys_of n.entries)
    → map.entries (map_of R m) ≡ e ∷ map.entries (map_of R n)
unfolding IsStrictlySortedBy
entries_first {R = R} o m n e is ordered above =
    let first : IsStrictlySortedBy R (e.0 ∷ keys_of n.entries) = (recursion_from_All (λ q. R e.0 q ≡ Less) (keys_of n.entries) above, ordered) in
    let sorted : IsOrdered R m = subst (IsStrictlySortedBy R) (sym (ap keys_of is)) first in
    entries-map_of o m sorted ∙ is ∙ ap (λ es. e ∷ es) (sym (entries-map_of o n ordered))

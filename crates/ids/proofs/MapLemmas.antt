-- What a `BTreeMap`'s calls do to the finite map that it is seen as, for any keys in a total order. The key lemmas are
-- get-map_of, insert-map_of, remove-map_of, len-map_of, entries-map_of, insert-same, paired_next
-- and keys-built.
use Rattle.std.proofs.Common.{◌≡◌, ℕ, Bool, true, false, cond, is_some, List, [], ◌∷◌, ◌++◌, length, None, Some, refl, sym, ap, ◌∙◌, arith, ◌<◌, zero, suc, true≢false}
use Rattle.std.specs.BTreeMap as tree
use Rattle.std.specs.BTreeMap.{BTreeMap, IsFromIterResult, IsLowerBound, UpdatesBy, is_at, IsOrdered, btree_map_len}
use Rattle.std.specs.BTreeMap.Range.{IsRangeOf}
use Rattle.std.specs.Cmp.{Equal-is, IsTotalOrder, eq_by_cmp_equiv}
use Rattle.std.specs.FinMap as map
use Rattle.std.specs.List.{AllByRecursion}
use Rattle.std.specs.List.Sorted.{IsStrictlySortedBy}
use Rattle.std.specs.Map.{lookup, keys_of}
use Rattle.std.specs.Set.{is_member}
use Rattle.std.specs.Ordering.{is_eq, eq_by_cmp}
use Rattle.std.specs.declared.cmp.Ordering.{Ordering}
use Rattle.std.specs.declared.cmp.Ordering.TheVariants.{Less}
use Rattle.std.specs.declared.ops.Bound.TheVariants.{Excluded, Unbounded}
use Rattle.ids.specs.MapView.{IsLeastAbove, map_of}
use Rattle.std.proofs.lemmas.List.{nil_from_length}
use Rattle.std.proofs.lemmas.Map.Made.{is_some-lookup, is_some-update_all}

-- a number that is not above 0
pub no_number : (n : ℕ) → (0 < n → false ≡ true) → n ≡ 0
no_number zero h = refl
no_number (suc n) h = absurd (true≢false (sym (h (omega arith))))

module _ {K X : Type 0} (R : K → K → Ordering) where
  entries-empty : map.entries (map.empty {X = X} {R = R}) ≡ []
  entries-empty = nil_from_length (map.entries (map.empty {X = X} {R = R})) (sym (map.len-entries (map.empty {X = X} {R = R})) ∙ map.len-empty R X)

  find-lookup : (q : K) (es : List (K × X)) → map.find R q es ≡ lookup (is_at (R q)) es
  find-lookup q [] = refl
  find-lookup q (e ∷ es) = ap (cond (is_eq (R q e.0)) (Some e.1)) (find-lookup q es)

  put_first : (e : K × X) (es : List (K × X)) → AllByRecursion (λ y. R e.0 y ≡ Less) (keys_of es) → map.put R e.0 e.1 es ≡ e ∷ es
  put_first e [] below = refl
  put_first e (f ∷ fs) below = rw below.0 refl

module _ {K X : Type 0} {R : K → K → Ordering} (o : IsTotalOrder R) where
  pub get-map_of : (m : BTreeMap K X) (q : K) → map.get (map_of R m) q ≡ tree.get R m q
  get-map_of m q = map.get-from_entries o m.entries q ∙ find-lookup R q m.entries

  entries-sorted : (es : List (K × X)) → IsStrictlySortedBy R (keys_of es) → map.entries (map.from_entries {R = R} es) ≡ es
  unfolding IsStrictlySortedBy
  entries-sorted [] is = entries-empty R
  entries-sorted (e ∷ es) is =
      map.entries-insert o (map.from_entries {R = R} es) e.0 e.1 ∙ ap (map.put R e.0 e.1) (entries-sorted es is.1) ∙ put_first R e es is.0

  pub entries-map_of : (m : BTreeMap K X) → IsOrdered R m → map.entries (map_of R m) ≡ m.entries
  entries-map_of m is = entries-sorted m.entries is

  pub len-map_of : (m : BTreeMap K X) → IsOrdered R m → map.len (map_of R m) ≡ btree_map_len m
  len-map_of m is = map.len-entries (map_of R m) ∙ ap length (entries-map_of m is)

  -- the first of a map's entries above a key
  pub least_above-range : (m : BTreeMap K X) (after : K) (r : List (K × X)) (e : K × X) (t : List (K × X))
      → IsRangeOf R (Excluded after) Unbounded m r → r ≡ e ∷ t → IsLeastAbove (map_of R m) (Some after) e.0
  least_above-range m after r e t is first =
      let entry = rw first at is.1 in record {
        there = rw (get-map_of m e.0, entry.1) refl;
        above = entry.0.0;
        least = λ q above there. rw first at (is.2 q (above, tt) (rw (get-map_of m q) at there));
      }

  pub none_above-range : (m : BTreeMap K X) (after : K) (r : List (K × X)) → IsRangeOf R (Excluded after) Unbounded m r → r ≡ []
      → (q : K) → R after q ≡ Less → map.get (map_of R m) q ≡ None
  none_above-range m after r is none q above = get-map_of m q ∙ is.5 none q (above, tt)

  -- the first of a map's entries
  pub least-first : (m : BTreeMap K X) (key : K) (value : X) → tree.get R m key ≡ Some value → IsLowerBound R m key
      → IsLeastAbove (map_of R m) None key
  least-first m key value found lower = record {
    there = rw (get-map_of m key, found) refl;
    above = tt;
    least = λ q _ there. lower q (rw (get-map_of m q) at there);
  }

  pub none-first : (m : BTreeMap K X) → btree_map_len m ≡ 0 → (q : K) → map.get (map_of R m) q ≡ None
  none-first m none q = get-map_of m q ∙ ap (lookup (is_at (R q))) (nil_from_length m.entries none)

  module _ (exact : map.IsAntisymmetric R) where
    pub insert-map_of : (m n : BTreeMap K X) (k : K) (v : X) → UpdatesBy R (R k) m n (Some v) → map_of R n ≡ map.insert (map_of R m) k v
    insert-map_of m n k v updates = map.same_map o exact (map_of R n) (map.insert (map_of R m) k v) (λ q.
        get-map_of n q ∙ updates.0 q ∙ ap (λ b. cond b (Some v) (tree.get R m q)) ((eq_by_cmp_equiv o).symm k q)
        ∙ ap (cond (eq_by_cmp R q k) (Some v)) (sym (get-map_of m q)) ∙ sym (map.get-insert o (map_of R m) k v q))

    pub remove-map_of : (m n : BTreeMap K X) (k : K) → UpdatesBy R (R k) m n None → map_of R n ≡ map.remove (map_of R m) k
    remove-map_of m n k updates = map.same_map o exact (map_of R n) (map.remove (map_of R m) k) (λ q.
        get-map_of n q ∙ updates.0 q ∙ ap (λ b. cond b None (tree.get R m q)) ((eq_by_cmp_equiv o).symm k q)
        ∙ ap (cond (eq_by_cmp R q k) None) (sym (get-map_of m q)) ∙ sym (map.get-remove o (map_of R m) k q))

    -- to put what stands at a key changes nothing
    pub insert-same : (m : map.FinMap R X) (k : K) (v : X) → map.get m k ≡ Some v → map.insert m k v ≡ m
    insert-same m k v found = map.same_map o exact (map.insert m k v) m (λ q. map.get-insert o m k v q ∙ there q (eq_by_cmp R q k) refl)
      where
        there : (q : K) (b : Bool) → eq_by_cmp R q k ≡ b → cond b (Some v) (map.get m q) ≡ map.get m q
        there q true e = sym found ∙ map.get_tied o m q k ((Equal-is (R q k)).0 e)
        there q false e = refl

-- ---- keys alone

-- one key more has its pair
pub paired_next : {K X : Type 0} (pairs : List (K × X)) (key : K) (value : X) (left : List K)
    → keys_of (pairs ++ (key, value) ∷ []) ++ left ≡ keys_of pairs ++ key ∷ left
paired_next [] key value left = refl
paired_next {K} (p ∷ pairs) key value left = ap (λ (keys : List K). p.0 ∷ keys) (paired_next pairs key value left)

-- a map of pairs has the keys of the map whose keys these are
pub keys-built : {K V X : Type 0} {R : K → K → Ordering} (o : IsTotalOrder R) (m : BTreeMap K V) (pairs : List (K × X)) (n : BTreeMap K X)
    → keys_of pairs ≡ tree.keys m → IsFromIterResult R pairs n → (q : K) → is_some (map.get (map_of R n) q) ≡ is_some (map.get (map_of R m) q)
keys-built {K} {R = R} o m pairs n same made q =
    ap is_some (get-map_of o n q ∙ made.0 q) ∙ is_some-update_all (eq_by_cmp_equiv o) q (λ _. None) pairs
    ∙ ap (λ (keys : List K). is_member (eq_by_cmp R) keys q) same ∙ sym (is_some-lookup (eq_by_cmp R q) m.entries) ∙ ap is_some (sym (get-map_of o m q))

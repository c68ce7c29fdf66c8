-- Objects of a table as a list: each once, and each found again once they are put. The key lemmas are listed_all,
-- listed_once, found_added, found_listed and found_last.
use Rattle.std.proofs.Common.{◌≡◌, ◌⊎◌, inl, inr, ℕ, Bool, true, false, if◌then◌else◌, cond, T, List, [], ◌∷◌, ◌++◌, refl, sym, ap, ap₂, ◌∙◌, subst, Option, None, Some}
use Rattle.std.specs.FinMap as map
use Rattle.std.specs.FinMap.Entries.{below_all}
use Rattle.std.specs.List.{AllByRecursion, IsDistinct}
use Rattle.std.specs.Ordering.{eq_by_cmp, is_lt}
use Rattle.ids.specs.Key.{Objects, key_cmp}
use Rattle.ids.specs.declared.key.Key.{Key}
use Rattle.ids.proofs.KeyOrderLemmas.{key_cmp_total}
use Rattle.library_rules.specs.Changes.{keys_added, put_new, with_added}
use Rattle.library_rules.specs.LibraryState.{is_stored}
use Rattle.library_rules.specs.declared.entry.Stored.{Stored}
use Rattle.library_rules.proofs.KeepingLemmas.{grown}
use Rattle.object_graph.proofs.KeyLemmas.{same_key, same_key-itself, same_key-true}
use Rattle.depot.specs.Plan.{listed}
use Rattle.depot.proofs.UpdatePlanLemmas.{all_gone_after}
use Rattle.ids.proofs.BasicLemmas.{apart_from_is_lt, both_from_T}

-- ---- entries in order

-- an entry is one of a list
abbrev pub Among : (Key × List ℕ) → List (Key × List ℕ) → Type 0
Among e [] = ⊥
Among e (f ∷ fs) = (e ≡ f) ⊎ Among e fs

-- a key below all of a list is none of it
apart_below : (q : Key) (es : List (Key × List ℕ)) → T (below_all key_cmp q es) → AllByRecursion (λ key. same_key q key ≡ false) (keys_added (listed es))
apart_below q [] h = tt
apart_below q (e ∷ es) h =
    (apart_from_is_lt (key_cmp q e.0) (both_from_T (is_lt (key_cmp q e.0)) (below_all key_cmp q es) h).0, apart_below q es (both_from_T (is_lt (key_cmp q e.0)) (below_all key_cmp q es) h).1)

none_below : (q : Key) (es : List (Key × List ℕ)) → T (below_all key_cmp q es) → map.find key_cmp q es ≡ None
none_below q [] h = refl
none_below q (e ∷ es) h =
    ap₂ (λ (b : Bool) (o : Option (List ℕ)). cond b (Some e.1) o)
    (apart_from_is_lt (key_cmp q e.0) (both_from_T (is_lt (key_cmp q e.0)) (below_all key_cmp q es) h).0)
    (none_below q es (both_from_T (is_lt (key_cmp q e.0)) (below_all key_cmp q es) h).1)

-- an entry of a list in order is what is found at its key
found_sorted : (e : Key × List ℕ) (es : List (Key × List ℕ)) → T (map.is_sorted key_cmp es) → Among e es → map.find key_cmp e.0 es ≡ Some e.1
found_sorted e [] h there = absurd there
found_sorted e (f ∷ es) h (inl is) =
    subst (λ (g : Key × List ℕ). map.find key_cmp g.0 (f ∷ es) ≡ Some g.1) (sym is)
    (ap (λ (b : Bool). cond b (Some f.1) (map.find key_cmp f.0 es)) (same_key-itself f.0))
found_sorted e (f ∷ es) h (inr there) = by (same_key e.0 f.0) refl (found_sorted e es (both_from_T (below_all key_cmp f.0 es) (map.is_sorted key_cmp es) h).1 there)
  where
    never : map.find key_cmp e.0 es ≡ None → map.find key_cmp e.0 es ≡ Some e.1 → ⊥
    never none some = let e : None ≡ Some e.1 = sym none ∙ some in cc

    by : (b : Bool) → same_key e.0 f.0 ≡ b → map.find key_cmp e.0 es ≡ Some e.1 → cond b (Some f.1) (map.find key_cmp e.0 es) ≡ Some e.1
    by false is more = more
    by true is more =
        absurd (never (none_below e.0 es (subst (λ (p : Key). T (below_all key_cmp p es)) (sym (same_key-true e.0 f.0 is)) (both_from_T (below_all key_cmp f.0 es) (map.is_sorted key_cmp es) h).0)) more)

-- what holds of each entry that a table has holds of all listed ones
all_among : (P : Stored → Type 0) (es : List (Key × List ℕ)) → ((e : Key × List ℕ) → Among e es → P (record { key = e.0; bytes = e.1 })) → AllByRecursion P (listed es)
all_among P [] each = tt
all_among P (e ∷ es) each = (each e (inl refl), all_among P es (λ f there. each f (inr there)))

pub listed_all : (P : Stored → Type 0) (m : Objects) → ((key : Key) (bytes : List ℕ) → map.get m key ≡ Some bytes → P (record { key = key; bytes = bytes }))
    → AllByRecursion P (listed (map.entries m))
listed_all P m each = all_among P (map.entries m) (λ e there. each e.0 e.1 (map.get-entries m e.0 ∙ found_sorted e (map.entries m) (map.entries_sorted m) there))

once_sorted : (es : List (Key × List ℕ)) → T (map.is_sorted key_cmp es) → IsDistinct (eq_by_cmp key_cmp) (keys_added (listed es))
unfolding IsDistinct
once_sorted [] h = tt
once_sorted (e ∷ es) h =
    (apart_below e.0 es (both_from_T (below_all key_cmp e.0 es) (map.is_sorted key_cmp es) h).0, once_sorted es (both_from_T (below_all key_cmp e.0 es) (map.is_sorted key_cmp es) h).1)

pub listed_once : (m : Objects) → IsDistinct (eq_by_cmp key_cmp) (keys_added (listed (map.entries m)))
listed_once m = once_sorted (map.entries m) (map.entries_sorted m)

-- ---- one more

pub all_join : {A : Type 0} (P : A → Type 0) (xs ys : List A) → AllByRecursion P xs → AllByRecursion P ys → AllByRecursion P (xs ++ ys)
all_join P [] ys first second = second
all_join P (x ∷ xs) ys first second = (first.0, all_join P xs ys first.1 second)

keys_pushed : (q : Key) (xs : List Stored) (y : Stored) → AllByRecursion (λ key. same_key q key ≡ false) (keys_added xs) → same_key q y.key ≡ false
    → AllByRecursion (λ key. same_key q key ≡ false) (keys_added (xs ++ y ∷ []))
keys_pushed q [] y all last = (last, tt)
keys_pushed q (x ∷ xs) y all last = (all.0, keys_pushed q xs y all.1 last)

pub once_pushed : (xs : List Stored) (y : Stored) → IsDistinct (eq_by_cmp key_cmp) (keys_added xs) → AllByRecursion (λ (x : Stored). same_key x.key y.key ≡ false) xs
    → IsDistinct (eq_by_cmp key_cmp) (keys_added (xs ++ y ∷ []))
unfolding IsDistinct
once_pushed [] y once apart = (tt, tt)
once_pushed (x ∷ xs) y once apart = (keys_pushed x.key xs y once.0 apart.0, once_pushed xs y once.1 apart.1)

-- ---- what is found once they are put

-- the bytes of the first object with a key
abbrev pub found_in : Key → List Stored → Option (List ℕ)
found_in q [] = None
found_in q (x ∷ xs) = cond (same_key q x.key) (Some x.bytes) (found_in q xs)

pub found_added : (A : Objects) (added : List Stored) (q : Key) (bytes : List ℕ) → AllByRecursion (λ (x : Stored). is_stored A x.key ≡ false) added
    → IsDistinct (eq_by_cmp key_cmp) (keys_added added) → found_in q added ≡ Some bytes → map.get (with_added A added) q ≡ Some bytes
unfolding IsDistinct
found_added A [] q bytes gone once e = cc
found_added A (x ∷ added) q bytes gone once e =
    by (same_key q x.key) refl e (λ later. found_added (put_new A x) added q bytes (all_gone_after A x added gone.1 once.0) once.1 later)
  where
    put_found : map.get (put_new A x) x.key ≡ Some x.bytes
    put_found =
        ap (λ b. map.get (if b then A else map.insert A x.key x.bytes) x.key) gone.0
        ∙ map.get-insert key_cmp_total A x.key x.bytes x.key ∙ ap (λ b. cond b (Some x.bytes) (map.get A x.key)) (same_key-itself x.key)

    by : (b : Bool) → same_key q x.key ≡ b → cond b (Some x.bytes) (found_in q added) ≡ Some bytes
        → (found_in q added ≡ Some bytes → map.get (with_added (put_new A x) added) q ≡ Some bytes) → map.get (with_added (put_new A x) added) q ≡ Some bytes
    by true is e later =
        (grown (put_new A x) added).kept q bytes (subst (λ k. map.get (put_new A x) k ≡ Some bytes) (sym (same_key-true q x.key is)) (put_found ∙ e))
    by false is e later = later e

pub found_listed : (es : List (Key × List ℕ)) (rest : List Stored) (q : Key) (bytes : List ℕ) → map.find key_cmp q es ≡ Some bytes → found_in q (listed es ++ rest) ≡ Some bytes
found_listed [] rest q bytes e = cc
found_listed (f ∷ es) rest q bytes e = by (same_key q f.0) e (λ later. found_listed es rest q bytes later)
  where
    by : (b : Bool) → cond b (Some f.1) (map.find key_cmp q es) ≡ Some bytes → (map.find key_cmp q es ≡ Some bytes → found_in q (listed es ++ rest) ≡ Some bytes)
        → cond b (Some f.1) (found_in q (listed es ++ rest)) ≡ Some bytes
    by true e later = e
    by false e later = later e

pub found_last : (xs : List Stored) (y : Stored) → AllByRecursion (λ (x : Stored). same_key y.key x.key ≡ false) xs → found_in y.key (xs ++ y ∷ []) ≡ Some y.bytes
found_last [] y apart = ap (λ b. cond b (Some y.bytes) None) (same_key-itself y.key)
found_last (x ∷ xs) y apart = ap (λ b. cond b (Some x.bytes) (found_in y.key (xs ++ y ∷ []))) apart.0 ∙ found_last xs y apart.1

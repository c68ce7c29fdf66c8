-- Written entries descend by their names, so a directory has one text. The key lemmas are written_names-descend and
-- text_of-permuted.
use Rattle.std.proofs.Common.{◌≡◌, ◌⊎◌, inl, inr, ℕ, List, [], ◌∷◌, ◌++◌, map, reverse, Ordering, Less, Equal, Greater, nat_cmp, refl, sym, ap, ap₂, subst, ◌∙◌}
use Rattle.std.proofs.lemmas.List.{map-append, reverse-append}
use Rattle.std.proofs.lemmas.List.Elements.{recursion_from_All, All-from_recursion}
use Rattle.std.proofs.lemmas.List.Sorted.{All-permutation, IsPermutation-map, IsPermutation-sym, IsPermutation-trans}
use Rattle.std.proofs.lemmas.Map.Keys.{IsDistinct-IsPermutation}
use Rattle.std.proofs.lemmas.Cmp.{nat_list_eq_equiv}
use Rattle.std.specs.BTreeMap.{insert_entry}
use Rattle.std.specs.Cmp.Lexicographic.{nat_list_cmp_total, slice_cmp}
use Rattle.std.specs.FinMap.{slice_cmp-IsAntisymmetric, nat_cmp-IsAntisymmetric}
use Rattle.std.specs.List.{AllByRecursion, IsDistinct}
use Rattle.std.specs.List.Sorted.{IsPermutation, IsStrictlySortedBy}
use Rattle.std.specs.Map.{keys_of, values_of}
use Rattle.std.specs.Ordering.{match_ordering, ordering_reverse}
use Rattle.std.specs.Str.{bytes_eq}
use Rattle.ids.proofs.BasicLemmas.{AllByRecursion-push}
use Rattle.serde_json.specs.Written.{compact_text}
use Rattle.fs_objects.specs.Directory.{names_of}
use Rattle.fs_objects.specs.Spelling.{directory_with, entry_data, in_written_order, placed, text_of}
use Rattle.fs_objects.specs.declared.dirent.Dirent.{Dirent}
use Rattle.fs_objects.specs.declared.fs_object.FsObject.TheVariants.{Dir}
use Rattle.fs_objects.proofs.OrderLemmas.{in_written_order-permutes}

abbrev Named : Type 0
Named = List ℕ × Dirent

-- the order of the bytes
abbrev by_bytes : List ℕ → List ℕ → Ordering
by_bytes = slice_cmp nat_cmp

abbrev Ascend : List (List ℕ) → Type 0
Ascend = IsStrictlySortedBy by_bytes

-- each of the keys is above this one
abbrev AreAbove : List ℕ → List (List ℕ) → Type 0
AreAbove k keys = AllByRecursion (λ key. by_bytes k key ≡ Less) keys

weaken : {X : Type 0} (P Q : X → Type 0) (xs : List X) → ((x : X) → P x → Q x) → AllByRecursion P xs → AllByRecursion Q xs
weaken P Q [] gives all = tt
weaken P Q (x ∷ xs) gives all = (gives x all.0, weaken P Q xs gives all.1)

turned : (k l : List ℕ) → by_bytes k l ≡ Greater → by_bytes l k ≡ Less
turned k l is = nat_list_cmp_total.antisymm l k ∙ ap ordering_reverse is

not_both : (k l : List ℕ) → by_bytes k l ≡ Less → by_bytes l k ≡ Less → ⊥
not_both k l is back =
    let differ : Less ≡ Greater = sym is ∙ nat_list_cmp_total.antisymm k l ∙ ap ordering_reverse back in
    absurd (cc)

-- ---- keys ascend, whatever is put in

above_at : (l : List ℕ) (e : Named) (es : List Named) (k : List ℕ) (v : Dirent) (o : Ordering) → AreAbove l (keys_of (e ∷ es)) → by_bytes l k ≡ Less
    → AreAbove l (keys_of (insert_entry by_bytes es k v)) → AreAbove l (keys_of (match_ordering o ((k, v) ∷ e ∷ es) ((e.0, v) ∷ es) (e ∷ insert_entry by_bytes es k v)))
above_at l e es k v Less all is later = (is, all)
above_at l e es k v Equal all is later = all
above_at l e es k v Greater all is later = (all.0, later)

above_put : (l : List ℕ) (es : List Named) (k : List ℕ) (v : Dirent) → AreAbove l (keys_of es) → by_bytes l k ≡ Less → AreAbove l (keys_of (insert_entry by_bytes es k v))
above_put l [] k v all is = (is, tt)
above_put l (e ∷ es) k v all is = above_at l e es k v (by_bytes k e.0) all is (above_put l es k v all.1 is)

ascend_at : (e : Named) (es : List Named) (k : List ℕ) (v : Dirent) (o : Ordering) → by_bytes k e.0 ≡ o → Ascend (keys_of (e ∷ es))
    → Ascend (keys_of (insert_entry by_bytes es k v)) → Ascend (keys_of (match_ordering o ((k, v) ∷ e ∷ es) ((e.0, v) ∷ es) (e ∷ insert_entry by_bytes es k v)))
unfolding IsStrictlySortedBy
ascend_at e es k v Less is all later =
    let above = weaken (λ key. by_bytes e.0 key ≡ Less) (λ key. by_bytes k key ≡ Less) (keys_of es) (λ key h. nat_list_cmp_total.trans k e.0 key is h) all.0 in
    ((is, above), all)
ascend_at e es k v Equal is all later = all
ascend_at e es k v Greater is all later = (above_put e.0 es k v all.0 (turned k e.0 is), later)

ascend_put : (es : List Named) (k : List ℕ) (v : Dirent) → Ascend (keys_of es) → Ascend (keys_of (insert_entry by_bytes es k v))
unfolding IsStrictlySortedBy
ascend_put [] k v all = (tt, tt)
ascend_put (e ∷ es) k v all = ascend_at e es k v (by_bytes k e.0) refl all (ascend_put es k v all.1)

-- each entry stands under its own name
abbrev AreNamed : List Named → Type 0
AreNamed es = AllByRecursion (λ e. e.0 ≡ e.1.name) es

named_at : (e : Named) (es : List Named) (v : Dirent) (o : Ordering) → by_bytes v.name e.0 ≡ o → AreNamed (e ∷ es) → AreNamed (insert_entry by_bytes es v.name v)
    → AreNamed (match_ordering o ((v.name, v) ∷ e ∷ es) ((e.0, v) ∷ es) (e ∷ insert_entry by_bytes es v.name v))
named_at e es v Less is all later = (refl, all)
named_at e es v Equal is all later = (sym (slice_cmp-IsAntisymmetric nat_cmp-IsAntisymmetric v.name e.0 is), all.1)
named_at e es v Greater is all later = (all.0, later)

named_put : (es : List Named) (v : Dirent) → AreNamed es → AreNamed (insert_entry by_bytes es v.name v)
named_put [] v all = (refl, tt)
named_put (e ∷ es) v all = named_at e es v (by_bytes v.name e.0) refl all (named_put es v all.1)

placed-ascend : (before : List Named) (entries : List Dirent) → Ascend (keys_of before) → Ascend (keys_of (placed before entries))
placed-ascend before [] all = all
placed-ascend before (e ∷ entries) all = placed-ascend (insert_entry by_bytes before e.name e) entries (ascend_put before e.name e all)

placed-named : (before : List Named) (entries : List Dirent) → AreNamed before → AreNamed (placed before entries)
placed-named before [] all = all
placed-named before (e ∷ entries) all = placed-named (insert_entry by_bytes before e.name e) entries (named_put before e all)

keys_are_names : (es : List Named) → AreNamed es → keys_of es ≡ names_of (values_of es)
keys_are_names [] all = refl
keys_are_names (e ∷ es) all = ap₂ (λ (k : List ℕ) (ks : List (List ℕ)). k ∷ ks) all.0 (keys_are_names es all.1)

-- the names of the placed entries ascend
names_ascend : (entries : List Dirent) → Ascend (names_of (values_of (placed [] entries)))
unfolding IsStrictlySortedBy
names_ascend entries = subst Ascend (keys_are_names (placed [] entries) (placed-named [] entries tt)) (placed-ascend [] entries tt)

-- ---- the last first

turned_list : {X : Type 0} (P : X → Type 0) (xs : List X) → AllByRecursion P xs → AllByRecursion P (reverse xs)
turned_list P [] all = tt
turned_list P (x ∷ xs) all = subst (AllByRecursion P) (sym (reverse-append (x ∷ []) xs)) (AllByRecursion-push P (reverse xs) x (turned_list P xs all.1) all.0)

-- each of the names is before the next, by the order turned round
abbrev Descend : List (List ℕ) → Type 0
Descend = IsStrictlySortedBy (λ a b. slice_cmp nat_cmp b a)

descend_push : (ks : List (List ℕ)) (k : List ℕ) → Descend ks → AreAbove k ks → Descend (ks ++ k ∷ [])
unfolding IsStrictlySortedBy
descend_push [] k all above = (tt, tt)
descend_push (l ∷ ks) k all above = (AllByRecursion-push (λ key. by_bytes key l ≡ Less) ks k all.0 above.0, descend_push ks k all.1 above.1)

descend_reversed : (ks : List (List ℕ)) → Ascend ks → Descend (reverse ks)
unfolding IsStrictlySortedBy
descend_reversed [] all = tt
descend_reversed (k ∷ ks) all =
    subst Descend (sym (reverse-append (k ∷ []) ks))
    (descend_push (reverse ks) k (descend_reversed ks all.1) (turned_list (λ key. by_bytes k key ≡ Less) ks all.0))

names-reverse : (entries : List Dirent) → names_of (reverse entries) ≡ reverse (names_of entries)
names-reverse [] = refl
names-reverse (e ∷ entries) =
    ap names_of (reverse-append (e ∷ []) entries)
    ∙ map-append (λ (d : Dirent). d.name) (reverse entries) (e ∷ [])
    ∙ ap (λ names. names ++ e.name ∷ []) (names-reverse entries)
    ∙ sym (reverse-append (e.name ∷ []) (names_of entries))

-- the names of written entries descend
pub written_names-descend : (entries : List Dirent) → IsStrictlySortedBy (λ a b. slice_cmp nat_cmp b a) (names_of (in_written_order entries))
unfolding in_written_order
written_names-descend entries =
    let values = values_of (placed [] entries) in
    subst Descend (sym (names-reverse values)) (descend_reversed (names_of values) (names_ascend entries))

-- ---- two lists of the same entries that descend are the same

abbrev In : Dirent → List Dirent → Type 0
In z [] = ⊥
In z (x ∷ xs) = (z ≡ x) ⊎ In z xs

abbrev AreIn : List Dirent → List Dirent → Type 0
AreIn xs zs = AllByRecursion (λ z. In z xs) zs

-- each of the names is below this one
abbrev AreBelow : List ℕ → List Dirent → Type 0
AreBelow k entries = AllByRecursion (λ name. by_bytes name k ≡ Less) (names_of entries)

all_in : (xs : List Dirent) → AreIn xs xs
all_in [] = tt
all_in (x ∷ xs) = (inl refl, weaken (λ z. In z xs) (λ z. (z ≡ x) ⊎ In z xs) xs (λ z there. inr there) (all_in xs))

below_in : (k : List ℕ) (z : Dirent) (xs : List Dirent) → AreBelow k xs → In z xs → by_bytes z.name k ≡ Less
below_in k z [] all there = absurd there
below_in k z (x ∷ xs) all (inl same) = ap (λ (d : Dirent). by_bytes d.name k) same ∙ all.0
below_in k z (x ∷ xs) all (inr there) = below_in k z xs all.1 there

-- what is below the first one is one of the others
in_rest : (x z : Dirent) (xs : List Dirent) → by_bytes z.name x.name ≡ Less → (z ≡ x) ⊎ In z xs → In z xs
in_rest x z xs below (inl same) =
    let less : by_bytes x.name x.name ≡ Less = ap (λ (d : Dirent). by_bytes d.name x.name) (sym same) ∙ below in
    absurd (not_both x.name x.name less less)
in_rest x z xs below (inr there) = there

rest_in : (x : Dirent) (zs xs : List Dirent) → AreBelow x.name zs → AreIn (x ∷ xs) zs → AreIn xs zs
rest_in x [] xs below all = tt
rest_in x (z ∷ zs) xs below all = (in_rest x z xs below.0 all.0, rest_in x zs xs below.1 all.1)

same_first : (x y : Dirent) (xs ys : List Dirent) → AreBelow x.name xs → AreBelow y.name ys → In y (x ∷ xs) → In x (y ∷ ys) → x ≡ y
same_first x y xs ys below also (inl same) there = sym same
same_first x y xs ys below also (inr here) (inl same) = same
same_first x y xs ys below also (inr here) (inr there) = absurd (not_both x.name y.name (below_in y.name x ys also there) (below_in x.name y xs below here))

same_list : (xs ys : List Dirent) → Descend (names_of xs) → Descend (names_of ys) → AreIn xs ys → AreIn ys xs → xs ≡ ys
unfolding IsStrictlySortedBy
same_list [] [] down also in_xs in_ys = refl
same_list [] (y ∷ ys) down also in_xs in_ys = absurd in_xs.0
same_list (x ∷ xs) [] down also in_xs in_ys = absurd in_ys.0
same_list (x ∷ xs) (y ∷ ys) down also in_xs in_ys =
    let first = same_first x y xs ys down.0 also.0 in_xs.0 in_ys.0 in
    let below_x = subst (λ (d : Dirent). AreBelow d.name ys) (sym first) also.0 in
    let below_y = subst (λ (d : Dirent). AreBelow d.name xs) first down.0 in
    ap₂ (λ (d : Dirent) (ds : List Dirent). d ∷ ds) first
    (same_list xs ys down.1 also.1 (rest_in x ys xs below_x in_xs.1) (rest_in y xs ys below_y in_ys.1))

are_in : (xs ys : List Dirent) → IsPermutation xs ys → AreIn xs ys
are_in xs ys same =
    recursion_from_All (λ z. In z xs) ys (All-permutation (λ z. In z xs) xs ys same (All-from_recursion (λ z. In z xs) xs (all_in xs)))

-- the same entries are written in one order
written_order-permuted : (entries others : List Dirent) → IsDistinct bytes_eq (names_of entries) → IsPermutation entries others → in_written_order entries ≡ in_written_order others
written_order-permuted entries others distinct same =
    let also = IsDistinct-IsPermutation bytes_eq nat_list_eq_equiv.symm (names_of entries) (names_of others) (IsPermutation-map (λ (d : Dirent). d.name) entries others same) distinct in
    let xs = in_written_order entries in
    let ys = in_written_order others in
    let mixed : IsPermutation xs ys =
    IsPermutation-trans xs entries ys (IsPermutation-sym entries xs (in_written_order-permutes entries distinct))
    (IsPermutation-trans entries others ys same (in_written_order-permutes others also)) in
    same_list xs ys (written_names-descend entries) (written_names-descend others) (are_in xs ys mixed) (are_in ys xs (IsPermutation-sym xs ys mixed))

-- and have one text
pub text_of-permuted : (entries others : List Dirent) → IsDistinct bytes_eq (names_of entries) → IsPermutation entries others → text_of (Dir entries) ≡ text_of (Dir others)
text_of-permuted entries others distinct same =
    ap (λ written. compact_text (directory_with (map entry_data written))) (written_order-permuted entries others distinct same)

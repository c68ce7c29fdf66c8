-- The written order of entries: the same entries, where their names are distinct. The key lemma is
-- in_written_order-permutes.
use Rattle.std.proofs.Common.{◌≡◌, ℕ, List, [], ◌∷◌, ◌++◌, false, Ordering, Less, Equal, Greater, is_eq, nat_cmp, refl, sym, ap, subst, ◌∙◌, true≢false, append-nil}
use Rattle.std.proofs.lemmas.Cmp.{nat_list_eq_equiv}
use Rattle.std.proofs.lemmas.List.Sorted.{IsPermutation-refl, IsPermutation-cons, IsPermutation-middle, IsPermutation-trans, IsPermutation-append_left, IsPermutation-reverse, IsPermutation-map}
use Rattle.std.proofs.lemmas.Map.Keys.{IsDistinct-head, IsDistinct-tail, IsDistinct-IsPermutation}
use Rattle.std.proofs.lemmas.Map.Text.{is_eq-slice_cmp}
use Rattle.std.specs.BTreeMap.{insert_entry}
use Rattle.std.specs.Cmp.Lexicographic.{slice_cmp}
use Rattle.std.specs.List.{AllByRecursion, IsDistinct}
use Rattle.std.specs.List.Sorted.{IsPermutation}
use Rattle.std.specs.Map.{keys_of, values_of}
use Rattle.std.specs.Ordering.{match_ordering}
use Rattle.std.specs.Str.{bytes_eq}
use Rattle.std.proofs.lemmas.Bool.{or_parts}
use Rattle.fs_objects.specs.Directory.{names_of, is_taken}
use Rattle.fs_objects.specs.Spelling.{placed, in_written_order}
use Rattle.fs_objects.specs.declared.dirent.Dirent.{Dirent}

abbrev Named : Type 0
Named = List ℕ × Dirent

-- ---- one entry under a new name

put_fresh_at : (e : Named) (es : List Named) (k : List ℕ) (v : Dirent) (o : Ordering) → slice_cmp nat_cmp k e.0 ≡ o → bytes_eq k e.0 ≡ false
    → IsPermutation (v ∷ values_of es) (values_of (insert_entry (slice_cmp nat_cmp) es k v))
    → IsPermutation (v ∷ e.1 ∷ values_of es) (values_of (match_ordering o ((k, v) ∷ e ∷ es) ((e.0, v) ∷ es) (e ∷ insert_entry (slice_cmp nat_cmp) es k v)))
put_fresh_at e es k v Less is apart later = IsPermutation-refl (v ∷ e.1 ∷ values_of es)
put_fresh_at e es k v Equal is apart later = absurd (true≢false (sym (ap is_eq is) ∙ is_eq-slice_cmp k e.0 ∙ apart))
put_fresh_at e es k v Greater is apart later =
    IsPermutation-trans (v ∷ e.1 ∷ values_of es) (e.1 ∷ v ∷ values_of es) _ (IsPermutation-middle (v ∷ []) e.1 (values_of es)) (IsPermutation-cons e.1 (v ∷ values_of es) _ later)

put_fresh : (es : List Named) (k : List ℕ) (v : Dirent) → is_taken (keys_of es) k ≡ false → IsPermutation (v ∷ values_of es) (values_of (insert_entry (slice_cmp nat_cmp) es k v))
put_fresh [] k v fresh = IsPermutation-refl (v ∷ [])
put_fresh (e ∷ es) k v fresh =
    put_fresh_at e es k v (slice_cmp nat_cmp k e.0) refl (or_parts (bytes_eq k e.0) (is_taken (keys_of es) k) fresh).0 (put_fresh es k v (or_parts (bytes_eq k e.0) (is_taken (keys_of es) k) fresh).1)

untaken_at : (e : Named) (es : List Named) (k : List ℕ) (v : Dirent) (q : List ℕ) (o : Ordering) → slice_cmp nat_cmp k e.0 ≡ o → bytes_eq q k ≡ false → bytes_eq q e.0 ≡ false
    → is_taken (keys_of es) q ≡ false → is_taken (keys_of (insert_entry (slice_cmp nat_cmp) es k v)) q ≡ false
    → is_taken (keys_of (match_ordering o ((k, v) ∷ e ∷ es) ((e.0, v) ∷ es) (e ∷ insert_entry (slice_cmp nat_cmp) es k v))) q ≡ false
untaken_at e es k v q Less is apart here rest later = rw (apart, here) rest
untaken_at e es k v q Equal is apart here rest later = rw here rest
untaken_at e es k v q Greater is apart here rest later = rw here later

-- a name that differs from the new one and from the keys stays untaken
untaken : (es : List Named) (k : List ℕ) (v : Dirent) (q : List ℕ) → bytes_eq q k ≡ false → is_taken (keys_of es) q ≡ false → is_taken (keys_of (insert_entry (slice_cmp nat_cmp) es k v)) q ≡ false
untaken [] k v q apart fresh = rw apart
untaken (e ∷ es) k v q apart fresh =
    let rest = (or_parts (bytes_eq q e.0) (is_taken (keys_of es) q) fresh).1 in
    untaken_at e es k v q (slice_cmp nat_cmp k e.0) refl apart (or_parts (bytes_eq q e.0) (is_taken (keys_of es) q) fresh).0 rest (untaken es k v q apart rest)

-- ---- all entries

-- no entry has a key for its name
abbrev AreFresh : List (List ℕ) → List Dirent → Type 0
AreFresh keys entries = AllByRecursion (λ entry. is_taken keys entry.name ≡ false) entries

AreFresh-put : (before : List Named) (entry : Dirent) (entries : List Dirent) → AreFresh (keys_of before) entries → AllByRecursion (λ name. bytes_eq entry.name name ≡ false) (names_of entries)
    → AreFresh (keys_of (insert_entry (slice_cmp nat_cmp) before entry.name entry)) entries
AreFresh-put before entry [] fresh apart = tt
AreFresh-put before entry (e ∷ entries) fresh apart = (
  untaken before entry.name entry e.name (nat_list_eq_equiv.symm e.name entry.name ∙ apart.0) fresh.0,
  AreFresh-put before entry entries fresh.1 apart.1,
)

placed-permutes : (before : List Named) (entries : List Dirent) → AreFresh (keys_of before) entries → IsDistinct bytes_eq (names_of entries) → IsPermutation (values_of before ++ entries) (values_of (placed before entries))
placed-permutes before [] fresh distinct =
    let P : List Dirent → Type 0 = λ entries. IsPermutation entries (values_of before) in
    subst P (sym (append-nil (values_of before))) (IsPermutation-refl (values_of before))
placed-permutes before (e ∷ entries) fresh distinct =
    let next = insert_entry (slice_cmp nat_cmp) before e.name e in
    let moved = IsPermutation-middle (values_of before) e entries in
    let put = IsPermutation-append_left entries (e ∷ values_of before) (values_of next) (put_fresh before e.name e fresh.0) in
    let later = placed-permutes next entries (AreFresh-put before e entries fresh.1 (IsDistinct-head bytes_eq e.name (names_of entries) distinct)) (IsDistinct-tail bytes_eq e.name (names_of entries) distinct) in
    IsPermutation-trans (values_of before ++ e ∷ entries) (e ∷ (values_of before ++ entries)) _ moved (IsPermutation-trans (e ∷ (values_of before ++ entries)) (values_of next ++ entries) _ put later)

AreFresh-none : (entries : List Dirent) → AreFresh [] entries
AreFresh-none [] = tt
AreFresh-none (e ∷ entries) = (refl, AreFresh-none entries)

-- the written order has the same entries
pub in_written_order-permutes : (entries : List Dirent) → IsDistinct bytes_eq (names_of entries) → IsPermutation entries (in_written_order entries)
unfolding in_written_order
in_written_order-permutes entries distinct =
    IsPermutation-trans entries (values_of (placed [] entries)) _ (placed-permutes [] entries (AreFresh-none entries) distinct) (IsPermutation-reverse (values_of (placed [] entries)))

-- and their names are distinct
pub IsDistinct-in_written_order : (entries : List Dirent) → IsDistinct bytes_eq (names_of entries) → IsDistinct bytes_eq (names_of (in_written_order entries))
IsDistinct-in_written_order entries distinct =
    IsDistinct-IsPermutation bytes_eq nat_list_eq_equiv.symm (names_of entries) (names_of (in_written_order entries))
    (IsPermutation-map (λ (entry : Dirent). entry.name) entries (in_written_order entries) (in_written_order-permutes entries distinct)) distinct

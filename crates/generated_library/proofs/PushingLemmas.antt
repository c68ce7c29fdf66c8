-- The bytes of a push, one file after another, and its entries. The key lemmas are bytes_more, bytes_all, entries_more, entries_all and file_there.
use Rattle.std.proofs.Common.{◌≡◌, ◌≤◌, ◌<◌, ◌+◌, ◌-◌, ◌*◌, ◌%◌, ◌==◌, ◌||◌, ℕ, zero, suc, Bool, true, false, List, [], ◌∷◌, length, length-append, min, arith, refl, sym, ap, ap₂, ◌∙◌}
use Rattle.std.specs.FinMap as map
use Rattle.std.proofs.lemmas.List.Sums.{sum_by-cons}
use Rattle.std.proofs.lemmas.List.Elements.{All-head}
use Rattle.library_rules.specs.LibraryState.{State}
use Rattle.library_rules.proofs.KeepingLemmas.{keeps_then}
use Rattle.tree_merge.specs.Sides.{Entries}
use Rattle.generated_library.specs.Filled.{HasFiles, IsFileStored, PutsFile, entries_of, is_marked, is_put, marked, pushed_bytes, pushed_files, with_entries, with_entry}
use Rattle.generated_library.specs.Generated.{after_file, bytes_from, changed_from, drawn_bytes, file_bytes, file_size, files_from, next_number, with_mark}
use Rattle.generated_library.specs.Leading.{Grows}
use Rattle.generated_library.proofs.TreeLemmas.{file_keeps}

-- a push of one file more
pub pushed_cons : (is_second : Bool) (number : ℕ) (bytes : List ℕ) (more : List (List ℕ)) → pushed_files is_second number (bytes ∷ more) ≡ pushed_bytes is_second number bytes ∷ pushed_files is_second (number + 1) more
pushed_cons false number bytes more = refl
pushed_cons true number bytes more = refl

pub bytes_step : (is_second : Bool) (from n x : ℕ) → bytes_from is_second from (suc n) x ≡ length (pushed_bytes is_second from (file_bytes x)) + bytes_from is_second (from + 1) n (after_file x)
bytes_step false from n x = sum_by-cons (λ bytes. length bytes) (file_bytes x) (files_from n (after_file x))
bytes_step true from n x = sum_by-cons (λ bytes. length bytes) (with_mark from (file_bytes x)) (changed_from (from + 1) (files_from n (after_file x)))

-- a file that isn't put again was there
pub file_there : (is_second : Bool) (number : ℕ) (bytes : List ℕ) (rest : List (List ℕ)) (s m t : State) → Grows s m → HasFiles is_second (bytes ∷ rest) s
    → PutsFile (is_put is_second number) (pushed_bytes is_second number bytes) m t → IsFileStored t.objects (pushed_bytes is_second number bytes)
file_there false number bytes rest s m t grew there (grew_on, put, came) = put refl
file_there true number bytes rest s m t grew there (grew_on, put, came) = by (number % 10 == 0) put
  where
    by : (b : Bool) → ((b || false) ≡ true → IsFileStored t.objects (marked b bytes)) → IsFileStored t.objects (marked b bytes)
    by true put = put refl
    by false put = file_keeps s.objects t.objects bytes (keeps_then grew.keeps grew_on.keeps) (All-head (IsFileStored s.objects) bytes rest there)

length-drawn_bytes : (n x : ℕ) → length (drawn_bytes n x) ≡ n
length-drawn_bytes zero x = refl
length-drawn_bytes (suc n) x = ap suc (length-drawn_bytes n (next_number x))

pub length-file_bytes : (x : ℕ) → length (file_bytes x) ≡ file_size x
length-file_bytes x = length-drawn_bytes (file_size x) (next_number x)

marked_bound : (is_changed : Bool) (bytes : List ℕ) → length bytes ≤ 16384 → length (marked is_changed bytes) ≤ 16385
marked_bound true bytes least = let size = length-append bytes (33 ∷ []) in omega (arith, least, size)
marked_bound false bytes least = omega (arith, least)

file_bound : (x : ℕ) → length (file_bytes x) ≤ 16384
file_bound x = let size = length-file_bytes x in grind (arith, size)

-- ---- as files are left

-- so many are left, and one less
pub one_left : (count number : ℕ) → number < count → count - number ≡ suc (count - (number + 1))
one_left count number below = omega (arith, below)

-- none
none_left : (count number : ℕ) → count ≤ number → count - number ≡ 0
none_left count number past = omega (arith, past)

-- the bytes with those of one file more, none of which are lost
pub bytes_more : (is_second : Bool) (count number total size now x y all : ℕ) → number < count → count ≤ 10000 → total + bytes_from is_second number (count - number) x ≡ all
    → total ≤ number * 16385 → size ≡ length (pushed_bytes is_second number (file_bytes x)) → y ≡ after_file x → now ≡ min (total + size) 18446744073709551615
    → (now + bytes_from is_second (number + 1) (count - (number + 1)) y ≡ all) × (now ≤ (number + 1) * 16385)
bytes_more is_second count number total size now x y all below few left small is after sum =
    let step : bytes_from is_second number (count - number) x ≡ length (pushed_bytes is_second number (file_bytes x)) + bytes_from is_second (number + 1) (count - (number + 1)) (after_file x) =
    ap (λ n. bytes_from is_second number n x) (one_left count number below) ∙ bytes_step is_second number (count - (number + 1)) x in
    let next : bytes_from is_second (number + 1) (count - (number + 1)) y ≡ bytes_from is_second (number + 1) (count - (number + 1)) (after_file x) =
    ap (λ z. bytes_from is_second (number + 1) (count - (number + 1)) z) after in
    let bound = marked_bound (is_marked is_second number) (file_bytes x) (file_bound x) in
    let exact : now ≡ total + size = omega (arith, below, few, small, is, bound, sum) in
    (omega (arith, exact, is, left, step, next), omega (arith, exact, small, is, bound))

bytes_none : (is_second : Bool) (from x : ℕ) → bytes_from is_second from 0 x ≡ 0
bytes_none false from x = refl
bytes_none true from x = refl

pub bytes_begun : (is_second : Bool) (count number : ℕ) → 0 + bytes_from is_second 0 (count - 0) number ≡ bytes_from is_second 0 count number
bytes_begun is_second count number =
    let whole : count - 0 ≡ count = omega arith in
    let same = ap (λ n. bytes_from is_second 0 n number) whole in
    omega (arith, same)

pub bytes_all : (is_second : Bool) (count number total x all : ℕ) → count ≤ number → total + bytes_from is_second number (count - number) x ≡ all → total ≡ all
bytes_all is_second count number total x all past left =
    let none : bytes_from is_second number (count - number) x ≡ 0 = ap (λ n. bytes_from is_second number n x) (none_left count number past) ∙ bytes_none is_second number x in
    omega (arith, left, none)

-- the entries with those of one file more
pub entries_more : (is_second : Bool) (moment count number x y : ℕ) (entries now all : Entries) → number < count → y ≡ after_file x
    → now ≡ with_entry moment number (pushed_bytes is_second number (file_bytes x)) entries
    → with_entries moment number (pushed_files is_second number (files_from (count - number) x)) entries ≡ all
    → with_entries moment (number + 1) (pushed_files is_second (number + 1) (files_from (count - (number + 1)) y)) now ≡ all
entries_more is_second moment count number x y entries now all below after is left =
    ap₂ (λ (z : ℕ) (e : Entries). with_entries moment (number + 1) (pushed_files is_second (number + 1) (files_from (count - (number + 1)) z)) e) after is
    ∙ (ap (λ files. with_entries moment number files entries) (sym (pushed_cons is_second number (file_bytes x) (files_from (count - (number + 1)) (after_file x))))
    ∙ (ap (λ n. with_entries moment number (pushed_files is_second number (files_from n x)) entries) (sym (one_left count number below)) ∙ left))

entries_none : (is_second : Bool) (moment number x : ℕ) (entries : Entries) → with_entries moment number (pushed_files is_second number (files_from 0 x)) entries ≡ entries
entries_none false moment number x entries = refl
entries_none true moment number x entries = refl

pub entries_begun : (is_second : Bool) (moment count x : ℕ) (entries : Entries) → entries ≡ map.empty
    → with_entries moment 0 (pushed_files is_second 0 (files_from (count - 0) x)) entries ≡ entries_of moment (pushed_files is_second 0 (files_from count x))
entries_begun is_second moment count x entries empty =
    let whole : count - 0 ≡ count = omega arith in
    ap₂ (λ (n : ℕ) (e : Entries). with_entries moment 0 (pushed_files is_second 0 (files_from n x)) e) whole empty

pub entries_all : (is_second : Bool) (moment count number x : ℕ) (entries all : Entries) → count ≤ number
    → with_entries moment number (pushed_files is_second number (files_from (count - number) x)) entries ≡ all → entries ≡ all
entries_all is_second moment count number x entries all past left =
    sym (entries_none is_second moment number x entries)
    ∙ (ap (λ n. with_entries moment number (pushed_files is_second number (files_from n x)) entries) (sym (none_left count number past)) ∙ left)

-- Each file of a push has a path of its own, so each has its entry. The key lemmas are file_listed and pushed_few.
use Rattle.std.proofs.Common.{◌≡◌, ◌≢◌, ◌≤◌, ◌<◌, ◌+◌, ◌*◌, ◌/◌, ◌%◌, ℕ, zero, suc, Bool, true, false, cond, List, [], ◌∷◌, length, arith, refl, sym, ap, ◌∙◌, Some, inl, inr}
use Rattle.std.specs.FinMap as map
use Rattle.std.proofs.lemmas.List.Elements.{All-head, All-tail}
use Rattle.ids.specs.Key.{Objects}
use Rattle.ids.specs.declared.key.Key.{Key}
use Rattle.object_graph.specs.declared.entry.Entry.{Entry}
use Rattle.object_graph.specs.declared.entry.Entry.TheVariants as entry
use Rattle.tree_merge.proofs.TableLemmas.{get-put}
use Rattle.tree_merge.specs.Sides.{Entries}
use Rattle.tree_model.proofs.ListedLemmas.{same_path, same_path-apart, same_path-itself}
use Rattle.tree_model.specs.Path.{PathV}
use Rattle.generated_library.specs.Filled.{AreStored, IsFileStored, IsOfFile, IsOfFiles, file_entry, pushed_files, with_entries, with_entry}
use Rattle.generated_library.specs.Generated.{after_file, changed_from, digit, dir_name, file_name, files_from}

-- ---- how many files there are

length-files_from : (n x : ℕ) → length (files_from n x) ≡ n
length-files_from zero x = refl
length-files_from (suc n) x = ap suc (length-files_from n (after_file x))

length-changed_from : (number : ℕ) (files : List (List ℕ)) → length (changed_from number files) ≡ length files
length-changed_from number [] = refl
length-changed_from number (bytes ∷ files) = ap suc (length-changed_from (number + 1) files)

pub pushed_few : (is_second : Bool) (count number : ℕ) → count ≤ 10000 → length (pushed_files is_second 0 (files_from count number)) ≤ 10000
pushed_few false count number few = let size = length-files_from count number in omega (arith, few, size)
pushed_few true count number few =
    let size = length-files_from count number in
    let same = length-changed_from 0 (files_from count number) in
    omega (arith, few, size, same)

-- ---- a number by the digits of its file's name

hundreds : (n : ℕ) → n / 10 / 10 ≡ n / 100
hundreds n = omega arith

thousands : (n : ℕ) → n / 100 / 10 ≡ n / 1000
thousands n = omega arith

ten_thousands : (n : ℕ) → n / 1000 / 10 ≡ n / 10000
ten_thousands n = omega arith

number_is : (n : ℕ) → n < 100000 → n ≡ n / 10000 % 10 * 10000 + n / 1000 % 10 * 1000 + n / 100 % 10 * 100 + n / 10 % 10 * 10 + n % 10
number_is n few =
    let third = hundreds n in
    let fourth = thousands n in
    let fifth = ten_thousands n in
    omega (arith, few, third, fourth, fifth)

record SameDigits (a b c d e f g h i j : ℕ) : Type 0 where
  first : a ≡ f
  second : b ≡ g
  third : c ≡ h
  fourth : d ≡ i
  fifth : e ≡ j

same_digits : (a b c d e f g h i j : ℕ) → ◌≡◌ {A = List ℕ} (102 ∷ a ∷ b ∷ c ∷ d ∷ e ∷ []) (102 ∷ f ∷ g ∷ h ∷ i ∷ j ∷ []) → SameDigits a b c d e f g h i j
same_digits a b c d e f g h i j is = record { first = cc; second = cc; third = cc; fourth = cc; fifth = cc }

same_digit : (a b : ℕ) → digit a ≡ digit b → a % 10 ≡ b % 10
same_digit a b is = omega (arith, is)

same_number : (n m : ℕ) → n < 100000 → m < 100000 → file_name n ≡ file_name m → n ≡ m
same_number n m few some is =
    let all = same_digits (digit (n / 10000)) (digit (n / 1000)) (digit (n / 100)) (digit (n / 10)) (digit n) (digit (m / 10000)) (digit (m / 1000)) (digit (m / 100)) (digit (m / 10)) (digit m) is in
    let first = same_digit (n / 10000) (m / 10000) all.first in
    let second = same_digit (n / 1000) (m / 1000) all.second in
    let third = same_digit (n / 100) (m / 100) all.third in
    let fourth = same_digit (n / 10) (m / 10) all.fourth in
    let fifth = same_digit n m all.fifth in
    number_is n few
    ∙ (joined (n / 10000 % 10) (n / 1000 % 10) (n / 100 % 10) (n / 10 % 10) (n % 10) (m / 10000 % 10) (m / 1000 % 10) (m / 100 % 10) (m / 10 % 10) (m % 10) first second third fourth fifth
    ∙ sym (number_is m some))
  where
    joined : (a b c d e f g h i j : ℕ) → a ≡ f → b ≡ g → c ≡ h → d ≡ i → e ≡ j → a * 10000 + b * 1000 + c * 100 + d * 10 + e ≡ f * 10000 + g * 1000 + h * 100 + i * 10 + j
    joined a b c d e f g h i j first second third fourth fifth = omega (arith, first, second, third, fourth, fifth)

-- ---- the entry of a file

abbrev path_of : ℕ → PathV
path_of number = dir_name number ∷ file_name number ∷ []

other_path : (n m : ℕ) → n < 100000 → m < 100000 → n ≢ m → same_path (path_of n) (path_of m) ≡ false
other_path n m few some other = same_path-apart (path_of n) (path_of m) (λ is. other (same_number n m few some (second (dir_name n) (file_name n) (dir_name m) (file_name m) is)))
  where
    second : (a b c d : List ℕ) → ◌≡◌ {A = PathV} (a ∷ b ∷ []) (c ∷ d ∷ []) → b ≡ d
    second a b c d is = cc

other_top : (n m : ℕ) → same_path (path_of n) (dir_name m ∷ []) ≡ false
other_top n m = same_path-apart (path_of n) (dir_name m ∷ []) (longer (dir_name n) (file_name n) (dir_name m))
  where
    longer : (a b c : List ℕ) → ◌≡◌ {A = PathV} (a ∷ b ∷ []) (c ∷ []) → ⊥
    longer a b c is = cc

-- one file more leaves that of another number
still_listed : (moment number from : ℕ) (bytes : List ℕ) (entries : Entries) (e : Entry) → number < from → from < 100000 → map.get entries (path_of number) ≡ Some e
    → map.get (with_entry moment from bytes entries) (path_of number) ≡ Some e
still_listed moment number from bytes entries e below few there =
    let small : number < 100000 = omega (arith, below, few) in
    get-put (map.insert entries (dir_name from ∷ []) entry.Dir) (path_of from) (file_entry moment bytes) (path_of number)
    ∙ (ap (λ (b : Bool). cond b (Some (file_entry moment bytes)) (map.get (map.insert entries (dir_name from ∷ []) entry.Dir) (path_of number))) (other_path number from small few (apart number from below))
    ∙ (get-put entries (dir_name from ∷ []) entry.Dir (path_of number)
    ∙ (ap (λ (b : Bool). cond b (Some entry.Dir) (map.get entries (path_of number))) (other_top number from) ∙ there)))
  where
    apart : (n m : ℕ) → n < m → n ≢ m
    apart n m below same = omega (arith, below, same)

kept_listed : (moment number from : ℕ) (files : List (List ℕ)) (entries : Entries) (e : Entry) → number < from → from + length files ≤ 100000 → map.get entries (path_of number) ≡ Some e
    → map.get (with_entries moment from files entries) (path_of number) ≡ Some e
kept_listed moment number from [] entries e below few there = there
kept_listed moment number from (bytes ∷ files) entries e below few there =
    let here : from < 100000 = omega (arith, few) in
    let next : number < from + 1 = omega (arith, below) in
    let rest : (from + 1) + length files ≤ 100000 = omega (arith, few) in
    kept_listed moment number (from + 1) files (with_entry moment from bytes entries) e next rest (still_listed moment number from bytes entries e below here there)

-- a key is one of a file that is stored, and has its entry
pub record IsListedFile (objects : Objects) (moment : ℕ) (entries : Entries) (key : Key) : Type 0 where
  pub bytes : List ℕ
  pub path : PathV
  pub at : map.get entries path ≡ Some (file_entry moment bytes)
  pub stored : IsFileStored objects bytes
  pub own : IsOfFile bytes key

pub file_listed : (objects : Objects) (moment number : ℕ) (files : List (List ℕ)) (entries : Entries) → number + length files ≤ 100000 → AreStored objects files → (key : Key) → IsOfFiles files key
    → IsListedFile objects moment (with_entries moment number files entries) key
file_listed objects moment number [] entries few stored key own = absurd own
file_listed objects moment number (bytes ∷ files) entries few stored key (inl own) =
    let rest : (number + 1) + length files ≤ 100000 = omega (arith, few) in
    let next : number < number + 1 = omega arith in
    let here : map.get (with_entry moment number bytes entries) (path_of number) ≡ Some (file_entry moment bytes) =
    get-put (map.insert entries (dir_name number ∷ []) entry.Dir) (path_of number) (file_entry moment bytes) (path_of number)
    ∙ ap (λ (b : Bool). cond b (Some (file_entry moment bytes)) (map.get (map.insert entries (dir_name number ∷ []) entry.Dir) (path_of number))) (same_path-itself (path_of number)) in
    record {
      bytes = bytes;
      path = path_of number;
      at = kept_listed moment number (number + 1) files (with_entry moment number bytes entries) (file_entry moment bytes) next rest here;
      stored = All-head (IsFileStored objects) bytes files stored;
      own = own;
    }
file_listed objects moment number (bytes ∷ files) entries few stored key (inr later) =
    let rest : (number + 1) + length files ≤ 100000 = omega (arith, few) in
    file_listed objects moment (number + 1) files (with_entry moment number bytes entries) rest (All-tail (IsFileStored objects) bytes files stored) key later

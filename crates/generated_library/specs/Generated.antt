-- The generated library: what its files hold and where they stand. Our own. Read files_from and changed_from first, then tree_of.
use Rattle.std.specs.Prelude.{◌≡◌, ◌≢◌, ◌⊎◌, ℕ, ℤ, zero, suc, pos, ◌+◌, ◌-◌, ◌*◌, ◌/◌, ◌%◌, ◌^◌, ◌<◌, ◌==◌, min, Bool, true, false, if◌then◌else◌, List, [], ◌∷◌, ◌++◌, length, sum_by, None, Some, codes}
use Rattle.std.specs.FinMap as map
use Rattle.std.specs.List.{slice_get}
use Rattle.tree_model.specs.Path.{PathV}
use Rattle.tree_model.specs.Tree.{Tree}
use Rattle.tree_model.specs.declared.node.Node.TheVariants.{Dir, File}

-- ---- the numbers

abbrev pub next_number : ℕ → ℕ
next_number x = (x * 6364136223846793005 + 1442695040888963407) % 2 ^ 64

-- a draw makes the next number and gives its upper half, of 32 bits
abbrev pub draw_of : ℕ → ℕ
draw_of x = next_number x / 2 ^ 32

abbrev pub byte_of : ℕ → ℕ
byte_of x = draw_of x / 2 ^ 24

-- so many draws, each as a byte
abbrev pub drawn_bytes : ℕ → ℕ → List ℕ
drawn_bytes zero x = []
drawn_bytes (suc n) x = byte_of x ∷ drawn_bytes n (next_number x)

abbrev pub number_after : ℕ → ℕ → ℕ
number_after zero x = x
number_after (suc n) x = number_after n (next_number x)

-- ---- the files

-- a draw tells the length of a file, from 1 to 16384, and as many draws as that its bytes
abbrev pub file_size : ℕ → ℕ
file_size x = 1 + draw_of x % 16384

abbrev pub file_bytes : ℕ → List ℕ
file_bytes x = drawn_bytes (file_size x) (next_number x)

abbrev pub after_file : ℕ → ℕ
after_file x = number_after (file_size x) (next_number x)

-- so many files, from a number on
abbrev pub files_from : ℕ → ℕ → List (List ℕ)
files_from zero x = []
files_from (suc n) x = file_bytes x ∷ files_from n (after_file x)

-- every tenth file has one byte more
abbrev pub with_mark : ℕ → List ℕ → List ℕ
with_mark number bytes = if number % 10 == 0 then bytes ++ 33 ∷ [] else bytes

abbrev pub changed_from : ℕ → List (List ℕ) → List (List ℕ)
changed_from number [] = []
changed_from number (bytes ∷ more) = with_mark number bytes ∷ changed_from (number + 1) more

-- ---- where they stand

abbrev pub digit : ℕ → ℕ
digit n = 48 + n % 10

-- `d` and two digits, `f` and five
abbrev pub dir_name : ℕ → List ℕ
dir_name number = 100 ∷ digit (number % 40 / 10) ∷ digit (number % 40) ∷ []

abbrev pub file_name : ℕ → List ℕ
file_name number = 102 ∷ digit (number / 10000) ∷ digit (number / 1000) ∷ digit (number / 100) ∷ digit (number / 10) ∷ digit number ∷ []

-- when something was changed that `make` wrote at a moment
abbrev pub time_of : ℕ → ℤ
time_of moment = pos (min moment (2 ^ 63 - 1))

-- the tree with one file more, the one of this number, in its directory; `make` wrote it at this moment
abbrev pub with_file : ℕ → ℕ → List ℕ → Tree → Tree
with_file moment number bytes tree =
    map.insert (map.insert tree (dir_name number ∷ []) Dir) (dir_name number ∷ file_name number ∷ [])
    (File (record { mode = 33188; mtime = time_of moment; modifier = codes "make"; bytes = bytes }))

-- with these files more, of which the first has this number
abbrev pub with_files : ℕ → ℕ → List (List ℕ) → Tree → Tree
with_files moment number [] tree = tree
with_files moment number (bytes ∷ more) tree = with_files moment (number + 1) more (with_file moment number bytes tree)

-- the tree of these files, which are numbered from 0 on, and nothing else
abbrev pub tree_of : ℕ → List (List ℕ) → Tree
tree_of moment files = with_files moment 0 files map.empty

-- ---- the line

-- how many bytes the files of the head have
abbrev pub bytes_made : ℕ → ℕ → ℕ
bytes_made count number = sum_by (λ bytes. length bytes) (changed_from 0 (files_from count number))

-- and so many files of a push, the first or the second, from the one with this number on
abbrev pub bytes_from : (is_second : Bool) → (from count number : ℕ) → ℕ
bytes_from false from count number = sum_by (λ bytes. length bytes) (files_from count number)
bytes_from true from count number = sum_by (λ bytes. length bytes) (changed_from from (files_from count number))

abbrev pub bytes_pushed : Bool → ℕ → ℕ → ℕ
bytes_pushed is_second count number = bytes_from is_second 0 count number

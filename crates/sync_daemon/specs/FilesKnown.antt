-- How many files an index knows, for who looks on. Our own. Read files_in.
use Rattle.std.specs.Prelude.{ℕ, List}
use Rattle.std.specs.List.{sum_by}
use Rattle.tree_model.specs.Path.{PathV}
use Rattle.local_index.specs.declared.index.Known.{Known}
use Rattle.local_index.specs.declared.index.Known.TheVariants as known

-- a file counts as one, a directory as none
abbrev pub file_count : Known → ℕ
file_count known.Dir = 0
file_count (known.File id own size mode mtime modifier) = 1

abbrev pub files_in : List (PathV × Known) → ℕ
files_in entries = sum_by (λ entry. file_count entry.1) entries

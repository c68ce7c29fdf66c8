-- For private clauses: the readers' own records, seen as those of `Directory`, and what they answer of an array.
use Rattle.std.specs.Prelude.{◌≡◌, ℕ, List, Option, Some, None, Result, Ok, Err, Bool}
use Rattle.std.specs.Cmp.Lexicographic.{slice_cmp}
use Rattle.std.specs.List.{list_any}
use Rattle.std.specs.Ordering.{is_eq, nat_cmp}
use Rattle.fs_objects.specs.Directory as directory
use Rattle.fs_objects.specs.Directory.{is_taken, names_of}
use Rattle.fs_objects.specs.declared.dirent.Dirent.{Dirent}
use Rattle.fs_objects.specs.declared.entry_reading.Details.{Details}
use Rattle.fs_objects.specs.declared.entry_reading.Head.{Head}
use Rattle.fs_objects.specs.declared.fault.BadFs.{BadFs}

-- the name is that of the text
abbrev pub head_seen : Head → directory.Head
head_seen head = record { id = head.id; mode = head.mode; mtime = head.mtime; name = head.name.now }

-- the modifier is that of the text
abbrev pub details_seen : Details → directory.Details
details_seen details = record { modifier = details.modifier.now; size = details.size }

-- what was read where there is no fault, and else the fault
abbrev pub told : {A : Type 0} → Option BadFs → A → Result A BadFs
told None read = Ok read
told (Some bad) read = Err bad

-- whether a set of names, which are its keys, has this one
abbrev pub has_name : List ℕ → List (List ℕ) → Bool
has_name name keys = list_any (λ key. is_eq (slice_cmp nat_cmp name key)) keys

-- a set has the names of the entries, and no other
abbrev pub HasNames : List (List ℕ) → List Dirent → Type 0
HasNames keys entries = (q : List ℕ) → has_name q keys ≡ is_taken (names_of entries) q

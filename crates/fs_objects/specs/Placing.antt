-- For private clauses: a map from names to values, seen as the placed entries are shown.
use Rattle.std.specs.Prelude.{ℕ, List}
use Rattle.std.specs.Borrow.{Bor}
use Rattle.serde_json.specs.Data.{Data}
use Rattle.serde_json.specs.View.{view}
use Rattle.serde_json.specs.declared.value.Value.{Value}
use Rattle.fs_objects.specs.Spelling.{entry_data}
use Rattle.fs_objects.specs.declared.dirent.Dirent.{Dirent}

-- a name with the value of its entry
abbrev pub shown : List ℕ × Dirent → List ℕ × Data
shown p = (p.0, entry_data p.1)

-- the same of the program's map
abbrev pub seen : Bor (List ℕ) × Value → List ℕ × Data
seen p = (p.0.now, view p.1)

-- For private clauses: what the types of the program tell of an entry. Read IsTyped first.
use Rattle.std.specs.Prelude.{◌≡◌, ◌<◌, ◌^◌, FitsSigned, None}
use Rattle.std.specs.Int.{w64}
use Rattle.tree_model.specs.Name.{name_fault}
use Rattle.json_words.specs.IdText.{IsId}
use Rattle.fs_objects.specs.declared.dirent.Dirent.{Dirent}

-- the id is an id, the name a name, and the numbers are within their types
pub record IsTyped (entry : Dirent) : Type 0 where
  pub id : IsId entry.id
  pub mode : entry.mode < 2 ^ 32
  pub mtime : FitsSigned w64 entry.mtime
  pub name : name_fault entry.name ≡ None

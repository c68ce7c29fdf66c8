-- For private clauses: what the types of the program tell of an entry. Read IsTyped first.
use Rattle.std.specs.Prelude.{ℕ, ◌<◌, ◌^◌, List, FitsSigned, Option, None, Some, ⊤}
use Rattle.std.specs.Int.{w64}
use Rattle.json_words.specs.IdText.{IsId}
use Rattle.tree_model.specs.Path.{PathV, IsPath}
use Rattle.local_index.specs.declared.index.Known.{Known}
use Rattle.local_index.specs.declared.index.Known.TheVariants.{Dir, File}

abbrev pub IsTypedBase : Option (List ℕ) → Type 0
IsTypedBase None = ⊤
IsTypedBase (Some id) = IsId id

-- the ids are ids, and the numbers are within their types
pub record IsTypedFile (id own : List ℕ) (mode : ℕ) : Type 0 where
  pub id_reads : IsId id
  pub own_reads : IsId own
  pub small : mode < 2 ^ 32

abbrev pub IsTypedKnown : Known → Type 0
IsTypedKnown Dir = ⊤
IsTypedKnown (File id own size mode mtime modifier) = IsTypedFile id own mode × FitsSigned w64 mtime

-- the names are names
pub record IsTyped (entry : PathV × Known) : Type 0 where
  pub path : IsPath entry.0
  pub known : IsTypedKnown entry.1

-- For private clauses: the reader's own record of a file's entry, seen as the entry, and what entries are that were read.
use Rattle.std.specs.Prelude.{◌≡◌, [], Some, None}
use Rattle.std.specs.FinMap as map
use Rattle.tree_model.specs.Path.{PathV}
use Rattle.local_index.specs.IndexText.{KnownPaths}
use Rattle.local_index.specs.IndexSpelling.{HasFileMode}
use Rattle.local_index.specs.declared.entry_reading.FileParts.{FileParts}
use Rattle.local_index.specs.declared.index.Known.{Known}
use Rattle.local_index.specs.declared.index.Known.TheVariants.{File}

-- the modifier is that of the text
abbrev pub file_seen : FileParts → Known
file_seen file = File file.id file.own file.size file.mode file.mtime file.modifier.now

-- what was read so far has no entry at the root, and files with modes of files
pub record IsSound (entries : KnownPaths) : Type 0 where
  pub no_root : map.get entries [] ≡ None
  pub modes : (path : PathV) (known : Known) → map.get entries path ≡ Some known → HasFileMode known

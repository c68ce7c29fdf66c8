-- What `read` tells of each object, and what an object must have to be read as what was written. Our own.
-- Read IsProper first. That names are names and distinct, and that numbers fit, their types tell.
use Rattle.std.specs.Prelude.{◌≡◌, ◌≢◌, ◌||◌, [], false, IsTrue, All}
use Rattle.ids.specs.ObjectId.{nil}
use Rattle.fs_objects.specs.Mode.{is_file_mode, is_directory_mode}
use Rattle.fs_objects.specs.declared.dirent.Dirent.{Dirent}
use Rattle.fs_objects.specs.declared.fs_object.FsObject.{FsObject}
use Rattle.fs_objects.specs.declared.fs_object.FsObject.TheVariants.{File, Dir}

-- the mode is that of a file or a directory, and a directory has no modifier and no size
pub record IsProperEntry (entry : Dirent) : Type 0 where
  pub known : IsTrue (is_file_mode entry.mode || is_directory_mode entry.mode)
  pub plain : is_file_mode entry.mode ≡ false → (entry.modifier ≡ []) × (entry.size ≡ 0)

-- a file names no block by forty zeros; each entry of a directory is proper
abbrev pub IsProper : FsObject → Type 0
IsProper (File file) = All (λ id. id ≢ nil) file.blocks
IsProper (Dir entries) = All IsProperEntry entries

-- The kind of an entry, by the bits of its mode that tell the type of a file (POSIX, S_IFMT).
use Rattle.std.specs.Prelude.{ℕ, ◌==◌, Bool, bit_and}
use Rattle.fs_objects.specs.declared.mode.TheConstants.{TYPE_MASK, FILE_TYPE, DIRECTORY_TYPE}

-- the type is a regular file
abbrev pub is_file_mode : ℕ → Bool
is_file_mode mode = bit_and mode TYPE_MASK == FILE_TYPE

-- the type is a directory
abbrev pub is_directory_mode : ℕ → Bool
is_directory_mode mode = bit_and mode TYPE_MASK == DIRECTORY_TYPE

-- The id that this project's cuts give a file. Our own; an id is the SHA-1 of FIPS 180-4.
use Rattle.std.specs.Prelude.{ℕ, ◌==◌, List, if◌then◌else◌}
use Rattle.sha1.specs.Sha1.{sha1}
use Rattle.ids.specs.ObjectId.{nil}
use Rattle.fs_objects.specs.Spelling.{text_of}
use Rattle.fs_objects.specs.declared.fs_object.FsObject.TheVariants.{File}

-- the id of the file object of these blocks and this size; forty zeros for no bytes
abbrev pub own_id : List (List ℕ) → ℕ → List ℕ
own_id blocks size = if size == 0 then nil else sha1 (text_of (File (record { blocks = blocks; size = size })))

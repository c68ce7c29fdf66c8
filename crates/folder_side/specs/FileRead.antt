-- What reading a file to its end finds. Our own. Read ReadsFile.
use Rattle.std.specs.Prelude.{◌≡◌, ℕ, ◌<◌, ◌≤◌, Bool, true, false, List, length, map, take}
use Rattle.sha1.specs.Sha1.{sha1}
use Rattle.block_chunker.specs.declared.cuts.Cuts.{Cuts}
use Rattle.block_chunker.specs.ChunkBoundaries.{chunks_of}
use Rattle.block_chunker.specs.ChunkerProgress.{start_of, after_piece, finished_by}
use Rattle.folder_side.specs.declared.file_reader.ReadFault.{ReadFault}
use Rattle.folder_side.specs.declared.file_reader.ReadFault.TheVariants.{Folder, TooBig, Gone, NoMemory}
use Rattle.folder_side.specs.declared.file_reader.FileRead.{FileRead}
use Rattle.folder_side.specs.declared.file_reader.Reading.{Reading}
use Rattle.folder_side.specs.declared.file_reader.TheConstants.{MAX_FILE}

-- the chunker and the names stand behind the first `place` bytes of a file
pub record IsBehind (cuts : Cuts) (bytes : List ℕ) (reading : Reading) : Type 0 where
  pub within : reading.place ≤ length bytes
  pub begun : reading.chunker ≡ after_piece (start_of cuts) (take reading.place bytes)
  pub named : reading.names ≡ map sha1 (finished_by (start_of cuts) (take reading.place bytes))

-- the names of the file's chunks and its length
pub record ReadsFile (cuts : Cuts) (bytes : List ℕ) (file : FileRead) : Type 0 where
  pub blocks : file.blocks ≡ map sha1 (chunks_of cuts bytes)
  pub size : file.size ≡ length bytes
  pub small : length bytes ≤ MAX_FILE

-- a file that is too big has more bytes than the limit, and one that is there isn't gone
abbrev pub PassesLimit : List ℕ → ReadFault → Type 0
PassesLimit bytes Folder = Unit {0}
PassesLimit bytes TooBig = MAX_FILE < length bytes
PassesLimit bytes Gone = ⊥
PassesLimit bytes NoMemory = Unit {0}

abbrev pub is_read_failure : ReadFault → Bool
is_read_failure Folder = true
is_read_failure TooBig = false
is_read_failure Gone = false
is_read_failure NoMemory = false

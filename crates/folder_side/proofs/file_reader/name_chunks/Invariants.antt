use Rattle.std.proofs.Common.{◌≡◌, ◌++◌, take, map}
use Rattle.sha1.specs.Sha1.{sha1}
use Rattle.folder_side.proofs.file_reader.name_chunks.Given as goal

abbrev pub invariant-loop-chunk : goal.invariant-loop-chunk
invariant-loop-chunk l = l.names ≡ l.fn.names ++ map sha1 (take l.chunk-index l.chunks)

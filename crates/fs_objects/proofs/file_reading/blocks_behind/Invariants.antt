-- What is left to check, after the blocks so far, gives the whole answer; no block so far is forty zeros.
use Rattle.std.proofs.Common.{◌≢◌, All, length}
use Rattle.ids.specs.ObjectId.{nil}
use Rattle.json_words.specs.Check.{each}
use Rattle.json_words.proofs.EachLemmas.{each_after}
use Rattle.fs_objects.specs.File.{block_of}
use Rattle.json_tokens.proofs.RestLemmas.{Reads}
use Rattle.fs_objects.proofs.file_reading.blocks_behind.Given as goal

abbrev pub invariant-items : goal.invariant-items
invariant-items l = record {
  reads : Reads (each block_of) (each_after block_of l.blocks) l.depth l.initial.reader l.reader;
  proper : All (λ id. id ≢ nil) l.blocks;
}

abbrev pub decreases-items : goal.decreases-items
decreases-items l = length l.reader

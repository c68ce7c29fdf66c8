-- Where the loop ends, no entry is of the library.
use Rattle.std.proofs.Common.{arith}
use Rattle.folder_storage.proofs.StandingLemmas.{standing-absent}
use Rattle.folder_storage.proofs.memory_ground.place_of.Goals as goal

pub returns-clause-absent : goal.returns-clause-absent
returns-clause-absent c =
    standing-absent c.args.libraries.now c.args.folder.now c.args.lib.now (λ k d below. c.loop-place.invariant k d (omega (arith, below, c.loop-place-test.false)))

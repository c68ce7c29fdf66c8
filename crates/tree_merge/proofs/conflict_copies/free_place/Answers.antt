use Rattle.std.proofs.Common.{arith}
use Rattle.tree_merge.proofs.PlaceLemmas.{some_free}
use Rattle.tree_merge.proofs.conflict_copies.free_place.Goals as goal

pub unreachable-requires : goal.unreachable-requires
unreachable-requires c =
    let few = some_free c.args.known.now c.args.path.now c.args.file.now c.loop-number.number c.loop-number.invariant in
    let size = c.len.ensures.value in
    let past = c.loop-number-test.false in
    omega arith

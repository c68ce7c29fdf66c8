-- The pass that stands for all read of no more turns than it took.
use Rattle.std.proofs.Common.{arith}
use Rattle.sync_calls.proofs.closing.close_at.Goals as goal

pub returns : goal.returns
returns g c =
    let stands = c.in-Ok.ensures.value in
    let all = c.in-Ok.ensures.all in
    let first = c.requires.ready.first in record {
      start = stands.0;
      begins = stands.1;
      comes = stands.2;
      each = c.in-Ok.ensures.ok;
      drawn = omega (arith, all, first);
    }

-- Each write has its id.
use Rattle.std.proofs.Common.{arith, ap}
use Rattle.std.specs.FinMap as fin
use Rattle.sync_daemon.specs.Bringing.{with_owns}
use Rattle.sync_daemon.proofs.LoopLemmas.{owns_end, owns_next}
use Rattle.sync_daemon.proofs.known_entries.written_owns.Goals as goal

pub loop-write-init : goal.loop-write-init
loop-write-init c = ap (λ owns. with_owns owns c.args.writes.now c.args.owns.now) c.new-written.ensures.value

pub loop-write-preserved : goal.loop-write-preserved
loop-write-preserved c =
    owns_next (with_owns fin.empty c.args.writes.now c.args.owns.now) c.loop-write.written c.keep_own.new.written c.args.writes.now c.loop-write.write-index c.write-item.result c.loop-write.left.now
    c.in_ok-left.left.now (omega arith) c.write-item.is c.loop-write.invariant c.in_ok-left.ensures.value.0 c.in_ok-left.ensures.value.1

pub returns : goal.returns
returns c = record {
  value = owns_end (with_owns fin.empty c.args.writes.now c.args.owns.now) c.loop-write.written c.args.writes.now c.loop-write.write-index c.loop-write.left.now (omega arith) c.loop-write.invariant;
}

-- The line tells what was done.
use Rattle.library_server.proofs.RunLemmas.{added_so}
use Rattle.library_server.proofs.WholeLemmas.{added_whole}
use Rattle.library_server.proofs.running.add_printed.Goals as goal

pub returns : goal.returns
returns g c = record {
  value = (
    record {
      added = c.add_token-added.result;
      told = c.add_token-added.ensures.shown;
      is = added_so _ c.args.location.now c.args.lib (g.C.Clock.shows c.args.clock.now) c.args.new.now _ _ c.add_token-added.result c.add_token-added.ensures.any c.add_token-added.ensures.cause c.add_token-added.ensures.faults;
      back = c.add_token-added.ensures.back;
      prints = rw c.added_line.ensures.value at c.print_line.ensures.prints;
    },
    λ steady standing there whole. added_whole c.add_token-added.result (c.add_token-added.ensures.steady steady standing there whole),
  );
  others = c.add_token-added.ensures.others;
}

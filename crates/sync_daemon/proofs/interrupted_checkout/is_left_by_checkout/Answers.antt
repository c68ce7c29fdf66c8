-- What was seen passes, and then what is known.
use Rattle.std.proofs.Common.{sym, ◌∙◌}
use Rattle.sync_daemon.proofs.InterruptedCheckoutLemmas.{left_so, never_left}
use Rattle.sync_daemon.proofs.interrupted_checkout.is_left_by_checkout.Goals as goal

pub returns-then-not-are_left_seen : goal.returns-then-not-are_left_seen
returns-then-not-are_left_seen c = record {
  value = never_left c.args.seens.now c.args.knowns.now c.args.owns.now c.args.entries.now c.requires.ids (sym c.are_left_seen.ensures.value ∙ c.if-not-are_left_seen.true);
}

pub returns : goal.returns
returns c = record {
  value = left_so c.args.seens.now c.args.knowns.now c.args.owns.now c.args.entries.now c.requires.ids c.are_left_known.result (sym c.are_left_seen.ensures.value ∙ c.if-not-are_left_seen.false)
      c.are_left_known.ensures.value;
}

-- What differs, if that may not be pushed, is looked at.
use Rattle.sync_daemon.proofs.GoesUnpushedLemmas.{may_same, may_where}
use Rattle.sync_daemon.proofs.bringing.may_change.Goals as goal

pub returns-then-not-settled : goal.returns-then-not-settled
returns-then-not-settled c = record { value = may_same c.args.settled.now.differs c.args.settled.now.scan.paths c.args.index.now.entries c.args.entries.now c.if-not-settled.true }

pub returns : goal.returns
returns c = record {
  value = may_where c.args.settled.now.differs c.args.settled.now.scan.paths c.args.index.now.entries c.args.entries.now c.if-not-settled.false c.is_left_by_checkout.result
      c.is_left_by_checkout.ensures.value;
}

-- A new library is good.
use Rattle.depot.proofs.FitsLemmas.{fits_empty}
use Rattle.depot.proofs.MakeLemmas.{good_made}
use Rattle.depot.proofs.depot.Depot.make.Goals as goal

pub invariant_of-result : goal.invariant_of-result
invariant_of-result g c = record {
  good = good_made g.S.Shelf.contents g.S.Shelf.faults c.args.store c.make_in.new.store c.args.lib c.args.name.now c.args.user.now c.args.secret c.args.moment
      c.in-Ok.state c.in-Ok.ensures.value c.requires.fits c.requires.ready.0 c.requires.ready.1;
  fits = fits_empty g.S.Shelf.contents c.make_in.new.store c.new.result c.new.ensures.value;
  collects = λ s is. tt;
  candidates = tt;
  apart = tt;
}

pub returns-in-Ok-clause-stands : goal.returns-in-Ok-clause-stands
returns-in-Ok-clause-stands g c =
    good_made g.S.Shelf.contents g.S.Shelf.faults c.args.store c.make_in.new.store c.args.lib c.args.name.now c.args.user.now c.args.secret c.args.moment
    c.in-Ok.state c.in-Ok.ensures.value c.requires.fits c.requires.ready.0 c.requires.ready.1

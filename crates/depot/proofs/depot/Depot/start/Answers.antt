-- A library that was opened is good.
use Rattle.depot.proofs.FitsLemmas.{fits_empty, fits_same}
use Rattle.depot.proofs.StartLemmas.{good_opened}
use Rattle.depot.proofs.depot.Depot.start.Goals as goal

pub start_in-requires : goal.start_in-requires
start_in-requires g c = record { known = fits_empty g.S.Shelf.contents c.args.store c.new-known.result c.new-known.ensures.value }

pub invariant_of-result : goal.invariant_of-result
invariant_of-result g c = record {
  good = good_opened g.S.Shelf.contents g.S.Shelf.faults c.args.store c.start_in.new.store c.in-Ok.state c.in-Ok.ensures.value c.in-Ok.ensures.some_kept c.in-Ok.ensures.sound;
  fits = fits_same g.S.Shelf.contents c.args.store c.start_in.new.store c.start_in.new.known c.in-Ok.ensures.stays c.in-Ok.ensures.known;
  collects = λ s is. tt;
  candidates = tt;
  apart = tt;
}

pub returns-in-Ok-clause-stands : goal.returns-in-Ok-clause-stands
returns-in-Ok-clause-stands g c =
    good_opened g.S.Shelf.contents g.S.Shelf.faults c.args.store c.start_in.new.store c.in-Ok.state c.in-Ok.ensures.value c.in-Ok.ensures.some_kept c.in-Ok.ensures.sound

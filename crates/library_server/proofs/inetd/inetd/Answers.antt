-- What was opened comes back, and its end gives the status.
use Rattle.std.proofs.Common.{◌∙◌, ap, refl}
use Rattle.server_words.specs.Lines.{fault_status}
use Rattle.server_words.specs.Spelling.{location_text}
use Rattle.library_server.specs.Connections.{opened, unbrought}
use Rattle.library_server.specs.Counting.{opened_now}
use Rattle.library_server.proofs.CauseLemmas.{opening_harmless}
use Rattle.library_server.proofs.CollectionCauseLemmas.{calls_caused}
use Rattle.library_server.proofs.StandingLemmas.{comes_back, others_back}
use Rattle.library_server.proofs.WholeLemmas.{calls_whole}
use Rattle.library_server.proofs.inetd.inetd.Goals as goal

pub returns-in-Err : goal.returns-in-Err
returns-in-Err g c = record {
  serves = (
    unbrought c.in-Err.fault (record {
      told = c.in-Err.ensures.shown;
      cause = c.in-Err.ensures.cause;
      count = c.in-Err.ensures.faults;
      back = c.in-Err.ensures.back;
    }) (c.status.ensures.value ∙ ap fault_status c.fault.ensures.value) refl,
    c.in-Err.ensures.steady,
  );
  others = c.in-Err.ensures.others;
}

pub returns : goal.returns
returns g c = record {
  serves = (
    opened c.in-Ok.depot c.serve_opened-status.new.library c.in-Ok.ensures.any c.in-Ok.ensures.shown c.in-Ok.ensures.gives c.in-Ok.ensures.lying c.in-Ok.ensures.settled c.serve_opened-status.ensures.serves
        (calls_caused g.G.S.Shelf.contents g.G.S.Shelf.may_give g.G.S.Shelf.texts g.G.S.Shelf.faults (g.C.Clock.shows c.args.clock.now)
        (g.G.Ground.may_give c.args.libraries.now (location_text c.args.location.now) c.args.lib) (opened_now c.in-Ok.depot) c.serve_opened-status.ensures.serves.ran.0 c.serve_opened-status.new.library
        (opening_harmless c.args.location.now c.args.lib (g.C.Clock.shows c.args.clock.now) c.in-Ok.depot.state c.in-Ok.ensures.gives) c.serve_opened-status.ensures.serves.ran.1)
        c.bring_back.ensures.good
        (comes_back _ _ _ _ _ _ c.in-Ok.ensures.back (rw c.folder_word.ensures.value at c.bring_back.ensures.ok)),
    λ steady standing there whole.
        let ran = c.serve_opened-status.ensures.serves.ran in
        calls_whole g.G.S.Shelf.contents g.G.S.Shelf.may_give g.G.S.Shelf.texts g.G.S.Shelf.faults (g.C.Clock.shows c.args.clock.now) (opened_now c.in-Ok.depot) c.serve_opened-status.new.library ran.0 steady
        (c.in-Ok.ensures.steady steady standing there whole) ran.1,
  );
  others = others_back (location_text c.args.location.now) c.args.lib c.in-Ok.ensures.others (rw c.folder_word.ensures.value at c.bring_back.ensures.gives);
}

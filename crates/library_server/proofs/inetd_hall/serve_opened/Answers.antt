-- The connection is that of serve_link of a hall with one pass, and then the libraries come out of it.
use Rattle.std.proofs.Common.{refl, sym, ◌∙◌}
use Rattle.sync_calls.specs.Hall.{passes_in}
use Rattle.sync_calls.specs.Making.{IsNewOf}
use Rattle.sync_calls.proofs.GatheredLemmas.{popped}
use Rattle.hall_server.specs.Serving.{hall_shown}
use Rattle.library_server.specs.HallConnections.{held, not_held}
use Rattle.library_server.proofs.HallEndLemmas.{closed_within, led}
use Rattle.library_server.proofs.inetd_hall.serve_opened.Goals as goal

pub returns-in-Err : goal.returns-in-Err
returns-in-Err g c = not_held c.in-Err.ensures.err refl refl

pub serve_link-how-requires : goal.serve_link-how-requires
serve_link-how-requires g c = record {
  ready = (popped (IsNewOf g.S.Shelf.contents g.S.Shelf.may_give g.S.Shelf.texts g.S.Shelf.faults 1 c.args.depots.items c.in-Ok.made.0) _ _ _ c.in-Some.ensures.items c.in-Ok.ensures.ok).1.ready;
}

pub close-requires-clause-all : goal.close-requires-clause-all
close-requires-clause-all g c =
    let new = (popped (IsNewOf g.S.Shelf.contents g.S.Shelf.may_give g.S.Shelf.texts g.S.Shelf.faults 1 c.args.depots.items c.in-Ok.made.0) _ _ _ c.in-Some.ensures.items c.in-Ok.ensures.ok).1 in
    c.serve_link-how.ensures.size.0 ∙ (new.share ∙ sym (c.serve_link-how.ensures.size.1 ∙ new.made))

pub returns : goal.returns
returns g c =
    let new = (popped (IsNewOf g.S.Shelf.contents g.S.Shelf.may_give g.S.Shelf.texts g.S.Shelf.faults 1 c.args.depots.items c.in-Ok.made.0) _ _ _ c.in-Some.ensures.items c.in-Ok.ensures.ok).1 in
    let ran = c.serve_link-how.ensures.ran in
    held (record {
      how = c.serve_link-how.result;
      hall = c.in-Ok.made.0;
      pass = c.in-Some.pass;
      last = hall_shown c.serve_link-how.new.pass;
      begins = new;
      session = c.serve_link-how.ensures.session;
      ran = ran;
      each = led g.S.Shelf.contents g.S.Shelf.may_give g.S.Shelf.texts g.S.Shelf.faults c.args.depots.items c.close.result.items _ _ _ new.shows ran.2 c.close.ensures;
      within = closed_within g.S.Shelf.contents g.S.Shelf.may_give g.S.Shelf.texts g.S.Shelf.faults (passes_in c.serve_link-how.new.pass) c.close.result.items c.close.ensures;
      count = c.serve_link-how.ensures.faults;
      ends = c.serve_link-how.ensures.last;
      status_is = c.status_of.ensures.value;
    })

-- The library's room and the pass to it, by their place.
use Rattle.std.proofs.Common.{◌<◌, [], refl, subst, arith}
use Rattle.std.specs.Prelude.{vec_len}
use Rattle.sync_calls.specs.Asking.AsksSo.{nowhere}
use Rattle.sync_calls.specs.RoomPlace.{HasNoRoom, IsRoomOf}
use Rattle.sync_calls.proofs.EnteredLemmas.{asks_again, ready_again, ready_at, spent_again}
use Rattle.sync_calls.proofs.RoomLemmas.{nowhere_at}
use Rattle.sync_calls.proofs.asking.ask_by.Goals as goal

pub returns-in-None-clause-asks : goal.returns-in-None-clause-asks
returns-in-None-clause-asks g c = (
  [],
  nowhere (nowhere_at g.S.Shelf.contents g.S.Shelf.may_give g.S.Shelf.texts g.S.Shelf.faults c.args.hall.now c.args.pass.now c.requires.ready c.args.lib
      (subst (λ l. HasNoRoom l c.args.lib) c.as_slice.ensures.value c.in-None.ensures.absent)) c.without_turn.ensures refl refl,
  tt,
)

pub ask_at-requires : goal.ask_at-requires
ask_at-requires g c =
    let found = subst (λ l. IsRoomOf l c.args.lib c.in-Some.place) c.as_slice.ensures.value c.in-Some.ensures.found in
    let size = c.args.hall.now.rooms.ok.0 in
    let below = found.within in
    let within : c.in-Some.place < vec_len c.args.hall.now.rooms = omega arith in
    record {
      ready = ready_at g.S.Shelf.contents g.S.Shelf.may_give g.S.Shelf.texts g.S.Shelf.faults c.args.hall.now c.args.pass.now c.requires.ready c.in-Some.place c.index.result.now c.index_mut.result.now
          within c.index.ensures c.index_mut.ensures.value;
      named = c.requires.named;
    }

pub returns-clause-ready : goal.returns-clause-ready
returns-clause-ready g c =
    let found = subst (λ l. IsRoomOf l c.args.lib c.in-Some.place) c.as_slice.ensures.value c.in-Some.ensures.found in
    let size = c.args.hall.now.rooms.ok.0 in
    let below = found.within in
    let within : c.in-Some.place < vec_len c.args.hall.now.rooms = omega arith in
    ready_again g.S.Shelf.contents g.S.Shelf.may_give g.S.Shelf.texts g.S.Shelf.faults c.args.hall.now c.args.pass.now c.requires.ready c.in-Some.place c.index.result.now c.index_mut.result.now
    within c.index.ensures c.index_mut.ensures.value c.ask_at.new.pass c.ask_at.ensures.ready

pub returns-clause-asks : goal.returns-clause-asks
returns-clause-asks g c =
    let found = subst (λ l. IsRoomOf l c.args.lib c.in-Some.place) c.as_slice.ensures.value c.in-Some.ensures.found in
    let size = c.args.hall.now.rooms.ok.0 in
    let below = found.within in
    let within : c.in-Some.place < vec_len c.args.hall.now.rooms = omega arith in
    asks_again g.S.Shelf.contents g.S.Shelf.may_give g.S.Shelf.texts g.S.Shelf.faults c.args.hall.now c.args.pass.now c.requires.ready c.in-Some.place c.index.result.now c.index_mut.result.now
    within c.index.ensures c.index_mut.ensures.value (g.Q.Question.too_much c.args.question) c.args.lib (g.Q.Question.call c.args.question) c.args.moment c.ask_at.result c.ask_at.new.pass found c.ask_at.ensures.asks

pub returns-in-None-clause-drawn : goal.returns-in-None-clause-drawn
returns-in-None-clause-drawn g c = λ library is. is

pub returns-clause-drawn : goal.returns-clause-drawn
returns-clause-drawn g c =
    let found = subst (λ l. IsRoomOf l c.args.lib c.in-Some.place) c.as_slice.ensures.value c.in-Some.ensures.found in
    let size = c.args.hall.now.rooms.ok.0 in
    let below = found.within in
    let within : c.in-Some.place < vec_len c.args.hall.now.rooms = omega arith in
    spent_again g.S.Shelf.contents g.S.Shelf.may_give g.S.Shelf.texts g.S.Shelf.faults c.args.hall.now c.args.pass.now c.requires.ready c.in-Some.place c.index.result.now c.index_mut.result.now
    within c.index.ensures c.index_mut.ensures.value c.ask_at.new.pass c.ask_at.ensures.drawn

-- The library's room and the pass to it, by their place.
use Rattle.std.proofs.Common.{◌<◌, [], refl, subst, arith}
use Rattle.std.specs.Prelude.{vec_len}
use Rattle.sync_calls.specs.Collecting.CollectsSo.{nowhere}
use Rattle.sync_calls.specs.RoomPlace.{HasNoRoom, IsRoomOf}
use Rattle.sync_calls.proofs.EnteredLemmas.{collects_again, ready_again, ready_at, spent_again}
use Rattle.sync_calls.proofs.RoomLemmas.{nowhere_at}
use Rattle.sync_calls.proofs.collecting.Hall+S.collect.Goals as goal

pub returns-in-None-clause-told : goal.returns-in-None-clause-told
returns-in-None-clause-told g c = (
  [],
  nowhere (nowhere_at g.S.Shelf.contents g.S.Shelf.may_give g.S.Shelf.texts g.S.Shelf.faults c.args.self.now c.args.pass.now c.requires.ready c.args.lib
      (subst (λ l. HasNoRoom l c.args.lib) c.as_slice.ensures.value c.in-None.ensures.absent)) refl refl refl,
)

pub collect_at-requires : goal.collect_at-requires
collect_at-requires g c =
    let found = subst (λ l. IsRoomOf l c.args.lib c.in-Some.place) c.as_slice.ensures.value c.in-Some.ensures.found in
    let size = c.args.self.now.rooms.ok.0 in
    let below = found.within in
    let within : c.in-Some.place < vec_len c.args.self.now.rooms = omega arith in
    record {
      ready = ready_at g.S.Shelf.contents g.S.Shelf.may_give g.S.Shelf.texts g.S.Shelf.faults c.args.self.now c.args.pass.now c.requires.ready c.in-Some.place c.index.result.now c.index_mut.result.now
          within c.index.ensures c.index_mut.ensures.value;
    }

pub returns-clause-ready : goal.returns-clause-ready
returns-clause-ready g c =
    let found = subst (λ l. IsRoomOf l c.args.lib c.in-Some.place) c.as_slice.ensures.value c.in-Some.ensures.found in
    let size = c.args.self.now.rooms.ok.0 in
    let below = found.within in
    let within : c.in-Some.place < vec_len c.args.self.now.rooms = omega arith in
    ready_again g.S.Shelf.contents g.S.Shelf.may_give g.S.Shelf.texts g.S.Shelf.faults c.args.self.now c.args.pass.now c.requires.ready c.in-Some.place c.index.result.now c.index_mut.result.now
    within c.index.ensures c.index_mut.ensures.value c.collect_at.new.pass c.collect_at.ensures.ready

pub returns-clause-told : goal.returns-clause-told
returns-clause-told g c =
    let found = subst (λ l. IsRoomOf l c.args.lib c.in-Some.place) c.as_slice.ensures.value c.in-Some.ensures.found in
    let size = c.args.self.now.rooms.ok.0 in
    let below = found.within in
    let within : c.in-Some.place < vec_len c.args.self.now.rooms = omega arith in
    collects_again g.S.Shelf.contents g.S.Shelf.may_give g.S.Shelf.texts g.S.Shelf.faults c.args.self.now c.args.pass.now c.requires.ready c.in-Some.place c.index.result.now c.index_mut.result.now
    within c.index.ensures c.index_mut.ensures.value (g.C.Clock.shows c.args.clock.now) c.args.lib c.args.secret.now c.collect_at.result c.collect_at.new.pass found c.collect_at.ensures.told

pub returns-in-None-clause-drawn : goal.returns-in-None-clause-drawn
returns-in-None-clause-drawn g c = λ library is. is

pub returns-clause-drawn : goal.returns-clause-drawn
returns-clause-drawn g c =
    let found = subst (λ l. IsRoomOf l c.args.lib c.in-Some.place) c.as_slice.ensures.value c.in-Some.ensures.found in
    let size = c.args.self.now.rooms.ok.0 in
    let below = found.within in
    let within : c.in-Some.place < vec_len c.args.self.now.rooms = omega arith in
    spent_again g.S.Shelf.contents g.S.Shelf.may_give g.S.Shelf.texts g.S.Shelf.faults c.args.self.now c.args.pass.now c.requires.ready c.in-Some.place c.index.result.now c.index_mut.result.now
    within c.index.ensures c.index_mut.ensures.value c.collect_at.new.pass c.collect_at.ensures.drawn

-- All passes become one, which has seen nothing, and the library comes out as it went in.
use Rattle.std.proofs.Common.{◌≡◌, arith, ap, ◌∙◌, Some}
use Rattle.turnstile.specs.PassView.{IsNewPass, view_of}
use Rattle.sync_calls.specs.Shown.{LibraryView}
use Rattle.sync_calls.proofs.GatheredLemmas.{came_out, popped, unseen}
use Rattle.sync_calls.proofs.making.end_one.Goals as goal

pub loop-other-init : goal.loop-other-init
loop-other-init g c =
    let r = c.requires in
    let one = popped (IsNewPass c.args.fresh.room.lock (Some r.1) r.0 0) _ _ _ c.in-Some.ensures.items r.3.each in
    let size = r.3.size in
    let less = c.in-Some.ensures.len in
    let mine : (view_of c.in-Some.first).parts ≡ 1 = ap (λ (v : LibraryView g.row.S.Denot). v.parts) one.1.1 in
    let among : (view_of c.in-Some.first).passes ≡ r.0 = ap (λ (v : LibraryView g.row.S.Denot). v.passes) one.1.1 in (
      one.1.0,
      ap (λ (v : LibraryView g.row.S.Denot). v.seen) one.1.1,
      omega arith,
      λ passes depot is.
          let it = popped (IsNewPass c.args.fresh.room.lock (Some depot) passes 0) _ _ _ c.in-Some.ensures.items is.each in
          (ap (λ (v : LibraryView g.row.S.Denot). v.start) it.1.1, ap (λ (v : LibraryView g.row.S.Denot). v.passes) it.1.1, it.0),
    )

pub join-requires-clause-ready : goal.join-requires-clause-ready
join-requires-clause-ready g c κs within =
    let r = c.requires in
    let so = c.loop-other.invariant in
    (so.0, (popped (IsNewPass c.args.fresh.room.lock (Some r.1) r.0 0) _ _ _ c.in-Some-pop.ensures.items (so.3 r.0 r.1 r.3).2).1.0)

pub loop-other-preserved : goal.loop-other-preserved
loop-other-preserved g c =
    let r = c.requires in
    let so = c.loop-other.invariant in
    let one = popped (IsNewPass c.args.fresh.room.lock (Some r.1) r.0 0) _ _ _ c.in-Some-pop.ensures.items (so.3 r.0 r.1 r.3).2 in
    let less = c.in-Some-pop.ensures.len in
    let sum = so.2 in
    let its : (view_of c.in-Some-pop.other).parts ≡ 1 = ap (λ (v : LibraryView g.row.S.Denot). v.parts) one.1.1 in
    let share = ap (λ (v : LibraryView g.row.S.Denot). v.parts) c.join.ensures.view in
    let among = ap (λ (v : LibraryView g.row.S.Denot). v.passes) c.join.ensures.view in (
      c.join.ensures.ready,
      ap (λ (v : LibraryView g.row.S.Denot). v.seen) c.join.ensures.view ∙ unseen _ _ so.1 (ap (λ (v : LibraryView g.row.S.Denot). v.seen) one.1.1),
      omega arith,
      λ passes depot is.
          let known = so.3 passes depot is in
          let it = popped (IsNewPass c.args.fresh.room.lock (Some depot) passes 0) _ _ _ c.in-Some-pop.ensures.items known.2 in
          (ap (λ (v : LibraryView g.row.S.Denot). v.start) c.join.ensures.view ∙ known.0, among ∙ known.1, it.0),
    )

pub returns : goal.returns
returns g c = λ passes depot is.
    came_out g.S.Shelf.contents g.S.Shelf.may_give g.S.Shelf.texts g.S.Shelf.faults (view_of c.loop-other.first) depot c.in-Ok.depot c.in-Ok.ensures.value c.loop-other.invariant.1 (c.loop-other.invariant.3 passes depot is).0

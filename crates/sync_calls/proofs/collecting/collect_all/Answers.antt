-- One turn more, or the end.
use Rattle.std.proofs.Common.{refl, rules}
use Rattle.sync_calls.specs.Shown.{shown_of}
use Rattle.sync_calls.proofs.CollectTurnLemmas.{share_trans}
use Rattle.sync_calls.proofs.CollectingLemmas.{ends_there, none_taken, one_more}
use Rattle.sync_calls.proofs.collecting.collect_all.Goals as goal

pub loop-init : goal.loop-init
loop-init g c = record {
  can = search rules;
  ends = search rules;
  ready = c.requires.ready;
  known = c.requires.known;
  same = record { start = refl; parts = refl; passes = refl; first = refl };
  drawn = λ was. was;
  so = none_taken g.S.Shelf.contents g.S.Shelf.may_give g.S.Shelf.texts g.S.Shelf.faults (g.C.Clock.shows c.args.clock.now) (shown_of c.args.pass.now) _ refl refl refl;
}

pub loop-preserved : goal.loop-preserved
loop-preserved g c = record {
  can = search rules;
  ends = search rules;
  ready = c.in-Goes.ensures.ready;
  known = c.in-Goes.ensures.known;
  same = share_trans c.args.pass.now c.loop.pass c.turn_on.new.pass c.loop.invariant.same c.in-Goes.ensures.same;
  drawn = λ was. c.in-Goes.ensures.drawn (c.loop.invariant.drawn was);
  so = one_more g.S.Shelf.contents g.S.Shelf.may_give g.S.Shelf.texts g.S.Shelf.faults (g.C.Clock.shows c.args.clock.now) (shown_of c.args.pass.now) (shown_of c.loop.pass) (shown_of c.turn_on.new.pass)
      c.loop.so_far c.in-Goes.more _ c.loop.invariant.so c.in-Goes.ensures.told;
}

pub returns-in-Ends-clause-same : goal.returns-in-Ends-clause-same
returns-in-Ends-clause-same g c = share_trans c.args.pass.now c.loop.pass c.turn_on.new.pass c.loop.invariant.same c.in-Ends.ensures.same

pub returns-in-Ends-clause-drawn : goal.returns-in-Ends-clause-drawn
returns-in-Ends-clause-drawn g c = λ was. c.in-Ends.ensures.drawn (c.loop.invariant.drawn was)

pub returns-in-Ends-clause-told : goal.returns-in-Ends-clause-told
returns-in-Ends-clause-told g c =
    ends_there g.S.Shelf.contents g.S.Shelf.may_give g.S.Shelf.texts g.S.Shelf.faults (g.C.Clock.shows c.args.clock.now) (shown_of c.args.pass.now) (shown_of c.loop.pass) (shown_of c.turn_on.new.pass)
    c.loop.so_far _ c.loop.invariant.so c.in-Ends.ensures.known c.in-Ends.ends c.in-Ends.ensures.told

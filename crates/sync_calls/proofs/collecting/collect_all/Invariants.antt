-- The turns so far were taken one after another, and the pass is the same.
use Rattle.std.proofs.Common.{◌≡◌}
use Rattle.turnstile.specs.PassView.{IsPassOf, drawn_of}
use Rattle.turnstile.specs.Rule.{most_turns}
use Rattle.sync_calls.specs.ServedTurn.{IsSameShare}
use Rattle.sync_calls.specs.Shown.{Knows, shown_of}
use Rattle.sync_calls.proofs.CollectingLemmas.{IsCollecting}
use Rattle.sync_calls.proofs.collecting.collect_all.Given as goal

abbrev pub invariant-loop : goal.invariant-loop
invariant-loop g l =
    record {
      can : (goal.iterator-loop g).can_next l.iterator';
      ends : (goal.iterator-loop g).is_finite l.iterator';
      ready : IsPassOf l.lock l.pass;
      known : Knows g.S.Shelf.contents g.S.Shelf.may_give g.S.Shelf.texts g.S.Shelf.faults (shown_of l.pass);
      same : IsSameShare l.initial.pass l.pass;
      drawn : drawn_of l.initial.pass ≡ most_turns → drawn_of l.pass ≡ most_turns;
      so : IsCollecting g.S.Shelf.contents g.S.Shelf.may_give g.S.Shelf.texts g.S.Shelf.faults (g.C.Clock.shows l.clock) (shown_of l.initial.pass) l.so_far (shown_of l.pass);
    }

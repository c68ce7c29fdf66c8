use Rattle.std.proofs.Common.{◌≡◌, ◌<◌, ◌≤◌, []}
use Rattle.turnstile.specs.Rule.{most_turns}
use Rattle.turnstile.specs.PassView.{IsSamePass, participant_of, view_of, drawn_of}
use Rattle.turnstile.proofs.pass.Turnstile+V.ticket.Given as goal

abbrev pub invariant-loop : goal.invariant-loop
invariant-loop g l =
    record {
      can : (goal.iterator-loop g).can_next l.iterator';
      ends : (goal.iterator-loop g).is_finite l.iterator';
      same : IsSamePass l.initial.pass l.pass;
      below : l.guess ≤ most_turns;
      read : 0 < l.guess → drawn_of l.pass ≡ l.guess;
      grows : drawn_of l.initial.pass ≤ drawn_of l.pass;
      kept : participant_of l.pass ≡ (record (view_of l.initial.pass) { drawn = drawn_of l.pass }, []);
    }

use Rattle.std.proofs.Common.{◌≡◌}
use Rattle.turnstile.specs.PassView.{IsSamePass, participant_of}
use Rattle.turnstile.proofs.pass.Turnstile+V.await_turn.Given as goal

abbrev pub invariant-loop : goal.invariant-loop
invariant-loop g l =
    record {
      can : (goal.iterator-loop g).can_next l.iterator';
      ends : (goal.iterator-loop g).is_finite l.iterator';
      same : IsSamePass l.initial.pass l.pass;
      kept : participant_of l.pass ≡ participant_of l.initial.pass;
    }

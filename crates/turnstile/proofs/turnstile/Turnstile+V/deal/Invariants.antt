use Rattle.std.proofs.Common.{◌-◌, ◌≡◌, ◌+◌, ◌≤◌, All, [], vec_len, vec_capacity}
use Rattle.turnstile.specs.Steps.{newcomer}
use Rattle.turnstile.specs.PassView.{IsNewPass, WasMadeBy, participant_of, start_of, first_of}
use Rattle.turnstile.proofs.turnstile.Turnstile+V.deal.Given as goal

abbrev pub invariant-loop-first : goal.invariant-loop-first
invariant-loop-first g l =
    record {
      own : WasMadeBy l.self l.first;
      room : vec_len l.made + l.first.parts ≤ vec_capacity l.made;
      some_part : 1 ≤ l.first.parts;
      count : vec_len l.made + l.first.parts ≡ l.initial.first.parts;
      left : participant_of l.first ≡ (newcomer (start_of l.initial.first) l.initial.first.parts (first_of l.initial.first) l.first.parts, []);
      dealt : All (IsNewPass l.self (start_of l.initial.first) l.initial.first.parts (first_of l.initial.first)) l.made.items;
    }

abbrev pub decreases-loop-first : goal.decreases-loop-first
decreases-loop-first g l = l.first.parts - 1

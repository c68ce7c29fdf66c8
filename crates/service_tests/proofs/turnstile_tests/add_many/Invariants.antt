use Rattle.turnstile.specs.PassView.{IsPassOf}
use Rattle.service_tests.proofs.turnstile_tests.add_many.Given as goal

abbrev pub invariant-loop : goal.invariant-loop
invariant-loop g l = IsPassOf l.turnstile l.pass

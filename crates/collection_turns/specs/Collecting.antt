-- What follows a turn of a collection, for a private clause. Our own.
use Rattle.std.specs.Prelude.{ℕ, ◌≡◌, ◌+◌, true, length, min}
use Rattle.depot.specs.CollectionTurns.{removed_in}
use Rattle.depot.specs.declared.turn.Turn.{Turn}
use Rattle.depot.specs.declared.turn.Turn.TheVariants.{Ended, Over, Refused}
use Rattle.worker_server.specs.declared.host.Collected.TheVariants as collected
use Rattle.collection_turns.specs.Turns.{goes_on}
use Rattle.collection_turns.specs.declared.collecting.Step.{Step}
use Rattle.collection_turns.specs.declared.collecting.Step.TheVariants as step

-- another, with what was removed till now, which stays within 64 bits; or the end
abbrev pub StepsSo : Turn → ℕ → Step → Type 0
StepsSo turn removed (step.Goes sum) = (goes_on turn ≡ true) × (sum ≡ min 18446744073709551615 (removed + length (removed_in turn)))
StepsSo (Ended number) removed (step.Ends ends) = ends ≡ collected.Done number removed
StepsSo (Over number) removed (step.Ends ends) = ends ≡ collected.Done number removed
StepsSo (Refused why keys) removed (step.Ends ends) = ends ≡ collected.Refused why
StepsSo turn removed (step.Ends ends) = ⊥

-- What is left of the holders tells the right.
use Rattle.std.proofs.Common.{◌≡◌, drop}
use Rattle.sync_calls.specs.Door.{right_in}
use Rattle.sync_calls.proofs.door.right_in.Given as goal

abbrev pub invariant-loop-holder : goal.invariant-loop-holder
invariant-loop-holder l = right_in (drop l.holder-index l.holders) l.secret ≡ right_in l.holders l.secret

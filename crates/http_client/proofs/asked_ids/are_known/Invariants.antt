-- The ids so far are known.
use Rattle.std.proofs.Common.{◌≡◌, true, take}
use Rattle.http_client.specs.OrderOutcome.{are_among}
use Rattle.http_client.proofs.asked_ids.are_known.Given as goal

abbrev pub invariant-loop-id : goal.invariant-loop-id
invariant-loop-id l = are_among l.asked (take l.id-index l.ids) ≡ true

-- The table knows the ids so far.
use Rattle.std.proofs.Common.{take}
use Rattle.http_client.specs.AskedIds.{KnowsIds}
use Rattle.http_client.proofs.asked_ids.table_of.Given as goal

abbrev pub invariant-loop-id : goal.invariant-loop-id
invariant-loop-id l = KnowsIds (take l.id-index l.asked) l.known

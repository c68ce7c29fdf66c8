-- The values of what is left are those of the query.
use Rattle.std.proofs.Common.{◌≡◌, length, IsUtf8}
use Rattle.http_front.specs.Query.{values_of}
use Rattle.http_front.proofs.query.first_value.Given as goal

abbrev pub invariant-loop-part : goal.invariant-loop-part
invariant-loop-part l = (values_of l.name l.left ≡ values_of l.name l.fn.query) × IsUtf8 l.left

abbrev pub decreases-loop-part : goal.decreases-loop-part
decreases-loop-part l = length l.left

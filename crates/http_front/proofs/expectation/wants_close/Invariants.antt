use Rattle.std.proofs.Common.{◌≡◌, drop}
use Rattle.http_front.specs.Fields.{fields_at}
use Rattle.http_front.specs.RequestHead.{wants_close}
use Rattle.http_front.proofs.expectation.wants_close.Given as goal

abbrev pub invariant-loop-header : goal.invariant-loop-header
invariant-loop-header l =
    wants_close (fields_at l.bytes (drop l.header-index l.headers)) ≡ wants_close (fields_at l.bytes l.headers)

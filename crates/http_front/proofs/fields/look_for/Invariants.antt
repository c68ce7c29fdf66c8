use Rattle.std.proofs.Common.{◌≡◌, drop, length}
use Rattle.http_front.specs.Fields.{IsSeenWithin, fields_at, found, values_of}
use Rattle.http_front.proofs.FieldLemmas.{found_after}
use Rattle.http_front.proofs.fields.look_for.Given as goal

abbrev pub invariant-loop-header : goal.invariant-loop-header
invariant-loop-header l = record {
  value : found_after l.bytes l.seen (values_of l.name (fields_at l.bytes (drop l.header-index l.headers)))
      ≡ found (values_of l.name (fields_at l.bytes l.headers));
  within : IsSeenWithin (length l.bytes) l.seen;
}

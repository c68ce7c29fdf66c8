use Rattle.std.proofs.Common.{◌≡◌, drop}
use Rattle.std.specs.List.{list_any}
use Rattle.http_front.specs.Fields.{fields_at, is_word, values_of}
use Rattle.http_front.proofs.fields.has_word.Given as goal

abbrev pub invariant-loop-header : goal.invariant-loop-header
invariant-loop-header l =
    list_any (is_word l.word) (values_of l.name (fields_at l.bytes (drop l.header-index l.headers)))
    ≡ list_any (is_word l.word) (values_of l.name (fields_at l.bytes l.headers))

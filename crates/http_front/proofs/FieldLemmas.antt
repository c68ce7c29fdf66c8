-- The fields that are left to look at, in the loops over them.
use Rattle.std.proofs.Common.{ℕ, List, [], ◌∷◌}
use Rattle.httparse.specs.Spans.{span_bytes}
use Rattle.http_front.specs.Fields.{Found, once, again, found}
use Rattle.http_front.specs.declared.fields.Seen.{Seen}
use Rattle.http_front.specs.declared.fields.Seen.TheVariants.{Never, Once, Again}

-- how often a field is there, after what was seen and with the values that are left
abbrev pub found_after : List ℕ → Seen → List (List ℕ) → Found
found_after bytes Never values = found values
found_after bytes (Once span) [] = once (span_bytes bytes span)
found_after bytes (Once span) (value ∷ more) = again
found_after bytes Again values = again

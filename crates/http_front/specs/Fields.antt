-- The fields of a head, by name (RFC 9112, section 5). A field is its name and its value without the
-- white space around it. Read first: found.
use Rattle.std.specs.Prelude.{ℕ, Bool, true, false, ◌==◌, List, [], ◌∷◌, map, if◌then◌else◌, ⊤}
use Rattle.std.specs.Str.{bytes_eq}
use Rattle.std.specs.List.{list_any}
use Rattle.std.specs.Char.{to_ascii_lowercase}
use Rattle.httparse.specs.Grammar.{trim_ows}
use Rattle.httparse.specs.Spans.{IsWithin, header_bytes, span_bytes}
use Rattle.httparse.specs.declared.spans.HeaderSpan.{HeaderSpan}
use Rattle.http_front.specs.declared.fields.Seen.{Seen}
use Rattle.http_front.specs.declared.fields.Seen.TheVariants.{Never, Once, Again}

abbrev pub FieldList : Type 0
FieldList = List (List ℕ × List ℕ)

-- the bytes are that word, without regard to the case of ASCII letters
abbrev pub is_word : List ℕ → List ℕ → Bool
is_word word bytes = bytes_eq (map to_ascii_lowercase bytes) (map to_ascii_lowercase word)

-- the values of the fields of that name, in order
abbrev pub values_of : List ℕ → FieldList → List (List ℕ)
values_of name [] = []
values_of name (field ∷ fields) =
    if is_word name field.0 then field.1 ∷ values_of name fields else values_of name fields

-- how often a field is there, and its value where it is there once
pub data Found : Type 0 where
  absent : Found
  once : (value : List ℕ) → Found
  again : Found

-- how often there is a value
abbrev pub found : List (List ℕ) → Found
found [] = absent
found (value ∷ []) = once value
found (value ∷ other ∷ more) = again

abbrev pub is_absent : Found → Bool
is_absent absent = true
is_absent (once value) = false
is_absent again = false

abbrev pub is_once : Found → Bool
is_once absent = false
is_once (once value) = true
is_once again = false

-- what a value holds between its commas
abbrev pub with_first : ℕ → List (List ℕ) → List (List ℕ)
with_first byte [] = (byte ∷ []) ∷ []
with_first byte (first ∷ more) = (byte ∷ first) ∷ more

abbrev pub elements : List ℕ → List (List ℕ)
elements [] = [] ∷ []
elements (byte ∷ value) = if byte == 44 then [] ∷ elements value else with_first byte (elements value)

-- some element of the value, without the blanks around it, is that word
abbrev pub has_element : List ℕ → List ℕ → Bool
has_element word value = list_any (λ element. is_word word (trim_ows element)) (elements value)

-- the fields that the spans cover
abbrev pub fields_at : List ℕ → List HeaderSpan → FieldList
fields_at bytes headers = map (header_bytes bytes) headers

-- what was seen of a field, as its value
abbrev pub found_at : List ℕ → Seen → Found
found_at bytes Never = absent
found_at bytes (Once span) = once (span_bytes bytes span)
found_at bytes Again = again

-- the value lies in the first n bytes
abbrev pub IsSeenWithin : ℕ → Seen → Type 0
IsSeenWithin n Never = ⊤
IsSeenWithin n (Once span) = IsWithin n span
IsSeenWithin n Again = ⊤

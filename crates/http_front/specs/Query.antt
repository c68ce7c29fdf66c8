-- The query of a target, which is what follows its first `?` (RFC 9112, section 3.2.1). Our own form, after that of web
-- forms, but nothing is percent-decoded: a query is cut at each `&`; a part with a `=` in it is a name, which stands in
-- front of the first `=`, and a value, which follows it. Every other part is passed over.
-- Read values_of first, then op_asked, id_asked, days_asked and client_asked, at the end.
use Rattle.std.specs.Prelude.{ℕ, ℤ, pos, neg_ℤ, nat_le, ◌==◌, if◌then◌else◌, Option, None, Some, List, [], ◌∷◌, length, codes, option_map}
use Rattle.std.specs.List.{slice_split, before_first, after_first, position_or_len}
use Rattle.std.specs.Option.{option_and_then}
use Rattle.std.specs.Str.{bytes_eq}
use Rattle.std.specs.Borrow.{Bor}
use Rattle.library_state.specs.declared.call.Op.{Op}
use Rattle.library_state.specs.declared.call.Op.TheVariants.{Upload, Download}
use Rattle.json_words.specs.IdText.{object_id_of}
use Rattle.http_front.specs.RequestHead.{number_in}

-- what follows the first `?`, or nothing where there is none
abbrev pub query_of : List ℕ → List ℕ
query_of target = after_first (λ c. c == 63) target

-- a query between its `&`
abbrev pub query_parts : List ℕ → List (List ℕ)
query_parts query = slice_split (λ c. c == 38) query

-- the value of a part, where the part has one and this name
abbrev pub value_in : List ℕ → List ℕ → Option (List ℕ)
value_in name part =
    if position_or_len (λ c. c == 61) part == length part then None
    else if bytes_eq (before_first (λ c. c == 61) part) name then Some (after_first (λ c. c == 61) part)
    else None

-- a value and more, or no more than these
abbrev pub and_more : Option (List ℕ) → List (List ℕ) → List (List ℕ)
and_more None more = more
and_more (Some value) more = value ∷ more

-- the values of the parts of this name, in order
abbrev pub values_in : List ℕ → List (List ℕ) → List (List ℕ)
values_in name [] = []
values_in name (part ∷ parts) = and_more (value_in name part) (values_in name parts)

-- the values that a query has of this name
abbrev pub values_of : List ℕ → List ℕ → List (List ℕ)
values_of name query = values_in name (query_parts query)

-- the one value that there is
abbrev pub only : List (List ℕ) → Option (List ℕ)
only [] = None
only (value ∷ []) = Some value
only (value ∷ other ∷ more) = None

-- what a word says is to be done
abbrev pub op_of : List ℕ → Option Op
op_of word =
    if bytes_eq word (codes "upload") then Some Upload
    else if bytes_eq word (codes "download") then Some Download
    else None

-- what is to be done: the one value of `op`, where it is one of the two words
unfoldable pub op_asked : List ℕ → Option Op
op_asked query = option_and_then op_of (only (values_of (codes "op") query))

-- the id that the one value of this name is
unfoldable pub id_asked : List ℕ → List ℕ → Option (List ℕ)
id_asked name query = option_and_then object_id_of (only (values_of name query))

-- a number of 1 to 18 decimal digits
abbrev pub day_count : List ℕ → Option ℕ
day_count text = if nat_le (length text) 18 then number_in text else None

-- so many days, with or without a minus
abbrev pub days_of : List ℕ → Option ℤ
days_of [] = None
days_of (c ∷ text) = if c == 45 then option_map (λ days. neg_ℤ (pos days)) (day_count text) else option_map pos (day_count (c ∷ text))

-- the days that the one value of `days` is
unfoldable pub days_asked : List ℕ → Option ℤ
days_asked query = option_and_then days_of (only (values_of (codes "days") query))

-- an id that may be left out: there is none where the query has no value of its name
abbrev pub if_there : List (List ℕ) → Option (List ℕ) → Option (Option (List ℕ))
if_there [] id = Some None
if_there (value ∷ more) id = option_map Some id

-- the commit that a client has, if the query names one
unfoldable pub client_asked : List ℕ → Option (Option (List ℕ))
client_asked query = if_there (values_of (codes "client-head") query) (id_asked (codes "client-head") query)

-- a value and what of the query follows its part, as the values that they stand for
abbrev pub values_from : List ℕ → Option (Bor (List ℕ) × Bor (List ℕ)) → List (List ℕ)
values_from name None = []
values_from name (Some first) = first.0.now ∷ values_of name first.1.now

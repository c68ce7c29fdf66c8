-- Which token opens an object or an array, and which is a text.
use Rattle.std.specs.Prelude.{ℕ, List, Option, Some, None, Bool, true, false}
use Rattle.json.specs.Token.{Token}

abbrev pub is_begin_object : Token → Bool
is_begin_object Token.begin_object = true
is_begin_object Token.end_object = false
is_begin_object Token.begin_array = false
is_begin_object Token.end_array = false
is_begin_object (Token.key s) = false
is_begin_object (Token.string s) = false
is_begin_object (Token.number s) = false
is_begin_object (Token.boolean b) = false
is_begin_object Token.null = false
is_begin_object Token.bad = false

abbrev pub is_begin_array : Token → Bool
is_begin_array Token.begin_object = false
is_begin_array Token.end_object = false
is_begin_array Token.begin_array = true
is_begin_array Token.end_array = false
is_begin_array (Token.key s) = false
is_begin_array (Token.string s) = false
is_begin_array (Token.number s) = false
is_begin_array (Token.boolean b) = false
is_begin_array Token.null = false
is_begin_array Token.bad = false

-- the text of a token that is one
abbrev pub text_in : Token → Option (List ℕ)
text_in Token.begin_object = None
text_in Token.end_object = None
text_in Token.begin_array = None
text_in Token.end_array = None
text_in (Token.key s) = None
text_in (Token.string s) = Some s
text_in (Token.number s) = None
text_in (Token.boolean b) = None
text_in Token.null = None
text_in Token.bad = None

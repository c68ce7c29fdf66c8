-- What the value at the front of a whole text tells of the text.
use Rattle.std.proofs.Common.{◌≡◌, ℕ, List, [], ◌∷◌, Option, Some, None, option_map, ap}
use Rattle.std.specs.Prelude.{option_and_then}
use Rattle.json.specs.Json.{value}
use Rattle.json.specs.Json as json
use Rattle.json.specs.Lex.{tokens}
use Rattle.json.specs.Token.{Token}
use Rattle.serde_json.specs.Data.{Data}
use Rattle.serde_json.specs.Read.{of_json, converted, read}
use Rattle.json_tokens.specs.Front.{FrontIs, NoFront}
use Rattle.json_tokens.proofs.ConvertedLemmas.{whole_read, whole_and_more, whole_refused}

front_of : (o : Option (json.Json × List Token)) (d : Data) → option_and_then of_json (option_and_then (λ p. json.if_last p.0 p.1) o) ≡ Some d → converted of_json o ≡ Some (d, [])
front_of None d e = absurd (cc)
front_of (Some (j, [])) d e = ap (option_map (λ a. (a, []))) e
front_of (Some (j, t ∷ r)) d e = absurd (cc)

-- a text that is read has a value at its front
pub read-front : (text : List ℕ) (d : Data) → read text ≡ Some d → FrontIs 127 (tokens text) d []
read-front text d e = front_of (value 127 (tokens text)) d e

module _ (text : List ℕ) where
  -- a value, and nothing behind it
  pub read-whole : (d : Data) → FrontIs 127 (tokens text) d [] → read text ≡ Some d
  read-whole d front = whole_read (value 127 (tokens text)) d front

  pub read-more : (d : Data) (t : Token) (rest : List Token) → FrontIs 127 (tokens text) d (t ∷ rest) → read text ≡ None
  read-more d t rest front = whole_and_more (value 127 (tokens text)) d t rest front

  pub read-none : NoFront 127 (tokens text) → read text ≡ None
  read-none none = whole_refused (value 127 (tokens text)) none

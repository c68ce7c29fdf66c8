-- The digits of a secret are a text of their form, and what such a text is read as is a secret.
use Rattle.std.proofs.Common.{◌≡◌, ◌<◌, ◌*◌, ◌%◌, ℕ, List, length, Result, Ok, subst, sym, ◌∙◌, arith}
use Rattle.std.proofs.lemmas.List.Elements.{All-from_get_or}
use Rattle.std.proofs.lemmas.Str.{IsUtf8-from_ascii}
use Rattle.std.specs.Str.{IsUtf8}
use Rattle.hex.proofs.HexLemmas.{IsAscii-encode_with}
use Rattle.hex.specs.Hex.{decode_of, encode_lower, lower_digits}
use Rattle.hex.specs.declared.error.FromHexError.{FromHexError}
use Rattle.ids.proofs.DigitsLemmas.{AllPass-digits, IsAscii-lower_digits, IsBytes-from_All, IsOf-encode_lower, bytes_of, bytes_of-bytes, decode_of-digits, length-bytes_of}
use Rattle.ids.specs.Digits.{digits_form}
use Rattle.ids.specs.Form.{IsOf}
use Rattle.http_front.specs.NextHead.{IsSecret}

pub secret_text : (text secret : List ℕ) → text ≡ encode_lower secret → IsUtf8 text
secret_text text secret same = subst IsUtf8 (sym same) (IsUtf8-from_ascii _ (IsAscii-encode_with lower_digits secret IsAscii-lower_digits))

pub secret_form : (text secret : List ℕ) → IsSecret secret → text ≡ encode_lower secret → IsOf digits_form text
secret_form text secret is same =
    subst (IsOf digits_form) (sym same) (IsOf-encode_lower secret is.size (All-from_get_or (λ byte. byte < 256) secret 0 (λ k below. is.bytes k)))

abbrev read_as : List ℕ → Result (List ℕ) FromHexError
read_as bytes = Ok bytes

same_read : (a b : List ℕ) → read_as a ≡ read_as b → a ≡ b
same_read a b same = cc

-- what 40 digits are read as is a secret
pub secret_read : (text secret : List ℕ) → IsOf digits_form text → decode_of text ≡ Ok secret → IsSecret secret
secret_read text secret is read =
    let same = same_read (bytes_of text) secret (sym (decode_of-digits text is) ∙ read) in
    subst IsSecret same (record { size = size (length (bytes_of text)) (long is.whole); bytes = IsBytes-from_All (bytes_of text) (bytes_of-bytes text (AllPass-digits text is)) })
  where
    size : (n : ℕ) → 40 ≡ 2 * n → n ≡ 20
    size n e = omega (arith, e)

    even : length text ≡ 40 → length text % 2 ≡ 0
    even e = omega (arith, e)

    long : length text ≡ 40 → 40 ≡ 2 * length (bytes_of text)
    long e = sym e ∙ length-bytes_of text (even e)

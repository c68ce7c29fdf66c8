-- What is known of the value of some bytes, by what `serde_json` answers.
use Rattle.std.proofs.Common.{◌≡◌, ℕ, List, Bool, true, false, cond, None, IsUtf8, refl, ap}
use Rattle.std.specs.Str.{is_utf8}
use Rattle.std.proofs.lemmas.Str.{is_utf8-from_IsUtf8, IsUtf8-from_is_utf8}
use Rattle.serde_json.specs.Read.{read}
use Rattle.json_words.specs.JsonText.{json_of}

-- bytes that are UTF-8 have the value that is read of them
pub json_of-utf8 : (bytes : List ℕ) → IsUtf8 bytes → json_of bytes ≡ read bytes
json_of-utf8 bytes text = ap (λ b. cond b (read bytes) None) (is_utf8-from_IsUtf8 bytes text)

absent_by : (bytes : List ℕ) (b : Bool) → is_utf8 bytes ≡ b → (IsUtf8 bytes → read bytes ≡ None) → cond b (read bytes) None ≡ None
absent_by bytes true is none = none (IsUtf8-from_is_utf8 bytes is)
absent_by bytes false is none = refl

-- bytes that are no UTF-8, or of which nothing is read, have none
pub json_of-none : (bytes : List ℕ) → (IsUtf8 bytes → read bytes ≡ None) → json_of bytes ≡ None
json_of-none bytes none = absent_by bytes _ refl none

-- What the bytes of a state text are read as, or the first failing check. docs/FORMATS.md, "State text".
-- Read state_of first; version 1.
use Rattle.std.specs.Prelude.{ℕ, ◌==◌, ◌^◌, ◌&&◌, nat_le, ℤ, negsuc, int_le, Bool, not, List, [], ◌∷◌, ◌++◌, length, codes, Result, Ok, Err, ⊤}
use Rattle.serde_json.specs.Data.{Data}
use Rattle.json_words.specs.Check.{◌>>=◌, holds, ok_or, each}
use Rattle.json_words.specs.Fields.{is_object, field, number_field, number_between, integer_field, text_field, array_field, has_only}
use Rattle.json_words.specs.IdText.{object_id_of, stored_id_in, library_id_of}
use Rattle.json_words.specs.JsonText.{json_of}
use Rattle.json_words.specs.declared.fields.FieldFault.{FieldFault}
use Rattle.json_words.specs.declared.fields.FieldFault.TheVariants.{WrongType}
use Rattle.library_state.specs.Rights.{right_of}
use Rattle.library_state.specs.Tokens.{is_taken}
use Rattle.library_state.specs.declared.right.Right.{Right}
use Rattle.library_state.specs.declared.history.Install.{Install}
use Rattle.library_state.specs.declared.state.LibState.{LibState}
use Rattle.library_state.specs.declared.state_fault.StateKey.{StateKey}
use Rattle.library_state.specs.declared.state_fault.StateKey.TheVariants.{Whole, Version, Collection, Days, Kept, Lib, LibName, Opening, Tokens, Extra}
use Rattle.library_state.specs.declared.token.Token.{Token}
use Rattle.library_state.specs.declared.state.TheConstants.{MAX_DAYS, MAX_STATE_NAME, MAX_TOKENS}

-- openings and collections are counted up to this number
abbrev pub last_number : ℕ
last_number = 2 ^ 63

-- a check, whose fault is told at its key
abbrev pub at_key : {A E : Type 0} → StateKey → Result A E → Result A StateKey
at_key key (Ok found) = Ok found
at_key key (Err fault) = Err key

unfoldable pub right_version : Data → Result ⊤ StateKey
right_version d = do
  version ← at_key Version (number_field (codes "version") d)
  holds (version == 1) Version

unfoldable pub collection_in : Data → Result ℕ StateKey
collection_in d = at_key Collection (number_between 0 last_number (codes "collection") d)

-- a number of days, or -1 for ever
abbrev pub is_day_count : ℤ → Bool
is_day_count days = int_le (negsuc 0) days && int_le days MAX_DAYS

unfoldable pub days_in : Data → Result ℤ StateKey
days_in d = do
  days ← at_key Days (integer_field (codes "days") d)
  within ← holds (is_day_count days) Days
  Ok days

-- a field that is the text of an id other than forty zeros
unfoldable pub stored_id_field : List ℕ → Data → Result (List ℕ) FieldFault
stored_id_field name d = do
  found ← field name d
  ok_or (stored_id_in found) WrongType

-- a head update: an object with exactly these keys
unfoldable pub install_of : Data → Result Install StateKey
install_of d = do
  known ← holds (has_only (codes "at" ∷ codes "head" ∷ codes "pushed" ∷ []) d) Kept
  at ← at_key Kept (number_field (codes "at") d)
  head ← at_key Kept (stored_id_field (codes "head") d)
  pushed ← at_key Kept (stored_id_field (codes "pushed") d)
  Ok (record { head = head; pushed = pushed; at = at })

-- at least one head update
unfoldable pub kept_in : Data → Result (List Install) StateKey
kept_in d = do
  items ← at_key Kept (array_field (codes "kept") d)
  some ← holds (nat_le 1 (length items)) Kept
  each install_of items

unfoldable pub library_in : Data → Result (List ℕ) StateKey
library_in d = do
  text ← at_key Lib (text_field (codes "lib") d)
  ok_or (library_id_of text) Lib

unfoldable pub name_in : Data → Result (List ℕ) StateKey
name_in d = do
  text ← at_key LibName (text_field (codes "name") d)
  fits ← holds (nat_le (length text) MAX_STATE_NAME) LibName
  Ok text

unfoldable pub opening_in : Data → Result ℕ StateKey
opening_in d = at_key Opening (number_between 1 last_number (codes "opening") d)

-- the name of a user, 1 to 255 bytes
unfoldable pub user_in : Data → Result (List ℕ) StateKey
user_in d = do
  text ← at_key Tokens (text_field (codes "user") d)
  fits ← holds (nat_le 1 (length text) && nat_le (length text) MAX_STATE_NAME) Tokens
  Ok text

unfoldable pub right_in : Data → Result Right StateKey
right_in d = do
  text ← at_key Tokens (text_field (codes "right") d)
  ok_or (right_of text) Tokens

-- the digits of a secret, which may be forty zeros
unfoldable pub secret_in : Data → Result (List ℕ) StateKey
secret_in d = do
  text ← at_key Tokens (text_field (codes "secret") d)
  ok_or (object_id_of text) Tokens

-- what a token's value says: an object with exactly these keys, that saw no later collection
unfoldable pub parts_of : ℕ → Data → Result Token StateKey
parts_of collection d = do
  known ← holds (has_only (codes "last" ∷ codes "right" ∷ codes "secret" ∷ codes "user" ∷ []) d) Tokens
  last ← at_key Tokens (number_between 0 collection (codes "last") d)
  right ← right_in d
  secret ← secret_in d
  user ← user_in d
  Ok (record { secret = secret; user = user; right = right; last = last })

-- a token beside others, which have other secrets
unfoldable pub token_of : ℕ → List Token → Data → Result Token StateKey
token_of collection others d = do
  token ← parts_of collection d
  new ← holds (not (is_taken others token.secret)) Tokens
  Ok token

-- the earlier tokens and then those of the items, each beside all before it
abbrev pub tokens_after : ℕ → List Token → List Data → Result (List Token) StateKey
tokens_after collection earlier [] = Ok earlier
tokens_after collection earlier (d ∷ ds) = token_of collection earlier d >>= (λ token. tokens_after collection (earlier ++ token ∷ []) ds)

-- at most 1,000 tokens
unfoldable pub tokens_in : ℕ → Data → Result (List Token) StateKey
tokens_in collection d = do
  items ← at_key Tokens (array_field (codes "tokens") d)
  few ← holds (nat_le (length items) MAX_TOKENS) Tokens
  tokens_after collection [] items

-- the keys of a state text
abbrev pub state_keys : List (List ℕ)
state_keys =
    codes "collection" ∷ codes "days" ∷ codes "kept" ∷ codes "lib" ∷ codes "name"
    ∷ codes "opening" ∷ codes "tokens" ∷ codes "version" ∷ []

unfoldable pub state_in : Data → Result LibState StateKey
state_in d = do
  version ← right_version d
  collection ← collection_in d
  days ← days_in d
  kept ← kept_in d
  lib ← library_in d
  name ← name_in d
  opening ← opening_in d
  tokens ← tokens_in collection d
  known ← holds (has_only state_keys d) Extra
  Ok (record {
    lib = lib;
    name = name;
    kept = kept;
    days = days;
    collection = collection;
    opening = opening;
    tokens = tokens;
  })

-- the state that some bytes are the text of
unfoldable pub state_of : List ℕ → Result LibState StateKey
state_of bytes = do
  d ← ok_or (json_of bytes) Whole
  object ← holds (is_object d) Whole
  state_in d

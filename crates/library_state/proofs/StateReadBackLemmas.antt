-- The written value of a state is read as the state. The key lemma is state_of-state_data.
use Rattle.std.proofs.Common.{◌≡◌, ◌≢◌, ◌≤◌, ℕ, ℤ, List, codes, [], ◌∷◌, ◌++◌, ◌&&◌, true, false, map, length, nat_le, All, FitsSigned, Some, Ok, refl, sym, ap, subst, ◌∙◌, arith, append_assoc, append-nil}
use Rattle.std.proofs.lemmas.Bool.Decides.{nat_tests}
use Rattle.std.proofs.lemmas.Cmp.{nat_list_eq_equiv}
use Rattle.std.proofs.lemmas.List.{map-append, length-map}
use Rattle.std.proofs.lemmas.List.Elements.{recursion_from_All}
use Rattle.std.proofs.lemmas.Map.Keys.{IsDistinct-head, IsDistinct-tail}
use Rattle.std.specs.Int.{w64}
use Rattle.std.specs.List.{AllByRecursion, IsDistinct, list_any}
use Rattle.std.specs.Str.{bytes_eq}
use Rattle.hex.specs.Hex.{encode_lower}
use Rattle.uuid.specs.Text.{hyphenated_text, lower}
use Rattle.ids.specs.ObjectId.{nil}
use Rattle.ids.proofs.BasicLemmas.{AllByRecursion-middle}
use Rattle.serde_json.specs.Data.{Data, number, string, array, unsigned}
use Rattle.serde_json.specs.Find.{get, of_integer}
use Rattle.serde_json.specs.View.{items_of}
use Rattle.json_words.specs.Check.{each}
use Rattle.json_words.specs.Fields.{is_object, has_only}
use Rattle.json_words.specs.IdText.{library_id_of, id_data, IsId}
use Rattle.json_words.specs.JsonText.{json_of}
use Rattle.json_words.proofs.FoundLemmas.{number_field-found, number_between-found, integer_field-found, text_field-found, array_field-found, stored_id_in-found}
use Rattle.library_state.specs.ProperState.{IsProper, IsProperInstall, IsProperToken, AreProperTokens}
use Rattle.library_state.specs.Rights.{right_text, right_of}
use Rattle.library_state.specs.StateSpelling.{install_with, install_data, token_with, token_data, state_with, state_data}
use Rattle.library_state.specs.StateText.{last_number, right_version, collection_in, is_day_count, days_in, stored_id_field, install_of, kept_in, library_in, name_in, opening_in, user_in, right_in, secret_in, parts_of, token_of, tokens_after, tokens_in, state_keys, state_of}
use Rattle.library_state.specs.Tokens.{secrets_of, is_taken}
use Rattle.library_state.specs.TypedState.{IsTyped, IsTypedInstall, IsTypedToken}
use Rattle.library_state.specs.declared.history.Install.{Install}
use Rattle.library_state.specs.declared.right.Right.{Right}
use Rattle.library_state.specs.declared.right.Right.TheVariants.{Read, Write, Owner}
use Rattle.library_state.specs.declared.state.LibState.{LibState}
use Rattle.library_state.specs.declared.token.Token.{Token}
use Rattle.library_state.proofs.StateCheckLemmas.{Passes, state_in-found}
use Rattle.library_state.proofs.TokenLemmas.{tokens_after-ok, is_taken-secrets}
use Rattle.library_state.specs.declared.state.TheConstants.{MAX_STATE_NAME, MAX_TOKENS}
use Rattle.std.proofs.lemmas.Bool.{le-leb}

between : (low n high : ℕ) → low ≤ n → n ≤ high → (nat_le low n && nat_le n high) ≡ true
between low n high above below = grind (arith, nat_tests)

-- ---- head updates

stored_id_field-found : (name : List ℕ) (d : Data) (id : List ℕ) → get name d ≡ Some (id_data id) → IsId id → id ≢ nil → stored_id_field name d ≡ Ok id
unfolding stored_id_field
stored_id_field-found name d id is reads other = rw (is, stored_id_in-found (encode_lower id) id reads other)

install_of-data : (install : Install) → IsTypedInstall install → IsProperInstall install → install_of (install_data install) ≡ Ok install
unfolding install_of install_with has_only
install_of-data install typed proper =
    let d = install_data install in
    rw (
      number_field-found (codes "at") d install.at refl,
      stored_id_field-found (codes "head") d install.head refl typed.head proper.head,
      stored_id_field-found (codes "pushed") d install.pushed refl typed.pushed proper.pushed,
    )

installs_read : (installs : List Install) → AllByRecursion IsTypedInstall installs → AllByRecursion IsProperInstall installs → each install_of (map install_data installs) ≡ Ok installs
installs_read [] typed proper = refl
installs_read (install ∷ installs) typed proper = rw (install_of-data install typed.0 proper.0, installs_read installs typed.1 proper.1)

kept_in-found : (d : Data) (installs : List Install) → get (codes "kept") d ≡ Some (array (items_of (map install_data installs))) → 1 ≤ length installs
    → All IsTypedInstall installs → All IsProperInstall installs → kept_in d ≡ Ok installs
unfolding kept_in
kept_in-found d installs is some typed proper =
    let many : 1 ≤ length (map install_data installs) = rw (length-map installs install_data) some in
    rw (
      array_field-found (codes "kept") d (map install_data installs) is,
      le-leb 1 (length (map install_data installs)) many,
      installs_read installs (recursion_from_All IsTypedInstall installs typed) (recursion_from_All IsProperInstall installs proper),
    )

-- ---- tokens

pub right_of-text : (right : Right) → right_of (right_text right) ≡ Some right
right_of-text Read = refl
right_of-text Write = refl
right_of-text Owner = refl

right_in-found : (d : Data) (right : Right) → get (codes "right") d ≡ Some (string (right_text right)) → right_in d ≡ Ok right
unfolding right_in
right_in-found d right is = rw (text_field-found (codes "right") d (right_text right) is, right_of-text right)

secret_in-found : (d : Data) (secret : List ℕ) → get (codes "secret") d ≡ Some (id_data secret) → IsId secret → secret_in d ≡ Ok secret
unfolding secret_in
secret_in-found d secret is reads = rw (text_field-found (codes "secret") d (encode_lower secret) is, reads)

user_in-found : (d : Data) (user : List ℕ) → get (codes "user") d ≡ Some (string user) → 1 ≤ length user → length user ≤ MAX_STATE_NAME → user_in d ≡ Ok user
unfolding user_in
user_in-found d user is least most = rw (text_field-found (codes "user") d user is, between 1 (length user) MAX_STATE_NAME least most)

parts_of-data : (collection : ℕ) (token : Token) → IsTypedToken token → IsProperToken collection token → parts_of collection (token_data token) ≡ Ok token
unfolding parts_of token_with has_only
parts_of-data collection token typed proper =
    let d = token_data token in
    let zero_least : 0 ≤ token.last = omega arith in
    rw (
      number_between-found 0 collection (codes "last") d token.last refl zero_least proper.last,
      right_in-found d token.right refl,
      secret_in-found d token.secret refl typed.secret,
      user_in-found d token.user refl proper.least proper.most,
    )

token_of-data : (collection : ℕ) (others : List Token) (token : Token) → IsTypedToken token → IsProperToken collection token → is_taken others token.secret ≡ false → token_of collection others (token_data token) ≡ Ok token
unfolding token_of
token_of-data collection others token typed proper new = rw (parts_of-data collection token typed proper, new)

not_before : (secrets : List (List ℕ)) (secret : List ℕ) (later : List (List ℕ)) → IsDistinct bytes_eq (secrets ++ secret ∷ later) → list_any (bytes_eq secret) secrets ≡ false
not_before [] secret later distinct = refl
not_before (n ∷ secrets) secret later distinct =
    let apart : bytes_eq secret n ≡ false = nat_list_eq_equiv.symm secret n ∙ AllByRecursion-middle (λ y. bytes_eq n y ≡ false) secrets secret later (IsDistinct-head bytes_eq n (secrets ++ secret ∷ later) distinct) in
    rw apart (not_before secrets secret later (IsDistinct-tail bytes_eq n (secrets ++ secret ∷ later) distinct))

tokens_read : (collection : ℕ) (earlier tokens : List Token) → AllByRecursion IsTypedToken tokens → AllByRecursion (IsProperToken collection) tokens → IsDistinct bytes_eq (secrets_of (earlier ++ tokens))
    → tokens_after collection earlier (map token_data tokens) ≡ Ok (earlier ++ tokens)
tokens_read collection earlier [] typed proper distinct = ap Ok (sym (append-nil earlier))
tokens_read collection earlier (token ∷ tokens) typed proper distinct =
    let P : List (List ℕ) → Type 0 = λ secrets. IsDistinct bytes_eq secrets in
    let Q : List Token → Type 0 = λ all. IsDistinct bytes_eq (secrets_of all) in
    let apart = subst P (map-append (λ (t : Token). t.secret) earlier (token ∷ tokens)) distinct in
    let new = sym (is_taken-secrets earlier token.secret) ∙ not_before (secrets_of earlier) token.secret (secrets_of tokens) apart in
    let reads = token_of-data collection earlier token typed.0 proper.0 new in
    tokens_after-ok collection earlier (token_data token) (map token_data tokens) token reads
    ∙ tokens_read collection (earlier ++ token ∷ []) tokens typed.1 proper.1 (subst Q (sym (append_assoc earlier (token ∷ []) tokens)) distinct)
    ∙ ap Ok (append_assoc earlier (token ∷ []) tokens)

tokens_in-found : (collection : ℕ) (d : Data) (tokens : List Token) → get (codes "tokens") d ≡ Some (array (items_of (map token_data tokens))) → All IsTypedToken tokens → AreProperTokens collection tokens → tokens_in collection d ≡ Ok tokens
unfolding tokens_in
tokens_in-found collection d tokens is typed proper =
    let few : length (map token_data tokens) ≤ MAX_TOKENS = rw (length-map tokens token_data) proper.few in
    rw (
      array_field-found (codes "tokens") d (map token_data tokens) is,
      le-leb (length (map token_data tokens)) MAX_TOKENS few,
      tokens_read collection [] tokens (recursion_from_All IsTypedToken tokens typed) (recursion_from_All (IsProperToken collection) tokens proper.each) proper.distinct,
    )

-- ---- the state

right_version-found : (d : Data) → get (codes "version") d ≡ Some (number (unsigned 1)) → right_version d ≡ Ok tt
unfolding right_version
right_version-found d is = rw (number_field-found (codes "version") d 1 is)

collection_in-found : (d : Data) (n : ℕ) → get (codes "collection") d ≡ Some (number (unsigned n)) → n ≤ last_number → collection_in d ≡ Ok n
unfolding collection_in
collection_in-found d n is most = let least : 0 ≤ n = omega arith in rw (number_between-found 0 last_number (codes "collection") d n is least most)

opening_in-found : (d : Data) (n : ℕ) → get (codes "opening") d ≡ Some (number (unsigned n)) → 1 ≤ n → n ≤ last_number → opening_in d ≡ Ok n
unfolding opening_in
opening_in-found d n is least most = rw (number_between-found 1 last_number (codes "opening") d n is least most)

days_in-found : (d : Data) (days : ℤ) → get (codes "days") d ≡ Some (number (of_integer days)) → FitsSigned w64 days → is_day_count days ≡ true → days_in d ≡ Ok days
unfolding days_in
days_in-found d days is fits counts = rw (integer_field-found (codes "days") d days is fits, counts)

library_in-found : (d : Data) (lib : List ℕ) → get (codes "lib") d ≡ Some (string (hyphenated_text lower lib)) → library_id_of (hyphenated_text lower lib) ≡ Some lib → library_in d ≡ Ok lib
unfolding library_in
library_in-found d lib is reads = rw (text_field-found (codes "lib") d (hyphenated_text lower lib) is, reads)

name_in-found : (d : Data) (name : List ℕ) → get (codes "name") d ≡ Some (string name) → length name ≤ MAX_STATE_NAME → name_in d ≡ Ok name
unfolding name_in
name_in-found d name is fits = rw (text_field-found (codes "name") d name is, le-leb (length name) MAX_STATE_NAME fits)

passes-data : (state : LibState) → IsTyped state → IsProper state → Passes (state_data state) state
unfolding state_with
passes-data state typed proper =
    let d = state_data state in
    record {
      version = right_version-found d refl;
      collection = collection_in-found d state.collection refl proper.collection;
      days = days_in-found d state.days refl typed.days proper.days;
      kept = kept_in-found d state.kept refl proper.some_kept typed.kept proper.kept;
      lib = library_in-found d state.lib refl typed.lib;
      name = name_in-found d state.name refl proper.name;
      opening = opening_in-found d state.opening refl proper.opened proper.opening;
      tokens = tokens_in-found state.collection d state.tokens refl typed.tokens proper.tokens;
    }

has_only-data : (state : LibState) → has_only state_keys (state_data state) ≡ true
unfolding state_with has_only
has_only-data state = refl

is_object-data : (state : LibState) → is_object (state_data state) ≡ true
unfolding state_with
is_object-data state = refl

-- bytes with the written value are read as the state
pub state_of-state_data : (bytes : List ℕ) (state : LibState) → json_of bytes ≡ Some (state_data state) → IsTyped state → IsProper state → state_of bytes ≡ Ok state
unfolding state_of
state_of-state_data bytes state is typed proper =
    rw (is, is_object-data state) (state_in-found (state_data state) state (passes-data state typed proper) (has_only-data state))

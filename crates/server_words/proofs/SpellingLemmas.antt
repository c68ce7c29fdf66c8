-- What is read as a command is its spelling, and the spelling of a command is read as it.
-- The key lemmas are command_of-words_of and words_of-command_of, at the end.
use Rattle.std.proofs.Common.{◌≡◌, ◌≢◌, ℕ, ◌-◌, ◌^◌, arith, decimal, Bool, true, false, ◌&&◌, List, [], ◌∷◌, All, Option, Some, None, ap, ap₂, inl, map, refl, sym, cond, codes}
use Rattle.std.proofs.lemmas.List.Elements.{All-head, All-tail}
use Rattle.std.specs.Option.{IfSome}
use Rattle.std.specs.Result.{result_ok}
use Rattle.std.specs.Str.{bytes_eq}
use Rattle.hex.specs.Hex.{decode_of, encode_lower}
use Rattle.hex.proofs.HexLemmas.{decode_of-encode_lower}
use Rattle.uuid.specs.Text.{hyphenated_text, lower, parsed}
use Rattle.uuid.proofs.RoundTrips.{parses_hyphenated}
use Rattle.ids.specs.Digits.{digits_form}
use Rattle.ids.specs.LibraryId.{library_form}
use Rattle.ids.proofs.DigitsLemmas.{IsBytes-from_All, IsOf-encode_lower, decode_of-digits, encode_lower-digits}
use Rattle.ids.proofs.LibraryTextLemmas.{IsOf-hyphenated, parsed-library, hyphenated-library}
use Rattle.json_words.specs.IdText.{has_form, library_id_of, object_id_of}
use Rattle.json_words.proofs.IdLemmas.{IsOf-has_form, library_id_of-good, object_id_of-good}
use Rattle.library_state.specs.Rights.{right_of, right_text}
use Rattle.library_state.specs.declared.right.Right.{Right}
use Rattle.library_state.specs.declared.right.Right.TheVariants.{Read, Write, Owner}
use Rattle.server_words.specs.CommandLine.{command_of, create_by, create_command, ids_of, inetd_by, inetd_command, is_line_of_libraries, is_name, joined, libraries_of, location_word, make_by, most_connections, most_files, most_workers, other_command, secret_of, serve_by, serve_command, token_by, token_command}
use Rattle.server_words.specs.Number.{number_within}
use Rattle.server_words.specs.Spelling.{IsBytesOf, IsCommand, IsLocation, location_text, words_of}
use Rattle.server_words.specs.declared.command.Command.{Command}
use Rattle.server_words.specs.declared.command.Command.TheVariants.{Create, Token, Inetd, Serve, Make, Help, Version, Usage}
use Rattle.server_words.specs.declared.command.Location.{Location}
use Rattle.server_words.specs.declared.command.Location.TheVariants.{Memory, Folder}
use Rattle.server_words.proofs.NumberLemmas.{number_within-decimal, within_is_text}
use Rattle.ids.proofs.BasicLemmas.{same_from_bytes_eq, apart_from_bytes_eq}
use Rattle.library_state.proofs.StateReadBackLemmas.{right_of-text}

-- what a text is read as spells the text
library_text_at : (text : List ℕ) (b : Bool) → has_form library_form text ≡ b → IfSome (cond b (parsed text) None) (λ id. text ≡ hyphenated_text lower id)
library_text_at text true has =
    let is = IsOf-has_form library_form text has in
    rw (← parsed-library text is) (hyphenated-library text is)
library_text_at text false has = tt

library_text : (text : List ℕ) → IfSome (library_id_of text) (λ id. text ≡ hyphenated_text lower id)
unfolding library_id_of
library_text text = library_text_at text (has_form library_form text) refl

secret_text_at : (text : List ℕ) (b : Bool) → has_form digits_form text ≡ b → IfSome (cond b (result_ok (decode_of text)) None) (λ id. text ≡ encode_lower id)
secret_text_at text true has =
    let is = IsOf-has_form digits_form text has in
    rw (decode_of-digits text is) (sym (encode_lower-digits text is))
secret_text_at text false has = tt

secret_text : (text : List ℕ) → IfSome (secret_of text) (λ id. text ≡ encode_lower id)
unfolding object_id_of
secret_text text = secret_text_at text (has_form digits_form text) refl

location_text_at : (folder : List ℕ) (b : Bool) → (b ≡ true → folder ≡ codes ":memory:") → folder ≡ location_text (cond b Memory (Folder folder))
location_text_at folder true same = same refl
location_text_at folder false same = refl

location_word_text : (folder : List ℕ) → IfSome (location_word folder) (λ location. folder ≡ location_text location)
location_word_text [] = tt
location_word_text (c ∷ cs) = location_text_at (c ∷ cs) (bytes_eq (c ∷ cs) (codes ":memory:")) (same_from_bytes_eq (c ∷ cs) (codes ":memory:"))

right_text_at : (text : List ℕ) (r rw own : Bool) → (r ≡ true → text ≡ codes "r") → (rw ≡ true → text ≡ codes "rw") → (own ≡ true → text ≡ codes "own")
    → IfSome (cond r (Some Read) (cond rw (Some Write) (cond own (Some Owner) None))) (λ right. text ≡ right_text right)
right_text_at text true write own same-r same-rw same-own = same-r refl
right_text_at text false true own same-r same-rw same-own = same-rw refl
right_text_at text false false true same-r same-rw same-own = same-own refl
right_text_at text false false false same-r same-rw same-own = tt

right_word_text : (text : List ℕ) → IfSome (right_of text) (λ right. text ≡ right_text right)
right_word_text text =
    right_text_at text (bytes_eq text (codes "r")) (bytes_eq text (codes "rw")) (bytes_eq text (codes "own"))
    (same_from_bytes_eq text (codes "r")) (same_from_bytes_eq text (codes "rw")) (same_from_bytes_eq text (codes "own"))

-- the words are the spelling of the command, unless it is Usage
IsSpelling : List (List ℕ) → Command → Type 0
IsSpelling words command = command ≢ Usage → words ≡ words_of command

spelled_if : (b : Bool) (words : List (List ℕ)) (command : Command) → words ≡ words_of command → IsSpelling words (cond b command Usage)
unfolding IsSpelling
spelled_if true words command same other = same
spelled_if false words command same other = absurd (other refl)

create_spelling : (folder lib name user token : List ℕ) (p : Option Location) (l s : Option (List ℕ)) → IfSome p (λ location. folder ≡ location_text location)
    → IfSome l (λ id. lib ≡ hyphenated_text lower id) → IfSome s (λ secret. token ≡ encode_lower secret)
    → IsSpelling (codes "create" ∷ folder ∷ lib ∷ name ∷ user ∷ token ∷ []) (create_by name user p l s)
unfolding IsSpelling
create_spelling folder lib name user token (Some location) (Some id) (Some secret) same-p same-l same-s =
    spelled_if (is_name name && is_name user) (codes "create" ∷ folder ∷ lib ∷ name ∷ user ∷ token ∷ []) (Create location id name user secret) (rw (same-p, same-l, same-s))
create_spelling folder lib name user token None l s same-p same-l same-s = λ other. absurd (other refl)
create_spelling folder lib name user token (Some location) None s same-p same-l same-s = λ other. absurd (other refl)
create_spelling folder lib name user token (Some location) (Some id) None same-p same-l same-s = λ other. absurd (other refl)

token_spelling : (folder lib user token right : List ℕ) (p : Option Location) (l s : Option (List ℕ)) (r : Option Right) → IfSome p (λ location. folder ≡ location_text location)
    → IfSome l (λ id. lib ≡ hyphenated_text lower id) → IfSome s (λ secret. token ≡ encode_lower secret) → IfSome r (λ a. right ≡ right_text a)
    → IsSpelling (codes "token" ∷ folder ∷ lib ∷ user ∷ token ∷ right ∷ []) (token_by user p l s r)
unfolding IsSpelling
token_spelling folder lib user token right (Some location) (Some id) (Some secret) (Some a) same-p same-l same-s same-r =
    spelled_if (is_name user) (codes "token" ∷ folder ∷ lib ∷ user ∷ token ∷ right ∷ []) (Token location id user secret a) (rw (same-p, same-l, same-s, same-r))
token_spelling folder lib user token right None l s r same-p same-l same-s same-r = λ other. absurd (other refl)
token_spelling folder lib user token right (Some location) None s r same-p same-l same-s same-r = λ other. absurd (other refl)
token_spelling folder lib user token right (Some location) (Some id) None r same-p same-l same-s same-r = λ other. absurd (other refl)
token_spelling folder lib user token right (Some location) (Some id) (Some secret) None same-p same-l same-s same-r = λ other. absurd (other refl)

joined_text : (word : List ℕ) (words : List (List ℕ)) (l : Option (List ℕ)) (ls : Option (List (List ℕ))) → IfSome l (λ id. word ≡ hyphenated_text lower id)
    → IfSome ls (λ ids. words ≡ map (hyphenated_text lower) ids) → IfSome (joined l ls) (λ ids. word ∷ words ≡ map (hyphenated_text lower) ids)
joined_text word words (Some id) (Some ids) same all = ap₂ (λ (x : List ℕ) (xs : List (List ℕ)). x ∷ xs) same all
joined_text word words (Some id) None same all = tt
joined_text word words None ls same all = tt

pub ids_text : (words : List (List ℕ)) → IfSome (ids_of words) (λ ids. words ≡ map (hyphenated_text lower) ids)
ids_text [] = refl
ids_text (word ∷ words) = joined_text word words (library_id_of word) (ids_of words) (library_text word) (ids_text words)

libraries_text_at : (words : List (List ℕ)) (b : Bool) → IfSome (cond b (ids_of words) None) (λ ids. words ≡ map (hyphenated_text lower) ids)
libraries_text_at words true = ids_text words
libraries_text_at words false = tt

libraries_text : (words : List (List ℕ)) → IfSome (libraries_of words) (λ ids. words ≡ map (hyphenated_text lower) ids)
libraries_text words = libraries_text_at words (is_line_of_libraries words)

inetd_spelling : (folder : List ℕ) (words : List (List ℕ)) (p : Option Location) (l : Option (List (List ℕ))) → IfSome p (λ location. folder ≡ location_text location)
    → IfSome l (λ ids. words ≡ map (hyphenated_text lower) ids) → IsSpelling (codes "inetd" ∷ folder ∷ words) (inetd_by p l)
unfolding IsSpelling
inetd_spelling folder words (Some location) (Some ids) same-p same-l = λ other. ap₂ (λ (f : List ℕ) (xs : List (List ℕ)). codes "inetd" ∷ f ∷ xs) same-p same-l
inetd_spelling folder words None l same-p same-l = λ other. absurd (other refl)
inetd_spelling folder words (Some location) None same-p same-l = λ other. absurd (other refl)

serve_spelling : (folder a b d : List ℕ) (words : List (List ℕ)) (p : Option Location) (port workers connections : Option ℕ) (l : Option (List (List ℕ)))
    → IfSome p (λ location. folder ≡ location_text location) → IfSome port (λ n. a ≡ decimal n) → IfSome workers (λ n. b ≡ decimal n) → IfSome connections (λ n. d ≡ decimal n)
    → IfSome l (λ ids. words ≡ map (hyphenated_text lower) ids) → IsSpelling (codes "serve" ∷ folder ∷ a ∷ b ∷ d ∷ words) (serve_by p port workers connections l)
unfolding IsSpelling
serve_spelling folder a b d words (Some location) (Some port) (Some workers) (Some connections) (Some ids) same-p same-a same-b same-d same-l =
    λ other. rw (same-p, same-a, same-b, same-d, same-l) refl
serve_spelling folder a b d words None port workers connections l same-p same-a same-b same-d same-l = λ other. absurd (other refl)
serve_spelling folder a b d words (Some location) None workers connections l same-p same-a same-b same-d same-l = λ other. absurd (other refl)
serve_spelling folder a b d words (Some location) (Some port) None connections l same-p same-a same-b same-d same-l = λ other. absurd (other refl)
serve_spelling folder a b d words (Some location) (Some port) (Some workers) None l same-p same-a same-b same-d same-l = λ other. absurd (other refl)
serve_spelling folder a b d words (Some location) (Some port) (Some workers) (Some connections) None same-p same-a same-b same-d same-l = λ other. absurd (other refl)

served_spelling : (folder : List ℕ) (more : List (List ℕ)) → IsSpelling (codes "serve" ∷ folder ∷ more) (serve_command folder more)
unfolding IsSpelling
served_spelling folder (port ∷ workers ∷ connections ∷ libs) =
    serve_spelling folder port workers connections libs (location_word folder) (number_within 1 65535 port) (number_within 1 most_workers workers) (number_within 1 most_connections connections) (libraries_of libs)
    (location_word_text folder) (within_is_text 1 65535 port) (within_is_text 1 most_workers workers) (within_is_text 1 most_connections connections) (libraries_text libs)
served_spelling folder [] = λ other. absurd (other refl)
served_spelling folder (a ∷ []) = λ other. absurd (other refl)
served_spelling folder (a ∷ b ∷ []) = λ other. absurd (other refl)

make_spelling : (folder lib a b : List ℕ) (p : Option Location) (l : Option (List ℕ)) (count number : Option ℕ) → IfSome p (λ location. folder ≡ location_text location)
    → IfSome l (λ id. lib ≡ hyphenated_text lower id) → IfSome count (λ n. a ≡ decimal n) → IfSome number (λ n. b ≡ decimal n)
    → IsSpelling (codes "make" ∷ folder ∷ lib ∷ a ∷ b ∷ []) (make_by p l count number)
unfolding IsSpelling
make_spelling folder lib a b (Some location) (Some id) (Some count) (Some number) same-p same-l same-a same-b = λ other. rw (same-p, same-l, same-a, same-b) refl
make_spelling folder lib a b None l count number same-p same-l same-a same-b = λ other. absurd (other refl)
make_spelling folder lib a b (Some location) None count number same-p same-l same-a same-b = λ other. absurd (other refl)
make_spelling folder lib a b (Some location) (Some id) None number same-p same-l same-a same-b = λ other. absurd (other refl)
make_spelling folder lib a b (Some location) (Some id) (Some count) None same-p same-l same-a same-b = λ other. absurd (other refl)

made_spelling_at : (word folder lib a b : List ℕ) (is : Bool) → (is ≡ true → word ≡ codes "make")
    → IsSpelling (word ∷ folder ∷ lib ∷ a ∷ b ∷ []) (cond is (make_by (location_word folder) (library_id_of lib) (number_within 1 most_files a) (number_within 0 (2 ^ 64 - 1) b)) Usage)
unfolding IsSpelling
made_spelling_at word folder lib a b true same = λ other.
    rw (same refl)
    (make_spelling folder lib a b (location_word folder) (library_id_of lib) (number_within 1 most_files a) (number_within 0 (2 ^ 64 - 1) b)
    (location_word_text folder) (library_text lib) (within_is_text 1 most_files a) (within_is_text 0 (2 ^ 64 - 1) b) other)
made_spelling_at word folder lib a b false same = λ other. absurd (other refl)

lone_spelling_at : (word : List ℕ) (b d : Bool) → (b ≡ true → word ≡ codes "--help") → (d ≡ true → word ≡ codes "--version")
    → IsSpelling (word ∷ []) (cond b Help (cond d Version Usage))
unfolding IsSpelling
lone_spelling_at word true d help version = λ other. rw (help refl)
lone_spelling_at word false true help version = λ other. rw (version refl)
lone_spelling_at word false false help version = λ other. absurd (other refl)

long_spelling_at : (word folder lib third fourth fifth : List ℕ) (b d : Bool) → (b ≡ true → word ≡ codes "create") → (d ≡ true → word ≡ codes "token")
    → IsSpelling (word ∷ folder ∷ lib ∷ third ∷ fourth ∷ fifth ∷ [])
    (cond b (create_command folder lib third fourth fifth) (cond d (token_command folder lib third fourth fifth) Usage))
unfolding IsSpelling
long_spelling_at word folder lib third fourth fifth true d create token = λ other.
    rw (create refl)
    (create_spelling folder lib third fourth fifth (location_word folder) (library_id_of lib) (secret_of fifth) (location_word_text folder) (library_text lib) (secret_text fifth) other)
long_spelling_at word folder lib third fourth fifth false true create token = λ other.
    rw (token refl)
    (token_spelling folder lib third fourth fifth (location_word folder) (library_id_of lib) (secret_of fourth) (right_of fifth)
    (location_word_text folder) (library_text lib) (secret_text fourth) (right_word_text fifth) other)
long_spelling_at word folder lib third fourth fifth false false create token = λ other. absurd (other refl)

other_spelling : (word folder : List ℕ) (more : List (List ℕ)) → IsSpelling (word ∷ folder ∷ more) (other_command word folder more)
unfolding IsSpelling
other_spelling word folder (lib ∷ a ∷ b ∷ c ∷ []) =
    long_spelling_at word folder lib a b c (bytes_eq word (codes "create")) (bytes_eq word (codes "token")) (same_from_bytes_eq word (codes "create")) (same_from_bytes_eq word (codes "token"))
other_spelling word folder [] = λ other. absurd (other refl)
other_spelling word folder (lib ∷ []) = λ other. absurd (other refl)
other_spelling word folder (lib ∷ a ∷ []) = λ other. absurd (other refl)
other_spelling word folder (lib ∷ a ∷ b ∷ []) = made_spelling_at word folder lib a b (bytes_eq word (codes "make")) (same_from_bytes_eq word (codes "make"))
other_spelling word folder (lib ∷ a ∷ b ∷ c ∷ d ∷ more) = λ other. absurd (other refl)

placed_spelling_at : (word folder : List ℕ) (more : List (List ℕ)) (b d : Bool) → (b ≡ true → word ≡ codes "inetd") → (d ≡ true → word ≡ codes "serve")
    → IsSpelling (word ∷ folder ∷ more) (cond b (inetd_command folder more) (cond d (serve_command folder more) (other_command word folder more)))
unfolding IsSpelling
placed_spelling_at word folder more true d inetd serve = λ other.
    rw (inetd refl) (inetd_spelling folder more (location_word folder) (libraries_of more) (location_word_text folder) (libraries_text more) other)
placed_spelling_at word folder more false true inetd serve = λ other. rw (serve refl) (served_spelling folder more other)
placed_spelling_at word folder more false false inetd serve = other_spelling word folder more

pub words_of-command_of : (words : List (List ℕ)) → command_of words ≢ Usage → words ≡ words_of (command_of words)
unfolding IsSpelling
words_of-command_of [] other = absurd (other refl)
words_of-command_of (word ∷ []) other =
    lone_spelling_at word (bytes_eq word (codes "--help")) (bytes_eq word (codes "--version")) (same_from_bytes_eq word (codes "--help")) (same_from_bytes_eq word (codes "--version")) other
words_of-command_of (word ∷ folder ∷ more) other =
    placed_spelling_at word folder more (bytes_eq word (codes "inetd")) (bytes_eq word (codes "serve")) (same_from_bytes_eq word (codes "inetd")) (same_from_bytes_eq word (codes "serve")) other

-- what spells a part of a command is read as it
location_word-location_text : (location : Location) → IsLocation location → location_word (location_text location) ≡ Some location
location_word-location_text Memory is = refl
location_word-location_text (Folder []) is = absurd (is.0 refl)
location_word-location_text (Folder (c ∷ cs)) is = rw (apart_from_bytes_eq (c ∷ cs) (codes ":memory:") is.1)

library_id_of-text : (lib : List ℕ) → IsBytesOf 16 lib → library_id_of (hyphenated_text lower lib) ≡ Some lib
library_id_of-text lib is = library_id_of-good (hyphenated_text lower lib) lib (IsOf-hyphenated lib) (parses_hyphenated lower lib (inl refl) is.0 is.1)

secret_of-digits : (secret : List ℕ) → IsBytesOf 20 secret → secret_of (encode_lower secret) ≡ Some secret
secret_of-digits secret is =
    object_id_of-good (encode_lower secret) secret (IsOf-encode_lower secret is.0 is.1) (decode_of-encode_lower secret (IsBytes-from_All secret is.1))

ids_of-texts : (libs : List (List ℕ)) → All (IsBytesOf 16) libs → ids_of (map (hyphenated_text lower) libs) ≡ Some libs
ids_of-texts [] all = refl
ids_of-texts (lib ∷ libs) all =
    ap₂ joined (library_id_of-text lib (All-head (IsBytesOf 16) lib libs all)) (ids_of-texts libs (All-tail (IsBytesOf 16) lib libs all))

pub command_of-words_of : (command : Command) → command ≢ Usage → IsCommand command → command_of (words_of command) ≡ command
command_of-words_of (Create location lib name user secret) other is =
    rw (location_word-location_text location is.0, library_id_of-text lib is.1, secret_of-digits secret is.4, is.2, is.3)
command_of-words_of (Token location lib user secret right) other is =
    rw (location_word-location_text location is.0, library_id_of-text lib is.1, secret_of-digits secret is.3, right_of-text right, is.2)
command_of-words_of (Inetd location libs) other is = rw (location_word-location_text location is.0, is.2, ids_of-texts libs is.1)
command_of-words_of (Serve location port workers connections libs) other is =
    let a = is.1 in
    let b = is.2 in
    let d = is.3 in
    rw (
      location_word-location_text location is.0,
      number_within-decimal 1 65535 port a.0 a.1 (omega (arith, a.1)),
      number_within-decimal 1 most_workers workers b.0 b.1 (omega (arith, b.1)),
      number_within-decimal 1 most_connections connections d.0 d.1 (omega (arith, d.1)),
      is.5,
      ids_of-texts libs is.4,
    )
command_of-words_of (Make location lib count number) other is =
    let a = is.2 in
    let b = is.3 in
    rw (
      location_word-location_text location is.0,
      library_id_of-text lib is.1,
      number_within-decimal 1 most_files count a.0 a.1 (omega (arith, a.1)),
      number_within-decimal 0 (2 ^ 64 - 1) number (omega arith) (omega (arith, b)) b,
    )
command_of-words_of Help other is = refl
command_of-words_of Version other is = refl
command_of-words_of Usage other is = absurd (other refl)

-- The words of the command line, without the program's name, as a command. Our own. Read command_of first, at the end.
use Rattle.library_state.specs.declared.state.TheConstants.{MAX_STATE_NAME}
use Rattle.std.specs.Prelude.{ℕ, ◌≡◌, ◌≢◌, ◌<◌, ◌≤◌, ◌-◌, ◌^◌, ◌==◌, ◌&&◌, ◌||◌, Bool, true, false, not, nat_lt, nat_le, ⊤, if◌then◌else◌, List, [], ◌∷◌, length, slice_index_or, Option, None, Some, codes}
use Rattle.std.specs.List.{list_any}
use Rattle.std.specs.Str.{bytes_eq}
use Rattle.json_words.specs.IdText.{library_id_of, object_id_of}
use Rattle.library_state.specs.Rights.{right_of}
use Rattle.library_state.specs.declared.right.Right.{Right}
use Rattle.server_words.specs.Number.{number_within}
use Rattle.server_words.specs.declared.command.Command.{Command}
use Rattle.server_words.specs.declared.command.Command.TheVariants.{Create, Token, Inetd, Serve, Make, Help, Version, Usage}
use Rattle.server_words.specs.declared.command.Location.{Location}
use Rattle.server_words.specs.declared.command.Location.TheVariants.{Memory, Folder}

-- the bytes 0 to 31 and 127
abbrev pub is_control : ℕ → Bool
is_control byte = nat_lt byte 32 || (byte == 127)

-- the name of a library or a user: 1 to MAX_STATE_NAME bytes without a control character
abbrev pub is_name : List ℕ → Bool
is_name text = nat_le 1 (length text) && (nat_le (length text) MAX_STATE_NAME && not (list_any is_control text))

-- the location that a folder word names
abbrev pub location_of : List ℕ → Location
location_of folder = if bytes_eq folder (codes ":memory:") then Memory else Folder folder

-- the location that a folder word names, and none where it is empty
abbrev pub location_word : List ℕ → Option Location
location_word [] = None
location_word (c ∷ cs) = Some (location_of (c ∷ cs))

-- the secret whose 40 lower-case hexadecimal digits a text is: they are spelled as an object id's
abbrev pub secret_of : List ℕ → Option (List ℕ)
secret_of = object_id_of

abbrev pub create_by : List ℕ → List ℕ → Option Location → Option (List ℕ) → Option (List ℕ) → Command
create_by name user (Some location) (Some lib) (Some secret) =
    if is_name name && is_name user then Create location lib name user secret else Usage
create_by name user _ _ _ = Usage

abbrev pub token_by : List ℕ → Option Location → Option (List ℕ) → Option (List ℕ) → Option Right → Command
token_by user (Some location) (Some lib) (Some secret) (Some right) =
    if is_name user then Token location lib user secret right else Usage
token_by user _ _ _ _ = Usage

abbrev pub inetd_by : Option Location → Option (List (List ℕ)) → Command
inetd_by (Some location) (Some libs) = Inetd location libs
inetd_by _ _ = Usage

-- ---- the libraries of one connection

abbrev pub most_libraries : ℕ
most_libraries = 1000

-- the ids that words are, where each is one
abbrev pub joined : Option (List ℕ) → Option (List (List ℕ)) → Option (List (List ℕ))
joined (Some id) (Some ids) = Some (id ∷ ids)
joined _ _ = None

abbrev pub ids_of : List (List ℕ) → Option (List (List ℕ))
ids_of [] = Some []
ids_of (word ∷ words) = joined (library_id_of word) (ids_of words)

-- no word stands there twice
abbrev pub is_distinct : List (List ℕ) → Bool
is_distinct [] = true
is_distinct (word ∷ words) = not (list_any (bytes_eq word) words) && is_distinct words

-- 1 to most_libraries words, no two alike
abbrev pub is_line_of_libraries : List (List ℕ) → Bool
is_line_of_libraries words = nat_le 1 (length words) && (nat_le (length words) most_libraries && is_distinct words)

-- the libraries whose ids these words are
abbrev pub libraries_of : List (List ℕ) → Option (List (List ℕ))
libraries_of words = if is_line_of_libraries words then ids_of words else None

-- the command of a word that stands alone
abbrev pub lone_command : List ℕ → Command
lone_command word =
    if bytes_eq word (codes "--help") then Help
    else if bytes_eq word (codes "--version") then Version
    else Usage

-- `inetd FOLDER LIB [LIB..]`
abbrev pub inetd_command : List ℕ → List (List ℕ) → Command
inetd_command folder libs = inetd_by (location_word folder) (libraries_of libs)

-- how many workers serve a port, how many connections each serves, and how many files are made
abbrev pub most_workers : ℕ
most_workers = 64

abbrev pub most_connections : ℕ
most_connections = 4294967295

abbrev pub most_files : ℕ
most_files = 10000

abbrev pub serve_by : Option Location → (port workers connections : Option ℕ) → Option (List (List ℕ)) → Command
serve_by (Some location) (Some port) (Some workers) (Some connections) (Some libs) = Serve location port workers connections libs
serve_by _ _ _ _ _ = Usage

abbrev pub served_command : List ℕ → (port workers connections : Option ℕ) → List (List ℕ) → Command
served_command folder port workers connections libs = serve_by (location_word folder) port workers connections (libraries_of libs)

-- `serve FOLDER PORT WORKERS CONNECTIONS LIB [LIB..]`
abbrev pub serve_command : List ℕ → List (List ℕ) → Command
serve_command folder (port ∷ workers ∷ connections ∷ libs) =
    served_command folder (number_within 1 65535 port) (number_within 1 most_workers workers) (number_within 1 most_connections connections) libs
serve_command folder _ = Usage

abbrev pub make_by : Option Location → Option (List ℕ) → (count number : Option ℕ) → Command
make_by (Some location) (Some lib) (Some count) (Some number) = Make location lib count number
make_by _ _ _ _ = Usage

-- `make FOLDER LIB COUNT NUMBER`; no other word has two numbers after it
abbrev pub make_command : List ℕ → List ℕ → List ℕ → List ℕ → List ℕ → Command
make_command word folder lib count number =
    if bytes_eq word (codes "make") then make_by (location_word folder) (library_id_of lib) (number_within 1 most_files count) (number_within 0 (2 ^ 64 - 1) number)
    else Usage

-- `create FOLDER LIB NAME USER TOKEN`
abbrev pub create_command : List ℕ → List ℕ → List ℕ → List ℕ → List ℕ → Command
create_command folder lib name user token =
    create_by name user (location_word folder) (library_id_of lib) (secret_of token)

-- `token FOLDER LIB USER TOKEN RIGHT`
abbrev pub token_command : List ℕ → List ℕ → List ℕ → List ℕ → List ℕ → Command
token_command folder lib user token right =
    token_by user (location_word folder) (library_id_of lib) (secret_of token) (right_of right)

-- the command of a word with five words after it
abbrev pub long_command : List ℕ → List ℕ → List ℕ → List ℕ → List ℕ → List ℕ → Command
long_command word folder lib third fourth fifth =
    if bytes_eq word (codes "create") then create_command folder lib third fourth fifth
    else if bytes_eq word (codes "token") then token_command folder lib third fourth fifth
    else Usage

-- the command of a word and a folder, with words after them
abbrev pub other_command : List ℕ → List ℕ → List (List ℕ) → Command
other_command word folder (lib ∷ count ∷ number ∷ []) = make_command word folder lib count number
other_command word folder (lib ∷ third ∷ fourth ∷ fifth ∷ []) = long_command word folder lib third fourth fifth
other_command word folder _ = Usage

abbrev pub placed_command : List ℕ → List ℕ → List (List ℕ) → Command
placed_command word folder more =
    if bytes_eq word (codes "inetd") then inetd_command folder more
    else if bytes_eq word (codes "serve") then serve_command folder more
    else other_command word folder more

-- the command that the words are
abbrev pub command_of : List (List ℕ) → Command
command_of [] = Usage
command_of (word ∷ []) = lone_command word
command_of (word ∷ folder ∷ more) = placed_command word folder more

-- where a command that names a place keeps its libraries
abbrev pub location_in : Command → Option Location
location_in (Create location lib name user secret) = Some location
location_in (Token location lib user secret right) = Some location
location_in (Inetd location libs) = Some location
location_in (Serve location port workers connections libs) = Some location
location_in (Make location lib count number) = Some location
location_in _ = None

abbrev pub is_memory : Location → Bool
is_memory Memory = true
is_memory (Folder path) = false

-- the second word is that of the place in memory
abbrev pub names_memory : List (List ℕ) → Bool
names_memory (word ∷ folder ∷ more) = bytes_eq folder (codes ":memory:")
names_memory _ = false

-- no two of these are alike
abbrev pub AreApart : List (List ℕ) → Type 0
AreApart libs = (i j : ℕ) (d e : List ℕ) → i < j → j < length libs → slice_index_or libs i d ≢ slice_index_or libs j e

-- 1 to most_libraries libraries, none of which is named twice
pub record AreLibraries (libs : List (List ℕ)) : Type 0 where
  pub some : 1 ≤ length libs
  pub few : length libs ≤ most_libraries
  pub apart : AreApart libs

-- the names of a command have 1 to MAX_STATE_NAME bytes, and its numbers lie in their ranges
abbrev pub IsNameSize : List ℕ → Type 0
IsNameSize text = (1 ≤ length text) × (length text ≤ MAX_STATE_NAME)

abbrev pub Between : (least most : ℕ) → ℕ → Type 0
Between least most number = (least ≤ number) × (number ≤ most)

abbrev pub NamesFit : Command → Type 0
NamesFit (Create location lib name user secret) = IsNameSize name × IsNameSize user
NamesFit (Token location lib user secret right) = IsNameSize user
NamesFit (Inetd location libs) = AreLibraries libs
NamesFit (Serve location port workers connections libs) = AreLibraries libs × Between 1 65535 port × Between 1 most_workers workers × Between 1 most_connections connections
NamesFit (Make location lib count number) = Between 1 most_files count
NamesFit _ = ⊤

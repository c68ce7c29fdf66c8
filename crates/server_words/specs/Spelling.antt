-- How a command is spelled: the words that read as it, which are one list for each command. Our own.
-- Read words_of, then IsCommand.
use Rattle.std.specs.Prelude.{ℕ, ◌≢◌, ◌^◌, ◌<◌, ◌≡◌, All, IsTrue, ⊤, List, [], ◌∷◌, length, map, codes, decimal}
use Rattle.hex.specs.Hex.{encode_lower}
use Rattle.uuid.specs.Text.{hyphenated_text, lower}
use Rattle.library_state.specs.Rights.{right_text}
use Rattle.server_words.specs.CommandLine.{Between, is_line_of_libraries, is_name, most_connections, most_files, most_workers}
use Rattle.server_words.specs.declared.command.Command.{Command}
use Rattle.server_words.specs.declared.command.Command.TheVariants.{Create, Token, Inetd, Serve, Make, Help, Version, Usage}
use Rattle.server_words.specs.declared.command.Location.{Location}
use Rattle.server_words.specs.declared.command.Location.TheVariants.{Memory, Folder}

-- the word of a place
abbrev pub location_text : Location → List ℕ
location_text Memory = codes ":memory:"
location_text (Folder path) = path

-- the words of a command. Usage has none of its own
abbrev pub words_of : Command → List (List ℕ)
words_of (Create location lib name user secret) =
    codes "create" ∷ location_text location ∷ hyphenated_text lower lib ∷ name ∷ user ∷ encode_lower secret ∷ []
words_of (Token location lib user secret right) =
    codes "token" ∷ location_text location ∷ hyphenated_text lower lib ∷ user ∷ encode_lower secret ∷ right_text right ∷ []
words_of (Inetd location libs) = codes "inetd" ∷ location_text location ∷ map (hyphenated_text lower) libs
words_of (Serve location port workers connections libs) =
    codes "serve" ∷ location_text location ∷ decimal port ∷ decimal workers ∷ decimal connections ∷ map (hyphenated_text lower) libs
words_of (Make location lib count number) = codes "make" ∷ location_text location ∷ hyphenated_text lower lib ∷ decimal count ∷ decimal number ∷ []
words_of Help = codes "--help" ∷ []
words_of Version = codes "--version" ∷ []
words_of Usage = []

-- a folder's path is a word of its own: not empty, and not the word of the place in memory
abbrev pub IsLocation : Location → Type 0
IsLocation Memory = ⊤
IsLocation (Folder path) = (path ≢ []) × (path ≢ codes ":memory:")

-- so many bytes
abbrev pub IsBytesOf : ℕ → List ℕ → Type 0
IsBytesOf size bytes = (length bytes ≡ size) × All (λ byte. byte < 256) bytes

-- the parts of a command are what their words can be
abbrev pub IsCommand : Command → Type 0
IsCommand (Create location lib name user secret) =
    IsLocation location × IsBytesOf 16 lib × IsTrue (is_name name) × IsTrue (is_name user) × IsBytesOf 20 secret
IsCommand (Token location lib user secret right) = IsLocation location × IsBytesOf 16 lib × IsTrue (is_name user) × IsBytesOf 20 secret
IsCommand (Inetd location libs) = IsLocation location × All (IsBytesOf 16) libs × IsTrue (is_line_of_libraries (map (hyphenated_text lower) libs))
IsCommand (Serve location port workers connections libs) = IsLocation location × Between 1 65535 port × Between 1 most_workers workers × Between 1 most_connections connections
    × All (IsBytesOf 16) libs × IsTrue (is_line_of_libraries (map (hyphenated_text lower) libs))
IsCommand (Make location lib count number) = IsLocation location × IsBytesOf 16 lib × Between 1 most_files count × (number < 2 ^ 64)
IsCommand Help = ⊤
IsCommand Version = ⊤
IsCommand Usage = ⊤

-- The lines that the server's commands print, and the status that goes with each. Our own; docs/FORMATS.md.
-- Read line_text and status_of, at the end. No line holds a secret.
use Rattle.std.specs.Prelude.{ℕ, List, [], ◌∷◌, ◌++◌, codes, decimal}
use Rattle.hex.specs.Hex.{encode_lower}
use Rattle.uuid.specs.Text.{hyphenated_text, lower}
use Rattle.ids.specs.declared.key.Key.{Key}
use Rattle.ids.specs.Kind.{kind_word}
use Rattle.library_state.specs.declared.state_fault.StateKey.{StateKey}
use Rattle.library_state.specs.declared.state_fault.StateKey.TheVariants as state
use Rattle.server_words.specs.declared.fault.Fault.{Fault}
use Rattle.server_words.specs.declared.fault.Fault.TheVariants as fault
use Rattle.server_words.specs.declared.line.Line.{Line}
use Rattle.server_words.specs.declared.line.Line.TheVariants as line

-- words and a line feed
abbrev pub printed : List ℕ → List ℕ
printed words = words ++ 10 ∷ []

-- the check that fails, by its name
abbrev pub state_key_word : StateKey → List ℕ
state_key_word state.Whole = codes "Whole"
state_key_word state.Version = codes "Version"
state_key_word state.Collection = codes "Collection"
state_key_word state.Days = codes "Days"
state_key_word state.Kept = codes "Kept"
state_key_word state.Lib = codes "Lib"
state_key_word state.LibName = codes "LibName"
state_key_word state.Opening = codes "Opening"
state_key_word state.Tokens = codes "Tokens"
state_key_word state.Extra = codes "Extra"

-- words and the id that they speak of, in 40 lower-case hexadecimal digits
abbrev pub with_id : List ℕ → List ℕ → List ℕ
with_id words id = words ++ encode_lower id

-- words, the kind of an object and its id
abbrev pub with_key : List ℕ → Key → List ℕ
with_key words key = words ++ kind_word key.kind ++ codes " " ++ encode_lower key.id

abbrev pub bad_state_words : StateKey → List ℕ
bad_state_words key = codes "bad state " ++ state_key_word key

abbrev pub fault_words : Fault → List ℕ
fault_words fault.LibraryExists = codes "library exists"
fault_words fault.NoLibrary = codes "no library"
fault_words fault.NoState = codes "no state"
fault_words (fault.BadState key) = bad_state_words key
fault_words fault.Worn = codes "worn"
fault_words fault.OtherLibrary = codes "other library"
fault_words (fault.Incomplete key) = with_key (codes "incomplete ") key
fault_words (fault.Unreadable key) = with_key (codes "unreadable ") key
fault_words (fault.WrongKind id) = with_id (codes "wrong kind ") id
fault_words (fault.WrongSize id) = with_id (codes "wrong size ") id
fault_words fault.TooDeep = codes "too deep"
fault_words fault.TooMany = codes "too many"
fault_words (fault.Damaged id) = with_id (codes "damaged ") id
fault_words (fault.Taken id) = with_id (codes "taken ") id
fault_words fault.SecretTaken = codes "secret taken"
fault_words fault.TokensFull = codes "tokens full"
fault_words fault.Store = codes "store fault"
fault_words fault.Link = codes "link fault"
fault_words fault.NoMemory = codes "no memory"

abbrev pub created_words : List ℕ → List ℕ → List ℕ
created_words lib head = codes "created " ++ hyphenated_text lower lib ++ codes " " ++ encode_lower head

abbrev pub served_words : ℕ → List ℕ
served_words count = codes "served " ++ decimal count

abbrev pub made_words : (paths bytes stored removed : ℕ) → List ℕ
made_words paths bytes stored removed =
    codes "paths " ++ decimal paths ++ codes " bytes " ++ decimal bytes ++ codes " stored " ++ decimal stored ++ codes " removed " ++ decimal removed

abbrev pub line_words : Line → List ℕ
line_words (line.Created lib head) = created_words lib head
line_words line.TokenAdded = codes "token added"
line_words (line.Served count) = served_words count
line_words (line.Made paths bytes stored removed) = made_words paths bytes stored removed
line_words (line.Fault fault) = codes "seaf-server: " ++ fault_words fault
line_words line.Usage = codes "seaf-server: usage"

-- a line as it is printed, with its line feed
abbrev pub line_text : Line → List ℕ
line_text line = printed (line_words line)

-- 1 for a fault, and 3 for want of memory alone
abbrev pub fault_status : Fault → ℕ
fault_status fault.NoMemory = 3
fault_status _ = 1

-- the status of a command that prints this line: 0 where it was done, 2 for words that are no command
abbrev pub status_of : Line → ℕ
status_of (line.Created lib head) = 0
status_of line.TokenAdded = 0
status_of (line.Served count) = 0
status_of (line.Made paths bytes stored removed) = 0
status_of (line.Fault fault) = fault_status fault
status_of line.Usage = 2

-- what `--version` prints
abbrev pub version_text : List ℕ
version_text = printed (codes "seaf-server 0.1")

-- what `--help` prints
abbrev pub help_text : List ℕ
help_text =
    printed (codes "usage: seaf-server create FOLDER LIB NAME USER TOKEN")
    ++ printed (codes "       seaf-server token FOLDER LIB USER TOKEN RIGHT")
    ++ printed (codes "       seaf-server inetd FOLDER LIB [LIB..]")
    ++ printed (codes "       seaf-server serve FOLDER PORT WORKERS CONNECTIONS LIB [LIB..]")
    ++ printed (codes "       seaf-server make FOLDER LIB COUNT NUMBER")
    ++ printed (codes "FOLDER keeps the libraries, or is :memory:. LIB is a UUID.")
    ++ printed (codes "TOKEN has 40 lower-case hexadecimal digits. RIGHT is r, rw or own.")
    ++ printed (codes "inetd serves one connection over standard input and output,")
    ++ printed (codes "serve as many as WORKERS times CONNECTIONS at a port of 127.0.0.1.")

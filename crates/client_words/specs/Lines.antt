-- The lines that the client's commands print, and the status that goes with each. Our own; docs/FORMATS.md.
-- Read line_text and status_of, at the end. No line holds a secret: none has a place for one.
use Rattle.std.specs.Prelude.{ℕ, Bool, true, false, List, ◌++◌, codes, decimal}
use Rattle.hex.specs.Hex.{encode_lower}
use Rattle.uuid.specs.Text.{hyphenated_text, lower}
use Rattle.server_words.specs.Lines.{printed, with_id}
use Rattle.tree_model.specs.Path.{PathV, path_text}
use Rattle.client_words.specs.declared.fault.Fault.{Fault}
use Rattle.client_words.specs.declared.fault.Fault.TheVariants as fault
use Rattle.client_words.specs.declared.line.Line.{Line}
use Rattle.client_words.specs.declared.line.Line.TheVariants as line
use Rattle.client_words.specs.declared.words.Unsupported.{Unsupported}
use Rattle.client_words.specs.declared.words.Unsupported.TheVariants.{Password, Token, Encryption}

-- a library and words of it
abbrev pub of_library : List ℕ → List ℕ → List ℕ
of_library lib words = hyphenated_text lower lib ++ codes " " ++ words

abbrev pub with_number : List ℕ → ℕ → List ℕ
with_number words number = words ++ decimal number

abbrev pub with_path : List ℕ → PathV → List ℕ
with_path words path = words ++ path_text path

abbrev pub fault_words : Fault → List ℕ
fault_words fault.AlreadyInitialised = codes "already initialised"
fault_words fault.NotInitialised = codes "not initialised"
fault_words fault.BadIndex = codes "bad index"
fault_words fault.NoJob = codes "no job"
fault_words fault.JobExists = codes "job exists"
fault_words fault.FolderNotEmpty = codes "folder not empty"
fault_words fault.Folder = codes "folder fault"
fault_words fault.Link = codes "link fault"
fault_words (fault.BadReply at) = with_number (codes "bad reply ") at
fault_words (fault.Cut size) = with_number (codes "cut reply ") size
fault_words (fault.Refused status) = with_number (codes "refused ") status
fault_words (fault.Damaged want) = with_id (codes "damaged ") want
fault_words fault.BadTree = codes "bad tree"
fault_words (fault.TooLarge size) = with_number (codes "too large ") size
fault_words (fault.Changed path) = with_path (codes "changed ") path
fault_words (fault.Blocked path) = with_path (codes "blocked ") path
fault_words (fault.TooBig path) = with_path (codes "file too big ") path
fault_words (fault.TooDeep path) = with_path (codes "too deep ") path
fault_words fault.TooMany = codes "too many paths"
fault_words (fault.Stale number) = with_number (codes "stale ") number
fault_words fault.NoMemory = codes "no memory"

abbrev pub option_word : Unsupported → List ℕ
option_word Password = codes "-p"
option_word Token = codes "-T"
option_word Encryption = codes "-e"

abbrev pub conflict_word : Bool → List ℕ
conflict_word true = codes "yes"
conflict_word false = codes "no"

abbrev pub synced_words : List ℕ → ℕ → ℕ → Bool → List ℕ
synced_words head written removed conflict = encode_lower head ++ codes " written " ++ decimal written ++ codes " removed " ++ decimal removed
    ++ codes " conflict " ++ conflict_word conflict

abbrev pub line_words : Line → List ℕ
line_words line.Ready = codes "ready"
line_words (line.Listed lib dir) = of_library lib dir
line_words (line.Clean lib) = of_library lib (codes "clean")
line_words (line.Changed lib) = of_library lib (codes "changed")
line_words (line.Synced lib head written removed conflict) = of_library lib (synced_words head written removed conflict)
line_words (line.Desynced lib) = codes "desynced " ++ hyphenated_text lower lib
line_words (line.Fault fault) = codes "seaf-cli: " ++ fault_words fault
line_words (line.NotSupported option) = codes "seaf-cli: " ++ option_word option ++ codes " is not supported"
line_words line.Usage = codes "seaf-cli: usage"

-- a line as it is printed, with its line feed
abbrev pub line_text : Line → List ℕ
line_text line = printed (line_words line)

-- 1 for a fault, and 3 for want of memory alone
abbrev pub fault_status : Fault → ℕ
fault_status fault.NoMemory = 3
fault_status _ = 1

-- the status of a command whose last line this is: 2 for words that ask for nothing
abbrev pub status_of : Line → ℕ
status_of (line.Fault fault) = fault_status fault
status_of (line.NotSupported option) = 2
status_of line.Usage = 2
status_of _ = 0

-- What the words of `seaf-cli` ask for, without the program's name, by the matches that `clap` states (Grammar). Our own.
-- Read words_of first, at the end.
use Rattle.std.specs.Prelude.{ℕ, Bool, false, if◌then◌else◌, List, [], ◌∷◌, Option, Some, None, is_some, codes}
use Rattle.std.specs.Str.{bytes_eq}
use Rattle.clap.specs.Words.{Kinds, Row, Text, fault_of, first_of, subcommand_of}
use Rattle.client_words.specs.Grammar.{cli_app}
use Rattle.client_words.specs.OptionValues.{job_by, lib_in, path_in, secret_in, server_in, turns_in, user_in}
use Rattle.client_words.specs.declared.job.Job.{Job}
use Rattle.client_words.specs.declared.words.Unsupported.{Unsupported}
use Rattle.client_words.specs.declared.words.Unsupported.TheVariants.{Password, Token, Encryption}
use Rattle.client_words.specs.declared.words.Words.{Words}
use Rattle.client_words.specs.declared.words.Words.TheVariants.{Init, List as ListJobs, Status, Download, Sync, Desync, Start, NotSupported, Help, Version, Usage}

-- the first of -p, -T and -e that is there
abbrev pub unsupported_in : List Row → Option Unsupported
unsupported_in rows =
    if is_some (first_of (codes "p") rows) then Some Password
    else if is_some (first_of (codes "T") rows) then Some Token
    else if is_some (first_of (codes "e") rows) then Some Encryption
    else None

-- the job that the options say, its folder by the option of this letter
abbrev pub job_in : List ℕ → List Row → Option Job
job_in letter rows = job_by (server_in (first_of (codes "s") rows)) (lib_in (first_of (codes "l") rows)) (secret_in (first_of (codes "k") rows))
    (path_in (first_of letter rows)) (user_in (first_of (codes "u") rows))

abbrev pub download_by : List ℕ → Option Job → Words
download_by conf None = Usage
download_by conf (Some job) = Download conf job

abbrev pub sync_by : List ℕ → Option Job → Words
sync_by conf None = Usage
sync_by conf (Some job) = Sync conf job

abbrev pub desync_by : List ℕ → Option (List ℕ) → Words
desync_by conf None = Usage
desync_by conf (Some dir) = Desync conf dir

abbrev pub start_by : List ℕ → Option ℕ → Words
start_by conf None = Usage
start_by conf (Some turns) = Start conf turns

-- what the command of this name asks for
abbrev pub named_words : List ℕ → List Row → List ℕ → Words
named_words name rows conf =
    if bytes_eq name (codes "init") then Init conf
    else if bytes_eq name (codes "list") then ListJobs conf
    else if bytes_eq name (codes "status") then Status conf
    else if bytes_eq name (codes "download") then download_by conf (job_in (codes "w") rows)
    else if bytes_eq name (codes "sync") then sync_by conf (job_in (codes "d") rows)
    else if bytes_eq name (codes "desync") then desync_by conf (path_in (first_of (codes "d") rows))
    else if bytes_eq name (codes "start") then start_by conf (turns_in (first_of (codes "n") rows))
    else Usage

abbrev pub words_in : List ℕ → List Row → Option (List ℕ) → Words
words_in name rows None = Usage
words_in name rows (Some conf) = named_words name rows conf

-- an option that is refused comes before what the command needs
abbrev pub words_unless : Option Unsupported → Words → Words
words_unless None words = words
words_unless (Some option) words = NotSupported option

abbrev pub command_words : List ℕ → List Row → Words
command_words name rows = words_unless (unsupported_in rows) (words_in name rows (path_in (first_of (codes "c") rows)))

-- a line enters a command, with the matches of its options
abbrev pub entered_words : Option (Text × List Row) → Words
entered_words None = Usage
entered_words (Some entered) = command_words entered.0 entered.1

-- a line is one that `clap` takes exactly where no kind of refusal is told
abbrev pub words_by : Kinds → Option (Text × List Row) → Words
words_by [] entered = entered_words entered
words_by (kind ∷ kinds) entered = Usage

abbrev pub matched_words : List (List ℕ) → Words
matched_words words = words_by (fault_of cli_app words) (subcommand_of cli_app words)

-- the word stands alone
abbrev pub is_alone : List ℕ → List (List ℕ) → Bool
is_alone wanted (word ∷ []) = bytes_eq word wanted
is_alone wanted _ = false

-- what the words ask for
abbrev pub words_of : List (List ℕ) → Words
words_of words =
    if is_alone (codes "--help") words then Help
    else if is_alone (codes "--version") words then Version
    else matched_words words

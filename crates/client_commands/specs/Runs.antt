-- What the client's top call does, and its status. Our own. Read RunsSo, at the end; before it CommandSo, WithFolder of Folders and Prints of
-- Printing.
use Rattle.std.specs.Prelude.{◌≡◌, ℕ, List, [], Option, None, Some, Result, Ok, Err, IfErr, ⊤}
use Rattle.folder_side.specs.Folder.{Contents}
use Rattle.folder_texts.specs.FolderTexts.{text_at}
use Rattle.http_client.specs.RequestText.{IsHost}
use Rattle.client_words.specs.Help.{help_text, version_text}
use Rattle.client_words.specs.declared.fault.Fault.{Fault}
use Rattle.client_words.specs.declared.job.Job.{Job}
use Rattle.client_words.specs.declared.line.Line.{Line}
use Rattle.client_words.specs.declared.line.Line.TheVariants as line
use Rattle.client_words.specs.declared.words.Words.{Words}
use Rattle.client_words.specs.declared.words.Words.TheVariants as words
use Rattle.client_desk.specs.Commands.{DesyncsSo, DoesSo, IsDesyncFault, IsInitFault, init_due, list_due, with_jobs}
use Rattle.client_desk.specs.KeptTexts.{Answers, IsListFault, jobs_found, jobs_name}
use Rattle.client_commands.specs.Keeping.{DeskKeeps}
use Rattle.client_commands.specs.Folders.{WithFolder}
use Rattle.client_commands.specs.KeptSyncs.{SyncsOwn, job_line}
use Rattle.client_commands.specs.Printing.{Printed, Prints, Puts, line_printed, lines_printed, no_memory_printed}
use Rattle.client_commands.specs.Starts.{StartsSo}
use Rattle.client_commands.specs.Statuses.{StatusDoes}
use Rattle.client_commands.specs.Views.{DeskView, DialView, OwnView, SinkView}
use Rattle.client_commands.specs.declared.wanted.Wanted.TheVariants.{Any, Empty}

-- ---- what the commands do with the client's own folder

-- a command that leaves the desk alone. Over every folder none but these faults comes of it
pub record InOwn {N T : Type 0} (may : Fault → Type 0) (does : Contents → Option Contents → Result T Fault → Type 0) (own kept : OwnView) (old new : DeskView N) (result : Result T Fault)
    : Type 0 where
  pub desk_stays : new ≡ old
  pub only : IfErr result may
  pub does_so : (c : Contents) → own.told ≡ Some c → does c kept.told result

abbrev pub InitDoes : Contents → Option Contents → Result ⊤ Fault → Type 0
InitDoes c kept result = DoesSo (init_due (text_at c jobs_name)) c (with_jobs [] c) kept result

abbrev pub ListDoes : Contents → Option Contents → Result (List Line) Fault → Type 0
ListDoes c kept result = Answers (list_due (jobs_found (text_at c jobs_name))) result × (kept ≡ Some c)

abbrev pub DesyncDoes : List ℕ → Contents → Option Contents → Result (List ℕ) Fault → Type 0
DesyncDoes dir c kept result = DesyncsSo dir c (jobs_found (text_at c jobs_name)) kept result

-- ---- what they print

abbrev pub begun_line : Result ⊤ Fault → Line
begun_line (Ok u) = line.Ready
begun_line (Err f) = line.Fault f

abbrev pub desynced_line : Result (List ℕ) Fault → Line
desynced_line (Ok lib) = line.Desynced lib
desynced_line (Err f) = line.Fault f

abbrev pub listed_printed : Result (List Line) Fault → Printed
listed_printed (Ok lines) = lines_printed lines
listed_printed (Err f) = line_printed (line.Fault f)

-- what only prints
abbrev pub printed_for : Words → Option Printed
printed_for (words.NotSupported option) = Some (line_printed (line.NotSupported option))
printed_for words.Help = Some (record { text = help_text; status = 0 })
printed_for words.Version = Some (record { text = version_text; status = 0 })
printed_for words.Usage = Some (line_printed line.Usage)
printed_for _ = None

-- the host of a job that is asked for is the name of one, as it is of all that words ask for
abbrev pub AreReady : Words → Type 0
AreReady (words.Download conf job) = IsHost job.host
AreReady (words.Sync conf job) = IsHost job.host
AreReady _ = ⊤

-- ---- all of it

-- a command has the client's own folder, and then prints what it came to
pub record CommandSo {N T : Type 0} (conf : List ℕ) (does : (own kept : OwnView) → (old new : DeskView N) → Result T Fault → Type 0) (printed : Result T Fault → Printed)
    (old new : DeskView N) (before after : SinkView) (status : ℕ) : Type 0 where
  pub result : Result T Fault
  pub with_own : WithFolder conf does old new result
  pub keeps : DeskKeeps old new result
  pub prints : Prints (printed result) before after status

module _ {N : Type 0} (links : N → DialView) (shows : ℕ → Type 0) where
  -- what the words ask for is done; or there was no memory for the words, and nothing was done
  pub data RunsSo (asked : Words) (old new : DeskView N) (before after : SinkView) (status : ℕ) : Type 0 where
    begins : (conf : List ℕ) → asked ≡ words.Init conf → CommandSo conf (InOwn IsInitFault InitDoes) (λ done. line_printed (begun_line done)) old new before after status
        → RunsSo asked old new before after status
    lists : (conf : List ℕ) → asked ≡ words.List conf → CommandSo conf (InOwn IsListFault ListDoes) listed_printed old new before after status → RunsSo asked old new before after status
    tells : (conf : List ℕ) → asked ≡ words.Status conf → CommandSo conf StatusDoes listed_printed old new before after status → RunsSo asked old new before after status
    downloads : (conf : List ℕ) (job : Job) → asked ≡ words.Download conf job
        → CommandSo conf (SyncsOwn links shows Empty job) (λ done. line_printed (job_line job.lib done)) old new before after status → RunsSo asked old new before after status
    syncs : (conf : List ℕ) (job : Job) → asked ≡ words.Sync conf job
        → CommandSo conf (SyncsOwn links shows Any job) (λ done. line_printed (job_line job.lib done)) old new before after status → RunsSo asked old new before after status
    desyncs : (conf dir : List ℕ) → asked ≡ words.Desync conf dir
        → CommandSo conf (InOwn IsDesyncFault (DesyncDoes dir)) (λ done. line_printed (desynced_line done)) old new before after status → RunsSo asked old new before after status
    starts : (conf : List ℕ) (turns : ℕ) → asked ≡ words.Start conf turns → StartsSo links shows conf turns old new before after status → RunsSo asked old new before after status
    prints : (printed : Printed) → printed_for asked ≡ Some printed → new ≡ old → Prints printed before after status → RunsSo asked old new before after status
    unread : new ≡ old → Puts no_memory_printed before after status → RunsSo asked old new before after status

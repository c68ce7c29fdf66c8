-- What `status` tells of each job. Our own. Read TellsJob, then StatusesSo and StatusDoes.
use Rattle.std.specs.Prelude.{◌≡◌, ◌⊎◌, ◌↔◌, ℕ, Bool, true, false, IsTrue, All, List, [], ◌∷◌, ◌++◌, Option, Some, Result, Ok, Err, ⊤}
use Rattle.folder_side.specs.Folder.{Contents}
use Rattle.folder_side.specs.ScanReport.{IsPastLimit}
use Rattle.folder_side.specs.declared.error.ScanFault.{ScanFault}
use Rattle.folder_texts.specs.FolderTexts.{text_at}
use Rattle.block_chunker.specs.declared.cuts.Cuts.{Cuts}
use Rattle.local_index.specs.declared.index.Index.{Index}
use Rattle.sync_rules.specs.Offer.{Agrees, IsUsual}
use Rattle.client_words.specs.declared.job.Job.{Job}
use Rattle.client_words.specs.declared.fault.Fault.{Fault}
use Rattle.client_words.specs.declared.line.Line.{Line}
use Rattle.client_words.specs.declared.line.Line.TheVariants as line
use Rattle.client_desk.specs.KeptTexts.{Answers, is_free, jobs_found, jobs_name}
use Rattle.client_commands.specs.KeptSyncs.{index_at}
use Rattle.client_commands.specs.SyncFaults.{fault_of_scan}
use Rattle.client_commands.specs.Views.{DeskView, OwnView}

-- ---- the indexes of jobs, all of which are looked for first

abbrev pub HasIndex : Contents → Job → Type 0
HasIndex c job = (index : Index) × (index_at c job ≡ Ok index)

-- a job that has none, and why
pub record LacksIndex (c : Contents) (jobs : List Job) (e : Fault) : Type 0 where
  pub before : List Job
  pub job : Job
  pub after : List Job
  pub cut : jobs ≡ before ++ job ∷ after
  pub lacks : index_at c job ≡ Err e

-- one is looked for
abbrev pub FindsIndex : Contents → Job → Result ⊤ Fault → Type 0
FindsIndex c job (Ok u) = HasIndex c job
FindsIndex c job (Err e) = Answers (index_at c job) (Err e)

-- or all of them, in their order
abbrev pub FindsIndexes : Contents → List Job → Result ⊤ Fault → Type 0
FindsIndexes c jobs (Ok u) = All (HasIndex c) jobs
FindsIndexes c jobs (Err e) = IsTrue (is_free e) ⊎ LacksIndex c jobs e

-- the list of jobs is not there, or an index of one of them
pub data Unlisted (c : Contents) (e : Fault) : Type 0 where
  failed : IsTrue (is_free e) → Unlisted c e
  no_list : jobs_found (text_at c jobs_name) ≡ Err e → Unlisted c e
  no_index : (jobs : List Job) → jobs_found (text_at c jobs_name) ≡ Ok jobs → LacksIndex c jobs e → Unlisted c e

-- ---- a line for each job

abbrev pub clean_line : List ℕ → Bool → Line
clean_line lib true = line.Clean lib
clean_line lib false = line.Changed lib

-- its folder is past a limit of a scan
abbrev pub StopsScan : (told : Option Contents) → Fault → Type 0
StopsScan told f = (why : ScanFault) × (f ≡ fault_of_scan why) × ((d : Contents) → told ≡ Some d → IsPastLimit d why)

-- by a scan of its folder with the usual chunks: clean exactly where that agrees with its index
abbrev pub TellsClean : (told : Option Contents) → Index → Result Bool Fault → Type 0
TellsClean told index (Ok clean) = (d : Contents) → told ≡ Some d → (cuts : Cuts) × IsUsual cuts × (IsTrue clean ↔ Agrees cuts d index)
TellsClean told index (Err f) = IsTrue (is_free f) ⊎ StopsScan told f

abbrev pub TellsJob : (holds : List ℕ → Option Contents) → Contents → Job → Line → Type 0
TellsJob holds c job l =
    (index : Index) × (index_at c job ≡ Ok index) × (clean : Bool) × (l ≡ clean_line job.lib clean) × TellsClean (holds job.dir) index (Ok clean)

-- each job in its order
abbrev pub TellJobs : (holds : List ℕ → Option Contents) → Contents → List Job → List Line → Type 0
TellJobs holds c [] [] = ⊤
TellJobs holds c (job ∷ jobs) (l ∷ lines) = TellsJob holds c job l × TellJobs holds c jobs lines
TellJobs holds c _ _ = ⊥

-- the line of a job, or why there is none
abbrev pub TellsLine : (holds : List ℕ → Option Contents) → Contents → Job → Result Line Fault → Type 0
TellsLine holds c job (Ok l) = TellsJob holds c job l
TellsLine holds c job (Err f) = IsTrue (is_free f) ⊎ ((index_at c job ≡ Err f) ⊎ StopsScan (holds job.dir) f)

-- the first folder that is past a limit of a scan
pub record StopsAt (holds : List ℕ → Option Contents) (c : Contents) (jobs : List Job) (f : Fault) : Type 0 where
  pub before : List Job
  pub job : Job
  pub after : List Job
  pub lines : List Line
  pub cut : jobs ≡ before ++ job ∷ after
  pub told : TellJobs holds c before lines
  pub stops : StopsScan (holds job.dir) f

-- the lines of these jobs
abbrev pub TellsLines : (holds : List ℕ → Option Contents) → Contents → List Job → Result (List Line) Fault → Type 0
TellsLines holds c jobs (Ok lines) = TellJobs holds c jobs lines
TellsLines holds c jobs (Err f) = IsTrue (is_free f) ⊎ (LacksIndex c jobs f ⊎ StopsAt holds c jobs f)

-- a line for each job, or one fault: that of an index which is not there comes before that of a folder
abbrev pub StatusesSo : (holds : List ℕ → Option Contents) → Contents → List Job → Result (List Line) Fault → Type 0
StatusesSo holds c jobs (Ok lines) = TellJobs holds c jobs lines
StatusesSo holds c jobs (Err f) = IsTrue (is_free f) ⊎ (LacksIndex c jobs f ⊎ (All (HasIndex c) jobs × StopsAt holds c jobs f))

abbrev pub TellsListed : (holds : List ℕ → Option Contents) → Contents → Result (List Job) Fault → Result (List Line) Fault → Type 0
TellsListed holds c (Err e) result = Answers (Err e) result
TellsListed holds c (Ok jobs) result = StatusesSo holds c jobs result

-- each folder is as it was, and no dial was asked for
pub record IsSameDesk {N : Type 0} (old new : DeskView N) : Type 0 where
  pub dials : new.dials ≡ old.dials
  pub holds : (dir : List ℕ) → new.holds dir ≡ old.holds dir

pub record StatusDoes {N : Type 0} (own kept : OwnView) (old new : DeskView N) (result : Result (List Line) Fault) : Type 0 where
  pub own_stays : kept.told ≡ own.told
  pub same : IsSameDesk old new
  pub tells : (c : Contents) → own.told ≡ Some c → TellsListed old.holds c (jobs_found (text_at c jobs_name)) result

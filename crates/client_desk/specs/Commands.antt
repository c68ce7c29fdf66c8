-- What the commands of the client do with what it keeps in its own folder. Our own. Read DoesSo, then init_due, list_due and
-- DesyncsSo.
use Rattle.std.specs.Prelude.{◌≡◌, ◌⊎◌, ℕ, IsTrue, List, [], ◌∷◌, map, Option, None, Some, Result, Ok, Err, ⊤}
use Rattle.folder_side.specs.Folder.{Contents, with_file}
use Rattle.folder_texts.specs.FolderTexts.{without_text}
use Rattle.client_words.specs.JobWriting.{text_of}
use Rattle.client_words.specs.declared.job.Job.{Job}
use Rattle.client_words.specs.declared.fault.Fault.{Fault}
use Rattle.client_words.specs.declared.fault.Fault.TheVariants as fault
use Rattle.client_words.specs.declared.line.Line.{Line}
use Rattle.client_words.specs.declared.line.Line.TheVariants as line
use Rattle.client_desk.specs.JobList.{job_of, jobs_without}
use Rattle.client_desk.specs.KeptTexts.{Answers, IsListFault, index_name, is_free, jobs_name}

-- ---- init: the text of no jobs is put where no list is

abbrev pub init_due : Option (List ℕ) → Result ⊤ Fault
init_due None = Ok tt
init_due (Some text) = Err fault.AlreadyInitialised

-- which faults may come of it, over any folder
abbrev pub IsInitFault : Fault → Type 0
IsInitFault e = (e ≡ fault.AlreadyInitialised) ⊎ IsTrue (is_free e)

-- the folder with that list of jobs
abbrev pub with_jobs : List Job → Contents → Contents
with_jobs jobs c = with_file (jobs_name ∷ []) (text_of jobs) c

-- where a refusal is due nothing is changed; else success makes the change, and a fault in its place makes it or not
abbrev pub Leaves : {T : Type 0} → Result T Fault → (c changed : Contents) → Option Contents → Result T Fault → Type 0
Leaves (Err e) c changed now result = now ≡ Some c
Leaves (Ok x) c changed now (Ok y) = now ≡ Some changed
Leaves (Ok x) c changed now (Err e) = (now ≡ Some c) ⊎ (now ≡ Some changed)

-- of a folder that held `c` and is due to be changed so
pub record DoesSo {T : Type 0} (due : Result T Fault) (c changed : Contents) (now : Option Contents) (result : Result T Fault) : Type 0 where
  pub answers : Answers due result
  pub leaves : Leaves due c changed now result

-- ---- list: a line for each job, in their order

abbrev pub listed_line : Job → Line
listed_line job = line.Listed job.lib job.dir

abbrev pub list_due : Result (List Job) Fault → Result (List Line) Fault
list_due (Ok jobs) = Ok (map listed_line jobs)
list_due (Err e) = Err e

-- ---- desync: the job of a folder is taken from the list first, and then its index

-- the folder without the index of a library
abbrev pub without_index : List ℕ → Contents → Contents
without_index lib c = without_text (index_name lib) c

-- after success both are gone; after a fault in its place nothing is, the job alone, or both
abbrev pub LeavesTwo : {T : Type 0} → (c changed all : Contents) → Option Contents → Result T Fault → Type 0
LeavesTwo c changed all now (Ok y) = now ≡ Some all
LeavesTwo c changed all now (Err e) = (now ≡ Some c) ⊎ ((now ≡ Some changed) ⊎ (now ≡ Some all))

-- which faults may come of it, over any folder
abbrev pub IsDesyncFault : Fault → Type 0
IsDesyncFault e = (e ≡ fault.NoJob) ⊎ IsListFault e

-- the job of the folder, if the list has one
abbrev pub DesyncsJob : (c changed : Contents) → Option Job → Option Contents → Result (List ℕ) Fault → Type 0
DesyncsJob c changed None now result = Answers (Err fault.NoJob) result × (now ≡ Some c)
DesyncsJob c changed (Some job) now result = Answers (Ok job.lib) result × LeavesTwo c changed (without_index job.lib changed) now result

-- the list that was found
abbrev pub DesyncsSo : (dir : List ℕ) → Contents → Result (List Job) Fault → Option Contents → Result (List ℕ) Fault → Type 0
DesyncsSo dir c (Err e) now result = Answers (Err e) result × (now ≡ Some c)
DesyncsSo dir c (Ok jobs) now result = DesyncsJob c (with_jobs (jobs_without dir jobs) c) (job_of dir jobs) now result

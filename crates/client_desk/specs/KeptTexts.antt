-- The texts that the client keeps in its own folder: the list of jobs, and an index for each library. docs/FORMATS.md, "The
-- client's list of jobs" and "Index text". Read jobs_found and index_found, then Answers.
use Rattle.std.specs.Prelude.{◌≡◌, ◌⊎◌, ℕ, Bool, true, false, IsTrue, if◌then◌else◌, List, ◌++◌, codes, Option, Some, None, Result, Ok, Err}
use Rattle.std.specs.Str.{bytes_eq}
use Rattle.uuid.specs.Text.{hyphenated_text, lower}
use Rattle.folder_side.specs.declared.error.FolderFault.{FolderFault}
use Rattle.folder_side.specs.declared.error.FolderFault.TheVariants as folder
use Rattle.json_words.specs.declared.answer.ReadFault.{ReadFault}
use Rattle.json_words.specs.declared.answer.ReadFault.TheVariants as reading
use Rattle.local_index.specs.declared.fault.IndexKey.{IndexKey}
use Rattle.local_index.specs.declared.index.Index.{Index}
use Rattle.local_index.specs.IndexText.{index_of}
use Rattle.client_words.specs.JobReading.{jobs_of}
use Rattle.client_words.specs.declared.job.Job.{Job}
use Rattle.client_words.specs.declared.fault.Fault.{Fault}
use Rattle.client_words.specs.declared.fault.Fault.TheVariants as fault

-- the file of the list of jobs, and that of the index of a library
abbrev pub jobs_name : List ℕ
jobs_name = codes "seaf.json"

abbrev pub index_name : List ℕ → List ℕ
index_name lib = (codes "index-" ++ hyphenated_text lower lib) ++ codes ".json"

-- ---- what is found of them

-- a text that is no list of jobs
abbrev pub jobs_read : Option (List Job) → Result (List Job) Fault
jobs_read None = Err fault.BadIndex
jobs_read (Some jobs) = Ok jobs

-- the jobs of the list, or why there are none: no list is there, or its text is none
abbrev pub jobs_found : Option (List ℕ) → Result (List Job) Fault
jobs_found None = Err fault.NotInitialised
jobs_found (Some text) = jobs_read (jobs_of text)

-- an index text, and one of another library
abbrev pub index_read : List ℕ → Result Index IndexKey → Result Index Fault
index_read lib (Ok index) = if bytes_eq index.lib lib then Ok index else Err fault.BadIndex
index_read lib (Err bad) = Err fault.BadIndex

-- the index of a library: where no text is there, or it is none of this library, that is one fault
abbrev pub index_found : List ℕ → Option (List ℕ) → Result Index Fault
index_found lib None = Err fault.BadIndex
index_found lib (Some text) = index_read lib (index_of text)

-- ---- answers

abbrev pub fault_of_folder : FolderFault → Fault
fault_of_folder folder.Folder = fault.Folder
fault_of_folder folder.NoMemory = fault.NoMemory

abbrev pub fault_of_index : ReadFault IndexKey → Fault
fault_of_index (reading.Bad key) = fault.BadIndex
fault_of_index reading.NoMemory = fault.NoMemory

-- a folder failed, which its count tells
abbrev pub is_of_folder : Fault → Bool
is_of_folder fault.Folder = true
is_of_folder _ = false

-- what may come in the place of any answer: a counted failure of a folder, and want of memory
abbrev pub is_free : Fault → Bool
is_free fault.Folder = true
is_free fault.NoMemory = true
is_free _ = false

-- which faults may come as a list of jobs is looked for, or the index of a library, over any folder
abbrev pub IsListFault : Fault → Type 0
IsListFault e = (e ≡ fault.NotInitialised) ⊎ ((e ≡ fault.BadIndex) ⊎ IsTrue (is_free e))

abbrev pub IsIndexFault : Fault → Type 0
IsIndexFault e = (e ≡ fault.BadIndex) ⊎ IsTrue (is_free e)

-- the answer that is due, or one that may come in its place
abbrev pub Answers : {T : Type 0} → Result T Fault → Result T Fault → Type 0
Answers due (Ok x) = due ≡ Ok x
Answers due (Err e) = (due ≡ Err e) ⊎ IsTrue (is_free e)

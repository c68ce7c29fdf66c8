-- A sync of a job of the list, or of one that is added to it, and what is kept of it in the client's own folder. Our own. Read SyncsListed,
-- then SyncsNew and SyncsAsked.
use Rattle.std.specs.Prelude.{◌≡◌, ◌⊎◌, ℕ, IsTrue, List, [], ◌∷◌, Option, None, Some, Result, Ok, Err}
use Rattle.std.specs.FinMap as fin
use Rattle.folder_side.specs.Folder.{Contents, with_file}
use Rattle.folder_texts.specs.FolderTexts.{text_at}
use Rattle.local_index.specs.IndexSpelling.{IsProper, text_of as index_text_of}
use Rattle.local_index.specs.IndexText.{index_of}
use Rattle.local_index.specs.declared.index.Index.{Index}
use Rattle.sync_rules.specs.declared.synced.Synced.{Synced}
use Rattle.client_words.specs.declared.fault.Fault.{Fault}
use Rattle.client_words.specs.declared.job.Job.{Job}
use Rattle.client_words.specs.declared.line.Line.{Line}
use Rattle.client_words.specs.declared.line.Line.TheVariants as line
use Rattle.client_desk.specs.Commands.{with_jobs}
use Rattle.client_desk.specs.JobList.{job_due, jobs_with}
use Rattle.client_desk.specs.declared.desk.Asking.{Asking}
use Rattle.client_desk.specs.declared.desk.Asking.TheVariants as asking
use Rattle.client_desk.specs.KeptTexts.{Answers, index_found, index_name, is_free, jobs_found, jobs_name}
use Rattle.client_commands.specs.JobSyncs.{WorksSo}
use Rattle.client_commands.specs.Views.{DeskView, DialView, OwnView}
use Rattle.client_commands.specs.declared.wanted.Wanted.{Wanted}
use Rattle.client_commands.specs.declared.wanted.Wanted.TheVariants.{Any, Empty}

-- the index of a job that the client's own folder has, or why it has none
abbrev pub index_at : Contents → Job → Result Index Fault
index_at c job = index_found job.lib (text_at c (index_name job.lib))

-- the client's own folder with an index
abbrev pub with_index : Index → Contents → Contents
with_index index c = with_file (index_name index.lib ∷ []) (index_text_of index) c

-- the line of a job that was synced, or not
abbrev pub job_line : List ℕ → Result Synced Fault → Line
job_line lib (Ok s) = line.Synced lib s.head s.written s.removed s.conflict
job_line lib (Err f) = line.Fault f

-- ---- a job of the list

-- the command that asks for its folder, of the two that name one
abbrev pub asking_of : Wanted → Asking
asking_of Any = asking.Sync
asking_of Empty = asking.Download

-- an index is read back from its text, where it is proper, as one that a sync left by a proper one is
abbrev pub ReadsBack : Index → Type 0
ReadsBack j = IsProper j → index_of (index_text_of j) ≡ Ok j

-- what is kept of it: the index, where the sync ended well
abbrev pub KeepsIndex : (j : Index) → (worked : Result Synced Fault) → Option Contents → Option Contents → Result Synced Fault → Type 0
KeepsIndex j (Err e) own kept result = (result ≡ Err e) × (kept ≡ own)
KeepsIndex j (Ok s) own kept (Ok t) = (t ≡ s) × ReadsBack j × ((c : Contents) → own ≡ Some c → kept ≡ Some (with_index j c))
KeepsIndex j (Ok s) own kept (Err e) = IsTrue (is_free e) × ((c : Contents) → own ≡ Some c → (kept ≡ Some c) ⊎ (kept ≡ Some (with_index j c)))

-- ---- one that is added

-- what is kept of it: the index first, and then the list with the job in its place
abbrev pub KeepsJob : (job : Job) → (jobs : List Job) → (j : Index) → (worked : Result Synced Fault) → Option Contents → Option Contents → Result Synced Fault → Type 0
KeepsJob job jobs j (Err e) own kept result = (result ≡ Err e) × (kept ≡ own)
KeepsJob job jobs j (Ok s) own kept (Ok t) = (t ≡ s) × ReadsBack j × ((c : Contents) → own ≡ Some c → kept ≡ Some (with_jobs (jobs_with job jobs) (with_index j c)))
KeepsJob job jobs j (Ok s) own kept (Err e) = IsTrue (is_free e) × ((c : Contents) → own ≡ Some c
    → (kept ≡ Some c) ⊎ ((kept ≡ Some (with_index j c)) ⊎ (kept ≡ Some (with_jobs (jobs_with job jobs) (with_index j c)))))

-- an index of which nothing was synced yet
abbrev pub empty_index : List ℕ → Index
empty_index lib = record { lib = lib; base = None; entries = fin.empty }

-- nothing was done
pub record LeavesAll {N : Type 0} (e : Fault) (own kept : Option Contents) (old new : DeskView N) (result : Result Synced Fault) : Type 0 where
  pub is : result ≡ Err e
  pub own_stays : kept ≡ own
  pub desk_stays : new ≡ old

module _ {N : Type 0} (links : N → DialView) (shows : ℕ → Type 0) where
  -- no index of the job was found, and nothing was done; or there was one, by which its folder was synced, and what came of it was kept
  pub data SyncsListed (wanted : Wanted) (job : Job) (own kept : Option Contents) (old new : DeskView N) (result : Result Synced Fault) : Type 0 where
    unread_index : (e : Fault) → result ≡ Err e → ((c : Contents) → own ≡ Some c → Answers (index_at c job) (Err e))
        → kept ≡ own → new ≡ old → SyncsListed wanted job own kept old new result
    worked : (i j : Index) (done : Result Synced Fault) → i.lib ≡ job.lib → IsProper i → ((c : Contents) → own ≡ Some c → index_at c job ≡ Ok i)
        → WorksSo links shows wanted job i j old new done → KeepsIndex j done own kept result → SyncsListed wanted job own kept old new result

  -- a folder that no job has is synced with a library that none has
  pub record SyncsNew (wanted : Wanted) (job : Job) (jobs : List Job) (own kept : Option Contents) (old new : DeskView N) (result : Result Synced Fault) : Type 0 where
    pub index : Index
    pub done : Result Synced Fault
    pub works : WorksSo links shows wanted job (empty_index job.lib) index old new done
    pub keeps : KeepsJob job jobs index done own kept result

  -- ---- `sync` and `download`: which job it is

  abbrev pub SyncsDue : (wanted : Wanted) → (asked : Job) → (jobs : List Job) → Result (Option Job) Fault → (own kept : Option Contents) → (old new : DeskView N) → Result Synced Fault → Type 0
  SyncsDue wanted asked jobs (Err e) own kept old new result = LeavesAll e own kept old new result
  SyncsDue wanted asked jobs (Ok (Some job)) own kept old new result = SyncsListed wanted job own kept old new result
  SyncsDue wanted asked jobs (Ok None) own kept old new result = SyncsNew wanted asked jobs own kept old new result

  -- the list of jobs was not found, and nothing was done; or it was
  pub data SyncsAsked (wanted : Wanted) (asked : Job) (own kept : Option Contents) (old new : DeskView N) (result : Result Synced Fault) : Type 0 where
    unread_list : (e : Fault) → ((c : Contents) → own ≡ Some c → Answers (jobs_found (text_at c jobs_name)) (Err e))
        → LeavesAll e own kept old new result → SyncsAsked wanted asked own kept old new result
    due : (jobs : List Job) → ((c : Contents) → own ≡ Some c → jobs_found (text_at c jobs_name) ≡ Ok jobs)
        → SyncsDue wanted asked jobs (job_due jobs asked) own kept old new result → SyncsAsked wanted asked own kept old new result

  -- the same of a command that has the client's own folder
  abbrev pub SyncsOwn : (wanted : Wanted) → (asked : Job) → (own kept : OwnView) → (old new : DeskView N) → Result Synced Fault → Type 0
  SyncsOwn wanted asked own kept old new result = SyncsAsked wanted asked own.told kept.told old new result

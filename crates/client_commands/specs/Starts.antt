-- What `start` does: each job of the list synced so many times, turn after turn. Our own. Read JobRuns, then TurnSo, TurnsSo and StartsSo.
use Rattle.std.specs.Prelude.{◌≡◌, ◌⊎◌, ℕ, suc, All, ◌==◌, if◌then◌else◌, List, [], ◌∷◌, Some, Result, Ok, Err, ⊤}
use Rattle.ids.specs.FaultCount.{Rose}
use Rattle.folder_side.specs.Folder.{Contents}
use Rattle.folder_texts.specs.FolderTexts.{text_at}
use Rattle.http_front.specs.declared.link.LinkFailed.{LinkFailed}
use Rattle.sync_rules.specs.declared.synced.Synced.{Synced}
use Rattle.client_words.specs.declared.fault.Fault.{Fault}
use Rattle.client_words.specs.declared.job.Job.{Job}
use Rattle.client_words.specs.declared.line.Line.TheVariants as line
use Rattle.client_desk.specs.KeptTexts.{jobs_found, jobs_name}
use Rattle.client_commands.specs.Keeping.{DeskKeeps, OwnKeeps}
use Rattle.client_commands.specs.Folders.{GivesFolder, LacksFolder, TakesFolder}
use Rattle.client_commands.specs.KeptSyncs.{SyncsListed, job_line}
use Rattle.client_commands.specs.Printing.{Prints, line_printed}
use Rattle.client_commands.specs.Statuses.{HasIndex, Unlisted}
use Rattle.client_commands.specs.Views.{DeskView, DialView, OwnView, SinkView}
use Rattle.client_commands.specs.declared.wanted.Wanted.TheVariants.{Any}

-- the client's own folder, the desk, and what was printed
pub record RunView (N : Type 0) : Type 0 where
  pub own : OwnView
  pub desk : DeskView N
  pub out : SinkView

-- the status of a turn so far and one more sync: that of the first that did not end well
abbrev pub first_of : ℕ → ℕ → ℕ
first_of status ended = if status == 0 then ended else status

-- the list of jobs was found, and an index of each
abbrev pub ListsSo : Contents → Result (List Job) Fault → Type 0
ListsSo c (Ok jobs) = (jobs_found (text_at c jobs_name) ≡ Ok jobs) × All (HasIndex c) jobs
ListsSo c (Err e) = Unlisted c e

module _ {N : Type 0} (links : N → DialView) (shows : ℕ → Type 0) where
  -- a job is synced once, and its line printed, or that memory was wanting for it; the status is 1 where the sink failed
  pub record JobRuns (job : Job) (before after : RunView N) (status : ℕ) : Type 0 where
    pub done : Result Synced Fault
    pub synced : SyncsListed links shows Any job before.own.told after.own.told before.desk after.desk done
    pub keeps : OwnKeeps before.own after.own before.desk after.desk done
    pub prints : Prints (line_printed (job_line job.lib done)) before.out after.out status

  -- each job once, in order, `status` being that of the jobs before. Where the sink failed all ends
  pub data TurnSo : List Job → (status : ℕ) → (before after : RunView N) → ℕ → Type 0 where
    none : (v : RunView N) (status : ℕ) → TurnSo [] status v v status
    next : (job : Job) (jobs : List Job) (before mid after : RunView N) (status ended last : ℕ) → JobRuns job before mid ended → mid.out.faults ≡ before.out.faults
        → TurnSo jobs (first_of status ended) mid after last → TurnSo (job ∷ jobs) status before after last
    stopped : (job : Job) (jobs : List Job) (before after : RunView N) (status : ℕ) → JobRuns job before after 1 → Rose before.out.faults after.out.faults
        → TurnSo (job ∷ jobs) status before after 1

  -- turn after turn, `status` being that of the turn before: the last turn's is that of all
  pub data TurnsSo (jobs : List Job) : ℕ → (status : ℕ) → (before after : RunView N) → ℕ → Type 0 where
    over : (v : RunView N) (status : ℕ) → TurnsSo jobs 0 status v v status
    more : (turns : ℕ) (before mid after : RunView N) (status ended last : ℕ) → TurnSo jobs 0 before mid ended → mid.out.faults ≡ before.out.faults
        → TurnsSo jobs turns ended mid after last → TurnsSo jobs (suc turns) status before after last
    ended_early : (turns : ℕ) (before after : RunView N) (status : ℕ) → TurnSo jobs 0 before after 1 → Rose before.out.faults after.out.faults
        → TurnsSo jobs (suc turns) status before after 1

  -- of a call that hands the sink's fault on
  abbrev pub RunsBy : Job → (before after : RunView N) → Result ℕ LinkFailed → Type 0
  RunsBy job before after (Ok status) = JobRuns job before after status × (after.out.faults ≡ before.out.faults)
  RunsBy job before after (Err failed) = JobRuns job before after 1 × Rose before.out.faults after.out.faults

  abbrev pub TurnBy : List Job → (before after : RunView N) → Result ℕ LinkFailed → Type 0
  TurnBy jobs before after (Ok status) = TurnSo jobs 0 before after status × (after.out.faults ≡ before.out.faults)
  TurnBy jobs before after (Err failed) = TurnSo jobs 0 before after 1 × Rose before.out.faults after.out.faults

  -- the list of jobs, and an index of each, are found first, or the fault is printed; then the jobs are synced, as their lines come
  pub data RunsListed (turns : ℕ) (before after : RunView N) (status : ℕ) : Type 0 where
    unlisted : (e : Fault) → ((c : Contents) → before.own.told ≡ Some c → ListsSo c (Err e)) → after.own.told ≡ before.own.told → after.desk ≡ before.desk
        → OwnKeeps {T = List Job} before.own after.own before.desk after.desk (Err e) → Prints (line_printed (line.Fault e)) before.out after.out status
        → RunsListed turns before after status
    ran : (jobs : List Job) → ((c : Contents) → before.own.told ≡ Some c → ListsSo c (Ok jobs))
        → TurnsSo jobs turns 0 before after status → RunsListed turns before after status

  -- all of it, with the client's own folder
  pub data StartsSo (conf : List ℕ) (turns : ℕ) (old new : DeskView N) (before after : SinkView) (status : ℕ) : Type 0 where
    unopened : (e : Fault) → LacksFolder old new e → DeskKeeps {T = ⊤} old new (Err e) → Prints (line_printed (line.Fault e)) before after status
        → StartsSo conf turns old new before after status
    opened : (own kept : OwnView) (begun ended : DeskView N) → TakesFolder conf own old begun
        → RunsListed turns (record { own = own; desk = begun; out = before }) (record { own = kept; desk = ended; out = after }) status
        → GivesFolder conf kept ended new → StartsSo conf turns old new before after status

-- ---- which faults are told

module _ {N : Type 0} {links : N → DialView} {shows : ℕ → Type 0} where
  -- a line of the turn told this fault
  abbrev pub TurnTells : (jobs : List Job) (status : ℕ) (before after : RunView N) (last : ℕ) → Fault → TurnSo links shows jobs status before after last → Type 0
  TurnTells _ _ _ _ _ f (none v status) = ⊥
  TurnTells _ _ _ _ _ f (next job jobs before mid after status ended last runs same rest) = (runs.done ≡ Err f) ⊎ TurnTells jobs (first_of status ended) mid after last f rest
  TurnTells _ _ _ _ _ f (stopped job jobs before after status runs rose) = runs.done ≡ Err f

  -- or one of some turns
  abbrev pub TurnsTell : (jobs : List Job) (turns status : ℕ) (before after : RunView N) (last : ℕ) → Fault → TurnsSo links shows jobs turns status before after last → Type 0
  TurnsTell jobs _ _ _ _ _ f (over v status) = ⊥
  TurnsTell jobs _ _ _ _ _ f (more turns before mid after status ended last turn same rest) = TurnTells jobs 0 before mid ended f turn ⊎ TurnsTell jobs turns ended mid after last f rest
  TurnsTell jobs _ _ _ _ _ f (ended_early turns before after status turn rose) = TurnTells jobs 0 before after 1 f turn

  abbrev pub ListedTells : (turns : ℕ) (before after : RunView N) (status : ℕ) → Fault → RunsListed links shows turns before after status → Type 0
  ListedTells turns before after status f (unlisted e lists own desk keeps prints) = e ≡ f
  ListedTells turns before after status f (ran jobs lists goes) = TurnsTell jobs turns 0 before after status f goes

  -- a line of `start` told it
  abbrev pub StartTells : (conf : List ℕ) (turns : ℕ) (old new : DeskView N) (before after : SinkView) (status : ℕ) → Fault → StartsSo links shows conf turns old new before after status → Type 0
  StartTells conf turns old new before after status f (unopened e lacks keeps prints) = e ≡ f
  StartTells conf turns old new before after status f (opened own kept begun ended takes runs gives) =
      ListedTells turns (record { own = own; desk = begun; out = before }) (record { own = kept; desk = ended; out = after }) status f runs

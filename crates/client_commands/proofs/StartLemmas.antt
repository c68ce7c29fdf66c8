-- Turns of syncs, from one job to the next and from one turn to the next. The key lemmas are job_at, turn_more, turn_stops, turn_all, turns_more,
-- turns_stop, turns_all, same_start and runs_by.
use Rattle.std.proofs.Common.{◌≡◌, ◌+◌, ◌-◌, ◌<◌, ◌≤◌, inl, inr, ℕ, suc, List, length, drop, get_or, Option, Result, Ok, Err, refl, sym, ap₂, subst, ◌∙◌, arith}
use Rattle.std.proofs.lemmas.List.{drop_all}
use Rattle.std.proofs.lemmas.List.Elements.{All-get_or}
use Rattle.ids.specs.FaultCount.{Rose}
use Rattle.folder_side.specs.Folder.{Contents}
use Rattle.http_front.specs.declared.link.LinkFailed.{LinkFailed}
use Rattle.sync_rules.specs.declared.synced.Synced.{Synced}
use Rattle.http_client.specs.RequestText.{IsHost}
use Rattle.client_words.specs.JobWriting.{AreJobs, IsJob}
use Rattle.client_words.specs.declared.fault.Fault.{Fault}
use Rattle.client_words.specs.declared.job.Job.{Job}
use Rattle.client_words.specs.declared.line.Line.{Line}
use Rattle.client_commands.specs.Keeping.{OwnKeeps}
use Rattle.client_commands.specs.KeptSyncs.{SyncsListed, job_line}
use Rattle.client_commands.specs.Printing.{PrintsBy, Prints, in_part, line_printed, whole}
use Rattle.client_commands.specs.Starts.{JobRuns, RunView, RunsBy, TurnBy, TurnSo, TurnsSo, ended_early, first_of, more, next, none, over, stopped}
use Rattle.client_commands.specs.Views.{DeskView, DialView, OwnView, SinkView}
use Rattle.client_commands.specs.declared.wanted.Wanted.TheVariants.{Any}
use Rattle.client_commands.proofs.StatusLemmas.{next_left}
use Rattle.client_commands.proofs.WordLemmas.{job_host}

-- a job of a list has the name of a host
pub job_at : (jobs : List Job) (i : ℕ) (job : Job) → AreJobs jobs → i < length jobs → job ≡ get_or jobs i job → IsHost job.host
job_at jobs i job are within is = job_host job (subst IsJob (sym is) (All-get_or IsJob jobs i job within are.forms))

-- ---- the line of a job

module _ {N : Type 0} (links : N → DialView) (shows : ℕ → Type 0) (job : Job) (own kept : OwnView) (old new : DeskView N) (before after : SinkView) (done : Result Synced Fault)
    (synced : SyncsListed links shows Any job own.told kept.told old new done) (keeps : OwnKeeps own kept old new done) (l : Line) (is : l ≡ job_line job.lib done) where
  abbrev started : RunView N
  started = record { own = own; desk = old; out = before }

  abbrev over_now : RunView N
  over_now = record { own = kept; desk = new; out = after }

  with_prints : (status : ℕ) → Prints (line_printed l) before after status → JobRuns links shows job started over_now status
  with_prints status prints =
      record { done = done; synced = synced; keeps = keeps; prints = subst (λ (m : Line). Prints (line_printed m) before after status) is prints }

  pub runs_by : (r : Result ℕ LinkFailed) → PrintsBy (line_printed l) before after r → RunsBy links shows job started over_now r
  runs_by (Ok status) (inl puts) = (with_prints status (inl (whole puts.0 puts.1 puts.2)), puts.1)
  runs_by (Ok status) (inr puts) = (with_prints status (inr (whole puts.0 puts.1 puts.2)), puts.1)
  runs_by (Err failed) (inl puts) = (with_prints 1 (inl (in_part puts.0 puts.1 refl)), puts.1)
  runs_by (Err failed) (inr puts) = (with_prints 1 (inr (in_part puts.0 puts.1 refl)), puts.1)

abbrev own_of : Option Contents → ℕ → OwnView
own_of told faults = record { told = told; faults = faults }

module _ {N : Type 0} (links : N → DialView) (shows : ℕ → Type 0) (jobs : List Job) where
  -- ---- one turn: what is left of it, from where it is, is left of all

  pub record TurnLeft (place status : ℕ) (start now : RunView N) : Type 0 where
    pub so : (after : RunView N) (last : ℕ) → TurnSo links shows (drop place jobs) status now after last → TurnSo links shows jobs 0 start after last
    pub out_stays : now.out.faults ≡ start.out.faults

  pub turn_begins : (start : RunView N) → TurnLeft 0 0 start start
  turn_begins start = record { so = λ after last rest. rest; out_stays = refl }

  module _ (place status : ℕ) (start now : RunView N) (left : TurnLeft place status start now) where
    pub turn_more : (job : Job) (ended so_far : ℕ) (later : RunView N) → place < length jobs → job ≡ get_or jobs place job → RunsBy links shows job now later (Ok ended)
        → so_far ≡ first_of status ended → TurnLeft (place + 1) so_far start later
    turn_more job ended so_far later within is runs goes = record {
      so = λ after last rest.
          left.so after last
          (subst (λ (js : List Job). TurnSo links shows js status now after last) (sym (next_left jobs place job within is))
          (next job (drop (place + 1) jobs) now later after status ended last runs.0 runs.1
          (subst (λ (s : ℕ). TurnSo links shows (drop (place + 1) jobs) s later after last) goes rest)));
      out_stays = runs.1 ∙ left.out_stays;
    }

    pub turn_stops : (job : Job) (failed : LinkFailed) (later : RunView N) → place < length jobs → job ≡ get_or jobs place job → RunsBy links shows job now later (Err failed)
        → TurnBy links shows jobs start later (Err failed)
    turn_stops job failed later within is runs = (
      left.so later 1
          (subst (λ (js : List Job). TurnSo links shows js status now later 1) (sym (next_left jobs place job within is))
          (stopped job (drop (place + 1) jobs) now later status runs.0 runs.1)),
      subst (λ (n : ℕ). Rose n later.out.faults) left.out_stays runs.1,
    )

    pub turn_all : length jobs ≤ place → TurnBy links shows jobs start now (Ok status)
    turn_all past = (left.so now status (subst (λ (js : List Job). TurnSo links shows js status now now status) (sym (drop_all place jobs past)) (none now status)), left.out_stays)

  -- ---- all turns

  pub record TurnsLeft (turns left status : ℕ) (start now : RunView N) : Type 0 where
    pub so : (after : RunView N) (last : ℕ) → TurnsSo links shows jobs left status now after last → TurnsSo links shows jobs turns 0 start after last

  pub turns_begin : (turns : ℕ) (start : RunView N) → TurnsLeft turns turns 0 start start
  turns_begin turns start = record { so = λ after last rest. rest }

  module _ (turns left status : ℕ) (start now : RunView N) (goes : TurnsLeft turns left status start now) (some : 0 < left) where
    one_more : suc (left - 1) ≡ left
    one_more = omega (arith, some)

    pub turns_more : (ended : ℕ) (later : RunView N) → TurnBy links shows jobs now later (Ok ended) → TurnsLeft turns (left - 1) ended start later
    turns_more ended later turn = record {
      so = λ after last rest.
          goes.so after last
          (subst (λ (n : ℕ). TurnsSo links shows jobs n status now after last) one_more (more (left - 1) now later after status ended last turn.0 turn.1 rest));
    }

    pub turns_stop : (failed : LinkFailed) (later : RunView N) → TurnBy links shows jobs now later (Err failed) → TurnsSo links shows jobs turns 0 start later 1
    turns_stop failed later turn =
        goes.so later 1 (subst (λ (n : ℕ). TurnsSo links shows jobs n status now later 1) one_more (ended_early (left - 1) now later status turn.0 turn.1))

  pub turns_all : (turns left status : ℕ) (start now : RunView N) → TurnsLeft turns left status start now → left ≡ 0 → TurnsSo links shows jobs turns 0 start now status
  turns_all turns left status start now goes no_more =
      goes.so now status (subst (λ (n : ℕ). TurnsSo links shows jobs n status now now status) (sym no_more) (over now status))

  -- ---- the client's own folder was looked at before, and is as it was

  pub same_start : (turns status : ℕ) (own looked : OwnView) (desk : DeskView N) (out : SinkView) (after : RunView N) → looked.told ≡ own.told → looked.faults ≡ own.faults
      → TurnsSo links shows jobs turns 0 (record { own = looked; desk = desk; out = out }) after status → TurnsSo links shows jobs turns 0 (record { own = own; desk = desk; out = out }) after status
  same_start turns status own looked desk out after told faults goes =
      let same : looked ≡ own = ap₂ own_of told faults in
      subst (λ (o : OwnView). TurnsSo links shows jobs turns 0 (record { own = o; desk = desk; out = out }) after status) same goes

-- A fault that a line of `start` tells comes with a count that rose since the call began. The key lemma is start_rose.
use Rattle.std.proofs.Common.{◌≡◌, inl, inr, ℕ, List, Result, Err, IfErr, refl, subst}
use Rattle.std.specs.Prelude.{⊤}
use Rattle.sync_rules.specs.declared.synced.Synced.{Synced}
use Rattle.client_words.specs.declared.fault.Fault.{Fault}
use Rattle.client_words.specs.declared.job.Job.{Job}
use Rattle.client_commands.specs.Keeping.{DeskKeeps, NoneFell, RoseFor, RoseForOwn}
use Rattle.client_commands.specs.Starts.{JobRuns, ListedTells, RunView, RunsListed, StartTells, StartsSo, TurnSo, TurnTells, TurnsSo, TurnsTell, ended_early, first_of, more, next, none, opened, over, ran, stopped, unlisted, unopened}
use Rattle.client_commands.specs.Views.{DeskView, DialView, OwnView, SinkView}
use Rattle.client_commands.proofs.CountLemmas.{rose_before, rose_later}
use Rattle.client_commands.proofs.KeepLemmas.{fell_none, fell_then, kept_out}

-- ---- a count that rose in a part of a call

module _ {N : Type 0} (a b c : OwnView) (x y z : DeskView N) (f : Fault) where
  rose_after : NoneFell a b x y → RoseForOwn b c y z f → RoseForOwn a c x z f
  rose_after fell rose = record {
    folder = λ is. elim (rose.folder is) [
      | inl own ↦ inl (rose_later a.faults b.faults c.faults fell.own_folder own)
      | inr desk ↦ inr (rose_later x.folder_faults y.folder_faults z.folder_faults fell.folders desk)
    ];
    link = λ is. rose_later x.dial_faults y.dial_faults z.dial_faults fell.dials (rose.link is);
  }

  rose_first : RoseForOwn a b x y f → NoneFell b c y z → RoseForOwn a c x z f
  rose_first rose fell = record {
    folder = λ is. elim (rose.folder is) [
      | inl own ↦ inl (rose_before a.faults b.faults c.faults own fell.own_folder)
      | inr desk ↦ inr (rose_before x.folder_faults y.folder_faults z.folder_faults desk fell.folders)
    ];
    link = λ is. rose_before x.dial_faults y.dial_faults z.dial_faults (rose.link is) fell.dials;
  }

module _ {N : Type 0} (links : N → DialView) (shows : ℕ → Type 0) where
  job_rose : (job : Job) (before after : RunView N) (status : ℕ) (runs : JobRuns links shows job before after status) (f : Fault) → runs.done ≡ Err f
      → RoseForOwn before.own after.own before.desk after.desk f
  job_rose job before after status runs f told =
      subst (λ (done : Result Synced Fault). IfErr done (λ (e : Fault). RoseForOwn before.own after.own before.desk after.desk e)) told runs.keeps.rose

  turn_fell : (jobs : List Job) (status : ℕ) (before after : RunView N) (last : ℕ) → TurnSo links shows jobs status before after last → NoneFell before.own after.own before.desk after.desk
  turn_fell _ _ _ _ _ (none v status) = fell_none v.own v.own v.desk v.desk refl refl
  turn_fell _ _ _ _ _ (next job jobs before mid after status ended last runs same rest) =
      fell_then before.own mid.own after.own before.desk mid.desk after.desk runs.keeps.fell (turn_fell jobs (first_of status ended) mid after last rest)
  turn_fell _ _ _ _ _ (stopped job jobs before after status runs rose) = runs.keeps.fell

  turn_rose : (jobs : List Job) (status : ℕ) (before after : RunView N) (last : ℕ) (f : Fault) (turn : TurnSo links shows jobs status before after last)
      → TurnTells jobs status before after last f turn → RoseForOwn before.own after.own before.desk after.desk f
  turn_rose _ _ _ _ _ f (none v status) told = absurd told
  turn_rose _ _ _ _ _ f (next job jobs before mid after status ended last runs same rest) (inl told) =
      rose_first before.own mid.own after.own before.desk mid.desk after.desk f (job_rose job before mid ended runs f told) (turn_fell jobs (first_of status ended) mid after last rest)
  turn_rose _ _ _ _ _ f (next job jobs before mid after status ended last runs same rest) (inr later) =
      rose_after before.own mid.own after.own before.desk mid.desk after.desk f runs.keeps.fell (turn_rose jobs (first_of status ended) mid after last f rest later)
  turn_rose _ _ _ _ _ f (stopped job jobs before after status runs rose) told = job_rose job before after 1 runs f told

  turns_fell : (jobs : List Job) (turns status : ℕ) (before after : RunView N) (last : ℕ) → TurnsSo links shows jobs turns status before after last
      → NoneFell before.own after.own before.desk after.desk
  turns_fell jobs _ _ _ _ _ (over v status) = fell_none v.own v.own v.desk v.desk refl refl
  turns_fell jobs _ _ _ _ _ (more turns before mid after status ended last turn same rest) =
      fell_then before.own mid.own after.own before.desk mid.desk after.desk (turn_fell jobs 0 before mid ended turn) (turns_fell jobs turns ended mid after last rest)
  turns_fell jobs _ _ _ _ _ (ended_early turns before after status turn rose) = turn_fell jobs 0 before after 1 turn

  turns_rose : (jobs : List Job) (turns status : ℕ) (before after : RunView N) (last : ℕ) (f : Fault) (goes : TurnsSo links shows jobs turns status before after last)
      → TurnsTell jobs turns status before after last f goes → RoseForOwn before.own after.own before.desk after.desk f
  turns_rose jobs _ _ _ _ _ f (over v status) told = absurd told
  turns_rose jobs _ _ _ _ _ f (more turns before mid after status ended last turn same rest) (inl told) =
      rose_first before.own mid.own after.own before.desk mid.desk after.desk f (turn_rose jobs 0 before mid ended f turn told) (turns_fell jobs turns ended mid after last rest)
  turns_rose jobs _ _ _ _ _ f (more turns before mid after status ended last turn same rest) (inr later) =
      rose_after before.own mid.own after.own before.desk mid.desk after.desk f (turn_fell jobs 0 before mid ended turn) (turns_rose jobs turns ended mid after last f rest later)
  turns_rose jobs _ _ _ _ _ f (ended_early turns before after status turn rose) told = turn_rose jobs 0 before after 1 f turn told

  listed_fell : (turns : ℕ) (before after : RunView N) (status : ℕ) → RunsListed links shows turns before after status → NoneFell before.own after.own before.desk after.desk
  listed_fell turns before after status (unlisted e lists own desk keeps puts) = keeps.fell
  listed_fell turns before after status (ran jobs lists goes) = turns_fell jobs turns 0 before after status goes

  listed_rose : (turns : ℕ) (before after : RunView N) (status : ℕ) (f : Fault) (runs : RunsListed links shows turns before after status) → ListedTells turns before after status f runs
      → RoseForOwn before.own after.own before.desk after.desk f
  listed_rose turns before after status f (unlisted e lists own desk keeps puts) told = subst (λ (g : Fault). RoseForOwn before.own after.own before.desk after.desk g) told keeps.rose
  listed_rose turns before after status f (ran jobs lists goes) told = turns_rose jobs turns 0 before after status f goes told

  pub start_rose : (conf : List ℕ) (turns : ℕ) (old new : DeskView N) (before after : SinkView) (status : ℕ) (f : Fault) (starts : StartsSo links shows conf turns old new before after status)
      → StartTells conf turns old new before after status f starts → RoseFor old new f
  start_rose conf turns old new before after status f (unopened e lacks keeps puts) told = subst (λ (g : Fault). RoseFor old new g) told keeps.rose
  start_rose conf turns old new before after status f (opened own kept begun ended takes runs gives) told =
      let first : RunView N = record { own = own; desk = begun; out = before } in
      let last : RunView N = record { own = kept; desk = ended; out = after } in
      let keeps : DeskKeeps {T = ⊤} old new (Err f)
      = kept_out conf own kept old begun ended new takes gives {T = ⊤} (Err f) (record { fell = listed_fell turns first last status runs; rose = listed_rose turns first last status f runs told }) in
      keeps.rose

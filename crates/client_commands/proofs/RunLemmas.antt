-- What the top call printed, and that 2 is the status of a refusal alone. The key lemmas are refused_alone, refused_never, help_put and version_put.
use Rattle.std.proofs.Common.{◌≡◌, ◌==◌, inl, inr, ℕ, Bool, true, false, cond, List, Some, Result, Ok, Err, sym, subst, ◌∙◌}
use Rattle.std.specs.Prelude.{⊤}
use Rattle.std.specs.Io.KnownBytes.{append_known}
use Rattle.sync_rules.specs.declared.synced.Synced.{Synced}
use Rattle.client_words.specs.Help.{help_text, version_text}
use Rattle.client_words.specs.Lines.{fault_status}
use Rattle.client_words.specs.declared.fault.Fault.{Fault}
use Rattle.client_words.specs.declared.fault.Fault.TheVariants as fault
use Rattle.client_words.specs.declared.job.Job.{Job}
use Rattle.client_words.specs.declared.line.Line.{Line}
use Rattle.client_words.specs.declared.line.Line.TheVariants as line
use Rattle.client_words.specs.declared.words.Words.{Words}
use Rattle.client_commands.specs.KeptSyncs.{job_line}
use Rattle.client_commands.specs.Printing.{Printed, Prints, Puts, in_part, line_printed, no_memory_printed, whole}
use Rattle.client_commands.specs.Runs.{RunsSo, begins, begun_line, desynced_line, desyncs, downloads, listed_printed, lists, printed_for, prints, starts, syncs, tells, unread}
use Rattle.client_commands.specs.Starts.{JobRuns, RunView, RunsListed, StartsSo, TurnSo, TurnsSo, ended_early, first_of, more, next, none, opened, over, ran, stopped, unlisted, unopened}
use Rattle.client_commands.specs.Views.{DeskView, DialView, SinkView}

-- ---- what was put of a text that is lent

pub help_put : (text : List ℕ) (before now : SinkView) (status : ℕ) → text ≡ help_text → Puts (record { text = text; status = 0 }) before now status → Puts (record { text = help_text; status = 0 }) before now status
help_put text before now status is puts = subst (λ (t : List ℕ). Puts (record { text = t; status = 0 }) before now status) is puts

pub version_put : (text : List ℕ) (before now : SinkView) (status : ℕ) → text ≡ version_text → Puts (record { text = text; status = 0 }) before now status → Puts (record { text = version_text; status = 0 }) before now status
version_put text before now status is puts = subst (λ (t : List ℕ). Puts (record { text = t; status = 0 }) before now status) is puts

-- ---- no other line than that of a refusal has the status 2

no_fault : (f : Fault) → fault_status f ≡ 2 → ⊥
no_fault fault.NoMemory e = cc
no_fault other e = cc

never_put : (printed : Printed) (before now : SinkView) (status : ℕ) → (printed.status ≡ 2 → ⊥) → Puts printed before now status → status ≡ 2 → ⊥
never_put printed before now status never (whole put kept code) two = never (sym code ∙ two)
never_put printed before now status never (in_part front rose one) two = cc

pub refused_never : (before now : SinkView) (status : ℕ) → Puts no_memory_printed before now status → status ≡ 2 → ⊥
refused_never before now status puts two = never_put no_memory_printed before now status (λ (e : 3 ≡ 2). cc) puts two

never : (printed : Printed) (before now : SinkView) (status : ℕ) → (printed.status ≡ 2 → ⊥) → Prints printed before now status → status ≡ 2 → ⊥
never printed before now status other (inl puts) two = never_put printed before now status other puts two
never printed before now status other (inr puts) two = refused_never before now status puts two

begun_never : (done : Result ⊤ Fault) → (line_printed (begun_line done)).status ≡ 2 → ⊥
begun_never (Ok u) e = cc
begun_never (Err f) e = no_fault f e

desynced_never : (done : Result (List ℕ) Fault) → (line_printed (desynced_line done)).status ≡ 2 → ⊥
desynced_never (Ok lib) e = cc
desynced_never (Err f) e = no_fault f e

listed_never : (done : Result (List Line) Fault) → (listed_printed done).status ≡ 2 → ⊥
listed_never (Ok lines) e = cc
listed_never (Err f) e = no_fault f e

synced_never : (lib : List ℕ) (done : Result Synced Fault) → (line_printed (job_line lib done)).status ≡ 2 → ⊥
synced_never lib (Ok s) e = cc
synced_never lib (Err f) e = no_fault f e

-- what is put with the status 2 is the line of a refusal
refused_by : (asked : Words) (printed : Printed) (before now : SinkView) (status : ℕ) → printed_for asked ≡ Some printed → Prints printed before now status → status ≡ 2
    → (p : Printed) × (printed_for asked ≡ Some p) × (p.status ≡ 2) × (now.given ≡ append_known before.given p.text)
refused_by asked printed before now status is (inl (whole put kept code)) two = (printed, is, sym code ∙ two, put)
refused_by asked printed before now status is (inl (in_part front rose one)) two = let bad : ⊥ = cc in absurd bad
refused_by asked printed before now status is (inr puts) two = absurd (refused_never before now status puts two)

-- ---- nor has any turn

first_never : (status ended : ℕ) → (status ≡ 2 → ⊥) → (ended ≡ 2 → ⊥) → first_of status ended ≡ 2 → ⊥
first_never status ended other later two = by (status == 0) two
  where
    by : (b : Bool) → cond b ended status ≡ 2 → ⊥
    by true two = later two
    by false two = other two

module _ {N : Type 0} (links : N → DialView) (shows : ℕ → Type 0) where
  run_never : (job : Job) (before after : RunView N) (ended : ℕ) → JobRuns links shows job before after ended → ended ≡ 2 → ⊥
  run_never job before after ended runs two = never (line_printed (job_line job.lib runs.done)) before.out after.out ended (synced_never job.lib runs.done) runs.prints two

  turn_never : (jobs : List Job) (status : ℕ) (before after : RunView N) (last : ℕ) → (status ≡ 2 → ⊥) → TurnSo links shows jobs status before after last → last ≡ 2 → ⊥
  turn_never _ _ _ _ _ other (none v status) two = other two
  turn_never _ _ _ _ _ other (next job jobs before mid after status ended last runs same rest) two =
      turn_never jobs (first_of status ended) mid after last (first_never status ended other (run_never job before mid ended runs)) rest two
  turn_never _ _ _ _ _ other (stopped job jobs before after status runs rose) two = cc

  turns_never : (jobs : List Job) (turns status : ℕ) (before after : RunView N) (last : ℕ) → (status ≡ 2 → ⊥) → TurnsSo links shows jobs turns status before after last → last ≡ 2 → ⊥
  turns_never jobs _ _ _ _ _ other (over v status) two = other two
  turns_never jobs _ _ _ _ _ other (more turns before mid after status ended last turn same rest) two =
      turns_never jobs turns ended mid after last (turn_never jobs 0 before mid ended (λ (e : 0 ≡ 2). cc) turn) rest two
  turns_never jobs _ _ _ _ _ other (ended_early turns before after status turn rose) two = cc

  listed_runs_never : (turns : ℕ) (before after : RunView N) (status : ℕ) → RunsListed links shows turns before after status → status ≡ 2 → ⊥
  listed_runs_never turns before after status (unlisted e why own desk keeps puts) two = never (line_printed (line.Fault e)) before.out after.out status (no_fault e) puts two
  listed_runs_never turns before after status (ran jobs found goes) two = turns_never jobs turns 0 before after status (λ (e : 0 ≡ 2). cc) goes two

  start_never : (conf : List ℕ) (turns : ℕ) (old new : DeskView N) (before after : SinkView) (status : ℕ) → StartsSo links shows conf turns old new before after status → status ≡ 2 → ⊥
  start_never conf turns old new before after status (unopened e lacks keeps puts) two = never (line_printed (line.Fault e)) before after status (no_fault e) puts two
  start_never conf turns old new before after status (opened own kept begun ended takes runs gives) two =
      listed_runs_never turns (record { own = own; desk = begun; out = before }) (record { own = kept; desk = ended; out = after }) status runs two

  pub refused_alone : (asked : Words) (old new : DeskView N) (before now : SinkView) (status : ℕ) → RunsSo links shows asked old new before now status → status ≡ 2
      → (p : Printed) × (printed_for asked ≡ Some p) × (p.status ≡ 2) × (now.given ≡ append_known before.given p.text)
  refused_alone asked old new before now status (begins conf is goes) two =
      absurd (never (line_printed (begun_line goes.result)) before now status (begun_never goes.result) goes.prints two)
  refused_alone asked old new before now status (lists conf is goes) two = absurd (never (listed_printed goes.result) before now status (listed_never goes.result) goes.prints two)
  refused_alone asked old new before now status (tells conf is goes) two = absurd (never (listed_printed goes.result) before now status (listed_never goes.result) goes.prints two)
  refused_alone asked old new before now status (downloads conf job is goes) two =
      absurd (never (line_printed (job_line job.lib goes.result)) before now status (synced_never job.lib goes.result) goes.prints two)
  refused_alone asked old new before now status (syncs conf job is goes) two =
      absurd (never (line_printed (job_line job.lib goes.result)) before now status (synced_never job.lib goes.result) goes.prints two)
  refused_alone asked old new before now status (desyncs conf dir is goes) two =
      absurd (never (line_printed (desynced_line goes.result)) before now status (desynced_never goes.result) goes.prints two)
  refused_alone asked old new before now status (starts conf turns is goes) two = absurd (start_never conf turns old new before now status goes two)
  refused_alone asked old new before now status (prints printed is same puts) two = refused_by asked printed before now status is puts two
  refused_alone asked old new before now status (unread same puts) two = absurd (refused_never before now status puts two)

-- What the theorems on the rules say of one call or one turn. The key lemmas are by_step, by_turn, files_stay, safe_stays,
-- tells_safe and takes_uploaded.
use Rattle.std.proofs.Common.{◌≡◌, ◌≢◌, inl, inr, ℕ, List, [], ◌∷◌, refl, sym, ◌∙◌, subst}
use Rattle.ids.specs.declared.key.Key.{Key}
use Rattle.library_state.specs.declared.call.Act.{Act}
use Rattle.library_state.specs.declared.call.Act.TheVariants as act
use Rattle.library_state.specs.declared.call.Call.{Call}
use Rattle.library_state.specs.declared.refusal.Refusal.{Refusal}
use Rattle.library_state.specs.declared.reply.Reply.{Reply}
use Rattle.library_state.specs.declared.reply.Reply.TheVariants as reply
use Rattle.object_graph.specs.Traversal.{needs}
use Rattle.library_rules.specs.Changes.{apply}
use Rattle.library_rules.specs.Files.{KeepsKept}
use Rattle.library_rules.specs.History.{Permits, StepSo, lone}
use Rattle.library_rules.specs.LateUpdates.{TakesUploaded}
use Rattle.library_rules.specs.LibraryState.{IsSound, State}
use Rattle.library_rules.specs.Turns.{IsRefusedTurn, TakesStep}
use Rattle.library_rules.specs.Uploads.{KeepsSafe, TellsSafe}
use Rattle.library_rules.specs.declared.entry.Entry.{Entry}
use Rattle.library_rules.specs.declared.entry.Step.{Step}
use Rattle.library_rules.specs.declared.entry.Step.TheVariants as step
use Rattle.library_rules.proofs.FileLemmas.{keeps_files}
use Rattle.library_rules.proofs.KeepingLemmas.{agrees_itself}
use Rattle.library_rules.proofs.StepLemmas.{agrees_after}
use Rattle.library_rules.proofs.UploadLateLemmas.{not_late}
use Rattle.library_rules.proofs.UploadSafeLemmas.{stays_safe}
use Rattle.library_rules.proofs.UploadToldLemmas.{asked_is_safe, put_is_safe}

-- ---- whatever holds after each permitted entry

-- after a step, be it an entry or a read
pub by_step : (s : State) (st : Step) (moment : ℕ) (r : Reply) (t : State) (es : List Entry) (P : State → Type 0) → StepSo s st moment r t es
    → ((e : Entry) → Permits s e → e.step ≡ st → e.reply ≡ r → P (apply s e)) → P t
by_step s st moment r t [] P (same, read) each = subst P (read.stays ∙ sym same) (each (lone s st moment r) read.permits refl refl)
by_step s st moment r t (e ∷ []) P enters each = subst P enters.state (each e enters.permitted.permits enters.is_step enters.answers)
by_step s st moment r t (e ∷ f ∷ es) P none each = absurd none

-- after a turn that takes a step
pub by_turn : (s : State) (st : Step) (moment : ℕ) (r : Reply) (removed : List Key) (t : State) (es : List Entry) (P : State → Type 0) → TakesStep s st moment r removed t es
    → ((e : Entry) → Permits s e → e.step ≡ st → P (apply s e)) → P t
by_turn s st moment r removed t es P takes each =
    subst P takes.enters.state (each takes.entry takes.enters.permitted.permits takes.enters.is_step)

-- after a turn that is refused
pub by_refused : (s : State) (moment : ℕ) (why : Refusal) (removed : List Key) (t : State) (es : List Entry) (P : State → Type 0) → IsRefusedTurn s moment why removed t es
    → ((e : Entry) → Permits s e → e.step ≡ step.Swept → P (apply s e)) → P t
by_refused s moment why removed t es P (inl takes) each = by_turn s step.Swept moment (reply.Refused why) removed t es P takes each
by_refused s moment why removed t es P (inr (none, takes)) each =
    subst P (takes.read.stays ∙ sym takes.same) (each (lone s step.Swept moment (reply.Refused why)) takes.read.permits refl)

-- ---- files

pub files_after : (s : State) (e : Entry) → IsSound s → Permits s e → KeepsKept s (apply s e)
files_after s e sound permits commit kept =
    keeps_files s.objects (apply s e).objects commit (sound.kept.complete commit kept) (agrees_after s e permits sound commit kept)

pub kept_itself : (s : State) → IsSound s → KeepsKept s s
kept_itself s sound commit kept = keeps_files s.objects s.objects commit (sound.kept.complete commit kept) (agrees_itself (needs s.objects commit) s.objects)

pub files_stay : (s : State) (st : Step) (moment : ℕ) (r : Reply) (t : State) (es : List Entry) → IsSound s → StepSo s st moment r t es → KeepsKept s t
files_stay s st moment r t es sound takes = by_step s st moment r t es (KeepsKept s) takes (λ e permits at answers. files_after s e sound permits)

-- ---- uploads

asked_no_begin : (e : Entry) (call : Call) → e.step ≡ step.Asked call → e.step ≢ step.Began
asked_no_begin e call asked began = let e : step.Asked call ≡ step.Began = sym asked ∙ began in cc

pub safe_stays : (s : State) (call : Call) (moment : ℕ) (r : Reply) (t : State) (es : List Entry) → IsSound s → StepSo s (step.Asked call) moment r t es → KeepsSafe s t
safe_stays s call moment r t es sound takes =
    by_step s (step.Asked call) moment r t es (KeepsSafe s) takes (λ e permits at answers. stays_safe s e sound permits (asked_no_begin e call at))

pub tells_safe : (s : State) (call : Call) (moment : ℕ) (r : Reply) (t : State) (es : List Entry) → StepSo s (step.Asked call) moment r t es → TellsSafe call.act r t
tells_safe s call moment r t es takes =
    by_step s (step.Asked call) moment r t es (TellsSafe call.act r) takes (λ e permits at answers. tells e permits at call.act refl r answers)
  where
    tells : (e : Entry) → Permits s e → e.step ≡ step.Asked call → (a : Act) → call.act ≡ a → (q : Reply) → e.reply ≡ q → TellsSafe a q (apply s e)
    tells e permits at (act.Put key bytes) acts (reply.Stored new) answers = put_is_safe s e call key bytes new permits at acts answers
    tells e permits at (act.Missing k ids) acts (reply.Absent listed) answers = asked_is_safe s e call k ids listed permits at acts answers
    tells e permits at a acts q answers = tt

pub takes_uploaded : (s : State) (call : Call) (moment : ℕ) (r : Reply) (t : State) (es : List Entry) → StepSo s (step.Asked call) moment r t es → TakesUploaded s call r
takes_uploaded s call moment r t es takes =
    by_step s (step.Asked call) moment r t es (λ _. TakesUploaded s call r) takes
    (λ e permits at answers token pushed updates known seen uploaded why late said. not_late s e call token pushed permits at updates known seen uploaded why late (answers ∙ said))

-- Of a refused call nothing stays but what it stored. The key lemma is refused_stays.
use Rattle.std.proofs.Common.{◌≡◌, ℕ, true, if◌then◌else◌, [], ap, subst, ◌∙◌}
use Rattle.library_state.specs.declared.call.Call.{Call}
use Rattle.library_state.specs.declared.reply.Reply.{Reply}
use Rattle.library_rules.specs.Changes.{apply, act_changes, counted, is_refused, moved, step_changes}
use Rattle.library_rules.specs.History.{StepPermits, Permits}
use Rattle.library_rules.specs.LibraryState.{State}
use Rattle.library_rules.specs.declared.entry.Entry.{Entry}
use Rattle.library_rules.specs.declared.entry.Step.{Step}
use Rattle.library_rules.specs.declared.entry.Step.TheVariants as step

pub step_refused : (moment : ℕ) (st : Step) (call : Call) (r : Reply) (s : State) → st ≡ step.Asked call → is_refused r ≡ true → step_changes moment st r s ≡ s
step_refused moment st call r s is refused =
    ap (λ st. step_changes moment st r s) is ∙ ap (λ b. if b then s else act_changes call.secret moment call.act r s) refused

refused_moved : (s : State) (e : Entry) (call : Call) → e.step ≡ step.Asked call → is_refused e.reply ≡ true → apply s e ≡ counted e.faults (moved s e.added e.removed)
refused_moved s e call is refused = ap (counted e.faults) (step_refused e.moment e.step call e.reply (moved s e.added e.removed) is refused)

pub refused_stays : (s : State) (e : Entry) (call : Call) → Permits s e → e.step ≡ step.Asked call → is_refused e.reply ≡ true → apply s e ≡ counted e.faults (moved s e.added [])
refused_stays s e call permits is refused =
    let asked : StepPermits s e (step.Asked call) = subst (StepPermits s e) is permits in
    refused_moved s e call is refused ∙ ap (λ removed. counted e.faults (moved s e.added removed)) asked.1

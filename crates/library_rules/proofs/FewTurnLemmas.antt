-- A collection has few turns. The key lemma is few_after.
use Rattle.std.proofs.Common.{◌≡◌, ◌⊎◌, inl, inr, ℕ, zero, suc, ◌+◌, ◌*◌, ◌≤◌, ◌<◌, Bool, true, false, if◌then◌else◌, List, [], ◌∷◌, refl, arith, zero-le, Option, None, Some, option_map}
use Rattle.ids.specs.declared.key.Key.{Key}
use Rattle.library_state.specs.declared.call.Act.{Act}
use Rattle.library_state.specs.declared.call.Act.TheVariants as act
use Rattle.library_state.specs.declared.reply.Reply.{Reply}
use Rattle.library_state.specs.declared.reply.Reply.TheVariants as reply
use Rattle.library_rules.specs.Answered.{Plain, Fails}
use Rattle.library_rules.specs.Calls.{keys_of}
use Rattle.library_rules.specs.Changes.{keys_added, fresher, moved, is_refused, told_by, stored_keys, act_changes, turn_counted, step_changes, apply}
use Rattle.library_rules.specs.CollectionSteps.{SweepPermits, HasFewTurns}
use Rattle.library_rules.specs.History.{StepPermits, Permits, Legal, after}
use Rattle.library_rules.specs.LibraryState.{State, Running}
use Rattle.library_rules.specs.declared.entry.Entry.{Entry}
use Rattle.library_rules.specs.declared.entry.Step.{Step}
use Rattle.library_rules.specs.declared.entry.Step.TheVariants as step
use Rattle.library_rules.proofs.BearsLemmas.{refused_not}

few_fresher : (keys : List Key) (running : Option Running) → HasFewTurns running → HasFewTurns (option_map (fresher keys) running)
few_fresher keys None few = few
few_fresher keys (Some r) few = few

few_act : (secret : Option (List ℕ)) (moment : ℕ) (a : Act) (r : Reply) (m : State) → HasFewTurns m.running → HasFewTurns (act_changes secret moment a r m).running
few_act secret moment (act.Check o) r m few = few
few_act secret moment act.Head r m few = few
few_act secret moment (act.Get key) r m few = few
few_act secret moment (act.Put key bytes) r m few = few_fresher (told_by key r) m.running few
few_act secret moment (act.Missing k ids) r m few = few_fresher (stored_keys m.objects (keys_of k ids)) m.running few
few_act secret moment (act.Update pushed) r m few = few
few_act secret moment (act.Limit days) r m few = few
few_act secret moment (act.Ids server client) r m few = few

-- the answer of a sweep that isn't refused
sweep_checked : (s : State) (e : Entry) → is_refused e.reply ≡ false → Plain s e reply.Checked ⊎ Fails s e → e.reply ≡ reply.Checked
sweep_checked s e goes (inl plain) = plain.reply
sweep_checked s e goes (inr fails) = absurd (refused_not e.reply fails.why fails.reply goes)

one_turn : (turned stored : ℕ) → turned < 2 * stored → turned + 1 ≤ 2 * stored
one_turn turned stored less = omega arith

few_swept : (s : State) (e : Entry) (keys : List Key) (running : Option Running) → SweepPermits s e running → HasFewTurns running
    → HasFewTurns (option_map (turn_counted (is_refused e.reply)) (option_map (fresher keys) running))
few_swept s e keys None p few = few
few_swept s e keys (Some r) p few = by (is_refused e.reply) refl
  where
    by : (b : Bool) → is_refused e.reply ≡ b → (if b then r.turned else r.turned + 1) ≤ 2 * r.stored
    by true is = few
    by false is = one_turn r.turned r.stored (p.few (sweep_checked s e is p.says))

few_step : (s : State) (e : Entry) (st : Step) → StepPermits s e st → HasFewTurns s.running
    → HasFewTurns (step_changes e.moment st e.reply (moved s e.added e.removed)).running
few_step s e (step.Asked call) p few = by (is_refused e.reply)
  where
    by : (b : Bool) → HasFewTurns (if b then moved s e.added e.removed else act_changes call.secret e.moment call.act e.reply (moved s e.added e.removed)).running
    by true = few_fresher (keys_added e.added) s.running few
    by false = few_act call.secret e.moment call.act e.reply (moved s e.added e.removed) (few_fresher (keys_added e.added) s.running few)
few_step s e step.Began p few = zero-le
few_step s e step.Swept p few = few_swept s e (keys_added e.added) s.running p.0 few
few_step s e step.Ended p few = tt

pub few_apply : (s : State) (e : Entry) → Permits s e → HasFewTurns s.running → HasFewTurns (apply s e).running
few_apply s e p few = few_step s e e.step p few

pub few_after : (s : State) (es : List Entry) (n : ℕ) → Legal s es → HasFewTurns s.running → HasFewTurns (after s es n).running
few_after s es zero legal few = few
few_after s [] (suc n) legal few = few
few_after s (e ∷ es) (suc n) legal few = few_after (apply s e) es n legal.1 (few_apply s e legal.0.permits few)

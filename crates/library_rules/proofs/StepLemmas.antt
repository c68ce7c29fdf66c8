-- What one permitted entry does. The key lemmas are spares, objects_after, sound_apply and agrees_after.
use Rattle.std.proofs.Common.{◌≡◌, ◌⊎◌, inl, inr, ℕ, Bool, true, false, if◌then◌else◌, List, [], refl, sym, ap, ◌∙◌, subst, true≢false, Option, None, Some}
use Rattle.ids.specs.declared.key.Key.{Key}
use Rattle.library_state.specs.declared.call.Act.{Act}
use Rattle.library_state.specs.declared.reply.Reply.{Reply}
use Rattle.object_graph.specs.Traversal.{is_in, needs}
use Rattle.object_graph.specs.Unchanged.{AgreeOn}
use Rattle.library_rules.specs.Changes.{with_added, without, moved, is_refused, act_changes, step_changes, apply}
use Rattle.library_rules.specs.CollectionSteps.{SweepPermits}
use Rattle.library_rules.specs.History.{StepPermits, Permits}
use Rattle.library_rules.specs.LibraryState.{State, Running, is_kept, is_needed, is_fresh, IsSound}
use Rattle.library_rules.specs.declared.entry.Entry.{Entry}
use Rattle.library_rules.specs.declared.entry.Step.{Step}
use Rattle.library_rules.specs.declared.entry.Step.TheVariants as step
use Rattle.library_rules.proofs.BearsLemmas.{bears}
use Rattle.library_rules.proofs.KeepingLemmas.{agrees_moved}
use Rattle.library_rules.proofs.SoundLemmas.{sound_moved, sound_act, sound_begun, sound_swept, sound_ended, sound_counted}

-- what leaves is unneeded and isn't fresh, nothing leaves where no collection runs, and nothing comes where something leaves
pub record Spares (s : State) (e : Entry) : Type 0 where
  pub unneeded : (key : Key) → is_in e.removed key ≡ true → is_needed s.objects s.state.kept key ≡ false
  pub not_fresh : (key : Key) → is_in e.removed key ≡ true → is_fresh s.running key ≡ false
  pub idle : s.running ≡ None → e.removed ≡ []
  pub one : (e.added ≡ []) ⊎ (e.removed ≡ [])

nothing_leaves : (s : State) (e : Entry) → e.removed ≡ [] → Spares s e
nothing_leaves s e none = record { unneeded = λ key gone. never key gone; not_fresh = λ key gone. never key gone; idle = λ is. none; one = inr none }
  where
    never : {A : Type 0} → (key : Key) → is_in e.removed key ≡ true → A
    never key gone = absurd (true≢false (sym (subst (λ keys. is_in keys key ≡ true) none gone)))

pub step_spares : (s : State) (e : Entry) (st : Step) → StepPermits s e st → Spares s e
step_spares s e (step.Asked call) p = nothing_leaves s e p.1
step_spares s e step.Began p = nothing_leaves s e p.removes
step_spares s e step.Ended p = nothing_leaves s e p.removes
step_spares s e step.Swept p = by s.running refl p.0
  where
    by : (o : Option Running) → s.running ≡ o → SweepPermits s e o → Spares s e
    by None is sweeps = nothing_leaves s e sweeps.0
    by (Some running) is sweeps = record {
      unneeded = sweeps.unneeded;
      not_fresh = λ key gone. ap (λ o. is_fresh o key) is ∙ sweeps.not_fresh key gone;
      idle = λ never. cc;
      one = inl p.1;
    }

pub spares : (s : State) (e : Entry) → Permits s e → Spares s e
spares s e p = step_spares s e e.step p

-- ---- objects

pub act_objects : (secret : Option (List ℕ)) (moment : ℕ) (a : Act) (r : Reply) (m : State) → (act_changes secret moment a r m).objects ≡ m.objects
act_objects secret moment a r m = refl

pub step_objects : (moment : ℕ) (st : Step) (r : Reply) (m : State) → (step_changes moment st r m).objects ≡ m.objects
step_objects moment (step.Asked call) r m = by (is_refused r)
  where
    by : (b : Bool) → (if b then m else act_changes call.secret moment call.act r m).objects ≡ m.objects
    by true = refl
    by false = act_objects call.secret moment call.act r m
step_objects moment step.Began r m = refl
step_objects moment step.Swept r m = refl
step_objects moment step.Ended r m = refl

pub objects_after : (s : State) (e : Entry) → (apply s e).objects ≡ without (with_added s.objects e.added) e.removed
objects_after s e = step_objects e.moment e.step e.reply (moved s e.added e.removed)

-- ---- soundness

pub sound_entered : (s : State) (e : Entry) → Spares s e → IsSound s → IsSound (moved s e.added e.removed)
sound_entered s e spares sound = sound_moved s e.added e.removed spares.unneeded spares.not_fresh spares.one sound

sound_step : (s : State) (e : Entry) (st : Step) → StepPermits s e st → IsSound (moved s e.added e.removed) → IsSound (step_changes e.moment st e.reply (moved s e.added e.removed))
sound_step s e (step.Asked call) p sound = by (is_refused e.reply) refl
  where
    by : (b : Bool) → is_refused e.reply ≡ b
        → IsSound (if b then moved s e.added e.removed else act_changes call.secret e.moment call.act e.reply (moved s e.added e.removed))
    by true is = sound
    by false is = sound_act call.secret e.moment call.act e.reply (moved s e.added e.removed) (bears s e is p.1 call p.0) sound
sound_step s e step.Began p sound = sound_begun (moved s e.added e.removed) e.moment p.next sound
sound_step s e step.Swept p sound = sound_swept (moved s e.added e.removed) (is_refused e.reply) sound
sound_step s e step.Ended p sound = sound_ended (moved s e.added e.removed) sound

-- a permitted entry, and a read, keeps a sound state sound
pub sound_apply : (s : State) (e : Entry) → Permits s e → IsSound s → IsSound (apply s e)
sound_apply s e p sound =
    sound_counted (step_changes e.moment e.step e.reply (moved s e.added e.removed)) e.faults
    (sound_step s e e.step p (sound_entered s e (spares s e p) sound))

-- what a kept commit needs keeps its bytes
pub agrees_after : (s : State) (e : Entry) → Permits s e → IsSound s → (id : List ℕ) → is_kept s.state.kept id ≡ true → AgreeOn (needs s.objects id) s.objects (apply s e).objects
agrees_after s e p sound id is_one =
    subst (AgreeOn (needs s.objects id) s.objects) (sym (objects_after s e))
    (agrees_moved s.objects s.state.kept e.added e.removed id is_one (sound.kept.complete id is_one) (spares s e p).unneeded (spares s e p).one)

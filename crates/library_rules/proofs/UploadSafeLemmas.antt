-- Every step but a begin keeps a safe key safe. The key lemmas are needed_stays, covers_step and stays_safe.
use Rattle.std.proofs.Common.{◌≡◌, ◌≢◌, inl, inr, ℕ, Bool, true, false, cond, List, [], Option, None, Some, option_map, refl, ap, ◌∙◌}
use Rattle.std.specs.FinSet as set
use Rattle.std.proofs.lemmas.Bool.{and_parts, and_from, or_cases, or_left, or_right, false_from_ne_true}
use Rattle.ids.specs.declared.key.Key.{Key}
use Rattle.library_state.specs.declared.call.Act.{Act}
use Rattle.library_state.specs.declared.call.Act.TheVariants as act
use Rattle.library_state.specs.declared.reply.Reply.{Reply}
use Rattle.object_graph.specs.Traversal.{is_in, needs}
use Rattle.library_rules.specs.Calls.{keys_of}
use Rattle.library_rules.specs.Changes.{with_added, without, keys_added, fresher, told_by, stored_keys, moved, is_refused, act_changes, turn_counted, step_changes, apply}
use Rattle.library_rules.specs.CollectionSteps.{SweepPermits}
use Rattle.library_rules.specs.History.{StepPermits, Permits}
use Rattle.library_rules.specs.LibraryState.{State, Running, IsSound, kept_commits, is_stored, is_needed}
use Rattle.library_rules.specs.Uploads.{is_shielded, is_safe}
use Rattle.library_rules.specs.declared.entry.Entry.{Entry}
use Rattle.library_rules.specs.declared.entry.Step.{Step}
use Rattle.library_rules.specs.declared.entry.Step.TheVariants as step
use Rattle.library_rules.proofs.KeepingLemmas.{same_needs, agrees_moved, kept_needs, still_stored}
use Rattle.library_rules.proofs.MemberLemmas.{apart, in_all}
use Rattle.library_rules.proofs.RetriedLemmas.{kept_stays}
use Rattle.library_rules.proofs.StepLemmas.{objects_after, spares}
use Rattle.library_rules.proofs.ReopenedLemmas.{any_at}

-- ---- what is needed stays needed

needed_stays : (s : State) (e : Entry) → IsSound s → Permits s e → e.step ≢ step.Began → (key : Key) → is_needed s.objects s.state.kept key ≡ true → is_needed (apply s e).objects (apply s e).state.kept key ≡ true
needed_stays s e sound permits other key needed =
    let found = any_at (λ commit. is_in (needs s.objects commit) key) (kept_commits s.state.kept) needed in
    let id = found.id in
    let agree = agrees_moved s.objects s.state.kept e.added e.removed id found.among (sound.kept.complete id found.among) (spares s e permits).unneeded (spares s e permits).one in
    let B = without (with_added s.objects e.added) e.removed in
    let there : is_in (needs B id) key ≡ true = ap (λ keys. is_in keys key) (same_needs s.objects B id agree) ∙ found.passes in
    let kept = kept_stays s e id found.among (λ began. absurd (other began)) in
    ap (λ A. is_needed A (apply s e).state.kept key) (objects_after s e) ∙ kept_needs B (apply s e).state.kept id key kept there

-- ---- what is fresh stays fresh

-- a key that is fresh in the one is fresh in the other, where both run
abbrev pub Covers : Key → Option Running → Option Running → Type 0
Covers key None None = Unit {0}
Covers key None (Some now) = ⊥
Covers key (Some before) None = Unit {0}
Covers key (Some before) (Some now) = set.contains before.fresh key ≡ true → set.contains now.fresh key ≡ true

covers_itself : (key : Key) (run : Option Running) → Covers key run run
covers_itself key None = tt
covers_itself key (Some running) = λ e. e

covers_then : (key : Key) (a b c : Option Running) → Covers key a b → Covers key b c → Covers key a c
covers_then key None None None p q = tt
covers_then key None None (Some z) p q = absurd q
covers_then key None (Some y) c p q = absurd p
covers_then key (Some x) b None p q = tt
covers_then key (Some x) None (Some z) p q = absurd q
covers_then key (Some x) (Some y) (Some z) p q = λ e. q (p e)

covers_none : (key : Key) (run : Option Running) → Covers key run None
covers_none key None = tt
covers_none key (Some running) = tt

covers_told : (key : Key) (keys : List Key) (run : Option Running) → Covers key run (option_map (fresher keys) run)
covers_told key keys None = tt
covers_told key keys (Some running) = λ e. in_all keys running.fresh key ∙ or_right (is_in keys key) (set.contains running.fresh key) e

covers_turn : (key : Key) (refused : Bool) (run : Option Running) → Covers key run (option_map (turn_counted refused) run)
covers_turn key refused None = tt
covers_turn key refused (Some running) = λ e. e

covers_either : (key : Key) (b : Bool) (run : Option Running) (x y : State) → Covers key run x.running → Covers key run y.running → Covers key run (cond b x y).running
covers_either key true run x y p q = p
covers_either key false run x y p q = q

pub covers_act : (key : Key) (secret : Option (List ℕ)) (moment : ℕ) (a : Act) (r : Reply) (s : State) → Covers key s.running (act_changes secret moment a r s).running
covers_act key secret moment (act.Check o) r s = covers_itself key s.running
covers_act key secret moment act.Head r s = covers_itself key s.running
covers_act key secret moment (act.Get k) r s = covers_itself key s.running
covers_act key secret moment (act.Put k bytes) r s = covers_told key (told_by k r) s.running
covers_act key secret moment (act.Missing kind ids) r s = covers_told key (stored_keys s.objects (keys_of kind ids)) s.running
covers_act key secret moment (act.Update pushed) r s = covers_itself key s.running
covers_act key secret moment (act.Limit days) r s = covers_itself key s.running
covers_act key secret moment (act.Ids server client) r s = covers_itself key s.running

covers_changes : (key : Key) (moment : ℕ) (st : Step) (r : Reply) (s : State) → st ≢ step.Began → Covers key s.running (step_changes moment st r s).running
covers_changes key moment (step.Asked call) r s other =
    covers_either key (is_refused r) s.running s (act_changes call.secret moment call.act r s) (covers_itself key s.running) (covers_act key call.secret moment call.act r s)
covers_changes key moment step.Began r s other = absurd (other refl)
covers_changes key moment step.Swept r s other = covers_turn key (is_refused r) s.running
covers_changes key moment step.Ended r s other = covers_none key s.running

pub covers_step : (key : Key) (s : State) (e : Entry) → e.step ≢ step.Began → Covers key s.running (apply s e).running
covers_step key s e other =
    let m = moved s e.added e.removed in
    covers_then key s.running m.running (apply s e).running (covers_told key (keys_added e.added) s.running) (covers_changes key e.moment e.step e.reply m other)

-- ---- what is safe stays safe

shielded_then : (s t : State) (key : Key) (run now : Option Running) → Covers key run now → (is_needed s.objects s.state.kept key ≡ true → is_needed t.objects t.state.kept key ≡ true) → is_shielded s run key ≡ true → is_shielded t now key ≡ true
shielded_then s t key run None covers needed e = refl
shielded_then s t key None (Some now) covers needed e = absurd covers
shielded_then s t key (Some before) (Some now) covers needed e =
    elim (or_cases (is_needed s.objects s.state.kept key) (set.contains before.fresh key) e) [
      | inl is ↦ or_left (is_needed t.objects t.state.kept key) (set.contains now.fresh key) (needed is)
      | inr is ↦ or_right (is_needed t.objects t.state.kept key) (set.contains now.fresh key) (covers is)
    ]

nothing_leaves : (s : State) (e : Entry) (key : Key) → e.removed ≡ [] → is_in e.removed key ≡ false
nothing_leaves s e key none = ap (λ keys. is_in keys key) none

sweep_spares : (s : State) (e : Entry) (key : Key) (run : Option Running) → SweepPermits s e run → is_shielded s run key ≡ true → is_in e.removed key ≡ false
sweep_spares s e key None p shielded = nothing_leaves s e key p.0
sweep_spares s e key (Some running) p shielded = false_from_ne_true (is_in e.removed key) (λ there.
    elim (or_cases (is_needed s.objects s.state.kept key) (set.contains running.fresh key) shielded) [
      | inl is ↦ apart (is_needed s.objects s.state.kept key) is (p.unneeded key there)
      | inr is ↦ apart (set.contains running.fresh key) is (p.not_fresh key there)
    ])

step_spares : (s : State) (e : Entry) (key : Key) (st : Step) → StepPermits s e st → is_shielded s s.running key ≡ true → is_in e.removed key ≡ false
step_spares s e key (step.Asked call) p shielded = nothing_leaves s e key p.1
step_spares s e key step.Began p shielded = nothing_leaves s e key p.removes
step_spares s e key step.Swept p shielded = sweep_spares s e key s.running p.0 shielded
step_spares s e key step.Ended p shielded = nothing_leaves s e key p.removes

-- every step but a begin keeps a safe key safe
pub stays_safe : (s : State) (e : Entry) → IsSound s → Permits s e → e.step ≢ step.Began → (key : Key) → is_safe s key ≡ true → is_safe (apply s e) key ≡ true
stays_safe s e sound permits other key safe =
    let parts = and_parts (is_stored s.objects key) (is_shielded s s.running key) safe in
    let stays = step_spares s e key e.step permits parts.1 in
    let stored : is_stored (apply s e).objects key ≡ true = ap (λ A. is_stored A key) (objects_after s e) ∙ still_stored s.objects e.added e.removed key parts.0 stays in
    let shielded = shielded_then s (apply s e) key s.running (apply s e).running (covers_step key s e other) (needed_stays s e sound permits other key) parts.1 in
    and_from (is_stored (apply s e).objects key) (is_shielded (apply s e) (apply s e).running key) stored shielded

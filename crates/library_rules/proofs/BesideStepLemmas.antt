-- A call beside a collection leaves what it leaves where none runs, and the keys that came or were told present are fresh. The
-- key lemmas are apply_beside, fresher_as and step_beside.
use Rattle.std.proofs.Common.{◌≡◌, ◌≢◌, ◌⊎◌, inl, inr, ℕ, Bool, true, false, ◌||◌, if◌then◌else◌, List, [], ◌∷◌, refl, sym, ap, ◌∙◌, subst, true≢false, Option, None, Some, option_map}
use Rattle.std.specs.FinSet as set
use Rattle.ids.specs.Key.{Objects, key_cmp}
use Rattle.ids.specs.declared.key.Key.{Key}
use Rattle.ids.proofs.KeyOrderLemmas.{key_cmp_exact, key_cmp_total}
use Rattle.library_state.specs.declared.call.Act.{Act}
use Rattle.library_state.specs.declared.call.Act.TheVariants as act
use Rattle.library_state.specs.declared.call.Call.{Call}
use Rattle.library_state.specs.declared.call.Op.TheVariants as op
use Rattle.library_state.specs.declared.reply.Reply.{Reply}
use Rattle.object_graph.specs.Traversal.{is_in}
use Rattle.object_graph.proofs.KeyLemmas.{same_key, same_key-itself, same_key-true}
use Rattle.library_rules.specs.Calls.{due, keys_of}
use Rattle.library_rules.specs.Changes.{act_changes, add_all, apply, counted, fresher, is_refused, keys_added, moved, step_changes, stored_keys, told_by, with_added, without}
use Rattle.library_rules.specs.History.{Permits, StepPermits, StepSo, lone}
use Rattle.library_rules.specs.LibraryState.{Running, State}
use Rattle.library_rules.specs.Permitted.{DuePermits}
use Rattle.library_rules.specs.declared.entry.Entry.{Entry}
use Rattle.library_rules.specs.declared.entry.Step.TheVariants as step
use Rattle.library_rules.proofs.BesideLemmas.{beside, due_beside, permits_beside}
use Rattle.library_rules.proofs.MemberLemmas.{in_all}
use Rattle.library_rules.proofs.StepLemmas.{objects_after}
use Rattle.library_rules.proofs.UnmovedLemmas.{all_told_again}

-- ---- which keys an answer tells to be stored already

-- over these objects, of an act that isn't refused
abbrev pub told_keys : Objects → Act → Reply → List Key
told_keys objects (act.Check o) r = []
told_keys objects act.Head r = []
told_keys objects (act.Get key) r = []
told_keys objects (act.Put key bytes) r = told_by key r
told_keys objects (act.Missing k ids) r = stored_keys objects (keys_of k ids)
told_keys objects (act.Update pushed) r = []
told_keys objects (act.Limit days) r = []
told_keys objects (act.Ids server client) r = []

abbrev pub told_after : Objects → Act → Reply → List Key
told_after objects a r = if is_refused r then [] else told_keys objects a r

-- the collection after an answer: fresh are the keys of objects that came, and those that were told
abbrev pub running_beside : Objects → Act → Reply → List Key → Running → Running
running_beside objects a r came running = fresher (told_after objects a r) (fresher came running)

-- ---- what an entry leaves

module _ (running : Running) where
  act_beside : (secret : Option (List ℕ)) (moment faults : ℕ) (a : Act) (r : Reply) (m : State)
      → counted faults (act_changes secret moment a r (beside m (Some running))) ≡ beside (counted faults (act_changes secret moment a r m)) (Some (fresher (told_keys m.objects a r) running))
  act_beside secret moment faults (act.Check op.Upload) r m = refl
  act_beside secret moment faults (act.Check op.Download) r m = refl
  act_beside secret moment faults act.Head r m = refl
  act_beside secret moment faults (act.Get key) r m = refl
  act_beside secret moment faults (act.Put key bytes) r m = refl
  act_beside secret moment faults (act.Missing k ids) r m = refl
  act_beside secret moment faults (act.Update pushed) r m = refl
  act_beside secret moment faults (act.Limit days) r m = refl
  act_beside secret moment faults (act.Ids server client) r m = refl

  changes_beside : (call : Call) (moment faults : ℕ) (r : Reply) (m : State)
      → counted faults (step_changes moment (step.Asked call) r (beside m (Some running))) ≡ beside (counted faults (step_changes moment (step.Asked call) r m)) (Some (fresher (told_after m.objects call.act r) running))
  changes_beside call moment faults r m = by (is_refused r)
    where
      by : (b : Bool) → counted faults (if b then beside m (Some running) else act_changes call.secret moment call.act r (beside m (Some running)))
          ≡ beside (counted faults (if b then m else act_changes call.secret moment call.act r m)) (Some (fresher (if b then [] else told_keys m.objects call.act r) running))
      by true = refl
      by false = act_beside call.secret moment faults call.act r m

pub apply_beside : (s : State) (running : Running) (e : Entry) (call : Call) → e.step ≡ step.Asked call
    → apply (beside s (Some running)) e
    ≡ beside (apply s e) (Some (running_beside (without (with_added s.objects e.added) e.removed) call.act e.reply (keys_added e.added) running))
apply_beside s running e call asked =
    let m = moved s e.added e.removed in
    let run : Running = fresher (keys_added e.added) running in
    ap (λ st. counted e.faults (step_changes e.moment st e.reply (beside m (Some run)))) asked
    ∙ changes_beside run call e.moment e.faults e.reply m
    ∙ ap (λ st. beside (counted e.faults (step_changes e.moment st e.reply m)) (Some (fresher (told_after m.objects call.act e.reply) run))) (sym asked)

-- where none runs none runs after a call
rest_act : (secret : Option (List ℕ)) (moment : ℕ) (a : Act) (r : Reply) (m : State) → m.running ≡ None → (act_changes secret moment a r m).running ≡ None
rest_act secret moment (act.Check o) r m idle = idle
rest_act secret moment act.Head r m idle = idle
rest_act secret moment (act.Get key) r m idle = idle
rest_act secret moment (act.Put key bytes) r m idle = ap (option_map (fresher (told_by key r))) idle
rest_act secret moment (act.Missing k ids) r m idle = ap (option_map (fresher (stored_keys m.objects (keys_of k ids)))) idle
rest_act secret moment (act.Update pushed) r m idle = idle
rest_act secret moment (act.Limit days) r m idle = idle
rest_act secret moment (act.Ids server client) r m idle = idle

pub rest_after : (s : State) (e : Entry) (call : Call) → e.step ≡ step.Asked call → s.running ≡ None → (apply s e).running ≡ None
rest_after s e call asked idle =
    ap (λ st. (step_changes e.moment st e.reply m).running) asked ∙ by (is_refused e.reply)
  where
    m : State
    m = moved s e.added e.removed

    still : m.running ≡ None
    still = ap (option_map (fresher (keys_added e.added))) idle

    by : (b : Bool) → (if b then m else act_changes call.secret e.moment call.act e.reply m).running ≡ None
    by true = still
    by false = rest_act call.secret e.moment call.act e.reply m still

-- ---- the fresh keys, one by one

pub fresher_as : (before after : Running) (told came : List Key) → after.stored ≡ before.stored → after.turned ≡ before.turned
    → ((key : Key) → set.contains after.fresh key ≡ (set.contains before.fresh key || (is_in came key || is_in told key))) → after ≡ fresher told (fresher came before)
fresher_as before after told came same_stored same_turned each =
    ap (λ n. record after { stored = n }) same_stored ∙ ap (λ n. record after { stored = before.stored; turned = n }) same_turned
    ∙ ap (λ fresh. record before { fresh = fresh })
    (set.same_set key_cmp_total key_cmp_exact after.fresh (add_all told (add_all came before.fresh))
    (λ key. each key ∙ sym (in_all told (add_all came before.fresh) key ∙ ap (λ b. is_in told key || b) (in_all came before.fresh key)
    ∙ turned (is_in told key) (is_in came key) (set.contains before.fresh key))))
  where
    turned : (a b c : Bool) → (a || (b || c)) ≡ (c || (b || a))
    turned true true true = refl
    turned true true false = refl
    turned true false true = refl
    turned true false false = refl
    turned false true true = refl
    turned false true false = refl
    turned false false true = refl
    turned false false false = refl

-- all of the keys are fresh, or one isn't
data FreshCase (keys : List Key) (fresh : set.FinSet key_cmp) : Type 0 where
  all_fresh : ((key : Key) → is_in keys key ≡ true → set.contains fresh key ≡ true) → FreshCase keys fresh
  one_new : (key : Key) → is_in keys key ≡ true → set.contains fresh key ≡ false → FreshCase keys fresh

fresh_case : (keys : List Key) (fresh : set.FinSet key_cmp) → FreshCase keys fresh
fresh_case [] fresh = all_fresh (λ key e. absurd (true≢false (sym e)))
fresh_case (k ∷ keys) fresh = by (set.contains fresh k) refl (fresh_case keys fresh)
  where
    either : (a b : Bool) → (a || b) ≡ true → (a ≡ true) ⊎ (b ≡ true)
    either true b e = inl refl
    either false b e = inr e

    first : (key : Key) → same_key key k ≡ true → set.contains fresh k ≡ true → set.contains fresh key ≡ true
    first key same is = subst (λ q. set.contains fresh q ≡ true) (sym (same_key-true key k same)) is

    by : (b : Bool) → set.contains fresh k ≡ b → FreshCase keys fresh → FreshCase (k ∷ keys) fresh
    by false new rest = one_new k (ap (λ b. b || is_in keys k) (same_key-itself k)) new
    by true is (one_new key among new) = one_new key (ap (λ b. same_key key k || b) among ∙ or_true (same_key key k)) new
      where
        or_true : (b : Bool) → (b || true) ≡ true
        or_true true = refl
        or_true false = refl
    by true is (all_fresh each) = all_fresh (λ key e. joined key (either (same_key key k) (is_in keys key) e))
      where
        joined : (key : Key) → (same_key key k ≡ true) ⊎ (is_in keys key ≡ true) → set.contains fresh key ≡ true
        joined key (inl same) = first key same is
        joined key (inr among) = each key among

-- ---- all of it

-- the objects that the entries of a step added
abbrev pub keys_in : List Entry → List Key
keys_in [] = []
keys_in (e ∷ es) = keys_added e.added

pub permits_asked : (s : State) (running : Option Running) (e : Entry) (call : Call) → e.step ≡ step.Asked call → Permits s e → Permits (beside s running) e
permits_asked s running e call asked permits =
    let asked_permits : StepPermits s e (step.Asked call) = subst (StepPermits s e) asked permits in
    subst (StepPermits (beside s running) e) (sym asked)
    (subst (DuePermits (beside s running) e) (sym (due_beside s running call)) (permits_beside s running e (due s call) asked_permits.0), asked_permits.1)

-- a step where none runs is a step beside a collection, with the keys that came and were told fresh
pub step_beside : (s : State) (call : Call) (moment : ℕ) (r : Reply) (t : State) (es : List Entry) (running after : Running) → s.running ≡ None
    → StepSo s (step.Asked call) moment r t es → after ≡ running_beside t.objects call.act r (keys_in es) running
    → (changes : List Entry) × StepSo (beside s (Some running)) (step.Asked call) moment r (beside t (Some after)) changes
step_beside s call moment r t [] running after idle (same, read) is = by (fresh_case (told_after s.objects call.act r) running.fresh)
  where
    e : Entry
    e = lone s (step.Asked call) moment r

    now : Running
    now = running_beside s.objects call.act r [] running

    is_now : after ≡ now
    is_now = is ∙ ap (λ (u : State). running_beside u.objects call.act r [] running) same

    applied : apply (beside s (Some running)) e ≡ beside s (Some now)
    applied = apply_beside s running e call refl ∙ ap (λ u. beside u (Some now)) read.stays

    left : beside t (Some after) ≡ beside s (Some now)
    left = ap (λ u. beside u (Some after)) same ∙ ap (λ o. beside s (Some o)) is_now

    permits : Permits (beside s (Some running)) e
    permits = permits_asked s (Some running) e call refl read.permits

    by : FreshCase (told_after s.objects call.act r) running.fresh → (changes : List Entry) × StepSo (beside s (Some running)) (step.Asked call) moment r (beside t (Some after)) changes
    by (all_fresh each) =
        let again : Some now ≡ Some running
        = all_told_again (beside s (Some running)) (told_after s.objects call.act r) (λ key among run is_run. subst (λ (q : Running). set.contains q.fresh key ≡ true) (some_same is_run) (each key among)) in (
          [],
          (left ∙ ap (λ o. beside s o) again, record { permits = permits; stays = applied ∙ ap (λ o. beside s o) again }),
        )
      where
        some_same : {a b : Running} → Some a ≡ Some b → a ≡ b
        some_same e = cc
    by (one_new key among new) = (
      e ∷ [],
      record {
        permitted = record { permits = permits; changes = λ stays. changed (sym applied ∙ stays) };
        is_step = refl;
        at = refl;
        answers = refl;
        state = applied ∙ sym left;
      },
    )
      where
        fresh_of : Option Running → Bool
        fresh_of None = false
        fresh_of (Some run) = set.contains run.fresh key

        now_fresh : set.contains now.fresh key ≡ true
        now_fresh = in_all (told_after s.objects call.act r) running.fresh key ∙ ap (λ b. b || set.contains running.fresh key) among

        changed : beside s (Some now) ≡ beside s (Some running) → ⊥
        changed same_state = true≢false (sym now_fresh ∙ ap (λ (u : State). fresh_of u.running) same_state ∙ new)
step_beside s call moment r t (e ∷ []) running after idle enters is = (
  e ∷ [],
  record {
    permitted = record { permits = permits_asked s (Some running) e call enters.is_step enters.permitted.permits; changes = λ stays. enters.permitted.changes (unmoved stays) };
    is_step = enters.is_step;
    at = enters.at;
    answers = enters.answers;
    state = applied;
  },
)
  where
    objects_at : without (with_added s.objects e.added) e.removed ≡ t.objects
    objects_at = sym (objects_after s e) ∙ ap (λ (u : State). u.objects) enters.state

    applied : apply (beside s (Some running)) e ≡ beside t (Some after)
    applied = apply_beside s running e call enters.is_step
        ∙ ap (λ (o : Objects). beside (apply s e) (Some (running_beside o call.act e.reply (keys_added e.added) running))) objects_at
        ∙ ap (λ (q : Reply). beside (apply s e) (Some (running_beside t.objects call.act q (keys_added e.added) running))) enters.answers
        ∙ ap (λ o. beside (apply s e) (Some o)) (sym is) ∙ ap (λ u. beside u (Some after)) enters.state

    -- what changed nothing beside a collection changes nothing where none runs
    unmoved : apply (beside s (Some running)) e ≡ beside s (Some running) → apply s e ≡ s
    unmoved stays =
        ap (λ o. beside (apply s e) o) (rest_after s e call enters.is_step idle)
        ∙ ap (λ u. beside u None) (sym (apply_beside s running e call enters.is_step) ∙ stays)
        ∙ ap (λ o. beside s o) (sym idle)
step_beside s call moment r t (e ∷ f ∷ es) running after idle none is = absurd none

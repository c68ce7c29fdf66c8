-- What a collection leaves of a library that nobody else asks. The key lemmas are cut_begun, cut_swept, turns_cut and collect_leads.
use Rattle.std.proofs.Common.{◌≡◌, ◌≢◌, inl, inr, ◌+◌, ◌||◌, ℕ, Bool, true, false, List, [], ◌∷◌, ◌++◌, length, refl, sym, ap, ◌∙◌, subst, arith, Option, None, Some, is_some, option_map, true≢false, cond}
use Rattle.std.specs.Prelude.{drop, pos}
use Rattle.std.specs.FinMap as map
use Rattle.std.specs.FinSet as set
use Rattle.std.specs.List.{AllByRecursion, IsDistinct}
use Rattle.std.specs.Ordering.{eq_by_cmp}
use Rattle.std.specs.Cmp.{eq_by_cmp_equiv}
use Rattle.std.proofs.lemmas.List.Sums.{sum_by-cons, sum_by_push}
use Rattle.collector.proofs.CountedLemmas.{all_in, len_less}
use Rattle.ids.specs.Key.{Objects, key_cmp}
use Rattle.ids.specs.declared.key.Key.{Key}
use Rattle.ids.proofs.BasicLemmas.{same_from_some}
use Rattle.ids.proofs.KeyOrderLemmas.{key_cmp_total}
use Rattle.library_state.specs.Retention.{kept_for}
use Rattle.library_state.specs.declared.history.Install.{Install}
use Rattle.library_state.specs.declared.refusal.Refusal.{Refusal}
use Rattle.library_state.specs.declared.refusal.Refusal.TheVariants as refusal
use Rattle.library_state.specs.declared.state.LibState.{LibState}
use Rattle.library_state.specs.declared.reply.Reply.TheVariants as reply
use Rattle.object_graph.specs.Traversal.{is_in, needs}
use Rattle.object_graph.specs.Unchanged.{AgreeOn, Keeps}
use Rattle.object_graph.proofs.KeyLemmas.{same_key}
use Rattle.library_rules.specs.Changes.{apply, begun, counted, ended, fresher, is_refused, keys_added, moved, step_changes, swept, turn_counted, without, with_added}
use Rattle.library_rules.specs.CollectionSteps.{IsClean, SweepPermits, Sweeps}
use Rattle.library_rules.specs.History.{Permits, StepPermits}
use Rattle.library_rules.specs.LibraryState.{IsSound, Running, State, head_of, is_fresh, is_kept, is_needed, is_stored}
use Rattle.library_rules.specs.Turns.{TakesStep}
use Rattle.library_rules.specs.declared.entry.Entry.{Entry}
use Rattle.library_rules.specs.declared.entry.Step.{Step}
use Rattle.library_rules.specs.declared.entry.Step.TheVariants as step
use Rattle.library_rules.proofs.ChangedLemmas.{gone_without}
use Rattle.library_rules.proofs.HeadTreeLemmas.{head_kept}
use Rattle.library_rules.proofs.KeepingLemmas.{agrees_itself, agrees_then, keeps_itself, keeps_then, kept_without}
use Rattle.library_rules.proofs.StepLemmas.{agrees_after, objects_after, sound_apply}
use Rattle.object_store.specs.Shelf.{Contents}
use Rattle.object_store.specs.declared.shelf.Slot.{Slot}
use Rattle.depot.specs.CollectionTurns.{TurnSo, removed_in}
use Rattle.depot.specs.declared.turn.Turn.{Turn}
use Rattle.depot.specs.declared.turn.Turn.TheVariants as turn
use Rattle.sync_calls.specs.Collecting.{CollectsSo, EndsAs, EndsSo, IsNextGoal, IsTaken, OneTurn, TurnsOn, deed_of, goes_on, left_by, objects_a_turn, told}
use Rattle.sync_calls.specs.CollectTurn.{running_number}
use Rattle.sync_calls.specs.Operations.{Line}
use Rattle.sync_calls.specs.Shown.{Shown}
use Rattle.sync_calls.specs.declared.collecting.Collected.{Collected}
use Rattle.sync_calls.specs.declared.collecting.Collected.TheVariants as collected
use Rattle.generated_library.specs.Filled.{Collects, IsResting}
use Rattle.generated_library.specs.Leading.{GoesOn, IsNow, IsOwn, Leads}
use Rattle.generated_library.proofs.OwnLemmas.{BooksSeen, OwnsSeen, StandsAt, alone_set, below_done, done_goes, goes_none, goes_then, led_now, moved_alone, one_goes, owns_before, stands_has}

-- ---- objects that leave

still_there : (A : Objects) (k : Key) (keys : List Key) → AllByRecursion (λ y. same_key k y ≡ false) keys → AllByRecursion (λ key. is_some (map.get A key) ≡ true) keys
    → AllByRecursion (λ key. is_some (map.get (map.remove A k) key) ≡ true) keys
still_there A k [] apart there = tt
still_there A k (y ∷ keys) apart there = (
  ap is_some (map.get-remove key_cmp_total A k y ∙ ap (λ (b : Bool). cond b None (map.get A y)) ((eq_by_cmp_equiv key_cmp_total).symm y k ∙ apart.0)) ∙ there.0,
  still_there A k keys apart.1 there.1,
)

len_without : (keys : List Key) (A : Objects) → IsDistinct (eq_by_cmp key_cmp) keys → AllByRecursion (λ key. is_some (map.get A key) ≡ true) keys → map.len (without A keys) + length keys ≡ map.len A
unfolding IsDistinct
len_without [] A once there = omega arith
len_without (k ∷ keys) A once there =
    let rest = len_without keys (map.remove A k) once.1 (still_there A k keys once.0 there.1) in
    omega (arith, rest, len_less A k there.0)

keeps_without : (A : Objects) (keys : List Key) → Keeps (without A keys) A
keeps_without A keys = record { kept = λ key bytes is. by key bytes is (is_in keys key) refl }
  where
    by : (key : Key) (bytes : List ℕ) → map.get (without A keys) key ≡ Some bytes → (b : Bool) → is_in keys key ≡ b → map.get A key ≡ Some bytes
    by key bytes is true gone = let none : None ≡ Some bytes = sym (gone_without A keys key gone) ∙ is in cc
    by key bytes is false stays = sym (kept_without A keys key stays) ∙ is

-- ---- history that is cut to the head

pub record IsCut (kept installs : List Install) : Type 0 where
  pub last : Install
  pub is : installs ≡ last ∷ []
  pub head : last.head ≡ head_of kept
  pub ends : (front : List Install) (install : Install) → kept ≡ front ++ install ∷ [] → last ≡ install

none_pushed : (front : List Install) (x : Install) → [] ≡ front ++ x ∷ [] → ⊥
none_pushed [] x is = cc
none_pushed (y ∷ front) x is = cc

one_pushed : (install x : Install) (front : List Install) → install ∷ [] ≡ front ++ x ∷ [] → install ≡ x
one_pushed install x [] is = cc
one_pushed install x (y ∷ front) is = absurd (none_pushed front x (ap (drop 1) is))

more_pushed : (last install next x : Install) (later front : List Install) → ((front : List Install) (x : Install) → next ∷ later ≡ front ++ x ∷ [] → last ≡ x)
    → install ∷ next ∷ later ≡ front ++ x ∷ [] → last ≡ x
more_pushed last install next x later [] ends is = cc
more_pushed last install next x later (y ∷ front) ends is = ends front x (ap (drop 1) is)

cut_zero : (moment : ℕ) (kept : List Install) → kept ≢ [] → IsCut kept (kept_for (pos 0) moment kept)
cut_zero moment [] some = absurd (some refl)
cut_zero moment (install ∷ []) some = record { last = install; is = refl; head = refl; ends = λ front x is. one_pushed install x front is }
cut_zero moment (install ∷ next ∷ later) some =
    let rest = cut_zero moment (next ∷ later) (λ e. cc) in
    record { last = rest.last; is = rest.is; head = rest.head; ends = λ front x is. more_pushed rest.last install next x later front rest.ends is }

-- ---- a library as its collection goes on

-- so many objects left of it, none that the head needs; the head alone is kept, and no key is fresh
pub record Cut (s0 s : State) (gone : ℕ) : Type 0 where
  pub size : map.len s0.objects ≡ map.len s.objects + gone
  pub left : Keeps s.objects s0.objects
  pub cut : IsCut s0.state.kept s.state.kept
  pub agree : AgreeOn (needs s0.objects (head_of s0.state.kept)) s0.objects s.objects
  pub days : s.state.days ≡ s0.state.days

pub record Runs (s : State) : Type 0 where
  pub running : Running
  pub is : s.running ≡ Some running
  pub none_fresh : (key : Key) → set.contains running.fresh key ≡ false

cut_kept : (s0 s : State) (gone : ℕ) → Cut s0 s gone → is_kept s.state.kept (head_of s0.state.kept) ≡ true
cut_kept s0 s gone so =
    let here : head_of s.state.kept ≡ head_of s0.state.kept = ap head_of so.cut.is ∙ so.cut.head in
    subst (λ id. is_kept s.state.kept id ≡ true) here (head_kept s.state.kept (λ none. some (sym so.cut.is ∙ none)))
  where
    some : so.cut.last ∷ [] ≡ [] → ⊥
    some e = cc

by_step : (s : State) (e : Entry) (st : Step) → e.step ≡ st → apply s e ≡ counted e.faults (step_changes e.moment st e.reply (moved s e.added e.removed))
by_step s e st is = ap (λ (x : Step). counted e.faults (step_changes e.moment x e.reply (moved s e.added e.removed))) is

objects_by : (s : State) (e : Entry) (keys : List Key) → e.added ≡ [] → e.removed ≡ keys → (apply s e).objects ≡ without s.objects keys
objects_by s e keys adds removes = objects_after s e ∙ (ap (λ xs. without (with_added s.objects xs) e.removed) adds ∙ ap (without s.objects) removes)

-- the entry of a turn that isn't refused
record Stepped (s t : State) (st : Step) (keys : List Key) : Type 0 where
  e : Entry
  permits : Permits s e
  is_step : e.step ≡ st
  so : StepPermits s e st
  answers : e.reply ≡ reply.Checked
  removes : e.removed ≡ keys
  is : t ≡ apply s e

stepped : (s t : State) (moment : ℕ) (keys : List Key) (es : List Entry) (st : Step) → TakesStep s st moment reply.Checked keys t es → Stepped s t st keys
stepped s t moment keys es st takes = record {
  e = takes.entry;
  permits = takes.enters.permitted.permits;
  is_step = takes.enters.is_step;
  so = subst (StepPermits s takes.entry) takes.enters.is_step takes.enters.permitted.permits;
  answers = takes.enters.answers;
  removes = takes.removes;
  is = sym takes.enters.state;
}

-- it begins
pub cut_begun : (s t : State) (moment : ℕ) (es : List Entry) → TakesStep s step.Began moment reply.Checked [] t es → IsSound s → s.state.days ≡ pos 0
    → Cut s t 0 × Runs t × IsSound t
cut_begun s t moment es takes sound days =
    let step_of = stepped s t moment [] es step.Began takes in
    let e = step_of.e in
    let begins = step_of.so in
    let now : t ≡ counted e.faults (begun e.moment (moved s e.added e.removed)) = step_of.is ∙ by_step s e step.Began step_of.is_step in
    let objects : t.objects ≡ s.objects = ap (λ (u : State). u.objects) step_of.is ∙ objects_by s e [] begins.adds begins.removes in
    let kept : t.state.kept ≡ kept_for (pos 0) e.moment s.state.kept = ap (λ (u : State). u.state.kept) now ∙ ap (λ d. kept_for d e.moment s.state.kept) days in
    let some = sound.kept.some_kept in (
      record {
        size = (let same = ap map.len objects in omega (arith, same));
        left = subst (λ (A : Objects). Keeps A s.objects) (sym objects) (keeps_itself s.objects);
        cut = subst (IsCut s.state.kept) (sym kept) (cut_zero e.moment s.state.kept some);
        agree = subst (λ (A : Objects). AgreeOn (needs s.objects (head_of s.state.kept)) s.objects A) (sym objects) (agrees_itself (needs s.objects (head_of s.state.kept)) s.objects);
        days = ap (λ (u : State). u.state.days) now;
      },
      record { running = _; is = ap (λ (u : State). u.running) now; none_fresh = λ key. set.contains-empty key_cmp key },
      subst IsSound (sym step_of.is) (sound_apply s e step_of.permits sound),
    )

-- some objects leave, or none
pub cut_swept : (s0 s t : State) (gone moment : ℕ) (keys : List Key) (es : List Entry) → TakesStep s step.Swept moment reply.Checked keys t es → IsSound s0 → IsSound s → Cut s0 s gone → Runs s
    → Cut s0 t (gone + length keys) × Runs t × IsSound t × (t.state ≡ s.state)
cut_swept s0 s t gone moment keys es takes sound0 sound so runs =
    let step_of = stepped s t moment keys es step.Swept takes in
    let e = step_of.e in
    let sweeping = step_of.so in
    let sweeps : Sweeps s runs.running e = subst (SweepPermits s e) runs.is sweeping.0 in
    let now : t ≡ counted e.faults (swept (is_refused e.reply) (moved s e.added e.removed)) = step_of.is ∙ by_step s e step.Swept step_of.is_step in
    let objects : t.objects ≡ without s.objects keys = ap (λ (u : State). u.objects) step_of.is ∙ objects_by s e keys sweeping.1 step_of.removes in
    let stored : (key : Key) → is_in keys key ≡ true → is_some (map.get s.objects key) ≡ true = λ key among. sweeps.stored key (subst (λ ks. is_in ks key ≡ true) (sym step_of.removes) among) in
    let less = len_without keys s.objects (subst (IsDistinct (eq_by_cmp key_cmp)) step_of.removes sweeps.once) (all_in (λ key. is_some (map.get s.objects key) ≡ true) keys stored) in
    let size = ap map.len objects in
    let state : t.state ≡ s.state = ap (λ (u : State). u.state) now in
    let after : AgreeOn (needs s.objects (head_of s0.state.kept)) s.objects t.objects =
    subst (λ (u : State). AgreeOn (needs s.objects (head_of s0.state.kept)) s.objects u.objects) (sym step_of.is) (agrees_after s e step_of.permits sound (head_of s0.state.kept) (cut_kept s0 s gone so)) in (
      record {
        size = omega (arith, so.size, less, size);
        left = subst (λ (A : Objects). Keeps A s0.objects) (sym objects) (keeps_then (keeps_without s.objects keys) so.left);
        cut = subst (λ (l : List Install). IsCut s0.state.kept l) (sym (ap (λ (x : LibState). x.kept) state)) so.cut;
        agree = agrees_then s0.objects s.objects t.objects (head_of s0.state.kept) so.agree after;
        days = ap (λ (x : LibState). x.days) state ∙ so.days;
      },
      still_runs e now sweeping.1,
      subst IsSound (sym step_of.is) (sound_apply s e step_of.permits sound),
      state,
    )
  where
    still_runs : (e : Entry) → t ≡ counted e.faults (swept (is_refused e.reply) (moved s e.added e.removed)) → e.added ≡ [] → Runs t
    still_runs e now adds =
        let running : t.running ≡ option_map (turn_counted (is_refused e.reply)) (option_map (fresher (keys_added e.added)) s.running) = ap (λ (u : State). u.running) now in
        let here : t.running ≡ option_map (turn_counted (is_refused e.reply)) (option_map (fresher []) (Some runs.running)) =
        running ∙ (ap (λ xs. option_map (turn_counted (is_refused e.reply)) (option_map (fresher (keys_added xs)) s.running)) adds
        ∙ ap (λ o. option_map (turn_counted (is_refused e.reply)) (option_map (fresher []) o)) runs.is) in
        record { running = turn_counted (is_refused e.reply) (fresher [] runs.running); is = here; none_fresh = runs.none_fresh }

-- it ends: the head needs all that is left
pub cut_ended : (s0 s t : State) (gone moment : ℕ) (es : List Entry) → TakesStep s step.Ended moment reply.Checked [] t es → IsClean s → IsSound s → Cut s0 s gone → Runs s
    → Cut s0 t gone × IsSound t × ((key : Key) → is_stored t.objects key ≡ true → is_needed t.objects t.state.kept key ≡ true)
cut_ended s0 s t gone moment es takes clean sound so runs =
    let step_of = stepped s t moment [] es step.Ended takes in
    let e = step_of.e in
    let ends = step_of.so in
    let now : t ≡ counted e.faults (ended (moved s e.added e.removed)) = step_of.is ∙ by_step s e step.Ended step_of.is_step in
    let objects : t.objects ≡ s.objects = ap (λ (u : State). u.objects) step_of.is ∙ objects_by s e [] ends.adds ends.removes in
    let state : t.state ≡ s.state = ap (λ (u : State). u.state) now in (
      record {
        size = (let same = ap map.len objects in omega (arith, so.size, same));
        left = subst (λ (A : Objects). Keeps A s0.objects) (sym objects) so.left;
        cut = subst (λ (l : List Install). IsCut s0.state.kept l) (sym (ap (λ (x : LibState). x.kept) state)) so.cut;
        agree = subst (λ (A : Objects). AgreeOn (needs s0.objects (head_of s0.state.kept)) s0.objects A) (sym objects) so.agree;
        days = ap (λ (x : LibState). x.days) state ∙ so.days;
      },
      subst IsSound (sym step_of.is) (sound_apply s e step_of.permits sound),
      λ key stored. subst (λ (A : Objects). is_needed A t.state.kept key ≡ true) (sym objects)
          (subst (λ (x : LibState). is_needed s.objects x.kept key ≡ true) (sym state) (needed key (subst (λ (A : Objects). is_stored A key ≡ true) objects stored))),
    )
  where
    needed : (key : Key) → is_stored s.objects key ≡ true → is_needed s.objects s.state.kept key ≡ true
    needed key stored = by (is_needed s.objects s.state.kept key) (is_fresh s.running key) (ap (λ o. is_fresh o key) runs.is ∙ runs.none_fresh key) (clean.each key stored)
      where
        by : (a b : Bool) → b ≡ false → (a || b) ≡ true → a ≡ true
        by true b none is = refl
        by false true none is = absurd (true≢false none)
        by false false none is = is

-- ---- turns

-- before the begin no collection runs, and behind it the one of the goal
abbrev pub PhaseOf : State → ℕ → Option ℕ → State → Type 0
PhaseOf s0 gone None s = (s ≡ s0) × (gone ≡ 0)
PhaseOf s0 gone (Some number) s = (number ≡ s.state.collection) × Cut s0 s gone × Runs s

-- the goal of the turn that follows
abbrev pub NextOf : Option ℕ → State → Option ℕ → Type 0
NextOf None t next = next ≡ option_map (λ (r : Running). t.state.collection) t.running
NextOf (Some number) t next = next ≡ Some number

idle_sweeps_not : (s t : State) (moment : ℕ) (keys : List Key) (es : List Entry) → TakesStep s step.Swept moment reply.Checked keys t es → s.running ≡ None → ⊥
idle_sweeps_not s t moment keys es takes idle =
    let step_of = stepped s t moment keys es step.Swept takes in
    let e = step_of.e in
    let sweeping = step_of.so in
    let none : SweepPermits s e None = subst (SweepPermits s e) idle sweeping.0 in
    elim none.1 [
      | inl fails ↦ clash fails.why (sym step_of.answers ∙ fails.reply)
      | inr spent ↦ clash refusal.Spent (sym step_of.answers ∙ spent.0.reply)
    ]
  where
    clash : (why : Refusal) → reply.Checked ≡ reply.Refused why → ⊥
    clash why is = cc

runs_not_idle : (s : State) → Runs s → s.running ≡ None → ⊥
runs_not_idle s runs idle = let clash : None ≡ Some runs.running = sym idle ∙ runs.is in cc

-- a turn that goes on
turn_phase : (s0 s t : State) (gone : ℕ) (goal next : Option ℕ) (moment most : ℕ) (taken : Turn) (es : List Entry) → s0.running ≡ None → s0.state.days ≡ pos 0 → IsSound s0 → IsSound s
    → TurnSo s goal moment most taken t es → goes_on taken ≡ true → PhaseOf s0 gone goal s → NextOf goal t next → PhaseOf s0 (gone + length (removed_in taken)) next t × IsSound t
turn_phase s0 s t gone None next moment most (turn.Began number) es idle days sound0 sound so goes (same, none) follows =
    let begun = cut_begun s t moment es so.2 sound (ap (λ (u : State). u.state.days) same ∙ days) in
    let goal : next ≡ Some t.state.collection = follows ∙ ap (option_map (λ (r : Running). t.state.collection)) begun.1.is in
    let count : gone + 0 ≡ 0 = omega (arith, none) in
    let cut : Cut s0 t (gone + 0) = subst (λ n. Cut s0 t n) (sym count) (subst (λ (u : State). Cut u t 0) same begun.0) in
    (subst (λ o. PhaseOf s0 (gone + 0) o t) (sym goal) (refl, cut, begun.1), begun.2)
turn_phase s0 s t gone (Some number) next moment most (turn.Began n) es idle days sound0 sound so goes (is, cut, runs) follows = absurd (runs_not_idle s runs so.0)
turn_phase s0 s t gone None next moment most (turn.Marked count) es idle days sound0 sound so goes (same, none) follows =
    absurd (idle_sweeps_not s t moment [] es so.2 (ap (λ (u : State). u.running) same ∙ idle))
turn_phase s0 s t gone (Some number) next moment most (turn.Marked count) es idle days sound0 sound so goes (is, cut, runs) follows =
    let more = cut_swept s0 s t gone moment [] es so.2 sound0 sound cut runs in
    (subst (λ o. PhaseOf s0 (gone + 0) o t) (sym follows) (is ∙ ap (λ (x : LibState). x.collection) (sym more.3), more.0, more.1), more.2)
turn_phase s0 s t gone None next moment most (turn.Swept keys) es idle days sound0 sound so goes (same, none) follows =
    absurd (idle_sweeps_not s t moment keys es so.2 (ap (λ (u : State). u.running) same ∙ idle))
turn_phase s0 s t gone (Some number) next moment most (turn.Swept keys) es idle days sound0 sound so goes (is, cut, runs) follows =
    let more = cut_swept s0 s t gone moment keys es so.2 sound0 sound cut runs in
    (subst (λ o. PhaseOf s0 (gone + length keys) o t) (sym follows) (is ∙ ap (λ (x : LibState). x.collection) (sym more.3), more.0, more.1), more.2)
turn_phase s0 s t gone goal next moment most (turn.Ended number) es idle days sound0 sound so goes phase follows = absurd (true≢false (sym goes))
turn_phase s0 s t gone goal next moment most (turn.Over number) es idle days sound0 sound so goes phase follows = absurd (true≢false (sym goes))
turn_phase s0 s t gone goal next moment most (turn.Refused why keys) es idle days sound0 sound so goes phase follows = absurd (true≢false (sym goes))

-- what a collection leaves of the library of before
pub record EndsCut (s t : State) (gone : ℕ) : Type 0 where
  pub cut : Cut s t gone
  pub clean : (key : Key) → is_stored t.objects key ≡ true → is_needed t.objects t.state.kept key ≡ true

-- the last turn ends it
turn_ends : (s0 s t : State) (gone : ℕ) (goal : Option ℕ) (moment most number : ℕ) (es : List Entry) → s0.running ≡ None → IsSound s
    → TurnSo s goal moment most (turn.Ended number) t es → PhaseOf s0 gone goal s → EndsCut s0 t gone × IsSound t
turn_ends s0 s t gone None moment most number es idle sound so (same, none) =
    let step_of = stepped s t moment [] es step.Ended so.2 in
    let e = step_of.e in
    let ends = step_of.so in
    let still : s.running ≡ None = ap (λ (u : State). u.running) same ∙ idle in
    absurd (true≢false (sym ends.runs ∙ ap is_some still))
turn_ends s0 s t gone (Some goal) moment most number es idle sound so (is, cut, runs) =
    let end = cut_ended s0 s t gone moment es so.2 so.1 sound cut runs in
    (record { cut = end.0; clean = end.2 }, end.1)

-- and none is over
turn_not_over : (s0 s t : State) (gone : ℕ) (goal : Option ℕ) (moment most number : ℕ) (es : List Entry) → TurnSo s goal moment most (turn.Over number) t es → PhaseOf s0 gone goal s → ⊥
turn_not_over s0 s t gone None moment most number es so phase = let asked = so.0.asked in cc
turn_not_over s0 s t gone (Some goal) moment most number es so (is, cut, runs) =
    let same : goal ≡ number = same_from_some goal number so.0.asked in
    so.0.apart (ap (option_map (λ (r : Running). s.state.collection)) runs.is ∙ ap Some (sym is ∙ same))

module _ {S : Type 0} (contents : S → Option Contents) (may_give : S → Slot → Option (List ℕ) → Type 0) (texts faults : S → ℕ) (shows : ℕ → Type 0) where
  next_of : (goal : Option ℕ) (v : Shown S) (next : Option ℕ) (t : State) → IsNextGoal contents may_give texts faults shows goal v next → StandsAt contents may_give texts faults v t → NextOf goal t next
  next_of (Some number) v next t is stands = is
  next_of None v next t is stands =
      let one : is.there ≡ stands.there = same_from_some is.there stands.there (sym is.stood ∙ stands.stood) in
      let has = stands_has contents may_give texts faults stands.there t stands.told in
      is.runs ∙ (ap running_number one ∙ (ap (option_map (λ (r : Running). stands.there.state.collection)) (sym has.0)
      ∙ ap (λ (l : LibState). option_map (λ (r : Running). l.collection) t.running) (sym has.1)))

  turns_books : (u : Shown S) (goal : Option ℕ) (turns : List OneTurn) (v : Shown S) (last : Option ℕ) → TurnsOn contents may_give texts faults shows u goal turns v last
      → BooksSeen contents may_give texts faults u → BooksSeen contents may_give texts faults v
  turns_books u goal [] v last (same, is) books = subst (BooksSeen contents may_give texts faults) (sym same) books
  turns_books u goal (one ∷ more) v last (w, next, taken, goes, follows, rest) books =
      turns_books w next more v last rest (below_done contents may_give texts faults u one.place (deed_of one) w taken.done books)

  turns_owns : (u : Shown S) (goal : Option ℕ) (turns : List OneTurn) (v : Shown S) (last : Option ℕ) → TurnsOn contents may_give texts faults shows u goal turns v last
      → BooksSeen contents may_give texts faults u → OwnsSeen contents may_give texts faults v → OwnsSeen contents may_give texts faults u
  turns_owns u goal [] v last (same, is) books owns = subst (OwnsSeen contents may_give texts faults) same owns
  turns_owns u goal (one ∷ more) v last (w, next, taken, goes, follows, rest) books owns =
      owns_before contents may_give texts faults u one.place (deed_of one) w taken.done books
      (turns_owns w next more v last rest (below_done contents may_give texts faults u one.place (deed_of one) w taken.done books) owns)

  turns_goes : (u : Shown S) (goal : Option ℕ) (turns : List OneTurn) (v : Shown S) (last : Option ℕ) → TurnsOn contents may_give texts faults shows u goal turns v last → GoesOn u v
  turns_goes u goal [] v last (same, is) = subst (GoesOn u) (sym same) (goes_none u)
  turns_goes u goal (one ∷ more) v last (w, next, taken, goes, follows, rest) =
      goes_then u w v (done_goes contents may_give texts faults u one.place (deed_of one) w taken.done) (turns_goes w next more v last rest)

  -- where the library stands, as its collection goes on
  pub record InPhase (s0 : State) (gone : ℕ) (goal : Option ℕ) (u : Shown S) : Type 0 where
    pub s : State
    pub stands : StandsAt contents may_give texts faults u s
    pub sound : IsSound s
    pub phase : PhaseOf s0 gone goal s

  -- one turn was taken
  took : (u : Shown S) (goal : Option ℕ) (one : OneTurn) (v : Shown S) → IsTaken contents may_give texts faults shows u goal one v → BooksSeen contents may_give texts faults u
      → OwnsSeen contents may_give texts faults v → (s : State) → StandsAt contents may_give texts faults u s
      → (t : State) × (es : List Entry) × TurnSo s goal one.moment objects_a_turn one.turn t es × StandsAt contents may_give texts faults v t
  took u goal one v taken books owns s stands =
      let moved = moved_alone contents may_give texts faults u one.place (deed_of one) v taken.done books owns s stands in
      let told = moved.does.takes.told s moved.was in
      (told.state, told.entries, subst (λ g. TurnSo s g one.moment objects_a_turn one.turn told.state told.entries) taken.aimed told.turns, moved.stands told.state told.left)

  turns_cut : (s0 : State) → s0.running ≡ None → s0.state.days ≡ pos 0 → IsSound s0 → (u : Shown S) (goal : Option ℕ) (turns : List OneTurn) (v : Shown S) (last : Option ℕ) (gone : ℕ)
      → TurnsOn contents may_give texts faults shows u goal turns v last → BooksSeen contents may_give texts faults u → OwnsSeen contents may_give texts faults v → InPhase s0 gone goal u
      → InPhase s0 (gone + left_by turns) last v
  turns_cut s0 idle days sound0 u goal [] v last gone (same, is) books owns phase =
      let count : gone ≡ gone + 0 = omega arith in
      subst (λ n. InPhase s0 n last v) count (subst (λ o. InPhase s0 gone o v) (sym is) (subst (InPhase s0 gone goal) (sym same) phase))
  turns_cut s0 idle days sound0 u goal (one ∷ more) v last gone (w, next, taken, goes, follows, rest) books owns phase =
      let later = below_done contents may_give texts faults u one.place (deed_of one) w taken.done books in
      let owned = turns_owns w next more v last rest later owns in
      let now = took u goal one w taken books owned phase.s phase.stands in
      let on = turn_phase s0 phase.s now.0 gone goal next one.moment objects_a_turn one.turn now.1 idle days sound0 phase.sound now.2 goes phase.phase (next_of goal w next now.0 follows now.3) in
      let count : (gone + length (removed_in one.turn)) + left_by more ≡ gone + left_by (one ∷ more) =
      (let sum = sum_by-cons (λ (x : OneTurn). length (removed_in x.turn)) one more in omega (arith, sum)) in
      subst (λ n. InPhase s0 n last v) count
      (turns_cut s0 idle days sound0 w next more v last (gone + length (removed_in one.turn)) rest later owns (record { s = now.0; stands = now.3; sound = on.1; phase = on.0 }))

  -- what stands as it was told done
  pub record EndsWell (s0 : State) (removed : ℕ) (v : Shown S) : Type 0 where
    pub t : State
    pub stands : StandsAt contents may_give texts faults v t
    pub sound : IsSound t
    pub gone : ℕ
    pub collects : EndsCut s0 t gone
    pub count : removed ≡ told gone

  done_count : (number number2 removed removed2 taken taken2 : ℕ) → collected.Done number removed taken ≡ collected.Done number2 removed2 taken2 → removed ≡ removed2
  done_count number number2 removed removed2 taken taken2 is = cc

  done_not : (number removed taken : ℕ) (why : Refusal) (ends : Collected) → ends ≡ collected.Done number removed taken → ends ≡ collected.Refused why → ⊥
  done_not number removed taken why ends done refused = cc

  -- the pass owned what was seen as it began
  ends_owns : (u : Shown S) (ends : Collected) (turns : List OneTurn) (v : Shown S) (drawn number removed taken : ℕ) → EndsSo contents may_give texts faults shows u ends turns v drawn
      → ends ≡ collected.Done number removed taken → BooksSeen contents may_give texts faults u → OwnsSeen contents may_give texts faults v → OwnsSeen contents may_give texts faults u
  ends_owns u ends turns v drawn number removed taken (EndsSo.ended before goal w last on one fits is tells) done books owns =
      turns_owns u None before w goal on books (owns_before contents may_give texts faults w last.place (deed_of last) v one.done (turns_books u None before w goal on books) owns)
  ends_owns u ends turns v drawn number removed taken (EndsSo.over n w last on one fits is tells) done books owns =
      turns_owns u None turns w (Some n) on books (owns_before contents may_give texts faults w last.place (deed_of last) v one.done (turns_books u None turns w (Some n) on books) owns)
  ends_owns u ends turns v drawn number removed taken (EndsSo.spent goal on fits is) done books owns = absurd (done_not number removed taken _ ends done is)

  -- and its history goes on
  ends_goes : (u : Shown S) (ends : Collected) (turns : List OneTurn) (v : Shown S) (drawn : ℕ) → EndsSo contents may_give texts faults shows u ends turns v drawn → GoesOn u v
  ends_goes u ends turns v drawn (EndsSo.ended before goal w last on one fits is tells) =
      goes_then u w v (turns_goes u None before w goal on) (done_goes contents may_give texts faults w last.place (deed_of last) v one.done)
  ends_goes u ends turns v drawn (EndsSo.over n w last on one fits is tells) =
      goes_then u w v (turns_goes u None turns w (Some n) on) (done_goes contents may_give texts faults w last.place (deed_of last) v one.done)
  ends_goes u ends turns v drawn (EndsSo.spent goal on fits is) = turns_goes u None turns v goal on

  ends_cut : (s0 : State) → s0.running ≡ None → s0.state.days ≡ pos 0 → IsSound s0 → (u : Shown S) (ends : Collected) (turns : List OneTurn) (v : Shown S) (drawn : ℕ) (number removed taken : ℕ)
      → EndsSo contents may_give texts faults shows u ends turns v drawn → ends ≡ collected.Done number removed taken → BooksSeen contents may_give texts faults u
      → OwnsSeen contents may_give texts faults v → StandsAt contents may_give texts faults u s0 → EndsWell s0 removed v
  ends_cut s0 idle days sound0 u ends turns v drawn number removed taken (EndsSo.ended before goal w last on one fits is tells) done books owns stands =
      let later = turns_books u None before w goal on books in
      let owned = owns_before contents may_give texts faults w last.place (deed_of last) v one.done later owns in
      let phase = turns_cut s0 idle days sound0 u None before w goal 0 on books owned (record { s = s0; stands = stands; sound = sound0; phase = (refl, refl) }) in
      let took_last = took w goal last v one later owns phase.s phase.stands in
      let sum : left_by turns ≡ left_by before + length (removed_in last.turn) =
      ap left_by is ∙ sum_by_push (λ (x : OneTurn). length (removed_in x.turn)) before last in
      by last.turn took_last.0 took_last.1 phase took_last.2 took_last.3 (subst (λ n. EndsAs last.turn n (length turns) ends) sum tells)
    where
      by : (x : Turn) (t : State) (es : List Entry) (phase : InPhase s0 (0 + left_by before) goal w) → TurnSo phase.s goal last.moment objects_a_turn x t es
          → StandsAt contents may_give texts faults v t → EndsAs x (left_by before + length (removed_in x)) (length turns) ends → EndsWell s0 removed v
      by (turn.Began n) t es phase so now none = absurd none
      by (turn.Marked count) t es phase so now none = absurd none
      by (turn.Swept keys) t es phase so now none = absurd none
      by (turn.Ended n) t es phase so now tells =
          let end = turn_ends s0 phase.s t (0 + left_by before) goal last.moment objects_a_turn n es idle phase.sound so phase.phase in
          let count : removed ≡ told (left_by before + 0) = done_count number n removed (told (left_by before + 0)) taken (told (length turns)) (sym done ∙ tells) in
          let same : left_by before + 0 ≡ 0 + left_by before = omega arith in
          record { t = t; stands = now; sound = end.1; gone = 0 + left_by before; collects = end.0; count = count ∙ ap told same }
      by (turn.Over n) t es phase so now none = absurd none
      by (turn.Refused why keys) t es phase so now tells = absurd (done_not number removed taken why ends done tells)
  ends_cut s0 idle days sound0 u ends turns v drawn number removed taken (EndsSo.over n w last on one fits is tells) done books owns stands =
      let later = turns_books u None turns w (Some n) on books in
      let owned = owns_before contents may_give texts faults w last.place (deed_of last) v one.done later owns in
      let phase = turns_cut s0 idle days sound0 u None turns w (Some n) 0 on books owned (record { s = s0; stands = stands; sound = sound0; phase = (refl, refl) }) in
      let took_last = took w (Some n) last v one later owns phase.s phase.stands in
      absurd (turn_not_over s0 phase.s took_last.0 (0 + left_by turns) (Some n) last.moment objects_a_turn n took_last.1
      (subst (λ x. TurnSo phase.s (Some n) last.moment objects_a_turn x took_last.0 took_last.1) is took_last.2) phase.phase)
  ends_cut s0 idle days sound0 u ends turns v drawn number removed taken (EndsSo.spent goal on fits is) done books owns stands = absurd (done_not number removed taken _ ends done is)

  -- a collection of a hall that was told done, of a library at rest that keeps no history
  pub collect_leads : (us vs : List (Shown S)) (lib : List ℕ) (secret : Option (List ℕ)) (ends : Collected) (lines : List Line) (draws : List ℕ) (number removed taken : ℕ)
      → ((u : Shown S) → us ≡ u ∷ [] → BooksSeen contents may_give texts faults u) → CollectsSo contents may_give texts faults shows us lib secret ends lines vs draws
      → ends ≡ collected.Done number removed taken
      → Leads contents faults us vs IsResting (Collects removed)
  collect_leads us vs lib secret ends lines draws number removed taken books (CollectsSo.nowhere away is empty same) done = absurd (done_not number removed taken _ ends done is)
  collect_leads us vs lib secret ends lines draws number removed taken books (CollectsSo.denied library u at may is empty same) done = absurd (done_not number removed taken _ ends done is)
  collect_leads us vs lib secret ends lines draws number removed taken books (CollectsSo.went library u at may turns v drawn how seen drew lines_are is) done = record {
    own = λ owns. let one = alone owns in record { only = u; is = one.0; each = ends_owns u ends turns v drawn number removed taken how done (books u one.0) one.2 };
    goes = λ owns x y was is_y. let one = alone owns in one_goes us vs u v x y one.0 one.1 (ends_goes u ends turns v drawn how) was is_y;
    to = λ owns s now kind. leads s now kind (alone owns);
  }
    where
      alone : IsOwn vs → (us ≡ u ∷ []) × (vs ≡ v ∷ []) × OwnsSeen contents may_give texts faults v
      alone owns =
          let set = alone_set us library u v owns.only at.at (sym is ∙ owns.is) in
          (set.0, owns.is ∙ ap (λ (w : Shown S). w ∷ []) set.1, subst (OwnsSeen contents may_give texts faults) set.1 owns.each)

      leads : (s : State) → IsNow contents faults us s → IsResting s → (us ≡ u ∷ []) × (vs ≡ v ∷ []) × OwnsSeen contents may_give texts faults v
          → (t : State) × IsNow contents faults vs t × Collects removed s t
      leads s now resting (alone_is, one, after) =
          let well = ends_cut s resting.0 resting.1 now.sound u ends turns v drawn number removed taken how done (books u alone_is) after
          (led_now contents may_give texts faults us vs u alone_is s now) in (
            well.t,
            record {
              only = v;
              is = one;
              there = well.stands.there;
              stood = well.stands.stood;
              told = well.stands.told;
              sound = well.sound;
            },
            record {
              gone = well.gone;
              size = well.collects.cut.size;
              count = well.count;
              left = well.collects.cut.left;
              alone = ap length well.collects.cut.cut.is;
              last = λ front install is. well.collects.cut.cut.is ∙ ap (λ (x : Install). x ∷ []) (well.collects.cut.cut.ends front install is);
              head = ap head_of well.collects.cut.cut.is ∙ well.collects.cut.cut.head;
              agree = well.collects.cut.agree;
              clean = well.collects.clean;
              days = well.collects.cut.days;
            },
          )

-- How many turns a collection takes that is asked of a hall. The key lemma is few_taken.
use Rattle.std.proofs.Common.{◌≡◌, ◌⊎◌, ⊎_elim, inl, inr, ℕ, zero, suc, ◌+◌, ◌-◌, ◌*◌, ◌≤◌, ◌<◌, true, List, [], ◌∷◌, ◌++◌, length, length-append, refl, sym, ◌∙◌, ap, subst, true≢false, arith, zero-le, Option, None, Some}
use Rattle.std.specs.Prelude.{option_map}
use Rattle.std.specs.List.{slice_get}
use mathlib.Core.List.{IsPrefix}
use Rattle.ids.specs.Key.{Objects}
use Rattle.ids.specs.declared.key.Key.{Key}
use Rattle.library_rules.specs.CollectionSteps.{SweepPermits, Sweeps}
use Rattle.library_rules.specs.History.{StepPermits}
use Rattle.library_rules.specs.LibraryState.{Running, State}
use Rattle.library_rules.specs.Turns.{TakesStep}
use Rattle.library_rules.specs.declared.entry.Entry.{Entry}
use Rattle.library_rules.specs.declared.entry.Step.TheVariants as rule_step
use Rattle.library_state.specs.declared.reply.Reply.TheVariants as reply
use Rattle.library_state.specs.declared.state.LibState.{LibState}
use Rattle.object_store.specs.Shelf.{Contents}
use Rattle.object_store.specs.StoreView.{objects_of}
use Rattle.object_store.specs.declared.shelf.Slot.{Slot}
use Rattle.depot.specs.CollectionTurns.{TurnSo}
use Rattle.depot.specs.DepotView.{DepotView, running_library, state_of}
use Rattle.depot.specs.Story.{IsSame, IsTurned, LeadsTo, same_itself}
use Rattle.depot.specs.declared.story.Change.{Change}
use Rattle.depot.specs.declared.turn.Turn.{Turn}
use Rattle.depot.specs.declared.turn.Turn.TheVariants as turn
use Rattle.depot.proofs.StoryLemmas.{history_of, same_state}
use Rattle.turnstile.proofs.ListsLemmas.{prefix_refl, prefix_trans}
use Rattle.sync_calls.specs.Collecting.{EndsSo, GoesOnOver, IsTaken, OneTurn, RunsOver, TurnsOn, deed_of, goes_on, objects_a_turn}
use Rattle.sync_calls.specs.Collecting.EndsSo.{ended, over, spent}
use Rattle.sync_calls.specs.CollectTurn.{RunsAt}
use Rattle.sync_calls.specs.Operations.{IsChanging, IsReading}
use Rattle.sync_calls.specs.Shown.{Knows, Shown, library_after, library_at}
use Rattle.sync_calls.specs.declared.collecting.Collected.{Collected}
use Rattle.sync_calls.proofs.CollectingLemmas.{turns_grow}
use Rattle.sync_calls.proofs.EndLemmas.{RunsIn, number_runs, some_runs}
use Rattle.sync_calls.proofs.OverLemmas.{did, runs_there, some_same, turned_by}
use Rattle.sync_calls.proofs.RunLemmas.{IsRun, IsRunOrPast, none_runs, ran_on, run_on, same_run}

-- ---- places

-- of two numbers one is no greater
either : (a b : ℕ) → (a ≤ b) ⊎ (b ≤ a)
either zero b = inl zero-le
either (suc a) zero = inr zero-le
either (suc a) (suc b) = ⊎_elim (λ low. inl (omega (arith, low))) (λ low. inr (omega (arith, low))) (either a b)

-- one turn more of those that are left
one_more_left : (n least stored : ℕ) → least < 2 * stored → n ≤ 2 * stored - (least + 1) → suc n ≤ 2 * stored - least
one_more_left n least stored less few = omega (arith, less, few)

-- ---- libraries by their place

-- what is known first stays where it was
after_within : {V : Type 0} (start : Option V) (cs more : List (Change V)) (n : ℕ) → n ≤ length cs → library_after start (cs ++ more) n ≡ library_after start cs n
after_within start cs more zero low = refl
after_within start [] more (suc n) low = absurd (omega (arith, low))
after_within start (c ∷ cs) more (suc n) low = after_within (Some c.after.value) cs more n (omega (arith, low))

-- the library after a change
pub after_change : {V : Type 0} (start : Option V) (cs : List (Change V)) (n : ℕ) (c : Change V) → slice_get cs n ≡ Some c → library_after start cs (suc n) ≡ Some c.after.value
after_change start [] n c at = absurd (cc)
after_change {V} start (d ∷ cs) zero c at = ap (λ (o : Change V). Some o.after.value) (some_same at)
after_change start (d ∷ cs) (suc n) c at = after_change (Some d.after.value) cs n c at

module _ {S : Type 0} (contents : S → Option Contents) (may_give : S → Slot → Option (List ℕ) → Type 0) (texts faults : S → ℕ) where
  -- from the start to a place
  leads_to : (x : DepotView S) (cs : List (Change (DepotView S))) (y : DepotView S) (b : ℕ) (there : DepotView S) → LeadsTo contents may_give texts faults x cs y
      → library_after (Some x) cs b ≡ Some there → (ds : List (Change (DepotView S))) × LeadsTo contents may_give texts faults x ds there
  leads_to x cs y zero there leads at = ([], subst (λ (d : DepotView S). IsSame contents faults x d) (some_same at) (same_itself contents faults x))
  leads_to x [] y (suc b) there leads at = absurd (cc)
  leads_to x (c ∷ cs) y (suc b) there leads at =
      let more = leads_to c.after.value cs y b there leads.2 at in
      (c ∷ more.0, (leads.0, leads.1, more.1))

  -- from one place to a later one
  leads_between : (x : DepotView S) (cs : List (Change (DepotView S))) (y : DepotView S) (a b : ℕ) (here there : DepotView S) → LeadsTo contents may_give texts faults x cs y → a ≤ b
      → library_after (Some x) cs a ≡ Some here → library_after (Some x) cs b ≡ Some there → (ds : List (Change (DepotView S))) × LeadsTo contents may_give texts faults here ds there
  leads_between x cs y zero b here there leads low at then =
      subst (λ (d : DepotView S). (ds : List (Change (DepotView S))) × LeadsTo contents may_give texts faults d ds there) (some_same at) (leads_to x cs y b there leads then)
  leads_between x cs y (suc a) zero here there leads low at then = absurd (omega (arith, low))
  leads_between x [] y (suc a) (suc b) here there leads low at then = absurd (cc)
  leads_between x (c ∷ cs) y (suc a) (suc b) here there leads low at then = leads_between c.after.value cs y a b here there leads.2 (omega (arith, low)) at then

  -- one turn more comes only where there were fewer than two for each object
  fewer : (s : State) (r : Running) (moment : ℕ) (removed : List Key) (t : State) (es : List Entry) → s.running ≡ Some r → TakesStep s rule_step.Swept moment reply.Checked removed t es
      → r.turned < 2 * r.stored
  fewer s r moment removed t es runs takes =
      let permits : StepPermits s takes.entry rule_step.Swept = subst (StepPermits s takes.entry) takes.enters.is_step takes.enters.permitted.permits in
      let sweeps : Sweeps s r takes.entry = subst (SweepPermits s takes.entry) runs permits.0 in
      sweeps.few takes.enters.answers

  -- a library that is told
  abbrev IsTold : DepotView S → Type 0
  IsTold d = (s : State) × (state_of contents faults d ≡ Some s)

  -- the state has the collection that runs
  running_told : (d : DepotView S) (s : State) → state_of contents faults d ≡ Some s → s.running ≡ d.running
  running_told d s told = by (objects_of contents d.store) told
    where
      by : (o : Option Objects) → option_map (running_library d.state d.running (faults d.store.shelf)) o ≡ Some s → s.running ≡ d.running
      by None e = absurd (cc)
      by (Some held) e = ap (λ (t : State). t.running) (sym (some_same e))

  -- ---- a turn that goes on

  turned_up : (number stored least : ℕ) (old new : DepotView S) (s : State) (moment : ℕ) (removed : List Key) (t : State) (es : List Entry) (run : IsRun number stored least old)
      → state_of contents faults old ≡ Some s → TakesStep s rule_step.Swept moment reply.Checked removed t es
      → new.running ≡ option_map {T = Running} (λ (r : Running). record r { turned = r.turned + 1 }) old.running → new.state ≡ old.state
      → (least < 2 * stored) × IsRun number stored (least + 1) new × (new.running ≡ old.running → ⊥)
  turned_up number stored least old new s moment removed t es run told takes runs left =
      let less = fewer s run.running moment removed t es (running_told old s told ∙ run.is) takes in
      let low = run.turned in
      let size = run.stored_is in
      let now : new.running ≡ Some (record run.running { turned = run.running.turned + 1 })
      = runs ∙ ap (λ o. option_map {T = Running} (λ (r : Running). record r { turned = r.turned + 1 }) o) run.is in (
        omega (arith, less, low, size),
        record {
          running = record run.running { turned = run.running.turned + 1 };
          is = now;
          number_is = run.number_is ∙ sym (ap (λ (l : LibState). l.collection) left);
          stored_is = run.stored_is;
          turned = omega (arith, low);
        },
        λ same. let clash = ap (λ (r : Running). r.turned) (some_same (sym now ∙ (same ∙ run.is))) in absurd (omega (arith, clash)),
      )

  goes_up : (number stored least : ℕ) (old new : DepotView S) (s : State) (goal : Option ℕ) (moment : ℕ) (taken : Turn) → goal ≡ Some number → IsRunOrPast number stored least old
      → state_of contents faults old ≡ Some s → IsTurned contents may_give texts faults old goal moment objects_a_turn taken new → goes_on taken ≡ true
      → (least < 2 * stored) × IsRun number stored (least + 1) new × (new.running ≡ old.running → ⊥)
  goes_up number stored least old new s goal moment taken aimed (inr past) told is goes =
      absurd (true≢false (sym goes ∙ ap goes_on (is.takes.may_come.over number aimed past.stops)))
  goes_up number stored least old new s goal moment (turn.Began n) aimed (inl run) told is goes =
      let idle : old.running ≡ None = is.takes.may_come.may.1 in let clash : None ≡ Some run.running = sym idle ∙ run.is in absurd (cc)
  goes_up number stored least old new s goal moment (turn.Marked count) aimed (inl run) told is goes =
      let tells = is.takes.told s told in
      let turns : TurnSo s goal moment objects_a_turn (turn.Marked count) tells.state tells.entries = tells.turns in
      turned_up number stored least old new s moment [] tells.state tells.entries run told turns.2 is.takes.runs is.takes.left
  goes_up number stored least old new s goal moment (turn.Swept keys) aimed (inl run) told is goes =
      let tells = is.takes.told s told in
      let turns : TurnSo s goal moment objects_a_turn (turn.Swept keys) tells.state tells.entries = tells.turns in
      turned_up number stored least old new s moment keys tells.state tells.entries run told turns.2 is.takes.runs is.takes.left
  goes_up number stored least old new s goal moment (turn.Ended n) aimed (inl run) told is goes = absurd (true≢false (sym goes))
  goes_up number stored least old new s goal moment (turn.Over n) aimed (inl run) told is goes = absurd (true≢false (sym goes))
  goes_up number stored least old new s goal moment (turn.Refused why keys) aimed (inl run) told is goes = absurd (true≢false (sym goes))

  -- ---- in one history

  module _ (shows : ℕ → Type 0) (x : DepotView S) (all : List (Change (DepotView S))) (y : DepotView S) (leads : LeadsTo contents may_give texts faults x all y)
      (s : State) (told : state_of contents faults x ≡ Some s) where
    -- what is shown is of this history
    abbrev IsIn : Shown S → Type 0
    IsIn w = (w.start ≡ Some x) × IsPrefix w.seen all

    in_all : (w : Shown S) (n : ℕ) → IsIn w → n ≤ length w.seen → library_after (Some x) all n ≡ library_at w n
    in_all w n is low =
        ap (λ (l : List (Change (DepotView S))). library_after (Some x) l n) (sym is.1.1)
        ∙ (after_within (Some x) w.seen is.1.0 n low ∙ ap (λ (o : Option (DepotView S)). library_after o w.seen n) (sym is.0))

    -- each library of it is told
    told_at : (n : ℕ) (there : DepotView S) → library_after (Some x) all n ≡ Some there → (t : State) × (state_of contents faults there ≡ Some t)
    told_at n there at = let to = leads_to x all y n there leads at in (_, (history_of contents may_give texts faults x to.0 there s to.1 told).last)

    -- the collection runs after all that is shown
    pub record RunAt (number stored least : ℕ) (w : Shown S) : Type 0 where
      pub there : DepotView S
      pub stood : library_at w (length w.seen) ≡ Some there
      pub run : IsRun number stored least there

    -- at a later place it runs or is past
    then_run : (number stored least : ℕ) (u w : Shown S) (place : ℕ) (there before : DepotView S) → IsIn u → IsIn w → RunAt number stored least u → length u.seen ≤ place → place ≤ length w.seen
        → library_at w place ≡ Some there → IsSame contents faults there before → IsRunOrPast number stored least before
    then_run number stored least u w place there before in_u in_w run low below stood same =
        let to = leads_between x all y (length u.seen) place run.there there leads low (in_all u (length u.seen) in_u (omega arith) ∙ run.stood) (in_all w place in_w below ∙ stood) in
        same_run contents may_give texts faults number stored least there before same (run_on contents may_give texts faults number stored least run.there to.0 there to.1 (inl run.run))

    one_up : (number stored least : ℕ) (u : Shown S) (one : OneTurn) (w : Shown S) → IsIn u → IsIn w → RunAt number stored least u → IsTaken contents may_give texts faults shows u (Some number) one w
        → goes_on one.turn ≡ true → (least < 2 * stored) × RunAt number stored (least + 1) w
    one_up number stored least u one w in_u in_w run taken goes = by taken.done
      where
        by : IsReading contents may_give texts faults u one.place (deed_of one) w ⊎ IsChanging contents may_give texts faults u one.place (deed_of one) w
            → (least < 2 * stored) × RunAt number stored (least + 1) w
        by (inl reads) =
            let read = reads.reads in
            let whole = reads.whole in
            let below : one.place ≤ length w.seen = omega (arith, whole) in
            let state = told_at one.place read.there (in_all w one.place in_w below ∙ read.stood) in
            let before = then_run number stored least u w one.place read.there read.before in_u in_w run reads.new.0 below read.stood read.same in
            let up = goes_up number stored least read.before read.after state.0 one.goal one.moment one.turn taken.aimed before (same_state read.same state.1) read.does goes in
            absurd (up.2 read.stays.running)
        by (inr changes) =
            let whole = changes.whole in
            let below : one.place ≤ length w.seen = omega (arith, whole) in
            let size : length w.seen ≡ suc one.place = omega (arith, whole) in
            let state = told_at one.place changes.there (in_all w one.place in_w below ∙ changes.stood) in
            let before = then_run number stored least u w one.place changes.there changes.change.before.value in_u in_w run changes.new.0 below changes.stood changes.follows in
            let is = turned_by contents may_give texts faults changes.change.made changes.change.moment changes.change.before.value changes.change.after.value one.goal one.moment objects_a_turn one.turn
            changes.made changes.links.by in
            let up = goes_up number stored least changes.change.before.value changes.change.after.value state.0 one.goal one.moment one.turn taken.aimed before
            (same_state changes.follows state.1) is goes in
            (up.0, record { there = changes.change.after.value; stood = ap (λ n. library_at w n) size ∙ after_change w.start w.seen one.place changes.change changes.at; run = up.1 })

    -- so each turn takes one of those that are left
    later : (number stored least : ℕ) (u : Shown S) (turns : List OneTurn) (w : Shown S) (last : Option ℕ) → IsIn u → IsIn w → RunAt number stored least u
        → TurnsOn contents may_give texts faults shows u (Some number) turns w last → length turns ≤ 2 * stored - least
    later number stored least u [] w last in_u in_w run on = zero-le
    later number stored least u (one ∷ turns) w last in_u in_w run (mid, next, taken, goes, follows, rest) =
        let more = turns_grow contents may_give texts faults shows mid next turns w last rest in
        let in_mid : IsIn mid = (sym more.0 ∙ in_w.0, prefix_trans mid.seen w.seen all more.1 in_w.1) in
        let up = one_up number stored least u one mid in_u in_mid run taken goes in
        one_more_left (length turns) least stored up.0
        (later number stored (least + 1) mid turns w last in_mid in_w up.1 (subst (λ (g : Option ℕ). TurnsOn contents may_give texts faults shows mid g turns w last) follows rest))

    -- the collection of the goal was begun over so many objects
    first_run : (number stored : ℕ) (w v : Shown S) → IsIn w → v.start ≡ Some x → v.seen ≡ all → RunsAt w (Some number) → RunsOver (Some number) stored v → RunAt number stored 0 w
    first_run number stored w v in_w starts whole runs begun =
        record { there = runs.there; stood = runs.stood; run = by (runs_there contents may_give texts faults runs.there number runs.runs) (either begun.place (length w.seen)) }
      where
        here : library_after (Some x) all (length w.seen) ≡ Some runs.there
        here = in_all w (length w.seen) in_w (omega arith) ∙ runs.stood

        at : library_after (Some x) all begun.place ≡ Some begun.depot
        at = ap (λ (l : List (Change (DepotView S))). library_after (Some x) l begun.place) (sym whole) ∙ (ap (λ (o : Option (DepotView S)). library_after o v.seen begun.place) (sym starts) ∙ begun.at)

        same_number : number ≡ begun.depot.state.collection
        same_number = some_same begun.aimed ∙ begun.number_is

        -- the run of a library in which one runs
        own_run : (d : DepotView S) → RunsIn number d → (r : Running) × (d.running ≡ Some r) × IsRun number r.stored 0 d
        own_run d now = find d.running refl
          where
            find : (o : Option Running) → d.running ≡ o → (r : Running) × (d.running ≡ Some r) × IsRun number r.stored 0 d
            find None is = absurd (none_runs number d is now)
            find (Some r) is = (r, is, record { running = r; is = is; number_is = number_runs d.running d.state.collection number now; stored_is = refl; turned = zero-le })

        by : RunsIn number runs.there → (begun.place ≤ length w.seen) ⊎ (length w.seen ≤ begun.place) → IsRun number stored 0 runs.there
        by now (inl before) =
            let to = leads_between x all y begun.place (length w.seen) begun.depot runs.there leads before at here in
            ran_on contents may_give texts faults number stored 0 begun.depot to.0 runs.there to.1
            (record { running = begun.running; is = begun.runs; number_is = same_number; stored_is = begun.stored_is; turned = zero-le }) now
        by now (inr behind) =
            let own = own_run runs.there now in
            let to = leads_between x all y (length w.seen) begun.place runs.there begun.depot leads behind here at in
            let there = ran_on contents may_give texts faults number own.0.stored 0 runs.there to.0 begun.depot to.1 own.2 (some_runs begun.depot.running begun.depot.state.collection number begun.running begun.runs same_number) in
            let same : own.0.stored ≡ stored = sym there.stored_is ∙ (ap (λ (r : Running). r.stored) (some_same (sym there.is ∙ begun.runs)) ∙ begun.stored_is) in
            subst (λ n. IsRun number n 0 runs.there) same own.2

    -- the turns behind the first that went on
    few_later : (stored : ℕ) (w v : Shown S) (next : Option ℕ) (two : OneTurn) (more : List OneTurn) (z : Shown S) (last : Option ℕ) → IsIn w → IsIn z → v.start ≡ Some x → v.seen ≡ all → RunsAt w next
        → TurnsOn contents may_give texts faults shows w next (two ∷ more) z last → RunsOver two.goal stored v → length (two ∷ more) ≤ 2 * stored
    few_later stored w v next two more z last in_w in_z starts whole runs on begun =
        let aimed : next ≡ Some begun.number = sym on.2.aimed ∙ begun.aimed in
        let run = first_run begun.number stored w v in_w starts whole (subst (λ (g : Option ℕ). RunsAt w g) aimed runs)
        (record { number = begun.number; aimed = refl; place = begun.place; depot = begun.depot; at = begun.at; running = begun.running; runs = begun.runs; number_is = begun.number_is; stored_is = begun.stored_is }) in
        let few = later begun.number stored 0 w (two ∷ more) z last in_w in_z run (subst (λ (g : Option ℕ). TurnsOn contents may_give texts faults shows w g (two ∷ more) z last) aimed on) in
        omega (arith, few)

    -- all that went on
    few_on : (stored : ℕ) (u v : Shown S) (turns : List OneTurn) (z : Shown S) (last : Option ℕ) → IsIn z → v.start ≡ Some x → v.seen ≡ all → TurnsOn contents may_give texts faults shows u None turns z last
        → GoesOnOver turns stored v → length turns ≤ 2 * stored + 1
    few_on stored u v [] z last in_z starts whole on begun = zero-le
    few_on stored u v (one ∷ []) z last in_z starts whole on begun = omega arith
    few_on stored u v (one ∷ two ∷ more) z last in_z starts whole (w, next, taken, goes, runs, rest) begun =
        let grows = turns_grow contents may_give texts faults shows w next (two ∷ more) z last rest in
        let in_w : IsIn w = (sym grows.0 ∙ in_z.0, prefix_trans w.seen z.seen all grows.1 in_z.1) in
        let few = few_later stored w v next two more z last in_w in_z starts whole runs rest begun in
        let size : length (one ∷ two ∷ more) ≡ length (two ∷ more) + 1 = omega arith in
        omega (arith, few, size)

  -- ---- all of them

  -- the same of the turns before the last one
  begun_before : (before : List OneTurn) (last : OneTurn) (stored : ℕ) (v : Shown S) → GoesOnOver (before ++ last ∷ []) stored v → GoesOnOver before stored v
  begun_before [] last stored v begun = tt
  begun_before (one ∷ []) last stored v begun = tt
  begun_before (one ∷ two ∷ more) last stored v begun = begun

  pub few_taken : (shows : ℕ → Type 0) (u v : Shown S) (start : DepotView S) (s : State) (ends : Collected) (turns : List OneTurn) (drawn stored : ℕ) → v.start ≡ Some start
      → state_of contents faults start ≡ Some s → Knows contents may_give texts faults v → EndsSo contents may_give texts faults shows u ends turns v drawn → GoesOnOver turns stored v
      → length turns ≤ 2 * stored + 2
  few_taken shows u v start s ends turns drawn stored begins told knows so begun = by so
    where
      leads : LeadsTo contents may_give texts faults start v.seen knows.last
      leads = subst (λ (x : DepotView S). LeadsTo contents may_give texts faults x v.seen knows.last) (some_same (sym knows.begins ∙ begins)) knows.leads

      by : EndsSo contents may_give texts faults shows u ends turns v drawn → length turns ≤ 2 * stored + 2
      by (ended before goal w last on taken less is tells) =
          let one = did contents may_give texts faults shows w goal last v taken in
          let few = few_on shows start v.seen knows.last leads s told stored u v before w goal (sym one.start ∙ begins, one.grows) begins refl on
          (begun_before before last stored v (subst (λ ts. GoesOnOver ts stored v) is begun)) in
          let size = ap length is in
          let added = length-append before (last ∷ []) in
          omega (arith, few, size, added)
      by (over number w last on taken less is told_so) =
          let one = did contents may_give texts faults shows w (Some number) last v taken in
          let few = few_on shows start v.seen knows.last leads s told stored u v turns w (Some number) (sym one.start ∙ begins, one.grows) begins refl on begun in
          omega (arith, few)
      by (spent goal on is told_so) =
          let few = few_on shows start v.seen knows.last leads s told stored u v turns v goal (begins, prefix_refl v.seen) begins refl on begun in
          omega (arith, few)

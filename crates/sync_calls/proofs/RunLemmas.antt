-- One collection through a history: while it runs it is over as many objects, and its turns don't fall; once it doesn't run it never
-- runs again. The key lemmas are run_on and ran_on.
use Rattle.std.proofs.Common.{◌≡◌, ◌≢◌, ◌⊎◌, ⊎_elim, inl, inr, ℕ, ◌+◌, ◌≤◌, ◌<◌, List, [], ◌∷◌, refl, sym, ◌∙◌, ap, subst, arith, Option, None, Some}
use Rattle.std.specs.Prelude.{option_map}
use Rattle.std.specs.FinMap as map
use Rattle.library_rules.specs.LibraryState.{Running}
use Rattle.library_state.specs.declared.call.Call.{Call}
use Rattle.library_state.specs.declared.reply.Reply.{Reply}
use Rattle.library_state.specs.declared.state.LibState.{LibState}
use Rattle.object_store.specs.Shelf.{Contents}
use Rattle.object_store.specs.declared.shelf.Slot.{Slot}
use Rattle.depot.specs.CollectionTurns.{IsRunning, MayTurn, running_after_turn, state_after_turn}
use Rattle.depot.specs.DepotView.{DepotView}
use Rattle.depot.specs.FreshKeys.{GoesOn, RunsOn, told_there}
use Rattle.depot.specs.Story.{IsAnswered, IsSame, IsTurned, LeadsTo, Links, MadeBy}
use Rattle.depot.specs.declared.story.Change.{Change}
use Rattle.depot.specs.declared.story.Made.{Made}
use Rattle.depot.specs.declared.story.Made.TheVariants as made
use Rattle.depot.specs.declared.turn.Turn.{Turn}
use Rattle.depot.specs.declared.turn.Turn.TheVariants as turn
use Rattle.sync_calls.proofs.EndLemmas.{RunsIn, number_runs, some_runs, stays_by}

-- the collection of this number runs, over so many objects, with so many turns at least
pub record IsRun {S : Type 0} (number stored least : ℕ) (depot : DepotView S) : Type 0 where
  pub running : Running
  pub is : depot.running ≡ Some running
  pub number_is : number ≡ depot.state.collection
  pub stored_is : running.stored ≡ stored
  pub turned : least ≤ running.turned

-- it doesn't run, and can't begin again
pub record IsPast {S : Type 0} (number : ℕ) (depot : DepotView S) : Type 0 where
  pub low : number ≤ depot.state.collection
  pub stops : RunsIn number depot → ⊥

abbrev pub IsRunOrPast : {S : Type 0} → (number stored least : ℕ) → DepotView S → Type 0
IsRunOrPast number stored least depot = IsRun number stored least depot ⊎ IsPast number depot

-- that of another library with the same collection
like : {S : Type 0} (number stored least : ℕ) (old new : DepotView S) → new.running ≡ old.running → new.state.collection ≡ old.state.collection → IsRunOrPast number stored least old
    → IsRunOrPast number stored least new
like number stored least old new running collection (inl run) =
    inl (record { running = run.running; is = running ∙ run.is; number_is = run.number_is ∙ sym collection; stored_is = run.stored_is; turned = run.turned })
like number stored least old new running collection (inr past) = inr (record {
  low = subst (λ n. number ≤ n) (sym collection) past.low;
  stops = λ runs. past.stops (subst (λ o. IsRunning o old.state.collection number) running (subst (λ n. IsRunning new.running n number) collection runs));
})

-- where none runs that of this number doesn't
pub none_runs : {S : Type 0} (number : ℕ) (depot : DepotView S) → depot.running ≡ None → RunsIn number depot → ⊥
none_runs number depot none runs = subst (λ o. IsRunning o depot.state.collection number) none runs

module _ {S : Type 0} (contents : S → Option Contents) (may_give : S → Slot → Option (List ℕ) → Type 0) (texts faults : S → ℕ) (number stored least : ℕ) where
  -- through a call
  called : (old new : DepotView S) (call : Call) (moment : ℕ) (r : Reply) → IsAnswered contents may_give texts faults old call moment r new → IsRunOrPast number stored least old
      → IsRunOrPast number stored least new
  called old new call moment r is before = by old.running refl before
    where
      same : new.state.collection ≡ old.state.collection
      same = ap (λ (s : LibState). s.collection) is.serves.left ∙ stays_by old.state call moment r

      next : (o : Option Running) → old.running ≡ o → RunsOn old.store.index new.store.index (told_there old.store.index call.act r) o new.running
      next o at = subst (λ p. RunsOn old.store.index new.store.index (told_there old.store.index call.act r) p new.running) at is.serves.fresh

      by : (o : Option Running) → old.running ≡ o → IsRunOrPast number stored least old → IsRunOrPast number stored least new
      by None at before = like number stored least old new (next None at ∙ sym at) same before
      by (Some r0) at (inl run) =
          let goes = next (Some r0) at in
          let one : r0 ≡ run.running = (let both = sym at ∙ run.is in cc) in
          let turned = run.turned in
          let first = goes.2.turned in
          let also = ap (λ (r : Running). r.turned) one in
          inl (record {
            running = goes.0;
            is = goes.1;
            number_is = run.number_is ∙ sym same;
            stored_is = goes.2.stored ∙ (ap (λ (r : Running). r.stored) one ∙ run.stored_is);
            turned = omega (arith, turned, first, also);
          })
      by (Some r0) at (inr past) = inr (record {
        low = subst (λ n. number ≤ n) (sym same) past.low;
        stops = λ runs. past.stops (some_runs old.running old.state.collection number r0 at (number_runs new.running new.state.collection number runs ∙ same));
      })

  -- one turn more of one that runs
  more_run : (old new : DepotView S) → new.running ≡ option_map {T = Running} (λ (r : Running). record r { turned = r.turned + 1 }) old.running → new.state ≡ old.state
      → IsRunOrPast number stored least old → IsRunOrPast number stored least new
  more_run old new runs left (inl run) =
      let turned = run.turned in
      inl (record {
        running = record run.running { turned = run.running.turned + 1 };
        is = runs ∙ ap (λ o. option_map {T = Running} (λ (r : Running). record r { turned = r.turned + 1 }) o) run.is;
        number_is = run.number_is ∙ sym (ap (λ (s : LibState). s.collection) left);
        stored_is = run.stored_is;
        turned = omega (arith, turned);
      })
  more_run old new runs left (inr past) = inr (record {
    low = subst (λ n. number ≤ n) (sym (ap (λ (s : LibState). s.collection) left)) past.low;
    stops = λ here. past.stops (by old.running refl (number_runs new.running new.state.collection number here ∙ ap (λ (s : LibState). s.collection) left) here);
  })
    where
      by : (o : Option Running) → old.running ≡ o → number ≡ old.state.collection → RunsIn number new → RunsIn number old
      by None at same here = absurd (none_runs number new (runs ∙ ap (λ p. option_map {T = Running} (λ (r : Running). record r { turned = r.turned + 1 }) p) at) here)
      by (Some r) at same here = some_runs old.running old.state.collection number r at same

  -- through a turn
  turned : (old new : DepotView S) (goal : Option ℕ) (moment most : ℕ) (taken : Turn) → IsTurned contents may_give texts faults old goal moment most taken new → IsRunOrPast number stored least old
      → IsRunOrPast number stored least new
  turned old new goal moment most taken is before = by taken is.takes.runs is.takes.left is.takes.may_come.may
    where
      low : number ≤ old.state.collection
      low = ⊎_elim (λ (run : IsRun number stored least old). let same = run.number_is in omega (arith, same)) (λ (past : IsPast number old). past.low) before

      by : (t : Turn) → new.running ≡ running_after_turn (map.len old.store.index) old.running t → new.state ≡ state_after_turn old.state moment t
          → MayTurn old.store.index (may_give new.store.shelf) old.running old.state.collection goal t → IsRunOrPast number stored least new
      by (turn.Began n) runs left may =
          let risen : new.state.collection ≡ old.state.collection + 1 = ap (λ (s : LibState). s.collection) left in
          let below = low in
          inr (record {
            low = omega (arith, risen, below);
            stops = λ here. let same = number_runs new.running new.state.collection number here in absurd (omega (arith, risen, below, same));
          })
      by (turn.Marked count) runs left may = more_run old new runs left before
      by (turn.Swept keys) runs left may = more_run old new runs left before
      by (turn.Ended n) runs left may = inr (record { low = subst (λ k. number ≤ k) (sym (ap (λ (s : LibState). s.collection) left)) low; stops = none_runs number new runs })
      by (turn.Over n) runs left may = like number stored least old new runs (ap (λ (s : LibState). s.collection) left) before
      by (turn.Refused why keys) runs left may = like number stored least old new runs (ap (λ (s : LibState). s.collection) left) before

  changed : (change : Change (DepotView S)) → Links contents may_give texts faults change → IsRunOrPast number stored least change.before.value → IsRunOrPast number stored least change.after.value
  changed change links before = by change.made links.by
    where
      by : (m : Made) → MadeBy contents may_give texts faults m change.before.value change.moment change.after.value → IsRunOrPast number stored least change.after.value
      by (made.Asked call said) is = called change.before.value change.after.value call.value change.moment said.value is before
      by (made.Turned goal most taken) is = turned change.before.value change.after.value goal change.moment most taken.value is before

  pub same_run : (old new : DepotView S) → IsSame contents faults old new → IsRunOrPast number stored least old → IsRunOrPast number stored least new
  same_run old new same before = like number stored least old new same.running (ap (λ (s : LibState). s.collection) same.state) before

  -- through a history
  pub run_on : (x : DepotView S) (cs : List (Change (DepotView S))) (y : DepotView S) → LeadsTo contents may_give texts faults x cs y → IsRunOrPast number stored least x
      → IsRunOrPast number stored least y
  run_on x [] y leads before = same_run x y leads before
  run_on x (c ∷ cs) y leads before = run_on c.after.value cs y leads.2 (changed c leads.1 (same_run x c.before.value leads.0 before))

  -- so where it runs at the end it is the one that ran
  pub ran_on : (x : DepotView S) (cs : List (Change (DepotView S))) (y : DepotView S) → LeadsTo contents may_give texts faults x cs y → IsRun number stored least x → RunsIn number y
      → IsRun number stored least y
  ran_on x cs y leads run runs = ⊎_elim (λ (still : IsRun number stored least y). still) (λ (past : IsPast number y). absurd (past.stops runs)) (run_on x cs y leads (inl run))

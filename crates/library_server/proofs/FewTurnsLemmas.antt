-- How many turns a collection has that is asked for. The key lemmas are few_taken and last_taken.
use Rattle.std.proofs.Common.{◌≡◌, ℕ, suc, ◌+◌, ◌-◌, ◌*◌, ◌^◌, ◌≤◌, ◌<◌, true, List, [], ◌∷◌, ◌++◌, length, refl, sym, ap, ◌∙◌, subst, true≢false, arith, zero-le, Option, None, Some, option_map}
use Rattle.std.specs.FinMap as map
use Rattle.std.specs.List.{AllByRecursion}
use Rattle.std.proofs.lemmas.List.{length-append}
use Rattle.ids.specs.declared.key.Key.{Key}
use Rattle.depot.specs.CollectionTurns.{TakesTurn, TurnSo}
use Rattle.depot.specs.DepotView.{DepotView, state_of}
use Rattle.depot.specs.declared.turn.Turn.{Turn}
use Rattle.depot.specs.declared.turn.Turn.TheVariants.{Began, Marked, Swept, Ended, Over, Refused}
use Rattle.library_rules.specs.CollectionSteps.{SweepPermits, Sweeps}
use Rattle.library_rules.specs.History.{StepPermits}
use Rattle.library_rules.specs.LibraryState.{Running, State}
use Rattle.library_rules.specs.Turns.{TakesStep}
use Rattle.library_rules.specs.declared.entry.Entry.{Entry}
use Rattle.library_rules.specs.declared.entry.Step.TheVariants as step
use Rattle.library_state.specs.declared.reply.Reply.TheVariants as reply
use Rattle.object_store.specs.Shelf.{Contents}
use Rattle.object_store.specs.declared.shelf.Slot.{Slot}
use Rattle.worker_server.specs.declared.host.Collected.{Collected}
use Rattle.library_server.specs.Collecting.{IsLastOf, TakesTurns, TellsTurns, TurnsOn, begun_over, ended, endless, goes_on, known_as_begun, most_in_turn, number_running}
use Rattle.library_server.specs.Counting.{OpenedView}
use Rattle.library_server.proofs.CollectedLemmas.{running_is}

-- ---- numbers

one_turn_more : (n turned stored : ℕ) → turned < 2 * stored → n ≤ 2 * stored - (turned + 1) → suc n ≤ 2 * stored - turned
one_turn_more n turned stored less rest = omega (arith, less, rest)

after_begin : (n stored : ℕ) → n ≤ 2 * stored - 0 → suc n ≤ 2 * stored + 1
after_begin n stored rest = omega (arith, rest)

within : (n turned stored : ℕ) → n ≤ 2 * stored - turned → n ≤ 2 * stored + 1
within n turned stored few = omega (arith, few)

in_all : (m n most : ℕ) → m ≡ n + 1 → n ≤ 2 * most + 1 → m ≤ 2 * most + 2
in_all m n most is few = omega (arith, is, few)

fewer_still : (n most : ℕ) → n ≤ 2 * most + 1 → n ≤ 2 * most + 2
fewer_still n most few = omega (arith, few)

too_many : (n most : ℕ) → most < 2 ^ 62 → n ≤ 2 * most + 1 → n ≡ 18446744073709551615 → ⊥
too_many n most small few is = omega (arith, small, few, is)

-- ---- a turn that goes on

-- one of a collection that runs and isn't refused comes only where there were fewer than two for each object
fewer : (s : State) (r : Running) (moment : ℕ) (removed : List Key) (t : State) (es : List Entry) → s.running ≡ Some r → TakesStep s step.Swept moment reply.Checked removed t es
    → r.turned < 2 * r.stored
fewer s r moment removed t es runs takes =
    let permits : StepPermits s takes.entry step.Swept = subst (StepPermits s takes.entry) takes.enters.is_step takes.enters.permitted.permits in
    let sweeps : Sweeps s r takes.entry = subst (SweepPermits s takes.entry) runs permits.0 in
    sweeps.few takes.enters.answers

module _ {S : Type 0} (contents : S → Option Contents) (may_give : S → Slot → Option (List ℕ) → Type 0) (texts faults : S → ℕ) (shows : ℕ → Type 0) where
  goes_less : (u : DepotView S) (r : Running) (goal : Option ℕ) (moment : ℕ) (turn : Turn) (mid : DepotView S) (s : State) → state_of contents faults u ≡ Some s → u.running ≡ Some r
      → goes_on turn ≡ true → TakesTurn contents may_give texts faults u goal moment most_in_turn turn mid
      → (r.turned < 2 * r.stored) × (mid.running ≡ Some (record r { turned = r.turned + 1 }))
  goes_less u r goal moment (Began number) mid s told runs goes takes = let idle : u.running ≡ None = takes.may_come.may.1 in let clash : None ≡ Some r = sym idle ∙ runs in cc
  goes_less u r goal moment (Marked count) mid s told runs goes takes =
      let tells = takes.told s told in
      let turns : TurnSo s goal moment most_in_turn (Marked count) tells.state tells.entries = tells.turns in (
        fewer s r moment [] tells.state tells.entries (running_is contents faults u s told ∙ runs) turns.2,
        takes.runs ∙ ap (option_map {T = Running} (λ (r : Running). record r { turned = r.turned + 1 })) runs,
      )
  goes_less u r goal moment (Swept keys) mid s told runs goes takes =
      let tells = takes.told s told in
      let turns : TurnSo s goal moment most_in_turn (Swept keys) tells.state tells.entries = tells.turns in (
        fewer s r moment keys tells.state tells.entries (running_is contents faults u s told ∙ runs) turns.2,
        takes.runs ∙ ap (option_map {T = Running} (λ (r : Running). record r { turned = r.turned + 1 })) runs,
      )
  goes_less u r goal moment (Ended number) mid s told runs goes takes = absurd (true≢false (sym goes))
  goes_less u r goal moment (Over number) mid s told runs goes takes = absurd (true≢false (sym goes))
  goes_less u r goal moment (Refused why keys) mid s told runs goes takes = absurd (true≢false (sym goes))

  few_running : (u : OpenedView S) (r : Running) (goal : Option ℕ) (turns : List Turn) (v : OpenedView S) (s : State) → state_of contents faults u.depot ≡ Some s → u.depot.running ≡ Some r
      → AllByRecursion (λ turn. goes_on turn ≡ true) turns → TurnsOn contents may_give texts faults shows u goal turns v → length turns ≤ 2 * r.stored - r.turned
  few_running u r goal [] v s told runs goes same = zero-le
  few_running u r goal (turn ∷ turns) v s told runs goes (moment, mid, shown, takes, good, counts, more) =
      let one = goes_less u.depot r goal moment turn mid.depot s told runs goes.0 takes in
      let tells = takes.told s told in
      one_turn_more (length turns) r.turned r.stored one.0
      (few_running mid (record r { turned = r.turned + 1 }) (number_running mid.depot) turns v tells.state tells.left one.1 goes.1 more)

  few_idle : (u : OpenedView S) (goal : Option ℕ) (turns : List Turn) (v : OpenedView S) (s : State) → state_of contents faults u.depot ≡ Some s → u.depot.running ≡ None
      → AllByRecursion (λ turn. goes_on turn ≡ true) turns → TurnsOn contents may_give texts faults shows u goal turns v → length turns ≤ 2 * map.len u.depot.store.index + 1
  few_idle u goal [] v s told idle goes same = zero-le
  few_idle u goal (Began number ∷ turns) v s told idle goes (moment, mid, shown, takes, good, counts, more) =
      let tells = takes.told s told in
      after_begin (length turns) (map.len u.depot.store.index) (few_running mid _ (number_running mid.depot) turns v tells.state tells.left takes.runs goes.1 more)
  few_idle u goal (Marked count ∷ turns) v s told idle goes (moment, mid, shown, takes, good, counts, more) = absurd (takes.may_come.may idle)
  few_idle u goal (Swept keys ∷ turns) v s told idle goes (moment, mid, shown, takes, good, counts, more) = absurd (takes.may_come.may idle)
  few_idle u goal (Ended number ∷ turns) v s told idle goes on = absurd (true≢false (sym goes.0))
  few_idle u goal (Over number ∷ turns) v s told idle goes on = absurd (true≢false (sym goes.0))
  few_idle u goal (Refused why keys ∷ turns) v s told idle goes on = absurd (true≢false (sym goes.0))

  few_going : (u : OpenedView S) (turns : List Turn) (v : OpenedView S) (s : State) → state_of contents faults u.depot ≡ Some s → AllByRecursion (λ turn. goes_on turn ≡ true) turns
      → TurnsOn contents may_give texts faults shows u None turns v → length turns ≤ 2 * begun_over u.depot + 1
  few_going u turns v s told goes on = by u.depot.running refl
    where
      by : (running : Option Running) → u.depot.running ≡ running → length turns ≤ 2 * begun_over u.depot + 1
      by None is = subst (λ (o : Option Running). length turns ≤ 2 * known_as_begun (map.len u.depot.store.index) o + 1) (sym is) (few_idle u None turns v s told is goes on)
      by (Some r) is =
          subst (λ (o : Option Running). length turns ≤ 2 * known_as_begun (map.len u.depot.store.index) o + 1) (sym is)
          (within (length turns) r.turned r.stored (few_running u r None turns v s told is goes on))

  -- ---- all of them

  -- turns before the last one were taken too
  on_front : (u : OpenedView S) (goal : Option ℕ) (before : List Turn) (last : Turn) (v : OpenedView S) → TurnsOn contents may_give texts faults shows u goal (before ++ last ∷ []) v
      → (mid : OpenedView S) × TurnsOn contents may_give texts faults shows u goal before mid
  on_front u goal [] last v on = (u, refl)
  on_front u goal (turn ∷ before) last v (moment, mid, shown, takes, good, counts, more) =
      let rest = on_front mid (number_running mid.depot) before last v more in
      (rest.0, (moment, mid, shown, takes, good, counts, rest.1))

  pub few_taken : (old new : OpenedView S) (ends : Collected) (s : State) → state_of contents faults old.depot ≡ Some s
      → (takes : TakesTurns contents may_give texts faults shows old ends new) → length takes.0 ≤ 2 * begun_over old.depot + 2
  few_taken old new ends s told takes = by takes.2
    where
      by : TellsTurns takes.0 ends → length takes.0 ≤ 2 * begun_over old.depot + 2
      by (endless goes long is) = fewer_still (length takes.0) (begun_over old.depot) (few_going old takes.0 new s told goes takes.1)
      by (ended before last is goes tells) =
          let front = on_front old None before last new (subst (λ turns. TurnsOn contents may_give texts faults shows old None turns new) is takes.1) in
          in_all (length takes.0) (length before) (begun_over old.depot) (ap length is ∙ length-append before (last ∷ [])) (few_going old before front.0 s told goes front.1)

  pub last_taken : (old new : OpenedView S) (ends : Collected) (s : State) → state_of contents faults old.depot ≡ Some s → begun_over old.depot < 2 ^ 62
      → (takes : TakesTurns contents may_give texts faults shows old ends new) → IsLastOf takes.0 ends
  last_taken old new ends s told small takes = by takes.2
    where
      by : TellsTurns takes.0 ends → IsLastOf takes.0 ends
      by (endless goes long is) = absurd (too_many (length takes.0) (begun_over old.depot) small (few_going old takes.0 new s told goes takes.1) long)
      by (ended before last is goes tells) = record { before = before; last = last; is = is; tells = tells }

-- The cause of damage that is told in a connection in which collections are asked for. The key lemmas are collection_caused and
-- calls_caused.
use Rattle.std.proofs.Common.{◌≡◌, ◌≢◌, ◌⊎◌, ◌+◌, ◌++◌, inl, inr, ℕ, Bool, true, false, true≢false, List, [], ◌∷◌, refl, sym, ◌∙◌, subst, Option, None, Some, option_map}
use Rattle.std.specs.Prelude.{⊤}
use Rattle.std.specs.List.{AllByRecursion}
use Rattle.std.specs.Str.{bytes_eq}
use Rattle.std.proofs.lemmas.Slice.Eq.{bytes_eq-Decides}
use Rattle.ids.specs.declared.key.Key.{Key}
use Rattle.ids.proofs.BasicLemmas.{AllByRecursion-middle}
use Rattle.depot.specs.CollectionTurns.{MayTurn, TakesTurn, permits_collection}
use Rattle.depot.specs.DepotView.{DepotView}
use Rattle.depot.specs.declared.turn.Turn.{Turn}
use Rattle.depot.specs.declared.turn.Turn.TheVariants.{Began, Marked, Swept, Ended, Over, Refused}
use Rattle.library_rules.specs.Calls.{token_of}
use Rattle.library_rules.specs.LibraryState.{Running}
use Rattle.library_state.specs.declared.refusal.Refusal.{Refusal}
use Rattle.object_store.specs.Shelf.{Contents}
use Rattle.object_store.specs.Store.{has_other_name}
use Rattle.object_store.specs.declared.shelf.Slot.{Slot}
use Rattle.object_store.specs.declared.shelf.Slot.TheVariants.{Object}
use Rattle.worker_server.specs.Calls.{Told, Ran, call_asked, collection_asked, look_asked, rules_at}
use Rattle.worker_server.specs.declared.host.Collected.{Collected}
use Rattle.library_server.specs.Answering.{AnswersOn, AreCaused, IsCausedEnd, LooksOn, SparesOn, after_collection}
use Rattle.library_server.specs.Collecting.{CollectsOn, EndsAs, TellsTurns, TurnsOn, ended, endless, goes_on, most_in_turn, number_running, told_removed}
use Rattle.library_server.specs.Counting.{OpenedView}
use Rattle.library_server.proofs.CauseLemmas.{call_caused}
use Rattle.depot.specs.Damage.{IsCaused, OrNothing}
use Rattle.depot.proofs.DamageLemmas.{Harmless, IsCausedTurn, IsOfTurn, nothing_more, turn_caused, turn_harmless}
use Rattle.std.specs.FinMap as map
use Rattle.std.specs.FinSet as set
use Rattle.library_state.specs.declared.refusal.Refusal.TheVariants as refusal
use Rattle.worker_server.specs.declared.host.Collected.TheVariants as collected

-- the end of turns, and not the refusal of who asks or of a library
abbrev IsEndOfTurns : Collected → Type 0
IsEndOfTurns (collected.Refused why) = IsOfTurn why
IsEndOfTurns (collected.Done number removed) = ⊤

after_turns : (gives now : Slot → Option (List ℕ) → Type 0) (ends : Collected) → IsEndOfTurns ends → (ends ≡ collected.Refused refusal.Spent → Harmless gives now)
    → Harmless (OrNothing gives) now → Harmless (after_collection ends gives) now
after_turns gives now (collected.Refused refusal.Denied) none spent harmless = absurd none
after_turns gives now (collected.Refused refusal.NoLibrary) none spent harmless = absurd none
after_turns gives now (collected.Refused refusal.Spent) of_turn spent harmless = spent refl
after_turns gives now (collected.Refused other) of_turn spent harmless = harmless
after_turns gives now (collected.Done number removed) of_turn spent harmless = harmless

module _ {S : Type 0} (contents : S → Option Contents) (may_give : S → Slot → Option (List ℕ) → Type 0) (texts faults : S → ℕ) (shows : ℕ → Type 0) where
  turns_caused : (gives : Slot → Option (List ℕ) → Type 0) (u : OpenedView S) (goal : Option ℕ) (turns : List Turn) (v : OpenedView S) → Harmless (OrNothing gives) (may_give u.depot.store.shelf)
      → TurnsOn contents may_give texts faults shows u goal turns v → AllByRecursion (IsCausedTurn (OrNothing gives)) turns × Harmless (OrNothing gives) (may_give v.depot.store.shelf)
  turns_caused gives u goal [] v harmless same = (tt, subst (λ (w : OpenedView S). Harmless (OrNothing gives) (may_give w.depot.store.shelf)) (sym same) harmless)
  turns_caused gives u goal (turn ∷ turns) v harmless (moment, mid, shown, takes, good, counts, more) =
      let later = turn_harmless gives (may_give u.depot.store.shelf) (may_give mid.depot.store.shelf) u.depot.state.lib turn harmless takes.gives in
      let rest = turns_caused gives mid (number_running mid.depot) turns v later more in (
        (turn_caused (OrNothing gives) (may_give mid.depot.store.shelf) later u.depot.store.index u.depot.running u.depot.state.collection goal turn takes.may_come.may, rest.0),
        rest.1,
      )

  -- ---- a collection that is spent took no turn but the one that told so

  counted_on : (before after : Option Running) → before ≢ None → after ≡ option_map {T = Running} (λ (r : Running). record r { turned = r.turned + 1 }) before → (r : Running) × (after ≡ Some r)
  counted_on None after some is = absurd (some refl)
  counted_on (Some r) after some is = (record r { turned = r.turned + 1 }, is)

  runs_on : (u : DepotView S) (goal : Option ℕ) (moment : ℕ) (turn : Turn) (v : DepotView S) → goes_on turn ≡ true → TakesTurn contents may_give texts faults u goal moment most_in_turn turn v
      → (r : Running) × (v.running ≡ Some r)
  runs_on u goal moment (Began number) v goes takes = (record { fresh = set.empty; stored = map.len u.store.index; turned = 0 }, takes.runs)
  runs_on u goal moment (Marked count) v goes takes = counted_on u.running v.running takes.may_come.may takes.runs
  runs_on u goal moment (Swept keys) v goes takes = counted_on u.running v.running takes.may_come.may takes.runs
  runs_on u goal moment (Ended number) v goes takes = absurd (true≢false (sym goes))
  runs_on u goal moment (Over number) v goes takes = absurd (true≢false (sym goes))
  runs_on u goal moment (Refused why keys) v goes takes = absurd (true≢false (sym goes))

  -- one that runs is never spent
  none_spent : (u : OpenedView S) (r : Running) (goal : Option ℕ) (before : List Turn) (keys : List Key) (v : OpenedView S) → u.depot.running ≡ Some r
      → AllByRecursion (λ turn. goes_on turn ≡ true) before → TurnsOn contents may_give texts faults shows u goal (before ++ Refused refusal.Spent keys ∷ []) v → ⊥
  none_spent u r goal [] keys v runs goes (moment, mid, shown, takes, good, counts, more) =
      subst (λ (o : Option Running). MayTurn u.depot.store.index (may_give mid.depot.store.shelf) o u.depot.state.collection goal (Refused refusal.Spent keys)) runs takes.may_come.may
  none_spent u r goal (turn ∷ before) keys v runs goes (moment, mid, shown, takes, good, counts, more) =
      let on = runs_on u.depot goal moment turn mid.depot goes.0 takes in
      none_spent mid on.0 (number_running mid.depot) before keys v on.1 goes.1 more

  spent_leaves : (gives : Slot → Option (List ℕ) → Type 0) (u : OpenedView S) (goal : Option ℕ) (before : List Turn) (keys : List Key) (v : OpenedView S) → Harmless gives (may_give u.depot.store.shelf)
      → AllByRecursion (λ turn. goes_on turn ≡ true) before → TurnsOn contents may_give texts faults shows u goal (before ++ Refused refusal.Spent keys ∷ []) v → Harmless gives (may_give v.depot.store.shelf)
  spent_leaves gives u goal [] keys v harmless goes (moment, mid, shown, takes, good, counts, same) =
      subst (λ (w : OpenedView S). Harmless gives (may_give w.depot.store.shelf)) (sym same) (λ key given is. by key given (takes.gives (Object key) given is))
    where
      by : (key : Key) (given : Option (List ℕ)) → may_give u.depot.store.shelf (Object key) given ⊎ ⊥ → gives (Object key) given ⊎ ((bytes : List ℕ) × (given ≡ Some bytes) × (has_other_name key bytes ≡ false))
      by key given (inl was) = harmless key given was
      by key given (inr none) = absurd none
  spent_leaves gives u goal (turn ∷ before) keys v harmless goes (moment, mid, shown, takes, good, counts, more) =
      let on = runs_on u.depot goal moment turn mid.depot goes.0 takes in
      absurd (none_spent mid on.0 (number_running mid.depot) before keys v on.1 goes.1 more)

  spent_end : (gives : Slot → Option (List ℕ) → Type 0) (u : OpenedView S) (turns : List Turn) (ends : Collected) (v : OpenedView S) → Harmless gives (may_give u.depot.store.shelf)
      → TurnsOn contents may_give texts faults shows u None turns v → TellsTurns turns ends → ends ≡ collected.Refused refusal.Spent → Harmless gives (may_give v.depot.store.shelf)
  spent_end gives u turns ends v harmless on (endless goes long is) spent = let clash : collected.Refused refusal.NoMemory ≡ collected.Refused refusal.Spent = sym is ∙ spent in cc
  spent_end gives u turns ends v harmless on (ended before last is goes tells) spent = by last is (subst (EndsAs last (told_removed turns)) spent tells)
    where
      by : (turn : Turn) → turns ≡ before ++ turn ∷ [] → EndsAs turn (told_removed turns) (collected.Refused refusal.Spent) → Harmless gives (may_give v.depot.store.shelf)
      by (Began number) at tells = absurd tells
      by (Marked count) at tells = absurd tells
      by (Swept keys) at tells = absurd tells
      by (Ended number) at tells = cc tells
      by (Over number) at tells = absurd tells
      by (Refused why keys) at tells =
          let same : why ≡ refusal.Spent = cc tells in
          spent_leaves gives u None before keys v harmless goes
          (subst (λ (w : Refusal). TurnsOn contents may_give texts faults shows u None (before ++ Refused w keys ∷ []) v) same
          (subst (λ (ts : List Turn). TurnsOn contents may_give texts faults shows u None ts v) at on))

  -- the end of some turns is that of the last one
  end_caused : (gives : Slot → Option (List ℕ) → Type 0) (turns : List Turn) (ends : Collected) → TellsTurns turns ends → AllByRecursion (IsCausedTurn gives) turns
      → IsCausedEnd gives ends × IsEndOfTurns ends
  end_caused gives turns ends (endless goes long is) all = subst (λ (e : Collected). IsCausedEnd gives e × IsEndOfTurns e) (sym is) (tt, tt)
  end_caused gives turns ends (ended before last is goes tells) all =
      by last (AllByRecursion-middle (IsCausedTurn gives) before last [] (subst (AllByRecursion (IsCausedTurn gives)) is all)) tells
    where
      by : (turn : Turn) → IsCausedTurn gives turn → EndsAs turn (told_removed turns) ends → IsCausedEnd gives ends × IsEndOfTurns ends
      by (Began number) caused tells = absurd tells
      by (Marked count) caused tells = absurd tells
      by (Swept keys) caused tells = absurd tells
      by (Ended number) caused tells = subst (λ (e : Collected). IsCausedEnd gives e × IsEndOfTurns e) (sym tells) (tt, tt)
      by (Over number) caused tells = absurd tells
      by (Refused why keys) caused tells = subst (λ (e : Collected). IsCausedEnd gives e × IsEndOfTurns e) (sym tells) caused

  collection_caused : (gives : Slot → Option (List ℕ) → Type 0) (u : OpenedView S) (lib : List ℕ) (secret : Option (List ℕ)) (ends : Collected) (lines : List ⊤) (v : OpenedView S)
      → Harmless gives (may_give u.depot.store.shelf) → CollectsOn contents may_give texts faults shows u lib secret ends lines v
      → IsCausedEnd (OrNothing gives) ends × Harmless (after_collection ends gives) (may_give v.depot.store.shelf)
  collection_caused gives u lib secret ends lines v harmless collects = by (bytes_eq lib u.depot.state.lib) (permits_collection (token_of u.depot.state.tokens secret)) refl refl
    where
      refused : (why : Refusal) → IsCaused (OrNothing gives) why → Harmless (after_collection (collected.Refused why) gives) (may_give u.depot.store.shelf)
          → (ends ≡ collected.Refused why) × (v ≡ u) → IsCausedEnd (OrNothing gives) ends × Harmless (after_collection ends gives) (may_give v.depot.store.shelf)
      refused why caused untaken (is, same) = (
        subst (IsCausedEnd (OrNothing gives)) (sym is) caused,
        subst (λ (w : OpenedView S). Harmless (after_collection ends gives) (may_give w.depot.store.shelf)) (sym same)
            (subst (λ (e : Collected). Harmless (after_collection e gives) (may_give u.depot.store.shelf)) (sym is) untaken),
      )

      by : (here may : Bool) → bytes_eq lib u.depot.state.lib ≡ here → permits_collection (token_of u.depot.state.tokens secret) ≡ may
          → IsCausedEnd (OrNothing gives) ends × Harmless (after_collection ends gives) (may_give v.depot.store.shelf)
      by true true same is =
          let takes = collects.here ((bytes_eq-Decides lib u.depot.state.lib).0 same) is in
          let each = turns_caused gives u None takes.0 v (nothing_more gives (may_give u.depot.store.shelf) harmless) takes.1 in
          let end = end_caused (OrNothing gives) takes.0 ends takes.2 each.0 in
          (end.0, after_turns gives (may_give v.depot.store.shelf) ends end.1 (spent_end gives u takes.0 ends v harmless takes.1 takes.2) each.1)
      by true false same is = refused refusal.Denied tt harmless (collects.denied ((bytes_eq-Decides lib u.depot.state.lib).0 same) is)
      by false may other is = refused refusal.NoLibrary tt harmless (collects.elsewhere (λ same. true≢false (sym ((bytes_eq-Decides lib u.depot.state.lib).1 same) ∙ other)))

  -- ---- all of a connection

  pub calls_caused : (gives : Slot → Option (List ℕ) → Type 0) (u : OpenedView S) (calls : List (Told ⊤)) (v : OpenedView S) → Harmless gives (may_give u.depot.store.shelf)
      → Ran (rules_at shows (AnswersOn contents may_give texts faults) SparesOn (CollectsOn contents may_give texts faults) LooksOn) u calls v → AreCaused gives calls
  calls_caused gives u [] v harmless ran = tt
  calls_caused gives u (call_asked lib call answer operations ∷ ts) v harmless (mid, asked, more) =
      let first = call_caused contents may_give texts faults shows gives u lib call answer operations mid harmless asked in
      (first.0, calls_caused gives mid ts v first.1 more)
  calls_caused gives u (collection_asked lib secret ends operations ∷ ts) v harmless (mid, collects, more) =
      let first = collection_caused gives u lib secret ends operations mid harmless collects in
      (first.0, calls_caused (after_collection ends gives) mid ts v first.1 more)
  calls_caused gives u (look_asked lib secret tag same operations ∷ ts) v harmless (mid, looked, more) =
      calls_caused gives mid ts v (subst (λ (d : OpenedView S). Harmless gives (may_give d.depot.store.shelf)) (sym looked.2) harmless) more

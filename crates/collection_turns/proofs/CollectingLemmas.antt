-- Turns that are taken one after another, and what is told of them. The key lemmas are none_taken, one_more, ends_there, ends_never,
-- and collected_here, collected_denied and collected_elsewhere.
use Rattle.std.proofs.Common.{◌≡◌, ℕ, ◌+◌, true, false, true≢false, List, [], ◌∷◌, ◌++◌, length, min, refl, sym, ap, ◌∙◌, subst, Option, None, Some, option_map, arith}
use Rattle.std.specs.List.{AllByRecursion}
use Rattle.std.proofs.lemmas.List.{length-append}
use Rattle.std.proofs.lemmas.List.Sums.{sum_by-append}
use Rattle.ids.proofs.BasicLemmas.{AllByRecursion-push}
use Rattle.depot.specs.CollectionTurns.{IsRunning, TakesTurn, permits_collection, removed_in}
use Rattle.depot.specs.DepotView.{DepotView, IsGood}
use Rattle.depot.specs.declared.turn.Turn.{Turn}
use Rattle.depot.specs.declared.turn.Turn.TheVariants.{Ended, Over, Refused}
use Rattle.library_rules.specs.Calls.{token_of}
use Rattle.library_rules.specs.LibraryState.{Running}
use Rattle.library_state.specs.declared.refusal.Refusal.TheVariants as refusal
use Rattle.object_store.specs.Shelf.{Contents}
use Rattle.object_store.specs.declared.shelf.Slot.{Slot}
use Rattle.worker_server.specs.declared.host.Collected.{Collected}
use Rattle.worker_server.specs.declared.host.Collected.TheVariants as collected
use Rattle.collection_turns.specs.Collecting.{StepsSo}
use Rattle.collection_turns.specs.Turns.{CollectsBy, EndsAs, TakesTurns, TurnsOn, ended, endless, goes_on, most_in_turn, number_running, removed_by, told_removed}
use Rattle.collection_turns.specs.declared.collecting.Step.TheVariants as step

-- ---- one turn more

removed_push : (turns : List Turn) (turn : Turn) → removed_by (turns ++ turn ∷ []) ≡ removed_by turns + length (removed_in turn)
removed_push turns turn =
    let both = sum_by-append (λ t. length (removed_in t)) turns (turn ∷ []) in
    let one : removed_by (turn ∷ []) ≡ 0 + length (removed_in turn) = refl in
    omega (arith, both, one)

-- the goal after some turns: that of the call, or the collection that the last of them left
abbrev pub goal_then : {S : Type 0} → Option ℕ → List Turn → DepotView S → Option ℕ
goal_then goal [] depot = goal
goal_then goal (turn ∷ turns) depot = number_running depot

module _ {V S : Type 0} (view : V → DepotView S) (notes : V → V → Type 0) (contents : S → Option Contents) (may_give : S → Slot → Option (List ℕ) → Type 0)
    (texts faults : S → ℕ) (shows : ℕ → Type 0) where
  turns_push : (u : V) (goal : Option ℕ) (turns : List Turn) (mid v : V) (moment : ℕ) (turn : Turn) → TurnsOn view notes contents may_give texts faults shows u goal turns mid
      → shows moment → TakesTurn contents may_give texts faults (view mid) (goal_then goal turns (view mid)) moment most_in_turn turn (view v) → IsGood contents faults (view v) → notes mid v
      → TurnsOn view notes contents may_give texts faults shows u goal (turns ++ turn ∷ []) v
  turns_push u goal [] mid v moment turn same shown takes good noted =
      let at = subst (λ (w : V). TakesTurn contents may_give texts faults (view w) goal moment most_in_turn turn (view v) × notes w v) same (takes, noted) in
      (moment, v, shown, at.0, good, at.1, refl)
  turns_push u goal (t ∷ turns) mid v moment turn (first_moment, first, first_shown, first_takes, first_good, first_noted, rest) shown takes good noted = (
    first_moment,
    first,
    first_shown,
    first_takes,
    first_good,
    first_noted,
    turns_push first (number_running (view first)) turns mid v moment turn rest shown (by turns rest takes) good noted,
  )
    where
      by : (ts : List Turn) → TurnsOn view notes contents may_give texts faults shows first (number_running (view first)) ts mid
          → TakesTurn contents may_give texts faults (view mid) (number_running (view mid)) moment most_in_turn turn (view v)
          → TakesTurn contents may_give texts faults (view mid) (goal_then (number_running (view first)) ts (view mid)) moment most_in_turn turn (view v)
      by [] same taken =
          subst (λ (w : V). TakesTurn contents may_give texts faults (view mid) (number_running (view w)) moment most_in_turn turn (view v)) same taken
      by (x ∷ ts) more taken = taken

  -- ---- the turns so far

  -- so many turns were taken, each of which went on, and so many objects were removed
  pub record IsCollecting (old : V) (goal : Option ℕ) (removed taken : ℕ) (now : V) : Type 0 where
    pub turns : List Turn
    pub on : TurnsOn view notes contents may_give texts faults shows old None turns now
    pub goes : AllByRecursion (λ turn. goes_on turn ≡ true) turns
    pub goal_is : goal ≡ goal_then None turns (view now)
    pub sum : removed ≡ told_removed turns
    pub count : length turns ≡ taken

  pub none_taken : (old : V) → IsCollecting old None 0 0 old
  none_taken old = record { turns = []; on = refl; goes = tt; goal_is = refl; sum = refl; count = refl }

  module _ (old mid v : V) (goal : Option ℕ) (removed taken moment : ℕ) (turn : Turn) (so_far : IsCollecting old goal removed taken mid) (shown : shows moment)
      (takes : TakesTurn contents may_give texts faults (view mid) goal moment most_in_turn turn (view v)) (good : IsGood contents faults (view v)) (noted : notes mid v) where
    on_then : TurnsOn view notes contents may_give texts faults shows old None (so_far.turns ++ turn ∷ []) v
    on_then = turns_push old None so_far.turns mid v moment turn so_far.on shown
        (subst (λ (g : Option ℕ). TakesTurn contents may_give texts faults (view mid) g moment most_in_turn turn (view v)) so_far.goal_is takes) good noted

    told_push : min 18446744073709551615 (removed + length (removed_in turn)) ≡ told_removed (so_far.turns ++ turn ∷ [])
    told_push = let sum = so_far.sum in let more = removed_push so_far.turns turn in omega (arith, sum, more)

    -- another follows
    pub one_more : (next : Option ℕ) (sum : ℕ) → next ≡ number_running (view v) → StepsSo turn removed (step.Goes sum) → IsCollecting old next sum (taken + 1) v
    one_more next sum is (goes, told) = record {
      turns = so_far.turns ++ turn ∷ [];
      on = on_then;
      goes = AllByRecursion-push (λ t. goes_on t ≡ true) so_far.turns turn so_far.goes goes;
      goal_is = is ∙ goal_after so_far.turns;
      sum = told ∙ told_push;
      count = length-append so_far.turns (turn ∷ []) ∙ ap (λ n. n + 1) so_far.count;
    }
      where
        goal_after : (ts : List Turn) → number_running (view v) ≡ goal_then None (ts ++ turn ∷ []) (view v)
        goal_after [] = refl
        goal_after (t ∷ ts) = refl

    -- none follows: it ended the collection or was refused, and it can't be over
    pub ends_there : (ends : Collected) → StepsSo turn removed (step.Ends ends) → TakesTurns view notes contents may_give texts faults shows old ends v
    ends_there ends steps = (so_far.turns ++ turn ∷ [], on_then, ended so_far.turns turn refl so_far.goes (by turn refl steps))
      where
        -- with the collection that runs as its goal no turn is over
        never_over : (number : ℕ) → turn ≡ Over number → ⊥
        never_over number over =
            let taken_over = subst (λ (t : Turn). TakesTurn contents may_give texts faults (view mid) goal moment most_in_turn t (view v)) over takes in
            let may = taken_over.may_come.may in
            runs_then so_far.turns number (sym so_far.goal_is ∙ may.0) may.1
          where
            same_number : {a b : ℕ} → Some a ≡ Some b → a ≡ b
            same_number e = cc

            runs_at : (o : Option Running) (n : ℕ) → option_map (λ running. (view mid).state.collection) o ≡ Some n → (IsRunning o (view mid).state.collection n → ⊥) → ⊥
            runs_at None n e apart = cc e
            runs_at (Some r) n e apart = apart (sym (same_number e))

            runs_then : (ts : List Turn) (n : ℕ) → goal_then None ts (view mid) ≡ Some n → (IsRunning (view mid).running (view mid).state.collection n → ⊥) → ⊥
            runs_then [] n e apart = cc e
            runs_then (t ∷ ts) n e apart = runs_at (view mid).running n e apart

        removed_at : length (removed_in turn) ≡ 0 → removed ≡ told_removed (so_far.turns ++ turn ∷ [])
        removed_at none = let sum = so_far.sum in let more = removed_push so_far.turns turn in omega (arith, sum, more, none)

        by : (t : Turn) → turn ≡ t → StepsSo t removed (step.Ends ends) → EndsAs turn (told_removed (so_far.turns ++ turn ∷ [])) ends
        by (Ended number) is told =
            subst (λ (t : Turn). EndsAs t (told_removed (so_far.turns ++ turn ∷ [])) ends) (sym is)
            (told ∙ ap (collected.Done number) (removed_at (ap (λ (t : Turn). length (removed_in t)) is)))
        by (Over number) is told = absurd (never_over number is)
        by (Refused why keys) is told = subst (λ (t : Turn). EndsAs t (told_removed (so_far.turns ++ turn ∷ [])) ends) (sym is) told
        by other is none = absurd none

  -- as many turns as no memory holds marks for
  pub ends_never : (old : V) (goal : Option ℕ) (removed taken : ℕ) (now : V) (ends : Collected) → IsCollecting old goal removed taken now → taken ≡ 18446744073709551615
      → ends ≡ collected.Refused refusal.NoMemory → TakesTurns view notes contents may_give texts faults shows old ends now
  ends_never old goal removed taken now ends so_far all is = (so_far.turns, so_far.on, endless so_far.goes (so_far.count ∙ all) is)

  -- ---- all of a collection that is asked for

  -- the library is asked by what is shown of it
  module _ (old : V) (lib : List ℕ) (secret : Option (List ℕ)) (shown : DepotView S) (is : shown ≡ view old) where
    pub collected_here : (ends : Collected) (new : V) → lib ≡ shown.state.lib → permits_collection (token_of shown.state.tokens secret) ≡ true
        → TakesTurns view notes contents may_give texts faults shows old ends new → CollectsBy view notes contents may_give texts faults shows old lib secret ends new
    collected_here ends new same may takes = record {
      here = λ is_lib permits. takes;
      denied = λ is_lib denies.
          absurd (true≢false (sym may ∙ ap (λ (d : DepotView S). permits_collection (token_of d.state.tokens secret)) is ∙ denies));
      elsewhere = λ other. absurd (other (same ∙ ap (λ (d : DepotView S). d.state.lib) is));
    }

    pub collected_denied : lib ≡ shown.state.lib → permits_collection (token_of shown.state.tokens secret) ≡ false
        → CollectsBy view notes contents may_give texts faults shows old lib secret (collected.Refused refusal.Denied) old
    collected_denied same denied = record {
      here = λ is_lib permits.
          absurd (true≢false (sym permits ∙ sym (ap (λ (d : DepotView S). permits_collection (token_of d.state.tokens secret)) is) ∙ denied));
      denied = λ is_lib denies. (refl, refl);
      elsewhere = λ other. absurd (other (same ∙ ap (λ (d : DepotView S). d.state.lib) is));
    }

    pub collected_elsewhere : (lib ≡ shown.state.lib → ⊥) → CollectsBy view notes contents may_give texts faults shows old lib secret (collected.Refused refusal.NoLibrary) old
    collected_elsewhere other = record {
      here = λ is_lib permits. absurd (other (is_lib ∙ sym (ap (λ (d : DepotView S). d.state.lib) is)));
      denied = λ is_lib denies. absurd (other (is_lib ∙ sym (ap (λ (d : DepotView S). d.state.lib) is)));
      elsewhere = λ away. (refl, refl);
    }

-- ---- why a collection is refused

module _ {V S : Type 0} (view : V → DepotView S) (notes : V → V → Type 0) (contents : S → Option Contents) (may_give : S → Slot → Option (List ℕ) → Type 0)
    (texts faults : S → ℕ) (shows : ℕ → Type 0) where
  -- of the last of some turns
  pub last_taken : (u : V) (goal : Option ℕ) (before : List Turn) (turn : Turn) (v : V) → TurnsOn view notes contents may_give texts faults shows u goal (before ++ turn ∷ []) v
      → (w : V) × (x : V) × (at : Option ℕ) × (moment : ℕ) × TakesTurn contents may_give texts faults (view w) at moment most_in_turn turn (view x)
  last_taken u goal [] turn v (moment, mid, shown, takes, good, noted, same) = (u, mid, goal, moment, takes)
  last_taken u goal (t ∷ before) turn v (moment, mid, shown, takes, good, noted, more) = last_taken mid (number_running (view mid)) before turn v more

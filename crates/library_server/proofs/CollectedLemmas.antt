-- What is left of a collection that was told as done. The key lemmas are running_is, left_needed and began_needed.
use Rattle.std.proofs.Common.{◌≡◌, ◌⊎◌, inl, inr, ℕ, ◌+◌, Bool, true, false, ◌||◌, List, [], ◌∷◌, ◌++◌, refl, sym, ap, ◌∙◌, subst, true≢false, Option, None, Some, option_map}
use Rattle.std.specs.Prelude.{⊤}
use Rattle.std.specs.FinMap as map
use Rattle.std.specs.FinSet as set
use Rattle.std.specs.Str.{bytes_eq}
use Rattle.std.proofs.lemmas.Bool.{or_cases, or_left, or_right}
use Rattle.std.proofs.lemmas.Slice.Eq.{bytes_eq-Decides}
use Rattle.ids.specs.Key.{Objects, key_cmp}
use Rattle.ids.specs.declared.key.Key.{Key}
use Rattle.depot.specs.CollectionTurns.{TakesTurn, TurnSo, permits_collection, running_after_turn}
use Rattle.depot.specs.DepotView.{DepotView, running_library, state_of}
use Rattle.depot.specs.declared.turn.Turn.{Turn}
use Rattle.depot.specs.declared.turn.Turn.TheVariants.{Began, Marked, Swept, Ended, Over, Refused}
use Rattle.library_rules.specs.Calls.{token_of}
use Rattle.library_rules.specs.LibraryState.{Running, State, is_fresh, is_needed, is_stored}
use Rattle.library_rules.specs.declared.entry.Step.TheVariants as step
use Rattle.library_rules.proofs.EndsLemmas.{clean_at_end}
use Rattle.library_rules.proofs.StepLawLemmas.{by_turn}
use Rattle.library_state.specs.declared.reply.Reply.TheVariants as reply
use Rattle.object_store.specs.Shelf.{Contents}
use Rattle.object_store.specs.StoreView.{objects_of}
use Rattle.object_store.specs.declared.shelf.Slot.{Slot}
use Rattle.worker_server.specs.declared.host.Collected.TheVariants as collected
use Rattle.library_server.specs.Collecting.{CollectsOn, EndsAs, TakesTurns, TellsTurns, TurnsOn, ended, endless, most_in_turn, number_running, told_removed}
use Rattle.library_server.specs.Counting.{OpenedView}

some_same : {A : Type 0} {x y : A} → Some x ≡ Some y → x ≡ y
some_same e = cc

-- ---- fresh keys

-- each key that is fresh in the later collection was in the first
abbrev FreshOf : (first later : Option Running) → Type 0
FreshOf first later = (key : Key) → is_fresh later key ≡ true → is_fresh first key ≡ true

-- a turn more makes no key fresh
fresh_turned : (first running : Option Running) → FreshOf first running
    → FreshOf first (option_map {T = Running} (λ (r : Running). record r { turned = r.turned + 1 }) running)
fresh_turned first None of = of
fresh_turned first (Some r) of = of

fresh_after : (known : ℕ) (first running : Option Running) (turn : Turn) → FreshOf first running → FreshOf first (running_after_turn known running turn)
fresh_after known first running (Began number) of = λ key fresh. absurd (true≢false (sym fresh ∙ set.contains-empty key_cmp key))
fresh_after known first running (Marked count) of = fresh_turned first running of
fresh_after known first running (Swept keys) of = fresh_turned first running of
fresh_after known first running (Ended number) of = λ key fresh. absurd (true≢false (sym fresh))
fresh_after known first running (Over number) of = of
fresh_after known first running (Refused why keys) of = of

-- ---- turns

-- needed, or fresh in the first collection
or_first : (needed was : Bool) (first later : Option Running) (key : Key) → FreshOf first later → was ≡ is_fresh later key → (needed || was) ≡ true
    → (needed || is_fresh first key) ≡ true
or_first needed was first later key of is either = by (or_cases needed was either)
  where
    by : (needed ≡ true) ⊎ (was ≡ true) → (needed || is_fresh first key) ≡ true
    by (inl one) = or_left needed (is_fresh first key) one
    by (inr other) = or_right needed (is_fresh first key) (of key (sym is ∙ other))

module _ {S : Type 0} (contents : S → Option Contents) (faults : S → ℕ) where
  -- the collection that runs in the library is that of the depot
  pub running_is : (u : DepotView S) (s : State) → state_of contents faults u ≡ Some s → s.running ≡ u.running
  running_is u s told = by (objects_of contents u.store) told
    where
      by : (o : Option Objects) → option_map (running_library u.state u.running (faults u.store.shelf)) o ≡ Some s → s.running ≡ u.running
      by None e = cc
      by (Some objects) e = ap (λ (z : State). z.running) (sym (some_same e))

module _ {S : Type 0} (contents : S → Option Contents) (may_give : S → Slot → Option (List ℕ) → Type 0) (texts faults : S → ℕ) (shows : ℕ → Type 0) where
  -- what a depot's library stores is needed, or was fresh in the first collection
  abbrev IsLeft : Option Running → DepotView S → Type 0
  IsLeft first depot = (t : State) → state_of contents faults depot ≡ Some t → (key : Key) → is_stored t.objects key ≡ true
      → (is_needed t.objects t.state.kept key || is_fresh first key) ≡ true

  ended_left : (first : Option Running) (u : DepotView S) (goal : Option ℕ) (moment number : ℕ) (v : DepotView S) (s : State) → state_of contents faults u ≡ Some s → FreshOf first u.running
      → TakesTurn contents may_give texts faults u goal moment most_in_turn (Ended number) v → IsLeft first v
  ended_left first u goal moment number v s told of takes t after key stored =
      let tells = takes.told s told in
      let turns : TurnSo s goal moment most_in_turn (Ended number) tells.state tells.entries = tells.turns in
      let clean = by_turn s step.Ended moment reply.Checked [] tells.state tells.entries
      (λ (z : State). is_stored z.objects key ≡ true → (is_needed z.objects z.state.kept key || is_fresh s.running key) ≡ true) turns.2 (λ e permits at. clean_at_end s e permits at key) in
      let same : tells.state ≡ t = some_same (sym tells.left ∙ after) in
      or_first (is_needed t.objects t.state.kept key) (is_fresh s.running key) first u.running key of (ap (λ (o : Option Running). is_fresh o key) (running_is contents faults u s told))
      (subst (λ (z : State). is_stored z.objects key ≡ true → (is_needed z.objects z.state.kept key || is_fresh s.running key) ≡ true) same clean stored)

  turns_left : (first : Option Running) (u : OpenedView S) (goal : Option ℕ) (before : List Turn) (number : ℕ) (v : OpenedView S) (s : State) → state_of contents faults u.depot ≡ Some s
      → FreshOf first u.depot.running → TurnsOn contents may_give texts faults shows u goal (before ++ Ended number ∷ []) v → IsLeft first v.depot
  turns_left first u goal [] number v s told of (moment, mid, shown, takes, good, counts, same) =
      subst (λ (w : OpenedView S). IsLeft first w.depot) (sym same) (ended_left first u.depot goal moment number mid.depot s told of takes)
  turns_left first u goal (turn ∷ before) number v s told of (moment, mid, shown, takes, good, counts, more) =
      let tells = takes.told s told in
      turns_left first mid (number_running mid.depot) before number v tells.state tells.left
      (subst (FreshOf first) (sym takes.runs) (fresh_after (map.len u.depot.store.index) first u.depot.running turn of)) more

  -- ---- a collection that was told as done

  -- the last of its turns ended it
  done_ends : (turns : List Turn) (number removed : ℕ) → TellsTurns turns (collected.Done number removed) → (before : List Turn) × (last : ℕ) × (turns ≡ before ++ Ended last ∷ [])
  done_ends turns number removed (endless goes long is) = cc
  done_ends turns number removed (ended before last is goes tells) = by last is tells
    where
      by : (turn : Turn) → turns ≡ before ++ turn ∷ [] → EndsAs turn (told_removed turns) (collected.Done number removed) → (front : List Turn) × (last : ℕ) × (turns ≡ front ++ Ended last ∷ [])
      by (Began n) at tells = absurd tells
      by (Marked count) at tells = absurd tells
      by (Swept keys) at tells = absurd tells
      by (Ended n) at tells = (before, n, at)
      by (Over n) at tells = absurd tells
      by (Refused why keys) at tells = cc

  taken_left : (old : OpenedView S) (number removed : ℕ) (new : OpenedView S) (s : State) → state_of contents faults old.depot ≡ Some s
      → TakesTurns contents may_give texts faults shows old (collected.Done number removed) new → IsLeft s.running new.depot
  taken_left old number removed new s told takes =
      let end = done_ends takes.0 number removed takes.2 in
      turns_left s.running old None end.0 end.1 new s told (λ key fresh. ap (λ (o : Option Running). is_fresh o key) (running_is contents faults old.depot s told) ∙ fresh)
      (subst (λ turns. TurnsOn contents may_give texts faults shows old None turns new) end.2 takes.1)

  pub left_needed : (old new : OpenedView S) (lib : List ℕ) (secret : Option (List ℕ)) (number removed : ℕ) (lines : List ⊤) (s t : State)
      → state_of contents faults old.depot ≡ Some s → state_of contents faults new.depot ≡ Some t
      → CollectsOn contents may_give texts faults shows old lib secret (collected.Done number removed) lines new
      → (key : Key) → is_stored t.objects key ≡ true → (is_needed t.objects t.state.kept key || is_fresh s.running key) ≡ true
  left_needed old new lib secret number removed lines s t told after collects key stored =
      by (bytes_eq lib old.depot.state.lib) (permits_collection (token_of old.depot.state.tokens secret)) refl refl
    where
      by : (here may : Bool) → bytes_eq lib old.depot.state.lib ≡ here → permits_collection (token_of old.depot.state.tokens secret) ≡ may → (is_needed t.objects t.state.kept key || is_fresh s.running key) ≡ true
      by true true same is = taken_left old number removed new s told (collects.here ((bytes_eq-Decides lib old.depot.state.lib).0 same) is) t after key stored
      by true false same is = let other = (collects.denied ((bytes_eq-Decides lib old.depot.state.lib).0 same) is).0 in cc
      by false may other is = let away = (collects.elsewhere (λ same. true≢false (sym ((bytes_eq-Decides lib old.depot.state.lib).1 same) ∙ other))).0 in cc

  pub began_needed : (old new : OpenedView S) (lib : List ℕ) (secret : Option (List ℕ)) (number removed : ℕ) (lines : List ⊤) (s t : State)
      → state_of contents faults old.depot ≡ Some s → state_of contents faults new.depot ≡ Some t → s.running ≡ None
      → CollectsOn contents may_give texts faults shows old lib secret (collected.Done number removed) lines new
      → (key : Key) → is_stored t.objects key ≡ true → is_needed t.objects t.state.kept key ≡ true
  began_needed old new lib secret number removed lines s t told after idle collects key stored =
      by (or_cases (is_needed t.objects t.state.kept key) (is_fresh s.running key) (left_needed old new lib secret number removed lines s t told after collects key stored))
    where
      by : (is_needed t.objects t.state.kept key ≡ true) ⊎ (is_fresh s.running key ≡ true) → is_needed t.objects t.state.kept key ≡ true
      by (inl needed) = needed
      by (inr fresh) = absurd (true≢false (sym fresh ∙ ap (λ (o : Option Running). is_fresh o key) idle))

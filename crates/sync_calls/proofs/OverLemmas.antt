-- What a turn of a collection did at one library, read off its line: a turn that was over leaves a library in which its goal doesn't
-- run, and one that ended a collection is a change. The key lemmas are did, ended_here, over_there and over_goal.
use Rattle.std.proofs.Common.{◌≡◌, ℕ, suc, ◌+◌, ◌≤◌, ◌⊎◌, inl, inr, is_some, List, [], ◌∷◌, ◌++◌, length, refl, sym, ◌∙◌, ap, subst, arith, Option, None, Some}
use Rattle.std.specs.Prelude.{option_map}
use Rattle.std.specs.List.{slice_get}
use mathlib.Core.List.{IsPrefix}
use Rattle.ids.specs.Key.{Objects}
use Rattle.library_rules.specs.LibraryState.{Running, State}
use Rattle.library_state.specs.declared.state.LibState.{LibState}
use Rattle.object_store.specs.Shelf.{Contents}
use Rattle.object_store.specs.StoreView.{objects_of}
use Rattle.object_store.specs.declared.shelf.Slot.{Slot}
use Rattle.depot.specs.CollectionTurns.{IsRunning, TakesTurn, TurnsBySome}
use Rattle.depot.specs.DepotView.{DepotView, running_library, state_of}
use Rattle.depot.specs.Story.{IsSame, IsTurned, LeadsTo, MadeBy}
use Rattle.depot.specs.declared.story.Change.{Change}
use Rattle.depot.specs.declared.story.Made.{Made}
use Rattle.depot.specs.declared.story.Made.TheVariants as made
use Rattle.depot.specs.declared.turn.Turn.{Turn}
use Rattle.depot.specs.declared.turn.Turn.TheVariants as turn
use Rattle.sync_calls.specs.Collecting.{EndsIt, HasEnded, IsTaken, OneTurn, deed_of, objects_a_turn}
use Rattle.sync_calls.specs.CollectTurn.{RunsAt, running_number}
use Rattle.sync_calls.specs.Operations.{IsChanging, IsMadeBy, IsReading, TookTurn}
use Rattle.sync_calls.specs.Shown.{Knows, Shown, library_after, library_at}
use Rattle.sync_calls.proofs.EndLemmas.{RunsIn, ended_between}
use Rattle.sync_calls.proofs.ShownLemmas.{after_front, last_at}

pub some_same : {A : Type 0} {a b : A} → Some a ≡ Some b → a ≡ b
some_same e = cc

-- a place behind a list is one of what follows it
get_behind : {A : Type 0} (xs ys : List A) (p : ℕ) → slice_get (xs ++ ys) (length xs + p) ≡ slice_get ys p
get_behind [] ys p = let same : 0 + p ≡ p = omega arith in ap (λ n. slice_get ys n) same
get_behind (x ∷ xs) ys p =
    let one : length (x ∷ xs) + p ≡ suc (length xs + p) = omega arith in
    ap (λ n. slice_get (x ∷ (xs ++ ys)) n) one ∙ get_behind xs ys p

module _ {S : Type 0} (contents : S → Option Contents) (may_give : S → Slot → Option (List ℕ) → Type 0) (texts faults : S → ℕ) where
  -- what made a change that is a turn
  pub turned_by : (m : Made) (at : ℕ) (before after : DepotView S) (goal : Option ℕ) (moment most : ℕ) (t : Turn) → IsMadeBy m at (TookTurn goal moment most t)
      → MadeBy contents may_give texts faults m before at after → IsTurned contents may_give texts faults before goal moment most t after
  turned_by (made.Asked call said) at before after goal moment most t is by = absurd is
  turned_by (made.Turned g n taken) at before after goal moment most t is by =
      subst (λ (k : Option ℕ). IsTurned contents may_give texts faults before k moment most t after) is.0
      (subst (λ (k : ℕ). IsTurned contents may_give texts faults before g moment k t after) is.1
      (subst (λ (k : Turn). IsTurned contents may_give texts faults before g moment n k after) is.2
      (subst (λ (k : ℕ). IsTurned contents may_give texts faults before g k n taken.value after) is.3 by)))

  -- ---- a turn that was over did nothing

  objects_over : (x y : DepotView S) (goal : Option ℕ) (moment most number : ℕ) → TakesTurn contents may_give texts faults x goal moment most (turn.Over number) y
      → (held : Objects) → objects_of contents x.store ≡ Some held → objects_of contents y.store ≡ Some held
  objects_over x y goal moment most number takes held told =
      let s : State = running_library x.state x.running (faults x.store.shelf) held in
      let tells : TurnsBySome s goal moment most (turn.Over number) (state_of contents faults y) = takes.told s (ap (option_map (running_library x.state x.running (faults x.store.shelf))) told) in
      by (objects_of contents y.store) refl (tells.left ∙ ap Some tells.turns.1)
    where
      by : (o : Option Objects) → objects_of contents y.store ≡ o → option_map (running_library y.state y.running (faults y.store.shelf)) (objects_of contents y.store) ≡ Some (running_library x.state x.running (faults x.store.shelf) held)
          → objects_of contents y.store ≡ Some held
      by None is left = let none = ap (option_map (running_library y.state y.running (faults y.store.shelf))) is in absurd (cc)
      by (Some o) is left =
          let here : running_library y.state y.running (faults y.store.shelf) o ≡ running_library x.state x.running (faults x.store.shelf) held
          = some_same (sym (ap (option_map (running_library y.state y.running (faults y.store.shelf))) is) ∙ left) in
          is ∙ ap Some (ap (λ (t : State). t.objects) here)

  pub over_same : (x y : DepotView S) (goal : Option ℕ) (moment most number : ℕ) → IsTurned contents may_give texts faults x goal moment most (turn.Over number) y → IsSame contents faults x y
  over_same x y goal moment most number is = record {
    state = is.takes.left;
    running = is.takes.runs;
    count = is.takes.count;
    keys = λ key. ap is_some (is.takes.index key);
    objects = objects_over x y goal moment most number is.takes;
  }

  -- ---- what each turn leaves

  -- what is shown before and after it
  pub record Did (u : Shown S) (place : ℕ) (v : Shown S) : Type 0 where
    pub start : v.start ≡ u.start
    pub grows : IsPrefix u.seen v.seen
    pub new : length u.seen ≤ place
    pub below : place ≤ length v.seen

  pub did : (shows : ℕ → Type 0) (u : Shown S) (goal : Option ℕ) (one : OneTurn) (v : Shown S) → IsTaken contents may_give texts faults shows u goal one v → Did u one.place v
  did shows u goal one v taken = by taken.done
    where
      by : IsReading contents may_give texts faults u one.place (deed_of one) v ⊎ IsChanging contents may_give texts faults u one.place (deed_of one) v → Did u one.place v
      by (inl reads) = let is = reads.whole in record { start = ap (λ (w : Shown S). w.start) reads.same; grows = reads.grows; new = reads.new.0; below = omega arith }
      by (inr changes) = let is = changes.whole in record { start = ap (λ (w : Shown S). w.start) changes.same; grows = changes.grows; new = changes.new.0; below = omega arith }

  -- a turn that ended a collection is a change at its place
  module _ (shows : ℕ → Type 0) (u : Shown S) (goal : Option ℕ) (one : OneTurn) (v : Shown S) (taken : IsTaken contents may_give texts faults shows u goal one v) (number : ℕ) where
    ends_by : (m : Made) (at : ℕ) → IsMadeBy m at (deed_of one) → one.turn ≡ turn.Ended number → EndsIt m number
    ends_by (made.Asked call said) at is ended = absurd is
    ends_by (made.Turned g n t) at is ended = is.2 ∙ ended

    stops_running : (running : Option Running) (collection : ℕ) → IsRunning running collection number → None ≡ running → ⊥
    stops_running None collection runs same = runs
    stops_running (Some r) collection runs same = absurd (cc)

    pub ended_here : one.turn ≡ turn.Ended number → (from : ℕ) → from ≤ one.place → HasEnded from number v
    ended_here ended from behind = by taken.done
      where
        by : IsReading contents may_give texts faults u one.place (deed_of one) v ⊎ IsChanging contents may_give texts faults u one.place (deed_of one) v → HasEnded from number v
        by (inl reads) =
            let read = reads.reads in
            let is : IsTurned contents may_give texts faults read.before one.goal one.moment objects_a_turn (turn.Ended number) read.after
            = subst (λ (t : Turn). IsTurned contents may_give texts faults read.before one.goal one.moment objects_a_turn t read.after) ended read.does in
            absurd (stops_running read.before.running read.before.state.collection is.takes.may_come.may (sym is.takes.runs ∙ read.stays.running))
        by (inr changes) = record { place = one.place; behind = behind; change = changes.change; at = changes.at; ends = ends_by changes.change.made changes.change.moment changes.made ended }

    -- a turn that was over has its goal
    over_turned : (x y : DepotView S) → IsTurned contents may_give texts faults x one.goal one.moment objects_a_turn one.turn y → one.turn ≡ turn.Over number
        → IsTurned contents may_give texts faults x one.goal one.moment objects_a_turn (turn.Over number) y
    over_turned x y is over = subst (λ (t : Turn). IsTurned contents may_give texts faults x one.goal one.moment objects_a_turn t y) over is

    pub over_goal : one.turn ≡ turn.Over number → goal ≡ Some number
    over_goal over = by taken.done
      where
        by : IsReading contents may_give texts faults u one.place (deed_of one) v ⊎ IsChanging contents may_give texts faults u one.place (deed_of one) v → goal ≡ Some number
        by (inl reads) = sym taken.aimed ∙ (over_turned reads.reads.before reads.reads.after reads.reads.does over).takes.may_come.may.0
        by (inr changes) =
            sym taken.aimed
            ∙ (over_turned changes.change.before.value changes.change.after.value
            (turned_by changes.change.made changes.change.moment changes.change.before.value changes.change.after.value one.goal one.moment objects_a_turn one.turn changes.made changes.links.by) over).takes.may_come.may.0

    -- and leaves a library in which that doesn't run
    pub record StopsAt : Type 0 where
      pub there : DepotView S
      pub stood : library_at v (length v.seen) ≡ Some there
      pub stops : RunsIn number there → ⊥

    pub over_there : one.turn ≡ turn.Over number → StopsAt
    over_there over = by taken.done
      where
        by : IsReading contents may_give texts faults u one.place (deed_of one) v ⊎ IsChanging contents may_give texts faults u one.place (deed_of one) v → StopsAt
        by (inl reads) =
            let read = reads.reads in
            let is = over_turned read.before read.after read.does over in
            record {
              there = read.there;
              stood = ap (λ n. library_at v n) (sym reads.whole) ∙ read.stood;
              stops = λ runs. is.takes.may_come.may.1
                  (subst (λ o. IsRunning o read.before.state.collection number) (sym read.same.running)
                  (subst (λ n. IsRunning read.there.running n number) (sym (ap (λ (s : LibState). s.collection) read.same.state)) runs));
            }
        by (inr changes) =
            let is = over_turned changes.change.before.value changes.change.after.value
            (turned_by changes.change.made changes.change.moment changes.change.before.value changes.change.after.value one.goal one.moment objects_a_turn one.turn changes.made changes.links.by) over in
            absurd (changes.links.other.any (over_same changes.change.before.value changes.change.after.value one.goal one.moment objects_a_turn number is))

  -- ---- what came between

  -- the library after some changes leads by the later ones
  leads_behind : (x : DepotView S) (cs ds : List (Change (DepotView S))) (y there : DepotView S) → LeadsTo contents may_give texts faults x (cs ++ ds) y
      → library_after (Some x) cs (length cs) ≡ Some there → LeadsTo contents may_give texts faults there ds y
  leads_behind x [] ds y there leads stood = subst (λ (w : DepotView S). LeadsTo contents may_give texts faults w ds y) (some_same stood) leads
  leads_behind x (c ∷ cs) ds y there leads stood = leads_behind c.after.value cs ds y there leads.2 stood

  pub runs_there : (there : DepotView S) (number : ℕ) → Some number ≡ running_number there → RunsIn number there
  runs_there there number runs = by there.running refl
    where
      by : (o : Option Running) → there.running ≡ o → RunsIn number there
      by None is =
          let none : running_number there ≡ None = ap (λ (r : Option Running). option_map (λ _. there.state.collection) r) is in
          let clash : Some number ≡ None = runs ∙ none in
          absurd (cc)
      by (Some r) is =
          let here : running_number there ≡ Some there.state.collection = ap (λ (r : Option Running). option_map (λ _. there.state.collection) r) is in
          subst (λ o. IsRunning o there.state.collection number) (sym is) (some_same (runs ∙ here))

  -- where it ran at some place, and doesn't run at the end of what is known, its end stands between
  pub ended_since : (mid v : Shown S) (number from : ℕ) → RunsAt mid (Some number) → mid.start ≡ v.start → IsPrefix mid.seen v.seen → Knows contents may_give texts faults v
      → (there : DepotView S) → library_at v (length v.seen) ≡ Some there → (RunsIn number there → ⊥) → from ≤ length mid.seen → HasEnded from number v
  ended_since mid v number from runs start grows knows there stood stops behind =
      let last = last_at contents may_give texts faults knows.start v.seen knows.last knows.leads in
      let same_there : last.there ≡ there
      = some_same (sym last.stood ∙ (ap (λ (o : Option (DepotView S)). library_after o v.seen (length v.seen)) (sym knows.begins) ∙ stood)) in
      let leads : LeadsTo contents may_give texts faults knows.start (mid.seen ++ grows.0) knows.last
      = subst (λ (cs : List (Change (DepotView S))). LeadsTo contents may_give texts faults knows.start cs knows.last) (sym grows.1) knows.leads in
      let rest : LeadsTo contents may_give texts faults runs.there grows.0 knows.last
      = leads_behind knows.start mid.seen grows.0 knows.last runs.there leads (ap (λ (o : Option (DepotView S)). library_after o mid.seen (length mid.seen)) (sym (start ∙ knows.begins)) ∙ runs.stood) in
      let stopped : RunsIn number knows.last → ⊥
      = λ goes. stops (subst (λ (d : DepotView S). RunsIn number d) same_there
      (subst (λ o. IsRunning o last.there.state.collection number) last.same.running
      (subst (λ n. IsRunning knows.last.running n number) (ap (λ (s : LibState). s.collection) last.same.state) goes))) in
      let between = ended_between contents may_give texts faults runs.there grows.0 knows.last number rest (runs_there runs.there number runs.runs) stopped in
      let low = behind in
      record {
        place = length mid.seen + between.place;
        behind = omega arith;
        change = between.change;
        at = ap (λ (l : List (Change (DepotView S))). slice_get l (length mid.seen + between.place)) (sym grows.1) ∙ (get_behind mid.seen grows.0 between.place ∙ between.at);
        ends = between.ends;
      }

-- The end of a collection that ran and doesn't run any more. The key lemma is ended_between.
use Rattle.std.proofs.Common.{◌≡◌, ◌≢◌, ◌⊎◌, ◌+◌, ℕ, zero, suc, ⊎_elim, inl, inr, true, false, Bool, if◌then◌else◌, List, [], ◌∷◌, refl, sym, ◌∙◌, ap, subst, Option, None, Some}
use Rattle.std.specs.Prelude.{option_map}
use Rattle.std.proofs.lemmas.Option.{none-some}
use Rattle.std.specs.List.{slice_get}
use Rattle.library_rules.specs.LibraryState.{Running}
use Rattle.library_state.specs.declared.call.Act.{Act}
use Rattle.library_state.specs.declared.call.Act.TheVariants as act
use Rattle.library_state.specs.declared.call.Call.{Call}
use Rattle.library_state.specs.declared.call.Op.{Op}
use Rattle.library_state.specs.declared.call.Op.TheVariants as op
use Rattle.library_state.specs.declared.reply.Reply.{Reply}
use Rattle.library_state.specs.declared.state.LibState.{LibState}
use Rattle.object_store.specs.Shelf.{Contents}
use Rattle.object_store.specs.declared.shelf.Slot.{Slot}
use Rattle.std.specs.FinMap as map
use Rattle.library_rules.specs.Changes.{head_in, is_refused, next_by, with_install}
use Rattle.library_rules.specs.LibraryState.{is_kept}
use Rattle.depot.specs.FreshKeys.{RunsOn, told_there}
use Rattle.depot.specs.CollectionTurns.{IsRunning, MayTurn, running_after_turn, state_after_turn}
use Rattle.depot.specs.DepotView.{DepotView}
use Rattle.depot.specs.NextState.{next_state, state_after}
use Rattle.depot.specs.Story.{IsAnswered, IsSame, IsTurned, LeadsTo, Links, MadeBy}
use Rattle.depot.specs.declared.story.Change.{Change}
use Rattle.depot.specs.declared.story.Made.{Made}
use Rattle.depot.specs.declared.story.Made.TheVariants as made
use Rattle.depot.specs.declared.turn.Turn.{Turn}
use Rattle.depot.specs.declared.turn.Turn.TheVariants as turn
use Rattle.sync_calls.specs.Collecting.{EndsIt}

-- the collection of this number runs in a library
abbrev pub RunsIn : {S : Type 0} → ℕ → DepotView S → Type 0
RunsIn number depot = IsRunning depot.running depot.state.collection number

-- what runs, where one does
runs_some : (running : Option Running) (collection number : ℕ) → IsRunning running collection number → (r : Running) × (running ≡ Some r) × (number ≡ collection)
runs_some None collection number is = absurd is
runs_some (Some r) collection number is = (r, refl, is)

-- the one that runs has the number of collections
pub number_runs : (running : Option Running) (collection number : ℕ) → IsRunning running collection number → number ≡ collection
number_runs None collection number is = absurd is
number_runs (Some r) collection number is = is

pub some_runs : (running : Option Running) (collection number : ℕ) (r : Running) → running ≡ Some r → number ≡ collection → IsRunning running collection number
some_runs running collection number r is same = subst (λ o. IsRunning o collection number) (sym is) same

-- a call leaves the number of collections
acts_on : (s : LibState) (secret : Option (List ℕ)) (moment : ℕ) (a : Act) (r : Reply) → (next_by s secret moment a r).collection ≡ s.collection
acts_on s secret moment (act.Check op.Upload) r = refl
acts_on s secret moment (act.Check op.Download) r = refl
acts_on s secret moment act.Head r = refl
acts_on s secret moment (act.Get key) r = refl
acts_on s secret moment (act.Put key bytes) r = refl
acts_on s secret moment (act.Missing k ids) r = refl
acts_on s secret moment (act.Update pushed) r =
    elim (is_kept s.kept pushed) as (λ b. (if b then s else with_install (head_in r pushed) pushed moment s).collection ≡ s.collection) [ true ↦ refl | false ↦ refl ]
acts_on s secret moment (act.Limit days) r = refl
acts_on s secret moment (act.Ids server client) r = refl

pub stays_by : (s : LibState) (call : Call) (moment : ℕ) (r : Reply) → (state_after s call moment r).collection ≡ s.collection
stays_by s call moment r =
    elim (is_refused r) as (λ b. (if b then s else next_state s call moment r).collection ≡ s.collection) [ true ↦ refl | false ↦ acts_on s call.secret moment call.act r ]

module _ {S : Type 0} (contents : S → Option Contents) (may_give : S → Slot → Option (List ℕ) → Type 0) (texts faults : S → ℕ) where
  -- a call ends no collection
  goes_on_called : (old new : DepotView S) (call : Call) (moment : ℕ) (r : Reply) (number : ℕ) → IsAnswered contents may_give texts faults old call moment r new → RunsIn number old → RunsIn number new
  goes_on_called old new call moment r number is runs =
      let some = runs_some old.running old.state.collection number runs in
      let next = subst (λ o. RunsOn old.store.index new.store.index (told_there old.store.index call.act r) o new.running) some.1 is.serves.fresh in
      some_runs new.running new.state.collection number next.0 next.1
      (some.2 ∙ sym (ap (λ (s : LibState). s.collection) is.serves.left ∙ stays_by old.state call moment r))

  -- a turn goes on with it, or ends it
  goes_on_turned : (old new : DepotView S) (goal : Option ℕ) (moment most : ℕ) (taken : Turn) (number : ℕ) → IsTurned contents may_give texts faults old goal moment most taken new → RunsIn number old
      → RunsIn number new ⊎ (taken ≡ turn.Ended number)
  goes_on_turned old new goal moment most taken number is runs =
      by_turn taken is.takes.runs is.takes.left is.takes.may_come.may (runs_some old.running old.state.collection number runs)
    where
      by_turn : (t : Turn) → new.running ≡ running_after_turn (map.len old.store.index) old.running t → new.state ≡ state_after_turn old.state moment t
          → MayTurn old.store.index (may_give new.store.shelf) old.running old.state.collection goal t → ((r : Running) × (old.running ≡ Some r) × (number ≡ old.state.collection))
          → RunsIn number new ⊎ (t ≡ turn.Ended number)
      by_turn (turn.Began n) now left may some = absurd (none-some _ (sym may.1 ∙ some.1))
      by_turn (turn.Marked count) now left may some = inl (some_runs new.running new.state.collection number _ (now ∙ ap (λ o. option_map {T = Running} (λ (r : Running). record r { turned = r.turned + 1 }) o) some.1) (some.2 ∙ sym (ap (λ (s : LibState). s.collection) left)))
      by_turn (turn.Swept keys) now left may some = inl (some_runs new.running new.state.collection number _ (now ∙ ap (λ o. option_map {T = Running} (λ (r : Running). record r { turned = r.turned + 1 }) o) some.1) (some.2 ∙ sym (ap (λ (s : LibState). s.collection) left)))
      by_turn (turn.Ended n) now left may some = inr (ap turn.Ended (number_runs old.running old.state.collection n may ∙ sym some.2))
      by_turn (turn.Over n) now left may some = inl (some_runs new.running new.state.collection number _ (now ∙ some.1) (some.2 ∙ sym (ap (λ (s : LibState). s.collection) left)))
      by_turn (turn.Refused why keys) now left may some = inl (some_runs new.running new.state.collection number _ (now ∙ some.1) (some.2 ∙ sym (ap (λ (s : LibState). s.collection) left)))

  one_change : (change : Change (DepotView S)) (number : ℕ) → Links contents may_give texts faults change → RunsIn number change.before.value
      → RunsIn number change.after.value ⊎ EndsIt change.made number
  one_change change number links runs = by_made change.made links.by
    where
      by_made : (m : Made) → MadeBy contents may_give texts faults m change.before.value change.moment change.after.value → RunsIn number change.after.value ⊎ EndsIt m number
      by_made (made.Asked call said) is = inl (goes_on_called change.before.value change.after.value call.value change.moment said.value number is runs)
      by_made (made.Turned goal most taken) is = goes_on_turned change.before.value change.after.value goal change.moment most taken.value number is runs

  same_runs : (old new : DepotView S) (number : ℕ) → IsSame contents faults old new → RunsIn number old → RunsIn number new
  same_runs old new number same runs =
      subst (λ o. IsRunning o new.state.collection number) (sym same.running) (subst (λ (s : LibState). IsRunning old.running s.collection number) (sym same.state) runs)

  -- where it ran, and doesn't run any more, a change between ended it
  pub record EndedBetween (cs : List (Change (DepotView S))) (number : ℕ) : Type 0 where
    pub place : ℕ
    pub change : Change (DepotView S)
    pub at : slice_get cs place ≡ Some change
    pub ends : EndsIt change.made number

  pub ended_between : (x : DepotView S) (cs : List (Change (DepotView S))) (y : DepotView S) (number : ℕ) → LeadsTo contents may_give texts faults x cs y → RunsIn number x
      → (RunsIn number y → ⊥) → EndedBetween cs number
  ended_between x [] y number leads runs stops = absurd (stops (same_runs x y number leads runs))
  ended_between x (c ∷ cs) y number leads runs stops = ⊎_elim
      (λ on. let deeper = ended_between c.after.value cs y number leads.2 on stops in record { place = suc deeper.place; change = deeper.change; at = deeper.at; ends = deeper.ends })
      (λ ends. record { place = zero; change = c; at = refl; ends = ends })
      (one_change c number leads.1 (same_runs x c.before.value number leads.0 runs))

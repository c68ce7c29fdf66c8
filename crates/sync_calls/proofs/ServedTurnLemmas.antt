-- A change that was published in a turn. The key lemmas are served_stands, served_told, served_spared and served_known.
use Rattle.std.proofs.Common.{◌≡◌, ℕ, ◌∷◌, [], inl, inr, List, length, sym, ◌∙◌, ap, subst, Option}
use Rattle.library_state.specs.declared.call.Call.{Call}
use Rattle.library_state.specs.declared.refusal.Refusal.TheVariants.{NoMemory}
use Rattle.library_state.specs.declared.reply.Reply.{Reply}
use Rattle.library_state.specs.declared.reply.Reply.TheVariants as reply
use Rattle.object_store.specs.Shelf.{Contents}
use Rattle.object_store.specs.declared.shelf.Slot.{Slot}
use Rattle.depot.specs.DepotView.{DepotView}
use Rattle.depot.specs.Story.{ComesBy, IsAnswered, IsOther, IsSame, same_itself}
use Rattle.depot.specs.declared.story.Change.{Change}
use Rattle.turnstile.specs.PassView.{StandsFor}
use Rattle.turnstile.specs.Steps.{with_entry}
use Rattle.sync_calls.specs.FirstAsking.{Spares}
use Rattle.sync_calls.specs.Operations.{Called, Deed, Does, IsChanging, IsDone, IsReading}
use Rattle.sync_calls.specs.ServedTurn.{CatchesUp, IsEntryOf}
use Rattle.sync_calls.specs.Shown.{Knows, LibraryView, Shown, shown_in}
use Rattle.sync_calls.proofs.TurnLemmas.{changes_by, changes_so, comes_changed, comes_same, knows_changed, knows_read, leads_changed, reads_on, reads_so}

module _ {S : Type 0} (contents : S → Option Contents) (may_give : S → Slot → Option (List ℕ) → Type 0) (texts faults : S → ℕ) where
  -- nothing was published
  pub kept_stands : (w : LibraryView S) (x y : DepotView S) (deed : Deed) → StandsFor (ComesBy contents may_give texts faults) w x → IsSame contents faults x y
      → Does contents may_give texts faults x deed y → StandsFor (ComesBy contents may_give texts faults) w y
  kept_stands w x y deed stands same does = (stands.0, stands.1, comes_same contents may_give texts faults stands.0 x y w.seen deed stands.2 same does)

  pub kept_told : (w : LibraryView S) (x y : DepotView S) (place : ℕ) (deed : Deed) → StandsFor (ComesBy contents may_give texts faults) w x → IsSame contents faults x y
      → place ≡ length w.seen → Does contents may_give texts faults x deed y → (u : Shown S) → CatchesUp u (shown_in w) → IsReading contents may_give texts faults u place deed (shown_in w)
  kept_told w x y place deed stands same is does u up = reads_so contents may_give texts faults u (shown_in w) stands.0 x y place deed up stands.1 stands.2 is does same

  -- the same of a call, and where too much is asked of the library want of memory is answered
  pub kept_spared : (w : LibraryView S) (x y : DepotView S) (place : ℕ) (call : Call) (moment : ℕ) (r : Reply) (too_much : DepotView S → Type 0) → StandsFor (ComesBy contents may_give texts faults) w x
      → IsSame contents faults x y → place ≡ length w.seen → IsAnswered contents may_give texts faults x call moment r y → (too_much x → (r ≡ reply.Refused NoMemory) × (y ≡ x))
      → (u : Shown S) → CatchesUp u (shown_in w) → (done : IsDone contents may_give texts faults u place (Called call moment r) (shown_in w)) × Spares too_much r done
  kept_spared w x y place call moment r too_much stands same is does spares u up =
      let reads = reads_so contents may_give texts faults u (shown_in w) stands.0 x y place (Called call moment r) up stands.1 stands.2 is does same in
      let on = reads_on contents may_give texts faults u (shown_in w) stands.0 x y place (Called call moment r) up stands.1 stands.2 is does same in
      (inl reads, λ much. (spares (subst too_much on much)).0)

  pub kept_known : (w : LibraryView S) (y : DepotView S) → StandsFor (ComesBy contents may_give texts faults) w y → (u : Shown S) → CatchesUp u (shown_in w)
      → Knows contents may_give texts faults u → Knows contents may_give texts faults (shown_in w)
  kept_known w y stands u up knows = knows_read contents may_give texts faults u (shown_in w) stands.0 y up stands.1 stands.2.leads knows

  -- a change was
  pub served_stands : (w z : LibraryView S) (x y : DepotView S) (place : ℕ) (deed : Deed) (change : Change (DepotView S)) → StandsFor (ComesBy contents may_give texts faults) w x
      → z ≡ with_entry w (change ∷ []) place → IsEntryOf x deed y change → Does contents may_give texts faults x deed y → IsOther contents faults x y
      → StandsFor (ComesBy contents may_give texts faults) z y
  served_stands w z x y place deed change stands view entry does other =
      subst (λ (v : LibraryView S). StandsFor (ComesBy contents may_give texts faults) v y) (sym view)
      (stands.0, stands.1, comes_changed contents may_give texts faults stands.0 x y w.seen deed change stands.2 entry does other)

  pub served_told : (w z : LibraryView S) (x y : DepotView S) (place : ℕ) (deed : Deed) (change : Change (DepotView S)) → StandsFor (ComesBy contents may_give texts faults) w x
      → z ≡ with_entry w (change ∷ []) place → IsEntryOf x deed y change → Does contents may_give texts faults x deed y → IsOther contents faults x y
      → place ≡ length w.seen → (u : Shown S) → CatchesUp u (shown_in w) → IsChanging contents may_give texts faults u place deed (shown_in z)
  served_told w z x y place deed change stands view entry does other is u up =
      subst (λ (v : LibraryView S). IsChanging contents may_give texts faults u place deed (shown_in v)) (sym view)
      (changes_so contents may_give texts faults u (shown_in w) stands.0 x y place deed change up stands.1 stands.2 is entry does other)

  pub served_spared : (w z : LibraryView S) (x y : DepotView S) (place : ℕ) (call : Call) (moment : ℕ) (r : Reply) (change : Change (DepotView S)) (too_much : DepotView S → Type 0)
      → StandsFor (ComesBy contents may_give texts faults) w x → z ≡ with_entry w (change ∷ []) place → IsEntryOf x (Called call moment r) y change
      → IsAnswered contents may_give texts faults x call moment r y → IsOther contents faults x y → place ≡ length w.seen → (too_much x → (r ≡ reply.Refused NoMemory) × (y ≡ x))
      → (u : Shown S) → CatchesUp u (shown_in w) → (done : IsDone contents may_give texts faults u place (Called call moment r) (shown_in z)) × Spares too_much r done
  served_spared w z x y place call moment r change too_much stands view entry does other is spares u up =
      let changes = changes_so contents may_give texts faults u (shown_in w) stands.0 x y place (Called call moment r) change up stands.1 stands.2 is entry does other in
      let by = changes_by contents may_give texts faults u (shown_in w) stands.0 x y place (Called call moment r) change up stands.1 stands.2 is entry does other in
      let from : changes.change.before.value ≡ x = ap (λ (c : Change (DepotView S)). c.before.value) by ∙ entry.from in
      subst (λ (v : LibraryView S). (done : IsDone contents may_give texts faults u place (Called call moment r) (shown_in v)) × Spares too_much r done) (sym view)
      (inr changes, λ much. other.any (subst (λ (d : DepotView S). IsSame contents faults x d) (sym (spares (subst too_much from much)).1) (same_itself contents faults x)))

  pub served_known : (w z : LibraryView S) (x y : DepotView S) (place : ℕ) (deed : Deed) (change : Change (DepotView S)) → StandsFor (ComesBy contents may_give texts faults) w x
      → z ≡ with_entry w (change ∷ []) place → IsEntryOf x deed y change → Does contents may_give texts faults x deed y → IsOther contents faults x y
      → place ≡ length w.seen → (u : Shown S) → CatchesUp u (shown_in w) → Knows contents may_give texts faults u → Knows contents may_give texts faults (shown_in z)
  served_known w z x y place deed change stands view entry does other is u up knows =
      subst (λ (v : LibraryView S). Knows contents may_give texts faults (shown_in v)) (sym view)
      (knows_changed contents may_give texts faults (shown_in w) stands.0 y place change stands.1
      (leads_changed contents may_give texts faults stands.0 x y w.seen deed change stands.2.leads entry does other) is
      (knows_read contents may_give texts faults u (shown_in w) stands.0 x up stands.1 stands.2.leads knows))

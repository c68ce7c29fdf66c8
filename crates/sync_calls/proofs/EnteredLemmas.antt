-- The room that a call goes to, and its pass, as they are read and written by their place. The key lemmas are ready_at,
-- ready_again, spent_again, asks_again, looks_again and collects_again.
use Rattle.std.proofs.Common.{◌≡◌, ℕ, ◌<◌, List, length, refl, sym, ap, subst, arith, Option, ◌∙◌}
use Rattle.std.specs.Prelude.{slice_index_or, slice_set, vec_len}
use Rattle.std.specs.Vec.{with_item}
use Rattle.std.proofs.lemmas.List.{length-map, map-set}
use Rattle.library_state.specs.declared.call.Call.{Call}
use Rattle.library_state.specs.declared.tag.Tag.{Tag}
use Rattle.object_store.specs.Shelf.{Contents}
use Rattle.object_store.specs.declared.shelf.Slot.{Slot}
use Rattle.depot.specs.DepotView.{DepotView}
use Rattle.turnstile.specs.PassView.{drawn_of, parts_of, passes_of}
use Rattle.turnstile.specs.Rule.{most_turns}
use Rattle.sync_calls.specs.Asking.{AsksSo}
use Rattle.sync_calls.specs.Collecting.{CollectsOne, CollectsSo}
use Rattle.sync_calls.specs.FirstAsking.{AsksOne, SparesReading}
use Rattle.sync_calls.specs.Hall.{AreReady, HallOf, IsReadyAt, LibraryRoom, PassOf, StaySpent, drawn_by, made_with, passes_in, rooms_of, shares_of, shown_by}
use Rattle.sync_calls.specs.Looking.{GlancesOne, GlancesSo}
use Rattle.sync_calls.specs.Operations.{Line}
use Rattle.sync_calls.specs.RoomPlace.{IsRoomOf}
use Rattle.sync_calls.specs.Shown.{LibraryPass, shown_of}
use Rattle.sync_calls.specs.declared.asking.Answer.{Answer}
use Rattle.sync_calls.specs.declared.collecting.Collected.{Collected}
use Rattle.sync_calls.specs.declared.looking.Glance.{Glance}
use Rattle.sync_calls.proofs.CollectingLemmas.{collects_lift}
use Rattle.sync_calls.proofs.RoomLemmas.{asks_lift, get_map, looks_lift, named_at, ready_there, stay_set}

-- the pass with another to one room
abbrev pub with_pass : {S : Type 0} → PassOf S → ℕ → LibraryPass S → PassOf S
with_pass pass place new = record { passes = with_item pass.passes place new; exit = pass.exit }

module _ {S : Type 0} (contents : S → Option Contents) (may_give : S → Slot → Option (List ℕ) → Type 0) (texts faults : S → ℕ)
    (hall : HallOf S) (pass : PassOf S) (ready : AreReady contents may_give texts faults hall pass) (place : ℕ) (room : LibraryRoom S) (to : LibraryPass S)
    (within : place < vec_len hall.rooms) (is : room ≡ slice_index_or (rooms_of hall) place room) (at : to ≡ slice_index_or (passes_in pass) place to) where
  here : IsReadyAt contents may_give texts faults (shares_of pass) (made_with pass) room to
  here =
      subst (λ (r : LibraryRoom S). IsReadyAt contents may_give texts faults (shares_of pass) (made_with pass) r to) (sym is)
      (subst (λ (p : LibraryPass S). IsReadyAt contents may_give texts faults (shares_of pass) (made_with pass) (slice_index_or (rooms_of hall) place room) p) (sym at)
      (ready.each place room to within))

  pub ready_at : IsReadyAt contents may_give texts faults (parts_of to) (passes_of to) room to
  ready_at =
      subst (λ (n : ℕ). IsReadyAt contents may_give texts faults n (passes_of to) room to) (sym here.share)
      (subst (λ (n : ℕ). IsReadyAt contents may_give texts faults (shares_of pass) n room to) (sym here.among) here)

  pub ready_again : (new : LibraryPass S) → IsReadyAt contents may_give texts faults (parts_of to) (passes_of to) room new → AreReady contents may_give texts faults hall (with_pass pass place new)
  ready_again new so =
      ready_there contents may_give texts faults hall pass ready place room to new (with_pass pass place new) within refl refl refl
      (subst (λ (r : LibraryRoom S). IsReadyAt contents may_give texts faults (shares_of pass) (made_with pass) r new) is
      (subst (λ (n : ℕ). IsReadyAt contents may_give texts faults (shares_of pass) n room new) here.among
      (subst (λ (n : ℕ). IsReadyAt contents may_give texts faults n (passes_of to) room new) here.share so)))

  pub spent_again : (new : LibraryPass S) → (drawn_of to ≡ most_turns → drawn_of new ≡ most_turns) → StaySpent (drawn_by pass) (drawn_by (with_pass pass place new))
  spent_again new stays =
      let ok = pass.passes.ok.0 in
      let size = ready.size in
      let below : place < length (passes_in pass) = omega arith in
      subst (λ (draws : List ℕ). StaySpent (drawn_by pass) draws) (sym (map-set drawn_of (passes_in pass) place new))
      (stay_set (drawn_by pass) place (drawn_of (slice_index_or (passes_in pass) place to)) (drawn_of new) (get_map drawn_of (passes_in pass) place to below)
      (λ was. stays (ap (λ (p : LibraryPass S). drawn_of p) at ∙ was)))

  pub asks_again : (too_much : DepotView S → Type 0) (lib : List ℕ) (call : Call) (moment : ℕ) (answer : Answer) (new : LibraryPass S) → IsRoomOf (rooms_of hall) lib place
      → AsksOne contents may_give texts faults too_much (shown_of to) call moment answer (shown_of new) (drawn_of new)
      → (lines : List Line) × (asks : AsksSo contents may_give texts faults (shown_by pass) lib call moment answer lines (shown_by (with_pass pass place new)) (drawn_by (with_pass pass place new)))
      × SparesReading too_much asks
  asks_again too_much lib call moment answer new found so =
      let ok = pass.passes.ok.0 in
      let size = ready.size in
      let drawn = length-map (passes_in pass) drawn_of in
      let below : place < length (drawn_by pass) = omega arith in
      let told = asks_lift contents may_give texts faults too_much (shown_by pass) (drawn_by pass) lib place (shown_of (slice_index_or (passes_in pass) place to)) (shown_of new) (drawn_of new) call moment answer
      (named_at contents may_give texts faults hall pass ready lib place room to found) below
      (subst (λ (p : LibraryPass S). AsksOne contents may_give texts faults too_much (shown_of p) call moment answer (shown_of new) (drawn_of new)) at so) in
      let all = subst (λ us. (asks : AsksSo contents may_give texts faults (shown_by pass) lib call moment answer told.0 us (drawn_by (with_pass pass place new))) × SparesReading too_much asks)
      (sym (map-set shown_of (passes_in pass) place new))
      (subst (λ draws. (asks : AsksSo contents may_give texts faults (shown_by pass) lib call moment answer told.0 (slice_set (shown_by pass) place (shown_of new)) draws) × SparesReading too_much asks)
      (sym (map-set drawn_of (passes_in pass) place new)) (told.1, told.2)) in
      (told.0, all.0, all.1)

  pub looks_again : (lib : List ℕ) (secret : Option (List ℕ)) (tag : Tag) (found : Glance) (new : LibraryPass S) → IsRoomOf (rooms_of hall) lib place
      → GlancesOne (shown_of to) secret tag found (shown_of new)
      → (lines : List Line) × GlancesSo contents may_give texts faults (shown_by pass) lib secret tag found lines (shown_by (with_pass pass place new))
  looks_again lib secret tag found new is_there so =
      let told = looks_lift contents may_give texts faults (shown_by pass) lib place (shown_of (slice_index_or (passes_in pass) place to)) (shown_of new) secret tag found
      (named_at contents may_give texts faults hall pass ready lib place room to is_there)
      (subst (λ (p : LibraryPass S). GlancesOne (shown_of p) secret tag found (shown_of new)) at so) in (
        told.0,
        subst (λ us. GlancesSo contents may_give texts faults (shown_by pass) lib secret tag found told.0 us) (sym (map-set shown_of (passes_in pass) place new)) told.1,
      )

  pub collects_again : (shows : ℕ → Type 0) (lib : List ℕ) (secret : Option (List ℕ)) (ends : Collected) (new : LibraryPass S) → IsRoomOf (rooms_of hall) lib place
      → CollectsOne contents may_give texts faults shows (shown_of to) secret ends (shown_of new) (drawn_of new)
      → (lines : List Line) × CollectsSo contents may_give texts faults shows (shown_by pass) lib secret ends lines (shown_by (with_pass pass place new)) (drawn_by (with_pass pass place new))
  collects_again shows lib secret ends new found so =
      let ok = pass.passes.ok.0 in
      let size = ready.size in
      let drawn = length-map (passes_in pass) drawn_of in
      let below : place < length (drawn_by pass) = omega arith in
      let told = collects_lift contents may_give texts faults shows (shown_by pass) (drawn_by pass) lib place (shown_of (slice_index_or (passes_in pass) place to)) (shown_of new) (drawn_of new) secret ends
      (named_at contents may_give texts faults hall pass ready lib place room to found) below
      (subst (λ (p : LibraryPass S). CollectsOne contents may_give texts faults shows (shown_of p) secret ends (shown_of new) (drawn_of new)) at so) in (
        told.0,
        subst (λ us. CollectsSo contents may_give texts faults shows (shown_by pass) lib secret ends told.0 us (drawn_by (with_pass pass place new))) (sym (map-set shown_of (passes_in pass) place new))
            (subst (λ draws. CollectsSo contents may_give texts faults shows (shown_by pass) lib secret ends told.0 (slice_set (shown_by pass) place (shown_of new)) draws)
            (sym (map-set drawn_of (passes_in pass) place new)) told.1),
      )

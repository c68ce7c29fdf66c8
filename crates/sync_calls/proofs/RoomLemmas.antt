-- One room of a hall, by its place. The key lemmas are stay_set, named_at, nowhere_at, ready_there, and asks_lift and looks_lift, which
-- carry what was done at one library to what is shown of all.
use Rattle.std.proofs.Common.{◌≡◌, ℕ, zero, suc, ◌<◌, ◌≤◌, ⊎_elim, List, [], ◌∷◌, length, map as map_list, refl, sym, ◌∙◌, ap, subst, arith, Option, Some}
use Rattle.std.specs.List.{slice_get}
use Rattle.std.specs.Prelude.{slice_index_or, slice_set, vec_len, option_map}
use Rattle.std.proofs.lemmas.Bool.{cases_eq}
use Rattle.std.proofs.lemmas.List.{get_or_default, get_or-set_other, get_or-set_same, length-map, set-get_or}
use Rattle.std.proofs.lemmas.Option.{get_or_from_slice_get, slice_get-get_or, slice_get-map, slice_get_within}
use Rattle.library_state.specs.declared.call.Call.{Call}
use Rattle.library_state.specs.declared.tag.Tag.{Tag}
use Rattle.object_store.specs.Shelf.{Contents}
use Rattle.object_store.specs.declared.shelf.Slot.{Slot}
use Rattle.depot.specs.DepotView.{DepotView}
use Rattle.sync_calls.specs.Asking.{AsksSo, IsAt, IsNowhere}
use Rattle.sync_calls.specs.Asking.AsksSo.{denied, spent, took}
use Rattle.turnstile.specs.PassView.{IsPassOf, parts_of, passes_of, start_of}
use Rattle.turnstile.specs.Rule.{most_turns}
use Rattle.sync_calls.specs.FirstAsking.{AsksOne, SparesReading}
use Rattle.sync_calls.specs.FirstAsking.AsksOne.{one_denied, one_spent, one_took}
use Rattle.sync_calls.specs.Hall.{AreReady, ExitPass, HallOf, IsReadyAt, LibraryRoom, PassOf, StaySpent, made_with, passes_in, rooms_of, shares_of, shown_by}
use Rattle.sync_calls.specs.Looking.{GlancesOne, GlancesSo}
use Rattle.sync_calls.specs.Looking.GlancesOne.{denied as one_unseen, looked as one_looked}
use Rattle.sync_calls.specs.Looking.GlancesSo.{denied as unseen, looked}
use Rattle.sync_calls.specs.Operations.{Called, Line, Looked}
use Rattle.sync_calls.specs.RoomPlace.{HasNoRoom, IsRoomOf}
use Rattle.sync_calls.specs.Shown.{LibraryPass, Shown, lib_of, shown_of}
use Rattle.sync_calls.specs.declared.asking.Answer.{Answer}
use Rattle.sync_calls.specs.declared.looking.Glance.{Glance}

-- ---- lists by place

from_some : {A : Type 0} (a b : A) → Some a ≡ Some b → a ≡ b
from_some a b e = cc

-- what stands at a place that is set
pub get_set : {A : Type 0} (xs : List A) (i : ℕ) (a : A) → i < length xs → slice_get (slice_set xs i a) i ≡ Some a
get_set [] i a below = absurd (omega arith)
get_set (x ∷ xs) zero a below = refl
get_set (x ∷ xs) (suc i) a below = get_set xs i a (omega arith)

-- a list in which what stands there is set again
pub set_again : {A : Type 0} (xs : List A) (i : ℕ) (a b : A) → slice_get xs i ≡ Some a → b ≡ a → slice_set xs i b ≡ xs
set_again xs i a b at same =
    ap (λ c. slice_set xs i c) (same ∙ sym (get_or_from_slice_get xs i a a at)) ∙ set-get_or xs i a

-- no turn is drawn behind the last one
pub not_behind : (before now most : ℕ) → before ≡ most → before ≤ now → now < most → ⊥
not_behind before now most is grows below = omega arith

-- numbers that were the last turn's stay so where one is set that stays so
pub stay_set : (xs : List ℕ) (i a b : ℕ) → slice_get xs i ≡ Some a → (a ≡ most_turns → b ≡ most_turns) → StaySpent xs (slice_set xs i b)
stay_set [] i a b at one library is = is
stay_set (x ∷ xs) zero a b at one zero is = ap Some (one (from_some a most_turns (sym at ∙ is)))
stay_set (x ∷ xs) zero a b at one (suc n) is = is
stay_set (x ∷ xs) (suc i) a b at one zero is = is
stay_set (x ∷ xs) (suc i) a b at one (suc n) is = stay_set xs i a b at one n is

-- some item, where there is a place
some_item : {A : Type 0} (xs : List A) (i : ℕ) → i < length xs → A
some_item [] i below = absurd (omega arith)
some_item (x ∷ xs) i below = x

-- what stands at a place of a mapped list
pub get_map : {A B : Type 0} (f : A → B) (xs : List A) (i : ℕ) (d : A) → i < length xs → slice_get (map_list f xs) i ≡ Some (f (slice_index_or xs i d))
get_map f xs i d below = slice_get-map f xs i ∙ ap (λ o. option_map f o) (slice_get-get_or xs i d below)

-- ---- rooms

module _ {S : Type 0} (contents : S → Option Contents) (may_give : S → Slot → Option (List ℕ) → Type 0) (texts faults : S → ℕ) where
  -- what a pass to a room shows is named as the room is
  lib_shown : (shares made : ℕ) (room : LibraryRoom S) (pass : LibraryPass S) → IsReadyAt contents may_give texts faults shares made room pass → lib_of (shown_of pass) ≡ Some room.door.lib
  lib_shown shares made room pass ready = ap (λ o. option_map (λ (depot : DepotView S). depot.state.lib) o) ready.begins ∙ ap Some (sym ready.opens.lib)

  module _ (hall : HallOf S) (pass : PassOf S) (ready : AreReady contents may_give texts faults hall pass) where
    -- what stands at a place of what is shown is that of some pass, to the room there
    shown_at : (j : ℕ) (v : Shown S) → slice_get (shown_by pass) j ≡ Some v → (room : LibraryRoom S) × (j < vec_len hall.rooms) × (lib_of v ≡ Some (slice_index_or (rooms_of hall) j room).door.lib)
    shown_at j v at =
        let below' = slice_get_within (shown_by pass) j v at in
        let size = length-map (passes_in pass) shown_of in
        let ok = pass.passes.ok.0 in
        let ok' = hall.rooms.ok.0 in
        let same = ready.size in
        let below : j < length (passes_in pass) = omega arith in
        let within : j < vec_len hall.rooms = omega arith in
        let inside : j < length (rooms_of hall) = omega arith in
        let room = some_item (rooms_of hall) j inside in
        let to = some_item (passes_in pass) j below in
        let is : v ≡ shown_of (slice_index_or (passes_in pass) j to) = from_some _ _ (sym at ∙ get_map shown_of (passes_in pass) j to below) in
        (room, within, ap lib_of is ∙ lib_shown _ _ _ _ (ready.each j room to within))

    pub nowhere_at : (lib : List ℕ) → HasNoRoom (rooms_of hall) lib → IsNowhere (shown_by pass) lib
    nowhere_at lib none j v at named =
        let there = shown_at j v at in
        let ok' = hall.rooms.ok.0 in
        let within : j < vec_len hall.rooms = there.1 in
        none j there.0 (omega arith) (from_some _ _ (sym there.2 ∙ named))

    pub named_at : (lib : List ℕ) (place : ℕ) (room : LibraryRoom S) (to : LibraryPass S) → IsRoomOf (rooms_of hall) lib place
        → IsAt (shown_by pass) lib place (shown_of (slice_index_or (passes_in pass) place to))
    named_at lib place room to found =
        let ok = pass.passes.ok.0 in
        let ok' = hall.rooms.ok.0 in
        let same = ready.size in
        let within = found.within in
        let below : place < length (passes_in pass) = omega arith in
        let inside : place < vec_len hall.rooms = omega arith in record {
          at = get_map shown_of (passes_in pass) place to below;
          named = lib_shown _ _ _ _ (ready.each place room to inside) ∙ ap Some (found.is room);
          first = λ j v less at named.
              let there = shown_at j v at in
              found.first j there.0 less (from_some _ _ (sym there.2 ∙ named));
        }

    -- the pass to one room may be another that is ready
    pub ready_there : (place : ℕ) (room : LibraryRoom S) (to new : LibraryPass S) (other : PassOf S) → place < vec_len hall.rooms → other.exit ≡ pass.exit
        → vec_len other.passes ≡ vec_len pass.passes → passes_in other ≡ slice_set (passes_in pass) place new
        → IsReadyAt contents may_give texts faults (shares_of pass) (made_with pass) (slice_index_or (rooms_of hall) place room) new
        → AreReady contents may_give texts faults hall other
    ready_there place room to new other within same_exit same_size set there =
        let ok = pass.passes.ok.0 in
        let ok' = hall.rooms.ok.0 in
        let same = ready.size in
        let below : place < length (passes_in pass) = omega arith in
        let inside : place < length (rooms_of hall) = omega arith in record {
          leaves = subst (λ e. IsPassOf hall.exit e) (sym same_exit) ready.leaves;
          way = ready.way;
          starts = ap start_of same_exit ∙ ready.starts;
          empty = ready.empty;
          fits = ready.fits;
          size = same_size ∙ ready.size;
          each = λ i r t at.
              let here : (k : ℕ) → k ≡ place → IsReadyAt contents may_give texts faults (shares_of pass) (made_with pass) (slice_index_or (rooms_of hall) k r) (slice_index_or (slice_set (passes_in pass) place new) k t)
              = λ k e.
              subst (λ n. IsReadyAt contents may_give texts faults (shares_of pass) (made_with pass) (slice_index_or (rooms_of hall) n r) (slice_index_or (slice_set (passes_in pass) place new) n t)) (sym e)
              (subst (λ (p : LibraryPass S). IsReadyAt contents may_give texts faults (shares_of pass) (made_with pass) (slice_index_or (rooms_of hall) place r) p) (sym (get_or-set_same (passes_in pass) place new t below))
              (subst (λ (q : LibraryRoom S). IsReadyAt contents may_give texts faults (shares_of pass) (made_with pass) q new) (get_or_default (rooms_of hall) place room r inside) there)) in
              let apart : (i ≡ place → ⊥) → IsReadyAt contents may_give texts faults (shares_of pass) (made_with pass) (slice_index_or (rooms_of hall) i r) (slice_index_or (slice_set (passes_in pass) place new) i t)
              = λ ne.
              subst (λ (p : LibraryPass S). IsReadyAt contents may_give texts faults (shares_of pass) (made_with pass) (slice_index_or (rooms_of hall) i r) p) (sym (get_or-set_other (passes_in pass) place i new t ne))
              (ready.each i r t at) in
              subst (λ l. IsReadyAt contents may_give texts faults (shares_of other) (made_with other) (slice_index_or (rooms_of hall) i r) (slice_index_or l i t)) (sym set)
              (subst (λ (e : ExitPass S). IsReadyAt contents may_give texts faults (parts_of e) (passes_of e) (slice_index_or (rooms_of hall) i r) (slice_index_or (slice_set (passes_in pass) place new) i t)) (sym same_exit)
              (⊎_elim (λ e. here i e) (λ ne. apart ne) (cases_eq i place)));
        }

  -- what was done at one library, told of all
  pub asks_lift : (too_much : DepotView S → Type 0) (us : List (Shown S)) (draws : List ℕ) (lib : List ℕ) (library : ℕ) (u v : Shown S) (drawn : ℕ) (call : Call) (moment : ℕ) (answer : Answer)
      → IsAt us lib library u → library < length draws → AsksOne contents may_give texts faults too_much u call moment answer v drawn
      → (lines : List Line) × (asks : AsksSo contents may_give texts faults us lib call moment answer lines (slice_set us library v) (slice_set draws library drawn)) × SparesReading too_much asks
  asks_lift too_much us draws lib library u v drawn call moment answer at below (one_denied may is same) =
      ([], denied library u at may is refl (set_again us library u v at.at same), tt)
  asks_lift too_much us draws lib library u v drawn call moment answer at below (one_spent may most is same) =
      ([], spent library u at may (get_set draws library drawn below ∙ ap Some most) is refl (set_again us library u v at.at same), tt)
  asks_lift too_much us draws lib library u v drawn call moment answer at below (one_took may less place done spares opening size) = (
    record { library = library; place = place; deed = Called call moment answer.reply } ∷ [],
    took library u at may drawn (get_set draws library drawn below) less (record { place = place; after = v; done = done; is = refl; one = refl; opening = opening; told = size }),
    spares,
  )

  pub looks_lift : (us : List (Shown S)) (lib : List ℕ) (library : ℕ) (u v : Shown S) (secret : Option (List ℕ)) (tag : Tag) (found : Glance) → IsAt us lib library u
      → GlancesOne u secret tag found v → (lines : List Line) × GlancesSo contents may_give texts faults us lib secret tag found lines (slice_set us library v)
  looks_lift us lib library u v secret tag found at (one_unseen may is same) = ([], unseen library u at may is refl (set_again us library u v at.at same))
  looks_lift us lib library u v secret tag found at (one_looked may place looks opening opened is) = (
    record { library = library; place = place; deed = Looked } ∷ [],
    looked (record { library = library; place = place; deed = Looked }) u at may refl refl
        (record { before = u; was = at.at; after = v; is = refl; done = looks }) opening opened is,
  )

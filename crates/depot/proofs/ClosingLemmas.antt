-- A turn of any kind, by the depot that it leaves. The key lemmas are over_takes, spent_idle, begins_idle, stops_idle, closes_takes,
-- closes_kept, turn_keeps, turn_saves and owner_at.
use Rattle.std.proofs.Common.{◌≡◌, ◌≢◌, inl, inr, ℕ, ◌+◌, ◌<◌, ◌≤◌, ◌==◌, Bool, true, false, if◌then◌else◌, List, [], refl, sym, ap, ap₂, ◌∙◌, subst, subst₂, true≢false, eq-eqb, Option, None, Some, Err, option_map, slice_index_or, arith}
use borrow.Author.Tests.{eqb-true}
use Rattle.std.specs.Prelude.{⊤}
use Rattle.std.specs.FinMap as map
use Rattle.ids.specs.Key.{Objects}
use Rattle.ids.specs.declared.key.Key.{Key}
use Rattle.library_rules.specs.Calls.{token_of}
use Rattle.library_rules.specs.Files.{KeepsKept}
use Rattle.library_rules.specs.LibraryState.{Running, State, last_number}
use Rattle.library_rules.specs.Uploads.{KeepsSafe}
use Rattle.library_state.specs.declared.refusal.Refusal.{Refusal}
use Rattle.library_state.specs.declared.refusal.Refusal.TheVariants as refusal
use Rattle.library_state.specs.declared.state.LibState.{LibState}
use Rattle.library_state.specs.declared.token.Token.{Token}
use Rattle.object_store.specs.Shelf.{Contents}
use Rattle.object_store.specs.Store.{CountsShelf}
use Rattle.object_store.specs.StoreView.{AddsNoStray, StoreView, objects_of, status_of}
use Rattle.object_store.specs.declared.error.StoreFault.{StoreFault}
use Rattle.object_store.specs.declared.shelf.Slot.{Slot as ShelfSlot}
use Rattle.tree_walk.specs.KnownTrees.{KnownView}
use Rattle.depot.specs.Changing.{IsPlaceOf}
use Rattle.depot.specs.CollectionTurns.{BeginsOver, BeginsSo, IsAimed, IsRunning, TakesTurn, is_begin, is_end, is_owner, missed, permits_collection, collection_after, with_begin}
use Rattle.depot.specs.DepotView.{CollectionView, DepotView, IsGood, IsKept, depot_of, running_library, running_of, state_of}
use Rattle.depot.specs.Giving.{GivesBy, IsOwnText}
use Rattle.depot.specs.Refusals.{store_refusal}
use Rattle.depot.specs.Writing.{IsWritten, LeftBy, settled}
use Rattle.depot.specs.declared.turn.Turn.{Turn}
use Rattle.depot.specs.declared.turn.Turn.TheVariants.{Began, Ended, Over, Refused}
use Rattle.depot.proofs.BeginTurnLemmas.{begins_kept, begins_takes, spent_takes, stops_beginning, stops_kept}
use Rattle.depot.proofs.BesideLemmas.{good_rest}
use Rattle.depot.proofs.PlaceLemmas.{place_token}
use Rattle.depot.proofs.TakesTurnLemmas.{unfresh_none}
use Rattle.depot.proofs.ToldLemmas.{mapped_at}
use Rattle.depot.proofs.TurnLemmas.{turn_files, turn_safe}

-- ---- who may collect

-- it is told by the token at the place
pub owner_at : (tokens : List Token) (secret : Option (List ℕ)) (digits : List ℕ) (place : ℕ) (d : Token) → secret ≡ Some digits → IsPlaceOf tokens digits place
    → permits_collection (token_of tokens secret) ≡ is_owner (slice_index_or tokens place d).right
owner_at tokens secret digits place d shown at =
    ap (λ o. permits_collection (token_of tokens o)) shown ∙ ap permits_collection (place_token tokens digits place d at)

pub owner_none : (tokens : List Token) (secret : Option (List ℕ)) (digits : List ℕ) → secret ≡ Some digits → token_of tokens (Some digits) ≡ None → permits_collection (token_of tokens secret) ≡ false
owner_none tokens secret digits shown none = ap (λ o. permits_collection (token_of tokens o)) shown ∙ ap permits_collection none

-- ---- a goal that doesn't run

same_number : {a b : ℕ} → Some a ≡ Some b → a ≡ b
same_number e = cc

-- the goal is that number, and no collection of it runs
pub missed_is : (running goal : Option ℕ) (number : ℕ) → missed running goal ≡ Some number → (goal ≡ Some number) × (running ≢ Some number)
missed_is running None number is = cc is
missed_is None (Some asked) number is = (is, λ e. cc e)
missed_is (Some other) (Some asked) number is = by (other == asked) refl is
  where
    by : (b : Bool) → (other == asked) ≡ b → (if b then None else Some asked) ≡ Some number → (Some asked ≡ Some number) × (Some other ≢ Some number)
    by true same e = cc e
    by false apart e = (e, λ runs. true≢false (sym (eq-eqb other asked (same_number (runs ∙ sym e))) ∙ apart))

-- else the collection that runs is the goal, or there is none
pub aimed_at : (running goal : Option ℕ) (collection : ℕ) → missed running goal ≡ None → running ≡ Some collection → IsAimed goal collection
aimed_at running None collection none runs = tt
aimed_at None (Some asked) collection none runs = cc runs
aimed_at (Some other) (Some asked) collection none runs = by (other == asked) refl none
  where
    by : (b : Bool) → (other == asked) ≡ b → (if b then None else Some asked) ≡ None → asked ≡ collection
    by true same e = sym (eqb-true other asked same) ∙ same_number runs
    by false apart e = cc e

pub no_goal : (running goal : Option ℕ) → missed running goal ≡ None → running ≡ None → goal ≡ None
no_goal running None none idle = refl
no_goal None (Some asked) none idle = cc none
no_goal (Some other) (Some asked) none idle = cc idle

module _ {S : Type 0} (contents : S → Option Contents) (may_give : S → ShelfSlot → Option (List ℕ) → Type 0) (texts faults : S → ℕ) where
  apart_running : (o : Option Running) (collection number : ℕ) → option_map (λ running. collection) o ≢ Some number → IsRunning o collection number → ⊥
  apart_running None collection number apart runs = runs
  apart_running (Some r) collection number apart runs = apart (ap (λ (n : ℕ). Some n) (sym runs))

  pub over_takes : (old : DepotView S) (goal : Option ℕ) (moment at_most number : ℕ) → missed (option_map (λ running. old.state.collection) old.running) goal ≡ Some number
      → TakesTurn contents may_give texts faults old goal moment at_most (Over number) old
  over_takes old goal moment at_most number is = record {
    told = λ s told.
        let at = mapped_at (running_library old.state old.running (faults old.store.shelf)) (objects_of contents old.store) s told in
        record {
          state = s;
          entries = [];
          left = told;
          turns = (
            record {
              asked = due.0;
              apart = λ runs. due.1 (ap (λ (t : State). option_map (λ running. t.state.collection) t.running) at.gives ∙ runs);
            },
            refl,
            refl,
          );
        };
    may_come = record {
      may = (due.0, apart_running old.running old.state.collection number due.1);
      unfresh = unfresh_none old.running;
      over = λ other asked apart. ap Over (same_number (sym due.0 ∙ asked));
      spent = λ none idle last. no_number (sym due.0 ∙ none);
    };
    damage = λ objects told. tt;
    needed = λ s told. tt;
    count = refl;
    left = refl;
    runs = refl;
    marked = refl;
    index = λ key. refl;
    number = (let size : map.len old.store.index + 0 ≡ map.len old.store.index = omega arith in size);
    lying = λ key stray. stray;
    gives = λ slot given now. inl now;
    slot = (refl, refl, refl);
    beside = λ runs. inr (refl, refl, inl refl);
  }
    where
      due : (goal ≡ Some number) × (option_map (λ running. old.state.collection) old.running ≢ Some number)
      due = missed_is (option_map (λ running. old.state.collection) old.running) goal number is

      no_number : {P : Type 0} → Some number ≡ None → P
      no_number e = cc

  -- ---- where none runs

  module _ (store : StoreView S) (state : LibState) (unsettled : Bool) (known : KnownView) (o : Option CollectionView) (kept : IsKept contents faults (depot_of store state unsettled o) known o)
      (old : DepotView S) (is : depot_of store state unsettled o ≡ old) (idle : old.running ≡ None) where
    none : o ≡ None
    none = by o (ap (λ (d : DepotView S). d.running) is ∙ idle)
      where
        by : (p : Option CollectionView) → running_of p ≡ None → p ≡ None
        by None e = refl
        by (Some c) e = cc e

    rest_kept : IsKept contents faults (depot_of store state unsettled None) known None
    rest_kept = subst (λ (p : Option CollectionView). IsKept contents faults (depot_of store state unsettled p) known p) none kept

    is_rest : depot_of store state unsettled None ≡ old
    is_rest = subst (λ (p : Option CollectionView). depot_of store state unsettled p ≡ old) none is

    pub spent_idle : (moment at_most : ℕ) (keys : List Key) → keys ≡ [] → last_number ≤ state.collection → TakesTurn contents may_give texts faults old None moment at_most (Refused refusal.Spent keys) old
    spent_idle moment at_most keys empty last =
        subst₂ (λ (d : DepotView S) (ks : List Key). TakesTurn contents may_give texts faults d None moment at_most (Refused refusal.Spent ks) d) is_rest (sym empty)
        (spent_takes contents may_give texts faults store store state unsettled known rest_kept moment at_most last)

    module _ (new : StoreView S) (later : LibState) (still : Bool) (moment : ℕ) (next : state.collection < last_number) (stays : objects_of contents new ≡ objects_of contents store)
        (held : new.index ≡ store.index) (lying : AddsNoStray contents store new) (gives : GivesBy (IsOwnText state.lib) (may_give store.shelf) (may_give new.shelf)) where
      pub begins_idle : (at_most : ℕ) (collection : CollectionView) → BeginsSo store.index (with_begin moment state).kept collection
          → ((objects : Objects) → objects_of contents store ≡ Some objects → BeginsOver objects collection)
          → (later ≡ with_begin moment state) × (still ≡ false) × IsWritten (with_begin moment state) (settled unsettled state (status_of contents store)) (status_of contents new)
          → faults new.shelf ≡ faults store.shelf → TakesTurn contents may_give texts faults old None moment at_most (Began later.collection) (depot_of new later still (Some collection))
      begins_idle at_most collection begins over (same, settles, written) counts =
          subst (λ (d : DepotView S). TakesTurn contents may_give texts faults d None moment at_most (Began later.collection) (depot_of new later still (Some collection))) is_rest
          (subst₂ (λ (l : LibState) (f : Bool). TakesTurn contents may_give texts faults (depot_of store state unsettled None) None moment at_most (Began l.collection) (depot_of new l f (Some collection)))
          (sym same) (sym settles)
          (begins_takes contents may_give texts faults store new state unsettled known rest_kept moment next collection begins over stays held written at_most counts lying gives))

      pub begins_idle_kept : (collection : CollectionView) → BeginsSo store.index (with_begin moment state).kept collection
          → ((objects : Objects) → objects_of contents store ≡ Some objects → BeginsOver objects collection)
          → (later ≡ with_begin moment state) × (still ≡ false) × IsWritten (with_begin moment state) (settled unsettled state (status_of contents store)) (status_of contents new)
          → faults new.shelf ≡ faults store.shelf → IsKept contents faults (depot_of new later still (Some collection)) known (Some collection)
      begins_idle_kept collection begins over (same, settles, written) counts =
          subst₂ (λ (l : LibState) (f : Bool). IsKept contents faults (depot_of new l f (Some collection)) known (Some collection)) (sym same) (sym settles)
          (begins_kept contents may_give texts faults store new state unsettled known rest_kept moment next collection begins over stays held written counts)

      pub stops_idle : (at_most : ℕ) (fault : StoreFault) (why : Refusal) (keys : List Key) → why ≡ store_refusal fault → keys ≡ [] → later ≡ state
          → LeftBy fault unsettled state (with_begin moment state) (status_of contents store) still (status_of contents new) → CountsShelf {T = ⊤} (faults store.shelf) (faults new.shelf) (Err fault)
          → TakesTurn contents may_give texts faults old None moment at_most (Refused why keys) (depot_of new later still o)
      stops_idle at_most fault why keys refusal empty same left_by count =
          subst (λ (p : Option CollectionView). TakesTurn contents may_give texts faults old None moment at_most (Refused why keys) (depot_of new later still p)) (sym none)
          (subst₂ (λ (d : DepotView S) (t : Turn). TakesTurn contents may_give texts faults d None moment at_most t (depot_of new later still None)) is_rest (sym (ap₂ Refused refusal empty))
          (stops_beginning contents may_give texts faults store new state unsettled known rest_kept moment next fault still later same left_by stays held at_most lying gives count))

      pub stops_idle_kept : (fault : StoreFault) → later ≡ state → LeftBy fault unsettled state (with_begin moment state) (status_of contents store) still (status_of contents new)
          → IsKept contents faults (depot_of new later still o) known o
      stops_idle_kept fault same left_by =
          subst (λ (p : Option CollectionView). IsKept contents faults (depot_of new later still p) known p) (sym none)
          (stops_kept contents may_give texts faults store new state unsettled known rest_kept moment next fault still later same left_by stays held)

  -- ---- where one runs

  ends_as : (turn : Turn) (collection : CollectionView) → (if is_end turn then None else Some collection) ≡ collection_after turn collection
  ends_as (Ended number) collection = refl
  ends_as other collection = refl

  pub closes_takes : (old : DepotView S) (store : StoreView S) (state : LibState) (unsettled : Bool) (goal : Option ℕ) (moment at_most : ℕ) (turn : Turn) (collection : CollectionView) (o : Option CollectionView)
      → o ≡ (if is_end turn then None else Some collection) → TakesTurn contents may_give texts faults old goal moment at_most turn (depot_of store state unsettled (collection_after turn collection))
      → TakesTurn contents may_give texts faults old goal moment at_most turn (depot_of store state unsettled o)
  closes_takes old store state unsettled goal moment at_most turn collection o is takes =
      subst (λ (p : Option CollectionView). TakesTurn contents may_give texts faults old goal moment at_most turn (depot_of store state unsettled p)) (sym (is ∙ ends_as turn collection)) takes

  pub closes_kept : (store : StoreView S) (state : LibState) (unsettled : Bool) (known : KnownView) (turn : Turn) (collection : CollectionView) (o : Option CollectionView)
      → o ≡ (if is_end turn then None else Some collection) → IsKept contents faults (depot_of store state unsettled (Some collection)) known (Some collection)
      → IsKept contents faults (depot_of store state unsettled o) known o
  closes_kept store state unsettled known turn collection o is kept =
      subst (λ (p : Option CollectionView). IsKept contents faults (depot_of store state unsettled p) known p) (sym is) (by (is_end turn))
    where
      by : (b : Bool) → IsKept contents faults (depot_of store state unsettled (if b then None else Some collection)) known (if b then None else Some collection)
      by false = kept
      by true = record {
        good = good_rest contents faults (depot_of store state unsettled (Some collection)) kept.good;
        fits = kept.fits;
        collects = λ t is_t. tt;
        candidates = tt;
        apart = tt;
      }

  -- ---- what each turn keeps

  same_state : {x y : State} → Some x ≡ Some y → x ≡ y
  same_state e = cc

  pub turn_keeps : (old new : DepotView S) (goal : Option ℕ) (moment at_most : ℕ) (turn : Turn) → IsGood contents faults old → TakesTurn contents may_give texts faults old goal moment at_most turn new
      → (s t : State) → state_of contents faults old ≡ Some s → state_of contents faults new ≡ Some t → KeepsKept s t
  turn_keeps old new goal moment at_most turn good takes s t is_s is_t =
      let tells = takes.told s is_s in
      subst (KeepsKept s) (same_state (sym tells.left ∙ is_t)) (turn_files s goal moment at_most turn tells.state tells.entries (good.sound s is_s) tells.turns)

  pub turn_saves : (old new : DepotView S) (goal : Option ℕ) (moment at_most : ℕ) (turn : Turn) → IsGood contents faults old → TakesTurn contents may_give texts faults old goal moment at_most turn new
      → (s t : State) → state_of contents faults old ≡ Some s → state_of contents faults new ≡ Some t → is_begin turn ≡ false → KeepsSafe s t
  turn_saves old new goal moment at_most turn good takes s t is_s is_t other =
      let tells = takes.told s is_s in
      subst (KeepsSafe s) (same_state (sym tells.left ∙ is_t)) (turn_safe s goal moment at_most turn tells.state tells.entries (good.sound s is_s) tells.turns other)

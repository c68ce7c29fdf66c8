-- A turn that begins a collection, and one that doesn't. The key lemmas are two_more, lowered, begins_so, begun_state, begins_takes,
-- begins_kept, spent_takes and stops_beginning.
use Rattle.std.proofs.Common.{◌≡◌, ◌⊎◌, inl, inr, ℕ, ◌+◌, ◌-◌, ◌<◌, ◌≤◌, Bool, false, List, [], ◌∷◌, ◌++◌, length, take, get_or, refl, sym, ap, ap₂, ◌∙◌, subst, true≢false, IsTrue, Option, None, Some, Err, is_some, option_map, arith}
use Rattle.std.specs.Prelude.{⊤}
use Rattle.std.specs.Bool.{MatchBool}
use Rattle.std.specs.FinMap as map
use Rattle.std.specs.FinSet as set
use Rattle.std.proofs.lemmas.List.{take_more}
use Rattle.ids.specs.FaultCount.{Rose}
use Rattle.ids.specs.Key.{Objects, key_cmp}
use Rattle.ids.specs.declared.key.Key.{Key}
use Rattle.library_rules.specs.Changes.{begun, counted}
use Rattle.library_rules.specs.History.{lone}
use Rattle.library_rules.specs.LibraryState.{IsSound, Running, State, kept_commits, last_number}
use Rattle.library_rules.specs.declared.entry.Step.TheVariants as step
use Rattle.library_rules.proofs.KeptHistoryLemmas.{cut_some}
use Rattle.library_rules.proofs.SoundLemmas.{sound_begun}
use Rattle.library_state.specs.Retention.{kept_for}
use Rattle.library_state.specs.declared.history.Install.{Install}
use Rattle.library_state.specs.declared.refusal.Refusal.TheVariants as refusal
use Rattle.library_state.specs.declared.reply.Reply.TheVariants as reply
use Rattle.library_state.specs.declared.state.LibState.{LibState}
use Rattle.object_store.specs.Shelf.{Contents}
use Rattle.object_store.specs.Store.{CountsShelf, is_free}
use Rattle.object_store.specs.StoreView.{AddsNoStray, Index, StoreView, objects_of, status_of}
use Rattle.object_store.specs.declared.error.StoreFault.{StoreFault}
use Rattle.object_store.specs.declared.error.StoreFault.TheVariants as faults_of_store
use Rattle.object_store.specs.declared.shelf.Slot.{Slot as ShelfSlot}
use Rattle.collector.specs.Collecting.{Collects}
use Rattle.collector.specs.Marks.{AreFirst, AreMarks, MarksView, is_candidate}
use Rattle.collector.specs.StoredCandidates.{AreStoredIn}
use Rattle.collector.proofs.GoesOnLemmas.{begins_collecting}
use Rattle.collector.proofs.StoredCandidatesLemmas.{first_stored}
use Rattle.tree_walk.specs.KnownTrees.{KnownView}
use Rattle.depot.specs.CollectionTurns.{BeginsOver, BeginsSo, MayRefuseTurn, TakesTurn, TurnsBySome, with_begin}
use Rattle.depot.specs.DepotView.{CollectionView, IsKept, depot_of, library, running_library, state_of}
use Rattle.depot.specs.Giving.{GivesBy, IsOfSweep, IsOwnText}
use Rattle.depot.specs.NextState.{collection_began}
use Rattle.depot.specs.ObjectCalls.{Counts, is_of_store}
use Rattle.depot.specs.Refusals.{store_refusal}
use Rattle.depot.specs.Writing.{IsWritten, LeftBy, settled}
use Rattle.depot.specs.declared.turn.Turn.{Turn}
use Rattle.depot.specs.declared.turn.Turn.TheVariants.{Began, Refused}
use Rattle.depot.proofs.AnsweringLemmas.{fault_of}
use Rattle.depot.proofs.BesideLemmas.{sound_fresh}
use Rattle.depot.proofs.CollectsLemmas.{collects_state}
use Rattle.depot.proofs.RefusalsLemmas.{counted_same, free_told, refused_lays, told_damage, free_needed}
use Rattle.depot.proofs.StrayLemmas.{strays_none}
use Rattle.depot.proofs.ToldLemmas.{mapped_at}
use Rattle.depot.proofs.TurnLemmas.{begun_turn, idle_turn}
use Rattle.depot.proofs.WritingLemmas.{holds_after, written_at}

-- ---- the commits of head updates, and the number in the text

commits_push : (kept : List Install) (install : Install) → kept_commits (kept ++ install ∷ []) ≡ (kept_commits kept ++ install.head ∷ []) ++ install.pushed ∷ []
commits_push [] install = refl
commits_push (x ∷ kept) install = ap (λ (ids : List (List ℕ)). x.head ∷ x.pushed ∷ ids) (commits_push kept install)

pub two_more : (kept : List Install) (i : ℕ) (install : Install) → i < length kept → install ≡ get_or kept i install → (commits first both : List (List ℕ)) → commits ≡ kept_commits (take i kept)
    → first ≡ commits ++ install.head ∷ [] → both ≡ first ++ install.pushed ∷ [] → both ≡ kept_commits (take (i + 1) kept)
two_more kept i install more is commits first both so_far one two =
    two ∙ ap (λ (ids : List (List ℕ)). ids ++ install.pushed ∷ []) (one ∙ ap (λ (ids : List (List ℕ)). ids ++ install.head ∷ []) so_far) ∙ sym (commits_push (take i kept) install)
    ∙ ap kept_commits (sym (take_more kept i install more ∙ ap (λ (x : Install). take i kept ++ x ∷ []) (sym is)))

pub lowered : (state after : LibState) → after ≡ record state { collection = state.collection + 1 } → record after { collection = after.collection - 1 } ≡ state
lowered state after is =
    let back : state.collection + 1 - 1 ≡ state.collection = omega arith in
    ap (λ (s : LibState). record s { collection = s.collection - 1 }) is ∙ ap (λ (n : ℕ). record state { collection = n }) back

pub begun_state : (moment : ℕ) (state after : LibState) (kept : List Install) → after ≡ state → kept ≡ kept_for state.days moment state.kept
    → record after { kept = kept; collection = after.collection + 1 } ≡ with_begin moment state
begun_state moment state after kept same is = ap₂ (λ (s : LibState) (k : List Install). record s { kept = k; collection = s.collection + 1 }) same is

-- ---- a collection that began

pub begins_so : (index now : Index) (kept : List Install) (commits : List (List ℕ)) (marks : MarksView) (stored : ℕ) (collection : CollectionView) → AreFirst index commits marks → AreMarks marks
    → commits ≡ kept_commits kept → stored ≡ map.len now → now ≡ index → collection ≡ record { marks = marks; running = record { fresh = set.empty; stored = stored; turned = 0 } }
    → BeginsSo index kept collection
begins_so index now kept commits marks stored collection first good are size same is = subst (BeginsSo index kept) (sym is) (record {
  marks = subst (λ (ids : List (List ℕ)). AreFirst index ids marks) are first;
  good = good;
  runs = ap (λ (n : ℕ). record { fresh = set.empty; stored = n; turned = 0 }) (size ∙ ap map.len same);
})

pub begins_over : (objects : Objects) (marks : MarksView) (stored : ℕ) (collection : CollectionView) → stored ≡ map.len objects → ((key : Key) → is_candidate marks key ≡ is_some (map.get objects key))
    → collection ≡ record { marks = marks; running = record { fresh = set.empty; stored = stored; turned = 0 } } → BeginsOver objects collection
begins_over objects marks stored collection size are is = subst (BeginsOver objects) (sym is) (record { stored = size; candidates = are })

module _ {S : Type 0} (contents : S → Option Contents) (may_give : S → ShelfSlot → Option (List ℕ) → Type 0) (texts faults : S → ℕ) (store new : StoreView S) (state : LibState) (unsettled : Bool)
    (known : KnownView) (kept : IsKept contents faults (depot_of store state unsettled None) known None) where
  abbrev idle_at : Objects → State
  idle_at objects = library state (faults store.shelf) objects

  idle_sound : (objects : Objects) → objects_of contents store ≡ Some objects → IsSound (idle_at objects)
  idle_sound objects told = kept.good.sound (idle_at objects) (ap (option_map (running_library state None (faults store.shelf))) told)

  idle_told : (goal : Option ℕ) (moment at_most : ℕ) (turn : Turn) (left : Option State) → ((objects : Objects) → objects_of contents store ≡ Some objects → TurnsBySome (idle_at objects) goal moment at_most turn left)
      → (s : State) → state_of contents faults (depot_of store state unsettled None) ≡ Some s → TurnsBySome s goal moment at_most turn left
  idle_told goal moment at_most turn left each s is =
      let at = mapped_at (running_library state None (faults store.shelf)) (objects_of contents store) s is in
      subst (λ (t : State). TurnsBySome t goal moment at_most turn left) at.gives (each at.value at.is)

  same_size : new.index ≡ store.index → map.len new.index + 0 ≡ map.len store.index
  same_size same = let size : map.len new.index ≡ map.len store.index = ap map.len same in omega (arith, size)

  no_goal : {number : ℕ} {P : Type 0} → None ≡ Some number → P
  no_goal e = cc

  module _ (moment : ℕ) (next : state.collection < last_number) (collection : CollectionView) (begins : BeginsSo store.index (with_begin moment state).kept collection)
      (over : (objects : Objects) → objects_of contents store ≡ Some objects → BeginsOver objects collection) (stays : objects_of contents new ≡ objects_of contents store) (held : new.index ≡ store.index)
      (written : IsWritten (with_begin moment state) (settled unsettled state (status_of contents store)) (status_of contents new)) where
    runs_over : (objects : Objects) → objects_of contents store ≡ Some objects → collection.running ≡ record { fresh = set.empty; stored = map.len objects; turned = 0 }
    runs_over objects told =
        begins.runs ∙ ap (λ (n : ℕ). record { fresh = set.empty; stored = n; turned = 0 }) (sym (ap (λ (r : Running). r.stored) begins.runs) ∙ (over objects told).stored)

    left_begun : (now : ℕ) (objects : Objects) → objects_of contents store ≡ Some objects → faults new.shelf ≡ now
        → state_of contents faults (depot_of new (with_begin moment state) false (Some collection)) ≡ Some (counted now (begun moment (idle_at objects)))
    left_begun now objects told same =
        ap (option_map (running_library (with_begin moment state) (Some collection.running) (faults new.shelf))) (stays ∙ told)
        ∙ ap (λ (n : ℕ). Some (running_library (with_begin moment state) (Some collection.running) n objects)) same
        ∙ ap (λ (r : Running). Some (running_library (with_begin moment state) (Some r) now objects)) (runs_over objects told)

    pub begins_takes : (at_most : ℕ) → faults new.shelf ≡ faults store.shelf → AddsNoStray contents store new → GivesBy (IsOwnText state.lib) (may_give store.shelf) (may_give new.shelf)
        → TakesTurn contents may_give texts faults (depot_of store state unsettled None) None moment at_most (Began (state.collection + 1)) (depot_of new (with_begin moment state) false (Some collection))
    begins_takes at_most counts lying gives = record {
      told = idle_told None moment at_most (Began (state.collection + 1)) (state_of contents faults (depot_of new (with_begin moment state) false (Some collection))) (λ objects told. record {
        state = begun moment (idle_at objects);
        entries = lone (idle_at objects) step.Began moment reply.Checked ∷ [];
        left = left_begun (faults store.shelf) objects told counts;
        turns = (refl, refl, begun_turn (idle_at objects) moment next);
      });
      may_come = record { may = (refl, refl, refl, next); unfresh = refl; over = λ number asked apart. no_goal asked; spent = λ none idle last. absurd (omega (arith, next, last)) };
      damage = λ objects told. tt;
      needed = λ s told. tt;
      count = counts;
      left = refl;
      runs = ap Some begins.runs;
      marked = ap length begins.marks.marked;
      index = λ key. ap (λ (i : Index). map.get i key) held;
      number = same_size held;
      lying = lying;
      gives = gives;
      slot = (refl, written);
      beside = λ runs. absurd (runs refl);
    }

    none_fresh : (key : Key) → set.contains collection.running.fresh key ≡ false
    none_fresh key = ap (λ (r : Running). set.contains r.fresh key) begins.runs ∙ set.contains-empty key_cmp key

    pub begins_kept : faults new.shelf ≡ faults store.shelf → IsKept contents faults (depot_of new (with_begin moment state) false (Some collection)) known (Some collection)
    begins_kept counts = record {
      good = record {
        head = cut_some state.days moment state.kept kept.good.head;
        reads = written.reads;
        fresh = λ key is. absurd (true≢false (sym is ∙ none_fresh key));
        sound = λ t is.
            let at = mapped_at (running_library (with_begin moment state) (Some collection.running) (faults new.shelf)) (objects_of contents new) t is in
            let told = sym stays ∙ at.is in
            subst IsSound (same_state (sym (left_begun (faults store.shelf) at.value told counts) ∙ is)) (begun_sound at.value told);
        text = λ objects status told is. written_at (with_begin moment state) (settled unsettled state (status_of contents store)) (status_of contents new) status written.text is;
      };
      fits = λ objects told. kept.fits objects (sym stays ∙ told);
      collects = λ t is.
          let at = mapped_at (running_library (with_begin moment state) (Some collection.running) (faults new.shelf)) (objects_of contents new) t is in
          subst (λ (u : State). Collects u collection.running collection.marks) at.gives (goes at.value (sym stays ∙ at.is));
      candidates = subst (λ (i : Index). AreStoredIn i collection.marks) (sym held) (first_stored store.index (kept_commits (with_begin moment state).kept) collection.marks begins.marks);
      apart = λ key there. none_fresh key;
    }
      where
        same_state : {x y : State} → Some x ≡ Some y → x ≡ y
        same_state e = cc

        begun_sound : (objects : Objects) → objects_of contents store ≡ Some objects → IsSound (begun moment (idle_at objects))
        begun_sound objects told = sound_begun (idle_at objects) moment next (idle_sound objects told)

        first : Objects → Running
        first objects = record { fresh = set.empty; stored = map.len objects; turned = 0 }

        goes : (objects : Objects) → objects_of contents store ≡ Some objects
            → Collects (running_library (with_begin moment state) (Some collection.running) (faults new.shelf) objects) collection.running collection.marks
        goes objects told =
            subst (λ (r : Running). Collects (running_library (with_begin moment state) (Some r) (faults new.shelf) objects) r collection.marks) (sym (runs_over objects told))
            (collects_state (begun moment (idle_at objects)) (with_begin moment state) (faults new.shelf) (first objects) collection.marks refl
            (begins_collecting (idle_at objects) moment (first objects) store.index (kept_commits (with_begin moment state).kept) collection.marks (idle_sound objects told) refl
            (λ key. sym (begins.marks.candidates key) ∙ (over objects told).candidates key) (λ commit. refl) begins.marks begins.good))

  -- ---- none begins

  sound_count : (s : State) (n : ℕ) → IsSound s → IsSound (counted n s)
  sound_count s n sound = record { kept = sound.kept; tokens = sound.tokens; numbers = sound.numbers }

  pub spent_takes : (moment at_most : ℕ) → last_number ≤ state.collection
      → TakesTurn contents may_give texts faults (depot_of store state unsettled None) None moment at_most (Refused refusal.Spent []) (depot_of store state unsettled None)
  spent_takes moment at_most last = record {
    told = idle_told None moment at_most (Refused refusal.Spent []) (state_of contents faults (depot_of store state unsettled None)) (λ objects told.
        let most = (idle_sound objects told).numbers.collections in
        let equal : state.collection ≡ last_number = omega (arith, last, most) in
        let turn = idle_turn (idle_at objects) moment refusal.Spent (faults store.shelf) (inr (refl, refl, equal)) in
        record {
          state = counted (faults store.shelf) (idle_at objects);
          entries = turn.0;
          left = ap (option_map (running_library state None (faults store.shelf))) told;
          turns = (omega arith, turn.1);
        });
    may_come = record { may = last; unfresh = refl; over = λ number asked apart. no_goal asked; spent = λ none idle at_last. refl };
    damage = λ objects told. tt;
    needed = λ s told. tt;
    count = refl;
    left = refl;
    runs = refl;
    marked = omega arith;
    index = λ key. refl;
    number = (let size : map.len store.index + 0 ≡ map.len store.index = omega arith in size);
    lying = λ key stray. stray;
    gives = λ slot given now. inl now;
    slot = inl (refl, refl, refl);
    beside = λ runs. absurd (runs refl);
  }

  module _ (moment : ℕ) (next : state.collection < last_number) (fault : StoreFault) (still : Bool) (later : LibState) (same : later ≡ state)
      (left_by : LeftBy fault unsettled state (with_begin moment state) (status_of contents store) still (status_of contents new)) (stays : objects_of contents new ≡ objects_of contents store)
      (held : new.index ≡ store.index) where
    is_free_fault : IsTrue (is_free fault)
    is_free_fault = by fault left_by
      where
        by : (f : StoreFault) → LeftBy f unsettled state (with_begin moment state) (status_of contents store) still (status_of contents new) → IsTrue (is_free f)
        by faults_of_store.Shelf left = refl
        by faults_of_store.NoMemory left = refl
        by (faults_of_store.Taken id) left = absurd left
        by (faults_of_store.Wrong id) left = absurd left
        by (faults_of_store.Damaged want got) left = absurd left

    may_refuse : (f : StoreFault) → IsTrue (is_free f) → MayRefuseTurn store.index (may_give new.shelf) None state.collection (store_refusal f)
    may_refuse faults_of_store.Shelf free = refl
    may_refuse faults_of_store.NoMemory free = refl
    may_refuse other free = absurd (true≢false (sym free))

    pub stops_beginning : (at_most : ℕ) → AddsNoStray contents store new → GivesBy (IsOwnText state.lib) (may_give store.shelf) (may_give new.shelf)
        → CountsShelf {T = ⊤} (faults store.shelf) (faults new.shelf) (Err fault)
        → TakesTurn contents may_give texts faults (depot_of store state unsettled None) None moment at_most (Refused (store_refusal fault) []) (depot_of new later still None)
    stops_beginning at_most lying gives count = subst (λ (l : LibState). TakesTurn contents may_give texts faults (depot_of store state unsettled None) None moment at_most (Refused (store_refusal fault) []) (depot_of new l still None))
        (sym same) (record {
          told = idle_told None moment at_most (Refused (store_refusal fault) []) (state_of contents faults (depot_of new state still None)) (λ objects told.
              let turn = idle_turn (idle_at objects) moment (store_refusal fault) (faults new.shelf)
              (inl (record {
                why = store_refusal fault;
                reply = refl;
                fault = fault_of (idle_at objects) (record (lone (idle_at objects) step.Swept moment (reply.Refused (store_refusal fault))) { faults = faults new.shelf }) (store_refusal fault)
                    (free_told objects fault is_free_fault) counts;
              })) in
              record {
                state = counted (faults new.shelf) (idle_at objects);
                entries = turn.0;
                left = ap (option_map (running_library state None (faults new.shelf))) (stays ∙ told);
                turns = (omega arith, turn.1);
              });
          may_come = record { may = may_refuse fault is_free_fault; unfresh = refl; over = λ number asked apart. no_goal asked; spent = λ none idle last. absurd (omega (arith, next, last)) };
          damage = λ objects told. told_damage objects (store_refusal fault) (free_told objects fault is_free_fault);
          needed = λ s told. free_needed s [] fault is_free_fault;
          count = counts;
          left = refl;
          runs = refl;
          marked = omega arith;
          index = λ key. ap (λ (i : Index). map.get i key) held;
          number = same_size held;
          lying = strays_none contents (is_of_store (store_refusal fault)) store new [] lying;
          gives = refused_lays state.lib (store_refusal fault) [] fault (may_give store.shelf) (may_give new.shelf) refl is_free_fault (λ slot given now. wider slot given (gives slot given now));
          slot = inr (inr (fault, refl, refl, left_by));
          beside = λ runs. absurd (runs refl);
        })
      where
        counts : Counts (faults store.shelf) (faults new.shelf) (reply.Refused (store_refusal fault))
        counts =
            subst (λ (b : Bool). MatchBool b ((faults store.shelf ≤ faults new.shelf) × Rose (faults store.shelf) (faults new.shelf)) (faults new.shelf ≡ faults store.shelf)) (counted_same fault) count

        wider : (slot : ShelfSlot) (given : Option (List ℕ)) → may_give store.shelf slot given ⊎ IsOwnText state.lib slot given → may_give store.shelf slot given ⊎ IsOfSweep state.lib [] slot given
        wider slot given (inl before) = inl before
        wider slot given (inr text) = inr (inl text)

    pub stops_kept : IsKept contents faults (depot_of new later still None) known None
    stops_kept = subst (λ (l : LibState). IsKept contents faults (depot_of new l still None) known None) (sym same) (record {
      good = record {
        head = kept.good.head;
        reads = kept.good.reads;
        fresh = λ key is. absurd (true≢false (sym is));
        sound = λ t is.
            let at = mapped_at (running_library state None (faults new.shelf)) (objects_of contents new) t is in
            subst IsSound at.gives (sound_count (idle_at at.value) (faults new.shelf) (idle_sound at.value (sym stays ∙ at.is)));
        text = λ objects status told is.
            holds_after unsettled state (with_begin moment state) objects (status_of contents store) (λ given at_store. kept.good.text objects given (sym stays ∙ told) at_store)
            (collection_began moment refl) (next_sound objects (sym stays ∙ told)) still (status_of contents new) status fault left_by is;
      };
      fits = λ objects told. kept.fits objects (sym stays ∙ told);
      collects = λ t is. tt;
      candidates = tt;
      apart = tt;
    })
      where
        next_sound : (objects : Objects) → objects_of contents store ≡ Some objects → (n : ℕ) → IsSound (library (with_begin moment state) n objects)
        next_sound objects told n =
            sound_fresh (counted n (begun moment (idle_at objects))) None (sound_count (begun moment (idle_at objects)) n (sound_begun (idle_at objects) moment next (idle_sound objects told)))
            (λ key is. absurd (true≢false (sym is)))

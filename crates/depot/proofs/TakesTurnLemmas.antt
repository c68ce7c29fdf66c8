-- A turn that marks, or ends a collection, and what it leaves. The key lemmas are marks_some, fails_some, marks_takes, fails_takes,
-- ends_takes, mark_turn, mark_stands, marking_due, sweeping_due and over_due.
use Rattle.std.proofs.Common.{◌≡◌, ◌≢◌, inl, inr, ℕ, zero, suc, ◌+◌, ◌≤◌, ◌&&◌, ◌||◌, Bool, true, false, not, List, [], ◌∷◌, length, refl, sym, ap, ◌∙◌, subst, subst₂, true≢false, eq-eqb, ◌==◌, if◌then◌else◌, Option, None, Some, Ok, Err, is_some, option_map, arith}
use borrow.Author.Tests.{eqb-true}
use Rattle.std.specs.Prelude.{⊤}
use Rattle.std.specs.Bool.{MatchBool}
use Rattle.std.specs.FinMap as map
use Rattle.std.specs.FinSet as set
use Rattle.std.specs.List.{list_any}
use Rattle.std.proofs.lemmas.Bool.{or_right}
use Rattle.std.proofs.lemmas.List.{length-append}
use Rattle.ids.specs.FaultCount.{Rose}
use Rattle.ids.specs.Key.{Objects, key_cmp}
use Rattle.ids.specs.declared.key.Key.{Key}
use Rattle.library_rules.specs.Changes.{swept}
use Rattle.library_rules.specs.CollectionSteps.{IsClean}
use Rattle.library_rules.specs.History.{lone}
use Rattle.library_rules.specs.LibraryState.{IsSound, Running, State, is_fresh}
use Rattle.library_rules.specs.declared.entry.Step.TheVariants as step
use Rattle.library_rules.proofs.MemberLemmas.{same_id-itself}
use Rattle.library_rules.proofs.SoundLemmas.{sound_counted}
use Rattle.library_state.specs.declared.refusal.Refusal.{Refusal}
use Rattle.library_state.specs.declared.reply.Reply.TheVariants as reply
use Rattle.library_state.specs.declared.state.LibState.{LibState}
use Rattle.object_graph.specs.Objects.{same_id}
use Rattle.object_graph.specs.Traversal.{is_in}
use Rattle.object_graph.specs.declared.fault.TreeFault.{TreeFault}
use Rattle.object_store.specs.Shelf.{Contents}
use Rattle.object_store.specs.StoreView.{Index, Keeps, StoreView, objects_of}
use Rattle.object_store.specs.declared.shelf.Slot.{Slot}
use Rattle.object_store.proofs.StrayLemmas.{strays_kept}
use Rattle.collector.specs.Collecting.{Collects}
use Rattle.collector.specs.Marking.{HasMarked, IsDamageOfNeeded, IsMarkFault, MarksMany, MarksUpTo, TellsMarked, first_fault}
use Rattle.collector.specs.Marks.{AreCompleteCommits, AreMarks, Candidates, IsExact, MarksView, is_candidate, phase_of}
use Rattle.collector.specs.Opened.{OpensMore}
use Rattle.collector.specs.declared.marks.Phase.TheVariants as Phases
use Rattle.collector.proofs.CollectingLemmas.{whole}
use Rattle.collector.proofs.GoesOnLemmas.{marks_collect, waits_collect}
use Rattle.collector.proofs.NeedLemmas.{needed_kept}
use Rattle.tree_walk.specs.Files.{first_due}
use Rattle.tree_walk.specs.KnownTrees.{KnownView}
use Rattle.tree_walk.specs.Reading.{IsDue, Reads}
use Rattle.tree_walk.specs.declared.fault.WalkFault.{WalkFault}
use Rattle.depot.specs.CollectionTurns.{IsAimed, IsRunning, MarksSo, MayTurn, NoneFresh, TakesTurn, TurnsAsDue, TurnsBySome, removed_in, collection_after, turned_once, IsToldNeeded}
use Rattle.depot.specs.DepotView.{CollectionView, IsKept, depot_of, library, running_library, state_of}
use Rattle.depot.specs.Fresh.{counted_turn}
use Rattle.depot.specs.ObjectCalls.{Counts, is_of_store}
use Rattle.depot.specs.Refusals.{walk_refusal}
use Rattle.depot.specs.declared.turn.Turn.{Turn}
use Rattle.depot.specs.declared.turn.Turn.TheVariants.{Marked, Ended, Over, Refused}
use Rattle.depot.proofs.AnsweringLemmas.{fault_of}
use Rattle.depot.proofs.BesideLemmas.{sound_fresh}
use Rattle.depot.proofs.CollectionLemmas.{collection_of}
use Rattle.depot.proofs.CollectsLemmas.{collects_state}
use Rattle.depot.proofs.RefusalsLemmas.{counted_alike, none_due, walk_not_damaged, walked_cause, walk_needed}
use Rattle.depot.proofs.StrayLemmas.{strays_none}
use Rattle.depot.proofs.ToldLemmas.{mapped_at}
use Rattle.depot.proofs.TurnLemmas.{ended_turn, fails_marking, marked_turn, refused_turn}

-- ---- what marking did, as a turn

-- what waited before a part was taken out
pub pending_before : (marks : MarksView) (table : map.FinMap key_cmp ⊤) (stored turned : ℕ) (old : CollectionView) → collection_of marks table stored turned ≡ old → old.marks.pending ≢ []
    → marks.pending ≢ []
pending_before marks table stored turned old is some none = some (ap (λ (c : CollectionView). c.marks.pending) (sym is) ∙ none)

module _ {S : Type 0} (contents : S → Option Contents) (may_give : S → Slot → Option (List ℕ) → Type 0) (texts faults : S → ℕ) (store new : StoreView S) (marks next : MarksView)
    (table : map.FinMap key_cmp ⊤) (stored turned : ℕ) (old : CollectionView) (is : collection_of marks table stored turned ≡ old) where
  pub marks_some : (at_most count : ℕ) (after : CollectionView) → after ≡ counted_turn (collection_of next table stored turned) → marks.pending ≢ [] → Reads {T = ℕ} contents may_give texts faults store new (Ok count)
      → ((objects : Objects) → objects_of contents store ≡ Some objects → MarksMany objects marks next count) → TellsMarked at_most marks next count → HasMarked marks next → AreMarks next
      → OpensMore store.index (may_give store.shelf) marks next → MarksSo contents may_give texts faults store old at_most (Marked count) new after
  marks_some at_most count after counts some reads many told left good opened =
      subst (λ (o : CollectionView). MarksSo contents may_give texts faults store o at_most (Marked count) new after) is
      (subst (λ (a : CollectionView). MarksSo contents may_give texts faults store (collection_of marks table stored turned) at_most (Marked count) new a) (sym counts)
      (told.some some, told.few, record { reads = reads; opened = opened; marks = many; left = left; size = told.size; good = good; turned = refl }))

  pub fails_some : (at_most : ℕ) (fault : WalkFault) (why : Refusal) (keys : List Key) → why ≡ walk_refusal fault → keys ≡ [] → Reads {T = ℕ} contents may_give texts faults store new (Err fault)
      → ((objects : Objects) → objects_of contents store ≡ Some objects → IsExact objects marks → IsMarkFault objects marks.commits fault)
      → ((objects : Objects) → objects_of contents store ≡ Some objects → IsExact objects marks → AreCompleteCommits objects marks.commits → IsDamageOfNeeded objects marks.commits fault)
      → ((objects : Objects) → objects_of contents store ≡ Some objects → MarksUpTo objects marks next) → HasMarked marks next → AreMarks next
      → MarksSo contents may_give texts faults store old at_most (Refused why keys) new (collection_of next table stored turned)
  fails_some at_most fault why keys refusal none reads cause needed up_to left good =
      subst (λ (o : CollectionView). MarksSo contents may_give texts faults store o at_most (Refused why keys) new (collection_of next table stored turned)) is
      (none, record { fault = fault; refusal = refusal; reads = reads; cause = cause; needed = needed; marks = up_to; left = left; good = good; same = refl })

-- marks are only added
more_marked : {old new : MarksView} → HasMarked old new → length old.marked ≤ length new.marked
more_marked {old} {new} left =
    let more : length new.marked ≡ length old.marked + length left.more = ap length left.marked ∙ length-append old.marked left.more in
    omega (arith, more)

-- ---- a turn of the collection that runs is neither over nor spent

runs_some : {running : Running} → Some running ≡ None → ⊥
runs_some e = cc

-- where none leaves, no fresh key does
pub unfresh_none : (running : Option Running) → NoneFresh running []
unfresh_none None = refl
unfresh_none (Some running) = λ key there. absurd (true≢false (sym there))

pub as_due : (index : Index) (gives : Slot → Option (List ℕ) → Type 0) (running : Running) (collection : ℕ) (goal : Option ℕ) (turn : Turn) → IsAimed goal collection
    → MayTurn index gives (Some running) collection goal turn → NoneFresh (Some running) (removed_in turn) → TurnsAsDue index gives (Some running) collection goal turn
as_due index gives running collection goal turn aimed may unfresh = record {
  may = may;
  unfresh = unfresh;
  over = over goal aimed;
  spent = λ none idle last. absurd (runs_some idle);
}
  where
    same_number : {a b : ℕ} → Some a ≡ Some b → a ≡ b
    same_number e = cc

    over : (g : Option ℕ) → IsAimed g collection → (number : ℕ) → g ≡ Some number → (IsRunning (Some running) collection number → ⊥) → turn ≡ Over number
    over None at number asked apart = cc asked
    over (Some other) at number asked apart = absurd (apart (sym (same_number asked) ∙ at))

-- ---- commits that are complete have no first fault

pub none_first : (objects : Objects) (commits : List (List ℕ)) → AreCompleteCommits objects commits → first_fault objects commits ≡ None
none_first objects [] complete = refl
none_first objects (commit ∷ commits) complete =
    ap (λ (o : Option TreeFault). first_due o (first_fault objects commits)) (complete commit (ap (λ b. b || list_any (same_id commit) commits) (same_id-itself commit)))
    ∙ none_first objects commits (λ other is. complete other (or_right (same_id other commit) (list_any (same_id other) commits) is))

-- ---- what is told of the library

module _ {S : Type 0} (contents : S → Option Contents) (may_give : S → Slot → Option (List ℕ) → Type 0) (texts faults : S → ℕ) (store new : StoreView S) (state : LibState) (unsettled : Bool)
    (before after : CollectionView) (known : KnownView) (kept : IsKept contents faults (depot_of store state unsettled (Some before)) known (Some before)) where
  abbrev pub library_at : Objects → State
  library_at objects = running_library state (Some before.running) (faults store.shelf) objects

  told_library : (objects : Objects) → objects_of contents store ≡ Some objects → state_of contents faults (depot_of store state unsettled (Some before)) ≡ Some (library_at objects)
  told_library objects told = ap (option_map (running_library state (Some before.running) (faults store.shelf))) told

  pub sound_at : (objects : Objects) → objects_of contents store ≡ Some objects → IsSound (library_at objects)
  sound_at objects told = kept.good.sound (library_at objects) (told_library objects told)

  pub collects_at : (objects : Objects) → objects_of contents store ≡ Some objects → Collects (library_at objects) before.running before.marks
  collects_at objects told = kept.collects (library_at objects) (told_library objects told)

  -- it is enough to tell it by the objects
  pub told_by : (goal : Option ℕ) (moment at_most : ℕ) (turn : Turn) (left : Option State)
      → ((objects : Objects) → objects_of contents store ≡ Some objects → TurnsBySome (library_at objects) goal moment at_most turn left)
      → (s : State) → state_of contents faults (depot_of store state unsettled (Some before)) ≡ Some s → TurnsBySome s goal moment at_most turn left
  told_by goal moment at_most turn left each s is =
      let at = mapped_at (running_library state (Some before.running) (faults store.shelf)) (objects_of contents store) s is in
      subst (λ (t : State). TurnsBySome t goal moment at_most turn left) at.gives (each at.value at.is)

  same_size : (old_index new_index : Index) → new_index ≡ old_index → map.len new_index + 0 ≡ map.len old_index
  same_size old_index new_index same = let size : map.len new_index ≡ map.len old_index = ap map.len same in omega (arith, size)

  -- what a reading leaves is told as what was there, with this collection and count
  left_as : (running : Running) (now : ℕ) (objects : Objects) → Keeps contents store new → objects_of contents store ≡ Some objects → after.running ≡ running → faults new.shelf ≡ now
      → state_of contents faults (depot_of new state unsettled (Some after)) ≡ Some (running_library state (Some running) now objects)
  left_as running now objects keeps told runs counts =
      ap (option_map (running_library state (Some after.running) (faults new.shelf))) (keeps.objects ∙ told)
      ∙ ap (λ (n : ℕ). Some (running_library state (Some after.running) n objects)) counts
      ∙ ap (λ (r : Running). Some (running_library state (Some r) now objects)) runs

  -- ---- marking

  pub marks_takes : (goal : Option ℕ) (moment at_most count : ℕ) → IsAimed goal state.collection → before.marks.pending ≢ []
      → MarksSo contents may_give texts faults store before at_most (Marked count) new after
      → TakesTurn contents may_give texts faults (depot_of store state unsettled (Some before)) goal moment at_most (Marked count) (depot_of new state unsettled (Some after))
  marks_takes goal moment at_most count aimed some (least, few, marks) = record {
    told = told_by goal moment at_most (Marked count) (state_of contents faults (depot_of new state unsettled (Some after))) (λ objects told. record {
      state = running_library state (Some (turned_once before.running)) (faults store.shelf) objects;
      entries = lone (library_at objects) step.Swept moment reply.Checked ∷ [];
      left = left_as (turned_once before.running) (faults store.shelf) objects marks.reads.kept told marks.turned marks.reads.count;
      turns = (least, few, marked_turn (library state (faults store.shelf) objects) before.running before.marks (sound_at objects told) (collects_at objects told) moment some);
    });
    may_come = as_due store.index (may_give new.shelf) before.running state.collection goal (Marked count) aimed (λ idle. runs_some idle) (unfresh_none (Some before.running));
    damage = λ objects told. tt;
    needed = λ s told. tt;
    count = marks.reads.count;
    left = refl;
    runs = ap Some marks.turned;
    marked = marks.size;
    index = λ key. ap (λ (i : Index). map.get i key) marks.reads.kept.index;
    number = same_size store.index new.index marks.reads.kept.index;
    lying = strays_kept contents store new marks.reads.kept.index marks.reads.kept.shelf;
    gives = λ slot given now. inl (marks.reads.shelf.gives slot given now);
    slot = (refl, ap (option_map (λ (held : Contents). held.status)) marks.reads.kept.shelf, marks.reads.shelf.written);
    beside = λ runs. inr (refl, refl, inl (ap (option_map (λ (held : Contents). held.status)) marks.reads.kept.shelf));
  }

  -- an object can't be marked: over told objects the commits are complete, so it is a fault of the store
  pub fails_takes : (goal : Option ℕ) (moment at_most : ℕ) (why : Refusal) (keys : List Key) → IsAimed goal state.collection
      → MarksSo contents may_give texts faults store before at_most (Refused why keys) new after
      → TakesTurn contents may_give texts faults (depot_of store state unsettled (Some before)) goal moment at_most (Refused why keys) (depot_of new state unsettled (Some after))
  fails_takes goal moment at_most why keys aimed (none, fails) = subst (λ (ks : List Key). TakesTurn contents may_give texts faults (depot_of store state unsettled (Some before)) goal moment at_most (Refused why ks)
      (depot_of new state unsettled (Some after))) (sym none) (subst (λ (w : Refusal). TakesTurn contents may_give texts faults (depot_of store state unsettled (Some before)) goal moment at_most (Refused w [])
      (depot_of new state unsettled (Some after))) (sym fails.refusal) (record {
        told = told_by goal moment at_most (Refused (walk_refusal fails.fault) []) (state_of contents faults (depot_of new state unsettled (Some after))) (λ objects told.
            let rest : State = library state (faults store.shelf) objects in
            let refused = refused_turn rest before.running before.marks (sound_at objects told) (collects_at objects told) moment (walk_refusal fails.fault) [] (faults new.shelf)
            (fails_marking rest before.running before.marks (sound_at objects told) (collects_at objects told) moment (walk_refusal fails.fault) [] (faults new.shelf) refl
            (fault_of (library_at objects) (record (lone (library_at objects) step.Swept moment (reply.Refused (walk_refusal fails.fault))) { faults = faults new.shelf }) (walk_refusal fails.fault)
            (none_due objects fails.fault (due objects told)) counts)) in
            record {
              state = running_library state (Some before.running) (faults new.shelf) objects;
              entries = refused.0;
              left = left_as before.running (faults new.shelf) objects fails.reads.kept told fails.same refl;
              turns = (omega arith, refused.1);
            });
        may_come = as_due store.index (may_give new.shelf) before.running state.collection goal (Refused (walk_refusal fails.fault) []) aimed
            (subst (λ (i : Index). MayTurn i (may_give new.shelf) (Some before.running) state.collection goal (Refused (walk_refusal fails.fault) [])) fails.reads.kept.index
            (walked_cause new.index (may_give new.shelf) fails.fault fails.reads.cause)) (unfresh_none (Some before.running));
        damage = λ objects told. walk_not_damaged objects None fails.fault (due objects told);
        needed = λ s is.
            let at = mapped_at (running_library state (Some before.running) (faults store.shelf)) (objects_of contents store) s is in
            subst (λ (t : State). IsToldNeeded t (Refused (walk_refusal fails.fault) [])) at.gives (needed at.value at.is);
        count = counts;
        left = refl;
        runs = ap Some fails.same;
        marked = more_marked fails.left;
        index = λ key. ap (λ (i : Index). map.get i key) fails.reads.kept.index;
        number = same_size store.index new.index fails.reads.kept.index;
        lying = strays_none contents (is_of_store (walk_refusal fails.fault)) store new [] (strays_kept contents store new fails.reads.kept.index fails.reads.kept.shelf);
        gives = λ slot given now. inl (fails.reads.shelf.gives slot given now);
        slot = inl (refl, ap (option_map (λ (held : Contents). held.status)) fails.reads.kept.shelf, fails.reads.shelf.written);
        beside = λ runs. inr (refl, refl, inl (ap (option_map (λ (held : Contents). held.status)) fails.reads.kept.shelf));
      }))
    where
      due : (objects : Objects) → objects_of contents store ≡ Some objects → IsDue objects None fails.fault
      due objects told =
          subst (λ o. IsDue objects o fails.fault)
          (none_first objects before.marks.commits (whole (library_at objects) before.running before.marks (sound_at objects told) (collects_at objects told)))
          (fails.cause objects told (collects_at objects told).exact)

      needed : (objects : Objects) → objects_of contents store ≡ Some objects → IsToldNeeded (library_at objects) (Refused (walk_refusal fails.fault) [])
      needed objects told =
          let collects = collects_at objects told in
          walk_needed (library_at objects) [] before.marks.commits fails.fault (needed_kept objects state.kept before.marks.commits collects.commits)
          (fails.needed objects told collects.exact (whole (library_at objects) before.running before.marks (sound_at objects told) collects))

      counts : Counts (faults store.shelf) (faults new.shelf) (reply.Refused (walk_refusal fails.fault))
      counts =
          subst (λ (b : Bool). MatchBool b ((faults store.shelf ≤ faults new.shelf) × Rose (faults store.shelf) (faults new.shelf)) (faults new.shelf ≡ faults store.shelf))
          (counted_alike fails.fault) fails.reads.count

  -- ---- the end

  pub ends_takes : (goal : Option ℕ) (moment at_most : ℕ) → IsAimed goal state.collection → ((objects : Objects) → objects_of contents store ≡ Some objects → IsClean (library_at objects))
      → TakesTurn contents may_give texts faults (depot_of store state unsettled (Some before)) goal moment at_most (Ended state.collection) (depot_of store state unsettled None)
  ends_takes goal moment at_most aimed clean = record {
    told = told_by goal moment at_most (Ended state.collection) (state_of contents faults (depot_of store state unsettled None)) (λ objects told. record {
      state = library state (faults store.shelf) objects;
      entries = lone (library_at objects) step.Ended moment reply.Checked ∷ [];
      left = ap (option_map (running_library state None (faults store.shelf))) told;
      turns = (refl, clean objects told, ended_turn (library state (faults store.shelf) objects) before.running before.marks (sound_at objects told) (collects_at objects told) moment (clean objects told));
    });
    may_come = as_due store.index (may_give store.shelf) before.running state.collection goal (Ended state.collection) aimed refl (unfresh_none (Some before.running));
    damage = λ objects told. tt;
    needed = λ s told. tt;
    count = refl;
    left = refl;
    runs = refl;
    marked = refl;
    index = λ key. refl;
    number = same_size store.index store.index refl;
    lying = λ key stray. stray;
    gives = λ slot given now. inl now;
    slot = (refl, refl, refl);
    beside = λ runs. inr (refl, refl, inl refl);
  }

  -- ---- the invariant after a reading

  pub reads_kept : Keeps contents store new → ((key : Key) → is_fresh (Some after.running) key ≡ is_fresh (Some before.running) key)
      → ((key : Key) → is_candidate after.marks key ≡ true → is_candidate before.marks key ≡ true)
      → ((objects : Objects) → objects_of contents store ≡ Some objects → Collects (running_library state (Some after.running) (faults new.shelf) objects) after.running after.marks)
      → IsKept contents faults (depot_of new state unsettled (Some after)) known (Some after)
  reads_kept keeps fresh fewer collects = record {
    good = record {
      head = kept.good.head;
      reads = kept.good.reads;
      fresh = λ key is. ap (λ (i : Index). is_some (map.get i key)) keeps.index ∙ kept.good.fresh key (sym (fresh key) ∙ is);
      sound = λ s is.
          let at = mapped_at (running_library state (Some after.running) (faults new.shelf)) (objects_of contents new) s is in
          let sound = sound_counted (library_at at.value) (faults new.shelf) (sound_at at.value (sym keeps.objects ∙ at.is)) in
          subst IsSound at.gives
          (sound_fresh (running_library state (Some before.running) (faults new.shelf) at.value) (Some after.running) sound (λ key is. sound.kept.fresh_stored key (sym (fresh key) ∙ is)));
      text = λ objects status told at. kept.good.text objects status (sym keeps.objects ∙ told) (sym (ap (option_map (λ (held : Contents). held.status)) keeps.shelf) ∙ at);
    };
    fits = λ objects told. kept.fits objects (sym keeps.objects ∙ told);
    collects = λ s is.
        let at = mapped_at (running_library state (Some after.running) (faults new.shelf)) (objects_of contents new) s is in
        subst (λ (t : State). Collects t after.running after.marks) at.gives (collects at.value (sym keeps.objects ∙ at.is));
    candidates = λ key there. ap (λ (i : Index). is_some (map.get i key)) keeps.index ∙ kept.candidates key (fewer key there);
    apart = λ key there. fresh key ∙ kept.apart key (fewer key there);
  }

  fewer_marked : HasMarked before.marks after.marks → (key : Key) → is_candidate after.marks key ≡ true → is_candidate before.marks key ≡ true
  fewer_marked left key there = and_left (is_candidate before.marks key) (not (is_in left.more key)) (sym (left.candidates key) ∙ there)
    where
      and_left : (a b : Bool) → (a && b) ≡ true → a ≡ true
      and_left true b e = refl
      and_left false b e = e

  pub marks_kept : (at_most count : ℕ) → MarksSo contents may_give texts faults store before at_most (Marked count) new after
      → IsKept contents faults (depot_of new state unsettled (Some after)) known (Some after)
  marks_kept at_most count (least, few, marks) =
      reads_kept marks.reads.kept (λ key. ap (λ (r : Running). set.contains r.fresh key) marks.turned) (fewer_marked marks.left) (λ objects told. goes objects told count least (marks.marks objects told))
    where
      goes : (objects : Objects) → objects_of contents store ≡ Some objects → (n : ℕ) → 1 ≤ n → MarksMany objects before.marks after.marks n
          → Collects (running_library state (Some after.running) (faults new.shelf) objects) after.running after.marks
      goes objects told zero one many = absurd (omega (arith, one))
      goes objects told (suc n) one many =
          subst (λ (r : Running). Collects (running_library state (Some r) (faults new.shelf) objects) r after.marks) (sym marks.turned)
          (collects_state (swept false (library_at objects)) state (faults new.shelf) (turned_once before.running) after.marks refl
          (marks_collect (library_at objects) before.running before.marks after.marks n (sound_at objects told) (collects_at objects told) many marks.good))

  pub fails_kept : (at_most : ℕ) (why : Refusal) (keys : List Key) → MarksSo contents may_give texts faults store before at_most (Refused why keys) new after
      → IsKept contents faults (depot_of new state unsettled (Some after)) known (Some after)
  fails_kept at_most why keys (none, fails) =
      reads_kept fails.reads.kept (λ key. ap (λ (r : Running). set.contains r.fresh key) fails.same) (fewer_marked fails.left) goes
    where
      goes : (objects : Objects) → objects_of contents store ≡ Some objects → Collects (running_library state (Some after.running) (faults new.shelf) objects) after.running after.marks
      goes objects told =
          subst (λ (r : Running). Collects (running_library state (Some r) (faults new.shelf) objects) r after.marks) (sym fails.same)
          (collects_state (library_at objects) state (faults new.shelf) before.running after.marks refl
          (waits_collect (library_at objects) before.running before.marks after.marks (sound_at objects told) (collects_at objects told) (fails.marks objects told) fails.good))

  -- ---- whatever marking answers

  pub mark_turn : (goal : Option ℕ) (moment at_most : ℕ) (turn : Turn) (later : LibState) (still : Bool) → IsAimed goal state.collection → before.marks.pending ≢ []
      → MarksSo contents may_give texts faults store before at_most turn new after → later ≡ state → still ≡ unsettled
      → TakesTurn contents may_give texts faults (depot_of store state unsettled (Some before)) goal moment at_most turn (depot_of new later still (collection_after turn after))
  mark_turn goal moment at_most turn later still aimed some so same_state same_flag =
      subst₂ (λ (l : LibState) (f : Bool). TakesTurn contents may_give texts faults (depot_of store state unsettled (Some before)) goal moment at_most turn (depot_of new l f (collection_after turn after)))
      (sym same_state) (sym same_flag) (by turn so)
    where
      by : (t : Turn) → MarksSo contents may_give texts faults store before at_most t new after
          → TakesTurn contents may_give texts faults (depot_of store state unsettled (Some before)) goal moment at_most t (depot_of new state unsettled (collection_after t after))
      by (Marked count) marks = marks_takes goal moment at_most count aimed some marks
      by (Refused why keys) fails = fails_takes goal moment at_most why keys aimed fails
      by other none = absurd none

  pub mark_stands : (at_most : ℕ) (turn : Turn) (later : LibState) (still : Bool) → MarksSo contents may_give texts faults store before at_most turn new after → later ≡ state → still ≡ unsettled
      → IsKept contents faults (depot_of new later still (Some after)) known (Some after)
  mark_stands at_most turn later still so same_state same_flag =
      subst₂ (λ (l : LibState) (f : Bool). IsKept contents faults (depot_of new l f (Some after)) known (Some after)) (sym same_state) (sym same_flag) (by turn so)
    where
      by : (t : Turn) → MarksSo contents may_give texts faults store before at_most t new after → IsKept contents faults (depot_of new state unsettled (Some after)) known (Some after)
      by (Marked count) marks = marks_kept at_most count marks
      by (Refused why keys) fails = fails_kept at_most why keys fails
      by other none = absurd none

-- ---- what is due of a collection

nothing_waits : (keys : List Key) → (length keys == 0) ≡ true → keys ≡ []
nothing_waits [] e = refl
nothing_waits (key ∷ keys) e = let zero_len : length (key ∷ keys) ≡ 0 = eqb-true (length (key ∷ keys)) 0 e in absurd (omega (arith, zero_len))

pub marking_due : (marks : MarksView) → phase_of marks ≡ Phases.Marking → marks.pending ≢ []
marking_due marks is none = by (length marks.pending == 0) (map.len marks.candidates == 0) is (ap (λ (keys : List Key). length keys == 0) none)
  where
    by : (a b : Bool) → (if a then (if b then Phases.Over else Phases.Sweeping) else Phases.Marking) ≡ Phases.Marking → a ≡ true → ⊥
    by false b at empty = true≢false (sym empty)
    by true false at empty = cc at
    by true true at empty = cc at

pub sweeping_due : (marks : MarksView) → phase_of marks ≡ Phases.Sweeping → (marks.pending ≡ []) × (map.len marks.candidates ≢ 0)
sweeping_due marks is = by (length marks.pending == 0) (map.len marks.candidates == 0) refl refl is
  where
    by : (a b : Bool) → (length marks.pending == 0) ≡ a → (map.len marks.candidates == 0) ≡ b → (if a then (if b then Phases.Over else Phases.Sweeping) else Phases.Marking) ≡ Phases.Sweeping
        → (marks.pending ≡ []) × (map.len marks.candidates ≢ 0)
    by false b waits left at = cc at
    by true true waits left at = cc at
    by true false waits left at = (nothing_waits marks.pending waits, λ none. true≢false (sym (eq-eqb (map.len marks.candidates) 0 none) ∙ left))

pub over_due : (marks : MarksView) → phase_of marks ≡ Phases.Over → (marks.pending ≡ []) × (map.len marks.candidates ≡ 0)
over_due marks is = by (length marks.pending == 0) (map.len marks.candidates == 0) refl refl is
  where
    by : (a b : Bool) → (length marks.pending == 0) ≡ a → (map.len marks.candidates == 0) ≡ b → (if a then (if b then Phases.Over else Phases.Sweeping) else Phases.Marking) ≡ Phases.Over
        → (marks.pending ≡ []) × (map.len marks.candidates ≡ 0)
    by false b waits left at = cc at
    by true false waits left at = cc at
    by true true waits left at = (nothing_waits marks.pending waits, eqb-true (map.len marks.candidates) 0 left)

-- where none is left no key is a candidate
pub none_left : (marks : MarksView) → map.len marks.candidates ≡ 0 → (key : Key) → is_candidate marks key ≡ false
none_left marks none key = ap (λ (c : Candidates). is_some (map.get c key)) (map.empty_of_len marks.candidates none) ∙ ap is_some (map.get-empty key_cmp key)

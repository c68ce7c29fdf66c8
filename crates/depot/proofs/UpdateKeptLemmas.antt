-- The depot's invariant after a head update. The key lemmas are kept_unshielded and kept_installed.
use Rattle.std.proofs.Common.{◌≡◌, ◌&&◌, not, ℕ, Bool, true, false, List, [], ◌∷◌, ◌++◌, refl, sym, ap, ◌∙◌, subst, subst₂, true≢false, Option, None, Some, is_some, option_map}
use Rattle.std.specs.FinMap as map
use Rattle.std.specs.FinSet as set
use Rattle.ids.specs.Key.{Objects, key_cmp}
use Rattle.ids.specs.declared.key.Key.{Key}
use Rattle.library_rules.specs.Changes.{with_added}
use Rattle.library_rules.specs.declared.entry.Stored.{Stored}
use Rattle.library_rules.specs.LibraryState.{IsSound, Running, State, head_of, is_fresh, is_kept, is_stored}
use Rattle.library_rules.proofs.BesideStepLemmas.{told_after}
use Rattle.library_rules.proofs.KeepingLemmas.{grown, keeps_itself}
use Rattle.library_state.specs.declared.call.Act.TheVariants as act
use Rattle.library_state.specs.declared.history.Install.{Install}
use Rattle.library_state.specs.declared.reply.Reply.{Reply}
use Rattle.object_graph.specs.Traversal.{is_in}
use Rattle.object_graph.specs.Unchanged.{Keeps}
use Rattle.object_store.specs.Shelf.{Contents}
use Rattle.object_store.specs.StoreView.{objects_of}
use Rattle.tree_walk.specs.KnownTrees.{KnownView}
use Rattle.collector.specs.Marks.{AreMarks, HasTheSameMarks, MarksView, is_candidate}
use Rattle.depot.specs.DepotView.{AreApart, CollectionView, CollectsIn, DepotView, FitsIn, IsGood, IsKept, KnowsCandidates, at_rest, running_library, running_of, state_of}
use Rattle.depot.specs.Fresh.{MayHaveFresh, MayShield}
use Rattle.depot.specs.FreshKeys.{RunsOn}
use Rattle.depot.specs.Shields.{ListsNeeded, with_plan}
use Rattle.depot.specs.UpdateInstall.{with_all}
use Rattle.depot.specs.declared.plan.Plan.{Plan}
use Rattle.depot.proofs.BesideLemmas.{FreshTold, good_beside}
use Rattle.depot.proofs.ApartLemmas.{apart_runs}
use Rattle.depot.proofs.CollectsLemmas.{known_more}
use Rattle.depot.proofs.KeptLemmas.{fresh_stored, untold}
use Rattle.depot.proofs.ToldLemmas.{mapped_at}
use Rattle.depot.proofs.UpdateBesideLemmas.{collects_installed, collects_unshielded, runs_known}

-- ---- what a collection keeps as an update is carried out, or isn't

-- fresh keys alone changed
pub fresh_none : (f : set.FinSet key_cmp → Key → Bool) (o n : Option CollectionView) → MayHaveFresh f o n → o ≡ None → n ≡ None
fresh_none f o n may is = subst (λ p. MayHaveFresh f p n) is may

pub fresh_goes : (f : set.FinSet key_cmp → Key → Bool) (o n : Option CollectionView) → MayHaveFresh f o n → (before : CollectionView) → o ≡ Some before
    → (after : CollectionView) × (n ≡ Some after) × (after.marks ≡ before.marks) × (after.running.stored ≡ before.running.stored) × (after.running.turned ≡ before.running.turned)
fresh_goes f o n may before is =
    let goes = subst (λ p. MayHaveFresh f p n) is may in
    (goes.0, goes.1, goes.2.marks, goes.2.stored, goes.2.turned)

-- and changed again
pub twice_goes : (f h : set.FinSet key_cmp → Key → Bool) (o m n : Option CollectionView) → MayHaveFresh f o m → MayHaveFresh h m n → (before : CollectionView) → o ≡ Some before
    → (after : CollectionView) × (n ≡ Some after) × (after.marks ≡ before.marks) × (after.running.stored ≡ before.running.stored) × (after.running.turned ≡ before.running.turned)
twice_goes f h o m n may then before is =
    let first = fresh_goes f o m may before is in
    let second = fresh_goes h m n then first.0 first.1 in
    (second.0, second.1, second.2 ∙ first.2, second.3 ∙ first.3, second.4 ∙ first.4)

-- keys were shielded then
pub shielded_none : (f : set.FinSet key_cmp → Key → Bool) (keys : List Key) (o m n : Option CollectionView) → MayHaveFresh f o m → MayShield keys m n → o ≡ None → n ≡ None
shielded_none f keys o m n may shields is = subst (λ p. MayShield keys p n) (fresh_none f o m may is) shields

pub shielded_goes : (f : set.FinSet key_cmp → Key → Bool) (keys : List Key) (o m n : Option CollectionView) → MayHaveFresh f o m → MayShield keys m n → (before : CollectionView) → o ≡ Some before
    → (after : CollectionView) × (n ≡ Some after) × HasTheSameMarks before.marks after.marks × (AreMarks before.marks → AreMarks after.marks)
    × ((key : Key) → is_candidate after.marks key ≡ (is_candidate before.marks key && not (is_in keys key))) × (after.running.stored ≡ before.running.stored) × (after.running.turned ≡ before.running.turned)
shielded_goes f keys o m n may shields before is =
    let mid = fresh_goes f o m may before is in
    let goes = subst (λ p. MayShield keys p n) mid.1 shields in (
      goes.0,
      goes.1,
      subst (λ (k : MarksView). HasTheSameMarks k goes.0.marks) mid.2 goes.2.marks,
      λ good. goes.2.good,
      λ key. goes.2.each key ∙ ap (λ (k : MarksView). is_candidate k key && not (is_in keys key)) mid.2,
      ap (λ (q : Running). q.stored) goes.2.runs ∙ mid.3,
      ap (λ (q : Running). q.turned) goes.2.runs ∙ mid.4,
    )

-- what was added leaves what was stored
pub added_keeps : (was now : Objects) (added : List Stored) → now ≡ with_added was added → Keeps was now
added_keeps was now added is = subst (Keeps was) (sym is) (grown was added)

-- the objects before, where those after are told
pub was_with : (before mid after : Option Objects) (added : List Stored) → after ≡ with_all added mid → mid ≡ before → (now : Objects) → after ≡ Some now
    → (was : Objects) × (before ≡ Some was) × (now ≡ with_added was added)
was_with before mid after added put same now told =
    let at = mapped_at (λ (o : Objects). with_added o added) before now (sym (put ∙ ap (with_all added) same) ∙ told) in
    (at.value, at.is, sym at.gives)

-- the same objects leave what was stored
pub same_keeps : (before after : Option Objects) → after ≡ before → (was now : Objects) → before ≡ Some was → after ≡ Some now → Keeps was now
same_keeps before after same was now told_was told_now = subst (Keeps was) (some_objects (sym told_was ∙ sym same ∙ told_now)) (keeps_itself was)
  where
    some_objects : {x y : Objects} → Some x ≡ Some y → x ≡ y
    some_objects e = cc

module _ {S : Type 0} (contents : S → Option Contents) (faults : S → ℕ) (old new : DepotView S) (pushed : List ℕ) (r : Reply) (known later : KnownView) (o n : Option CollectionView)
    (is_old : old.running ≡ running_of o) (is_new : new.running ≡ running_of n) (kept : IsKept contents faults old known o) (rest : IsGood contents faults (at_rest new)) (fits : FitsIn contents new.store later)
    (runs : RunsOn old.store.index new.store.index [] old.running new.running) (fresh : FreshTold contents old new (act.Update pushed) r)
    (stays : (key : Key) → is_some (map.get old.store.index key) ≡ true → is_some (map.get new.store.index key) ≡ true)
    (stay_stored : (was now : Objects) → objects_of contents old.store ≡ Some was → objects_of contents new.store ≡ Some now → Keeps was now)
    (was_told : (now : Objects) → objects_of contents new.store ≡ Some now → (was : Objects) × (objects_of contents old.store ≡ Some was)) where
  none_told : (now : Objects) (key : Key) → is_in (told_after now (act.Update pushed) r) key ≡ true → is_stored now key ≡ true
  none_told now key among = absurd (true≢false (sym (ap (λ ks. is_in ks key) (sym (untold now (act.Update pushed) r refl)) ∙ among)))

  some_running : (p : Option CollectionView) (key : Key) → is_fresh (running_of p) key ≡ true → (c : CollectionView) × (p ≡ Some c) × (set.contains c.running.fresh key ≡ true)
  some_running None key e = absurd (true≢false (sym e))
  some_running (Some c) key e = (c, refl, e)

  pub update_good : (o ≡ None → n ≡ None) → IsGood contents faults new
  update_good none = good_beside contents faults new rest (runs_known old.store.index new.store.index [] old.running new.running runs stays (λ key e. absurd (true≢false (sym e))) kept.good.fresh)
      (λ now told key is. by o refl now told key is)
    where
      by : (p : Option CollectionView) → o ≡ p → (now : Objects) → objects_of contents new.store ≡ Some now → (key : Key) → is_fresh new.running key ≡ true → is_stored now key ≡ true
      by None is now told key e = absurd (true≢false (sym (ap (λ q. is_fresh q key) (sym (is_new ∙ ap running_of (none is))) ∙ e)))
      by (Some before) is now told key e =
          let was = was_told now told in
          let after = some_running n key (ap (λ q. is_fresh q key) (sym is_new) ∙ e) in
          fresh_stored_at before.running after.0.running was.0 now
          (subst (λ q. IsSound (running_library old.state q (faults old.store.shelf) was.0)) (is_old ∙ ap running_of is)
          (kept.good.sound (running_library old.state old.running (faults old.store.shelf) was.0) (ap (option_map (running_library old.state old.running (faults old.store.shelf))) was.1)))
          (is_old ∙ ap running_of is) (is_new ∙ ap running_of after.1) was.1 told key after.2
        where
          fresh_stored_at : (b a : Running) (was at : Objects) → IsSound (running_library old.state (Some b) (faults old.store.shelf) was) → old.running ≡ Some b → new.running ≡ Some a
              → objects_of contents old.store ≡ Some was → objects_of contents new.store ≡ Some at → (k : Key) → set.contains a.fresh k ≡ true → is_stored at k ≡ true
          fresh_stored_at b a was at sound is_b is_a told_was told_at k in_a =
              fresh_stored contents faults old new (act.Update pushed) r fresh stay_stored b a was at sound is_b is_a told_was told_at (none_told at) k in_a

  runs_at : (before after : CollectionView) → o ≡ Some before → n ≡ Some after → RunsOn old.store.index new.store.index [] (Some before.running) (Some after.running)
  runs_at before after is_before is_after =
      subst₂ (λ (a : Option Running) (b : Option Running). RunsOn old.store.index new.store.index [] a b) (is_old ∙ ap running_of is_before) (is_new ∙ ap running_of is_after) runs

  -- after a refusal: the marks are as they were
  pub kept_unshielded : new.state ≡ old.state → (o ≡ None → n ≡ None)
      → ((before : CollectionView) → o ≡ Some before → (after : CollectionView) × (n ≡ Some after) × (after.marks ≡ before.marks) × (after.running.stored ≡ before.running.stored) × (after.running.turned ≡ before.running.turned))
      → IsKept contents faults new later n
  kept_unshielded same_state none goes = record { good = update_good none; fits = fits; collects = λ t is. by o refl t is; candidates = held o refl; apart = apart_still o refl }
    where
      held : (p : Option CollectionView) → o ≡ p → KnowsCandidates new.store.index n
      held None is = subst (KnowsCandidates new.store.index) (sym (none is)) tt
      held (Some before) is =
          let after = goes before is in
          subst (KnowsCandidates new.store.index) (sym after.1)
          (known_more old.store.index new.store.index before after.0 stays (λ key there. ap (λ (m : MarksView). is_candidate m key) (sym after.2) ∙ there) (subst (KnowsCandidates old.store.index) is kept.candidates))

      apart_still : (p : Option CollectionView) → o ≡ p → AreApart n
      apart_still None is = subst AreApart (sym (none is)) tt
      apart_still (Some before) is =
          let after = goes before is in
          subst AreApart (sym after.1)
          (apart_runs old.store.index new.store.index before after.0 (runs_at before after.0 is after.1) (λ key there. ap (λ (m : MarksView). is_candidate m key) (sym after.2) ∙ there)
          (subst (KnowsCandidates old.store.index) is kept.candidates) (subst AreApart is kept.apart))

      by : (p : Option CollectionView) → o ≡ p → (t : State) → state_of contents faults new ≡ Some t → CollectsIn t n
      by None is t is_t = subst (CollectsIn t) (sym (none is)) tt
      by (Some before) is t is_t =
          let after = goes before is in
          let same = after.2 in
          subst (CollectsIn t) (sym after.1)
          (collects_unshielded contents faults old new pushed r fresh before after.0 (is_old ∙ ap running_of is) (is_new ∙ ap running_of after.1) (after.3, after.4) kept.good.sound (update_good none).sound
          (λ s is_s. subst (CollectsIn s) is (kept.collects s is_s)) (λ good. subst AreMarks (sym same) good)
          (record { commits = ap (λ (m : MarksView). m.commits) same; marked = ap (λ (m : MarksView). m.marked) same; pending = ap (λ (m : MarksView). m.pending) same })
          same_state stay_stored was_told (λ key. ap (λ (m : MarksView). is_candidate m key) same) t is_t)

  -- after an update that installs: what was listed is no candidate any more
  pub kept_installed : (plan : Plan) (install : Install) (keys : List Key) → install.head ≡ plan.head → install.pushed ≡ pushed → new.state.kept ≡ old.state.kept ++ install ∷ []
      → is_kept old.state.kept (head_of old.state.kept) ≡ true → ((now : Objects) → objects_of contents new.store ≡ Some now → (was : Objects) × (objects_of contents old.store ≡ Some was) × (now ≡ with_plan was plan))
      → ((was : Objects) → objects_of contents old.store ≡ Some was → (before : CollectionView) → o ≡ Some before → ListsNeeded was (head_of old.state.kept) plan pushed keys) → (o ≡ None → n ≡ None)
      → ((before : CollectionView) → o ≡ Some before → (after : CollectionView) × (n ≡ Some after) × HasTheSameMarks before.marks after.marks × (AreMarks before.marks → AreMarks after.marks)
      × ((key : Key) → is_candidate after.marks key ≡ (is_candidate before.marks key && not (is_in keys key))) × (after.running.stored ≡ before.running.stored) × (after.running.turned ≡ before.running.turned))
      → IsKept contents faults new later n
  kept_installed plan install keys is_head is_pushed more head_is made lists none goes = record { good = update_good none; fits = fits; collects = λ t is. by o refl t is; candidates = held o refl; apart = apart_still o refl }
    where
      left : (a b : Bool) → (a && b) ≡ true → a ≡ true
      left true b e = refl
      left false b e = e

      held : (p : Option CollectionView) → o ≡ p → KnowsCandidates new.store.index n
      held None is = subst (KnowsCandidates new.store.index) (sym (none is)) tt
      held (Some before) is =
          let after = goes before is in
          subst (KnowsCandidates new.store.index) (sym after.1)
          (known_more old.store.index new.store.index before after.0 stays (λ key there. left (is_candidate before.marks key) (not (is_in keys key)) (sym (after.4 key) ∙ there))
          (subst (KnowsCandidates old.store.index) is kept.candidates))

      apart_still : (p : Option CollectionView) → o ≡ p → AreApart n
      apart_still None is = subst AreApart (sym (none is)) tt
      apart_still (Some before) is =
          let after = goes before is in
          subst AreApart (sym after.1)
          (apart_runs old.store.index new.store.index before after.0 (runs_at before after.0 is after.1)
          (λ key there. left (is_candidate before.marks key) (not (is_in keys key)) (sym (after.4 key) ∙ there)) (subst (KnowsCandidates old.store.index) is kept.candidates) (subst AreApart is kept.apart))

      by : (p : Option CollectionView) → o ≡ p → (t : State) → state_of contents faults new ≡ Some t → CollectsIn t n
      by None is t is_t = subst (CollectsIn t) (sym (none is)) tt
      by (Some before) is t is_t =
          let after = goes before is in
          subst (CollectsIn t) (sym after.1)
          (collects_installed contents faults old new pushed r fresh before after.0 (is_old ∙ ap running_of is) (is_new ∙ ap running_of after.1) (after.5, after.6) kept.good.sound (update_good none).sound
          (λ s is_s. subst (CollectsIn s) is (kept.collects s is_s)) after.3 after.2
          plan install keys is_head is_pushed more head_is made after.4 (λ was told. lists was told before is) t is_t)

-- A question for what is missing, beside a collection. The key lemmas are keeps_then, missing_any_runs,
-- missing_any_fresh and kept_told.
use Rattle.std.proofs.Common.{◌≡◌, inr, ◌||◌, ◌&&◌, not, ℕ, Bool, true, false, List, refl, sym, ap, ◌∙◌, subst, true≢false, Option, None, Some, is_some, option_map}
use Rattle.std.specs.FinMap as map
use Rattle.std.specs.FinSet as set
use Rattle.std.proofs.lemmas.Bool.{or_right}
use Rattle.ids.specs.Key.{Objects}
use Rattle.ids.specs.declared.key.Key.{Key}
use Rattle.ids.specs.declared.key.Kind.{Kind}
use Rattle.library_rules.specs.Calls.{keys_of}
use Rattle.library_rules.specs.LibraryState.{IsSound, Running, State, is_fresh, is_stored}
use Rattle.library_rules.proofs.BesideStepLemmas.{told_after}
use Rattle.library_rules.proofs.KeepingLemmas.{keeps_itself}
use Rattle.library_rules.proofs.SoundLemmas.{stored_in_keys}
use Rattle.library_state.specs.declared.call.Act.TheVariants as act
use Rattle.library_state.specs.declared.reply.Reply.{Reply}
use Rattle.library_state.specs.declared.reply.Reply.TheVariants as reply
use Rattle.object_graph.specs.Traversal.{is_in}
use Rattle.object_graph.specs.Unchanged.{Keeps}
use Rattle.object_store.specs.Shelf.{Contents}
use Rattle.object_store.specs.StoreView.{Index, objects_of}
use Rattle.tree_walk.specs.KnownTrees.{KnownView}
use Rattle.collector.specs.Marks.{HasTheSameMarks, MarksView, is_candidate}
use Rattle.depot.specs.Answering.{MayTell}
use Rattle.depot.specs.DepotView.{AreApart, CollectionView, CollectsIn, DepotView, IsGood, IsKept, KnowsCandidates, marked_of, running_library, running_of, state_of}
use Rattle.depot.specs.Fresh.{HasFresh, MayHaveFresh, MayKeep, MayShield, stored_told}
use Rattle.depot.specs.FreshKeys.{RunsOn, told_there}
use Rattle.depot.proofs.BesideLemmas.{FreshTold, good_beside, good_rest}
use Rattle.depot.proofs.CallFreshLemmas.{in_filter, none_came}
use Rattle.depot.proofs.ApartLemmas.{apart_keeps}
use Rattle.depot.proofs.CollectsLemmas.{known_more}
use Rattle.depot.proofs.FreshLemmas.{RunsAs, fresh_by, keeps_as, runs_by}
use Rattle.depot.proofs.KeptLemmas.{collects_shielded, fresh_stored}
use Rattle.depot.proofs.ToldLemmas.{mapped_at}
use Rattle.depot.proofs.UpdateBesideLemmas.{runs_known}

-- ---- the steps

-- where nothing is changed the same keys are fresh
pub fresh_still : (o : Option CollectionView) → MayHaveFresh (λ fresh key. set.contains fresh key) o o
fresh_still None = refl
fresh_still (Some old) = (old, refl, record { marks = refl; stored = refl; turned = refl; each = λ key. refl })

-- keys that became fresh and were shielded are kept
pub keeps_then : (keys taken : List Key) (o m n : Option CollectionView) → taken ≡ keys → MayHaveFresh (λ fresh key. set.contains fresh key || is_in taken key) o m → MayShield keys m n → MayKeep keys o n
keeps_then keys taken None m n same fresh shields = subst (λ p. MayShield keys p n) fresh shields
keeps_then keys taken (Some old) m n same (mid, is, has) shields =
    let goes = subst (λ p. MayShield keys p n) is shields in (
      goes.0,
      goes.1,
      record {
        next = mid;
        fresh = subst (λ among. HasFresh (λ key. set.contains old.running.fresh key || is_in among key) old mid) same has;
        shields = goes.2;
      },
    )

-- ---- the fresh keys

pub missing_any_runs : (k : Kind) (ids : List (List ℕ)) (r : Reply) (index : Index) (o n : Option CollectionView) → MayKeep (told_there index (act.Missing k ids) r) o n
    → RunsOn index index (told_there index (act.Missing k ids) r) (running_of o) (running_of n)
missing_any_runs k ids r index o n keeps =
    runs_by (λ fresh key. fresh || is_in (told_there index (act.Missing k ids) r) key) index index (told_there index (act.Missing k ids) r) (running_of o) (running_of n)
    (keeps_as (told_there index (act.Missing k ids) r) o n keeps)
    (λ before is key. ap (λ c. set.contains before.fresh key || (c || is_in (told_there index (act.Missing k ids) r) key)) (sym (none_came (is_some (map.get index key)))))

-- what is told of the objects is what was kept
told_same : (index : Index) (now : Objects) (k : Kind) (ids : List (List ℕ)) (r : Reply) → MayTell index k ids r → told_after now (act.Missing k ids) r ≡ stored_told now k ids r
told_same index now k ids (reply.Absent found) may = refl
told_same index now k ids (reply.Refused why) may = refl
told_same index now k ids reply.Checked may = absurd may
told_same index now k ids (reply.HeadIs id) may = absurd may
told_same index now k ids (reply.Got bytes) may = absurd may
told_same index now k ids (reply.Stored newly) may = absurd may
told_same index now k ids (reply.Updated id) may = absurd may
told_same index now k ids reply.Limited may = absurd may
told_same index now k ids (reply.Listed found) may = absurd may

told_stored : (now : Objects) (k : Kind) (ids : List (List ℕ)) (r : Reply) (key : Key) → is_in (stored_told now k ids r) key ≡ true → is_stored now key ≡ true
told_stored now k ids (reply.Absent found) key among = stored_in_keys now (keys_of k ids) key among
told_stored now k ids other key among = absurd (true≢false (sym among))

told_known : (index : Index) (k : Kind) (ids : List (List ℕ)) (r : Reply) (key : Key) → is_in (told_there index (act.Missing k ids) r) key ≡ true → is_some (map.get index key) ≡ true
told_known index k ids (reply.Absent found) key among = right (is_in (keys_of k ids) key) (is_some (map.get index key)) (sym (in_filter (λ q. is_some (map.get index q)) (keys_of k ids) key) ∙ among)
  where
    right : (a b : Bool) → (a && b) ≡ true → b ≡ true
    right true b e = e
    right false b e = absurd (true≢false (sym e))
told_known index k ids other key among = absurd (true≢false (sym among))

module _ {S : Type 0} (contents : S → Option Contents) (old : DepotView S) (k : Kind) (ids : List (List ℕ)) (r : Reply) (may : MayTell old.store.index k ids r)
    (o n : Option CollectionView) (is_old : old.running ≡ running_of o)
    (keeps : (objects : Objects) → objects_of contents old.store ≡ Some objects → MayKeep (stored_told objects k ids r) o n) where
  abbrev after_it : DepotView S
  after_it = record old { running = running_of n; marked = marked_of n }

  one_told : {was now : Objects} → objects_of contents old.store ≡ Some was → objects_of contents old.store ≡ Some now → was ≡ now
  one_told a b = some_objects (sym a ∙ b)
    where
      some_objects : {x y : Objects} → Some x ≡ Some y → x ≡ y
      some_objects e = cc

  pub missing_any_fresh : FreshTold contents old after_it (act.Missing k ids) r
  missing_any_fresh = record {
    each = λ before after was now is_before is_after told_was told_now.
        (fresh_by contents old after_it (act.Missing k ids) r (λ fresh key. fresh || is_in (stored_told was k ids r) key)
        (subst (λ p. RunsAs (λ fresh key. fresh || is_in (stored_told was k ids r) key) p (running_of n)) (sym is_old) (keeps_as (stored_told was k ids r) o n (keeps was told_was)))
        (λ first was' now' is_first told_was' told_now' key.
        ap (λ (q : Objects). set.contains first.fresh key || is_in (stored_told q k ids r) key) (one_told told_was told_now')
        ∙ ap (λ c. set.contains first.fresh key || (c || is_in (stored_told now' k ids r) key))
        (sym (ap (λ (q : Objects). is_stored q key && not (is_stored was' key)) (one_told told_now' told_was') ∙ none_came (is_stored was' key)))
        ∙ ap (λ keys. set.contains first.fresh key || ((is_stored now' key && not (is_stored was' key)) || is_in keys key)) (sym (told_same old.store.index now' k ids r may)))).each
        before after was now is_before is_after told_was told_now;
  }

-- ---- the depot

module _ {S : Type 0} (contents : S → Option Contents) (faults : S → ℕ) (old : DepotView S) (k : Kind) (ids : List (List ℕ)) (r : Reply) (may : MayTell old.store.index k ids r)
    (known : KnownView) (o n : Option CollectionView) (is_old : old.running ≡ running_of o) (kept : IsKept contents faults old known o)
    (keeps : (objects : Objects) → objects_of contents old.store ≡ Some objects → MayKeep (stored_told objects k ids r) o n) (holds : MayKeep (told_there old.store.index (act.Missing k ids) r) o n) where
  abbrev then : DepotView S
  then = record old { running = running_of n; marked = marked_of n }

  runs : RunsOn old.store.index old.store.index (told_there old.store.index (act.Missing k ids) r) old.running (running_of n)
  runs = subst (λ p. RunsOn old.store.index old.store.index (told_there old.store.index (act.Missing k ids) r) p (running_of n)) (sym is_old) (missing_any_runs k ids r old.store.index o n holds)

  -- where none ran none runs
  none_runs : o ≡ None → n ≡ None
  none_runs none = subst (λ p. MayKeep (told_there old.store.index (act.Missing k ids) r) p n) none holds

  pub missing_good : IsGood contents faults then
  missing_good = good_beside contents faults then (good_rest contents faults old kept.good)
      (runs_known old.store.index old.store.index (told_there old.store.index (act.Missing k ids) r) old.running (running_of n) runs (λ key is. is) (told_known old.store.index k ids r) kept.good.fresh)
      (λ objects told key fresh. by o refl objects told key fresh)
    where
      sound : (objects : Objects) → objects_of contents old.store ≡ Some objects → IsSound (running_library old.state old.running (faults old.store.shelf) objects)
      sound objects told = kept.good.sound (running_library old.state old.running (faults old.store.shelf) objects) (ap (option_map (running_library old.state old.running (faults old.store.shelf))) told)

      by : (p : Option CollectionView) → o ≡ p → (objects : Objects) → objects_of contents old.store ≡ Some objects → (key : Key) → is_fresh (running_of n) key ≡ true → is_stored objects key ≡ true
      by None is objects told key fresh = absurd (true≢false (sym (ap (λ q. is_fresh (running_of q) key) (sym (none_runs is)) ∙ fresh)))
      by (Some before) is objects told key fresh =
          let goes = subst (λ p. MayKeep (stored_told objects k ids r) p n) is (keeps objects told) in
          fresh_stored contents faults old then (act.Missing k ids) r (missing_any_fresh contents old k ids r may o n is_old keeps)
          (λ was now told_was told_now. subst (Keeps was) (one_told contents old k ids r may o n is_old keeps told_was told_now) (keeps_itself was))
          before.running goes.0.running objects objects (subst (λ q. IsSound (running_library old.state q (faults old.store.shelf) objects)) (is_old ∙ ap running_of is) (sound objects told))
          (is_old ∙ ap running_of is) (ap running_of goes.1) told told
          (λ q among. told_stored objects k ids r q (ap (λ keys. is_in keys q) (sym (told_same old.store.index objects k ids r may)) ∙ among)) key
          (ap (λ q. is_fresh (running_of q) key) (sym goes.1) ∙ fresh)

  pub kept_told : IsKept contents faults then known n
  kept_told = record {
    good = missing_good;
    fits = kept.fits;
    collects = λ s is. by o refl s is;
    candidates = held o refl;
    apart = apart_still o refl;
  }
    where
      apart_still : (p : Option CollectionView) → o ≡ p → AreApart n
      apart_still None is = subst AreApart (sym (none_runs is)) tt
      apart_still (Some before) is =
          let goes = subst (λ p. MayKeep (told_there old.store.index (act.Missing k ids) r) p n) is holds in
          subst AreApart (sym goes.1) (apart_keeps (told_there old.store.index (act.Missing k ids) r) before goes.0 goes.2 (subst AreApart is kept.apart))

      held : (p : Option CollectionView) → o ≡ p → KnowsCandidates old.store.index n
      held None is = subst (KnowsCandidates old.store.index) (sym (none_runs is)) tt
      held (Some before) is =
          let goes = subst (λ p. MayKeep (told_there old.store.index (act.Missing k ids) r) p n) is holds in
          subst (KnowsCandidates old.store.index) (sym goes.1)
          (known_more old.store.index old.store.index before goes.0 (λ key there. there)
          (λ key there. left (is_candidate before.marks key) (not (is_in (told_there old.store.index (act.Missing k ids) r) key))
          (ap (λ (m : MarksView). is_candidate m key && not (is_in (told_there old.store.index (act.Missing k ids) r) key)) (sym goes.2.fresh.marks) ∙ sym (goes.2.shields.each key) ∙ there))
          (subst (KnowsCandidates old.store.index) is kept.candidates))
        where
          left : (a b : Bool) → (a && b) ≡ true → a ≡ true
          left true b e = refl
          left false b e = e

      by : (p : Option CollectionView) → o ≡ p → (s : State) → state_of contents faults then ≡ Some s → CollectsIn s n
      by None is s is_s = subst (CollectsIn s) (sym (none_runs is)) tt
      by (Some before) is s is_s =
          let at = mapped_at (running_library old.state (running_of n) (faults old.store.shelf)) (objects_of contents old.store) s is_s in
          let keys : List Key = stored_told at.value k ids r in
          let goes = subst (λ p. MayKeep keys p n) is (keeps at.value at.is) in
          let kept_keys = goes.2 in
          subst (CollectsIn s) (sym goes.1)
          (collects_shielded contents faults old then (act.Missing k ids) r keys refl (missing_any_fresh contents old k ids r may o n is_old keeps)
          (λ was now told_was told_now. subst (Keeps was) (one_told contents old k ids r may o n is_old keeps told_was told_now) (keeps_itself was)) (λ now told_now. (now, told_now))
          before goes.0 (is_old ∙ ap running_of is) (ap running_of goes.1)
          (ap (λ (q : Running). q.stored) kept_keys.shields.runs ∙ kept_keys.fresh.stored, ap (λ (q : Running). q.turned) kept_keys.shields.runs ∙ kept_keys.fresh.turned)
          kept.good.sound missing_good.sound (λ u is_u. subst (CollectsIn u) is (kept.collects u is_u)) (λ good. kept_keys.shields.good)
          (subst (λ (m : MarksView). HasTheSameMarks m goes.0.marks) kept_keys.fresh.marks kept_keys.shields.marks)
          (λ key. kept_keys.shields.each key ∙ ap (λ (m : MarksView). is_candidate m key && not (is_in keys key)) kept_keys.fresh.marks)
          (λ key among. ap (λ (q : Running). set.contains q.fresh key) kept_keys.shields.runs ∙ kept_keys.fresh.each key ∙ or_right (set.contains before.running.fresh key) (is_in keys key) among)
          (λ now told_now key among. inr (ap (λ (q : Objects). is_in (stored_told q k ids r) key) (one_told contents old k ids r may o n is_old keeps at.is told_now)
          ∙ ap (λ ks. is_in ks key) (sym (told_same old.store.index now k ids r may)) ∙ among)) s is_s)

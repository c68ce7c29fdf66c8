-- A put beside a collection. The key lemmas are put_known, put_keeps, put_fresh_stored, put_marks,
-- known_put and collects_put.
use Rattle.std.proofs.Common.{◌≡◌, ◌⊎◌, inl, inr, ◌||◌, ◌&&◌, not, ℕ, Bool, true, false, if◌then◌else◌, List, [], ◌∷◌, refl, sym, ap, ◌∙◌, subst, true≢false, Option, None, Some, is_some, option_map}
use Rattle.std.specs.FinMap as map
use Rattle.std.specs.FinSet as set
use Rattle.std.proofs.lemmas.Bool.{or_cases, or_left, or_right}
use Rattle.ids.specs.Key.{Objects}
use Rattle.ids.specs.declared.key.Key.{Key}
use Rattle.library_rules.specs.Changes.{is_refused, put_new, told_by}
use Rattle.library_rules.specs.LibraryState.{Running, State, is_fresh, is_stored}
use Rattle.library_rules.proofs.BesideStepLemmas.{told_after}
use Rattle.library_rules.proofs.KeepingLemmas.{grown, keeps_itself, put_stored, stored_then}
use Rattle.library_state.specs.declared.call.Act.TheVariants as act
use Rattle.library_state.specs.declared.reply.Reply.{Reply}
use Rattle.library_state.specs.declared.reply.Reply.TheVariants as reply
use Rattle.object_graph.specs.Traversal.{is_in}
use Rattle.object_graph.specs.Unchanged.{Keeps}
use Rattle.object_graph.proofs.KeyLemmas.{same_key, same_key-itself, same_key-true}
use Rattle.object_store.specs.Shelf.{Contents}
use Rattle.object_store.specs.StoreView.{Index, objects_of}
use Rattle.collector.specs.Marks.{AreMarks, HasTheSameMarks, MarksView, is_candidate}
use Rattle.depot.specs.DepotView.{AreApart, CollectionView, CollectsIn, DepotView, IsGood, KnowsCandidates, running_library, running_of, state_of}
use Rattle.depot.specs.Fresh.{AreNewIn, EndsPut, MayHaveFresh}
use Rattle.depot.specs.Held.{HoldsPut}
use Rattle.depot.proofs.CallFreshLemmas.{PutTold, new_in, put_by_answer, put_fresh}
use Rattle.depot.proofs.ApartLemmas.{apart_more}
use Rattle.depot.proofs.CollectsLemmas.{known_more}
use Rattle.depot.specs.Writing.{with_stored}
use Rattle.depot.proofs.FreshLemmas.{RunsAs, some_same}
use Rattle.depot.proofs.KeptLemmas.{collects_shielded}
use Rattle.depot.proofs.ToldLemmas.{mapped_at}

one_key : (key k : Key) → is_in (key ∷ []) k ≡ true → k ≡ key
one_key key k is = same_key-true k key (by (same_key k key) is)
  where
    by : (b : Bool) → (b || false) ≡ true → b ≡ true
    by true e = refl
    by false e = e

-- ---- what is fresh is there

-- where a put made this of whether keys are there, what is fresh then is there
fresh_there : (key : Key) (r : Reply) (was now : Key → Bool) (a b : Option Running) → RunsAs (put_by_answer key r) a b → ((k : Key) → was k ≡ true → now k ≡ true)
    → ((newly : Bool) → r ≡ reply.Stored newly → now key ≡ true) → ((k : Key) → is_fresh a k ≡ true → was k ≡ true) → (k : Key) → is_fresh b k ≡ true → now k ≡ true
fresh_there key r was now None b runs stays told fresh k is = absurd (true≢false (sym (ap (λ o. is_fresh o k) (sym runs) ∙ is)))
fresh_there key r was now (Some before) b (after, is_after, runs) stays told fresh k is = by r refl (sym (runs.each k) ∙ ap (λ o. is_fresh o k) (sym is_after) ∙ is)
  where
    joined : (set.contains before.fresh k ≡ true) ⊎ (is_in (key ∷ []) k ≡ true) → now key ≡ true → now k ≡ true
    joined (inl old_fresh) there = stays k (fresh k old_fresh)
    joined (inr among) there = subst (λ q. now q ≡ true) (sym (one_key key k among)) there

    by : (q : Reply) → r ≡ q → put_by_answer key q (set.contains before.fresh k) k ≡ true → now k ≡ true
    by (reply.Stored newly) said e = joined (or_cases (set.contains before.fresh k) (is_in (key ∷ []) k) (subst (λ p. put_by_answer key p (set.contains before.fresh k) k ≡ true) said (subst (λ p. put_by_answer key p (set.contains before.fresh k) k ≡ true) (sym said) e))) (told newly said)
    by other said e = stays k (fresh k e)

-- the keys from before are known still
pub put_stays : (key : Key) (r : Reply) (old new : Index) → HoldsPut key r old new → (k : Key) → is_some (map.get old k) ≡ true → is_some (map.get new k) ≡ true
put_stays key (reply.Stored true) old new (absent, all) k is = all k ∙ or_left (is_some (map.get old k)) (is_in (key ∷ []) k) is
put_stays key (reply.Stored false) old new (there, same) k is = ap (λ (i : Index). is_some (map.get i k)) same ∙ is
put_stays key other old new same k is = ap (λ (i : Index). is_some (map.get i k)) same ∙ is

pub put_known : (key : Key) (r : Reply) (old new : Index) (a b : Option Running) → RunsAs (put_by_answer key r) a b → HoldsPut key r old new
    → ((k : Key) → is_fresh a k ≡ true → is_some (map.get old k) ≡ true) → (k : Key) → is_fresh b k ≡ true → is_some (map.get new k) ≡ true
put_known key r old new a b runs holds =
    fresh_there key r (λ k. is_some (map.get old k)) (λ k. is_some (map.get new k)) a b runs (put_stays key r old new holds) (λ newly said. there newly (subst (λ q. HoldsPut key q old new) said holds))
  where
    kept : new ≡ old → (k : Key) → is_some (map.get old k) ≡ true → is_some (map.get new k) ≡ true
    kept same k is = ap (λ (i : Index). is_some (map.get i k)) same ∙ is

    itself : (same_key key key || false) ≡ true
    itself = or_left (same_key key key) false (same_key-itself key)

    there : (newly : Bool) → HoldsPut key (reply.Stored newly) old new → is_some (map.get new key) ≡ true
    there true (absent, all) = all key ∙ or_right (is_some (map.get old key)) (is_in (key ∷ []) key) itself
    there false (is, same) = kept same key is

some_objects : {x y : Objects} → Some x ≡ Some y → x ≡ y
some_objects e = cc

-- over told objects what is stored stays, and the key is stored
pub put_keeps : (was now : Objects) (key : Key) (bytes : List ℕ) (r : Reply) → PutTold was key bytes r (Some now) → Keeps was now
put_keeps was now key bytes (reply.Stored true) (gone, grew) = subst (Keeps was) (some_objects (sym grew)) (grown was (record { key = key; bytes = bytes } ∷ []))
put_keeps was now key bytes (reply.Stored false) (there, same) = subst (Keeps was) (some_objects (sym same)) (keeps_itself was)
put_keeps was now key bytes other same = subst (Keeps was) (some_objects (sym same)) (keeps_itself was)

pub put_there : (was now : Objects) (key : Key) (bytes : List ℕ) (newly : Bool) → PutTold was key bytes (reply.Stored newly) (Some now) → is_stored now key ≡ true
put_there was now key bytes true (gone, grew) = ap (λ (o : Objects). is_stored o key) (some_objects grew) ∙ put_stored was (record { key = key; bytes = bytes })
put_there was now key bytes false (there, same) = ap (λ (o : Objects). is_stored o key) (some_objects same) ∙ there

pub put_fresh_stored : (was now : Objects) (key : Key) (bytes : List ℕ) (r : Reply) (a b : Option Running) → PutTold was key bytes r (Some now) → RunsAs (put_by_answer key r) a b
    → ((k : Key) → is_fresh a k ≡ true → is_stored was k ≡ true) → (k : Key) → is_fresh b k ≡ true → is_stored now k ≡ true
put_fresh_stored was now key bytes r a b told runs =
    fresh_there key r (is_stored was) (is_stored now) a b runs (λ k is. stored_then was now (put_keeps was now key bytes r told) k is)
    (λ newly said. put_there was now key bytes newly (subst (λ q. PutTold was key bytes q (Some now)) said told))

-- ---- the marks

-- the keys that a put takes from the candidates
abbrev pub put_shields : List Key → Reply → List Key
put_shields new (reply.Stored newly) = new
put_shields new other = []

-- the same marks, without these candidates
pub record ShieldsMarks (keys : List Key) (old new : MarksView) : Type 0 where
  pub same : HasTheSameMarks old new
  pub each : (k : Key) → is_candidate new k ≡ (is_candidate old k && not (is_in keys k))
  pub good : AreMarks old → AreMarks new

none_less : (b : Bool) → b ≡ (b && true)
none_less true = refl
none_less false = refl

some_collection : {a b : CollectionView} → Some a ≡ Some b → a ≡ b
some_collection e = cc

-- the same marks, and no candidate is taken
same_marks : (old new : MarksView) → new ≡ old → ShieldsMarks [] old new
same_marks old new same = record {
  same = record {
    commits = ap (λ (m : MarksView). m.commits) same;
    marked = ap (λ (m : MarksView). m.marked) same;
    pending = ap (λ (m : MarksView). m.pending) same;
  };
  each = λ k. ap (λ (m : MarksView). is_candidate m k) same ∙ none_less (is_candidate old k);
  good = λ good. subst AreMarks (sym same) good;
}

pub put_marks : (new : List Key) (r : Reply) (o m : CollectionView) (n : Option CollectionView) (after : CollectionView) → m.marks ≡ o.marks
    → EndsPut new r (Some m) n → n ≡ Some after → ShieldsMarks (put_shields new r) o.marks after.marks
put_marks new (reply.Stored newly) o m n after same (c, is_c, shields) is_after =
    subst (λ (v : MarksView). ShieldsMarks new v after.marks) same
    (subst (λ (v : CollectionView). ShieldsMarks new m.marks v.marks) (some_collection (sym is_c ∙ is_after))
    (record { same = shields.marks; each = shields.each; good = λ good. shields.good }))
put_marks new other o m n after same (c, is_c, stale) is_after =
    same_marks o.marks after.marks (ap (λ (v : CollectionView). v.marks) (some_collection (sym is_after ∙ is_c)) ∙ stale.marks ∙ same)

-- ---- the invariant after a put

module _ {S : Type 0} (contents : S → Option Contents) (faults : S → ℕ) (old new : DepotView S) (key : Key) (bytes : List ℕ) (r : Reply)
    (told : (was : Objects) → objects_of contents old.store ≡ Some was → PutTold was key bytes r (objects_of contents new.store)) (runs : RunsAs (put_by_answer key r) old.running new.running) where
  -- what is told then was told before
  pub was_told_put : ((objects_of contents new.store ≡ objects_of contents old.store) ⊎ (objects_of contents new.store ≡ with_stored (record { key = key; bytes = bytes }) (objects_of contents old.store)))
      → (now : Objects) → objects_of contents new.store ≡ Some now → (was : Objects) × (objects_of contents old.store ≡ Some was)
  was_told_put (inl same) now is = (now, sym same ∙ is)
  was_told_put (inr more) now is = let at = mapped_at (λ (o : Objects). put_new o (record { key = key; bytes = bytes })) (objects_of contents old.store) now (sym more ∙ is) in (at.value, at.is)

  pub sound_fresh_keys : IsGood contents faults old → (stored : (objects_of contents new.store ≡ objects_of contents old.store) ⊎ (objects_of contents new.store ≡ with_stored (record { key = key; bytes = bytes }) (objects_of contents old.store)))
      → (objects : Objects) → objects_of contents new.store ≡ Some objects → (k : Key) → is_fresh new.running k ≡ true → is_stored objects k ≡ true
  sound_fresh_keys good stored now is =
      let was = was_told_put stored now is in
      put_fresh_stored was.0 now key bytes r old.running new.running (subst (PutTold was.0 key bytes r) is (told was.0 was.1)) runs
      (good.sound (running_library old.state old.running (faults old.store.shelf) was.0) (ap (option_map (running_library old.state old.running (faults old.store.shelf))) was.1)).kept.fresh_stored

  module _ (keys : List Key) (o m n : Option CollectionView) (is_old : old.running ≡ running_of o) (is_new : new.running ≡ running_of n) (same_state : new.state ≡ old.state)
      (freshens : MayHaveFresh (λ fresh k. set.contains fresh k || is_in (key ∷ []) k) o m) (are : AreNewIn (key ∷ []) o keys) (ends : EndsPut keys r m n) where
    -- none runs where none did
    none_runs : o ≡ None → n ≡ None
    none_runs none = by r (subst (λ p. EndsPut keys r p n) (subst (λ p. MayHaveFresh (λ fresh k. set.contains fresh k || is_in (key ∷ []) k) p m) none freshens) ends)
      where
        by : (q : Reply) → EndsPut keys q None n → n ≡ None
        by (reply.Stored newly) is = is
        by other is = is

    -- the collection that runs, after a put
    pub record GoesOnPut (before : CollectionView) : Type 0 where
      pub after : CollectionView
      pub is : n ≡ Some after
      pub marks : ShieldsMarks (put_shields keys r) before.marks after.marks
      pub numbers : (after.running.stored ≡ before.running.stored) × (after.running.turned ≡ before.running.turned)
      pub fresh : (k : Key) → set.contains after.running.fresh k ≡ put_by_answer key r (set.contains before.running.fresh k) k

    goes_on_put : (before : CollectionView) → o ≡ Some before → GoesOnPut before
    goes_on_put before is_before =
        let mid = subst (λ p. MayHaveFresh (λ fresh k. set.contains fresh k || is_in (key ∷ []) k) p m) is_before freshens in
        let ends_mid : EndsPut keys r (Some mid.0) n = subst (λ p. EndsPut keys r p n) mid.1 ends in
        let some = some_after r mid.0 ends_mid in
        let goes : RunsAs (put_by_answer key r) (Some before.running) (Some some.0.running)
        = subst (λ p. RunsAs (put_by_answer key r) p (Some some.0.running)) (is_old ∙ ap running_of is_before) (subst (λ p. RunsAs (put_by_answer key r) old.running p) (is_new ∙ ap running_of some.1) runs) in
        let same = some_same goes.1 in record {
          after = some.0;
          is = some.1;
          marks = put_marks keys r before mid.0 n some.0 mid.2.marks ends_mid some.1;
          numbers = (ap (λ (q : Running). q.stored) same ∙ goes.2.stored, ap (λ (q : Running). q.turned) same ∙ goes.2.turned);
          fresh = λ k. ap (λ (q : Running). set.contains q.fresh k) same ∙ goes.2.each k;
        }
      where
        some_after : (q : Reply) (mid : CollectionView) → EndsPut keys q (Some mid) n → (after : CollectionView) × (n ≡ Some after)
        some_after (reply.Stored newly) mid (c, is, shields) = (c, is)
        some_after other mid (c, is, stale) = (c, is)

    -- what may still be removed is known
    pub known_put : HoldsPut key r old.store.index new.store.index → KnowsCandidates old.store.index o → KnowsCandidates new.store.index n
    known_put holds knows = by o refl knows
      where
        fewer : (before : CollectionView) (goes : GoesOnPut before) (k : Key) → is_candidate goes.after.marks k ≡ true → is_candidate before.marks k ≡ true
        fewer before goes k there = left (is_candidate before.marks k) (not (is_in (put_shields keys r) k)) (sym (goes.marks.each k) ∙ there)
          where
            left : (b c : Bool) → (b && c) ≡ true → b ≡ true
            left true c e = refl
            left false c e = e

        by : (p : Option CollectionView) → o ≡ p → KnowsCandidates old.store.index p → KnowsCandidates new.store.index n
        by None is known = subst (KnowsCandidates new.store.index) (sym (none_runs is)) tt
        by (Some before) is known =
            let goes = goes_on_put before is in
            subst (KnowsCandidates new.store.index) (sym goes.is) (known_more old.store.index new.store.index before goes.after (put_stays key r old.store.index new.store.index holds) (fewer before goes) known)

    -- and isn't fresh: the key is, where it was or is no candidate any more
    pub apart_put : AreApart o → AreApart n
    apart_put apart = by o refl apart
      where
        split : (b c : Bool) → (b && not c) ≡ true → (b ≡ true) × (c ≡ false)
        split true true e = absurd (true≢false (sym e))
        split true false e = (refl, refl)
        split false c e = absurd (true≢false (sym e))

        lone : (b : Bool) → (b && true) ≡ false → b ≡ false
        lone true e = e
        lone false e = refl

        parts : (before : CollectionView) (goes : GoesOnPut before) (k : Key) → is_candidate goes.after.marks k ≡ true → (is_candidate before.marks k ≡ true) × (is_in (put_shields keys r) k ≡ false)
        parts before goes k there = split (is_candidate before.marks k) (is_in (put_shields keys r) k) (sym (goes.marks.each k) ∙ there)

        answered : (before : CollectionView) → o ≡ Some before → (q : Reply) (k : Key) → is_in (put_shields keys q) k ≡ false → set.contains before.running.fresh k ≡ false → put_by_answer key q false k ≡ false
        answered before is (reply.Stored newly) k unlisted free =
            lone (is_in (key ∷ []) k) (sym (new_in (key ∷ []) keys o are before.running (ap running_of is) k ∙ ap (λ c. is_in (key ∷ []) k && not c) free) ∙ unlisted)
        answered before is other k unlisted free = refl

        by : (p : Option CollectionView) → o ≡ p → AreApart p → AreApart n
        by None is apart_still = subst AreApart (sym (none_runs is)) tt
        by (Some before) is apart_still =
            let goes = goes_on_put before is in
            subst AreApart (sym goes.is) (apart_more before goes.after (λ k there. (parts before goes k there).0)
            (λ k there free. goes.fresh k ∙ ap (λ b. put_by_answer key r b k) free ∙ answered before is r k (parts before goes k there).1 free) apart_still)

    -- the marks are those of the collection still
    pub collects_put : IsGood contents faults old → IsGood contents faults new → ((objects_of contents new.store ≡ objects_of contents old.store) ⊎ (objects_of contents new.store ≡ with_stored (record { key = key; bytes = bytes }) (objects_of contents old.store)))
        → ((s : State) → state_of contents faults old ≡ Some s → CollectsIn s o) → (t : State) → state_of contents faults new ≡ Some t → CollectsIn t n
    collects_put good_old good_new stored collects t is_t = by o refl
      where
        in_new : (before : CollectionView) → o ≡ Some before → (k : Key) → is_in keys k ≡ (is_in (key ∷ []) k && not (set.contains before.running.fresh k))
        in_new before is k = new_in (key ∷ []) keys o are before.running (ap running_of is) k

        both : (b c : Bool) → (b && c) ≡ true → b ≡ true
        both true c e = refl
        both false c e = e

        within : (before : CollectionView) (is : o ≡ Some before) (goes : GoesOnPut before) (q : Reply) → r ≡ q → (k : Key) → is_in (put_shields keys q) k ≡ true → set.contains goes.after.running.fresh k ≡ true
        within before is goes (reply.Stored newly) said k among =
            goes.fresh k ∙ ap (λ p. put_by_answer key p (set.contains before.running.fresh k) k) said
            ∙ or_right (set.contains before.running.fresh k) (is_in (key ∷ []) k) (both (is_in (key ∷ []) k) (not (set.contains before.running.fresh k)) (sym (in_new before is k) ∙ among))
        within before is goes other said k among = absurd (true≢false (sym among))

        none_among : (b : Bool) (xs : List Key) (k : Key) → xs ≡ [] → is_in (if b then [] else xs) k ≡ true → ⊥
        none_among true xs k none e = true≢false (sym e)
        none_among false xs k none e = true≢false (sym e ∙ ap (λ ys. is_in ys k) none)

        tells : (before : CollectionView) (is : o ≡ Some before) (q : Reply) (now : Objects) (k : Key) → is_in (told_after now (act.Put key bytes) q) k ≡ true
            → (set.contains before.running.fresh k ≡ true) ⊎ (is_in (put_shields keys q) k ≡ true)
        tells before is (reply.Stored true) now k among = absurd (true≢false (sym among))
        tells before is (reply.Stored false) now k among = split (set.contains before.running.fresh k) refl
          where
            split : (b : Bool) → set.contains before.running.fresh k ≡ b → (set.contains before.running.fresh k ≡ true) ⊎ (is_in keys k ≡ true)
            split true old_fresh = inl old_fresh
            split false new_one = inr (in_new before is k ∙ ap (λ c. is_in (key ∷ []) k && not c) new_one ∙ ap (λ c. c && true) among)
        tells before is other now k among = absurd (none_among (is_refused other) (told_by key other) k refl among)

        by : (p : Option CollectionView) → o ≡ p → CollectsIn t n
        by None is = subst (CollectsIn t) (sym (none_runs is)) tt
        by (Some before) is =
            let goes = goes_on_put before is in
            subst (CollectsIn t) (sym goes.is)
            (collects_shielded contents faults old new (act.Put key bytes) r (put_shields keys r) same_state (put_fresh contents old new key bytes r told runs)
            (λ was now told_was told_now. put_keeps was now key bytes r (subst (PutTold was key bytes r) told_now (told was told_was))) (was_told_put stored)
            before goes.after (is_old ∙ ap running_of is) (is_new ∙ ap running_of goes.is) goes.numbers good_old.sound good_new.sound
            (λ s is_s. subst (CollectsIn s) is (collects s is_s)) goes.marks.good goes.marks.same goes.marks.each (within before is goes r refl) (λ now told_now k among. tells before is r now k among) t is_t)

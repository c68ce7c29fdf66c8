-- A head update beside a collection. The key lemmas are made_fresh, left_fresh, runs_known, collects_unshielded and
-- collects_installed.
use Rattle.std.proofs.Common.{◌≡◌, ◌⊎◌, inl, inr, ◌||◌, ◌&&◌, not, ℕ, Bool, true, false, List, [], ◌∷◌, ◌++◌, append-nil, refl, sym, ap, ◌∙◌, subst, true≢false, Option, None, Some, is_some, option_map}
use Rattle.std.specs.FinMap as map
use Rattle.std.specs.FinSet as set
use Rattle.std.proofs.lemmas.Bool.{false_from_ne_true, or_cases, or_left, or_right}
use Rattle.ids.specs.Key.{Objects}
use Rattle.ids.specs.declared.key.Key.{Key}
use Rattle.library_rules.specs.Changes.{keys_added, with_added}
use Rattle.library_rules.specs.LibraryState.{IsSound, Running, State, head_of, is_fresh, is_kept, is_stored}
use Rattle.library_rules.specs.declared.entry.Stored.{Stored}
use Rattle.library_rules.proofs.AddedLemmas.{stored_cases}
use Rattle.library_rules.proofs.BesideStepLemmas.{told_after}
use Rattle.library_state.specs.declared.call.Act.TheVariants as act
use Rattle.library_state.specs.declared.history.Install.{Install}
use Rattle.library_state.specs.declared.reply.Reply.{Reply}
use Rattle.library_state.specs.declared.state.LibState.{LibState}
use Rattle.object_store.specs.declared.error.StoreFault.{StoreFault}
use Rattle.object_graph.specs.Traversal.{is_in}
use Rattle.object_graph.specs.Unchanged.{Keeps}
use Rattle.object_graph.proofs.KeyLemmas.{in_append}
use Rattle.object_store.specs.Shelf.{Contents}
use Rattle.object_store.specs.StoreView.{Index, objects_of}
use Rattle.collector.specs.Collecting.{Collects}
use Rattle.collector.specs.Marks.{AreMarks, HasTheSameMarks, is_candidate}
use Rattle.collector.proofs.GoesOnLemmas.{shields_collect}
use Rattle.depot.specs.DepotView.{CollectionView, DepotView, running_library, running_of, state_of}
use Rattle.depot.specs.Fresh.{AreNewIn, MayHaveFresh}
use Rattle.depot.specs.FreshKeys.{RunsOn, came}
use Rattle.depot.specs.Held.{HoldsMore, lacking}
use Rattle.depot.specs.Shields.{ListsNeeded, unstored, with_plan}
use Rattle.depot.specs.UpdateInstall.{Held, LeftBehind, StoresPart, stopped, unsure, with_all}
use Rattle.depot.specs.declared.plan.Plan.{Plan}
use Rattle.depot.proofs.BesideLemmas.{FreshTold}
use Rattle.depot.proofs.CallFreshLemmas.{in_filter, left_came, left_runs, made_came, new_in}
use Rattle.depot.proofs.CollectsLemmas.{shields_installed}
use Rattle.depot.proofs.FreshLemmas.{RunsAs, fresh_by, runs_as, runs_then, some_same}
use Rattle.depot.proofs.HeldLemmas.{keys_append}
use Rattle.depot.proofs.KeptLemmas.{collects_shielded, untold}
use Rattle.depot.proofs.ToldLemmas.{mapped_at}

-- ---- what came of a list of objects

-- the objects are those from before with the first ones of a list
pub came_of : (was : Objects) (part rest : List Stored) (key : Key) → is_stored (with_added was part) key ≡ true → is_stored was key ≡ false → is_in (keys_added (part ++ rest)) key ≡ true
came_of was part rest key now gone = within part rest key (by (stored_cases was part key now))
  where
    by : (is_stored was key ≡ true) ⊎ (is_in (keys_added part) key ≡ true) → is_in (keys_added part) key ≡ true
    by (inl there) = absurd (true≢false (sym there ∙ gone))
    by (inr among) = among

    within : (xs ys : List Stored) (k : Key) → is_in (keys_added xs) k ≡ true → is_in (keys_added (xs ++ ys)) k ≡ true
    within xs ys k among = ap (λ keys. is_in keys k) (keys_append xs ys) ∙ in_append (keys_added xs) (keys_added ys) k ∙ or_left (is_in (keys_added xs) k) (is_in (keys_added ys) k) among

-- all of them
pub came_all : (was : Objects) (added : List Stored) (key : Key) → is_stored (with_added was added) key ≡ true → is_stored was key ≡ false → is_in (keys_added added) key ≡ true
came_all was added key now gone = by (stored_cases was added key now)
  where
    by : (is_stored was key ≡ true) ⊎ (is_in (keys_added added) key ≡ true) → is_in (keys_added added) key ≡ true
    by (inl there) = absurd (true≢false (sym there ∙ gone))
    by (inr among) = among

-- what is stored then, over what is told
pub made_now : (was now : Objects) (before mid after : Option Objects) (added : List Stored) → after ≡ with_all added mid → mid ≡ before → before ≡ Some was → after ≡ Some now → now ≡ with_added was added
made_now was now before mid after added put same is_was is_now = some_objects (sym is_now ∙ put ∙ ap (with_all added) (same ∙ is_was))
  where
    some_objects : {x y : Objects} → Some x ≡ Some y → x ≡ y
    some_objects e = cc

module _ {S : Type 0} (contents : S → Option Contents) (old new : DepotView S) (pushed : List ℕ) (r : Reply) (keys : List Key)
    (some_came : (was now : Objects) → objects_of contents old.store ≡ Some was → objects_of contents new.store ≡ Some now → (key : Key) → is_stored now key ≡ true → is_stored was key ≡ false
    → is_in keys key ≡ true) where
  abbrev goal_of : Running → Objects → Objects → Key → Bool
  goal_of before was now key = set.contains before.fresh key || ((is_stored now key && not (is_stored was key)) || is_in (told_after now (act.Update pushed) r) key)

  none_told : (before : Running) (was now : Objects) (key : Key) → (set.contains before.fresh key || ((is_stored now key && not (is_stored was key)) || false)) ≡ goal_of before was now key
  none_told before was now key = ap (λ ks. set.contains before.fresh key || ((is_stored now key && not (is_stored was key)) || is_in ks key)) (sym (untold now (act.Update pushed) r refl))

  -- all of what is made and wasn't stored came
  pub made_fresh : ((was now : Objects) → objects_of contents old.store ≡ Some was → objects_of contents new.store ≡ Some now → (key : Key) → is_in keys key ≡ true → is_stored now key ≡ true)
      → ((was : Objects) → objects_of contents old.store ≡ Some was → RunsAs (λ fresh key. fresh || is_in (unstored was keys) key) old.running new.running) → FreshTold contents old new (act.Update pushed) r
  made_fresh all runs = record {
    each = λ before after was now is_before is_after told_was told_now.
        (fresh_by contents old new (act.Update pushed) r (λ fresh key. fresh || is_in (unstored was keys) key) (runs was told_was)
        (λ first was' now' is_first told_was' told_now' key.
        let same : was ≡ was' = some_objects (sym told_was ∙ told_was') in
        ap (λ c. set.contains first.fresh key || c) (in_filter (λ k. not (is_stored was k)) keys key)
        ∙ ap (λ (o : Objects). set.contains first.fresh key || (is_in keys key && not (is_stored o key))) same
        ∙ made_came (set.contains first.fresh key) (is_in keys key) (is_stored was' key) (is_stored now' key) (all was' now' told_was' told_now' key) (some_came was' now' told_was' told_now' key)
        ∙ none_told first was' now' key)).each before after was now is_before is_after told_was told_now;
  }
    where
      some_objects : {x y : Objects} → Some x ≡ Some y → x ≡ y
      some_objects e = cc

  -- some of it came, and the others were taken back
  pub left_fresh : ((was now : Objects) → objects_of contents old.store ≡ Some was → objects_of contents new.store ≡ Some now → (before after : Running) → old.running ≡ Some before → new.running ≡ Some after
      → (key : Key) → set.contains after.fresh key
      ≡ ((set.contains before.fresh key || is_in (unstored was keys) key) && not ((is_in (unstored was keys) key && not (set.contains before.fresh key)) && not (is_stored now key))))
      → FreshTold contents old new (act.Update pushed) r
  left_fresh each = record {
    each = λ before after was now is_before is_after told_was told_now key.
        each was now told_was told_now before after is_before is_after key
        ∙ ap (λ c. (set.contains before.fresh key || c) && not ((c && not (set.contains before.fresh key)) && not (is_stored now key))) (in_filter (λ k. not (is_stored was k)) keys key)
        ∙ left_came (set.contains before.fresh key) (is_in keys key) (is_stored was key) (is_stored now key) (some_came was now told_was told_now key)
        ∙ none_told before was now key;
  }

-- ---- a plan that was stopped

-- the first ones of its objects were put, or all
pub part_left : (fault : StoreFault) (unsettled : Bool) (present next : LibState) (all : List Stored) (old : Held) (still : Bool) (new : Held) → LeftBehind fault unsettled present next all old still new
    → StoresPart old.objects all new.objects
part_left fault unsettled present next all old still new (stopped part flag slot texts) = part
part_left fault unsettled present next all old still new (unsure free put left) = record { part = all; front = ([], sym (append-nil all)); objects = put }

-- by the keys that are handed on
pub taken_of : (there : Key → Bool) (given made : List Key) (m n : Option CollectionView) → given ≡ made → MayHaveFresh (λ fresh k. set.contains fresh k && not (is_in given k && not (there k))) m n
    → MayHaveFresh (λ fresh k. set.contains fresh k && not (is_in made k && not (there k))) m n
taken_of there given made m n same may = subst (λ (keys : List Key). MayHaveFresh (λ fresh k. set.contains fresh k && not (is_in keys k && not (there k))) m n) same may

-- what was made fresh and isn't there was taken back
pub taken_back_each : (there : Key → Bool) (keys : List Key) (o m n : Option CollectionView) (made : List Key) → MayHaveFresh (λ fresh k. set.contains fresh k || is_in keys k) o m → AreNewIn keys o made
    → MayHaveFresh (λ fresh k. set.contains fresh k && not (is_in made k && not (there k))) m n → (before after : Running) → running_of o ≡ Some before → running_of n ≡ Some after → (key : Key)
    → set.contains after.fresh key ≡ ((set.contains before.fresh key || is_in keys key) && not ((is_in keys key && not (set.contains before.fresh key)) && not (there key)))
taken_back_each there keys o m n made fresh are stale before after is_before is_after key =
    let goes : RunsAs (λ b k. (b || is_in keys k) && not (is_in made k && not (there k))) (Some before) (Some after)
    = subst (λ p. RunsAs (λ b k. (b || is_in keys k) && not (is_in made k && not (there k))) p (Some after)) is_before
    (subst (λ p. RunsAs (λ b k. (b || is_in keys k) && not (is_in made k && not (there k))) (running_of o) p) is_after
    (runs_then (λ b k. b || is_in keys k) (λ b k. b && not (is_in made k && not (there k))) (running_of o) (running_of m) (running_of n)
    (runs_as (λ b k. b || is_in keys k) o m fresh) (runs_as (λ b k. b && not (is_in made k && not (there k))) m n stale))) in
    ap (λ (q : Running). set.contains q.fresh key) (some_same goes.1) ∙ goes.2.each key
    ∙ ap (λ c. (set.contains before.fresh key || is_in keys key) && not (c && not (there key))) (new_in keys made o are before is_before key)

pub taken_back_runs : (keys : List Key) (old new : Index) (o m n : Option CollectionView) (made : List Key) → HoldsMore keys old new
    → MayHaveFresh (λ fresh k. set.contains fresh k || is_in (lacking old keys) k) o m → AreNewIn (lacking old keys) o made
    → MayHaveFresh (λ fresh k. set.contains fresh k && not (is_in made k && not (is_some (map.get new k)))) m n → RunsOn old new [] (running_of o) (running_of n)
taken_back_runs keys old new o m n made more fresh are stale =
    left_runs keys old new (running_of o) (running_of n) (λ b k. (b || is_in (lacking old keys) k) && not (is_in made k && not (is_some (map.get new k)))) more
    (runs_then (λ b k. b || is_in (lacking old keys) k) (λ b k. b && not (is_in made k && not (is_some (map.get new k)))) (running_of o) (running_of m) (running_of n)
    (runs_as (λ b k. b || is_in (lacking old keys) k) o m fresh) (runs_as (λ b k. b && not (is_in made k && not (is_some (map.get new k)))) m n stale))
    (λ before at key. ap (λ c. (set.contains before.fresh key || is_in (lacking old keys) key) && not (c && not (is_some (map.get new key)))) (new_in (lacking old keys) made o are before at key))

-- ---- what is fresh is there

-- over any shelf
pub runs_known : (old new : Index) (told : List Key) (a b : Option Running) → RunsOn old new told a b → ((key : Key) → is_some (map.get old key) ≡ true → is_some (map.get new key) ≡ true)
    → ((key : Key) → is_in told key ≡ true → is_some (map.get new key) ≡ true) → ((key : Key) → is_fresh a key ≡ true → is_some (map.get old key) ≡ true)
    → (key : Key) → is_fresh b key ≡ true → is_some (map.get new key) ≡ true
runs_known old new told None b runs stays there fresh key is = absurd (true≢false (sym (ap (λ o. is_fresh o key) (sym runs) ∙ is)))
runs_known old new told (Some before) b (after, is_after, goes) stays there fresh key is =
    by (or_cases (set.contains before.fresh key) (came old new key || is_in told key) (sym (goes.fresh key) ∙ ap (λ o. is_fresh o key) (sym is_after) ∙ is))
  where
    both : (p q : Bool) → (p && q) ≡ true → p ≡ true
    both true q e = refl
    both false q e = e

    later : (came old new key ≡ true) ⊎ (is_in told key ≡ true) → is_some (map.get new key) ≡ true
    later (inl is_new) = both (is_some (map.get new key)) (not (is_some (map.get old key))) is_new
    later (inr among) = there key among

    by : (set.contains before.fresh key ≡ true) ⊎ ((came old new key || is_in told key) ≡ true) → is_some (map.get new key) ≡ true
    by (inl old_fresh) = stays key (fresh key old_fresh)
    by (inr more) = later (or_cases (came old new key) (is_in told key) more)

-- ---- the marks

module _ {S : Type 0} (contents : S → Option Contents) (faults : S → ℕ) (old new : DepotView S) (pushed : List ℕ) (r : Reply) (fresh : FreshTold contents old new (act.Update pushed) r)
    (before after : CollectionView) (is_before : old.running ≡ Some before.running) (is_after : new.running ≡ Some after.running)
    (numbers : (after.running.stored ≡ before.running.stored) × (after.running.turned ≡ before.running.turned))
    (sound_old : (s : State) → state_of contents faults old ≡ Some s → IsSound s) (sound_new : (s : State) → state_of contents faults new ≡ Some s → IsSound s)
    (collects : (s : State) → state_of contents faults old ≡ Some s → Collects s before.running before.marks) (good : AreMarks before.marks → AreMarks after.marks)
    (marks : HasTheSameMarks before.marks after.marks) where
  -- a refused update: nothing is shielded
  pub collects_unshielded : new.state ≡ old.state → ((was now : Objects) → objects_of contents old.store ≡ Some was → objects_of contents new.store ≡ Some now → Keeps was now)
      → ((now : Objects) → objects_of contents new.store ≡ Some now → (was : Objects) × (objects_of contents old.store ≡ Some was)) → ((key : Key) → is_candidate after.marks key ≡ is_candidate before.marks key)
      → (t : State) → state_of contents faults new ≡ Some t → Collects t after.running after.marks
  collects_unshielded same_state grown was_told candidates =
      collects_shielded contents faults old new (act.Update pushed) r [] same_state fresh grown was_told before after is_before is_after numbers sound_old sound_new collects good marks
      (λ key. candidates key ∙ none_less (is_candidate before.marks key)) (λ key among. absurd (true≢false (sym among)))
      (λ now told_now key among. absurd (true≢false (sym (ap (λ ks. is_in ks key) (sym (untold now (act.Update pushed) r refl)) ∙ among))))
    where
      none_less : (b : Bool) → b ≡ (b && true)
      none_less true = refl
      none_less false = refl

  -- one that installs: what was listed before its first write is shielded
  pub collects_installed : (plan : Plan) (install : Install) (keys : List Key) → install.head ≡ plan.head → install.pushed ≡ pushed → new.state.kept ≡ old.state.kept ++ install ∷ []
      → is_kept old.state.kept (head_of old.state.kept) ≡ true
      → ((now : Objects) → objects_of contents new.store ≡ Some now → (was : Objects) × (objects_of contents old.store ≡ Some was) × (now ≡ with_plan was plan))
      → ((key : Key) → is_candidate after.marks key ≡ (is_candidate before.marks key && not (is_in keys key)))
      → ((was : Objects) → objects_of contents old.store ≡ Some was → ListsNeeded was (head_of old.state.kept) plan pushed keys)
      → (t : State) → state_of contents faults new ≡ Some t → Collects t after.running after.marks
  collects_installed plan install keys is_head is_pushed kept head_kept was_told candidates lists t is =
      let at = mapped_at (running_library new.state new.running (faults new.store.shelf)) (objects_of contents new.store) t is in
      let was = was_told at.value at.is in
      let s : State = running_library old.state old.running (faults old.store.shelf) was.0 in
      let told_s : state_of contents faults old ≡ Some s = ap (option_map (running_library old.state old.running (faults old.store.shelf))) was.1 in
      let u : State = running_library new.state new.running (faults new.store.shelf) at.value in
      let told_u : state_of contents faults new ≡ Some u = ap (option_map (running_library new.state new.running (faults new.store.shelf))) at.is in
      let c = collects s told_s in
      let each = fresh.each before.running after.running was.0 at.value is_before is_after was.1 at.is in
      subst (λ (v : State). Collects v after.running after.marks) at.gives
      (shields_collect s u before.running after.running before.marks after.marks (sound_old s told_s) c (good c.good)
      (shields_installed s u before.running after.running before.marks after.marks plan pushed install keys (sound_old s told_s) is_head is_pushed kept was.2 head_kept is_after numbers
      (λ key now_there was_gone. each key ∙ or_right (set.contains before.running.fresh key) ((is_stored at.value key && not (is_stored was.0 key)) || is_in (told_after at.value (act.Update pushed) r) key)
      (or_left (is_stored at.value key && not (is_stored was.0 key)) (is_in (told_after at.value (act.Update pushed) r) key) (came_now (is_stored at.value key) (is_stored was.0 key) now_there was_gone)))
      (λ key old_fresh. each key ∙ or_left (set.contains before.running.fresh key) ((is_stored at.value key && not (is_stored was.0 key)) || is_in (told_after at.value (act.Update pushed) r) key) old_fresh)
      marks candidates
      (λ key is_fresh. false_from_ne_true (is_candidate before.marks key) (λ there. unlike s c key there at.value (or_cases (set.contains before.running.fresh key)
      ((is_stored at.value key && not (is_stored was.0 key)) || is_in (told_after at.value (act.Update pushed) r) key) (sym (each key) ∙ is_fresh))))
      (lists was.0 was.1)))
    where
      came_now : (b c : Bool) → b ≡ true → c ≡ false → (b && not c) ≡ true
      came_now true false e f = refl
      came_now true true e f = absurd (true≢false f)
      came_now false c e f = absurd (true≢false (sym e))

      absent : (b c : Bool) → (b && not c) ≡ true → c ≡ false
      absent true true e = sym e
      absent true false e = refl
      absent false c e = absurd (true≢false (sym e))

      -- a fresh key is no candidate: it was fresh, or wasn't stored
      unlike : (s : State) → Collects s before.running before.marks → (key : Key) → is_candidate before.marks key ≡ true → (now : Objects)
          → (set.contains before.running.fresh key ≡ true) ⊎ (((is_stored now key && not (is_stored s.objects key)) || is_in (told_after now (act.Update pushed) r) key) ≡ true) → ⊥
      unlike s c key there now (inl old_fresh) = true≢false (sym old_fresh ∙ c.not_fresh key there)
      unlike s c key there now (inr more) = by (or_cases (is_stored now key && not (is_stored s.objects key)) (is_in (told_after now (act.Update pushed) r) key) more)
        where
          by : ((is_stored now key && not (is_stored s.objects key)) ≡ true) ⊎ (is_in (told_after now (act.Update pushed) r) key ≡ true) → ⊥
          by (inl is_new) = true≢false (sym (c.stored key there) ∙ absent (is_stored now key) (is_stored s.objects key) is_new)
          by (inr among) = true≢false (sym (ap (λ ks. is_in ks key) (sym (untold now (act.Update pushed) r refl)) ∙ among))

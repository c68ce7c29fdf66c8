-- The collection that runs goes on through a call. The key lemmas are collects_state, shields_fresh, shields_installed and
-- known_more.
use Rattle.std.proofs.Common.{◌≡◌, ◌⊎◌, inl, inr, ◌||◌, ◌&&◌, not, ℕ, Bool, true, false, List, [], ◌∷◌, ◌++◌, refl, sym, ap, ◌∙◌, subst, true≢false, Some, is_some}
use Rattle.std.specs.FinMap as map
use Rattle.std.specs.FinSet as set
use Rattle.std.proofs.lemmas.Bool.{or_cases, or_left, or_right}
use Rattle.std.proofs.lemmas.List.Folds.{list_any-append}
use Rattle.ids.specs.Key.{Objects}
use Rattle.ids.specs.declared.key.Key.{Key}
use Rattle.library_rules.specs.LibraryState.{IsSound, Running, State, head_of, is_kept, is_needed, is_stored, kept_commits}
use Rattle.library_rules.proofs.KeepingLemmas.{agrees_grown, grown, kept_needs}
use Rattle.library_rules.proofs.MemberLemmas.{commits_append, kept_append}
use Rattle.library_state.specs.declared.history.Install.{Install}
use Rattle.library_state.specs.declared.state.LibState.{LibState}
use Rattle.object_graph.specs.Traversal.{is_in, needs}
use Rattle.object_graph.specs.Unchanged.{Keeps}
use Rattle.object_store.specs.StoreView.{Index}
use Rattle.collector.specs.Collecting.{Collects, ShieldsSo}
use Rattle.collector.specs.Marks.{HasTheSameMarks, MarksView, is_candidate, needed_by}
use Rattle.collector.proofs.NeedLemmas.{needed_alike}
use Rattle.collector.proofs.StoredCandidatesLemmas.{grown_stored}
use Rattle.depot.specs.DepotView.{CollectionView, KnowsCandidates}
use Rattle.depot.specs.Plan.{objects_in}
use Rattle.depot.specs.Shields.{ListsNeeded, with_plan}
use Rattle.depot.specs.declared.plan.Plan.{Plan}

-- ---- what no object and no kept commit is changed by

pub collects_state : (s : State) (state : LibState) (faults : ℕ) (running : Running) (marks : MarksView) → state.kept ≡ s.state.kept → Collects s running marks
    → Collects (record s { state = state; faults = faults }) running marks
collects_state s state faults running marks same collects = record {
  runs = collects.runs;
  good = collects.good;
  leads = collects.leads;
  exact = collects.exact;
  commits = λ commit one. subst (λ kept. is_kept kept commit ≡ true) (sym same) (collects.commits commit one);
  stored = collects.stored;
  not_fresh = collects.not_fresh;
  unneeded = λ key there free. subst (λ kept. is_needed s.objects kept key ≡ false) (sym same) (collects.unneeded key there free);
  covers = λ key stored gone. subst (λ kept. (is_needed s.objects kept key || set.contains running.fresh key) ≡ true) (sym same) (collects.covers key stored gone);
  few = collects.few;
  turns = collects.turns;
}

-- what a collection may still remove is known still, as the index grows and candidates get fewer
pub known_more : (old new : Index) (before after : CollectionView) → ((key : Key) → is_some (map.get old key) ≡ true → is_some (map.get new key) ≡ true)
    → ((key : Key) → is_candidate after.marks key ≡ true → is_candidate before.marks key ≡ true) → KnowsCandidates old (Some before) → KnowsCandidates new (Some after)
known_more old new before after stays fewer knows = grown_stored old new before.marks after.marks stays fewer knows

-- ---- needs as objects come

needed_grown : (s : State) (more : Objects) → IsSound s → Keeps s.objects more → (key : Key) → is_needed more s.state.kept key ≡ is_needed s.objects s.state.kept key
needed_grown s more sound keeps key =
    needed_alike s.objects more (kept_commits s.state.kept) (λ commit kept. agrees_grown s.objects more commit (sound.kept.complete commit kept) keeps) key

needed_append : (objects : Objects) (xs ys : List (List ℕ)) (key : Key) → needed_by objects (xs ++ ys) key ≡ (needed_by objects xs key || needed_by objects ys key)
needed_append objects xs ys key = list_any-append (λ commit. is_in (needs objects commit) key) xs ys

-- ---- a call that keeps the same commits

-- what it took from the candidates became fresh
pub shields_fresh : (s t : State) (before after : Running) (old new : MarksView) → IsSound s → t.state.kept ≡ s.state.kept → Keeps s.objects t.objects → t.running ≡ Some after
    → (after.stored ≡ before.stored) × (after.turned ≡ before.turned) → ((key : Key) → is_stored t.objects key ≡ true → is_stored s.objects key ≡ false → set.contains after.fresh key ≡ true)
    → ((key : Key) → set.contains before.fresh key ≡ true → set.contains after.fresh key ≡ true) → HasTheSameMarks old new → ((key : Key) → is_candidate new key ≡ true → is_candidate old key ≡ true)
    → ((key : Key) → set.contains after.fresh key ≡ true → is_candidate new key ≡ false) → ((key : Key) → is_candidate old key ≡ true → is_candidate new key ≡ false → set.contains after.fresh key ≡ true)
    → ShieldsSo s t before after old new
shields_fresh s t before after old new sound kept keeps runs numbers came fresh marks fewer shields taken = record {
  grown = keeps;
  kept = λ commit is. subst (λ k. is_kept k commit ≡ true) (sym kept) is;
  runs = runs;
  numbers = numbers;
  came = came;
  fresh = fresh;
  marks = marks;
  fewer = fewer;
  shields = shields;
  installs = λ key now was. absurd (true≢false (sym now ∙ ap (λ k. is_needed t.objects k key) kept ∙ needed_grown s t.objects sound keeps key ∙ was));
  spares = λ key was gone. or_right (is_needed t.objects t.state.kept key) (set.contains after.fresh key) (taken key was gone);
}

-- ---- a head update

-- what the new head and the pushed commit need and the old head doesn't was taken from the candidates
pub shields_installed : (s t : State) (before after : Running) (old new : MarksView) (plan : Plan) (pushed : List ℕ) (install : Install) (keys : List Key) → IsSound s
    → install.head ≡ plan.head → install.pushed ≡ pushed → t.state.kept ≡ s.state.kept ++ install ∷ [] → t.objects ≡ with_plan s.objects plan
    → is_kept s.state.kept (head_of s.state.kept) ≡ true → t.running ≡ Some after → (after.stored ≡ before.stored) × (after.turned ≡ before.turned)
    → ((key : Key) → is_stored t.objects key ≡ true → is_stored s.objects key ≡ false → set.contains after.fresh key ≡ true)
    → ((key : Key) → set.contains before.fresh key ≡ true → set.contains after.fresh key ≡ true) → HasTheSameMarks old new
    → ((key : Key) → is_candidate new key ≡ (is_candidate old key && not (is_in keys key))) → ((key : Key) → set.contains after.fresh key ≡ true → is_candidate old key ≡ false)
    → ListsNeeded s.objects (head_of s.state.kept) plan pushed keys → ShieldsSo s t before after old new
shields_installed s t before after old new plan pushed install keys sound is_head is_pushed kept objects head_kept runs numbers came fresh marks candidates shields lists = record {
  grown = keeps;
  kept = λ commit is. subst (λ k. is_kept k commit ≡ true) (sym kept)
      (kept_append s.state.kept (install ∷ []) commit ∙ or_left (is_kept s.state.kept commit) (is_kept (install ∷ []) commit) is);
  runs = runs;
  numbers = numbers;
  came = came;
  fresh = fresh;
  marks = marks;
  fewer = λ key there. and_left (is_candidate old key) (not (is_in keys key)) (sym (candidates key) ∙ there);
  shields = λ key is. candidates key ∙ ap (λ b. b && not (is_in keys key)) (shields key is);
  installs = λ key now was. candidates key ∙ ap (λ b. is_candidate old key && not b) (listed key now was) ∙ none (is_candidate old key);
  spares = λ key was gone. or_left (is_needed t.objects t.state.kept key) (set.contains after.fresh key) (still key (taken (is_candidate old key) (is_in keys key) was (sym (candidates key) ∙ gone)));
}
  where
    keeps : Keeps s.objects t.objects
    keeps = subst (Keeps s.objects) (sym objects) (grown s.objects (objects_in plan))

    and_left : (a b : Bool) → (a && b) ≡ true → a ≡ true
    and_left true b e = refl
    and_left false b e = e

    none : (b : Bool) → (b && false) ≡ false
    none true = refl
    none false = refl

    taken : (a b : Bool) → a ≡ true → (a && not b) ≡ false → b ≡ true
    taken true true is e = refl
    taken true false is e = sym e
    taken false b is e = absurd (true≢false (sym is))

    -- what is needed then: by a commit that was kept, or by the two that came
    split : (key : Key) → is_needed t.objects t.state.kept key ≡ (is_needed s.objects s.state.kept key || needed_by t.objects (plan.head ∷ pushed ∷ []) key)
    split key =
        ap (λ k. needed_by t.objects (kept_commits k) key) kept
        ∙ ap (λ commits. needed_by t.objects commits key) (commits_append s.state.kept (install ∷ []))
        ∙ needed_append t.objects (kept_commits s.state.kept) (install.head ∷ install.pushed ∷ []) key
        ∙ ap (λ b. b || needed_by t.objects (install.head ∷ install.pushed ∷ []) key) (needed_grown s t.objects sound keeps key)
        ∙ ap (λ id. is_needed s.objects s.state.kept key || needed_by t.objects (id ∷ install.pushed ∷ []) key) is_head
        ∙ ap (λ id. is_needed s.objects s.state.kept key || needed_by t.objects (plan.head ∷ id ∷ []) key) is_pushed

    over : (key : Key) → needed_by t.objects (plan.head ∷ pushed ∷ []) key ≡ needed_by (with_plan s.objects plan) (plan.head ∷ pushed ∷ []) key
    over key = ap (λ o. needed_by o (plan.head ∷ pushed ∷ []) key) objects

    one : (key : Key) → needed_by s.objects (head_of s.state.kept ∷ []) key ≡ true → is_needed s.objects s.state.kept key ≡ true
    one key is = kept_needs s.objects s.state.kept (head_of s.state.kept) key head_kept (only (is_in (needs s.objects (head_of s.state.kept)) key) is)
      where
        only : (b : Bool) → (b || false) ≡ true → b ≡ true
        only true e = refl
        only false e = e

    listed : (key : Key) → is_needed t.objects t.state.kept key ≡ true → is_needed s.objects s.state.kept key ≡ false → is_in keys key ≡ true
    listed key now was = by (or_cases (is_needed s.objects s.state.kept key) (needed_by t.objects (plan.head ∷ pushed ∷ []) key) (sym (split key) ∙ now))
      where
        by_old : (is_in keys key ≡ true) ⊎ (needed_by s.objects (head_of s.state.kept ∷ []) key ≡ true) → is_in keys key ≡ true
        by_old (inl among) = among
        by_old (inr old_needs) = absurd (true≢false (sym (one key old_needs) ∙ was))

        by : (is_needed s.objects s.state.kept key ≡ true) ⊎ (needed_by t.objects (plan.head ∷ pushed ∷ []) key ≡ true) → is_in keys key ≡ true
        by (inl old_needs) = absurd (true≢false (sym old_needs ∙ was))
        by (inr new_needs) = by_old (or_cases (is_in keys key) (needed_by s.objects (head_of s.state.kept ∷ []) key) (lists.each key (sym (over key) ∙ new_needs)))

    still : (key : Key) → is_in keys key ≡ true → is_needed t.objects t.state.kept key ≡ true
    still key among = split key ∙ or_right (is_needed s.objects s.state.kept key) (needed_by t.objects (plan.head ∷ pushed ∷ []) key) (over key ∙ lists.needed key among)

-- A collection goes on with its marks. The key lemmas are begins_collecting, marks_collect, waits_collect, sweeps_collect,
-- stops_collect, clean and shields_collect: with marks_so and sweeps_so the theorems of src/laws.rt.
use Rattle.std.proofs.Common.{◌≡◌, ◌≢◌, ◌⊎◌, ◌&&◌, ◌||◌, ◌≤◌, ◌+◌, inl, inr, ℕ, suc, Bool, true, false, not, is_some, arith, List, [], ◌∷◌, ◌++◌, length, refl, sym, ap, ◌∙◌, subst, subst₂, true≢false, Option, Some, option_map}
use Rattle.std.specs.FinMap as map
use Rattle.std.specs.FinSet as set
use Rattle.std.specs.List.{AllByRecursion, IsDistinct, list_any}
use Rattle.std.specs.Ordering.{eq_by_cmp}
use Rattle.std.proofs.lemmas.Bool.{and_parts, false_from_ne_true, not-true, or_cases, or_left, or_right}
use Rattle.ids.specs.Key.{key_cmp}
use Rattle.ids.specs.declared.key.Key.{Key}
use Rattle.ids.proofs.BasicLemmas.{same_from_some}
use Rattle.object_graph.specs.Objects.{same_id}
use Rattle.object_graph.specs.Reached.{ReachedFrom}
use Rattle.object_graph.specs.Traversal.{is_in, needs}
use Rattle.object_graph.specs.Unchanged.{AgreeOn}
use Rattle.object_graph.proofs.KeyLemmas.{in_append}
use Rattle.library_rules.specs.Changes.{begun, fresher, moved, swept, turn_counted, without}
use Rattle.library_rules.specs.CollectionSteps.{IsClean}
use Rattle.library_rules.specs.LibraryState.{IsSound, Running, State, is_fresh, is_kept, is_needed, is_stored, kept_commits}
use Rattle.library_rules.proofs.KeepingLemmas.{agrees_grown, agrees_swept, kept_without, stored_then}
use Rattle.library_rules.proofs.MemberLemmas.{any_found}
use Rattle.library_rules.proofs.SoundLemmas.{kept_begun}
use Rattle.object_store.specs.StoreView.{Index}
use Rattle.collector.specs.Collecting.{AreCandidates, AreKeptCommits, Collects, KnowsStored, LeavesCandidates, ShieldsSo}
use Rattle.collector.specs.Marking.{MarksMany, MarksUpTo}
use Rattle.collector.specs.Marks.{AreCompleteCommits, AreFirst, AreMarks, Candidates, HasTheSameMarks, MarksView, is_candidate, needed_by}
use Rattle.collector.proofs.CollectingLemmas.{fewer_many, left_many, sizes_many, unneeded_candidate, whole}
use Rattle.collector.proofs.CountedLemmas.{all_as, few_needed, fewer_fit}
use Rattle.collector.proofs.LeadingLemmas.{all_marked, any_of, begins, begins_exact, commits_many, exact_many, exact_up_to, leads_many, leads_up_to}
use Rattle.collector.proofs.NeedLemmas.{needed_alike, needed_kept, reached_grown, without_gone}

-- ---- the begin

runs_from : (moment : ℕ) (s : State) (running : Running) → (begun moment s).running ≡ Some running → running ≡ record { fresh = set.empty; stored = map.len s.objects; turned = 0 }
runs_from moment s running runs = sym (same_from_some (record { fresh = set.empty; stored = map.len s.objects; turned = 0 }) running runs)

pub begins_collecting : (s : State) (moment : ℕ) (running : Running) (index : Index) (commits : List (List ℕ)) (m : MarksView) → IsSound s
    → (begun moment s).running ≡ Some running → KnowsStored s index → AreKeptCommits (begun moment s).state.kept commits → AreFirst index commits m → AreMarks m
    → Collects (begun moment s) running m
begins_collecting s moment running index commits m sound runs knows kept first good = record {
  runs = runs;
  good = good;
  leads = begins s.objects index commits m first;
  exact = begins_exact s.objects index commits m first;
  commits = kept_one;
  stored = λ key there. same_keys key ∙ there;
  not_fresh = λ key there. ap (λ (r : Running). set.contains r.fresh key) (runs_from moment s running runs) ∙ set.contains-empty key_cmp key;
  unneeded = λ key there free. false_from_ne_true (is_needed s.objects (begun moment s).state.kept key) (λ needed. true≢false (sym (by_commits key needed) ∙ free));
  covers = λ key stored gone. absurd (true≢false (sym stored ∙ same_keys key ∙ gone));
  few = λ keys once needed.
      let fits = few_needed s.objects m.commits keys complete once needed in
      omega (arith, fits, stored_is);
  turns = omega (arith, fewer, stored_is, turned_is);
}
  where
    kept_one : (c : List ℕ) → list_any (same_id c) m.commits ≡ true → is_kept (begun moment s).state.kept c ≡ true
    kept_one c is = sym (kept c) ∙ ap (λ (cs : List (List ℕ)). list_any (same_id c) cs) (sym first.commits) ∙ is

    listed_one : (c : List ℕ) → is_kept (begun moment s).state.kept c ≡ true → list_any (same_id c) m.commits ≡ true
    listed_one c is = ap (λ (cs : List (List ℕ)). list_any (same_id c) cs) first.commits ∙ kept c ∙ is

    complete : AreCompleteCommits s.objects m.commits
    complete c is = (kept_begun s.objects s.state.kept s.running sound.kept s.state.days moment (map.len s.objects)).complete c (kept_one c is)

    same_keys : (key : Key) → is_stored s.objects key ≡ is_candidate m key
    same_keys key = sym (first.candidates key ∙ knows key)

    by_commits : (key : Key) → is_needed s.objects (begun moment s).state.kept key ≡ true → needed_by s.objects m.commits key ≡ true
    by_commits key needed =
        let one = any_of (λ commit. is_in (needs s.objects commit) key) (kept_commits (begun moment s).state.kept) needed in
        any_found (λ commit. is_in (needs s.objects commit) key) m.commits one.0 (listed_one one.0 one.1) one.2

    stored_is : running.stored ≡ map.len s.objects
    stored_is = ap (λ (r : Running). r.stored) (runs_from moment s running runs)

    turned_is : running.turned ≡ 0
    turned_is = ap (λ (r : Running). r.turned) (runs_from moment s running runs)

    fewer : map.len m.candidates ≤ map.len s.objects
    fewer = fewer_fit m.candidates s.objects (λ key there. same_keys key ∙ there)

-- ---- a turn that marks

in_front : (m : MarksView) (key : Key) → is_in m.marked key ≡ true → is_in (m.marked ++ m.pending) key ≡ true
in_front m key is = in_append m.marked m.pending key ∙ or_left (is_in m.marked key) (is_in m.pending key) is

-- a candidate that isn't one any more was marked, so it is needed; the others are as before
covers_then : (s : State) (running : Running) (old next new : MarksView) (count : ℕ) → IsSound s → Collects s running old → MarksMany s.objects old next count
    → new.candidates ≡ next.candidates → (key : Key) → is_stored s.objects key ≡ true → is_candidate new key ≡ false
    → (is_needed s.objects s.state.kept key || set.contains running.fresh key) ≡ true
covers_then s running old next new count sound collects marks same key stored gone = by (is_candidate old key) refl
  where
    left : is_candidate next key ≡ false
    left = ap (λ (c : Candidates). is_some (map.get c key)) (sym same) ∙ gone

    complete : AreCompleteCommits s.objects next.commits
    complete = subst (λ (cs : List (List ℕ)). AreCompleteCommits s.objects cs) (sym (commits_many s.objects old next count marks)) (whole s running old sound collects)

    needed : is_in next.marked key ≡ true → needed_by s.objects old.commits key ≡ true
    needed is =
        ap (λ (cs : List (List ℕ)). needed_by s.objects cs key) (sym (commits_many s.objects old next count marks))
        ∙ (exact_many s.objects old next count marks collects.exact).each complete key (in_front next key is)

    by : (b : Bool) → is_candidate old key ≡ b → (is_needed s.objects s.state.kept key || set.contains running.fresh key) ≡ true
    by false none = collects.covers key stored none
    by true was =
        or_left (is_needed s.objects s.state.kept key) (set.contains running.fresh key)
        (needed_kept s.objects s.state.kept old.commits collects.commits key (needed (left_many s.objects old next count marks key was left)))

pub marks_collect : (s : State) (running : Running) (old new : MarksView) (count : ℕ) → IsSound s → Collects s running old
    → MarksMany s.objects old new (suc count) → AreMarks new → Collects (swept false s) (turn_counted false running) new
marks_collect s running old new count sound collects marks good = record {
  runs = ap (option_map (turn_counted false)) collects.runs;
  good = good;
  leads = leads_many s.objects old new (suc count) marks collects.leads;
  exact = exact_many s.objects old new (suc count) marks collects.exact;
  commits = λ c is. collects.commits c (ap (λ (cs : List (List ℕ)). list_any (same_id c) cs) (sym same) ∙ is);
  stored = λ key there. collects.stored key (fewer key there);
  not_fresh = λ key there. collects.not_fresh key (fewer key there);
  unneeded = λ key there free. collects.unneeded key (fewer key there) (ap (λ (cs : List (List ℕ)). needed_by s.objects cs key) (sym same) ∙ free);
  covers = covers_then s running old new new (suc count) sound collects marks refl;
  few = λ keys once needed. collects.few keys once (subst (λ (cs : List (List ℕ)). AllByRecursion (λ key. needed_by s.objects cs key ≡ true) keys) same needed);
  turns = omega (arith, collects.turns, sizes.0, sizes.1);
}
  where
    same : new.commits ≡ old.commits
    same = commits_many s.objects old new (suc count) marks

    fewer : (key : Key) → is_candidate new key ≡ true → is_candidate old key ≡ true
    fewer = fewer_many s.objects old new (suc count) marks

    sizes : (length new.marked ≡ length old.marked + suc count) × (map.len new.candidates ≤ map.len old.candidates)
    sizes = sizes_many s.objects old new (suc count) marks

pub waits_collect : (s : State) (running : Running) (old new : MarksView) → IsSound s → Collects s running old → MarksUpTo s.objects old new → AreMarks new
    → Collects s running new
waits_collect s running old new sound collects marks good = record {
  runs = collects.runs;
  good = good;
  leads = leads_up_to s.objects old new marks collects.leads;
  exact = exact_up_to s.objects old new marks collects.exact;
  commits = λ c is. collects.commits c (ap (λ (cs : List (List ℕ)). list_any (same_id c) cs) (sym same) ∙ is);
  stored = λ key there. collects.stored key (fewer key there);
  not_fresh = λ key there. collects.not_fresh key (fewer key there);
  unneeded = λ key there free. collects.unneeded key (fewer key there) (ap (λ (cs : List (List ℕ)). needed_by s.objects cs key) (sym same) ∙ free);
  covers = covers_then s running old marks.next new marks.count sound collects marks.before marks.waits.candidates;
  few = λ keys once needed. collects.few keys once (subst (λ (cs : List (List ℕ)). AllByRecursion (λ key. needed_by s.objects cs key ≡ true) keys) same needed);
  turns = omega (arith, collects.turns, sizes.0, sizes.1, ap length marks.waits.marked, ap map.len marks.waits.candidates);
}
  where
    same : new.commits ≡ old.commits
    same = marks.waits.commits ∙ commits_many s.objects old marks.next marks.count marks.before

    fewer : (key : Key) → is_candidate new key ≡ true → is_candidate old key ≡ true
    fewer key there =
        fewer_many s.objects old marks.next marks.count marks.before key (ap (λ (c : Candidates). is_some (map.get c key)) (sym marks.waits.candidates) ∙ there)

    sizes : (length marks.next.marked ≡ length old.marked + marks.count) × (map.len marks.next.candidates ≤ map.len old.candidates)
    sizes = sizes_many s.objects old marks.next marks.count marks.before

-- ---- a turn that removes candidates

module _ (s : State) (running : Running) (old new : MarksView) (removed : List Key) (sound : IsSound s) (collects : Collects s running old) (none : old.pending ≡ [])
    (are : AreCandidates old removed) (same : HasTheSameMarks old new) (leaves : LeavesCandidates removed old new) where
  unneeded_then : (key : Key) → is_in removed key ≡ true → is_needed s.objects s.state.kept key ≡ false
  unneeded_then key is = unneeded_candidate s running old sound collects none key (are.each key is)

  kept_agree : (c : List ℕ) → is_kept s.state.kept c ≡ true → AgreeOn (needs s.objects c) s.objects (without s.objects removed)
  kept_agree c is = agrees_swept s.objects s.state.kept removed c is unneeded_then

  -- what commits need stays
  same_needed : (key : Key) → is_needed (without s.objects removed) s.state.kept key ≡ is_needed s.objects s.state.kept key
  same_needed key = needed_alike s.objects (without s.objects removed) (kept_commits s.state.kept) kept_agree key

  same_by : (key : Key) → needed_by (without s.objects removed) new.commits key ≡ needed_by s.objects old.commits key
  same_by key =
      ap (λ (cs : List (List ℕ)). needed_by (without s.objects removed) cs key) same.commits
      ∙ needed_alike s.objects (without s.objects removed) old.commits (λ c is. kept_agree c (collects.commits c is)) key

  parts : (key : Key) → is_candidate new key ≡ true → (is_candidate old key ≡ true) × (not (is_in removed key) ≡ true)
  parts key there = and_parts (is_candidate old key) (not (is_in removed key)) (sym (leaves.each key) ∙ there)

  pending_none : new.pending ≡ []
  pending_none = same.pending ∙ none

  was_stored : (key : Key) (b : Bool) → is_in removed key ≡ b → is_stored (without s.objects removed) key ≡ true → (b ≡ false) × (is_stored s.objects key ≡ true)
  was_stored key true gone stored = absurd (true≢false (sym stored ∙ ap is_some (without_gone s.objects removed key gone)))
  was_stored key false stays stored = (refl, ap is_some (sym (kept_without s.objects removed key stays)) ∙ stored)

  -- the fields that don't speak of the state's count of turns
  leads_swept : (key : Key) → needed_by (without s.objects removed) new.commits key ≡ true → is_in new.marked key ≡ true
  leads_swept key needed = ap (λ (ks : List Key). is_in ks key) same.marked ∙ all_marked s.objects old collects.leads none key (sym (same_by key) ∙ needed)

  exact_swept : (key : Key) → is_in (new.marked ++ new.pending) key ≡ true → needed_by (without s.objects removed) new.commits key ≡ true
  exact_swept key met =
      same_by key
      ∙ collects.exact.each (whole s running old sound collects) key
      (subst₂ (λ (marked : List Key) (pending : List Key). is_in (marked ++ pending) key ≡ true) same.marked same.pending met)

  covers_swept : (key : Key) → is_stored (without s.objects removed) key ≡ true → is_candidate new key ≡ false
      → (is_needed (without s.objects removed) s.state.kept key || set.contains running.fresh key) ≡ true
  covers_swept key stored gone =
      ap (λ (b : Bool). b || set.contains running.fresh key) (same_needed key) ∙ collects.covers key was.1 (no_candidate (is_candidate old key) refl)
    where
      was : (is_in removed key ≡ false) × (is_stored s.objects key ≡ true)
      was = was_stored key (is_in removed key) refl stored

      no_candidate : (b : Bool) → is_candidate old key ≡ b → is_candidate old key ≡ false
      no_candidate true there = absurd (true≢false (sym (leaves.each key ∙ ap (λ (b : Bool). b && not (is_in removed key)) there ∙ ap not was.0) ∙ gone))
      no_candidate false is = is

  good_swept : AreMarks new
  good_swept = record {
    once = subst₂ (λ (marked : List Key) (pending : List Key). IsDistinct (eq_by_cmp key_cmp) (marked ++ pending)) (sym same.marked) (sym same.pending) collects.good.once;
    apart = λ key there. ap (λ (ks : List Key). is_in ks key) same.marked ∙ collects.good.apart key (parts key there).0;
  }

  few_swept : (keys : List Key) → IsDistinct (eq_by_cmp key_cmp) keys → AllByRecursion (λ key. needed_by (without s.objects removed) new.commits key ≡ true) keys → length keys ≤ running.stored
  few_swept keys once needed =
      collects.few keys once
      (all_as (λ key. needed_by (without s.objects removed) new.commits key ≡ true) (λ key. needed_by s.objects old.commits key ≡ true) keys (λ key is. sym (same_by key) ∙ is) needed)

  some_removed : (keys : List Key) → keys ≢ [] → 1 ≤ length keys
  some_removed [] some = absurd (some refl)
  some_removed (k ∷ keys) some = omega arith

  -- where the turn was refused no turn is counted
  pub stops_collect : Collects (moved s [] removed) running new
  stops_collect = record {
    runs = ap (option_map (fresher [])) collects.runs;
    good = good_swept;
    leads = record { each = λ key needed free. absurd (true≢false (sym (leads_swept key needed) ∙ free)) };
    exact = record { each = λ complete key met. exact_swept key met };
    commits = λ c is. collects.commits c (ap (λ (cs : List (List ℕ)). list_any (same_id c) cs) (sym same.commits) ∙ is);
    stored = λ key there.
        ap is_some (kept_without s.objects removed key (not-true (is_in removed key) (parts key there).1)) ∙ collects.stored key (parts key there).0;
    not_fresh = λ key there. collects.not_fresh key (parts key there).0;
    unneeded = λ key there free. same_needed key ∙ collects.unneeded key (parts key there).0 (sym (same_by key) ∙ free);
    covers = covers_swept;
    few = few_swept;
    turns = omega (arith, collects.turns, leaves.size, ap length same.marked);
  }

  pub sweeps_collect : removed ≢ [] → Collects (swept false (moved s [] removed)) (turn_counted false running) new
  sweeps_collect some = record {
    runs = ap (option_map (turn_counted false)) (ap (option_map (fresher [])) collects.runs);
    good = good_swept;
    leads = stops_collect.leads;
    exact = stops_collect.exact;
    commits = stops_collect.commits;
    stored = stops_collect.stored;
    not_fresh = stops_collect.not_fresh;
    unneeded = stops_collect.unneeded;
    covers = covers_swept;
    few = few_swept;
    turns = let one = some_removed removed some in omega (arith, collects.turns, leaves.size, ap length same.marked, one);
  }

-- ---- the end, and calls

-- where nothing is left, what is stored is needed or fresh
pub clean : (s : State) (running : Running) (m : MarksView) → Collects s running m → ((key : Key) → is_candidate m key ≡ false) → IsClean s
clean s running m collects left = record {
  each = λ key stored.
      ap (λ (r : Option Running). is_needed s.objects s.state.kept key || is_fresh r key) collects.runs ∙ collects.covers key stored (left key);
}

module _ (s t : State) (before after : Running) (old new : MarksView) (sound : IsSound s) (collects : Collects s before old) (good : AreMarks new)
    (shields : ShieldsSo s t before after old new) where
  grown_agree : (c : List ℕ) → is_kept s.state.kept c ≡ true → AgreeOn (needs s.objects c) s.objects t.objects
  grown_agree c is = agrees_grown s.objects t.objects c (sound.kept.complete c is) shields.grown

  by_grown : (key : Key) → needed_by t.objects new.commits key ≡ needed_by s.objects old.commits key
  by_grown key =
      ap (λ (cs : List (List ℕ)). needed_by t.objects cs key) shields.marks.commits
      ∙ needed_alike s.objects t.objects old.commits (λ c is. grown_agree c (collects.commits c is)) key

  -- what was needed is needed still
  needed_still : (key : Key) → is_needed s.objects s.state.kept key ≡ true → is_needed t.objects t.state.kept key ≡ true
  needed_still key needed =
      needed_kept t.objects t.state.kept (kept_commits s.state.kept) shields.kept key
      (needed_alike s.objects t.objects (kept_commits s.state.kept) grown_agree key ∙ needed)

  kept_then : (key : Key) → (is_needed s.objects s.state.kept key ≡ true) ⊎ (set.contains before.fresh key ≡ true)
      → (is_needed t.objects t.state.kept key || set.contains after.fresh key) ≡ true
  kept_then key (inl needed) = or_left (is_needed t.objects t.state.kept key) (set.contains after.fresh key) (needed_still key needed)
  kept_then key (inr fresh) = or_right (is_needed t.objects t.state.kept key) (set.contains after.fresh key) (shields.fresh key fresh)

  covers_shielded : (key : Key) → is_stored t.objects key ≡ true → is_candidate new key ≡ false → (is_needed t.objects t.state.kept key || set.contains after.fresh key) ≡ true
  covers_shielded key stored gone = by (is_stored s.objects key) refl (is_candidate old key) refl
    where
      by : (b : Bool) → is_stored s.objects key ≡ b → (c : Bool) → is_candidate old key ≡ c → (is_needed t.objects t.state.kept key || set.contains after.fresh key) ≡ true
      by false new_key c is = or_right (is_needed t.objects t.state.kept key) (set.contains after.fresh key) (shields.came key stored new_key)
      by true was true there = shields.spares key there gone
      by true was false none = kept_then key (or_cases (is_needed s.objects s.state.kept key) (set.contains before.fresh key) (collects.covers key was none))

  unneeded_shielded : (key : Key) → is_candidate new key ≡ true → needed_by t.objects new.commits key ≡ false → is_needed t.objects t.state.kept key ≡ false
  unneeded_shielded key there free =
      false_from_ne_true (is_needed t.objects t.state.kept key)
      (λ needed. true≢false (sym there ∙ shields.installs key needed (collects.unneeded key (shields.fewer key there) (sym (by_grown key) ∙ free))))

  -- what the commits of the begin need stays as objects come
  pub shields_collect : Collects t after new
  shields_collect = record {
    runs = shields.runs;
    good = good;
    leads = record {
      each = λ key needed free.
          subst₂ (λ (marked : List Key) (pending : List Key). ReachedFrom t.objects marked pending key) (sym shields.marks.marked) (sym shields.marks.pending)
          (reached_grown s.objects t.objects shields.grown old.marked old.pending key
          (collects.leads.each key (sym (by_grown key) ∙ needed) (ap (λ (ks : List Key). is_in ks key) (sym shields.marks.marked) ∙ free)));
    };
    exact = record {
      each = λ complete key met.
          by_grown key
          ∙ collects.exact.each (whole s before old sound collects) key
          (subst₂ (λ (marked : List Key) (pending : List Key). is_in (marked ++ pending) key ≡ true) shields.marks.marked shields.marks.pending met);
    };
    commits = λ c is. shields.kept c (collects.commits c (ap (λ (cs : List (List ℕ)). list_any (same_id c) cs) (sym shields.marks.commits) ∙ is));
    stored = λ key there. stored_then s.objects t.objects shields.grown key (collects.stored key (shields.fewer key there));
    not_fresh = λ key there. false_from_ne_true (set.contains after.fresh key) (λ fresh. true≢false (sym there ∙ shields.shields key fresh));
    unneeded = unneeded_shielded;
    covers = covers_shielded;
    few = λ keys once needed.
        let fits = collects.few keys once
        (all_as (λ key. needed_by t.objects new.commits key ≡ true) (λ key. needed_by s.objects old.commits key ≡ true) keys (λ key is. sym (by_grown key) ∙ is) needed) in
        omega (arith, fits, shields.numbers.0);
    turns =
        let fewer = fewer_fit new.candidates old.candidates shields.fewer in
        omega (arith, collects.turns, fewer, shields.numbers.0, shields.numbers.1, ap length shields.marks.marked);
  }

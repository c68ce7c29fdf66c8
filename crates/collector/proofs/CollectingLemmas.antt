-- What a collection that runs permits, and what marking changes. The key lemmas are whole, few_turns, marks_so, sweeps_so,
-- fewer_many, left_many and sizes_many.
use Rattle.std.proofs.Common.{◌≡◌, ◌≢◌, ◌⊎◌, ◌<◌, ◌≤◌, ◌+◌, ◌*◌, inl, inr, ℕ, zero, suc, Bool, true, false, cond, is_some, arith, List, [], ◌∷◌, ◌++◌, length, refl, sym, ap, ◌∙◌, subst, true≢false, None}
use Rattle.std.specs.FinMap as map
use Rattle.std.specs.FinSet as set
use Rattle.std.specs.List.{IsDistinct}
use Rattle.std.specs.Ordering.{eq_by_cmp}
use Rattle.std.proofs.lemmas.Bool.{false_from_ne_true, or_left, or_right}
use Rattle.std.proofs.lemmas.List.{length-append, length_push}
use Rattle.ids.specs.Key.{Objects, key_cmp}
use Rattle.ids.specs.declared.key.Key.{Key}
use Rattle.ids.proofs.KeyOrderLemmas.{key_cmp_total}
use Rattle.object_graph.specs.Traversal.{is_in}
use Rattle.object_graph.proofs.KeyLemmas.{in_append, same_key}
use Rattle.object_graph.proofs.ReachingLemmas.{in_first}
use Rattle.library_rules.specs.Answered.{Fails, Plain}
use Rattle.library_rules.specs.CollectionSteps.{Sweeps}
use Rattle.library_rules.specs.LibraryState.{IsSound, Running, State, is_needed}
use Rattle.library_rules.specs.declared.entry.Entry.{Entry}
use Rattle.library_state.specs.declared.refusal.Refusal.{Refusal}
use Rattle.library_state.specs.declared.reply.Reply.TheVariants as reply
use Rattle.collector.specs.Collecting.{AreCandidates, Collects}
use Rattle.collector.specs.Marking.{MarksMany, MarksOne}
use Rattle.collector.specs.Marks.{AreCompleteCommits, Candidates, MarksView, is_candidate, needed_by}
use Rattle.collector.proofs.CountedLemmas.{all_in, len_less, len_no_more}
use Rattle.collector.proofs.LeadingLemmas.{all_marked}

pub distinct_none : IsDistinct (eq_by_cmp key_cmp) []
unfolding IsDistinct
distinct_none = tt

-- ---- facts of a collection that runs

module _ (s : State) (running : Running) (m : MarksView) (sound : IsSound s) (collects : Collects s running m) where
  -- the commits for which it began are complete, since they are kept
  pub whole : AreCompleteCommits s.objects m.commits
  whole commit is = sound.kept.complete commit (collects.commits commit is)

  -- what is met is needed, and no more than was stored
  pub few_met : length (m.marked ++ m.pending) ≤ running.stored
  few_met =
      collects.few (m.marked ++ m.pending) collects.good.once
      (all_in (λ key. needed_by s.objects m.commits key ≡ true) (m.marked ++ m.pending) (λ key met. collects.exact.each whole key met))

  some_more : (pending : List Key) → pending ≢ [] → 1 ≤ length pending
  some_more [] some = absurd (some refl)
  some_more (k ∷ pending) some = omega arith

  -- where a turn is due, fewer than twice as many were taken as objects were stored at the begin: while something waits the
  -- marks and it are no more than those, and else a candidate is left
  pub few_turns : (m.pending ≢ []) ⊎ ((key : Key) × (is_candidate m key ≡ true)) → running.turned < 2 * running.stored
  few_turns (inl some) =
      let long = length-append m.marked m.pending in
      let one = some_more m.pending some in
      omega (arith, collects.turns, few_met, long, one)
  few_turns (inr left) =
      let long = length-append m.marked m.pending in
      let one = len_less m.candidates left.0 left.1 in
      omega (arith, collects.turns, few_met, long, one)

  -- once nothing waits, a candidate is needed by no kept commit
  pub unneeded_candidate : m.pending ≡ [] → (key : Key) → is_candidate m key ≡ true → is_needed s.objects s.state.kept key ≡ false
  unneeded_candidate none key there =
      collects.unneeded key there
      (false_from_ne_true (needed_by s.objects m.commits key)
      (λ needed. true≢false (sym (all_marked s.objects m collects.leads none key needed) ∙ collects.good.apart key there)))

  -- a turn that marks is a permitted sweep of nothing
  pub marks_so : (e : Entry) → m.pending ≢ [] → Plain s e reply.Checked → e.removed ≡ [] → Sweeps s running e
  marks_so e some says none = record {
    stored = λ key is. absurd (nothing key is);
    unneeded = λ key is. absurd (nothing key is);
    not_fresh = λ key is. absurd (nothing key is);
    once = subst (IsDistinct (eq_by_cmp key_cmp)) (sym none) distinct_none;
    few = λ checked. few_turns (inl some);
    says = inl says;
  }
    where
      nothing : (key : Key) → is_in e.removed key ≡ true → ⊥
      nothing key is = true≢false (sym (sym (ap (λ (ks : List Key). is_in ks key) none) ∙ is))

  -- a turn that removes candidates, or fails, is one too
  pub sweeps_so : (e : Entry) → m.pending ≡ [] → AreCandidates m e.removed → (e.removed ≢ []) ⊎ Fails s e → Plain s e reply.Checked ⊎ Fails s e → Sweeps s running e
  sweeps_so e none are some says = record {
    stored = λ key is. collects.stored key (are.each key is);
    unneeded = λ key is. unneeded_candidate none key (are.each key is);
    not_fresh = λ key is. collects.not_fresh key (are.each key is);
    once = are.once;
    few = λ checked. few_turns (inr (left some checked));
    says = says;
  }
    where
      front : (keys : List Key) → keys ≢ [] → (key : Key) × (is_in keys key ≡ true)
      front [] some_keys = absurd (some_keys refl)
      front (k ∷ keys) some_keys = (k, in_first k keys)

      refused : (why : Refusal) → e.reply ≡ reply.Refused why → e.reply ≡ reply.Checked → ⊥
      refused why is checked = cc (is, checked)

      left : (e.removed ≢ []) ⊎ Fails s e → e.reply ≡ reply.Checked → (key : Key) × (is_candidate m key ≡ true)
      left (inl keys) checked = let one = front e.removed keys in (one.0, are.each one.0 one.1)
      left (inr fails) checked = absurd (refused fails.why fails.reply checked)

-- ---- what marking changes

marked_parts : (objects : Objects) (old new : MarksView) (marks : MarksOne objects old new) (key : Key)
    → is_candidate new key ≡ is_some (cond (same_key key marks.key) None (map.get old.candidates key))
marked_parts objects old new marks key = ap is_some (ap (λ (c : Candidates). map.get c key) marks.candidates ∙ map.get-remove key_cmp_total old.candidates marks.key key)

fewer_one : (objects : Objects) (old new : MarksView) → MarksOne objects old new → (key : Key) → is_candidate new key ≡ true → is_candidate old key ≡ true
fewer_one objects old new marks key there = by (same_key key marks.key) (sym (marked_parts objects old new marks key) ∙ there)
  where
    by : (b : Bool) → is_some (cond b None (map.get old.candidates key)) ≡ true → is_candidate old key ≡ true
    by true e = absurd (true≢false (sym e))
    by false e = e

pub fewer_many : (objects : Objects) (old new : MarksView) (count : ℕ) → MarksMany objects old new count → (key : Key) → is_candidate new key ≡ true → is_candidate old key ≡ true
fewer_many objects old new zero marks key there = ap (λ (m : MarksView). is_candidate m key) (sym marks) ∙ there
fewer_many objects old new (suc count) marks key there = fewer_many objects old marks.0 count marks.1 key (fewer_one objects marks.0 new marks.2 key there)

-- a candidate that is none any more was marked
left_one : (objects : Objects) (old new : MarksView) → MarksOne objects old new → (key : Key) → is_candidate old key ≡ true → is_candidate new key ≡ false → is_in new.marked key ≡ true
left_one objects old new marks key was gone = by (same_key key marks.key) refl (sym (marked_parts objects old new marks key) ∙ gone)
  where
    by : (b : Bool) → same_key key marks.key ≡ b → is_some (cond b None (map.get old.candidates key)) ≡ false → is_in new.marked key ≡ true
    by true same e =
        ap (λ (ks : List Key). is_in ks key) marks.marked ∙ in_append old.marked (marks.key ∷ []) key
        ∙ or_right (is_in old.marked key) (is_in (marks.key ∷ []) key) (or_left (same_key key marks.key) false same)
    by false other e = absurd (true≢false (sym was ∙ e))

marked_one : (objects : Objects) (old new : MarksView) → MarksOne objects old new → (key : Key) → is_in old.marked key ≡ true → is_in new.marked key ≡ true
marked_one objects old new marks key is =
    ap (λ (ks : List Key). is_in ks key) marks.marked ∙ in_append old.marked (marks.key ∷ []) key ∙ or_left (is_in old.marked key) (is_in (marks.key ∷ []) key) is

pub left_many : (objects : Objects) (old new : MarksView) (count : ℕ) → MarksMany objects old new count → (key : Key) → is_candidate old key ≡ true → is_candidate new key ≡ false
    → is_in new.marked key ≡ true
left_many objects old new zero marks key was gone = absurd (true≢false (sym was ∙ ap (λ (m : MarksView). is_candidate m key) (sym marks) ∙ gone))
left_many objects old new (suc count) marks key was gone = by (is_candidate marks.0 key) refl (λ left. left_many objects old marks.0 count marks.1 key was left)
  where
    by : (b : Bool) → is_candidate marks.0 key ≡ b → (is_candidate marks.0 key ≡ false → is_in marks.0.marked key ≡ true) → is_in new.marked key ≡ true
    by true there rest = left_one objects marks.0 new marks.2 key there gone
    by false left rest = marked_one objects marks.0 new marks.2 key (rest left)

-- a mark more and no candidate more, each time
pub sizes_many : (objects : Objects) (old new : MarksView) (count : ℕ) → MarksMany objects old new count
    → (length new.marked ≡ length old.marked + count) × (map.len new.candidates ≤ map.len old.candidates)
sizes_many objects old new zero marks =
    let one : length new.marked ≡ length old.marked = ap (λ (m : MarksView). length m.marked) marks in
    let two : map.len new.candidates ≡ map.len old.candidates = ap (λ (m : MarksView). map.len m.candidates) marks in
    (omega (arith, one), omega (arith, two))
sizes_many objects old new (suc count) marks =
    let rest = sizes_many objects old marks.0 count marks.1 in
    let one : length new.marked ≡ length marks.0.marked + 1 = ap length marks.2.marked ∙ length_push marks.0.marked marks.2.key in
    let two = len_no_more marks.0.candidates marks.2.key in
    let three : map.len new.candidates ≡ map.len (map.remove marks.0.candidates marks.2.key) = ap map.len marks.2.candidates in
    (omega (arith, rest.0, one), omega (arith, rest.1, two, three))

-- What a turn of a collection opened. The key lemmas are behind, none_gone, sweep_opens and mark_opens.
use Rattle.std.proofs.Common.{◌≡◌, ◌≢◌, ◌++◌, ◌+◌, ℕ, Bool, true, false, List, [], length, refl, sym, ap, ◌∙◌, subst, append-nil, true≢false, Option, Some, arith}
use Rattle.std.specs.List.{IsDistinct}
use Rattle.std.specs.Ordering.{eq_by_cmp}
use Rattle.std.proofs.lemmas.Bool.{or_left, or_right}
use Rattle.std.proofs.lemmas.List.{length-append}
use Rattle.ids.specs.Key.{Objects, key_cmp}
use Rattle.ids.specs.declared.key.Key.{Key}
use Rattle.library_rules.specs.LibraryState.{State, is_needed}
use Rattle.library_state.specs.declared.state.LibState.{LibState}
use Rattle.object_graph.specs.Traversal.{is_in}
use Rattle.object_graph.proofs.KeyLemmas.{in_append}
use Rattle.object_store.specs.Shelf.{Contents}
use Rattle.object_store.specs.StoreView.{StoreView, objects_of}
use Rattle.object_store.specs.declared.shelf.Slot.{Slot}
use Rattle.collector.specs.Marks.{AreCompleteCommits, AreMarks, MarksView, is_candidate, needed_by}
use Rattle.collector.specs.Opened.{HaveOpened, IsRead, anything}
use Rattle.collector.proofs.CollectingLemmas.{whole}
use Rattle.collector.proofs.LeadingLemmas.{commits_many, exact_many}
use Rattle.collector.proofs.NeedLemmas.{needed_kept}
use Rattle.collector.proofs.OpenedLemmas.{AreParts, distinct_parts}
use Rattle.tree_walk.specs.KnownTrees.{KnownView}
use Rattle.depot.specs.CollectionTurns.{AreMarkedBehind, MarksSo, OpensMany, OpensSo, SweepsSo}
use Rattle.depot.specs.DepotView.{CollectionView, IsKept, depot_of, running_library}
use Rattle.depot.specs.declared.turn.Turn.{Turn}
use Rattle.depot.specs.declared.turn.Turn.TheVariants.{Marked, Swept, Refused}
use Rattle.depot.proofs.TakesTurnLemmas.{collects_at, library_at, sound_at}
use Rattle.depot.proofs.ToldLemmas.{mapped_at}

abbrev IsOnce : List Key → Type 0
IsOnce = IsDistinct (eq_by_cmp key_cmp)

-- ---- behind what leaves

-- the marks, where nothing waits, and candidates alone leave
pub behind : (marks : MarksView) (removed : List Key) → AreMarks marks → HaveOpened marks → marks.pending ≡ [] → ((key : Key) → is_in removed key ≡ true → is_candidate marks key ≡ true)
    → AreMarkedBehind (length marks.marked) removed
behind marks removed good have none each = record {
  keys = marks.marked;
  size = refl;
  once = (distinct_parts marks.marked marks.pending good.once).front;
  read = λ key there. subst (λ (met : List Key). IsRead anything met key) (ap (λ (ks : List Key). marks.marked ++ ks) none ∙ append-nil marks.marked) (have.read key there);
  stay = λ key gone. good.apart key (each key gone);
}

pub none_gone : (marks : MarksView) (key : Key) → is_in [] key ≡ true → is_candidate marks key ≡ true
none_gone marks key gone = absurd (true≢false (sym gone))

module _ {S : Type 0} (contents : S → Option Contents) (may_give : S → Slot → Option (List ℕ) → Type 0) (texts faults : S → ℕ) (store new : StoreView S) (state : LibState) (unsettled : Bool)
    (before after : CollectionView) where
  -- what a sweep tells left, and where it was refused what left all the same
  pub sweep_opens : (at_most : ℕ) (turn : Turn) → AreMarks before.marks → HaveOpened before.marks → before.marks.pending ≡ [] → SweepsSo contents may_give texts faults store before at_most turn new after
      → OpensSo contents may_give faults (depot_of store state unsettled (Some before)) turn
  sweep_opens at_most (Swept keys) good have none (size, sweeps) = behind before.marks keys good have none sweeps.took.each
  sweep_opens at_most (Refused why keys) good have none (few, fault, refusal, free, sweeps) = λ some. behind before.marks keys good have none sweeps.took.each
  sweep_opens at_most other good have none so = absurd so

  module _ (known : KnownView) (kept : IsKept contents faults (depot_of store state unsettled (Some before)) known (Some before)) where
    -- what a marking tells was opened, and is needed
    marks_open : (at_most count : ℕ) → MarksSo contents may_give texts faults store before at_most (Marked count) new after
        → OpensMany contents may_give faults (depot_of store state unsettled (Some before)) count
    marks_open at_most count (least, few, marks) = record {
      keys = marks.left.more;
      met = after.marks.marked ++ after.marks.pending;
      size = (let more : length after.marks.marked ≡ length before.marks.marked + length marks.left.more = ap length marks.left.marked ∙ length-append before.marks.marked marks.left.more in
          let told = marks.size in
          omega (arith, more, told));
      once = parts.back;
      each = λ key there. marks.opened.opened key (now key there) (parts.apart key there);
      needed = λ s told key there.
          let at = mapped_at (running_library state (Some before.running) (faults store.shelf)) (objects_of contents store) s told in
          subst (λ (t : State). is_needed t.objects t.state.kept key ≡ true) at.gives (needs at.value at.is key there);
    }
      where
        parts : AreParts before.marks.marked marks.left.more
        parts = distinct_parts before.marks.marked marks.left.more
            (subst (λ (ks : List Key). IsOnce ks) marks.left.marked (distinct_parts after.marks.marked after.marks.pending marks.good.once).front)

        now : (key : Key) → is_in marks.left.more key ≡ true → is_in after.marks.marked key ≡ true
        now key there =
            ap (λ (ks : List Key). is_in ks key) marks.left.marked ∙ in_append before.marks.marked marks.left.more key
            ∙ or_right (is_in before.marks.marked key) (is_in marks.left.more key) there

        needs : (objects : Objects) → objects_of contents store ≡ Some objects → (key : Key) → is_in marks.left.more key ≡ true → is_needed objects state.kept key ≡ true
        needs objects told key there =
            let collects = collects_at contents may_give texts faults store new state unsettled before after known kept objects told in
            let many = marks.marks objects told in
            let same : after.marks.commits ≡ before.marks.commits = commits_many objects before.marks after.marks count many in
            let complete : AreCompleteCommits objects before.marks.commits
            = whole (library_at contents may_give texts faults store new state unsettled before after known kept objects) before.running before.marks
            (sound_at contents may_give texts faults store new state unsettled before after known kept objects told) collects in
            needed_kept objects state.kept before.marks.commits collects.commits key
            (ap (λ (cs : List (List ℕ)). needed_by objects cs key) (sym same)
            ∙ (exact_many objects before.marks after.marks count many collects.exact).each (subst (λ (cs : List (List ℕ)). AreCompleteCommits objects cs) (sym same) complete) key
            (in_append after.marks.marked after.marks.pending key ∙ or_left (is_in after.marks.marked key) (is_in after.marks.pending key) (now key there)))

    pub mark_opens : (at_most : ℕ) (turn : Turn) → MarksSo contents may_give texts faults store before at_most turn new after
        → OpensSo contents may_give faults (depot_of store state unsettled (Some before)) turn
    mark_opens at_most (Marked count) marks = marks_open at_most count marks
    mark_opens at_most (Refused why keys) (none, fails) = λ some. absurd (some none)
    mark_opens at_most other none = absurd none

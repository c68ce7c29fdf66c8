-- The slot is settled, and then candidates leave. The key lemmas are settle_left, settle_kept, stops_early, swept_turned, swept_stopped,
-- settled_slot and sweep_gives.
use Rattle.std.proofs.Common.{◌≡◌, ◌⊎◌, inl, inr, ℕ, ◌+◌, ◌≤◌, ◌&&◌, Bool, true, false, if◌then◌else◌, List, [], length, min, refl, sym, ap, ◌∙◌, subst, true≢false, IsTrue, Option, None, Some, Result, Ok, Err, is_some, option_map, arith}
use Rattle.std.specs.Prelude.{IfSome, ⊤}
use Rattle.std.specs.FinMap as map
use Rattle.ids.specs.Key.{Objects, key_cmp}
use Rattle.ids.specs.declared.key.Key.{Key}
use Rattle.library_rules.specs.Changes.{without}
use Rattle.library_state.specs.declared.refusal.Refusal.{Refusal}
use Rattle.library_state.specs.declared.state.LibState.{LibState}
use Rattle.object_graph.specs.Traversal.{is_in}
use Rattle.object_store.specs.Shelf.{Contents}
use Rattle.object_store.specs.Store.{CountsShelf, is_free, is_of_shelf}
use Rattle.object_store.specs.StoreView.{AddsNoStray, Index, StoreView, objects_of}
use Rattle.object_store.specs.declared.error.StoreFault.{StoreFault}
use Rattle.object_store.specs.declared.error.StoreFault.TheVariants as faults_of_store
use Rattle.object_store.specs.declared.shelf.Slot.{Slot as ShelfSlot}
use Rattle.object_store.specs.declared.shelf.Slot.TheVariants.{Object}
use Rattle.collector.specs.Marks.{Candidates, HasTheSameMarks, MarksView}
use Rattle.collector.specs.Sweeping.{CountsSwept, GivesOrNothing, StraysAtEnd, Took}
use Rattle.collector.proofs.CollectingLemmas.{distinct_none}
use Rattle.collector.proofs.SweepLemmas.{strays_after}
use Rattle.depot.specs.CollectionTurns.{SettlesBefore, SweepsSo}
use Rattle.depot.specs.DepotView.{CollectionView}
use Rattle.depot.specs.Fresh.{counted_turn}
use Rattle.depot.specs.Giving.{GivesBy, IsOfSweep, IsOwnText}
use Rattle.depot.specs.Refusals.{store_refusal}
use Rattle.depot.specs.Writing.{LeftBy, SettlesSo, Slot, again, nothing, settled}
use Rattle.depot.specs.declared.turn.Turn.TheVariants.{Refused, Swept}
use Rattle.depot.proofs.CollectionLemmas.{collection_of}
use Rattle.depot.proofs.StrayLemmas.{strays_none}

-- ---- where the slot couldn't be settled

no_end : {A : Type 0} (fault : StoreFault) → ◌≡◌ {A = Result ⊤ StoreFault} (Err fault) (Ok tt) → A
no_end fault e = cc

pub settle_left : (unsettled : Bool) (state next : LibState) (old : Slot) (still : Bool) (new : Slot) (fault : StoreFault) → still ≡ unsettled → SettlesSo unsettled state old new (Err fault)
    → LeftBy fault unsettled state next old still new
settle_left false state next old still new fault same settles = no_end fault settles.1
settle_left true state next old still new faults_of_store.Shelf same (inl kept) = nothing same kept
settle_left true state next old still new faults_of_store.Shelf same (inr is_written) = again same refl is_written.text
settle_left true state next old still new faults_of_store.NoMemory same kept = inl (same, kept)
settle_left true state next old still new (faults_of_store.Taken id) same none = absurd none
settle_left true state next old still new (faults_of_store.Wrong id) same none = absurd none
settle_left true state next old still new (faults_of_store.Damaged want got) same none = absurd none

pub settle_kept : (unsettled : Bool) (state : LibState) (old : Slot) (still : Bool) (new : Slot) (fault : StoreFault) (keys : List Key) → keys ≡ [] → still ≡ unsettled
    → SettlesSo unsettled state old new (Err fault) → SettlesBefore unsettled state old still new keys
settle_kept false state old still new fault keys none same settles = no_end fault settles.1
settle_kept true state old still new faults_of_store.Shelf keys none same settles = inr (none, same, settles)
settle_kept true state old still new faults_of_store.NoMemory keys none same kept = inr (none, same, inl kept)
settle_kept true state old still new (faults_of_store.Taken id) keys none same bad = absurd bad
settle_kept true state old still new (faults_of_store.Wrong id) keys none same bad = absurd bad
settle_kept true state old still new (faults_of_store.Damaged want got) keys none same bad = absurd bad

settle_free : (unsettled : Bool) (state : LibState) (old new : Slot) (fault : StoreFault) → SettlesSo unsettled state old new (Err fault) → IsTrue (is_free fault)
settle_free false state old new fault settles = no_end fault settles.1
settle_free true state old new faults_of_store.Shelf settles = refl
settle_free true state old new faults_of_store.NoMemory settles = refl
settle_free true state old new (faults_of_store.Taken id) bad = absurd bad
settle_free true state old new (faults_of_store.Wrong id) bad = absurd bad
settle_free true state old new (faults_of_store.Damaged want got) bad = absurd bad

-- once it was settled it has the present text
pub settled_slot : (unsettled : Bool) (state : LibState) (old new : Slot) → SettlesSo unsettled state old new (Ok tt) → new ≡ settled unsettled state old
settled_slot false state old new settles = settles.0
settled_slot true state old new is_written = is_written.text

module _ {S : Type 0} (contents : S → Option Contents) (may_give : S → ShelfSlot → Option (List ℕ) → Type 0) (texts faults : S → ℕ) where
  same_objects : (o : Option Objects) → o ≡ option_map (λ (objects : Objects). without objects []) o
  same_objects None = refl
  same_objects (Some objects) = refl

  took_none : (store new : StoreView S) (candidates : Candidates) → new.index ≡ store.index → objects_of contents new ≡ objects_of contents store → Took contents store new candidates candidates []
  took_none store new candidates held stays = record {
    each = λ key e. absurd (true≢false (sym e));
    once = distinct_none;
    candidates = λ key. all (is_some (map.get candidates key));
    size = (let size : map.len candidates + 0 ≡ map.len candidates = omega arith in size);
    index = λ key. ap (λ (i : Index). map.get i key) held;
    held = (let size : map.len new.index ≡ map.len store.index = ap map.len held in let sum : map.len new.index + 0 ≡ map.len store.index = omega (arith, size) in sum);
    objects = stays ∙ same_objects (objects_of contents store);
  }
    where
      all : (b : Bool) → b ≡ (b && true)
      all true = refl
      all false = refl

  same_marks : (marks : MarksView) → HasTheSameMarks marks marks
  same_marks marks = record { commits = refl; marked = refl; pending = refl }

  -- nothing left, since the slot couldn't be settled
  pub stops_early : (store new : StoreView S) (before : CollectionView) (at_most : ℕ) (unsettled : Bool) (state : LibState) (slot after : Slot) (fault : StoreFault) (why : Refusal) (keys : List Key)
      → why ≡ store_refusal fault → keys ≡ [] → SettlesSo unsettled state slot after (Err fault) → new.index ≡ store.index → objects_of contents new ≡ objects_of contents store
      → AddsNoStray contents store new → CountsShelf {T = ⊤} (faults store.shelf) (faults new.shelf) (Err fault) → SweepsSo contents may_give texts faults store before at_most (Refused why keys) new before
  stops_early store new before at_most unsettled state slot after fault why keys refusal none settles held stays lying count =
      subst (λ (ks : List Key). SweepsSo contents may_give texts faults store before at_most (Refused why ks) new before) (sym none) (
        omega arith,
        fault,
        refusal,
        settle_free unsettled state slot after fault settles,
        record {
          took = took_none store new before.marks.candidates held stays;
          same = same_marks before.marks;
          runs = refl;
          lying = strays_none contents (is_of_shelf fault) store new [] lying;
          count = count;
        },
      )

  -- ---- after it was settled

  took_then : (store mid new : StoreView S) (before after : Candidates) (keys : List Key) → mid.index ≡ store.index → objects_of contents mid ≡ objects_of contents store
      → Took contents mid new before after keys → Took contents store new before after keys
  took_then store mid new before after keys held stays took = record {
    each = took.each;
    once = took.once;
    candidates = took.candidates;
    size = took.size;
    index = λ key. subst (λ (i : Index). map.get new.index key ≡ (if is_in keys key then None else map.get i key)) held (took.index key);
    held = took.held ∙ ap map.len held;
    objects = took.objects ∙ ap (option_map (λ (objects : Objects). without objects keys)) stays;
  }

  module _ (store mid new : StoreView S) (marks next : MarksView) (table : map.FinMap key_cmp ⊤) (stored turned : ℕ) (old : CollectionView) (is : collection_of marks table stored turned ≡ old)
      (keys : List Key) (held : mid.index ≡ store.index) (stays : objects_of contents mid ≡ objects_of contents store) (lying : AddsNoStray contents store mid)
      (counted_none : faults mid.shelf ≡ faults store.shelf) (took : Took contents mid new marks.candidates next.candidates keys) (same : HasTheSameMarks marks next) where
    -- some left
    pub swept_turned : (at_most : ℕ) (fault : Option StoreFault) (after : CollectionView) → fault ≡ None → after ≡ counted_turn (collection_of next table stored turned) → marks.pending ≡ []
        → (marks.pending ≡ [] → fault ≡ None → length keys ≡ min at_most (map.len marks.candidates)) → StraysAtEnd contents mid new keys fault → CountsSwept (faults mid.shelf) (faults new.shelf) fault
        → SweepsSo contents may_give texts faults store old at_most (Swept keys) new after
    swept_turned at_most fault after none counts empty size strays counted =
        subst (λ (o : CollectionView). SweepsSo contents may_give texts faults store o at_most (Swept keys) new after) is
        (subst (λ (a : CollectionView). SweepsSo contents may_give texts faults store (collection_of marks table stored turned) at_most (Swept keys) new a) (sym counts) (
          size empty none,
          record {
            took = took_then store mid new marks.candidates next.candidates keys held stays took;
            same = same;
            runs = refl;
            lying = λ key stray. lying key (subst (StraysAtEnd contents mid new keys) none strays key stray);
            count = subst (CountsSwept (faults mid.shelf) (faults new.shelf)) none counted ∙ counted_none;
          },
        ))

    -- a fault ended the sweep
    pub swept_stopped : (at_most : ℕ) (fault : Option StoreFault) (why_fault : StoreFault) (why : Refusal) → fault ≡ Some why_fault → why ≡ store_refusal why_fault → length keys ≤ at_most
        → IfSome fault (λ f. IsTrue (is_free f)) → StraysAtEnd contents mid new keys fault → CountsSwept (faults mid.shelf) (faults new.shelf) fault
        → SweepsSo contents may_give texts faults store old at_most (Refused why keys) new (collection_of next table stored turned)
    swept_stopped at_most fault why_fault why at refusal few free strays counted =
        subst (λ (o : CollectionView). SweepsSo contents may_give texts faults store o at_most (Refused why keys) new (collection_of next table stored turned)) is (
          few,
          why_fault,
          refusal,
          subst (λ (o : Option StoreFault). IfSome o (λ f. IsTrue (is_free f))) at free,
          record {
            took = took_then store mid new marks.candidates next.candidates keys held stays took;
            same = same;
            runs = refl;
            lying = strays_after contents store mid new keys (Some why_fault) lying (subst (StraysAtEnd contents mid new keys) at strays);
            count = subst (λ (n : ℕ). CountsShelf {T = ⊤} n (faults new.shelf) (Err why_fault)) counted_none (subst (CountsSwept (faults mid.shelf) (faults new.shelf)) at counted);
          },
        )

-- what a sweep lays: the text before, and then nothing in the slots of what left
pub sweep_gives : (lib : List ℕ) (keys : List Key) (first mid last : ShelfSlot → Option (List ℕ) → Type 0) → GivesBy (IsOwnText lib) first mid → GivesOrNothing mid last keys
    → GivesBy (IsOfSweep lib keys) first last
sweep_gives lib keys first mid last text nothing_more slot given is = by (nothing_more slot given is)
  where
    before : first slot given ⊎ IsOwnText lib slot given → first slot given ⊎ IsOfSweep lib keys slot given
    before (inl was) = inl was
    before (inr own) = inr (inl own)

    by : mid slot given ⊎ ((key : Key) × (is_in keys key ≡ true) × (slot ≡ Object key) × (given ≡ None)) → first slot given ⊎ IsOfSweep lib keys slot given
    by (inl was) = before (text slot given was)
    by (inr gone) = inr (inr gone)

-- and only the text, where it ended there
pub text_gives : (lib : List ℕ) (keys : List Key) (first last : ShelfSlot → Option (List ℕ) → Type 0) → GivesBy (IsOwnText lib) first last → GivesBy (IsOfSweep lib keys) first last
text_gives lib keys first last text slot given is = before (text slot given is)
  where
    before : first slot given ⊎ IsOwnText lib slot given → first slot given ⊎ IsOfSweep lib keys slot given
    before (inl was) = inl was
    before (inr own) = inr (inl own)

-- Candidates are stored as a collection begins, and stay so. The key lemmas are first_stored, marked_stored, taken_stored and
-- grown_stored.
use Rattle.std.proofs.Common.{◌≡◌, ◌∙◌, ◌&&◌, Bool, true, false, not, if◌then◌else◌, is_some, List, Option, None, IsSome, refl, sym, subst, ap, true≢false, ℕ}
use Rattle.std.specs.FinMap as map
use Rattle.ids.specs.declared.key.Key.{Key}
use Rattle.object_graph.specs.Traversal.{is_in}
use Rattle.object_store.specs.Shelf.{Contents}
use Rattle.object_store.specs.StoreView.{Index, StoreView}
use Rattle.collector.specs.Marking.{HasMarked}
use Rattle.collector.specs.Marks.{AreFirst, MarksView, is_candidate}
use Rattle.collector.specs.StoredCandidates.{AreStoredIn}
use Rattle.collector.specs.Sweeping.{Took}

first_of : (a b : Bool) → (a && b) ≡ true → a ≡ true
first_of true b both = refl
first_of false b both = both

second_of : (a b : Bool) → (a && not b) ≡ true → b ≡ false
second_of true true both = absurd (true≢false (sym both))
second_of true false both = refl
second_of false b both = absurd (true≢false (sym both))

pub first_stored : (index : Index) (commits : List (List ℕ)) (marks : MarksView) → AreFirst index commits marks → AreStoredIn index marks
first_stored index commits marks first key there = sym (first.candidates key) ∙ there

-- the index grows, and candidates get fewer
pub grown_stored : (index more : Index) (old new : MarksView) → ((key : Key) → is_some (map.get index key) ≡ true → is_some (map.get more key) ≡ true)
    → ((key : Key) → is_candidate new key ≡ true → is_candidate old key ≡ true) → AreStoredIn index old → AreStoredIn more new
grown_stored index more old new grows fewer stored key there = grows key (stored key (fewer key there))

pub marked_stored : (old new : MarksView) (index now : Index) → HasMarked old new → now ≡ index → AreStoredIn index old → AreStoredIn now new
marked_stored old new index now marked same stored key there =
    subst (λ (i : Index). IsSome (map.get i key)) (sym same) (stored key (first_of (is_candidate old key) (not (is_in marked.more key)) (sym (marked.candidates key) ∙ there)))

pub taken_stored : {S : Type 0} (contents : S → Option Contents) (old new : StoreView S) (before after : MarksView) (removed : List Key)
    → Took contents old new before.candidates after.candidates removed → AreStoredIn old.index before → AreStoredIn new.index after
taken_stored contents old new before after removed took stored key there =
    let is = sym (took.candidates key) ∙ there in
    subst IsSome (sym (took.index key ∙ ap (λ b. if b then None else map.get old.index key) (second_of (is_candidate before key) (is_in removed key) is)))
    (stored key (first_of (is_candidate before key) (not (is_in removed key)) is))

-- What a collection may still remove isn't fresh, over any shelf. The key lemmas are apart_more, apart_runs and apart_keeps.
use Rattle.std.proofs.Common.{◌≡◌, ◌&&◌, ◌||◌, not, Bool, true, false, List, [], refl, sym, ap, ◌∙◌, true≢false, Some, is_some}
use Rattle.std.specs.FinMap as map
use Rattle.std.specs.FinSet as set
use Rattle.ids.specs.declared.key.Key.{Key}
use Rattle.library_rules.specs.LibraryState.{Running}
use Rattle.object_graph.specs.Traversal.{is_in}
use Rattle.object_store.specs.StoreView.{Index}
use Rattle.collector.specs.Marks.{MarksView, is_candidate}
use Rattle.depot.specs.DepotView.{AreApart, CollectionView, KnowsCandidates}
use Rattle.depot.specs.Fresh.{KeepsKeys}
use Rattle.depot.specs.FreshKeys.{RunsOn, came}
use Rattle.depot.proofs.FreshLemmas.{some_same}

-- what is no candidate any more, or wasn't fresh and isn't now
pub apart_more : (before after : CollectionView) → ((key : Key) → is_candidate after.marks key ≡ true → is_candidate before.marks key ≡ true)
    → ((key : Key) → is_candidate after.marks key ≡ true → set.contains before.running.fresh key ≡ false → set.contains after.running.fresh key ≡ false) → AreApart (Some before) → AreApart (Some after)
apart_more before after fewer still apart key there = still key there (apart key (fewer key there))

-- a candidate was known, so it is no key that came
pub apart_runs : (old new : Index) (before after : CollectionView) → RunsOn old new [] (Some before.running) (Some after.running)
    → ((key : Key) → is_candidate after.marks key ≡ true → is_candidate before.marks key ≡ true) → KnowsCandidates old (Some before) → AreApart (Some before) → AreApart (Some after)
apart_runs old new before after (running, same, goes) fewer knows = apart_more before after fewer (λ key there free.
    ap (λ (r : Running). set.contains r.fresh key) (some_same same) ∙ goes.fresh key ∙ ap (λ b. b || (came old new key || false)) free
    ∙ ap (λ b. (is_some (map.get new key) && not b) || false) (knows key (fewer key there)) ∙ never (is_some (map.get new key)))
  where
    never : (b : Bool) → ((b && false) || false) ≡ false
    never true = refl
    never false = refl

-- keys that became fresh and were shielded
pub apart_keeps : (keys : List Key) (before after : CollectionView) → KeepsKeys keys before after → AreApart (Some before) → AreApart (Some after)
apart_keeps keys before after keeps = apart_more before after (λ key there. (parts key there).0)
    (λ key there free. ap (λ (r : Running). set.contains r.fresh key) keeps.shields.runs ∙ keeps.fresh.each key ∙ ap (λ b. b || is_in keys key) free ∙ (parts key there).1)
  where
    split : (a c : Bool) → (a && not c) ≡ true → (a ≡ true) × (c ≡ false)
    split true true e = absurd (true≢false (sym e))
    split true false e = (refl, refl)
    split false c e = absurd (true≢false (sym e))

    parts : (key : Key) → is_candidate after.marks key ≡ true → (is_candidate before.marks key ≡ true) × (is_in keys key ≡ false)
    parts key there =
        split (is_candidate before.marks key) (is_in keys key)
        (ap (λ (m : MarksView). is_candidate m key && not (is_in keys key)) (sym keeps.fresh.marks) ∙ sym (keeps.shields.each key) ∙ there)

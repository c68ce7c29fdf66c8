-- What stands right before a touch. The key lemma is glance_before.
use Rattle.std.proofs.Common.{◌≡◌, true≢false, true, List, [], ◌∷◌, ◌++◌, Option, None, Some, refl, sym, ap, subst, ◌∙◌}
use Rattle.std.specs.FinMap as fin
use Rattle.std.specs.List.{AllByRecursion}
use Rattle.block_chunker.specs.declared.cuts.Cuts.{Cuts}
use Rattle.tree_model.specs.Path.{PathV}
use Rattle.folder_side.specs.Calls.{Call, Compared, Looked, MadeDir, Moved, Opened, Read, Removed, SpareAdded, SpareCleared, SpareSynced, is_touch}
use Rattle.folder_side.specs.declared.folder.ItemKind.TheVariants as kind
use Rattle.folder_side.specs.declared.scan_report.Scan.{Scan}
use Rattle.folder_side.specs.declared.scan_report.Seen.{Seen}
use Rattle.folder_side.specs.declared.scan_report.Seen.TheVariants as seen
use Rattle.folder_side.proofs.CallLemmas.{IsGlance}
use Rattle.tree_checkout.specs.SecondLook.{file_seen}
use Rattle.tree_checkout.specs.Touches.{EndsInLook, FindsAs, IsReady, LooksBeforeEach}
use Rattle.tree_checkout.proofs.TouchLemmas.{finds_glances}

-- ---- the last call of a list

last_of : Call → List Call → Call
last_of first [] = first
last_of first (call ∷ calls) = last_of call calls

last_single : (first : Call) (calls : List Call) (call : Call) → last_of first (calls ++ call ∷ []) ≡ call
unfolding last_of
last_single first [] call = refl
last_single first (other ∷ calls) call = last_single other calls call

last_behind : (first : Call) (front : List Call) (call : Call) (calls : List Call) → last_of first (front ++ call ∷ calls) ≡ last_of call calls
unfolding last_of
last_behind first [] call calls = refl
last_behind first (other ∷ front) call calls = last_behind other front call calls

last_glance : (first : Call) (calls : List Call) → IsGlance first → AllByRecursion IsGlance calls → IsGlance (last_of first calls)
unfolding last_of
last_glance first [] is all = is
last_glance first (call ∷ calls) is all = last_glance call calls all.0 all.1

-- ---- a look at the end

found_some : (cuts : Cuts) (first : Option Seen) (path : PathV) (calls : List Call) → FindsAs cuts first path calls
    → (call : Call) × (more : List Call) × (calls ≡ call ∷ more)
found_some cuts None path calls found = (Looked path None, [], found)
found_some cuts (Some seen.Dir) path calls found = (Looked path (Some kind.Dir), [], found)
found_some cuts (Some (seen.File blocks size)) path calls found = (Looked path (Some kind.File), found.0, found.1)

ends_glance : (cuts : Cuts) (first : Option Seen) (path : PathV) (front : List Call) (call : Call) → EndsInLook cuts first path (front ++ call ∷ []) → IsGlance call
ends_glance cuts first path front call ends =
    let some = found_some cuts first path ends.look ends.found in
    let all : AllByRecursion IsGlance (some.0 ∷ some.1) =
    subst (λ (calls : List Call). AllByRecursion IsGlance calls) some.2 (finds_glances cuts first path ends.look ends.found) in
    let whole : front ++ call ∷ [] ≡ ends.earlier ++ some.0 ∷ some.1 = ends.ends ∙ ap (λ (calls : List Call). ends.earlier ++ calls) some.2 in
    let last : last_of some.0 some.1 ≡ call =
    sym (last_behind call ends.earlier some.0 some.1) ∙ sym (ap (λ (calls : List Call). last_of call calls) whole) ∙ last_single call front call in
    subst (λ (c : Call). IsGlance c) last (last_glance some.0 some.1 all.0 all.1)

-- ---- a touch

ready_glance : (cuts : Cuts) (scan : Scan) (front : List Call) (call touch : Call) → is_touch touch ≡ true → IsReady cuts scan (front ++ call ∷ []) touch → IsGlance call
ready_glance cuts scan front call (Looked path kind) is ready = absurd (true≢false (sym is))
ready_glance cuts scan front call (Opened path there) is ready = absurd (true≢false (sym is))
ready_glance cuts scan front call (Read path place bytes) is ready = absurd (true≢false (sym is))
ready_glance cuts scan front call (Compared path same) is ready = absurd (true≢false (sym is))
ready_glance cuts scan front call SpareCleared is ready = absurd (true≢false (sym is))
ready_glance cuts scan front call (SpareAdded count) is ready = absurd (true≢false (sym is))
ready_glance cuts scan front call SpareSynced is ready = absurd (true≢false (sym is))
ready_glance cuts scan front call (Moved path) is ready = ends_glance cuts (file_seen (fin.get scan.paths path)) path front call ready.0
ready_glance cuts scan front call (MadeDir path) is ready = ends_glance cuts None path front call ready
ready_glance cuts scan front call (Removed path) is ready = ends_glance cuts (fin.get scan.paths path) path front call ready

last_ready : (cuts : Cuts) (scan : Scan) (before calls later : List Call) (call touch : Call) → LooksBeforeEach cuts scan before (calls ++ call ∷ touch ∷ later)
    → (front : List Call) × IsReady cuts scan (front ++ call ∷ []) touch
last_ready cuts scan before [] later call touch looks = (before, looks.1.0)
last_ready cuts scan before (other ∷ calls) later call touch looks = last_ready cuts scan (before ++ other ∷ []) calls later call touch looks.1

pub glance_before : (cuts : Cuts) (scan : Scan) (calls later : List Call) (call touch : Call) → is_touch touch ≡ true
    → LooksBeforeEach cuts scan [] (calls ++ call ∷ touch ∷ later) → IsGlance call
glance_before cuts scan calls later call touch is looks =
    let ready = last_ready cuts scan [] calls later call touch looks in ready_glance cuts scan ready.0 call touch is ready.1

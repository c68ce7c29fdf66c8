-- What stands before each touch of a path. The key lemmas are touches_then, touches_none, touches_quiet, touches_glances, touches_removed,
-- touches_made and touches_moved.
use Rattle.std.proofs.Common.{◌≡◌, true≢false, true, false, List, [], ◌∷◌, ◌++◌, Option, None, Some, refl, sym, ap, subst, ◌∙◌, append_assoc, append-nil}
use Rattle.std.specs.FinMap as fin
use Rattle.std.specs.List.{AllByRecursion}
use Rattle.block_chunker.specs.declared.cuts.Cuts.{Cuts}
use Rattle.tree_model.specs.Path.{PathV}
use Rattle.folder_side.specs.Calls.{Call, Compared, Glances, Looked, MadeDir, Moved, Opened, Read, Removed, SpareAdded, SpareCleared, SpareSynced, is_touch, with_calls}
use Rattle.folder_side.specs.declared.scan_report.Scan.{Scan}
use Rattle.folder_side.specs.declared.scan_report.Seen.{Seen}
use Rattle.folder_side.specs.declared.scan_report.Seen.TheVariants as seen
use Rattle.folder_side.proofs.CallLemmas.{IsGlance, all_append, grown_more, reads_glances, with_none}
use Rattle.tree_checkout.specs.SecondLook.{file_seen}
use Rattle.tree_checkout.specs.Touches.{EndsInLook, Finds, FindsAs, IsReady, IsSynced, LooksBeforeEach, Touches, TouchesNone, is_of_spare}

-- ---- glances and quiet calls

abbrev pub IsQuiet : Call → Type 0
IsQuiet call = is_touch call ≡ false

all_map : (P Q : Call → Type 0) → ((call : Call) → P call → Q call) → (calls : List Call) → AllByRecursion P calls → AllByRecursion Q calls
all_map P Q f [] all = tt
all_map P Q f (call ∷ calls) all = (f call all.0, all_map P Q f calls all.1)

glance_quiet : (call : Call) → IsGlance call → IsQuiet call
glance_quiet (Looked path kind) is = refl
glance_quiet (Opened path there) is = refl
glance_quiet (Read path place bytes) is = refl
glance_quiet (Compared path same) is = refl
glance_quiet SpareCleared is = refl
glance_quiet (SpareAdded count) is = refl
glance_quiet SpareSynced is = refl
glance_quiet (Moved path) is = absurd (true≢false (sym is))
glance_quiet (MadeDir path) is = absurd (true≢false (sym is))
glance_quiet (Removed path) is = absurd (true≢false (sym is))

glance_leaves : (call : Call) → IsGlance call → is_of_spare call ≡ false
glance_leaves (Looked path kind) is = refl
glance_leaves (Opened path there) is = refl
glance_leaves (Read path place bytes) is = refl
glance_leaves (Compared path same) is = refl
glance_leaves SpareCleared is = absurd (true≢false (sym is))
glance_leaves (SpareAdded count) is = absurd (true≢false (sym is))
glance_leaves SpareSynced is = refl
glance_leaves (Moved path) is = absurd (true≢false (sym is))
glance_leaves (MadeDir path) is = refl
glance_leaves (Removed path) is = refl

pub finds_glances : (cuts : Cuts) (first : Option Seen) (path : PathV) (calls : List Call) → FindsAs cuts first path calls → AllByRecursion IsGlance calls
finds_glances cuts None path calls found = subst (λ (c : List Call). AllByRecursion IsGlance c) (sym found) (refl, tt)
finds_glances cuts (Some seen.Dir) path calls found = subst (λ (c : List Call). AllByRecursion IsGlance c) (sym found) (refl, tt)
finds_glances cuts (Some (seen.File blocks size)) path calls found =
    let same = found.2 in
    let reads : AllByRecursion IsGlance (same.reads ++ Compared path true ∷ []) =
    all_append IsGlance same.reads (Compared path true ∷ []) (reads_glances path 0 same.reads same.bytes same.whole) (refl, tt) in
    let rest : AllByRecursion IsGlance found.0 = subst (λ (c : List Call). AllByRecursion IsGlance c) (sym same.made) (refl, reads) in
    subst (λ (c : List Call). AllByRecursion IsGlance c) (sym found.1) (refl, rest)

-- ---- what is ready

ready_quiet : (cuts : Cuts) (scan : Scan) (before : List Call) (call : Call) → IsQuiet call → IsReady cuts scan before call
ready_quiet cuts scan before (Looked path kind) quiet = tt
ready_quiet cuts scan before (Opened path there) quiet = tt
ready_quiet cuts scan before (Read path place bytes) quiet = tt
ready_quiet cuts scan before (Compared path same) quiet = tt
ready_quiet cuts scan before SpareCleared quiet = tt
ready_quiet cuts scan before (SpareAdded count) quiet = tt
ready_quiet cuts scan before SpareSynced quiet = tt
ready_quiet cuts scan before (Moved path) quiet = absurd (true≢false quiet)
ready_quiet cuts scan before (MadeDir path) quiet = absurd (true≢false quiet)
ready_quiet cuts scan before (Removed path) quiet = absurd (true≢false quiet)

quiet_looks : (cuts : Cuts) (scan : Scan) (before more : List Call) → AllByRecursion IsQuiet more → LooksBeforeEach cuts scan before more
quiet_looks cuts scan before [] quiet = tt
quiet_looks cuts scan before (call ∷ more) quiet = (ready_quiet cuts scan before call quiet.0, quiet_looks cuts scan (before ++ call ∷ []) more quiet.1)

ends_behind : (cuts : Cuts) (first : Option Seen) (path : PathV) (front calls : List Call) → EndsInLook cuts first path calls → EndsInLook cuts first path (front ++ calls)
ends_behind cuts first path front calls ends = record {
  earlier = front ++ ends.earlier;
  look = ends.look;
  ends = ap (λ c. front ++ c) ends.ends ∙ sym (append_assoc front ends.earlier ends.look);
  found = ends.found;
}

synced_behind : (front calls : List Call) → IsSynced calls → IsSynced (front ++ calls)
synced_behind front calls synced = record {
  earlier = front ++ synced.earlier;
  later = synced.later;
  ends = ap (λ c. front ++ c) synced.ends ∙ sym (append_assoc front synced.earlier (SpareSynced ∷ synced.later));
  left = synced.left;
}

ready_behind : (cuts : Cuts) (scan : Scan) (front before : List Call) (call : Call) → IsReady cuts scan before call → IsReady cuts scan (front ++ before) call
ready_behind cuts scan front before (Looked path kind) ready = tt
ready_behind cuts scan front before (Opened path there) ready = tt
ready_behind cuts scan front before (Read path place bytes) ready = tt
ready_behind cuts scan front before (Compared path same) ready = tt
ready_behind cuts scan front before SpareCleared ready = tt
ready_behind cuts scan front before (SpareAdded count) ready = tt
ready_behind cuts scan front before SpareSynced ready = tt
ready_behind cuts scan front before (Moved path) ready =
    (ends_behind cuts (file_seen (fin.get scan.paths path)) path front before ready.0, synced_behind front before ready.1)
ready_behind cuts scan front before (MadeDir path) ready = ends_behind cuts None path front before ready
ready_behind cuts scan front before (Removed path) ready = ends_behind cuts (fin.get scan.paths path) path front before ready

looks_behind : (cuts : Cuts) (scan : Scan) (front before more : List Call) → LooksBeforeEach cuts scan before more → LooksBeforeEach cuts scan (front ++ before) more
looks_behind cuts scan front before [] looks = tt
looks_behind cuts scan front before (call ∷ more) looks = (
  ready_behind cuts scan front before call looks.0,
  subst (λ (c : List Call). LooksBeforeEach cuts scan c more) (sym (append_assoc front before (call ∷ [])))
      (looks_behind cuts scan front (before ++ call ∷ []) more looks.1),
)

looks_append : (cuts : Cuts) (scan : Scan) (before a b : List Call) → LooksBeforeEach cuts scan before a → LooksBeforeEach cuts scan (before ++ a) b
    → LooksBeforeEach cuts scan before (a ++ b)
looks_append cuts scan before [] b looks more = subst (λ (c : List Call). LooksBeforeEach cuts scan c b) (append-nil before) more
looks_append cuts scan before (call ∷ a) b looks more = (
  looks.0,
  looks_append cuts scan (before ++ call ∷ []) a b looks.1
      (subst (λ (c : List Call). LooksBeforeEach cuts scan c b) (sym (append_assoc before (call ∷ []) a)) more),
)

-- ---- touches after touches

pub touches_then : (cuts : Cuts) (scan : Scan) (old mid new : Option (List Call)) → Touches cuts scan old mid → Touches cuts scan mid new → Touches cuts scan old new
touches_then cuts scan old mid new first later = record {
  more = first.more ++ later.more;
  grown = grown_more old mid new first.more later.more first.grown later.grown;
  looks =
      looks_append cuts scan [] first.more later.more first.looks
      (subst (λ (c : List Call). LooksBeforeEach cuts scan c later.more) (append-nil first.more) (looks_behind cuts scan first.more [] later.more later.looks));
}

pub touches_none : (cuts : Cuts) (scan : Scan) (old new : Option (List Call)) → new ≡ old → Touches cuts scan old new
touches_none cuts scan old new same = record { more = []; grown = same ∙ with_none old; looks = tt }

pub touches_quiet : (cuts : Cuts) (scan : Scan) (old new : Option (List Call)) → TouchesNone old new → Touches cuts scan old new
touches_quiet cuts scan old new none = record { more = none.more; grown = none.grown; looks = quiet_looks cuts scan [] none.more none.quiet }

pub none_of_glances : (old new : Option (List Call)) → Glances old new → TouchesNone old new
none_of_glances old new glances = record { more = glances.more; grown = glances.grown; quiet = all_map IsGlance IsQuiet glance_quiet glances.more glances.glances }

pub touches_glances : (cuts : Cuts) (scan : Scan) (old new : Option (List Call)) → Glances old new → Touches cuts scan old new
touches_glances cuts scan old new glances = touches_quiet cuts scan old new (none_of_glances old new glances)

-- ---- calls that touch nothing

pub none_none : (old new : Option (List Call)) → new ≡ old → TouchesNone old new
none_none old new same = record { more = []; grown = same ∙ with_none old; quiet = tt }

pub none_no_call : (old new : Option (List Call)) → new ≡ with_calls old [] → TouchesNone old new
none_no_call old new same = record { more = []; grown = same; quiet = tt }

pub none_one : (call : Call) (old new : Option (List Call)) → IsQuiet call → new ≡ with_calls old (call ∷ []) → TouchesNone old new
none_one call old new quiet grown = record { more = call ∷ []; grown = grown; quiet = (quiet, tt) }

pub none_then : (old mid new : Option (List Call)) → TouchesNone old mid → TouchesNone mid new → TouchesNone old new
none_then old mid new first later = record {
  more = first.more ++ later.more;
  grown = grown_more old mid new first.more later.more first.grown later.grown;
  quiet = all_append IsQuiet first.more later.more first.quiet later.quiet;
}

-- ---- a touch behind a look

touch_last : (cuts : Cuts) (scan : Scan) (before : List Call) (call : Call) (old mid new : Option (List Call)) → AllByRecursion IsQuiet before → IsReady cuts scan before call
    → mid ≡ with_calls old before → new ≡ with_calls mid (call ∷ []) → Touches cuts scan old new
touch_last cuts scan before call old mid new quiet ready grown last = record {
  more = before ++ call ∷ [];
  grown = grown_more old mid new before (call ∷ []) grown last;
  looks = looks_append cuts scan [] before (call ∷ []) (quiet_looks cuts scan [] before quiet) (ready, tt);
}

finds_quiet : (cuts : Cuts) (first : Option Seen) (path : PathV) (calls : List Call) → FindsAs cuts first path calls → AllByRecursion IsQuiet calls
finds_quiet cuts first path calls found = all_map IsGlance IsQuiet glance_quiet calls (finds_glances cuts first path calls found)

pub touches_removed : (cuts : Cuts) (scan : Scan) (path : PathV) (first : Option Seen) (old mid new : Option (List Call)) → first ≡ fin.get scan.paths path
    → Finds cuts first path old mid → new ≡ with_calls mid (Removed path ∷ []) → Touches cuts scan old new
touches_removed cuts scan path first old mid new is finds last =
    touch_last cuts scan finds.look (Removed path) old mid new (finds_quiet cuts first path finds.look finds.found)
    (record { earlier = []; look = finds.look; ends = refl; found = subst (λ (f : Option Seen). FindsAs cuts f path finds.look) is finds.found }) finds.grown last

pub touches_made : (cuts : Cuts) (scan : Scan) (path : PathV) (first : Option Seen) (old mid new : Option (List Call)) → first ≡ None
    → Finds cuts first path old mid → new ≡ with_calls mid (MadeDir path ∷ []) → Touches cuts scan old new
touches_made cuts scan path first old mid new is finds last =
    touch_last cuts scan finds.look (MadeDir path) old mid new (finds_quiet cuts first path finds.look finds.found)
    (record { earlier = []; look = finds.look; ends = refl; found = subst (λ (f : Option Seen). FindsAs cuts f path finds.look) is finds.found }) finds.grown last

-- the spare was filled, synced, its path looked at, and then it was moved
pub touches_moved : (cuts : Cuts) (scan : Scan) (path : PathV) (first : Option Seen) (old filled synced mid new : Option (List Call)) → first ≡ file_seen (fin.get scan.paths path)
    → TouchesNone old filled → synced ≡ with_calls filled (SpareSynced ∷ []) → Finds cuts first path synced mid → new ≡ with_calls mid (Moved path ∷ []) → Touches cuts scan old new
touches_moved cuts scan path first old filled synced mid new is none sync finds last =
    let front = none.more ++ SpareSynced ∷ [] in
    touch_last cuts scan (front ++ finds.look) (Moved path) old mid new
    (all_append IsQuiet front finds.look (all_append IsQuiet none.more (SpareSynced ∷ []) none.quiet (refl, tt)) (finds_quiet cuts first path finds.look finds.found)) (
      record { earlier = front; look = finds.look; ends = refl; found = subst (λ (f : Option Seen). FindsAs cuts f path finds.look) is finds.found },
      record {
        earlier = none.more;
        later = finds.look;
        ends = append_assoc none.more (SpareSynced ∷ []) finds.look;
        left = all_map IsGlance (λ call. is_of_spare call ≡ false) glance_leaves finds.look (finds_glances cuts first path finds.look finds.found);
      },
    )
    (grown_more old synced mid front finds.look (grown_more old filled synced none.more (SpareSynced ∷ []) none.grown sync) finds.grown) last

-- A plan finds what was scanned, at each path in its turn. The key lemma is looks_scanned.
use Rattle.std.proofs.Common.{◌≡◌, ◌⊎◌, ℕ, ◌&&◌, ◌||◌, not, Bool, true, false, cond, if◌then◌else◌, List, [], ◌∷◌, ◌++◌, length, map, reverse, Option, None, Some, is_some, option_and_then, Less, refl, sym, ap, subst, ◌∙◌, inl, inr, append-nil}
use Rattle.std.specs.FinMap as fin
use Rattle.std.specs.List.{AllByRecursion, IsDistinct, cons_option, filter_map, flat_map, list_any}
use Rattle.std.specs.Ordering.{eq_by_cmp}
use Rattle.std.proofs.lemmas.Bool.{false≢true, true≢false}
use Rattle.std.proofs.lemmas.List.{map-append}
use Rattle.tree_model.specs.DirectorySurvival.{is_within}
use Rattle.tree_model.specs.Path.{PathV, path_cmp}
use Rattle.tree_model.proofs.BelowLemmas.{within_of}
use Rattle.tree_model.proofs.ListedLemmas.{same_path}
use Rattle.tree_model.proofs.MovingLemmas.{In, in_found}
use Rattle.block_chunker.specs.declared.cuts.Cuts.{Cuts}
use Rattle.folder_side.specs.Folder.{Contents, at, is_dir, is_other}
use Rattle.folder_side.specs.ScanReport.{IsScan, IsWithinLimits, block_names, seen_of}
use Rattle.folder_side.specs.FileRead.{ReadsFile}
use Rattle.folder_side.specs.declared.holding.Holding.{Holding}
use Rattle.folder_side.specs.declared.holding.Holding.TheVariants.{Dir, File, Other}
use Rattle.folder_side.specs.declared.scan_report.Scan.{Scan}
use Rattle.folder_side.specs.declared.scan_report.Seen.{Seen}
use Rattle.folder_side.specs.declared.scan_report.Seen.TheVariants as seen
use Rattle.folder_side.proofs.SortedEntryLemmas.{IsBefore, Rises, Rises-entries, found_of, less_apart}
use Rattle.local_index.specs.declared.index.Index.{Index}
use Rattle.local_index.specs.declared.index.Known.{Known}
use Rattle.object_graph.specs.declared.entry.Entry.{Entry}
use Rattle.object_graph.specs.declared.entry.Entry.TheVariants as entry
use Rattle.sync_rules.specs.Checkout.{Step, run}
use Rattle.sync_rules.proofs.PlanLemmas.{removed_at}
use Rattle.tree_checkout.specs.Planning.{LooksScanned, LooksUndone, blocks_in, doomed_path, dooms, due_of, dues_at, first_blocked_in, hides_in, is_alone_in, is_dir_seen, is_file_entry, is_stuck_in}
use Rattle.tree_checkout.specs.SecondLook.{LooksAs, LooksFirst, file_seen}
use Rattle.tree_checkout.specs.declared.planning.Due.{Due}
use Rattle.tree_checkout.specs.declared.planning.DueNode.TheVariants as due
use Rattle.tree_checkout.specs.declared.planning.Plan.{Plan}
use Rattle.tree_checkout.proofs.PlanningLemmas.{Climbs, all_reversed, dir_seen, distinct_reversed, doomed_told, dooms_by, skipped_any, taken, taken_climbs}

-- ---- what stands there as it was seen

seen_looks : (cuts : Cuts) (h : Option Holding) (s : Option Seen) → s ≡ option_and_then (seen_of cuts) h → is_some s ≡ true
    → ((bytes : List ℕ) → h ≡ Some (File bytes) → ReadsFile cuts bytes (record { blocks = block_names cuts bytes; size = length bytes })) → LooksAs cuts h s
seen_looks cuts None s is some short = absurd (false≢true (sym (ap is_some is) ∙ some))
seen_looks cuts (Some Dir) s is some short = subst (LooksAs cuts (Some Dir)) (sym is) tt
seen_looks cuts (Some (File bytes)) s is some short =
    subst (LooksAs cuts (Some (File bytes))) (sym is) (short bytes refl)
seen_looks cuts (Some Other) s is some short = absurd (false≢true (sym (ap is_some is) ∙ some))

-- ---- of each that is taken

all_taken : {X : Type 0} (test : PathV → X → Bool) (P : PathV → Type 0) (es : List (PathV × X)) → ((e : PathV × X) → In e es → P e.0) → AllByRecursion P (filter_map (taken test) es)
all_taken test P [] each = tt
all_taken test P (e ∷ es) each = by (test e.0 e.1) (all_taken test P es (λ f there. each f (inr there)))
  where
    by : (b : Bool) → AllByRecursion P (filter_map (taken test) es) → AllByRecursion P (cons_option (if b then Some e.0 else None) (filter_map (taken test) es))
    by true more = (each e (inl refl), more)
    by false more = more

all_flat : {X Y : Type 0} (f : X → List Y) (P : Y → Type 0) (es : List X) → ((e : X) → In e es → AllByRecursion P (f e)) → AllByRecursion P (flat_map f es)
all_flat f P [] each = tt
all_flat {Y = Y} f P (e ∷ es) each = both (f e) (each e (inl refl)) (all_flat f P es (λ g there. each g (inr there)))
  where
    both : (xs : List Y) → AllByRecursion P xs → AllByRecursion P (flat_map f es) → AllByRecursion P (xs ++ flat_map f es)
    both [] mine others = others
    both (x ∷ xs) mine others = (mine.0, both xs mine.1 others)

-- ---- the paths of what is due

abbrev due_path : Due → PathV
due_path d = d.path

-- at a path one thing is due, or none
abbrev file_due : PathV → List ℕ → Bool → List Due
file_due path id alone = if alone then [] else record { path = path; node = due.File id } ∷ []

file_paths : (path : PathV) (id : List ℕ) (alone : Bool) → (file_due path id alone ≡ []) ⊎ (map due_path (file_due path id alone) ≡ path ∷ [])
file_paths path id true = inl refl
file_paths path id false = inr refl

due_paths : (s : Option Seen) (was : Option Known) (pushed : Bool) (path : PathV) (e : Entry)
    → (due_of s was pushed path e ≡ []) ⊎ (map due_path (due_of s was pushed path e) ≡ path ∷ [])
due_paths None was pushed path entry.Dir = inr refl
due_paths (Some seen.Dir) was pushed path entry.Dir = inl refl
due_paths (Some (seen.File blocks size)) was pushed path entry.Dir = inr refl
due_paths s was pushed path (entry.File id mode mtime modifier size) = file_paths path id (is_alone_in s was id pushed)

module _ (scan : Scan) (index : Index) (pushed : Bool) where
  dues_behind : (q : PathV) (es : List (PathV × Entry)) → IsBefore q es → AllByRecursion (λ p. path_cmp q p ≡ Less) (map due_path (flat_map (dues_at scan index pushed) es))
  dues_behind q [] before = tt
  dues_behind q (e ∷ es) before =
      by (due_paths (fin.get scan.paths e.0) (fin.get index.entries e.0) pushed e.0 e.1) (dues_behind q es before.1)
    where
      by : (dues_at scan index pushed e ≡ []) ⊎ (map due_path (dues_at scan index pushed e) ≡ e.0 ∷ [])
          → AllByRecursion (λ p. path_cmp q p ≡ Less) (map due_path (flat_map (dues_at scan index pushed) es))
          → AllByRecursion (λ p. path_cmp q p ≡ Less) (map due_path (dues_at scan index pushed e ++ flat_map (dues_at scan index pushed) es))
      by (inl none) more = subst (λ (ds : List Due). AllByRecursion (λ p. path_cmp q p ≡ Less) (map due_path (ds ++ flat_map (dues_at scan index pushed) es))) (sym none) more
      by (inr one) more =
          subst (AllByRecursion (λ p. path_cmp q p ≡ Less))
          (sym (map-append due_path (dues_at scan index pushed e) (flat_map (dues_at scan index pushed) es)
          ∙ ap (λ ps. ps ++ map due_path (flat_map (dues_at scan index pushed) es)) one))
          (before.0, more)

  dues_climb : (es : List (PathV × Entry)) → Rises es → Climbs (map due_path (flat_map (dues_at scan index pushed) es))
  dues_climb [] rises = tt
  dues_climb (e ∷ es) rises = by (due_paths (fin.get scan.paths e.0) (fin.get index.entries e.0) pushed e.0 e.1) (dues_climb es rises.1)
    where
      by : (dues_at scan index pushed e ≡ []) ⊎ (map due_path (dues_at scan index pushed e) ≡ e.0 ∷ []) → Climbs (map due_path (flat_map (dues_at scan index pushed) es))
          → Climbs (map due_path (dues_at scan index pushed e ++ flat_map (dues_at scan index pushed) es))
      by (inl none) more = subst (λ (ds : List Due). Climbs (map due_path (ds ++ flat_map (dues_at scan index pushed) es))) (sym none) more
      by (inr one) more =
          subst Climbs
          (sym (map-append due_path (dues_at scan index pushed e) (flat_map (dues_at scan index pushed) es)
          ∙ ap (λ ps. ps ++ map due_path (flat_map (dues_at scan index pushed) es)) one))
          (dues_behind e.0 es rises.0, more)

distinct_climbs : (ps : List PathV) → Climbs ps → IsDistinct (eq_by_cmp path_cmp) ps
unfolding IsDistinct
distinct_climbs [] climbs = tt
distinct_climbs (p ∷ ps) climbs = (apart ps climbs.0, distinct_climbs ps climbs.1)
  where
    apart : (qs : List PathV) → AllByRecursion (λ q. path_cmp p q ≡ Less) qs → AllByRecursion (λ q. same_path p q ≡ false) qs
    apart [] all = tt
    apart (q ∷ qs) all = (less_apart p q all.0, apart qs all.1)

-- ---- nothing is in the way

pub both_false : (a b : Bool) → (a || b) ≡ false → (a ≡ false) × (b ≡ false)
both_false true b e = absurd (true≢false e)
both_false false b e = (refl, e)

unblocked : (scan : Scan) (es : List (PathV × Entry)) → first_blocked_in scan es ≡ None → (e : PathV × Entry) → In e es → blocks_in scan e.0 e.1 ≡ false
unblocked scan [] none e there = absurd there
unblocked scan (f ∷ es) none e there = by (blocks_in scan f.0 f.1) refl none there (λ rest here. unblocked scan es rest e here)
  where
    by : (b : Bool) → blocks_in scan f.0 f.1 ≡ b → (if b then Some f.0 else first_blocked_in scan es) ≡ None → In e (f ∷ es)
        → (first_blocked_in scan es ≡ None → In e es → blocks_in scan e.0 e.1 ≡ false) → blocks_in scan e.0 e.1 ≡ false
    by true is some here more = cc
    by false is none (inl same) more = ap (λ (g : PathV × Entry). blocks_in scan g.0 g.1) same ∙ is
    by false is none (inr there) more = more none there

any_in : {X : Type 0} (p : X → Bool) (xs : List X) (x : X) → In x xs → p x ≡ true → list_any p xs ≡ true
any_in p [] x there is = absurd there
any_in p (y ∷ xs) x (inl same) is = ap (λ (b : Bool). b || list_any p xs) (ap p (sym same) ∙ is)
any_in p (y ∷ xs) x (inr there) is = or_true (p y) (list_any p xs) (any_in p xs x there is)
  where
    or_true : (a b : Bool) → b ≡ true → (a || b) ≡ true
    or_true true b e = refl
    or_true false b e = e

module _ (cuts : Cuts) (c : Contents) (scan : Scan) (is_scan : IsScan cuts c scan) (limits : IsWithinLimits c) where
  short_at : (path : PathV) (bytes : List ℕ) → at c path ≡ Some (File bytes) → ReadsFile cuts bytes (record { blocks = block_names cuts bytes; size = length bytes })
  short_at path bytes is = record { blocks = refl; size = refl; small = limits.big path bytes is }

  not_other : (path : PathV) (e : Entry) → blocks_in scan path e ≡ false → at c path ≡ Some Other → ⊥
  not_other path e free is =
      let skipped : list_any (λ other. is_within other path) scan.skipped ≡ false = (both_false (is_file_entry e && is_stuck_in scan path) (list_any (λ other. is_within other path) scan.skipped) free).1 in
      let here : list_any (λ (held : PathV × Holding). is_other held.1 && is_within held.0 path) (fin.entries c.paths) ≡ true =
      any_in (λ (held : PathV × Holding). is_other held.1 && is_within held.0 path) (fin.entries c.paths) (path, Other)
      (in_found (fin.entries c.paths) path Other (sym (fin.get-entries c.paths path) ∙ is))
      (subst (λ (p : PathV). is_within path p ≡ true) (append-nil path) (within_of path [])) in
      true≢false (sym here ∙ sym (skipped_any (λ other. is_within other path) (fin.entries c.paths)) ∙ ap (list_any (λ other. is_within other path)) (sym is_scan.skipped) ∙ skipped)

  -- what is due at a path finds there what it is to find
  module _ (after : Contents) (path : PathV) (was : Option Known) (pushed : Bool) where
    due_looks : (h : Option Holding) (e : Entry) → at c path ≡ h
        → at after path ≡ cond (dooms_by (Some e) (hides_in scan path) (option_and_then (seen_of cuts) h)) None h
        → (h ≡ Some Other → ⊥) → (is_file_entry e && (is_dir h && hides_in scan path)) ≡ false
        → AllByRecursion (LooksUndone cuts after scan) (due_of (option_and_then (seen_of cuts) h) was pushed path e)
    due_looks None entry.Dir is now other stuck = (subst (λ (o : Option Holding). LooksAs cuts o None) (sym now) tt, tt)
    due_looks (Some Dir) entry.Dir is now other stuck = tt
    due_looks (Some (File bytes)) entry.Dir is now other stuck = (subst (λ (o : Option Holding). LooksAs cuts o None) (sym now) tt, tt)
    due_looks None (entry.File id mode mtime modifier size) is now other stuck = (
      subst (λ (o : Option Holding). LooksAs cuts o (file_seen (fin.get scan.paths path))) (sym now)
          (subst (λ (s : Option Seen). LooksAs cuts None (file_seen s)) (sym (is_scan.paths path ∙ ap (option_and_then (seen_of cuts)) is)) tt),
      tt,
    )
    due_looks (Some Dir) (entry.File id mode mtime modifier size) is now other stuck = (
      subst (λ (o : Option Holding). LooksAs cuts o (file_seen (fin.get scan.paths path))) (sym (now ∙ ap (λ (b : Bool). cond (not b) None (Some Dir)) stuck))
          (subst (λ (s : Option Seen). LooksAs cuts None (file_seen s)) (sym (is_scan.paths path ∙ ap (option_and_then (seen_of cuts)) is)) tt),
      tt,
    )
    due_looks (Some (File bytes)) (entry.File id mode mtime modifier size) is now other stuck =
        by (is_alone_in (option_and_then (seen_of cuts) (Some (File bytes))) was id pushed)
      where
        here : LooksAs cuts (at after path) (file_seen (fin.get scan.paths path))
        here =
            subst (λ (o : Option Holding). LooksAs cuts o (file_seen (fin.get scan.paths path))) (sym now)
            (subst (λ (s : Option Seen). LooksAs cuts (Some (File bytes)) (file_seen s)) (sym (is_scan.paths path ∙ ap (option_and_then (seen_of cuts)) is))
            (short_at path bytes is))

        by : (b : Bool) → AllByRecursion (LooksUndone cuts after scan) (file_due path id b)
        by true = tt
        by false = (here, tt)
    due_looks (Some Other) e is now other stuck = absurd (other refl)

  pub looks_scanned : (index : Index) (entries : fin.FinMap path_cmp Entry) (pushed : Bool) (plan : Plan) → first_blocked_in scan (fin.entries entries) ≡ None
      → plan.doomed ≡ reverse (filter_map (doomed_path scan entries) (fin.entries scan.paths)) → plan.writes ≡ flat_map (dues_at scan index pushed) (fin.entries entries)
      → LooksScanned cuts c scan plan
  looks_scanned index entries pushed plan none doomed writes =
      let climbs : Climbs (filter_map (doomed_path scan entries) (fin.entries scan.paths)) = taken_climbs (dooms scan entries) (fin.entries scan.paths) (Rises-entries scan.paths) in
      record {
        gone_once = subst (IsDistinct (eq_by_cmp path_cmp)) (sym doomed) (distinct_reversed _ climbs);
        gone =
            subst (AllByRecursion (LooksFirst cuts c scan)) (sym doomed)
            (all_reversed (LooksFirst cuts c scan) (filter_map (doomed_path scan entries) (fin.entries scan.paths))
            (all_taken (dooms scan entries) (LooksFirst cuts c scan) (fin.entries scan.paths)
            (λ e there.
            let found = fin.get-entries scan.paths e.0 ∙ found_of (fin.entries scan.paths) e (Rises-entries scan.paths) there in
            seen_looks cuts (at c e.0) (fin.get scan.paths e.0) (is_scan.paths e.0) (ap is_some found) (short_at e.0))));
        due_once =
            subst (λ (ds : List Due). IsDistinct (eq_by_cmp path_cmp) (map due_path ds)) (sym writes)
            (distinct_climbs _ (dues_climb scan index pushed (fin.entries entries) (Rises-entries entries)));
        due =
            subst (AllByRecursion (LooksUndone cuts (run (map Step.Removed plan.doomed) c) scan)) (sym writes)
            (all_flat (dues_at scan index pushed) (LooksUndone cuts (run (map Step.Removed plan.doomed) c) scan) (fin.entries entries) (λ e there. at_entry e there));
      }
    where
      at_entry : (e : PathV × Entry) → In e (fin.entries entries)
          → AllByRecursion (LooksUndone cuts (run (map Step.Removed plan.doomed) c) scan) (dues_at scan index pushed e)
      at_entry e there =
          let free = unblocked scan (fin.entries entries) none e there in
          let found : fin.get entries e.0 ≡ Some e.1 = fin.get-entries entries e.0 ∙ found_of (fin.entries entries) e (Rises-entries entries) there in
          let now : at (run (map Step.Removed plan.doomed) c) e.0 ≡ cond (dooms_by (Some e.1) (hides_in scan e.0) (option_and_then (seen_of cuts) (at c e.0))) None (at c e.0) =
          removed_at plan.doomed c e.0 ∙ ap (λ (b : Bool). cond b None (at c e.0)) (doomed_told cuts c scan is_scan entries plan doomed e.0)
          ∙ ap (λ (o : Option Entry). cond (dooms_by o (hides_in scan e.0) (option_and_then (seen_of cuts) (at c e.0))) None (at c e.0)) found in
          let stuck : (is_file_entry e.1 && (is_dir (at c e.0) && hides_in scan e.0)) ≡ false =
          ap (λ (b : Bool). is_file_entry e.1 && (b && hides_in scan e.0)) (sym (ap is_dir_seen (is_scan.paths e.0) ∙ dir_seen cuts (at c e.0)))
          ∙ (both_false (is_file_entry e.1 && is_stuck_in scan e.0) (list_any (λ other. is_within other e.0) scan.skipped) free).0 in
          subst (λ (s : Option Seen). AllByRecursion (LooksUndone cuts (run (map Step.Removed plan.doomed) c) scan) (due_of s (fin.get index.entries e.0) pushed e.0 e.1))
          (sym (is_scan.paths e.0))
          (due_looks (run (map Step.Removed plan.doomed) c) e.0 (fin.get index.entries e.0) pushed (at c e.0) e.1 refl now (not_other e.0 e.1 free) stuck)

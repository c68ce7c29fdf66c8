-- A plan over the report of a scan is a plan of the folder. The key lemmas are blocked_told,
-- plan_told and doomed_told.
use Rattle.std.proofs.Common.{◌≡◌, ℕ, ◌&&◌, ◌||◌, not, Bool, true, false, cond, if◌then◌else◌, List, [], ◌∷◌, ◌++◌, map, reverse, Option, None, Some, option_map, option_and_then, Ordering, Less, refl, sym, ap, ap₂, subst, ◌∙◌, inl, inr}
use Rattle.std.specs.FinMap as fin
use Rattle.std.specs.FinMap.Entries.{below_all}
use Rattle.std.specs.Cmp.Lexicographic.{slice_cmp, nat_list_cmp_total}
use Rattle.std.specs.List.{AllByRecursion, IsDistinct, cons_option, filter_map, flat_map, list_any}
use Rattle.std.specs.Ordering.{eq_by_cmp, is_lt, nat_cmp, ordering_then, ordering_reverse}
use Rattle.std.specs.Cmp.{nat_cmp_total, tied_itself}
use Rattle.std.proofs.Math.Dec.{T}
use Rattle.std.proofs.lemmas.Bool.{true≢false}
use Rattle.std.proofs.lemmas.Grind.{reverse_onto}
use Rattle.std.proofs.lemmas.List.{map-append}
use Rattle.std.proofs.lemmas.List.Elements.{All-append, All-cons, All-nil}
use Rattle.ids.proofs.BasicLemmas.{AllByRecursion-push}
use Rattle.ids.specs.Key.{Objects}
use Rattle.tree_model.specs.DirectorySurvival.{is_under, is_within}
use Rattle.tree_model.specs.Path.{PathV, path_cmp, slashed}
use Rattle.tree_model.specs.PathOrder.{paths_exact, paths_total}
use Rattle.tree_model.specs.Tree.{Tree}
use Rattle.tree_model.specs.declared.node.Node.{Node}
use Rattle.tree_model.proofs.BelowLemmas.{under_is}
use Rattle.tree_model.proofs.ListedLemmas.{any_append, same_path, same_path-itself, same_path-true}
use Rattle.tree_model.proofs.MovingLemmas.{In}
use Rattle.block_chunker.specs.declared.cuts.Cuts.{Cuts}
use Rattle.folder_side.specs.Folder.{Contents, at, is_dir, is_other}
use Rattle.folder_side.specs.ScanReport.{IsScan, seen_of, skipped_path}
use Rattle.folder_side.specs.WorkingTree.{is_stuck}
use Rattle.folder_side.specs.declared.holding.Holding.{Holding}
use Rattle.folder_side.specs.declared.holding.Holding.TheVariants.{Dir, File, Other}
use Rattle.folder_side.specs.declared.scan_report.Scan.{Scan}
use Rattle.folder_side.specs.declared.scan_report.Seen.{Seen}
use Rattle.folder_side.proofs.SortedEntryLemmas.{IsBefore, Rises, Rises-entries, find_first, found_of, less_apart_back, missed, skip_first}
use Rattle.folder_side.proofs.VisibleTreeLemmas.{stuck-told}
use Rattle.local_index.specs.declared.index.Index.{Index}
use Rattle.local_index.specs.declared.index.Known.{Known}
use Rattle.object_graph.specs.Objects.{contents_of, node_of}
use Rattle.object_graph.specs.declared.entry.Entry.{Entry}
use Rattle.object_graph.specs.declared.entry.Entry.TheVariants as entry
use Rattle.sync_rules.specs.Checkout.{IsDeepestFirst, IsPlan, Step, first_blocked, is_alone, is_blocked, is_doomed, is_file, is_kept_apart, is_one_of, keeps, write_at, writes_of}
use Rattle.tree_checkout.specs.Planning.{AreAlike, StandsFor, alone_at, blocks_in, doomed_path, dooms, due_of, due_step, dues_at, first_blocked_in, hides_in, is_dir_seen, is_file_entry, is_stuck_in, keeps_in, plan_steps}
use Rattle.tree_checkout.specs.SecondLook.{is_dir_of}
use Rattle.tree_checkout.specs.declared.planning.DueNode.TheVariants as due
use Rattle.tree_checkout.specs.declared.planning.Plan.{Plan}

-- ---- the entries of a tree

abbrev pub with_node : Objects → PathV × Entry → PathV × Node
with_node objects e = (e.0, node_of objects e.1)

below_nodes : (objects : Objects) (q : PathV) (es : List (PathV × Entry)) → below_all path_cmp q (map (with_node objects) es) ≡ below_all path_cmp q es
below_nodes objects q [] = refl
below_nodes objects q (e ∷ es) = ap (λ (b : Bool). is_lt (path_cmp q e.0) && b) (below_nodes objects q es)

sorted_nodes : (objects : Objects) (es : List (PathV × Entry)) → fin.is_sorted path_cmp (map (with_node objects) es) ≡ fin.is_sorted path_cmp es
sorted_nodes objects [] = refl
sorted_nodes objects (e ∷ es) = ap₂ (λ (a b : Bool). a && b) (below_nodes objects e.0 es) (sorted_nodes objects es)

find_node : (objects : Objects) (q : PathV) (es : List (PathV × Entry)) → fin.find path_cmp q (map (with_node objects) es) ≡ option_map (node_of objects) (fin.find path_cmp q es)
find_node objects q [] = refl
find_node objects q (e ∷ es) = by (same_path q e.0) (find_node objects q es)
  where
    by : (b : Bool) → fin.find path_cmp q (map (with_node objects) es) ≡ option_map (node_of objects) (fin.find path_cmp q es)
        → cond b (Some (node_of objects e.1)) (fin.find path_cmp q (map (with_node objects) es)) ≡ option_map (node_of objects) (cond b (Some e.1) (fin.find path_cmp q es))
    by true more = refl
    by false more = more

pub tree_entries : (objects : Objects) (entries : fin.FinMap path_cmp Entry) (tree : Tree) → StandsFor objects entries tree
    → fin.entries tree ≡ map (with_node objects) (fin.entries entries)
tree_entries objects entries tree stands =
    let nodes = map (with_node objects) (fin.entries entries) in
    let sorted : T (fin.is_sorted path_cmp nodes) = subst T (sym (sorted_nodes objects (fin.entries entries))) (fin.entries_sorted entries) in
    ap fin.entries
    (fin.same_map paths_total paths_exact tree (fin.from_sorted nodes)
    (λ q. stands q ∙ ap (option_map (node_of objects)) (fin.get-entries entries q) ∙ sym (find_node objects q (fin.entries entries)) ∙ sym (fin.get-from_sorted path_cmp nodes q sorted)))
    ∙ fin.entries-from_sorted path_cmp nodes sorted

-- ---- over the report of a scan

pub skipped_any : (p : PathV → Bool) (es : List (PathV × Holding)) → list_any p (filter_map skipped_path es) ≡ list_any (λ e. is_other e.1 && p e.0) es
skipped_any p [] = refl
skipped_any p (e ∷ es) = by (is_other e.1) (skipped_any p es)
  where
    by : (b : Bool) → list_any p (filter_map skipped_path es) ≡ list_any (λ f. is_other f.1 && p f.0) es
        → list_any p (cons_option (if b then Some e.0 else None) (filter_map skipped_path es)) ≡ ((b && p e.0) || list_any (λ f. is_other f.1 && p f.0) es)
    by true more = ap (λ (b : Bool). p e.0 || b) more
    by false more = more

pub dir_seen : (cuts : Cuts) (h : Option Holding) → is_dir_seen (option_and_then (seen_of cuts) h) ≡ is_dir h
dir_seen cuts None = refl
dir_seen cuts (Some Dir) = refl
dir_seen cuts (Some (File bytes)) = refl
dir_seen cuts (Some Other) = refl

file_node : (objects : Objects) (e : Entry) → is_file_entry e ≡ is_file (node_of objects e)
file_node objects entry.Dir = refl
file_node objects (entry.File id mode mtime modifier size) = refl

module _ (cuts : Cuts) (c : Contents) (scan : Scan) (is_scan : IsScan cuts c scan) where
  pub stuck_in : (path : PathV) → is_stuck_in scan path ≡ is_stuck c path
  stuck_in path =
      ap (λ (o : Option Seen). is_dir_seen o && hides_in scan path) (is_scan.paths path)
      ∙ ap (λ (b : Bool). b && hides_in scan path) (dir_seen cuts (at c path)) ∙ sym (stuck-told cuts c scan is_scan path)

  blocked_in : (objects : Objects) (path : PathV) (e : Entry) → blocks_in scan path e ≡ is_blocked c (path, node_of objects e)
  blocked_in objects path e =
      ap₂ (λ (a b : Bool). (a && b) || list_any (λ other. is_within other path) scan.skipped) (file_node objects e) (stuck_in path)
      ∙ ap (λ (b : Bool). (is_file (node_of objects e) && is_stuck c path) || b)
      (ap (list_any (λ other. is_within other path)) is_scan.skipped ∙ skipped_any (λ other. is_within other path) (fin.entries c.paths))

  first_in : (objects : Objects) (es : List (PathV × Entry)) → first_blocked_in scan es ≡ first_blocked c (map (with_node objects) es)
  first_in objects [] = refl
  first_in objects (e ∷ es) =
      ap₂ (λ (b : Bool) (o : Option PathV). if b then Some e.0 else o) (blocked_in objects e.0 e.1) (first_in objects es)

  pub blocked_told : (objects : Objects) (entries : fin.FinMap path_cmp Entry) (tree : Tree) → StandsFor objects entries tree
      → first_blocked_in scan (fin.entries entries) ≡ first_blocked c (fin.entries tree)
  blocked_told objects entries tree stands =
      first_in objects (fin.entries entries) ∙ ap (first_blocked c) (sym (tree_entries objects entries tree stands))

-- ---- what is doomed

module _ {X : Type 0} (test : PathV → X → Bool) where
  abbrev pub taken : PathV × X → Option PathV
  taken e = if test e.0 e.1 then Some e.0 else None

  abbrev passes_at : PathV → Option X → Bool
  passes_at q None = false
  passes_at q (Some x) = test q x

  -- a path is among those that pass exactly where it has an entry that does
  taken_told : (es : List (PathV × X)) → Rises es → (q : PathV) → is_one_of (filter_map taken es) q ≡ passes_at q (fin.find path_cmp q es)
  taken_told [] rises q = refl
  taken_told (e ∷ es) rises q = by (same_path q e.0) refl (taken_told es rises.1 q)
    where
      here : q ≡ e.0 → (b : Bool) → test e.0 e.1 ≡ b → is_one_of (filter_map taken es) q ≡ passes_at q (fin.find path_cmp q es)
          → is_one_of (cons_option (if b then Some e.0 else None) (filter_map taken es)) q ≡ b
      here same true is more = ap (λ (b : Bool). b || is_one_of (filter_map taken es) q) (ap (λ (p : PathV). same_path p e.0) same ∙ same_path-itself e.0)
      here same false is more =
          more ∙ ap (λ (p : PathV). passes_at q (fin.find path_cmp p es)) same ∙ ap (passes_at q) (missed e.0 es rises.0)

      elsewhere : same_path q e.0 ≡ false → (b : Bool) → is_one_of (cons_option (if b then Some e.0 else None) (filter_map taken es)) q ≡ is_one_of (filter_map taken es) q
      elsewhere other true = ap (λ (b : Bool). b || is_one_of (filter_map taken es) q) other
      elsewhere other false = refl

      by : (b : Bool) → same_path q e.0 ≡ b → is_one_of (filter_map taken es) q ≡ passes_at q (fin.find path_cmp q es)
          → is_one_of (filter_map taken (e ∷ es)) q ≡ passes_at q (fin.find path_cmp q (e ∷ es))
      by true is more =
          let same : q ≡ e.0 = same_path-true q e.0 is in
          here same (test e.0 e.1) refl more ∙ ap (λ (p : PathV). test p e.1) (sym same)
          ∙ sym (ap (passes_at q) (ap (λ (p : PathV). fin.find path_cmp p (e ∷ es)) same ∙ find_first e es))
      by false is more =
          elsewhere is (test e.0 e.1) ∙ more ∙ ap (passes_at q) (sym (skip_first q e es is))

  -- they stand in the order of the entries
  taken_behind : (q : PathV) (es : List (PathV × X)) → IsBefore q es → AllByRecursion (λ p. path_cmp q p ≡ Less) (filter_map taken es)
  taken_behind q [] before = tt
  taken_behind q (e ∷ es) before = by (test e.0 e.1) (taken_behind q es before.1)
    where
      by : (b : Bool) → AllByRecursion (λ p. path_cmp q p ≡ Less) (filter_map taken es)
          → AllByRecursion (λ p. path_cmp q p ≡ Less) (cons_option (if b then Some e.0 else None) (filter_map taken es))
      by true more = (before.0, more)
      by false more = more

-- each path stands before those behind it
abbrev pub Climbs : List PathV → Type 0
Climbs [] = Unit {0}
Climbs (p ∷ ps) = AllByRecursion (λ q. path_cmp p q ≡ Less) ps × Climbs ps

pub taken_climbs : {X : Type 0} (test : PathV → X → Bool) (es : List (PathV × X)) → Rises es → Climbs (filter_map (taken test) es)
taken_climbs test [] rises = tt
taken_climbs test (e ∷ es) rises = by (test e.0 e.1) (taken_climbs test es rises.1)
  where
    by : (b : Bool) → Climbs (filter_map (taken test) es) → Climbs (cons_option (if b then Some e.0 else None) (filter_map (taken test) es))
    by true more = (taken_behind test e.0 es rises.0, more)
    by false more = more

-- ---- the other way round

reversed : (p : PathV) (ps : List PathV) → reverse (p ∷ ps) ≡ reverse ps ++ p ∷ []
reversed p ps = reverse_onto ps p []

one_of_reversed : (ps : List PathV) (q : PathV) → is_one_of (reverse ps) q ≡ is_one_of ps q
one_of_reversed [] q = refl
one_of_reversed (p ∷ ps) q =
    ap (λ (all : List PathV). is_one_of all q) (reversed p ps) ∙ any_append (same_path q) (reverse ps) (p ∷ [])
    ∙ turned_or (is_one_of (reverse ps) q) (is_one_of ps q) (same_path q p) (one_of_reversed ps q)
  where
    turned_or : (a b here : Bool) → a ≡ b → (a || (here || false)) ≡ (here || b)
    turned_or a true true same = ap (λ (x : Bool). x || true) same
    turned_or a true false same = ap (λ (x : Bool). x || false) same
    turned_or a false true same = ap (λ (x : Bool). x || true) same
    turned_or a false false same = ap (λ (x : Bool). x || false) same

pub all_reversed : (P : PathV → Type 0) (ps : List PathV) → AllByRecursion P ps → AllByRecursion P (reverse ps)
all_reversed P [] all = tt
all_reversed P (p ∷ ps) all = subst (AllByRecursion P) (sym (reversed p ps)) (AllByRecursion-push P (reverse ps) p (all_reversed P ps all.1) all.0)

-- what lies under a directory stands behind it
prefix_less : (n : List ℕ) (b : ℕ) → slice_cmp nat_cmp (n ++ []) (n ++ b ∷ []) ≡ Less
prefix_less [] b = refl
prefix_less (m ∷ n) b = ap (λ (r : Ordering). ordering_then r (slice_cmp nat_cmp (n ++ []) (n ++ b ∷ []))) (tied_itself nat_cmp_total m) ∙ prefix_less n b

above_less : (dir : PathV) (name : List ℕ) (rest : PathV) → path_cmp dir (dir ++ name ∷ rest) ≡ Less
above_less [] name rest = refl
above_less (n ∷ []) name rest = ap (λ (r : Ordering). ordering_then r (path_cmp [] (name ∷ rest))) (prefix_less n 47)
above_less (n ∷ m ∷ dir) name rest =
    ap (λ (r : Ordering). ordering_then r (path_cmp (m ∷ dir) ((m ∷ dir) ++ name ∷ rest))) (tied_itself nat_list_cmp_total (slashed n true))
    ∙ above_less (m ∷ dir) name rest

not_under : (first later : PathV) → path_cmp first later ≡ Less → is_under later first ≡ false
not_under first later less = by (is_under later first) refl
  where
    by : (b : Bool) → is_under later first ≡ b → is_under later first ≡ false
    by false is = is
    by true is =
        let below = under_is later first is in
        let behind : path_cmp later first ≡ Less = ap (path_cmp later) below.is ∙ above_less later below.name below.rest in
        let turned : Less ≡ ordering_reverse Less = sym behind ∙ paths_total.antisymm later first ∙ ap ordering_reverse less in
        absurd (true≢false (ap is_lt turned))

deepest_push : (ps : List PathV) (p : PathV) → AllByRecursion (λ q. path_cmp p q ≡ Less) ps → IsDeepestFirst ps → IsDeepestFirst (ps ++ p ∷ [])
deepest_push [] p behind deepest = (All-nil (λ later. is_under p later ≡ false), tt)
deepest_push (q ∷ ps) p behind deepest = (
  All-append (λ later. is_under q later ≡ false) ps (p ∷ []) deepest.0
      (All-cons (λ later. is_under q later ≡ false) p [] (not_under p q behind.0) (All-nil (λ later. is_under q later ≡ false))),
  deepest_push ps p behind.1 deepest.1,
)

deepest_reversed : (ps : List PathV) → Climbs ps → IsDeepestFirst (reverse ps)
deepest_reversed [] climbs = tt
deepest_reversed (p ∷ ps) climbs =
    subst IsDeepestFirst (sym (reversed p ps)) (deepest_push (reverse ps) p (all_reversed (λ q. path_cmp p q ≡ Less) ps climbs.0) (deepest_reversed ps climbs.1))

distinct_push : (ps : List PathV) (p : PathV) → AllByRecursion (λ q. path_cmp p q ≡ Less) ps → IsDistinct (eq_by_cmp path_cmp) ps → IsDistinct (eq_by_cmp path_cmp) (ps ++ p ∷ [])
unfolding IsDistinct
distinct_push [] p behind once = (tt, tt)
distinct_push (q ∷ ps) p behind once = (
  AllByRecursion-push (λ r. same_path q r ≡ false) ps p once.0 (less_apart_back p q behind.0),
  distinct_push ps p behind.1 once.1,
)

pub distinct_reversed : (ps : List PathV) → Climbs ps → IsDistinct (eq_by_cmp path_cmp) (reverse ps)
unfolding IsDistinct
distinct_reversed [] climbs = tt
distinct_reversed (p ∷ ps) climbs =
    subst (IsDistinct (eq_by_cmp path_cmp)) (sym (reversed p ps))
    (distinct_push (reverse ps) p (all_reversed (λ q. path_cmp p q ≡ Less) ps climbs.0) (distinct_reversed ps climbs.1))

-- ---- the doomed paths are those of the folder

abbrev pub dooms_by : Option Entry → Bool → Option Seen → Bool
dooms_by e hidden None = false
dooms_by e hidden (Some s) = not (keeps_in e s) && not (is_dir_of s && hidden)

doomed_same : (objects : Objects) (cuts : Cuts) (stuck hidden : Bool) (h : Option Holding) (e : Option Entry) → stuck ≡ (is_dir h && hidden)
    → dooms_by e hidden (option_and_then (seen_of cuts) h)
    ≡ (not (keeps (option_map (node_of objects) e) h) && not (is_kept_apart stuck h))
doomed_same objects cuts stuck hidden None None is = refl
doomed_same objects cuts stuck hidden None (Some entry.Dir) is = refl
doomed_same objects cuts stuck hidden None (Some (entry.File id mode mtime modifier size)) is = refl
doomed_same objects cuts stuck hidden (Some Dir) None is = ap not (sym is)
doomed_same objects cuts stuck hidden (Some Dir) (Some entry.Dir) is = refl
doomed_same objects cuts stuck hidden (Some Dir) (Some (entry.File id mode mtime modifier size)) is = ap not (sym is)
doomed_same objects cuts stuck hidden (Some (File bytes)) None is = refl
doomed_same objects cuts stuck hidden (Some (File bytes)) (Some entry.Dir) is = refl
doomed_same objects cuts stuck hidden (Some (File bytes)) (Some (entry.File id mode mtime modifier size)) is = refl
doomed_same objects cuts stuck hidden (Some Other) None is = refl
doomed_same objects cuts stuck hidden (Some Other) (Some entry.Dir) is = refl
doomed_same objects cuts stuck hidden (Some Other) (Some (entry.File id mode mtime modifier size)) is = refl

-- ---- what is written

write_same : (objects : Objects) (cuts : Cuts) (h : Option Holding) (was : Option Known) (pushed : Bool) (path : PathV) (e : Entry)
    → map (due_step objects) (due_of (option_and_then (seen_of cuts) h) was pushed path e)
    ≡ write_at (is_alone cuts h was (Some e) pushed) path (node_of objects e) h
write_same objects cuts None was pushed path entry.Dir = refl
write_same objects cuts None was pushed path (entry.File id mode mtime modifier size) = refl
write_same objects cuts (Some Dir) was pushed path entry.Dir = refl
write_same objects cuts (Some Dir) was pushed path (entry.File id mode mtime modifier size) = refl
write_same objects cuts (Some (File bytes)) was pushed path entry.Dir = refl
write_same objects cuts (Some (File bytes)) was pushed path (entry.File id mode mtime modifier size) = by (is_alone cuts (Some (File bytes)) was (Some (entry.File id mode mtime modifier size)) pushed)
  where
    by : (b : Bool) → map (due_step objects) (if b then [] else record { path = path; node = due.File id } ∷ []) ≡ (if b then [] else Step.Wrote path (contents_of objects id) ∷ [])
    by true = refl
    by false = refl
write_same objects cuts (Some Other) was pushed path entry.Dir = refl
write_same objects cuts (Some Other) was pushed path (entry.File id mode mtime modifier size) = refl

-- the doomed paths are those that were seen and pass
pub doomed_told : (cuts : Cuts) (c : Contents) (scan : Scan) → IsScan cuts c scan → (entries : fin.FinMap path_cmp Entry) (plan : Plan)
    → plan.doomed ≡ reverse (filter_map (doomed_path scan entries) (fin.entries scan.paths)) → (q : PathV)
    → is_one_of plan.doomed q ≡ dooms_by (fin.get entries q) (hides_in scan q) (option_and_then (seen_of cuts) (at c q))
doomed_told cuts c scan is_scan entries plan doomed q =
    ap (λ (ps : List PathV). is_one_of ps q) doomed ∙ one_of_reversed (filter_map (doomed_path scan entries) (fin.entries scan.paths)) q
    ∙ taken_told (dooms scan entries) (fin.entries scan.paths) (Rises-entries scan.paths) q
    ∙ ap (passes_at (dooms scan entries) q) (sym (fin.get-entries scan.paths q) ∙ is_scan.paths q)
    ∙ passes_same (option_and_then (seen_of cuts) (at c q))
  where
    passes_same : (o : Option Seen) → passes_at (dooms scan entries) q o ≡ dooms_by (fin.get entries q) (hides_in scan q) o
    passes_same None = refl
    passes_same (Some s) = refl

module _ (objects : Objects) (cuts : Cuts) (c : Contents) (scan : Scan) (is_scan : IsScan cuts c scan) (index : Index) (entries : fin.FinMap path_cmp Entry) (pushed : Bool) where
  writes_same : (es : List (PathV × Entry)) → ((e : PathV × Entry) → In e es → fin.get entries e.0 ≡ Some e.1)
      → map (due_step objects) (flat_map (dues_at scan index pushed) es) ≡ writes_of (alone_at cuts c index entries pushed) c (map (with_node objects) es)
  writes_same [] are = refl
  writes_same (e ∷ es) are =
      map-append (due_step objects) (dues_at scan index pushed e) (flat_map (dues_at scan index pushed) es)
      ∙ ap₂ (λ (x y : List Step). x ++ y)
      (ap (λ (s : Option Seen). map (due_step objects) (due_of s (fin.get index.entries e.0) pushed e.0 e.1)) (is_scan.paths e.0)
      ∙ write_same objects cuts (at c e.0) (fin.get index.entries e.0) pushed e.0 e.1
      ∙ ap (λ (o : Option Entry). write_at (is_alone cuts (at c e.0) (fin.get index.entries e.0) o pushed) e.0 (node_of objects e.1) (at c e.0)) (sym (are e (inl refl))))
      (writes_same es (λ f there. are f (inr there)))

  pub plan_told : (tree : Tree) → StandsFor objects entries tree → AreAlike c (alone_at cuts c index entries pushed) tree → (plan : Plan)
      → plan.doomed ≡ reverse (filter_map (doomed_path scan entries) (fin.entries scan.paths)) → plan.writes ≡ flat_map (dues_at scan index pushed) (fin.entries entries)
      → IsPlan tree c (alone_at cuts c index entries pushed) (plan_steps objects plan)
  plan_told tree stands alike plan doomed writes =
      let climbs : Climbs (filter_map (doomed_path scan entries) (fin.entries scan.paths)) = taken_climbs (dooms scan entries) (fin.entries scan.paths) (Rises-entries scan.paths) in
      record {
        doomed = plan.doomed;
        is =
            ap (λ (steps : List Step). map Step.Removed plan.doomed ++ steps)
            (ap (map (due_step objects)) writes
            ∙ writes_same (fin.entries entries) (λ e there. fin.get-entries entries e.0 ∙ found_of (fin.entries entries) e (Rises-entries entries) there)
            ∙ ap (writes_of (alone_at cuts c index entries pushed) c) (sym (tree_entries objects entries tree stands)));
        deepest = subst IsDeepestFirst (sym doomed) (deepest_reversed _ climbs);
        once = subst (IsDistinct (eq_by_cmp path_cmp)) (sym doomed) (distinct_reversed _ climbs);
        all = λ q. doomed_told cuts c scan is_scan entries plan doomed q ∙ all_same q;
        alike = alike;
      }
    where
      all_same : (q : PathV) → dooms_by (fin.get entries q) (hides_in scan q) (option_and_then (seen_of cuts) (at c q)) ≡ is_doomed tree c q
      all_same q =
          doomed_same objects cuts (is_stuck c q) (hides_in scan q) (at c q) (fin.get entries q) (stuck-told cuts c scan is_scan q)
          ∙ ap (λ (o : Option Node). not (keeps o (at c q)) && not (is_kept_apart (is_stuck c q) (at c q))) (sym (stands q))

-- What the steps of a plan leave at a path. The key lemmas are plan_leaves and plan_holds.
use Rattle.std.proofs.Common.{◌≡◌, ◌&&◌, ◌||◌, ℕ, not, Bool, true, false, cond, if◌then◌else◌, List, [], ◌∷◌, ◌++◌, map, Option, None, Some, is_some, option_and_then, option_map, refl, sym, ap, subst, ◌∙◌, inl, inr}
use Rattle.std.specs.Prelude.{nat_lt}
use Rattle.std.specs.FinMap as fin
use Rattle.std.specs.List.{AllByRecursion, list_any}
use Rattle.std.proofs.lemmas.Bool.{and_parts, not-true, or_right}
use Rattle.tree_model.specs.DirectorySurvival.{is_under, is_within}
use Rattle.tree_model.specs.Path.{PathV, path_cmp}
use Rattle.tree_model.specs.PathOrder.{paths_total}
use Rattle.tree_model.specs.Tree.{Tree}
use Rattle.tree_model.specs.declared.node.FileVersion.{FileVersion}
use Rattle.tree_model.specs.declared.node.Node.{Node}
use Rattle.tree_model.specs.declared.node.Node.TheVariants as node
use Rattle.tree_model.proofs.ListedLemmas.{same_path, same_path-itself, same_path-true}
use Rattle.tree_model.proofs.MovingLemmas.{In}
use Rattle.folder_side.specs.Folder.{Contents, at, is_dir, is_other, with_holding, without}
use Rattle.folder_side.specs.WorkingTree.{HoldsLeft, PlainFile, held_of, plain_node, with_stuck}
use Rattle.folder_side.specs.declared.holding.Holding.{Holding}
use Rattle.folder_side.specs.declared.holding.Holding.TheVariants.{Dir, File, Other}
use Rattle.folder_side.proofs.SortedEntryLemmas.{Rises, Rises-entries, find_first, found_of, missed, skip_first}
use Rattle.sync_rules.specs.Checkout.{Front, IsPlan, MayHold, Step, do_step, is_doomed, is_kept_apart, is_one_of, keeps, run, write_at, writes_of}

-- ---- what a step leaves

got_without : (path q : PathV) (c : Contents) → at (without path c) q ≡ cond (same_path q path) None (at c q)
got_without path q c = fin.get-remove paths_total c.paths path q

got_with : (path q : PathV) (holding : Holding) (c : Contents) → at (with_holding path holding c) q ≡ cond (same_path q path) (Some holding) (at c q)
got_with path q holding c = fin.get-insert paths_total c.paths path holding q

with_here : (path : PathV) (holding : Holding) (c : Contents) → at (with_holding path holding c) path ≡ Some holding
with_here path holding c = got_with path path holding c ∙ ap (λ b. cond b (Some holding) (at c path)) (same_path-itself path)

with_away : (path q : PathV) (holding : Holding) (c : Contents) → same_path q path ≡ false → at (with_holding path holding c) q ≡ at c q
with_away path q holding c apart = got_with path q holding c ∙ ap (λ b. cond b (Some holding) (at c q)) apart

run_append : (first later : List Step) (c : Contents) → run (first ++ later) c ≡ run later (run first c)
run_append [] later c = refl
run_append (step ∷ first) later c = run_append first later (do_step step c)

-- ---- what removals leave

none_twice : (a b : Bool) (o : Option Holding) → cond b None (cond a None o) ≡ cond (a || b) None o
none_twice true true o = refl
none_twice true false o = refl
none_twice false b o = refl

pub removed_at : (paths : List PathV) (c : Contents) (q : PathV) → at (run (map Step.Removed paths) c) q ≡ cond (is_one_of paths q) None (at c q)
removed_at [] c q = refl
removed_at (path ∷ paths) c q =
    removed_at paths (without path c) q ∙ ap (λ (o : Option Holding). cond (is_one_of paths q) None o) (got_without path q c)
    ∙ none_twice (same_path q path) (is_one_of paths q) (at c q)

-- ---- what writes leave

-- a path where the folder had this before
abbrev wrote : Bool → Node → Option Holding → Option Holding → Option Holding
wrote alone node.Dir (Some Dir) now = now
wrote alone node.Dir was now = Some Dir
wrote alone (node.File file) (Some (File bytes)) now = if alone then now else Some (File file.bytes)
wrote alone (node.File file) was now = Some (File file.bytes)

abbrev wrote_at : Bool → Option Node → Option Holding → Option Holding → Option Holding
wrote_at alone None was now = now
wrote_at alone (Some n) was now = wrote alone n was now

write_here : (alone : Bool) (q : PathV) (n : Node) (was : Option Holding) (c : Contents) → at (run (write_at alone q n was) c) q ≡ wrote alone n was (at c q)
write_here alone q node.Dir None c = with_here q Dir c
write_here alone q node.Dir (Some Dir) c = refl
write_here alone q node.Dir (Some (File bytes)) c = with_here q Dir c
write_here alone q node.Dir (Some Other) c = with_here q Dir c
write_here alone q (node.File file) None c = with_here q (File file.bytes) c
write_here alone q (node.File file) (Some Dir) c = with_here q (File file.bytes) c
write_here true q (node.File file) (Some (File bytes)) c = refl
write_here false q (node.File file) (Some (File bytes)) c = with_here q (File file.bytes) c
write_here alone q (node.File file) (Some Other) c = with_here q (File file.bytes) c

write_away : (alone : Bool) (path : PathV) (n : Node) (was : Option Holding) (c : Contents) (q : PathV) → same_path q path ≡ false
    → at (run (write_at alone path n was) c) q ≡ at c q
write_away alone path node.Dir None c q apart = with_away path q Dir c apart
write_away alone path node.Dir (Some Dir) c q apart = refl
write_away alone path node.Dir (Some (File bytes)) c q apart = with_away path q Dir c apart
write_away alone path node.Dir (Some Other) c q apart = with_away path q Dir c apart
write_away alone path (node.File file) None c q apart = with_away path q (File file.bytes) c apart
write_away alone path (node.File file) (Some Dir) c q apart = with_away path q (File file.bytes) c apart
write_away true path (node.File file) (Some (File bytes)) c q apart = refl
write_away false path (node.File file) (Some (File bytes)) c q apart = with_away path q (File file.bytes) c apart
write_away alone path (node.File file) (Some Other) c q apart = with_away path q (File file.bytes) c apart

module _ (alone : PathV → Bool) (old : Contents) where
  written_first : (e : PathV × Node) (es : List (PathV × Node)) → Rises (e ∷ es) → (c : Contents)
      → wrote_at (alone e.0) (fin.find path_cmp e.0 es) (at old e.0) (at (run (write_at (alone e.0) e.0 e.1 (at old e.0)) c) e.0)
      ≡ wrote_at (alone e.0) (fin.find path_cmp e.0 (e ∷ es)) (at old e.0) (at c e.0)
  written_first e es rises c =
      ap (λ (o : Option Node). wrote_at (alone e.0) o (at old e.0) (at (run (write_at (alone e.0) e.0 e.1 (at old e.0)) c) e.0)) (missed e.0 es rises.0)
      ∙ write_here (alone e.0) e.0 e.1 (at old e.0) c ∙ sym (ap (λ (o : Option Node). wrote_at (alone e.0) o (at old e.0) (at c e.0)) (find_first e es))

  written : (es : List (PathV × Node)) → Rises es → (c : Contents) (q : PathV)
      → at (run (writes_of alone old es) c) q ≡ wrote_at (alone q) (fin.find path_cmp q es) (at old q) (at c q)
  written [] rises c q = refl
  written (e ∷ es) rises c q =
      ap (λ (d : Contents). at d q) (run_append (write_at (alone e.0) e.0 e.1 (at old e.0)) (writes_of alone old es) c)
      ∙ written es rises.1 (run (write_at (alone e.0) e.0 e.1 (at old e.0)) c) q ∙ by (same_path q e.0) refl
    where
      by : (b : Bool) → same_path q e.0 ≡ b
          → wrote_at (alone q) (fin.find path_cmp q es) (at old q) (at (run (write_at (alone e.0) e.0 e.1 (at old e.0)) c) q)
          ≡ wrote_at (alone q) (fin.find path_cmp q (e ∷ es)) (at old q) (at c q)
      by true is =
          subst (λ (p : PathV). wrote_at (alone p) (fin.find path_cmp p es) (at old p) (at (run (write_at (alone e.0) e.0 e.1 (at old e.0)) c) p)
          ≡ wrote_at (alone p) (fin.find path_cmp p (e ∷ es)) (at old p) (at c p))
          (sym (same_path-true q e.0 is)) (written_first e es rises c)
      by false is =
          ap (λ (o : Option Holding). wrote_at (alone q) (fin.find path_cmp q es) (at old q) o) (write_away (alone e.0) e.0 e.1 (at old e.0) c q is)
          ∙ sym (ap (λ (o : Option Node). wrote_at (alone q) o (at old q) (at c q)) (skip_first q e es is))

-- ---- after the whole plan

module _ (tree : Tree) (c : Contents) (alone : PathV → Bool) (steps : List Step) (plan : IsPlan tree c alone steps) where
  plan_at : (q : PathV) → at (run steps c) q ≡ wrote_at (alone q) (fin.get tree q) (at c q) (cond (is_doomed tree c q) None (at c q))
  plan_at q =
      ap (λ (done : List Step). at (run done c) q) plan.is
      ∙ ap (λ (d : Contents). at d q) (run_append (map Step.Removed plan.doomed) (writes_of alone c (fin.entries tree)) c)
      ∙ written alone c (fin.entries tree) (Rises-entries tree) (run (map Step.Removed plan.doomed) c) q
      ∙ ap (λ (o : Option Node). wrote_at (alone q) o (at c q) (at (run (map Step.Removed plan.doomed) c) q)) (sym (fin.get-entries tree q))
      ∙ ap (λ (o : Option Holding). wrote_at (alone q) (fin.get tree q) (at c q) o) (removed_at plan.doomed c q ∙ ap (λ (b : Bool). cond b None (at c q)) (plan.all q))

-- whether a directory would be stuck
abbrev pub hides : Contents → PathV → Bool
hides c dir =
    list_any (λ entry. is_under dir entry.0 && is_other entry.1) (fin.entries c.paths)
    || list_any (λ entry. is_within dir entry.0 && nat_lt 0 entry.1) (fin.entries c.nameless)

-- of a path that the tree lacks
gone_right : (hidden : Bool) (was : Option Holding)
    → option_and_then held_of (cond (not (keeps None was) && not (is_kept_apart (is_dir was && hidden) was)) None was) ≡ with_stuck (is_dir was && hidden) None
gone_right hidden None = refl
gone_right true (Some Dir) = refl
gone_right false (Some Dir) = refl
gone_right hidden (Some (File bytes)) = refl
gone_right hidden (Some Other) = refl

-- of a file where the folder has one
file_right : (alone : Bool) (file : FileVersion) (bytes : List ℕ) → (alone ≡ true → file.bytes ≡ bytes)
    → option_and_then held_of (if alone then Some (File bytes) else Some (File file.bytes)) ≡ Some (PlainFile file.bytes)
file_right true file bytes alike = ap (λ (bs : List ℕ). Some (PlainFile bs)) (sym (alike refl))
file_right false file bytes alike = refl

right_at : (alone : Bool) (here : Option Node) (hidden : Bool) (was : Option Holding)
    → ((file : FileVersion) (bytes : List ℕ) → here ≡ Some (node.File file) → was ≡ Some (File bytes) → alone ≡ true → file.bytes ≡ bytes)
    → option_and_then held_of (wrote_at alone here was (cond (not (keeps here was) && not (is_kept_apart (is_dir was && hidden) was)) None was))
    ≡ with_stuck (is_dir was && hidden) (option_map plain_node here)
right_at alone None hidden was alike = gone_right hidden was
right_at alone (Some node.Dir) hidden None alike = refl
right_at alone (Some node.Dir) hidden (Some Dir) alike = refl
right_at alone (Some node.Dir) hidden (Some (File bytes)) alike = refl
right_at alone (Some node.Dir) hidden (Some Other) alike = refl
right_at alone (Some (node.File file)) hidden None alike = refl
right_at alone (Some (node.File file)) hidden (Some Dir) alike = refl
right_at alone (Some (node.File file)) hidden (Some (File bytes)) alike = file_right alone file bytes (alike file bytes refl refl)
right_at alone (Some (node.File file)) hidden (Some Other) alike = refl

pub plan_leaves : (tree : Tree) (c : Contents) (alone : PathV → Bool) (steps : List Step) → IsPlan tree c alone steps → HoldsLeft tree c (run steps c)
plan_leaves tree c alone steps plan q =
    ap (λ (o : Option Holding). option_and_then held_of o) (plan_at tree c alone steps plan q)
    ∙ right_at (alone q) (fin.get tree q) (hides c q) (at c q) (λ file bytes here there is. plan.alike q file bytes here there is)

-- ---- wherever it stops

all_both : (P : Step → Type 0) (first later : List Step) → AllByRecursion P first → AllByRecursion P later → AllByRecursion P (first ++ later)
all_both P [] later mine others = others
all_both P (step ∷ first) later mine others = (mine.0, all_both P first later mine.1 others)

unkept : (tree : Tree) (c : Contents) (q : PathV) → is_doomed tree c q ≡ true → keeps (fin.get tree q) (at c q) ≡ false
unkept tree c q doomed = not-true (keeps (fin.get tree q) (at c q)) (and_parts (not (keeps (fin.get tree q) (at c q))) _ doomed).0

module _ (tree : Tree) (old : Contents) (alone : PathV → Bool) (path : PathV) where
  -- a step keeps what may stand at the path
  abbrev KeepsIt : Step → Type 0
  KeepsIt step = (now : Contents) → MayHold tree old now path → MayHold tree old (do_step step now) path

  same_there : (now next : Contents) → at next path ≡ at now path → MayHold tree old now path → MayHold tree old next path
  same_there now next same (MayHold.kept is) = MayHold.kept (same ∙ is)
  same_there now next same (MayHold.reached some is) = MayHold.reached some (ap (λ (o : Option Holding). option_and_then held_of o) same ∙ is)
  same_there now next same (MayHold.cleared none unlike) = MayHold.cleared (same ∙ none) unlike

  fronts : (steps : List Step) (now d : Contents) → Front steps now d → AllByRecursion KeepsIt steps → MayHold tree old now path → MayHold tree old d path
  fronts _ _ _ (Front.stopped steps c) keep holds = holds
  fronts _ _ _ (Front.went step steps c d front) keep holds = fronts steps (do_step step c) d front keep.1 (keep.0 c holds)

  removal_keeps : (q : PathV) → is_doomed tree old q ≡ true → KeepsIt (Step.Removed q)
  removal_keeps q doomed now holds = by (same_path path q) refl
    where
      by : (b : Bool) → same_path path q ≡ b → MayHold tree old (without q now) path
      by true is =
          MayHold.cleared (got_without q path now ∙ ap (λ (b : Bool). cond b None (at now path)) is)
          (subst (λ (p : PathV). keeps (fin.get tree p) (at old p) ≡ false) (sym (same_path-true path q is)) (unkept tree old q doomed))
      by false is = same_there now (without q now) (got_without q path now ∙ ap (λ (b : Bool). cond b None (at now path)) is) holds

  removals_keep : (paths : List PathV) → ((q : PathV) → is_one_of paths q ≡ true → is_doomed tree old q ≡ true) → AllByRecursion KeepsIt (map Step.Removed paths)
  removals_keep [] are = tt
  removals_keep (q ∷ paths) are = (
    removal_keeps q (are q (ap (λ (b : Bool). b || is_one_of paths q) (same_path-itself q))),
    removals_keep paths (λ p is. are p (or_right (same_path p q) (is_one_of paths p) is)),
  )

  -- what the tree has at a path was put there
  put_keeps : (q : PathV) (n : Node) (holding : Holding) → fin.get tree q ≡ Some n → held_of holding ≡ Some (plain_node n) → (now : Contents)
      → MayHold tree old now path → MayHold tree old (with_holding q holding now) path
  put_keeps q n holding there same now holds = by (same_path path q) refl
    where
      by : (b : Bool) → same_path path q ≡ b → MayHold tree old (with_holding q holding now) path
      by true is =
          let here : fin.get tree path ≡ Some n = ap (fin.get tree) (same_path-true path q is) ∙ there in
          MayHold.reached (ap (λ (o : Option Node). is_some (option_map plain_node o)) here)
          (ap (λ (o : Option Holding). option_and_then held_of o) (got_with q path holding now ∙ ap (λ (b : Bool). cond b (Some holding) (at now path)) is)
          ∙ same ∙ sym (ap (λ (o : Option Node). option_map plain_node o) here))
      by false is = same_there now (with_holding q holding now) (with_away q path holding now is) holds

  write_keeps : (left : Bool) (q : PathV) (n : Node) (was : Option Holding) → fin.get tree q ≡ Some n → AllByRecursion KeepsIt (write_at left q n was)
  write_keeps left q node.Dir None there = (put_keeps q node.Dir Dir there refl, tt)
  write_keeps left q node.Dir (Some Dir) there = tt
  write_keeps left q node.Dir (Some (File bytes)) there = (put_keeps q node.Dir Dir there refl, tt)
  write_keeps left q node.Dir (Some Other) there = (put_keeps q node.Dir Dir there refl, tt)
  write_keeps left q (node.File file) None there = (put_keeps q (node.File file) (File file.bytes) there refl, tt)
  write_keeps left q (node.File file) (Some Dir) there = (put_keeps q (node.File file) (File file.bytes) there refl, tt)
  write_keeps true q (node.File file) (Some (File bytes)) there = tt
  write_keeps false q (node.File file) (Some (File bytes)) there = (put_keeps q (node.File file) (File file.bytes) there refl, tt)
  write_keeps left q (node.File file) (Some Other) there = (put_keeps q (node.File file) (File file.bytes) there refl, tt)

  writes_keep : (es : List (PathV × Node)) → ((e : PathV × Node) → In e es → fin.get tree e.0 ≡ Some e.1) → AllByRecursion KeepsIt (writes_of alone old es)
  writes_keep [] are = tt
  writes_keep (e ∷ es) are =
      all_both KeepsIt (write_at (alone e.0) e.0 e.1 (at old e.0)) (writes_of alone old es) (write_keeps (alone e.0) e.0 e.1 (at old e.0) (are e (inl refl))) (writes_keep es (λ f there. are f (inr there)))

  pub plan_holds : (d : Contents) (steps : List Step) → IsPlan tree old alone steps → Front steps old d → MayHold tree old d path
  plan_holds d steps plan front =
      fronts steps old d front
      (subst (λ (done : List Step). AllByRecursion KeepsIt done) (sym plan.is)
      (all_both KeepsIt (map Step.Removed plan.doomed) (writes_of alone old (fin.entries tree)) (removals_keep plan.doomed (λ q is. sym (plan.all q) ∙ is))
      (writes_keep (fin.entries tree) (λ e there. fin.get-entries tree e.0 ∙ found_of (fin.entries tree) e (Rises-entries tree) there))))
      (MayHold.kept refl)

-- What stands where a plan stopped, and what is gone as a path is removed. The key lemmas are file_there, file_left and none_doomed_under.
use Rattle.std.proofs.Common.{◌≡◌, ◌⊎◌, ◌&&◌, ◌||◌, ℕ, Bool, true, false, cond, All, List, [], ◌∷◌, ◌++◌, map, Option, None, Some, IsSome, is_some, option_and_then, refl, sym, ap, ap₂, subst, ◌∙◌, inl, inr, true≢false}
use Rattle.std.specs.FinMap as fin
use Rattle.std.proofs.lemmas.List.Elements.{All-head, All-tail}
use Rattle.std.proofs.lemmas.List.Folds.{list_any-append}
use Rattle.std.specs.Ordering.{eq_by_cmp}
use Rattle.tree_model.specs.DirectorySurvival.{is_under}
use Rattle.tree_model.specs.Path.{PathV, path_cmp}
use Rattle.tree_model.specs.Tree.{Tree}
use Rattle.tree_model.specs.declared.node.FileVersion.{FileVersion}
use Rattle.tree_model.specs.declared.node.Node.TheVariants as node
use Rattle.tree_model.proofs.BelowLemmas.{name_itself}
use Rattle.tree_model.proofs.ListedLemmas.{same_path, same_path-true}
use Rattle.folder_side.specs.Folder.{Contents, at}
use Rattle.folder_side.specs.WorkingTree.{PlainFile, held_of, plain_at}
use Rattle.folder_side.specs.declared.holding.Holding.{Holding}
use Rattle.folder_side.specs.declared.holding.Holding.TheVariants.{File}
use Rattle.sync_rules.specs.Checkout.{IsDeepestFirst, IsPlan, MayHold, Step, is_doomed, is_one_of, keeps, run}
use Rattle.sync_rules.proofs.PlanLemmas.{removed_at}

-- ---- files

module _ (tree : Tree) (old new : Contents) (path : PathV) (bytes : List ℕ) where
  pub file_there : MayHold tree old new path → at new path ≡ Some (File bytes) → (at old path ≡ Some (File bytes)) ⊎ (plain_at tree path ≡ Some (PlainFile bytes))
  file_there (MayHold.kept is) here = inl (sym is ∙ here)
  file_there (MayHold.reached some is) here = inr (sym is ∙ ap (λ (o : Option Holding). option_and_then held_of o) here)
  file_there (MayHold.cleared none unlike) here = absurd (true≢false (sym (ap is_some here) ∙ ap is_some none))

  some_held : (o : Option Holding) → is_some (option_and_then held_of o) ≡ true → is_some o ≡ true
  some_held None some = some
  some_held (Some holding) some = refl

  pub file_left : (file : FileVersion) → MayHold tree old new path → at old path ≡ Some (File bytes) → fin.get tree path ≡ Some (node.File file) → IsSome (at new path)
  file_left file (MayHold.kept is) was there = ap is_some (is ∙ was)
  file_left file (MayHold.reached some is) was there = some_held (at new path) (ap is_some is ∙ some)
  file_left file (MayHold.cleared none unlike) was there = absurd (true≢false (sym (ap₂ keeps there was) ∙ unlike))

-- ---- removals

under_no_end : (path : PathV) → is_under path path ≡ false
under_no_end [] = refl
under_no_end (name ∷ path) = ap (λ (b : Bool). b && is_under path path) (name_itself name) ∙ under_no_end path

deepest_rest : (before later : List PathV) → IsDeepestFirst (before ++ later) → IsDeepestFirst later
deepest_rest [] later deepest = deepest
deepest_rest (path ∷ before) later deepest = deepest_rest before later deepest.1

module _ (dir path : PathV) (under : is_under dir path ≡ true) where
  apart_from : (other : PathV) → is_under dir other ≡ false → same_path path other ≡ false
  apart_from other apart = by (same_path path other) refl
    where
      by : (b : Bool) → same_path path other ≡ b → same_path path other ≡ false
      by true is = absurd (true≢false (sym under ∙ ap (is_under dir) (same_path-true path other is) ∙ apart))
      by false is = is

  not_later : (later : List PathV) → All (λ other. is_under dir other ≡ false) later → is_one_of later path ≡ false
  not_later [] all = refl
  not_later (other ∷ later) all =
      ap₂ ◌||◌ (apart_from other (All-head (λ (p : PathV). is_under dir p ≡ false) other later all))
      (not_later later (All-tail (λ (p : PathV). is_under dir p ≡ false) other later all))

  is_before : (before later : List PathV) → IsDeepestFirst (before ++ dir ∷ later) → is_one_of (before ++ dir ∷ later) path ≡ true → is_one_of before path ≡ true
  is_before before later deepest is =
      by (is_one_of before path) refl
    where
      none_behind : is_one_of (dir ∷ later) path ≡ false
      none_behind = ap₂ ◌||◌ (apart_from dir (under_no_end dir)) (not_later later (deepest_rest before (dir ∷ later) deepest).0)

      by : (b : Bool) → is_one_of before path ≡ b → is_one_of before path ≡ true
      by true there = there
      by false there =
          absurd (true≢false (sym is ∙ list_any-append (λ (other : PathV). eq_by_cmp path_cmp path other) before (dir ∷ later) ∙ ap₂ ◌||◌ there none_behind))

pub none_doomed_under : (tree : Tree) (c : Contents) (alone : PathV → Bool) (steps : List Step) (plan : IsPlan tree c alone steps) (before later : List PathV) (dir path : PathV)
    → plan.doomed ≡ before ++ dir ∷ later → is_under dir path ≡ true → is_doomed tree c path ≡ true → at (run (map Step.Removed before) c) path ≡ None
none_doomed_under tree c alone steps plan before later dir path is under doomed =
    let there : is_one_of (before ++ dir ∷ later) path ≡ true = sym (ap (λ (paths : List PathV). is_one_of paths path) is) ∙ plan.all path ∙ doomed in
    let deep : IsDeepestFirst (before ++ dir ∷ later) = subst IsDeepestFirst is plan.deepest in
    removed_at before c path ∙ ap (λ (b : Bool). cond b None (at c path)) (is_before dir path under before later deep there)

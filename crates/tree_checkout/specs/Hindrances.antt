-- What the tables of what stands in the way tell of a scan. Our own. Read TellsOf.
use Rattle.std.specs.Prelude.{◌≡◌, Bool, true, List, is_some, ⊤}
use Rattle.std.specs.FinMap as fin
use Rattle.std.specs.List.{list_any}
use Rattle.std.specs.Ordering.{eq_by_cmp}
use Rattle.folder_side.specs.declared.scan_report.Scan.{Scan}
use Rattle.tree_model.specs.DirectorySurvival.{is_under}
use Rattle.tree_model.specs.Path.{PathV, path_cmp}
use Rattle.tree_checkout.specs.Planning.{hides_in}
use Rattle.tree_checkout.specs.declared.hindrances.Hindrances.{Hindrances}

-- a table of paths, and whether it has one
abbrev pub Paths : Type 0
Paths = fin.FinMap path_cmp ⊤

abbrev pub has : Paths → PathV → Bool
has table path = is_some (fin.get table path)

-- it has the paths of this list, and no others
pub record IsTableOf (table : Paths) (paths : List PathV) : Type 0 where
  pub told : (path : PathV) → has table path ≡ list_any (eq_by_cmp path_cmp path) paths

-- of each path that it has it has the directories above
pub record HasAbove (table : Paths) : Type 0 where
  pub told : (dir path : PathV) → has table path ≡ true → is_under dir path ≡ true → has table dir ≡ true

-- the one has what the scan skipped, the other each path below which, or in the directory at which, is what can't be removed
pub record TellsOf (scan : Scan) (h : Hindrances) : Type 0 where
  pub skipped : IsTableOf h.skipped scan.skipped
  pub hiding : (path : PathV) → has h.hiding path ≡ hides_in scan path

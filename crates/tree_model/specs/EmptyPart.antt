-- A directory below which a tree has nothing. Our own.
use Rattle.std.specs.Prelude.{◌≡◌, true, None}
use Rattle.std.specs.FinMap as map
use Rattle.tree_model.specs.Path.{PathV}
use Rattle.tree_model.specs.Tree.{Tree}
use Rattle.tree_model.specs.DirectorySurvival.{is_under}

-- the tree has no path below the directory
abbrev pub IsEmptyBelow : PathV → Tree → Type 0
IsEmptyBelow dir tree = (path : PathV) → is_under dir path ≡ true → map.get tree path ≡ None

use Rattle.std.proofs.Common.{◌∙◌}
use Rattle.folder_side.specs.Folder.{at}
use Rattle.folder_side.proofs.VisibleTreeLemmas.{seen-visible}
use Rattle.folder_side.proofs.laws.a_scan_sees_the_visible_tree.Goals as goal

pub returns : goal.returns
returns c = record { value = λ cuts contents scan is path. is.paths path ∙ seen-visible cuts (at contents path) }

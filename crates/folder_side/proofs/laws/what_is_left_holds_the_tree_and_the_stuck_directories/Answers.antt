use Rattle.std.proofs.Common.{◌∙◌, ap, None}
use Rattle.std.specs.Option.{option_map}
use Rattle.folder_side.specs.WorkingTree.{is_stuck, plain_node, with_stuck}
use Rattle.folder_side.proofs.laws.what_is_left_holds_the_tree_and_the_stuck_directories.Goals as goal

pub returns-clause-tree : goal.returns-clause-tree
returns-clause-tree c = λ tree c' path here is. ap (with_stuck (is_stuck c' path)) is

pub returns-clause-stuck : goal.returns-clause-stuck
returns-clause-stuck c = λ tree c' path none stuck. ap (λ o. with_stuck (is_stuck c' path) (option_map plain_node o)) none ∙ ap (λ b. with_stuck b None) stuck

pub returns-clause-gone : goal.returns-clause-gone
returns-clause-gone c = λ tree c' path none stuck. ap (λ o. with_stuck (is_stuck c' path) (option_map plain_node o)) none ∙ ap (λ b. with_stuck b None) stuck

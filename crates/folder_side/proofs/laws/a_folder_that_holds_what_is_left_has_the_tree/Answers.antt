use Rattle.std.proofs.Common.{◌∙◌, ap, None}
use Rattle.std.specs.Option.{option_map}
use Rattle.folder_side.specs.Folder.{at}
use Rattle.folder_side.specs.WorkingTree.{is_stuck, plain_node, with_stuck}
use Rattle.folder_side.proofs.LeftLemmas.{holds_dir, holds_file}
use Rattle.folder_side.proofs.laws.a_folder_that_holds_what_is_left_has_the_tree.Goals as goal

pub returns-clause-files : goal.returns-clause-files
returns-clause-files c = λ tree old new left path version is.
    holds_file (at new path) version.bytes (left path ∙ ap (λ o. with_stuck (is_stuck old path) (option_map plain_node o)) is)

pub returns-clause-dirs : goal.returns-clause-dirs
returns-clause-dirs c = λ tree old new left path is. holds_dir (at new path) (left path ∙ ap (λ o. with_stuck (is_stuck old path) (option_map plain_node o)) is)

pub returns-clause-stuck : goal.returns-clause-stuck
returns-clause-stuck c = λ tree old new left path none stuck.
    holds_dir (at new path) (left path ∙ ap (λ o. with_stuck (is_stuck old path) (option_map plain_node o)) none ∙ ap (λ b. with_stuck b None) stuck)

pub returns-clause-gone : goal.returns-clause-gone
returns-clause-gone c = λ tree old new left path none stuck.
    left path ∙ ap (λ o. with_stuck (is_stuck old path) (option_map plain_node o)) none ∙ ap (λ b. with_stuck b None) stuck

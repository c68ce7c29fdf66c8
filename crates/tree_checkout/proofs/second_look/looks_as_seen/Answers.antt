use Rattle.std.proofs.Common.{◌∙◌, sym}
use Rattle.folder_side.specs.Folder.{at}
use Rattle.tree_checkout.proofs.LookCallLemmas.{seen_dir_if, seen_file_if}
use Rattle.tree_checkout.proofs.SecondLookLemmas.{file_of_kind, looks_file}
use Rattle.tree_checkout.proofs.second_look.looks_as_seen.Goals as goal

pub returns-else-not-is_file-clause-value : goal.returns-else-not-is_file-clause-value
returns-else-not-is_file-clause-value g c = λ c' told is.
    let file = file_of_kind (at c' c.args.path.now) c.args.kind is (sym c.is_file.ensures.value ∙ c.if-not-is_file.false) in
    looks_file c.args.cuts (at c' c.args.path.now) file.0 c.in-File.blocks c.slice.result.now c.in-File.size c.args.seen.now c.is_same_file.result file.1 c.in-File.is
    c.slice.ensures.value (c.is_same_file.ensures.value c' file.0 told file.1)

pub returns-in-Dir-clause-traced : goal.returns-in-Dir-clause-traced
returns-in-Dir-clause-traced g c = λ before looked.
    seen_dir_if c.args.cuts c.args.path.now c.args.seen.now c.args.kind c.is_dir.result before _ c.in-Dir.is c.is_dir.ensures.value looked

pub returns-else-not-is_file-clause-traced : goal.returns-else-not-is_file-clause-traced
returns-else-not-is_file-clause-traced g c = λ before looked.
    seen_file_if c.args.cuts c.args.path.now c.args.seen.now c.args.kind c.in-File.blocks c.slice.result.now c.in-File.size before _ _ c.is_same_file.result c.in-File.is
    c.slice.ensures.value (sym c.is_file.ensures.value ∙ c.if-not-is_file.false) looked c.is_same_file.ensures.traced

use Rattle.std.proofs.Common.{◌∙◌}
use Rattle.folder_side.specs.FileRead.{ReadsFile}
use Rattle.tree_checkout.proofs.LookCallLemmas.{compares_if, there_other, there_so}
use Rattle.tree_checkout.proofs.SecondLookLemmas.{same_kept, same_other}
use Rattle.tree_checkout.proofs.second_look.is_same_file.Goals as goal

pub returns-in-Ok-true-clause-value : goal.returns-in-Ok-true-clause-value
returns-in-Ok-true-clause-value g c = λ c' bytes told here.
    same_kept (ReadsFile c.args.cuts bytes (record { blocks = c.args.blocks.now; size = c.args.size })) c.in-Ok-true.field-0 c.is_as_opened.result c.in-Ok-true.field-0-test
    (c.in-Ok-true.ensures.value c' bytes told here) (c.is_as_opened.ensures.value c' (c.in-Ok-true.ensures.stays.0 ∙ told))

pub returns-in-Ok-false-clause-value : goal.returns-in-Ok-false-clause-value
returns-in-Ok-false-clause-value g c = λ c' bytes told here.
    same_other (ReadsFile c.args.cuts bytes (record { blocks = c.args.blocks.now; size = c.args.size })) c.in-Ok-false.field-0 c.in-Ok-false.field-0-test
    (c.in-Ok-false.ensures.value c' bytes told here)

pub returns-in-Ok-true-clause-traced : goal.returns-in-Ok-true-clause-traced
returns-in-Ok-true-clause-traced g c =
    compares_if c.args.cuts c.args.path.now c.args.blocks.now c.args.size _ _ _ c.is_as_opened.result
    (there_so c.args.cuts c.args.path.now c.args.blocks.now c.args.size c.in-Ok-true.field-0 _ _ c.in-Ok-true.field-0-test c.in-Ok-true.ensures.traced)
    c.is_as_opened.ensures.traced

pub returns-in-Ok-false-clause-traced : goal.returns-in-Ok-false-clause-traced
returns-in-Ok-false-clause-traced g c =
    there_other c.args.cuts c.args.path.now c.args.blocks.now c.args.size c.in-Ok-false.field-0 _ _ c.in-Ok-false.field-0-test c.in-Ok-false.ensures.traced

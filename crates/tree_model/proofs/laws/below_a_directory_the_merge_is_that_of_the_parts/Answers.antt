use Rattle.tree_model.proofs.PartLemmas.{merges_below, part_len}
use Rattle.tree_model.proofs.laws.below_a_directory_the_merge_is_that_of_the_parts.Goals as goal

pub returns : goal.returns
returns c naming s part is_naming base head pushed dir parts =
    (merges_below naming is_naming s part dir parts base head pushed, part_len naming is_naming s part dir parts base head pushed)

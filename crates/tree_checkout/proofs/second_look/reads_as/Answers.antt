use Rattle.tree_checkout.proofs.LookCallLemmas.{reads_if}
use Rattle.tree_checkout.proofs.SecondLookLemmas.{same_read}
use Rattle.tree_checkout.proofs.second_look.reads_as.Goals as goal

pub returns-in-Ok-clause-value : goal.returns-in-Ok-clause-value
returns-in-Ok-clause-value g c = λ c' bytes told there.
    same_read c.args.cuts bytes c.in-Ok.read (record { blocks = c.args.blocks.now; size = c.args.size }) c.is_same_read.result
    (c.in-Ok.ensures.value c' bytes told there) c.is_same_read.ensures.value

pub returns-in-Ok-clause-traced : goal.returns-in-Ok-clause-traced
returns-in-Ok-clause-traced g c =
    reads_if c.args.cuts c.args.path.now c.args.blocks.now c.args.size c.in-Ok.read c.is_same_read.result _ _ c.is_same_read.ensures.value c.in-Ok.ensures.traced

use Rattle.tree_checkout.proofs.SecondLookLemmas.{same_parts}
use Rattle.tree_checkout.proofs.second_look.is_same_read.Goals as goal

pub returns-then-read-size : goal.returns-then-read-size
returns-then-read-size c = record {
  value = same_parts c.args.read.now c.args.blocks.now c.slice.result.now c.args.size c.are_one.result c.if-read-size.true c.slice.ensures.value c.are_one.ensures.value;
}

use Rattle.std.proofs.Common.{◌∙◌, sym}
use Rattle.std.specs.Cmp.Lexicographic.{bytes_decides, pointwise_decides}
use Rattle.tree_checkout.proofs.second_look.are_one.Goals as goal

pub returns : goal.returns
returns c = record {
  value = (
    λ is. (pointwise_decides bytes_decides c.args.left.now c.args.right.now).0 (sym c.eq.ensures ∙ is),
    λ same. c.eq.ensures ∙ (pointwise_decides bytes_decides c.args.left.now c.args.right.now).1 same,
  );
}

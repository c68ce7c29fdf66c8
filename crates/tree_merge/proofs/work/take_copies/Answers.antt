use Rattle.std.proofs.Common.{arith, refl, sym, ◌∙◌}
use Rattle.tree_merge.proofs.CopiesBehindLemmas.{over_empty, over_popped}
use Rattle.tree_merge.proofs.TableLemmas.{first_popped_len}
use Rattle.tree_merge.proofs.work.take_copies.Goals as goal

pub loop-left-init : goal.loop-left-init
loop-left-init c q = refl

pub loop-left-smaller : goal.loop-left-smaller
loop-left-smaller c =
    let one = first_popped_len c.loop-left.copies c.pop_first.new.self (c.in-Some.left, c.in-Some.place) c.in-Some.ensures.found in
    omega arith

pub loop-left-preserved : goal.loop-left-preserved
loop-left-preserved c q =
    over_popped c.args.dir.now c.loop-left.copies c.pop_first.new.self c.loop-left.told c.put_behind.new.told c.in-Some.left c.in-Some.place c.in-Some.ensures.value c.in-Some.ensures.ok
    c.in_ok-put_behind.ensures.ok q
    ∙ c.loop-left.invariant q

pub returns : goal.returns
returns c = record {
  ok = λ q. sym (over_empty c.args.dir.now c.loop-left.copies c.loop-left.told c.in_default.ensures.absent q) ∙ c.loop-left.invariant q;
}

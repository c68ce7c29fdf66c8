use Rattle.std.proofs.Common.{[], ◌∙◌, ◌||◌, ap, false, subst, sym}
use Rattle.tree_model.specs.Path.{PathV}
use Rattle.tree_model.proofs.ListedLemmas.{same_path}
use Rattle.tree_checkout.specs.Hindrances.{IsTableOf, Paths, has}
use Rattle.tree_checkout.proofs.HindrancesLemmas.{any_step, has_none}
use Rattle.tree_checkout.proofs.hindrances.table_of.Goals as goal

pub loop-path-init : goal.loop-path-init
loop-path-init c = subst (λ (t : Paths). IsTableOf t []) (sym c.new-table.ensures.value) (record { told = has_none })

pub loop-path-preserved : goal.loop-path-preserved
loop-path-preserved c = record {
  told = λ q.
      any_step (same_path q) (has c.loop-path.table q) (has c.put.new.table q) false c.args.paths.now c.loop-path.path-index c.path-item.result c.loop-path-test.true c.path-item.is
      (c.in_ok-put.ensures.ok q ∙ ap (λ (p : PathV). has c.loop-path.table q || same_path q p) c.in_ok-copy.ensures.value)
      (c.loop-path.invariant.told q);
}

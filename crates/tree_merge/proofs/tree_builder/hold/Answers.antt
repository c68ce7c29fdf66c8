use Rattle.std.proofs.Common.{◌∙◌, ◌++◌, ◌∷◌, [], ap}
use Rattle.std.specs.FinMap as map
use Rattle.tree_merge.specs.TreeBuilding.{held_at}
use Rattle.tree_merge.proofs.TableLemmas.{on_ok_more}
use Rattle.tree_merge.proofs.HeldLemmas.{held_more}
use Rattle.tree_merge.proofs.tree_builder.hold.Goals as goal

pub returns : goal.returns
returns c = record {
  ok = on_ok_more c.put.result
      (λ is. held_more c.args.held.now c.put.new.table c.args.dir c.args.dirent c.push.new.self
      (c.in_ok-push.ensures.ok ∙ ap (λ es. es ++ c.args.dirent ∷ []) (c.or_new-listed.ensures.value ∙ ap held_at c.remove.ensures.value))
      (is ∙ ap (λ m. map.insert m c.args.dir c.push.new.self) c.remove.ensures.ok))
      c.put.ensures.ok;
}

use Rattle.std.proofs.Common.{◌∙◌, ap, sym, ◌&&◌, ◌||◌, is_some}
use Rattle.std.specs.FinMap as map
use Rattle.tree_model.specs.Path.{parent_of}
use Rattle.tree_model.proofs.ListedLemmas.{same_path}
use Rattle.tree_merge.proofs.TableLemmas.{on_ok_more, some-put}
use Rattle.tree_merge.proofs.tables.mark_parent.Goals as goal

pub returns-in_ok-parent : goal.returns-in_ok-parent
returns-in_ok-parent c = record {
  ok = on_ok_more c.put.result
      (λ is q. some-put c.args.marked.now c.put.new.table (parent_of c.args.path.now) tt (is ∙ ap (λ p. map.insert c.args.marked.now p tt) c.in_ok-parent.ensures.value) q
      ∙ ap (λ b. is_some (map.get c.args.marked.now q) || (b && same_path q (parent_of c.args.path.now))) (sym c.if-is_marked.true))
      c.put.ensures.ok;
}

use Rattle.tree_merge.proofs.LevelLemmas.{tells_more, tells_start}
use Rattle.tree_merge.proofs.level.by_path.Goals as goal

pub loop-entry-init : goal.loop-entry-init
loop-entry-init c = tells_start c.args.path.now c.into_vec-entries.result.items c.new-table.result c.new-table.ensures.value

pub loop-entry-preserved : goal.loop-entry-preserved
loop-entry-preserved c =
    tells_more c.args.path.now c.in_ok-own.own c.into_vec-entries.result.items c.loop-entry.entries.items c.pop.new.self.items c.in-Some.entry c.loop-entry.table c.put.new.table c.loop-entry.invariant
    c.in-Some.ensures.items c.in_ok-own.ensures.value c.in_ok-put.ensures.ok

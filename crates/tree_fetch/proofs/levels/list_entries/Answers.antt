-- Each entry is noted.
use Rattle.std.proofs.Common.{arith}
use Rattle.object_graph.specs.Objects.{fs_key}
use Rattle.object_graph.specs.Reached.{entry_keys, own_keys}
use Rattle.tree_fetch.proofs.LevelLemmas.{adds_then, entries_end, entries_next, lists_then, own_among}
use Rattle.tree_fetch.proofs.levels.list_entries.Goals as goal

pub loop-entry-preserved : goal.loop-entry-preserved
loop-entry-preserved c = record {
  lists = lists_then _ _ _ _ _ _ c.loop-entry.invariant.lists c.in-Ok.ensures.value.0;
  adds = adds_then (entry_keys c.args.entries.now) (own_keys c.entry-item.result.id) _ _ _
      (λ id there. own_among c.args.entries.now c.loop-entry.entry-index c.entry-item.result (omega arith) c.entry-item.is (fs_key id) there)
      c.loop-entry.invariant.adds c.in-Ok.ensures.named;
  left = entries_next c.args.entries.now c.loop-entry.entry-index c.entry-item.result c.loop-entry.seen c.note.new.seen (omega arith) c.entry-item.is
      c.loop-entry.invariant.left c.in-Ok.ensures.value.0.met c.in-Ok.ensures.value.1;
}

pub returns : goal.returns
returns c = record {
  value = (c.loop-entry.invariant.lists, entries_end c.args.entries.now c.loop-entry.entry-index c.loop-entry.seen (omega arith) c.loop-entry.invariant.left);
  named = c.loop-entry.invariant.adds;
}

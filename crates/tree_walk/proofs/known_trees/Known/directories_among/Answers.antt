use Rattle.std.proofs.Common.{List, ap, arith, if◌then◌else◌, None, ◌∙◌}
use Rattle.std.proofs.lemmas.List.{take_all}
use Rattle.ids.specs.declared.key.Key.{Key}
use Rattle.object_graph.specs.Traversal.{is_in}
use Rattle.tree_walk.specs.KnownTrees.{extent_known, put_known}
use Rattle.tree_walk.proofs.KeptTreesLemmas.{among_next, among_none}
use Rattle.tree_walk.proofs.known_trees.Known.directories_among.Goals as goal

pub loop-key-init : goal.loop-key-init
loop-key-init c = among_none (extent_known c.args.self.now) c.new-among.result c.new-among.ensures.value

pub loop-key-preserved : goal.loop-key-preserved
loop-key-preserved c =
    among_next (extent_known c.args.self.now) c.args.keys.now c.loop-key.key-index c.key-item.result c.loop-key.among c.put_extent.new.among (omega arith) c.key-item.is
    (c.in_ok-put_extent.ensures.ok ∙ ap (put_known c.loop-key.among c.key-item.result) c.extent.ensures.value) c.loop-key.invariant

pub returns : goal.returns
returns c = record {
  value = λ key.
      c.loop-key.invariant key
      ∙ ap (λ (keys : List Key). if is_in keys key then extent_known c.args.self.now key else None) (take_all c.loop-key.key-index c.args.keys.now (omega arith));
}

use Rattle.std.proofs.Common.{ap, sym, ◌∙◌}
use Rattle.ids.specs.MapView.{map_of}
use Rattle.ids.specs.ObjectId.{id_cmp}
use Rattle.tree_walk.specs.Known.{with_ids}
use Rattle.tree_walk.proofs.KnownLemmas.{with_ids_push}
use Rattle.tree_walk.proofs.fs_list.ids_of.Goals as goal

pub loop-key-preserved : goal.loop-key-preserved
loop-key-preserved c = (
  ap (with_ids c.args.known.now c.pop.new.self.items) c.in_ok-add.ensures.ok
      ∙ sym (with_ids_push c.args.known.now c.pop.new.self.items c.in-Some.key (map_of id_cmp c.loop-key.ids))
      ∙ ap (λ ks. with_ids c.args.known.now ks (map_of id_cmp c.loop-key.ids)) (sym c.in-Some.ensures.items)
      ∙ c.loop-key.invariant.0,
  c.add.ensures.ordered,
)

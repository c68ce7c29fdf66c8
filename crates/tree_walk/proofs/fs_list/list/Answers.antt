use Rattle.std.proofs.Common.{ap, ◌∙◌, subst}
use Rattle.std.specs.FinMap as map
use Rattle.tree_walk.specs.Known.{Knows, with_ids}
use Rattle.tree_walk.proofs.KnownLemmas.{with_ids_are}
use Rattle.tree_walk.proofs.fs_list.list.Goals as goal

pub returns : goal.returns
returns c = record {
  value =
      c.in_ok-list.ensures.value
      ∙ ap map.keys (c.in_ok-ids.ensures.value
      ∙ ap (λ ks. with_ids c.in_ok-known.known ks map.empty) c.into_vec.ensures.value
      ∙ with_ids_are c.in_ok-known.known c.args.known.now (subst (λ ks. Knows ks c.in_ok-known.known) c.slice.ensures.value c.in_ok-known.ensures.value) c.args.wanted);
}

-- As the map is empty, all was taken.
use Rattle.std.proofs.Common.{◌≡◌, ◌++◌, ap, sym, ◌∙◌, btree_map_len, append-nil}
use Rattle.std.specs.Prelude.{map as list_map}
use Rattle.ids.proofs.KeyOrderLemmas.{id_cmp_total}
use Rattle.ids.proofs.MapLemmas.{entries-map_of, no_number}
use Rattle.tree_walk.proofs.KnownLemmas.{firsts, firsts_are, no_ids}
use Rattle.tree_walk.proofs.fs_list.keys_of.Goals as goal

pub returns : goal.returns
returns c = record {
  value =
      let none : btree_map_len c.loop-id.ids ≡ 0 = no_number (btree_map_len c.loop-id.ids) c.in_default.ensures.variant.1 in
      sym (append-nil c.loop-id.list)
      ∙ ap (λ ps. c.loop-id.list ++ firsts ps) (sym (no_ids c.loop-id.ids.entries none))
      ∙ c.loop-id.invariant
      ∙ sym (firsts_are c.args.ids.entries)
      ∙ ap (list_map (λ p. p.0)) (sym (entries-map_of id_cmp_total c.args.ids c.requires.ordered));
}

-- The first key is the least, and there is none where the map has no key.
use Rattle.std.specs.BTreeMap.{btree_map_len}
use Rattle.ids.proofs.KeyOrderLemmas.{key_cmp_total}
use Rattle.ids.proofs.MapLemmas.{least-first, no_number, none-first}
use Rattle.ids.proofs.key_table.first.Goals as goal

pub returns-in-Some : goal.returns-in-Some
returns-in-Some g c = record {
  value = least-first key_cmp_total c.args.held.now c.in-Some.key.now c.in-Some.field-0-1.now c.in-Some.ensures.value c.in-Some.ensures.least;
}

pub returns-in-None : goal.returns-in-None
returns-in-None g c = record {
  value = λ q _. none-first key_cmp_total c.args.held.now (no_number (btree_map_len c.args.held.now) c.in-None.ensures.variant.1) q;
}

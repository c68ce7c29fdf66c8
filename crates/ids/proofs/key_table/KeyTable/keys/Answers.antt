-- The table is built of the keys.
use Rattle.ids.proofs.KeyOrderLemmas.{key_cmp_total}
use Rattle.ids.proofs.MapLemmas.{keys-built}
use Rattle.ids.proofs.key_table.KeyTable.keys.Goals as goal

pub returns : goal.returns
returns g c = rw (← c.self.view_is) record {
  value = λ key.
      keys-built key_cmp_total c.self.inside.held c.in_ok-pairs.pairs.items c.in_ok-held.held c.in_ok-pairs.ensures.value c.in_ok-held.ensures.value key;
}

-- Each call keeps objects under their own names.
use Rattle.object_store.proofs.RefusalLemmas.{names-empty, names-insert, names-remove, undamaged}
use Rattle.object_store.proofs.laws.what_a_store_put_is_never_damaged.Goals as goal

pub returns : goal.returns
returns c = record {
  absent = names-empty;
  ok = names-insert;
  stays = names-remove;
  value = undamaged;
}

-- The ids of a body are those of its tokens, and a body that is no UTF-8 has none.
use Rattle.http_front.proofs.IdArrayLemmas.{ids_of-utf8, ids_of-none}
use Rattle.http_front.proofs.id_array.read_ids.Goals as goal

pub returns-in-Ok : goal.returns-in-Ok
returns-in-Ok c = record {
  value = rw (ids_of-utf8 c.args.body.now c.in-Ok.ensures.cases.1, ← c.in-Ok.ensures.cases.0) c.ids_of_text.ensures.value;
}

pub returns-in-Err : goal.returns-in-Err
returns-in-Err c = record { value = ids_of-none c.args.body.now c.in-Err.ensures.cases.0 }

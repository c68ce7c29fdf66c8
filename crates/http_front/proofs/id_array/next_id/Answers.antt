-- The first token tells whether the item is the text of an id.
use Rattle.json.specs.Reads.{token_of}
use Rattle.http_front.proofs.IdArrayLemmas.{some_id, no_id, no_id_at_end}
use Rattle.http_front.proofs.id_array.next_id.Goals as goal

pub returns-in-Some-clause-found : goal.returns-in-Some-clause-found
returns-in-Some-clause-found c = some_id (token_of c.in-Some.token) c.args.reader.now c.next.new.self c.in-Some.ensures.value c.id_in_token.result c.id_in_token.ensures.value

pub returns-in-Some-clause-absent : goal.returns-in-Some-clause-absent
returns-in-Some-clause-absent c = no_id (token_of c.in-Some.token) c.args.reader.now c.next.new.self c.in-Some.ensures.value c.id_in_token.result c.id_in_token.ensures.value

pub returns-in-None-clause-absent : goal.returns-in-None-clause-absent
returns-in-None-clause-absent c = no_id_at_end c.args.reader.now c.in-None.ensures.value.0

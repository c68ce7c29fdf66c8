-- The first token tells whether the value is an object.
use Rattle.json.specs.Reads.{token_of}
use Rattle.json_words.specs.Fields.{is_object}
use Rattle.std.proofs.Common.{◌≡◌, false}
use Rattle.json_tokens.proofs.OpeningLemmas.{opens_object_by, opens_nothing}
use Rattle.json_tokens.proofs.opening.opens_object.Goals as goal

pub returns-in-Some : goal.returns-in-Some
returns-in-Some c = record {
  value = opens_object_by c.is_brace.result (token_of c.in-Some.token) c.args.reader.now c.next.new.self (c.is_brace.ensures.value) c.in-Some.ensures.value;
}

pub returns-in-None : goal.returns-in-None
returns-in-None c = record { value = opens_nothing (λ d. is_object d ≡ false) c.args.reader.now c.in-None.ensures.value.0 }

-- The first token tells whether the value is an array.
use Rattle.json.specs.Reads.{token_of}
use Rattle.serde_json.specs.Find.{as_array}
use Rattle.std.proofs.Common.{◌≡◌, None}
use Rattle.json_tokens.proofs.OpeningLemmas.{opens_array_by, opens_nothing}
use Rattle.json_tokens.proofs.opening.opens_array.Goals as goal

pub returns-in-Some : goal.returns-in-Some
returns-in-Some c = record {
  value = opens_array_by c.is_bracket.result (token_of c.in-Some.token) c.args.reader.now c.next.new.self (c.is_bracket.ensures.value) c.in-Some.ensures.value;
}

pub returns-in-None : goal.returns-in-None
returns-in-None c = record { value = opens_nothing (λ d. as_array d ≡ None) c.args.reader.now c.in-None.ensures.value.0 }

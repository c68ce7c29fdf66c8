-- What `serde_json` answers is the value of the bytes, as UTF-8 or not.
use Rattle.std.proofs.Common.{sym, ◌∙◌}
use Rattle.std.proofs.lemmas.Bool.{false≢true}
use Rattle.json_words.proofs.JsonLemmas.{json_of-utf8, json_of-none}
use Rattle.json_words.proofs.json_text.parse.Goals as goal

pub returns-in-Ok : goal.returns-in-Ok
returns-in-Ok c =
    record { value = sym (json_of-utf8 c.args.bytes.now c.in-Ok.ensures.ok.0 ∙ c.in-Ok.ensures.ok.1) }

pub returns-else-is_memory : goal.returns-else-is_memory
returns-else-is_memory c = record {
  value = sym (json_of-none c.args.bytes.now (c.in-Err.ensures.err (λ memory. false≢true (c.if-is_memory.ensures.1 memory))));
}

-- Bytes that are no UTF-8 have no value.
use Rattle.std.proofs.Common.{map, option_map, sym, ap, ◌∙◌}
use Rattle.serde_json.specs.Read.{read}
use Rattle.json_tokens.specs.Kept.{kept}
use Rattle.json_words.proofs.JsonLemmas.{json_of-utf8, json_of-none}
use Rattle.json_tokens.proofs.kept.parse_kept.Goals as goal

pub returns-in-Err : goal.returns-in-Err
returns-in-Err c = record { value = sym (ap (option_map (kept (map (λ key. key.now) c.args.known.now))) (json_of-none c.args.bytes.now (λ text. absurd (c.in-Err.ensures.cases.0 text)))) }

pub returns-in-Ok : goal.returns-in-Ok
returns-in-Ok c =
    let cases = c.in-Ok.ensures.cases in
    let same = ap read cases.0 ∙ sym (json_of-utf8 c.args.bytes.now cases.1) in
    record { value = rw (← same) c.kept_text.ensures.value }

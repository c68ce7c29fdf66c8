-- The digits of an id have its form, and decode to it.
use Rattle.std.proofs.Common.{sym, ap, ◌∙◌}
use Rattle.json_words.specs.IdText.{object_id_of}
use Rattle.json_words.proofs.IdLemmas.{object_id_of-good}
use Rattle.json_words.proofs.id_writing.id_value.Goals as goal

pub returns-clause-reads_back : goal.returns-clause-reads_back
returns-clause-reads_back c =
    let digits = c.digits-digits in
    ap object_id_of (sym digits.ensures.value) ∙ object_id_of-good digits.result c.args.id.now digits.ensures.form digits.ensures.decoded

-- The digits of a secret have their form, and decode to it.
use Rattle.std.proofs.Common.{sym, ap, ◌∙◌}
use Rattle.json_words.specs.IdText.{object_id_of}
use Rattle.json_words.proofs.IdLemmas.{object_id_of-good}
use Rattle.library_state.proofs.state_writing.secret_value.Goals as goal

pub returns-clause-reads_back : goal.returns-clause-reads_back
returns-clause-reads_back c =
    let digits = c.digits-digits in
    ap object_id_of (sym digits.ensures.value) ∙ object_id_of-good digits.result c.args.secret.now digits.ensures.form digits.ensures.decoded

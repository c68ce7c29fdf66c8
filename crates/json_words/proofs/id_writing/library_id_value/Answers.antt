-- The characters of a library id have its form, and decode to it.
use Rattle.std.proofs.Common.{sym, ap, ◌∙◌}
use Rattle.json_words.specs.IdText.{library_id_of}
use Rattle.json_words.proofs.IdLemmas.{library_id_of-good}
use Rattle.json_words.proofs.id_writing.library_id_value.Goals as goal

pub returns-clause-reads_back : goal.returns-clause-reads_back
returns-clause-reads_back c =
    let characters = c.digits-characters in
    ap library_id_of (sym characters.ensures.value) ∙ library_id_of-good characters.result c.args.id.now characters.ensures.form characters.ensures.decoded

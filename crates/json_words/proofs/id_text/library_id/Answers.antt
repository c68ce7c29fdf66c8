-- `LibId::read` accepts exactly the texts of library ids.
use Rattle.std.proofs.Common.{sym, refl}
use Rattle.std.proofs.lemmas.Bool.{false≢true}
use Rattle.json_words.proofs.IdLemmas.{library_id_of-good, library_id_of-bad}
use Rattle.json_words.proofs.id_text.library_id.Goals as goal

pub returns-in-Ok : goal.returns-in-Ok
returns-in-Ok c = record {
  value = sym (library_id_of-good c.args.text.now c.in-Ok.id (c.in-Ok.ensures.form.0 refl) c.in-Ok.ensures.decoded);
}

pub returns-in-Err : goal.returns-in-Err
returns-in-Err c =
    record { value = sym (library_id_of-bad c.args.text.now (λ is. false≢true (c.in-Err.ensures.form.1 is))) }

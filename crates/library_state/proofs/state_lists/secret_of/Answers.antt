-- `Secret::read` accepts exactly the texts of secrets.
use Rattle.std.proofs.Common.{sym, refl}
use Rattle.std.proofs.lemmas.Bool.{false≢true}
use Rattle.json_words.proofs.IdLemmas.{object_id_of-good, object_id_of-bad}
use Rattle.library_state.proofs.state_lists.secret_of.Goals as goal

pub returns-in-Ok : goal.returns-in-Ok
returns-in-Ok c = record {
  value = sym (object_id_of-good c.args.text.now c.in-Ok.secret (c.in-Ok.ensures.form.0 refl) c.in-Ok.ensures.decoded);
}

pub returns-in-Err : goal.returns-in-Err
returns-in-Err c =
    record { value = sym (object_id_of-bad c.args.text.now (λ is. false≢true (c.in-Err.ensures.form.1 is))) }

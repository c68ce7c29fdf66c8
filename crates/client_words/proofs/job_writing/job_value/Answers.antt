-- The digits of an id have its form, and decode to it.
use Rattle.std.proofs.Common.{Result, Ok, Err, OnOk, sym, ap, ◌∙◌}
use Rattle.json_words.specs.IdText.{library_id_of, object_id_of}
use Rattle.json_words.proofs.IdLemmas.{library_id_of-good, object_id_of-good}
use Rattle.client_words.proofs.job_writing.job_value.Goals as goal

on_ok : {T E : Type 0} (P : Type 0) (r : Result T E) → P → OnOk r P
on_ok P (Ok x) holds = holds
on_ok P (Err e) holds = tt

pub returns-clause-typed : goal.returns-clause-typed
returns-clause-typed c =
    let lib = c.digits-lib in
    let secret = c.digits-secret in
    on_ok _ c.job_with.result (record {
      lib = ap library_id_of (sym lib.ensures.value) ∙ library_id_of-good lib.result c.args.job.now.lib lib.ensures.form lib.ensures.decoded;
      secret = ap object_id_of (sym secret.ensures.value) ∙ object_id_of-good secret.result c.args.job.now.secret secret.ensures.form secret.ensures.decoded;
    })

-- What is read is the id of the digits; what isn't read is the digits of none.
use Rattle.std.proofs.Common.{refl}
use Rattle.folder_storage.proofs.PathLemmas.{decoded-id, not-digits}
use Rattle.folder_storage.proofs.listing.id_read.Goals as goal

pub returns-in-Ok : goal.returns-in-Ok
returns-in-Ok c = record {
  value = (decoded-id c.args.text.now c.in-Ok.id (c.in-Ok.ensures.form.0 refl) c.in-Ok.ensures.decoded, c.in-Ok.ensures.value);
}

pub returns-in-Err : goal.returns-in-Err
returns-in-Err c = record { value = not-digits c.args.text.now c.in-Err.ensures.form.1 }

-- A token stays up to date, and what was safe stays safe, while no collection begins.
use Rattle.library_rules.proofs.UploadWholeLemmas.{upload_holds}
use Rattle.library_rules.proofs.upload_laws.an_upload_holds_until_the_next_collection_begins.Goals as goal

pub returns : goal.returns
returns c = upload_holds

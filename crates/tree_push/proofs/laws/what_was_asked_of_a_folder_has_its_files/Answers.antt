use Rattle.tree_push.proofs.AskedHadLemmas.{asked_had}
use Rattle.tree_push.proofs.laws.what_was_asked_of_a_folder_has_its_files.Goals as goal

pub returns : goal.returns
returns c = λ cuts folder index scan wanted is files seen named library first second third made_asked blocks_asked put.
    asked_had cuts folder index scan is wanted files seen named library first second third made_asked blocks_asked put

use Rattle.worker_server.proofs.EachLemmas.{each_has_text}
use Rattle.worker_server.proofs.laws.what_one_reply_packs_has_a_text.Goals as goal

pub returns : goal.returns
returns c = λ rows fits. each_has_text rows fits

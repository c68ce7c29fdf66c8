use Rattle.stop_laws.proofs.RunLemmas.{installed_settled}
use Rattle.stop_laws.proofs.laws.an_answered_update_keeps_its_commit_in_a_settled_text.Goals as goal

pub returns : goal.returns
returns g c = installed_settled g.S.Shelf.contents g.S.Shelf.may_give g.S.Shelf.texts g.S.Shelf.faults

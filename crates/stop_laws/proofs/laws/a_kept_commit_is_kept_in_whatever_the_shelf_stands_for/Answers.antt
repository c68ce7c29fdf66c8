use Rattle.stop_laws.proofs.RunLemmas.{kept_run}
use Rattle.stop_laws.proofs.laws.a_kept_commit_is_kept_in_whatever_the_shelf_stands_for.Goals as goal

pub returns : goal.returns
returns g c = kept_run g.S.Shelf.contents g.S.Shelf.may_give g.S.Shelf.texts g.S.Shelf.faults

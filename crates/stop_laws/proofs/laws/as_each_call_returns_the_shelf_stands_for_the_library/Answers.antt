use Rattle.stop_laws.proofs.DoneLemmas.{leaves}
use Rattle.stop_laws.proofs.laws.as_each_call_returns_the_shelf_stands_for_the_library.Goals as goal

pub returns : goal.returns
returns g c = leaves g.S.Shelf.contents g.S.Shelf.may_give g.S.Shelf.texts g.S.Shelf.faults

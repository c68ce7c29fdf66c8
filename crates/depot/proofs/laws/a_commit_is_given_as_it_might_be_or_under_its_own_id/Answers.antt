use Rattle.depot.proofs.GivenLemmas.{commit_given}
use Rattle.depot.proofs.laws.a_commit_is_given_as_it_might_be_or_under_its_own_id.Goals as goal

pub returns : goal.returns
returns g c = commit_given g.S.Shelf.contents g.S.Shelf.may_give g.S.Shelf.texts g.S.Shelf.faults

use Rattle.depot.proofs.StoryLemmas.{sound_still}
use Rattle.depot.proofs.laws.a_library_that_stood_sound_stays_sound.Goals as goal

pub returns : goal.returns
returns g c = sound_still g.S.Shelf.contents g.S.Shelf.may_give g.S.Shelf.texts g.S.Shelf.faults

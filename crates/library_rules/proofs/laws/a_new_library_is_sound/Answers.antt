use Rattle.library_rules.proofs.CreatedLemmas.{sound_created}
use Rattle.library_rules.proofs.laws.a_new_library_is_sound.Goals as goal

pub returns : goal.returns
returns c = sound_created

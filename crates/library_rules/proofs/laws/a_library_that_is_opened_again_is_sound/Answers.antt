use Rattle.library_rules.proofs.ReopenedLemmas.{sound_opened}
use Rattle.library_rules.proofs.laws.a_library_that_is_opened_again_is_sound.Goals as goal

pub returns : goal.returns
returns c = λ s slot lying faults sound stands less. sound_opened s lying faults sound stands.lies less

use Rattle.library_rules.proofs.ProperTextLemmas.{sound_is_proper}
use Rattle.library_rules.proofs.laws.a_sound_state_is_written_as_a_proper_one.Goals as goal

pub returns : goal.returns
returns c = sound_is_proper

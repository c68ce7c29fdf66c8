use Rattle.library_rules.proofs.StepLemmas.{sound_apply}
use Rattle.library_rules.proofs.laws.what_is_permitted_keeps_a_sound_state_sound.Goals as goal

pub returns : goal.returns
returns c = sound_apply

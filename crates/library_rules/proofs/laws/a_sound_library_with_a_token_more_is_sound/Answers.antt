use Rattle.library_rules.proofs.CreatedLemmas.{sound_with_token}
use Rattle.library_rules.proofs.laws.a_sound_library_with_a_token_more_is_sound.Goals as goal

pub returns : goal.returns
returns c = sound_with_token

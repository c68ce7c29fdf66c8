use Rattle.library_rules.proofs.HistoryLemmas.{sound_after}
use Rattle.library_rules.proofs.laws.a_legal_history_keeps_a_sound_state_sound.Goals as goal

pub returns : goal.returns
returns c = sound_after

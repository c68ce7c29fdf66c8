use Rattle.library_state.proofs.StateWrittenLemmas.{state_of-text_of}
use Rattle.library_state.proofs.laws.a_state_is_read_back_from_its_text.Goals as goal

pub returns : goal.returns
returns c = state_of-text_of

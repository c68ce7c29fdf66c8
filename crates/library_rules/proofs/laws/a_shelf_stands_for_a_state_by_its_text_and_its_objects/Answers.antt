use Rattle.library_rules.proofs.ProperTextLemmas.{sound_is_proper}
use Rattle.library_rules.proofs.ReopenedLemmas.{stands_by_its_objects}
use Rattle.library_rules.proofs.laws.a_shelf_stands_for_a_state_by_its_text_and_its_objects.Goals as goal

pub returns : goal.returns
returns c = λ s slot lying sound reads text keeps. stands_by_its_objects s slot lying sound text (reads (sound_is_proper s sound)) keeps

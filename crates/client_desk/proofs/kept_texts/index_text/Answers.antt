use Rattle.std.proofs.Common.{ap, ◌∙◌}
use Rattle.folder_texts.specs.FolderTexts.{text_at}
use Rattle.client_desk.proofs.KeptLemmas.{free_as, told_as}
use Rattle.client_desk.proofs.kept_texts.index_text.Goals as goal

pub returns-in-Ok-text_in-clause-value : goal.returns-in-Ok-text_in-clause-value
returns-in-Ok-text_in-clause-value g c = λ c' t. c.in-Ok-text_in.ensures.value c' t ∙ ap (text_at c') c.in-Ok.ensures.value

pub returns-clause-free : goal.returns-clause-free
returns-clause-free g c = free_as c.in-Err-text_in.fault c.fault_of_folder.result c.fault_of_folder.ensures.value

pub returns-clause-faults : goal.returns-clause-faults
returns-clause-faults g c = told_as _ _ c.in-Err-text_in.fault c.fault_of_folder.result c.fault_of_folder.ensures.value c.in-Err-text_in.ensures.faults

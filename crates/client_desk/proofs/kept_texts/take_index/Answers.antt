use Rattle.std.proofs.Common.{Ok, Err}
use Rattle.std.specs.Prelude.{⊤}
use Rattle.folder_side.specs.declared.error.FolderFault.{FolderFault}
use Rattle.client_desk.specs.KeptTexts.{index_name}
use Rattle.client_desk.proofs.KeptLemmas.{free_as, taken_told, told_as}
use Rattle.client_desk.proofs.kept_texts.take_index.Goals as goal

pub returns-in-Ok-take_text-clause-value : goal.returns-in-Ok-take_text-clause-value
returns-in-Ok-take_text-clause-value g c = λ c' t.
    taken_told {T = ⊤} {E = FolderFault} c.in-Ok.name (index_name c.args.lib.now) _ _ (Ok tt) c.in-Ok.ensures.value (c.in-Ok-take_text.ensures.value c' t)

pub returns-clause-value : goal.returns-clause-value
returns-clause-value g c = λ c' t.
    taken_told {T = ⊤} {E = FolderFault} c.in-Ok.name (index_name c.args.lib.now) _ _ (Err c.in-Err-take_text.fault) c.in-Ok.ensures.value (c.in-Err-take_text.ensures.value c' t)

pub returns-clause-free : goal.returns-clause-free
returns-clause-free g c = free_as c.in-Err-take_text.fault c.fault_of_folder.result c.fault_of_folder.ensures.value

pub returns-clause-faults : goal.returns-clause-faults
returns-clause-faults g c = told_as _ _ c.in-Err-take_text.fault c.fault_of_folder.result c.fault_of_folder.ensures.value c.in-Err-take_text.ensures.faults

use Rattle.std.proofs.Common.{◌≡◌, ℕ, List, Ok, Err, subst}
use Rattle.std.specs.Prelude.{⊤}
use Rattle.folder_side.specs.declared.error.FolderFault.{FolderFault}
use Rattle.local_index.specs.IndexSpelling.{text_of}
use Rattle.local_index.specs.IndexText.{index_of}
use Rattle.client_desk.specs.KeptTexts.{index_name}
use Rattle.client_desk.proofs.KeptLemmas.{free_as, put_told, told_as}
use Rattle.client_desk.proofs.kept_texts.put_index.Goals as goal

pub returns-in-Ok-put_text-clause-value : goal.returns-in-Ok-put_text-clause-value
returns-in-Ok-put_text-clause-value g c = λ c' t.
    put_told {T = ⊤} {E = FolderFault} c.in-Ok.name (index_name c.args.index.now.lib) c.slice.result.now c.in-Ok-write.text (text_of c.args.index.now) _ _ (Ok tt)
    c.in-Ok.ensures.value c.slice.ensures.value c.in-Ok-write.ensures.value (c.in-Ok-put_text.ensures.value c' t)

pub returns-in-Ok-put_text-clause-reads_back : goal.returns-in-Ok-put_text-clause-reads_back
returns-in-Ok-put_text-clause-reads_back g c = λ proper.
    subst (λ (text : List ℕ). index_of text ≡ Ok c.args.index.now) c.in-Ok-write.ensures.value (c.in-Ok-write.ensures.reads_back proper)

pub returns-clause-value : goal.returns-clause-value
returns-clause-value g c = λ c' t.
    put_told {T = ⊤} {E = FolderFault} c.in-Ok.name (index_name c.args.index.now.lib) c.slice.result.now c.in-Ok-write.text (text_of c.args.index.now) _ _ (Err c.in-Err-put_text.fault)
    c.in-Ok.ensures.value c.slice.ensures.value c.in-Ok-write.ensures.value (c.in-Err-put_text.ensures.value c' t)

pub returns-clause-free : goal.returns-clause-free
returns-clause-free g c = free_as c.in-Err-put_text.fault c.fault_of_folder.result c.fault_of_folder.ensures.value

pub returns-clause-faults : goal.returns-clause-faults
returns-clause-faults g c = told_as _ _ c.in-Err-put_text.fault c.fault_of_folder.result c.fault_of_folder.ensures.value c.in-Err-put_text.ensures.faults

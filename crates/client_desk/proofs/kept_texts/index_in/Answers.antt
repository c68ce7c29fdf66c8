use Rattle.std.proofs.Common.{inl, inr, refl}
use Rattle.folder_texts.specs.FolderTexts.{text_at}
use Rattle.client_desk.specs.KeptTexts.{index_name}
use Rattle.client_desk.proofs.KeptLemmas.{index_found_none, index_found_some, stays_so}
use Rattle.client_desk.proofs.kept_texts.index_in.Goals as goal

pub returns-in-Err-clause-value : goal.returns-in-Err-clause-value
returns-in-Err-clause-value g c = λ c' t. inr c.in-Err.ensures.free

pub returns-in-Some-clause-value : goal.returns-in-Some-clause-value
returns-in-Some-clause-value g c = λ c' t.
    index_found_some c.args.lib.now (text_at c' (index_name c.args.lib.now)) c.in-Ok.found c.in-Some.text c.slice.result.now c.read_index.result
    (c.in-Ok.ensures.value c' t) c.in-Some.is c.slice.ensures.value c.read_index.ensures.value

pub returns-in-Some-clause-faults : goal.returns-in-Some-clause-faults
returns-in-Some-clause-faults g c = stays_so _ _ c.read_index.result c.in-Ok.ensures.faults c.read_index.ensures.faults

pub returns-in-None-clause-value : goal.returns-in-None-clause-value
returns-in-None-clause-value g c = λ c' t.
    index_found_none c.args.lib.now (text_at c' (index_name c.args.lib.now)) c.in-Ok.found (c.in-Ok.ensures.value c' t) c.in-None.is

pub returns-in-Err-clause-may : goal.returns-in-Err-clause-may
returns-in-Err-clause-may g c = inr c.in-Err.ensures.free

pub returns-in-None-clause-may : goal.returns-in-None-clause-may
returns-in-None-clause-may g c = inl refl

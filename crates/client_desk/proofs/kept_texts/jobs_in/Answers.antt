use Rattle.std.proofs.Common.{inl, inr, refl}
use Rattle.folder_texts.specs.FolderTexts.{text_at}
use Rattle.client_desk.specs.KeptTexts.{jobs_name}
use Rattle.client_desk.proofs.KeptLemmas.{jobs_found_none, jobs_found_some, list_may, stays_so}
use Rattle.client_desk.proofs.kept_texts.jobs_in.Goals as goal

pub returns-in-Err-clause-value : goal.returns-in-Err-clause-value
returns-in-Err-clause-value g c = λ c' t. inr c.in-Err.ensures.free

pub returns-in-Some-clause-value : goal.returns-in-Some-clause-value
returns-in-Some-clause-value g c = λ c' t.
    jobs_found_some (text_at c' jobs_name) c.in-Ok.found c.in-Some.text c.slice.result.now c.read_list.result (c.in-Ok.ensures.value c' t) c.in-Some.is
    c.slice.ensures.value c.read_list.ensures.value

pub returns-in-Some-clause-faults : goal.returns-in-Some-clause-faults
returns-in-Some-clause-faults g c = stays_so _ _ c.read_list.result c.in-Ok.ensures.faults c.read_list.ensures.faults

pub returns-in-None-clause-value : goal.returns-in-None-clause-value
returns-in-None-clause-value g c = λ c' t. jobs_found_none (text_at c' jobs_name) c.in-Ok.found (c.in-Ok.ensures.value c' t) c.in-None.is

pub returns-in-Err-clause-may : goal.returns-in-Err-clause-may
returns-in-Err-clause-may g c = inr (inr c.in-Err.ensures.free)

pub returns-in-Some-clause-may : goal.returns-in-Some-clause-may
returns-in-Some-clause-may g c = list_may c.read_list.result c.read_list.ensures.may

pub returns-in-None-clause-may : goal.returns-in-None-clause-may
returns-in-None-clause-may g c = inl refl

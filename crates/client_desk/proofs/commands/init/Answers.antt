use Rattle.std.proofs.Common.{inl, inr, refl, ◌∙◌}
use Rattle.folder_texts.specs.FolderTexts.{text_at}
use Rattle.client_desk.specs.KeptTexts.{jobs_name}
use Rattle.client_desk.proofs.ListLemmas.{init_free, init_may, init_put, init_there}
use Rattle.client_desk.proofs.commands.init.Goals as goal

pub returns-in-Err-clause-value : goal.returns-in-Err-clause-value
returns-in-Err-clause-value g c = λ c' t. init_free c' (text_at c' jobs_name) _ c.in-Err.fault c.in-Err.ensures.free (c.in-Err.ensures.stays ∙ t)

pub returns-in-Err-clause-may : goal.returns-in-Err-clause-may
returns-in-Err-clause-may g c = inr c.in-Err.ensures.free

pub returns-in-Some-clause-may : goal.returns-in-Some-clause-may
returns-in-Some-clause-may g c = inl refl

pub returns-in-None-clause-may : goal.returns-in-None-clause-may
returns-in-None-clause-may g c = init_may c.put_jobs.result c.put_jobs.ensures.free

pub returns-in-Some-clause-value : goal.returns-in-Some-clause-value
returns-in-Some-clause-value g c = λ c' t. init_there c' _ (text_at c' jobs_name) c.in-Ok.found _ (c.in-Ok.ensures.value c' t) c.in-Some.is (c.in-Ok.ensures.stays ∙ t)

pub returns-in-None-clause-value : goal.returns-in-None-clause-value
returns-in-None-clause-value g c = λ c' t.
    let held = c.in-Ok.ensures.stays ∙ t in
    init_put c' (text_at c' jobs_name) c.in-Ok.found _ _ c.put_jobs.result (c.in-Ok.ensures.value c' t) c.in-None.is held (c.put_jobs.ensures.value c' held) c.put_jobs.ensures.free

use Rattle.std.proofs.Common.{inl, inr, option_map, refl, ap, ◌∙◌}
use Rattle.folder_texts.specs.FolderTexts.{text_at}
use Rattle.client_desk.specs.Commands.{with_jobs}
use Rattle.client_desk.specs.KeptTexts.{jobs_found, jobs_name}
use Rattle.client_desk.proofs.ListLemmas.{no_job, put_failed, refused, take_failed, taken}
use Rattle.client_desk.proofs.commands.desync.Goals as goal

pub returns-in-Err-clause-value : goal.returns-in-Err-clause-value
returns-in-Err-clause-value g c = λ c' t.
    refused c.args.dir.now c' (jobs_found (text_at c' jobs_name)) _ c.in-Err.fault (c.in-Err.ensures.value c' t) (c.in-Err.ensures.stays ∙ t)

pub returns-in-None-clause-value : goal.returns-in-None-clause-value
returns-in-None-clause-value g c = λ c' t.
    no_job c.args.dir.now c' (jobs_found (text_at c' jobs_name)) c.in-Ok.jobs _ (c.in-Ok.ensures.value c' t) c.in-None.ensures.value (c.in-Ok.ensures.stays ∙ t)

pub returns-in-Err-put_jobs-clause-value : goal.returns-in-Err-put_jobs-clause-value
returns-in-Err-put_jobs-clause-value g c = λ c' t.
    let held = c.in-Ok.ensures.stays ∙ t in
    put_failed c.args.dir.now c' (jobs_found (text_at c' jobs_name)) c.in-Ok.jobs c.jobs_without-left.result c.slice.result.now c.in-Some.lib
    (c.in-Ok.ensures.value c' t) c.in-Some.ensures.value c.jobs_without-left.ensures.value c.slice.ensures.value
    _ _ c.in-Err-put_jobs.fault held (c.in-Err-put_jobs.ensures.value c' held) c.in-Err-put_jobs.ensures.free

pub returns-clause-value : goal.returns-clause-value
returns-clause-value g c = λ c' t.
    let held = c.in-Ok.ensures.stays ∙ t in
    let put = c.in_default.ensures.value c' held in
    take_failed c.args.dir.now c' (jobs_found (text_at c' jobs_name)) c.in-Ok.jobs c.jobs_without-left.result c.slice.result.now c.in-Some.lib
    (c.in-Ok.ensures.value c' t) c.in-Some.ensures.value c.jobs_without-left.ensures.value c.slice.ensures.value
    _ _ _ c.in-Err-take_index.fault held put (c.in-Err-take_index.ensures.value (with_jobs c.slice.result.now c') (put ∙ ap (option_map (with_jobs c.slice.result.now)) held)) c.in-Err-take_index.ensures.free

pub returns-in-Ok-take_index-clause-value : goal.returns-in-Ok-take_index-clause-value
returns-in-Ok-take_index-clause-value g c = λ c' t.
    let held = c.in-Ok.ensures.stays ∙ t in
    let put = c.in_default.ensures.value c' held in
    taken c.args.dir.now c' (jobs_found (text_at c' jobs_name)) c.in-Ok.jobs c.jobs_without-left.result c.slice.result.now c.in-Some.lib
    (c.in-Ok.ensures.value c' t) c.in-Some.ensures.value c.jobs_without-left.ensures.value c.slice.ensures.value
    _ _ _ held put (c.in-Ok-take_index.ensures.value (with_jobs c.slice.result.now c') (put ∙ ap (option_map (with_jobs c.slice.result.now)) held))

pub returns-in-Err-clause-may : goal.returns-in-Err-clause-may
returns-in-Err-clause-may g c = inr c.in-Err.ensures.may

pub returns-in-None-clause-may : goal.returns-in-None-clause-may
returns-in-None-clause-may g c = inl refl

pub returns-in-Err-put_jobs-clause-may : goal.returns-in-Err-put_jobs-clause-may
returns-in-Err-put_jobs-clause-may g c = inr (inr (inr c.in-Err-put_jobs.ensures.free))

pub returns-clause-may : goal.returns-clause-may
returns-clause-may g c = inr (inr (inr c.in-Err-take_index.ensures.free))

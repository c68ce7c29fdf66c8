-- The list is put with the job in its place.
use Rattle.std.proofs.Common.{◌∙◌, inl, refl}
use Rattle.client_commands.proofs.KeptSyncLemmas.{added}
use Rattle.client_commands.proofs.kept_syncs.add_job.Goals as goal

pub returns-in-Err-clause-value : goal.returns-in-Err-clause-value
returns-in-Err-clause-value g c = λ held told. inl refl

pub returns-clause-value : goal.returns-clause-value
returns-clause-value g c = λ held told.
    added c.args.new c.args.jobs c.slice.result.now (g.F.Folder.told c.args.conf.now) (g.F.Folder.told c.put_jobs.new.conf) c.put_jobs.result (c.slice.ensures.value ∙ c.in-Ok.ensures.value)
    (c.put_jobs.ensures.value held told)

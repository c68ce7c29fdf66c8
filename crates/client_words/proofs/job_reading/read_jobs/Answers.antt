-- What is read can stand together.
use Rattle.std.proofs.lemmas.Result.{IfOk-weaker}
use Rattle.serde_json.specs.View.{view}
use Rattle.client_words.proofs.JobLemmas.{jobs_in-proper}
use Rattle.client_words.proofs.job_reading.read_jobs.Goals as goal

pub returns-in-Some-clause-proper : goal.returns-in-Some-clause-proper
returns-in-Some-clause-proper c =
    IfOk-weaker c.jobs_in.result _ _ (λ jobs is. jobs_in-proper (view c.in-Some.value) jobs is) c.jobs_in.ensures.value

-- What is written of jobs has no float, and nests two levels.
use Rattle.std.proofs.Common.{◌≡◌, ◌≤◌, List, [], ◌∷◌, map, false, refl, arith}
use Rattle.serde_json.specs.Data.{depth, items_depth}
use Rattle.serde_json.specs.View.{items_of}
use Rattle.serde_json.specs.Written.{has_float, items_have_float}
use Rattle.client_words.specs.JobWriting.{job_data, job_with, list_with}
use Rattle.client_words.specs.declared.job.Job.{Job}

has_float-job_data : (job : Job) → has_float (job_data job) ≡ false
unfolding job_with
has_float-job_data job = refl

depth-job_data : (job : Job) → depth (job_data job) ≡ 1
unfolding job_with
depth-job_data job = refl

no_float_jobs : (jobs : List Job) → items_have_float (items_of (map job_data jobs)) ≡ false
no_float_jobs [] = refl
no_float_jobs (job ∷ jobs) = rw (has_float-job_data job) (no_float_jobs jobs)

shallow_jobs : (jobs : List Job) → items_depth (items_of (map job_data jobs)) ≤ 1
shallow_jobs [] = omega arith
shallow_jobs (job ∷ jobs) = let d = depth-job_data job in let rest = shallow_jobs jobs in omega arith

pub has_float-list : (jobs : List Job) → has_float (list_with (map job_data jobs)) ≡ false
unfolding list_with
has_float-list jobs = rw (no_float_jobs jobs)

pub depth-list : (jobs : List Job) → depth (list_with (map job_data jobs)) ≤ 127
unfolding list_with
depth-list jobs = let rest = shallow_jobs jobs in omega arith

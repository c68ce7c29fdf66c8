-- The values so far are those of the jobs so far.
use Rattle.std.proofs.Common.{◌≡◌, All, map, take}
use Rattle.serde_json.specs.View.{view}
use Rattle.client_words.specs.JobWriting.{job_data}
use Rattle.client_words.specs.TypedJob.{IsTyped}
use Rattle.client_words.proofs.job_writing.job_values.Given as goal

abbrev pub invariant-loop-job : goal.invariant-loop-job
invariant-loop-job l = record {
  value : map view l.values.items ≡ map job_data (take l.job-index l.jobs);
  typed : All IsTyped (take l.job-index l.jobs);
}

-- What is left to read, after the jobs so far, gives the whole answer.
use Rattle.std.proofs.Common.{◌≡◌, [], map, drop}
use Rattle.serde_json.specs.View.{view}
use Rattle.client_words.specs.JobReading.{with_jobs}
use Rattle.client_words.proofs.job_reading.read_items.Given as goal

abbrev pub invariant-loop-item : goal.invariant-loop-item
invariant-loop-item l = with_jobs [] (map view l.items) ≡ with_jobs l.jobs (map view (drop l.item-index l.items))

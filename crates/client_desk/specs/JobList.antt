-- The list of jobs: which job a folder is, and what is left or there as one is taken away or added. Our own. Read job_due,
-- jobs_with and jobs_without.
use Rattle.std.specs.Prelude.{ℕ, Bool, not, ◌&&◌, ◌||◌, if◌then◌else◌, List, ◌∷◌, ◌++◌, take, drop, length, find, position, unwrap_or, Option, None, Some, Result, Ok, Err}
use Rattle.std.specs.Cmp.Lexicographic.{slice_cmp}
use Rattle.std.specs.List.{filter, list_any}
use Rattle.std.specs.Ordering.{is_lt, nat_cmp}
use Rattle.std.specs.Str.{bytes_eq}
use Rattle.client_words.specs.declared.job.Job.{Job}
use Rattle.client_words.specs.declared.fault.Fault.{Fault}
use Rattle.client_words.specs.declared.fault.Fault.TheVariants as fault

-- a job has this folder, or this library
abbrev pub is_of_folder : List ℕ → Job → Bool
is_of_folder dir job = bytes_eq job.dir dir

abbrev pub is_of_library : List ℕ → Job → Bool
is_of_library lib job = bytes_eq job.lib lib

-- ---- a job that is taken away

-- the job of a folder, if there is one
abbrev pub job_of : List ℕ → List Job → Option Job
job_of dir jobs = find (is_of_folder dir) jobs

abbrev pub jobs_without : List ℕ → List Job → List Job
jobs_without dir jobs = filter (λ job. not (is_of_folder dir job)) jobs

-- ---- a job that is asked for

-- both are one job's, or one of them is some job's
abbrev pub is_same_job : Job → Job → Bool
is_same_job new job = is_of_library new.lib job && is_of_folder new.dir job

abbrev pub meets_job : Job → Job → Bool
meets_job new job = is_of_library new.lib job || is_of_folder new.dir job

-- the job that it is already, or none where neither library nor folder is a job's; else it can't be one
abbrev pub job_unless : Bool → Option Job → Result (Option Job) Fault
job_unless met (Some job) = Ok (Some job)
job_unless met None = if met then Err fault.JobExists else Ok None

abbrev pub job_due : List Job → Job → Result (Option Job) Fault
job_due jobs new = job_unless (list_any (meets_job new) jobs) (find (is_same_job new) jobs)

-- a job has a library above that of another
abbrev pub is_above : Job → Job → Bool
is_above new job = is_lt (slice_cmp nat_cmp new.lib job.lib)

-- how many jobs stand before a new one: those before the first whose library is above its own
abbrev pub place_of : Job → List Job → ℕ
place_of new jobs = unwrap_or (position (is_above new) jobs) (length jobs)

-- the jobs with a new one, in the order of their libraries
abbrev pub jobs_with : Job → List Job → List Job
jobs_with new jobs = take (place_of new jobs) jobs ++ new ∷ drop (place_of new jobs) jobs

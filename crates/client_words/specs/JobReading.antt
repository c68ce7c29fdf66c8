-- What the bytes of the client's list of jobs are read as: `seaf.json` of the folder of its own files. docs/FORMATS.md, "The
-- client's list of jobs". Read jobs_of first, at the end, then job_of.
use Rattle.std.specs.Prelude.{ℕ, Bool, ◌&&◌, not, if◌then◌else◌, List, [], ◌∷◌, ◌++◌, Option, Some, None, is_some, codes}
use Rattle.std.specs.Cmp.Lexicographic.{slice_cmp}
use Rattle.std.specs.List.{list_all}
use Rattle.std.specs.Option.{option_and_then}
use Rattle.std.specs.Ordering.{is_lt, nat_cmp}
use Rattle.std.specs.Result.{result_ok}
use Rattle.std.specs.Str.{bytes_eq}
use Rattle.serde_json.specs.Data.{Data}
use Rattle.json_words.specs.Fields.{array_field, has_only, number_between, text_field}
use Rattle.json_words.specs.JsonText.{json_of}
use Rattle.client_words.specs.Address.{host_of, server_by}
use Rattle.client_words.specs.OptionValues.{job_by, lib_in, path_in, secret_in, user_in}
use Rattle.client_words.specs.declared.address.Server.{Server}
use Rattle.client_words.specs.declared.job.Job.{Job}

-- the text of a field
abbrev pub text_at : List ℕ → Data → Option (List ℕ)
text_at name d = result_ok (text_field name d)

-- a number of a field, within these bounds
abbrev pub number_at : ℕ → ℕ → List ℕ → Data → Option ℕ
number_at low high name d = result_ok (number_between low high name d)

-- the name of a host
abbrev pub host_in : Option (List ℕ) → Option (List ℕ)
host_in text = option_and_then host_of text

abbrev pub server_at : Data → Option Server
server_at d = server_by (number_at 1 65535 (codes "port") d) (host_in (text_at (codes "host") d))

-- a job, whose values have the form of their options
abbrev pub parts_of : Data → Option Job
parts_of d = job_by (server_at d) (lib_in (text_at (codes "lib") d)) (secret_in (text_at (codes "secret") d))
    (path_in (text_at (codes "dir") d)) (user_in (text_at (codes "user") d))

unfoldable pub job_keys : List (List ℕ)
job_keys = codes "dir" ∷ codes "host" ∷ codes "lib" ∷ codes "port" ∷ codes "secret" ∷ codes "user" ∷ []

-- the job that an object is, which has no other key
abbrev pub job_of : Data → Option Job
job_of d = if has_only job_keys d then parts_of d else None

-- a job that stands behind another: its library is above the other's, and its folder is not the other's
abbrev pub is_behind : Job → Job → Bool
is_behind other job = is_lt (slice_cmp nat_cmp other.lib job.lib) && not (bytes_eq other.dir job.dir)

-- one job more, which stands behind all
abbrev pub with_job : List Job → Option Job → Option (List Job)
with_job jobs None = None
with_job jobs (Some job) = if list_all (λ other. is_behind other job) jobs then Some (jobs ++ job ∷ []) else None

abbrev pub with_jobs : List Job → List Data → Option (List Job)
with_jobs jobs [] = Some jobs
with_jobs jobs (d ∷ ds) = option_and_then (λ more. with_jobs more ds) (with_job jobs (job_of d))

abbrev pub jobs_at : Data → Option (List Job)
jobs_at d = option_and_then (with_jobs []) (result_ok (array_field (codes "jobs") d))

unfoldable pub list_keys : List (List ℕ)
list_keys = codes "jobs" ∷ codes "version" ∷ []

-- an object with just these keys, of the first version
abbrev pub is_list : Data → Bool
is_list d = has_only list_keys d && is_some (number_at 1 1 (codes "version") d)

abbrev pub jobs_in : Data → Option (List Job)
jobs_in d = if is_list d then jobs_at d else None

-- the jobs of which some bytes are the list, in order
unfoldable pub jobs_of : List ℕ → Option (List Job)
jobs_of bytes = option_and_then jobs_in (json_of bytes)

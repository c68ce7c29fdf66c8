-- The one text of a list of jobs: compact JSON with sorted keys. docs/FORMATS.md, "The client's list of jobs".
-- Read text_of, then AreJobs.
use Rattle.std.specs.Prelude.{◌≡◌, ◌≢◌, ◌≤◌, ℕ, All, Bool, true, ◌&&◌, List, [], ◌∷◌, ◌++◌, map, codes}
use Rattle.std.specs.List.{list_all}
use Rattle.hex.specs.Hex.{encode_lower}
use Rattle.uuid.specs.Text.{hyphenated_text, lower}
use Rattle.serde_json.specs.Data.{Data, number, string, array, object, unsigned, member, no_members}
use Rattle.serde_json.specs.View.{items_of}
use Rattle.serde_json.specs.Written.{compact_text}
use Rattle.server_words.specs.CommandLine.{is_name}
use Rattle.client_words.specs.Address.{is_host}
use Rattle.client_words.specs.JobReading.{is_behind}
use Rattle.client_words.specs.declared.job.Job.{Job}

-- a job, of which the values are given
unfoldable pub job_with : List ℕ → List ℕ → List ℕ → ℕ → List ℕ → List ℕ → Data
job_with dir host lib port secret user =
    object (member (codes "dir") (string dir)
    (member (codes "host") (string host)
    (member (codes "lib") (string lib)
    (member (codes "port") (number (unsigned port))
    (member (codes "secret") (string secret)
    (member (codes "user") (string user) no_members))))))

abbrev pub job_data : Job → Data
job_data job = job_with job.dir job.host (hyphenated_text lower job.lib) job.port (encode_lower job.secret) job.user

-- a list, of which the values are given
unfoldable pub list_with : List Data → Data
list_with jobs =
    object (member (codes "jobs") (array (items_of jobs))
    (member (codes "version") (number (unsigned 1)) no_members))

-- the text of a list of jobs
abbrev pub text_of : List Job → List ℕ
text_of jobs = compact_text (list_with (map job_data jobs))

-- ---- what `read_jobs` tells of each list, and what a list must have to be read as what was written

-- the values of a job have the form of their options
pub record IsJob (job : Job) : Type 0 where
  pub dir : job.dir ≢ []
  pub host : is_host job.host ≡ true
  pub from_one : 1 ≤ job.port
  pub to_port : job.port ≤ 65535
  pub user : is_name job.user ≡ true

-- each job stands behind those before it
abbrev pub stand_in_order : List Job → List Job → Bool
stand_in_order before [] = true
stand_in_order before (job ∷ jobs) = list_all (λ other. is_behind other job) before && stand_in_order (before ++ job ∷ []) jobs

-- jobs in the order of their libraries, no two of one library or of one folder
pub record AreJobs (jobs : List Job) : Type 0 where
  pub forms : All IsJob jobs
  pub order : stand_in_order [] jobs ≡ true

-- A job that the words ask for, and one of a list, has the name of a host. The key lemmas are job_host, found_job and words_ready.
use Rattle.std.proofs.Common.{◌≡◌, ℕ, Bool, true, false, cond, List, [], ◌∷◌, Some, subst}
use Rattle.std.specs.List.{AllByRecursion, find}
use Rattle.std.proofs.lemmas.Bool.{and_parts, leb-true}
use Rattle.std.proofs.lemmas.List.Sums.{AllPass-from_list_all}
use Rattle.http_client.specs.RequestText.{IsHost, is_host_byte}
use Rattle.client_words.specs.Address.{is_host}
use Rattle.client_words.specs.JobWriting.{IsJob}
use Rattle.client_words.specs.ProperWords.{HasProperJob}
use Rattle.client_words.specs.declared.job.Job.{Job}
use Rattle.client_words.specs.declared.words.Words.{Words}
use Rattle.client_words.specs.declared.words.Words.TheVariants as words
use Rattle.client_commands.specs.Runs.{AreReady}

-- ---- hosts

host_so : (host : List ℕ) → is_host host ≡ true → IsHost host
host_so host is =
    let parts = and_parts _ _ is in
    let rest = and_parts _ _ parts.1 in
    record { some = leb-true _ _ parts.0; short = leb-true _ _ rest.0; allowed = AllPass-from_list_all is_host_byte host rest.1 }

pub job_host : (job : Job) → IsJob job → IsHost job.host
job_host job is = host_so job.host is.host

-- a job of a list that is found in it
pub found_job : (p : Job → Bool) (jobs : List Job) (job : Job) → AllByRecursion IsJob jobs → Some job ≡ find p jobs → IsJob job
found_job p [] job all is = let bad : ⊥ = cc in absurd bad
found_job p (x ∷ xs) job all is = by (p x) (found_job p xs job all.1) is
  where
    by : (b : Bool) → (Some job ≡ find p xs → IsJob job) → Some job ≡ cond b (Some x) (find p xs) → IsJob job
    by true later same = let here : x ≡ job = cc in subst IsJob here all.0
    by false later same = later same

-- ---- what the words ask for

pub words_ready : (asked : Words) → HasProperJob asked → AreReady asked
words_ready (words.Download conf job) is = job_host job is
words_ready (words.Sync conf job) is = job_host job is
words_ready other is = tt

-- The written value of jobs is read as the jobs, and what is read are jobs that can stand together.
-- The key lemmas are jobs_in-data, jobs_of-known, job_by-some and jobs_in-proper.
use Rattle.std.proofs.Common.{◌≡◌, ◌≢◌, ◌≤◌, ◌&&◌, ℕ, Bool, true, false, cond, nat_le, List, [], ◌∷◌, ◌++◌, map, codes, All, Option, Some, None, Result, Ok, Err, refl, sym, ap, subst, ◌∙◌, append_assoc, append-nil, arith}
use Rattle.std.proofs.lemmas.Bool.{and_parts, and_from, leb-true}
use Rattle.std.proofs.lemmas.List.Elements.{All-push, recursion_from_All}
use Rattle.std.specs.List.{AllByRecursion, list_all}
use Rattle.std.specs.Prelude.{IfSome}
use Rattle.std.specs.Option.{option_and_then}
use Rattle.std.specs.Result.{result_ok}
use Rattle.hex.specs.Hex.{encode_lower}
use Rattle.uuid.specs.Text.{hyphenated_text, lower}
use Rattle.serde_json.specs.Data.{Data, number, string, array, unsigned}
use Rattle.serde_json.specs.Find.{get}
use Rattle.serde_json.specs.View.{items_of}
use Rattle.json_words.specs.Check.{◌>>=◌, holds}
use Rattle.json_words.specs.Fields.{array_field, has_only, number_between, number_field}
use Rattle.json_words.specs.JsonText.{json_of}
use Rattle.json_words.specs.declared.fields.FieldFault.{FieldFault}
use Rattle.json_words.specs.declared.fields.FieldFault.TheVariants.{WrongType}
use Rattle.json_words.proofs.FoundLemmas.{array_field-found, number_between-found, text_field-found}
use Rattle.server_words.specs.CommandLine.{is_name}
use Rattle.client_words.specs.Address.{is_host, server_by}
use Rattle.client_words.specs.JobReading.{host_in, is_behind, is_list, job_keys, job_of, jobs_at, jobs_in, jobs_of, list_keys, number_at, parts_of, server_at, text_at, with_job, with_jobs}
use Rattle.client_words.specs.JobWriting.{AreJobs, IsJob, job_data, job_with, list_with, stand_in_order}
use Rattle.client_words.specs.OptionValues.{job_by, lib_in, path_in, secret_in, user_in}
use Rattle.client_words.specs.TypedJob.{IsTyped}
use Rattle.client_words.specs.declared.address.Server.{Server}
use Rattle.client_words.specs.declared.job.Job.{Job}

-- ---- a value of its option's form is read as itself

path_in-kept : (path : List ℕ) → path ≢ [] → path_in (Some path) ≡ Some path
path_in-kept [] some = absurd (some refl)
path_in-kept (c ∷ cs) some = refl

host_in-kept : (host : List ℕ) → is_host host ≡ true → host_in (Some host) ≡ Some host
host_in-kept host is = ap (λ (b : Bool). cond b (Some host) None) is

user_in-kept : (user : List ℕ) → is_name user ≡ true → user_in (Some user) ≡ Some user
user_in-kept user is = ap (λ (b : Bool). cond b (Some user) None) is

text_at-found : (name : List ℕ) (d : Data) (text : List ℕ) → get name d ≡ Some (string text) → text_at name d ≡ Some text
text_at-found name d text is = ap (λ (r : Result (List ℕ) FieldFault). result_ok r) (text_field-found name d text is)

number_at-found : (low high : ℕ) (name : List ℕ) (d : Data) (n : ℕ) → get name d ≡ Some (number (unsigned n)) → low ≤ n → n ≤ high → number_at low high name d ≡ Some n
number_at-found low high name d n is above below = ap (λ (r : Result ℕ FieldFault). result_ok r) (number_between-found low high name d n is above below)

job_by-kept : (server : Option Server) (lib secret dir user : Option (List ℕ)) (job : Job) → server ≡ Some (record { host = job.host; port = job.port })
    → lib ≡ Some job.lib → secret ≡ Some job.secret → dir ≡ Some job.dir → user ≡ Some job.user → job_by server lib secret dir user ≡ Some job
job_by-kept server lib secret dir user job a b c d e = rw (a, b, c, d, e)

server_by-kept : (port : Option ℕ) (host : Option (List ℕ)) (n : ℕ) (h : List ℕ) → port ≡ Some n → host ≡ Some h → server_by port host ≡ Some (record { host = h; port = n })
server_by-kept port host n h a b = rw (a, b)

-- ---- a job

-- the values of a job stand in an object
record Stands (d : Data) (job : Job) : Type 0 where
  dir_is : get (codes "dir") d ≡ Some (string job.dir)
  host_is : get (codes "host") d ≡ Some (string job.host)
  lib_is : get (codes "lib") d ≡ Some (string (hyphenated_text lower job.lib))
  port_is : get (codes "port") d ≡ Some (number (unsigned job.port))
  secret_is : get (codes "secret") d ≡ Some (string (encode_lower job.secret))
  user_is : get (codes "user") d ≡ Some (string job.user)

parts_of-found : (d : Data) (job : Job) → Stands d job → IsTyped job → IsJob job → parts_of d ≡ Some job
parts_of-found d job stands typed good =
    job_by-kept (server_at d) (lib_in (text_at (codes "lib") d)) (secret_in (text_at (codes "secret") d)) (path_in (text_at (codes "dir") d))
    (user_in (text_at (codes "user") d)) job
    (server_by-kept (number_at 1 65535 (codes "port") d) (host_in (text_at (codes "host") d)) job.port job.host
    (number_at-found 1 65535 (codes "port") d job.port stands.port_is good.from_one good.to_port)
    (ap host_in (text_at-found (codes "host") d job.host stands.host_is) ∙ host_in-kept job.host good.host))
    (ap lib_in (text_at-found (codes "lib") d (hyphenated_text lower job.lib) stands.lib_is) ∙ typed.lib)
    (ap secret_in (text_at-found (codes "secret") d (encode_lower job.secret) stands.secret_is) ∙ typed.secret)
    (ap path_in (text_at-found (codes "dir") d job.dir stands.dir_is) ∙ path_in-kept job.dir good.dir)
    (ap user_in (text_at-found (codes "user") d job.user stands.user_is) ∙ user_in-kept job.user good.user)

job_of-found : (d : Data) (job : Job) → has_only job_keys d ≡ true → parts_of d ≡ Some job → job_of d ≡ Some job
job_of-found d job only is = ap (λ (b : Bool). cond b (parts_of d) None) only ∙ is

job_of-data : (job : Job) → IsTyped job → IsJob job → job_of (job_data job) ≡ Some job
unfolding job_keys job_with has_only
job_of-data job typed good =
    job_of-found (job_data job) job refl
    (parts_of-found (job_data job) job (record { dir_is = refl; host_is = refl; lib_is = refl; port_is = refl; secret_is = refl; user_is = refl }) typed good)

-- ---- all jobs

one_more : (before : List Job) (job : Job) (o : Option Job) → o ≡ Some job → list_all (λ other. is_behind other job) before ≡ true → with_job before o ≡ Some (before ++ job ∷ [])
one_more before job o is behind = ap (with_job before) is ∙ ap (λ (b : Bool). cond b (Some (before ++ job ∷ [])) None) behind

with_jobs-data : (before jobs : List Job) → AllByRecursion IsTyped jobs → AllByRecursion IsJob jobs → stand_in_order before jobs ≡ true
    → with_jobs before (map job_data jobs) ≡ Some (before ++ jobs)
with_jobs-data before [] typed good order = ap (λ (l : List Job). Some l) (sym (append-nil before))
with_jobs-data before (job ∷ jobs) typed good order =
    let parts = and_parts (list_all (λ other. is_behind other job) before) (stand_in_order (before ++ job ∷ []) jobs) order in
    ap (λ (o : Option (List Job)). option_and_then (λ more. with_jobs more (map job_data jobs)) o) (one_more before job (job_of (job_data job)) (job_of-data job typed.0 good.0) parts.0)
    ∙ with_jobs-data (before ++ job ∷ []) jobs typed.1 good.1 parts.1
    ∙ ap (λ (l : List Job). Some l) (append_assoc before (job ∷ []) jobs)

jobs_in-found : (d : Data) (items : List Data) (jobs : List Job) → has_only list_keys d ≡ true → get (codes "version") d ≡ Some (number (unsigned 1))
    → get (codes "jobs") d ≡ Some (array (items_of items)) → with_jobs [] items ≡ Some jobs → jobs_in d ≡ Some jobs
jobs_in-found d items jobs only version is read =
    rw (only, number_at-found 1 1 (codes "version") d 1 version (omega arith) (omega arith), array_field-found (codes "jobs") d items is) read

pub jobs_in-data : (jobs : List Job) → AreJobs jobs → All IsTyped jobs → jobs_in (list_with (map job_data jobs)) ≡ Some jobs
unfolding list_keys list_with has_only
jobs_in-data jobs are typed =
    jobs_in-found (list_with (map job_data jobs)) (map job_data jobs) jobs refl refl refl
    (with_jobs-data [] jobs (recursion_from_All IsTyped jobs typed) (recursion_from_All IsJob jobs are.forms) are.order)

pub jobs_of-known : (bytes : List ℕ) (d : Data) → json_of bytes ≡ Some d → jobs_of bytes ≡ jobs_in d
unfolding jobs_of
jobs_of-known bytes d is = ap (λ (o : Option Data). option_and_then jobs_in o) is

-- ---- what is read can stand together

pub path_in-some : (value : Option (List ℕ)) (path : List ℕ) → path_in value ≡ Some path → path ≢ []
path_in-some None path is = λ _. let bad : ⊥ = cc in bad
path_in-some (Some []) path is = λ _. let bad : ⊥ = cc in bad
path_in-some (Some (c ∷ cs)) path is = λ none. let bad : ⊥ = cc in bad

-- what passes a test is the text, which passes it
pub passed : (test : List ℕ → Bool) (text kept : List ℕ) (b : Bool) → test text ≡ b → cond b (Some text) None ≡ Some kept → test kept ≡ true
passed test text kept true passes is = let same : text ≡ kept = cc in ap test (sym same) ∙ passes
passed test text kept false passes is = let bad : ⊥ = cc in absurd bad

host_in-some : (value : Option (List ℕ)) (host : List ℕ) → host_in value ≡ Some host → is_host host ≡ true
host_in-some None host is = let bad : ⊥ = cc in absurd bad
host_in-some (Some text) host is = passed is_host text host (is_host text) refl is

pub user_in-some : (value : Option (List ℕ)) (user : List ℕ) → user_in value ≡ Some user → is_name user ≡ true
user_in-some None user is = let bad : ⊥ = cc in absurd bad
user_in-some (Some text) user is = passed is_name text user (is_name text) refl is

bounded : (low high : ℕ) (r : Result ℕ FieldFault) (n : ℕ)
    → result_ok (r >>= (λ m. holds (nat_le low m && nat_le m high) WrongType >>= (λ _. Ok m))) ≡ Some n → (low ≤ n) × (n ≤ high)
bounded low high (Err fault) n is = let bad : ⊥ = cc in absurd bad
bounded low high (Ok m) n is = by (nat_le low m && nat_le m high) refl is
  where
    by : (b : Bool) → (nat_le low m && nat_le m high) ≡ b → result_ok (holds b WrongType >>= (λ _. Ok m)) ≡ Some n → (low ≤ n) × (n ≤ high)
    by true within same =
        let parts = and_parts (nat_le low m) (nat_le m high) within in
        let e : m ≡ n = cc in
        (subst (λ (k : ℕ). low ≤ k) e (leb-true low m parts.0), subst (λ (k : ℕ). k ≤ high) e (leb-true m high parts.1))
    by false within same = let bad : ⊥ = cc in absurd bad

number_at-bounded : (low high : ℕ) (name : List ℕ) (d : Data) (n : ℕ) → number_at low high name d ≡ Some n → (low ≤ n) × (n ≤ high)
unfolding number_between
number_at-bounded low high name d n is = bounded low high (number_field name d) n is

-- the server of a job has a host and a port
pub record IsServer (server : Server) : Type 0 where
  pub host : is_host server.host ≡ true
  pub from_one : 1 ≤ server.port
  pub to_port : server.port ≤ 65535

pub server_by-some : (port : Option ℕ) (host : Option (List ℕ)) (server : Server) → ((n : ℕ) → port ≡ Some n → (1 ≤ n) × (n ≤ 65535))
    → ((h : List ℕ) → host ≡ Some h → is_host h ≡ true) → server_by port host ≡ Some server → IsServer server
server_by-some None host server ports hosts is = let bad : ⊥ = cc in absurd bad
server_by-some (Some n) None server ports hosts is = let bad : ⊥ = cc in absurd bad
server_by-some (Some n) (Some h) server ports hosts is =
    let made : Server = record { host = h; port = n } in
    let same : made ≡ server = cc in
    subst IsServer same (record { host = hosts h refl; from_one = (ports n refl).0; to_port = (ports n refl).1 })

pub job_by-some : (server : Option Server) (lib secret dir user : Option (List ℕ)) (job : Job) → ((s : Server) → server ≡ Some s → IsServer s)
    → ((p : List ℕ) → dir ≡ Some p → p ≢ []) → ((u : List ℕ) → user ≡ Some u → is_name u ≡ true) → job_by server lib secret dir user ≡ Some job → IsJob job
job_by-some None lib secret dir user job servers dirs users is = let bad : ⊥ = cc in absurd bad
job_by-some (Some s) None secret dir user job servers dirs users is = let bad : ⊥ = cc in absurd bad
job_by-some (Some s) (Some l) None dir user job servers dirs users is = let bad : ⊥ = cc in absurd bad
job_by-some (Some s) (Some l) (Some k) None user job servers dirs users is = let bad : ⊥ = cc in absurd bad
job_by-some (Some s) (Some l) (Some k) (Some p) None job servers dirs users is = let bad : ⊥ = cc in absurd bad
job_by-some (Some s) (Some l) (Some k) (Some p) (Some u) job servers dirs users is =
    let made : Job = record { lib = l; dir = p; host = s.host; port = s.port; user = u; secret = k } in
    let same : made ≡ job = cc in
    let server = servers s refl in
    subst IsJob same (record { dir = dirs p refl; host = server.host; from_one = server.from_one; to_port = server.to_port; user = users u refl })

parts_of-some : (d : Data) (job : Job) → parts_of d ≡ Some job → IsJob job
parts_of-some d job is =
    job_by-some (server_at d) (lib_in (text_at (codes "lib") d)) (secret_in (text_at (codes "secret") d)) (path_in (text_at (codes "dir") d))
    (user_in (text_at (codes "user") d)) job
    (λ s same. server_by-some (number_at 1 65535 (codes "port") d) (host_in (text_at (codes "host") d)) s
    (number_at-bounded 1 65535 (codes "port") d) (host_in-some (text_at (codes "host") d)) same)
    (path_in-some (text_at (codes "dir") d)) (user_in-some (text_at (codes "user") d)) is

job_of-some : (d : Data) (job : Job) → job_of d ≡ Some job → IsJob job
job_of-some d job is = by (has_only job_keys d) is
  where
    by : (b : Bool) → cond b (parts_of d) None ≡ Some job → IsJob job
    by true same = parts_of-some d job same
    by false same = let bad : ⊥ = cc in absurd bad

stand_in_order-push : (before jobs : List Job) (job : Job) → stand_in_order before jobs ≡ true → list_all (λ other. is_behind other job) (before ++ jobs) ≡ true
    → stand_in_order before (jobs ++ job ∷ []) ≡ true
stand_in_order-push before [] job order behind =
    and_from (list_all (λ other. is_behind other job) before) true (ap (list_all (λ other. is_behind other job)) (sym (append-nil before)) ∙ behind) refl
stand_in_order-push before (first ∷ jobs) job order behind =
    let parts = and_parts (list_all (λ other. is_behind other first) before) (stand_in_order (before ++ first ∷ []) jobs) order in
    and_from (list_all (λ other. is_behind other first) before) (stand_in_order (before ++ first ∷ []) (jobs ++ job ∷ [])) parts.0
    (stand_in_order-push (before ++ first ∷ []) jobs job parts.1 (ap (list_all (λ other. is_behind other job)) (append_assoc before (first ∷ []) jobs) ∙ behind))

with_job-some : (before : List Job) (o : Option Job) (more : List Job) → AreJobs before → ((job : Job) → o ≡ Some job → IsJob job) → with_job before o ≡ Some more → AreJobs more
with_job-some before None more are each is = let bad : ⊥ = cc in absurd bad
with_job-some before (Some job) more are each is = by (list_all (λ other. is_behind other job) before) refl is
  where
    by : (b : Bool) → list_all (λ other. is_behind other job) before ≡ b → cond b (Some (before ++ job ∷ [])) None ≡ Some more → AreJobs more
    by true behind same =
        let e : before ++ job ∷ [] ≡ more = cc in
        subst AreJobs e (record { forms = All-push IsJob before job are.forms (each job refl); order = stand_in_order-push [] before job are.order behind })
    by false behind same = let bad : ⊥ = cc in absurd bad

-- what follows of the rest follows of one more and the rest
on_more : (o : Option (List Job)) (ds : List Data) (jobs : List Job) → ((more : List Job) → o ≡ Some more → AreJobs more)
    → ((more : List Job) → AreJobs more → with_jobs more ds ≡ Some jobs → AreJobs jobs) → option_and_then (λ more. with_jobs more ds) o ≡ Some jobs → AreJobs jobs
on_more None ds jobs are rest is = let bad : ⊥ = cc in absurd bad
on_more (Some more) ds jobs are rest is = rest more (are more refl) is

with_jobs-some : (before : List Job) (ds : List Data) (jobs : List Job) → AreJobs before → with_jobs before ds ≡ Some jobs → AreJobs jobs
with_jobs-some before [] jobs are is = let same : before ≡ jobs = cc in subst AreJobs same are
with_jobs-some before (d ∷ ds) jobs are is =
    on_more (with_job before (job_of d)) ds jobs (λ more same. with_job-some before (job_of d) more are (job_of-some d) same)
    (λ more good same. with_jobs-some more ds jobs good same) is

AreJobs-none : AreJobs []
AreJobs-none = record { forms = λ k d below. absurd (omega arith); order = refl }

jobs_at-some : (r : Result (List Data) FieldFault) (jobs : List Job) → option_and_then (with_jobs []) (result_ok r) ≡ Some jobs → AreJobs jobs
jobs_at-some (Ok items) jobs is = with_jobs-some [] items jobs AreJobs-none is
jobs_at-some (Err fault) jobs is = let bad : ⊥ = cc in absurd bad

jobs_in-some : (d : Data) (jobs : List Job) → jobs_in d ≡ Some jobs → AreJobs jobs
jobs_in-some d jobs is = by (is_list d) is
  where
    by : (b : Bool) → cond b (jobs_at d) None ≡ Some jobs → AreJobs jobs
    by true same = jobs_at-some (array_field (codes "jobs") d) jobs same
    by false same = let bad : ⊥ = cc in absurd bad

pub jobs_in-proper : (d : Data) (jobs : Option (List Job)) → jobs ≡ jobs_in d → IfSome jobs AreJobs
jobs_in-proper d None is = tt
jobs_in-proper d (Some jobs) is = jobs_in-some d jobs (sym is)

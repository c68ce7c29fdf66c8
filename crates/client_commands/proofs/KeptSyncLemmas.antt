-- What is kept of a sync, and which job it is. The key lemmas are kept_index, kept_index_free, index_behind, job_behind, due_some, due_none, due_host, due_exists,
-- asked_fault, asked_listed, asked_new, worked_new, added, lost_index, kept_job and kept_job_free.
use Rattle.std.proofs.Common.{◌≡◌, inl, inr, ℕ, Bool, true, false, IsTrue, List, Option, None, Some, option_map, Result, Ok, Err, refl, sym, ap, subst, ◌∙◌}
use Rattle.std.specs.Prelude.{◌⊎◌, ⊤, IfOk, IfErr}
use Rattle.std.specs.List.{find, list_any}
use Rattle.std.proofs.lemmas.List.Elements.{recursion_from_All}
use Rattle.folder_side.specs.Folder.{Changes, Contents}
use Rattle.folder_texts.specs.FolderTexts.{text_at}
use Rattle.http_client.specs.RequestText.{IsHost}
use Rattle.local_index.specs.declared.index.Index.{Index}
use Rattle.sync_rules.specs.declared.synced.Synced.{Synced}
use Rattle.client_words.specs.declared.fault.Fault.{Fault}
use Rattle.client_words.specs.declared.fault.Fault.TheVariants as fault
use Rattle.client_words.specs.JobWriting.{AreJobs, IsJob}
use Rattle.client_words.specs.declared.job.Job.{Job}
use Rattle.client_desk.specs.Commands.{with_jobs}
use Rattle.client_desk.specs.JobList.{is_same_job, job_due, job_unless, jobs_with, meets_job}
use Rattle.client_desk.specs.KeptTexts.{is_free, jobs_found, jobs_name}
use Rattle.client_commands.specs.JobSyncs.{WorksSo}
use Rattle.client_commands.specs.KeptSyncs.{KeepsIndex, KeepsJob, ReadsBack, SyncsAsked, SyncsDue, SyncsListed, SyncsNew, due, empty_index, with_index}
use Rattle.client_commands.specs.Views.{DeskView, DialView}
use Rattle.client_commands.specs.declared.wanted.Wanted.{Wanted}
use Rattle.client_commands.proofs.WordLemmas.{found_job, job_host}

-- ---- the index of a job

module _ (j : Index) (s : Synced) (own mid kept : Option Contents) (same : mid ≡ own) where
  -- it was put
  pub kept_index : ReadsBack j → ((c : Contents) → mid ≡ Some c → Changes {T = ⊤} {E = Fault} (with_index j) mid kept (Ok tt)) → KeepsIndex j (Ok s) own kept (Ok s)
  kept_index reads put = (refl, reads, λ c held. put c (same ∙ held) ∙ ap (option_map (with_index j)) (same ∙ held))

  -- or perhaps not
  pub kept_index_free : (e : Fault) → ((c : Contents) → mid ≡ Some c → Changes {T = ⊤} (with_index j) mid kept (Err e)) → IsTrue (is_free e) → KeepsIndex j (Ok s) own kept (Err e)
  kept_index_free e put free = (free, λ c held. by c (same ∙ held) (put c (same ∙ held)))
    where
      by : (c : Contents) → mid ≡ Some c → (kept ≡ mid) ⊎ (kept ≡ option_map (with_index j) mid) → (kept ≡ Some c) ⊎ (kept ≡ Some (with_index j c))
      by c held (inl stays) = inl (stays ∙ held)
      by c held (inr goes) = inr (goes ∙ ap (option_map (with_index j)) held)

-- the marker of its folder was put after, or not
pub index_behind : (j : Index) (s : Synced) (own kept : Option Contents) (r : Result Synced Fault) → IfOk r (λ (t : Synced). t ≡ s) → IfErr r (λ (e : Fault). IsTrue (is_free e))
    → KeepsIndex j (Ok s) own kept (Ok s) → KeepsIndex j (Ok s) own kept r
index_behind j s own kept (Ok t) same free keeps = (same, keeps.1, keeps.2)
index_behind j s own kept (Err e) same free keeps = (free, λ c held. inr (keeps.2 c held))

pub job_behind : (job : Job) (jobs : List Job) (j : Index) (s : Synced) (own kept : Option Contents) (r : Result Synced Fault) → IfOk r (λ (t : Synced). t ≡ s)
    → IfErr r (λ (e : Fault). IsTrue (is_free e)) → KeepsJob job jobs j (Ok s) own kept (Ok s) → KeepsJob job jobs j (Ok s) own kept r
job_behind job jobs j s own kept (Ok t) same free keeps = (same, keeps.1, keeps.2)
job_behind job jobs j s own kept (Err e) same free keeps = (free, λ c held. inr (inr (keeps.2 c held)))

-- ---- which job it is

abbrev found_so : Option Job → Result (Option Job) Fault
found_so found = Ok found

-- what was found of a list that is lent
pub due_some : {R : Type 0} (found : Option R) (job : R) (now : R → Job) (told : Result (Option Job) Fault) → ◌≡◌ {A = Result (Option Job) Fault} (Ok (option_map now found)) told → found ≡ Some job
    → ◌≡◌ {A = Result (Option Job) Fault} told (Ok (Some (now job)))
due_some {R} found job now told is some = sym is ∙ ap (λ (o : Option R). found_so (option_map now o)) some

pub due_none : {R : Type 0} (found : Option R) (now : R → Job) (told : Result (Option Job) Fault) → ◌≡◌ {A = Result (Option Job) Fault} (Ok (option_map now found)) told → found ≡ None
    → ◌≡◌ {A = Result (Option Job) Fault} told (Ok None)
due_none {R} found now told is none = sym is ∙ ap (λ (o : Option R). found_so (option_map now o)) none

-- a job of the list, and none but that it can be no job
found_due : (met : Bool) (found : Option Job) (job : Job) → ◌≡◌ {A = Result (Option Job) Fault} (job_unless met found) (Ok (Some job)) → Some job ≡ found
found_due met (Some x) job is = cc
found_due true None job is = cc
found_due false None job is = cc

exists_due : (met : Bool) (found : Option Job) (e : Fault) → ◌≡◌ {A = Result (Option Job) Fault} (job_unless met found) (Err e) → e ≡ fault.JobExists
exists_due met (Some x) e is = cc
exists_due true None e is = cc
exists_due false None e is = cc

pub due_host : (jobs listed : List Job) (asked job : Job) → AreJobs jobs → listed ≡ jobs → job_due listed asked ≡ Ok (Some job) → IsHost job.host
due_host jobs listed asked job are same is =
    let there : job_due jobs asked ≡ Ok (Some job) = ap (λ (l : List Job). job_due l asked) (sym same) ∙ is in
    job_host job (found_job (is_same_job asked) jobs job (recursion_from_All IsJob jobs are.forms) (found_due (list_any (meets_job asked) jobs) (find (is_same_job asked) jobs) job there))

pub due_exists : (jobs : List Job) (asked : Job) (e : Fault) → job_due jobs asked ≡ Err e → e ≡ fault.JobExists
due_exists jobs asked e is = exists_due (list_any (meets_job asked) jobs) (find (is_same_job asked) jobs) e is

module _ {N : Type 0} (links : N → DialView) (shows : ℕ → Type 0) (wanted : Wanted) (asked : Job) (jobs listed : List Job) (own looked kept : Option Contents) (old new : DeskView N) (r : Result Synced Fault)
    (found : (c : Contents) → own ≡ Some c → jobs_found (text_at c jobs_name) ≡ Ok jobs) (same : listed ≡ jobs) where
  due_as : (d : Result (Option Job) Fault) → job_due listed asked ≡ d → SyncsDue links shows wanted asked jobs d own kept old new r → SyncsAsked links shows wanted asked own kept old new r
  due_as d is goes =
      due jobs found
      (subst (λ (o : Result (Option Job) Fault). SyncsDue links shows wanted asked jobs o own kept old new r) (sym is ∙ ap (λ (l : List Job). job_due l asked) same) goes)

  pub asked_fault : (e : Fault) → job_due listed asked ≡ Err e → r ≡ Err e → kept ≡ own → new ≡ old → SyncsAsked links shows wanted asked own kept old new r
  asked_fault e is told own_same desk_same = due_as (Err e) is (record { is = told; own_stays = own_same; desk_stays = desk_same })

  pub asked_listed : (job : Job) → job_due listed asked ≡ Ok (Some job) → looked ≡ own → SyncsListed links shows wanted job looked kept old new r → SyncsAsked links shows wanted asked own kept old new r
  asked_listed job is stays goes = due_as (Ok (Some job)) is (subst (λ (o : Option Contents). SyncsListed links shows wanted job o kept old new r) stays goes)

  pub asked_new : job_due listed asked ≡ Ok None → looked ≡ own → SyncsNew links shows wanted asked jobs looked kept old new r → SyncsAsked links shows wanted asked own kept old new r
  asked_new is stays goes = due_as (Ok None) is (subst (λ (o : Option Contents). SyncsNew links shows wanted asked jobs o kept old new r) stays goes)

-- a job that was synced by an index of which nothing was synced yet
pub worked_new : {N : Type 0} (links : N → DialView) (shows : ℕ → Type 0) (wanted : Wanted) (job : Job) (i j : Index) (old new : DeskView N) (r : Result Synced Fault) → i ≡ empty_index job.lib
    → WorksSo links shows wanted job i j old new r → WorksSo links shows wanted job (empty_index job.lib) j old new r
worked_new links shows wanted job i j old new r is works = subst (λ (x : Index). WorksSo links shows wanted job x j old new r) is works

-- ---- a job that is added

-- the list was put with it, or perhaps not
pub added : {T : Type 0} (new : Job) (jobs all : List Job) (old now : Option Contents) (r : Result T Fault) → all ≡ jobs_with new jobs → Changes (with_jobs all) old now r
    → Changes (with_jobs (jobs_with new jobs)) old now r
added new jobs all old now r is put = subst (λ (l : List Job). Changes (with_jobs l) old now r) is put

module _ (job : Job) (jobs : List Job) (j : Index) (s : Synced) (own put : Option Contents) where
  -- the index could not be put
  pub lost_index : (e : Fault) → ((c : Contents) → own ≡ Some c → Changes {T = ⊤} (with_index j) own put (Err e)) → IsTrue (is_free e) → KeepsJob job jobs j (Ok s) own put (Err e)
  lost_index e puts free = (free, λ c held. by c held (puts c held))
    where
      by : (c : Contents) → own ≡ Some c → (put ≡ own) ⊎ (put ≡ option_map (with_index j) own)
          → (put ≡ Some c) ⊎ ((put ≡ Some (with_index j c)) ⊎ (put ≡ Some (with_jobs (jobs_with job jobs) (with_index j c))))
      by c held (inl stays) = inl (stays ∙ held)
      by c held (inr goes) = inr (inl (goes ∙ ap (option_map (with_index j)) held))

  module _ (kept : Option Contents) (first : (c : Contents) → own ≡ Some c → Changes {T = ⊤} {E = Fault} (with_index j) own put (Ok tt)) where
    indexed : (c : Contents) → own ≡ Some c → put ≡ Some (with_index j c)
    indexed c held = first c held ∙ ap (option_map (with_index j)) held

    pub kept_job : ReadsBack j → ((c : Contents) → put ≡ Some c → Changes {T = ⊤} {E = Fault} (with_jobs (jobs_with job jobs)) put kept (Ok tt)) → KeepsJob job jobs j (Ok s) own kept (Ok s)
    kept_job reads later =
        (refl, reads, λ c held. later (with_index j c) (indexed c held) ∙ ap (option_map (with_jobs (jobs_with job jobs))) (indexed c held))

    pub kept_job_free : (e : Fault) → ((c : Contents) → put ≡ Some c → Changes {T = ⊤} (with_jobs (jobs_with job jobs)) put kept (Err e)) → IsTrue (is_free e) → KeepsJob job jobs j (Ok s) own kept (Err e)
    kept_job_free e later free = (free, λ c held. by c (indexed c held) (later (with_index j c) (indexed c held)))
      where
        by : (c : Contents) → put ≡ Some (with_index j c) → (kept ≡ put) ⊎ (kept ≡ option_map (with_jobs (jobs_with job jobs)) put)
            → (kept ≡ Some c) ⊎ ((kept ≡ Some (with_index j c)) ⊎ (kept ≡ Some (with_jobs (jobs_with job jobs) (with_index j c))))
        by c held (inl stays) = inr (inl (stays ∙ held))
        by c held (inr goes) = inr (inr (goes ∙ ap (option_map (with_jobs (jobs_with job jobs))) held))

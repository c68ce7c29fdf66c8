-- What the commands leave of the list of jobs, and one that is asked for. The key lemmas are init_there, init_free, init_put, list_refused,
-- list_told, refused, no_job, put_failed, take_failed and taken.
use Rattle.std.proofs.Common.{◌≡◌, ◌⊎◌, inl, inr, ℕ, Bool, true, false, IsTrue, List, [], Option, None, Some, option_map, Result, Ok, Err, IfErr, refl, sym, ap, subst, ◌∙◌}
use Rattle.std.specs.Coded.{Unit-prop}
use Rattle.std.specs.Prelude.{⊤, map}
use Rattle.folder_side.specs.Folder.{Changes, Contents}
use Rattle.client_words.specs.declared.job.Job.{Job}
use Rattle.client_words.specs.declared.fault.Fault.{Fault}
use Rattle.client_words.specs.declared.fault.Fault.TheVariants as fault
use Rattle.client_words.specs.declared.line.Line.{Line}
use Rattle.client_desk.specs.Commands.{DesyncsJob, DesyncsSo, DoesSo, IsInitFault, LeavesTwo, init_due, list_due, listed_line, with_jobs, without_index}
use Rattle.client_desk.specs.JobList.{job_of, job_unless, jobs_without}
use Rattle.client_desk.specs.KeptTexts.{Answers, is_free}

-- ---- init

-- a list is there, and nothing was changed
pub init_there : (c : Contents) (text : List ℕ) (o found : Option (List ℕ)) (now : Option Contents) → found ≡ o → found ≡ Some text → now ≡ Some c
    → DoesSo (init_due o) c (with_jobs [] c) now (Err fault.AlreadyInitialised)
init_there c text o found now is some same =
    subst (λ o. DoesSo (init_due o) c (with_jobs [] c) now (Err fault.AlreadyInitialised)) (sym some ∙ is) (record { answers = inl refl; leaves = same })

-- it could not be looked for
pub init_free : (c : Contents) (o : Option (List ℕ)) (now : Option Contents) (e : Fault) → IsTrue (is_free e) → now ≡ Some c → DoesSo (init_due o) c (with_jobs [] c) now (Err e)
init_free c None now e free same = record { answers = inr free; leaves = inl same }
init_free c (Some text) now e free same = record { answers = inr free; leaves = same }

abbrev told_done : ⊤ → Result ⊤ Fault
told_done u = Ok u

-- it was put, or not
pub init_put : (c : Contents) (o found : Option (List ℕ)) (old now : Option Contents) (r : Result ⊤ Fault) → found ≡ o → found ≡ None → old ≡ Some c
    → Changes (with_jobs []) old now r → IfErr r (λ (e : Fault). IsTrue (is_free e)) → DoesSo (init_due o) c (with_jobs [] c) now r
init_put c o found old now r is none held changes free =
    subst (λ o. DoesSo (init_due o) c (with_jobs [] c) now r) (sym none ∙ is) (by r (subst (λ old. Changes (with_jobs []) old now r) held changes) free)
  where
    by : (r : Result ⊤ Fault) → Changes (with_jobs []) (Some c) now r → IfErr r (λ (e : Fault). IsTrue (is_free e)) → DoesSo (Ok tt) c (with_jobs [] c) now r
    by (Ok u) changes free = record { answers = ap told_done (Unit-prop tt u); leaves = changes }
    by (Err e) changes free = record { answers = inr free; leaves = changes }

pub init_may : (r : Result ⊤ Fault) → IfErr r (λ (e : Fault). IsTrue (is_free e)) → IfErr r IsInitFault
init_may (Ok u) free = tt
init_may (Err e) free = inr free

-- ---- list

pub list_refused : (due : Result (List Job) Fault) (e : Fault) → Answers due (Err e) → Answers (list_due due) (Err e)
list_refused due e (inl is) = inl (ap list_due is)
list_refused due e (inr free) = inr free

abbrev told_lines : List Line → Result (List Line) Fault
told_lines lines = Ok lines

pub list_told : (due : Result (List Job) Fault) (jobs said : List Job) (lines : List Line) → due ≡ Ok jobs → said ≡ jobs → lines ≡ map listed_line said
    → Answers (list_due due) (Ok lines)
list_told due jobs said lines is same are = ap list_due is ∙ ap told_lines (sym (are ∙ ap (map listed_line) same))

-- ---- desync

abbrev pub library_in : Option Job → Option (List ℕ)
library_in o = option_map (λ (job : Job). job.lib) o

-- no list was found: nothing is changed
pub refused : (dir : List ℕ) (c : Contents) (due : Result (List Job) Fault) (now : Option Contents) (e : Fault) → Answers due (Err e) → now ≡ Some c → DesyncsSo dir c due now (Err e)
refused dir c due now e (inl is) same = subst (λ due. DesyncsSo dir c due now (Err e)) (sym is) (inl refl, same)
refused dir c (Err f) now e (inr free) same = (inr free, same)
refused dir c (Ok jobs) now e (inr free) same = by (job_of dir jobs)
  where
    by : (o : Option Job) → DesyncsJob c (with_jobs (jobs_without dir jobs) c) o now (Err e)
    by None = (inr free, same)
    by (Some job) = (inr free, inl same)

-- it has no job of the folder
pub no_job : (dir : List ℕ) (c : Contents) (due : Result (List Job) Fault) (jobs : List Job) (now : Option Contents) → due ≡ Ok jobs → None ≡ library_in (job_of dir jobs)
    → now ≡ Some c → DesyncsSo dir c due now (Err fault.NoJob)
no_job dir c due jobs now is none same = subst (λ due. DesyncsSo dir c due now (Err fault.NoJob)) (sym is) (by (job_of dir jobs) none)
  where
    by : (o : Option Job) → None ≡ library_in o → DesyncsJob c (with_jobs (jobs_without dir jobs) c) o now (Err fault.NoJob)
    by None none = (inl refl, same)
    by (Some job) none = cc

-- it has one
job_there : (c changed : Contents) (lib : List ℕ) (now : Option Contents) (r : Result (List ℕ) Fault) (o : Option Job) → Some lib ≡ library_in o
    → Answers (Ok lib) r → LeavesTwo c changed (without_index lib changed) now r → DesyncsJob c changed o now r
job_there c changed lib now r None found answers leaves = cc
job_there c changed lib now r (Some job) found answers leaves =
    let same : lib ≡ job.lib = cc in
    subst (λ l. Answers (Ok l) r × LeavesTwo c changed (without_index l changed) now r) same (answers, leaves)

by_job : (dir : List ℕ) (c : Contents) (due : Result (List Job) Fault) (jobs : List Job) (lib : List ℕ) (now : Option Contents) (r : Result (List ℕ) Fault)
    → due ≡ Ok jobs → Some lib ≡ library_in (job_of dir jobs) → Answers (Ok lib) r
    → LeavesTwo c (with_jobs (jobs_without dir jobs) c) (without_index lib (with_jobs (jobs_without dir jobs) c)) now r → DesyncsSo dir c due now r
by_job dir c due jobs lib now r is found answers leaves =
    subst (λ due. DesyncsSo dir c due now r) (sym is) (job_there c (with_jobs (jobs_without dir jobs) c) lib now r (job_of dir jobs) found answers leaves)

-- the ways out behind the list; `put` is the slice that was handed on
module _ (dir : List ℕ) (c : Contents) (due : Result (List Job) Fault) (jobs left put : List Job) (lib : List ℕ) (is : due ≡ Ok jobs)
    (found : Some lib ≡ library_in (job_of dir jobs)) (rest : left ≡ jobs_without dir jobs) (as_put : put ≡ left) where
  put_as : {T : Type 0} (old now : Option Contents) (r : Result T Fault) → old ≡ Some c → Changes (with_jobs put) old now r → Changes (with_jobs (jobs_without dir jobs)) (Some c) now r
  put_as old now r held changes = subst (λ jobs. Changes (with_jobs jobs) (Some c) now r) (as_put ∙ rest) (subst (λ old. Changes (with_jobs put) old now r) held changes)

  -- the list could not be put
  pub put_failed : (old now : Option Contents) (e : Fault) → old ≡ Some c → Changes {T = ⊤} (with_jobs put) old now (Err e) → IsTrue (is_free e) → DesyncsSo dir c due now (Err e)
  put_failed old now e held changes free = by_job dir c due jobs lib now (Err e) is found (inr free) (by (put_as {T = ⊤} old now (Err e) held changes))
    where
      by : (now ≡ Some c) ⊎ (now ≡ Some (with_jobs (jobs_without dir jobs) c)) → LeavesTwo {T = List ℕ} c (with_jobs (jobs_without dir jobs) c) (without_index lib (with_jobs (jobs_without dir jobs) c)) now (Err e)
      by (inl same) = inl same
      by (inr put) = inr (inl put)

  -- the index could not be taken
  pub take_failed : (old mid now : Option Contents) (e : Fault) → old ≡ Some c → mid ≡ option_map (with_jobs put) old → Changes {T = ⊤} (without_index lib) mid now (Err e) → IsTrue (is_free e)
      → DesyncsSo dir c due now (Err e)
  take_failed old mid now e held was_put changes free =
      by_job dir c due jobs lib now (Err e) is found (inr free)
      (by (subst (λ mid. Changes {T = ⊤} (without_index lib) mid now (Err e)) (put_as {T = ⊤} old mid (Ok tt) held was_put) changes))
    where
      by : (now ≡ Some (with_jobs (jobs_without dir jobs) c)) ⊎ (now ≡ Some (without_index lib (with_jobs (jobs_without dir jobs) c)))
          → LeavesTwo {T = List ℕ} c (with_jobs (jobs_without dir jobs) c) (without_index lib (with_jobs (jobs_without dir jobs) c)) now (Err e)
      by (inl same) = inr (inl same)
      by (inr taken) = inr (inr taken)

  -- both are gone
  pub taken : (old mid now : Option Contents) → old ≡ Some c → mid ≡ option_map (with_jobs put) old → now ≡ option_map (without_index lib) mid → DesyncsSo dir c due now (Ok lib)
  taken old mid now held was_put took =
      by_job dir c due jobs lib now (Ok lib) is found refl (took ∙ ap (option_map (without_index lib)) (put_as {T = ⊤} old mid (Ok tt) held was_put))

-- ---- a job that is asked for

abbrev IsDue : Result (Option Job) Fault → Bool → Option Job → Type 0
IsDue due met found = ◌≡◌ {A = Result (Option Job) Fault} due (job_unless met found)

pub due_there : (met : Bool) (found : Option Job) (job : Job) → Some job ≡ found → ◌≡◌ {A = Result (Option Job) Fault} (Ok (Some job)) (job_unless met found)
due_there met found job is = subst (IsDue (Ok (Some job)) met) is refl

pub due_met : (met : Bool) (found : Option Job) → None ≡ found → true ≡ met → ◌≡◌ {A = Result (Option Job) Fault} (Err fault.JobExists) (job_unless met found)
due_met met found none is = subst (IsDue (Err fault.JobExists) met) none (subst (λ b. IsDue (Err fault.JobExists) b None) is refl)

pub due_none : (met : Bool) (found : Option Job) → None ≡ found → false ≡ met → ◌≡◌ {A = Result (Option Job) Fault} (Ok None) (job_unless met found)
due_none met found none is = subst (IsDue (Ok None) met) none (subst (λ b. IsDue (Ok None) b None) is refl)

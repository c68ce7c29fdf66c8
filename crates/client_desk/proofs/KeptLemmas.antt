-- What is found of the texts that the client keeps, and how their faults are told. The key lemmas are told_as, free_as, stays_so, put_told,
-- jobs_found_some, jobs_found_none, index_found_some, index_found_none, index_same, index_other and index_fault.
use Rattle.std.proofs.Common.{◌≡◌, inl, inr, ℕ, ◌≤◌, Bool, true, false, if◌then◌else◌, IsTrue, List, [], ◌∷◌, Option, None, Some, Result, Ok, Err, IfErr, refl, sym, ap, subst, ◌∙◌}
use Rattle.std.specs.Prelude.{⊤}
use Rattle.std.specs.Bool.{MatchBool}
use Rattle.std.specs.Cmp.Lexicographic.{bytes_decides}
use Rattle.std.specs.Str.{bytes_eq}
use Rattle.ids.specs.FaultCount.{FailsBy, Rose}
use Rattle.folder_side.specs.Folder.{Changes, Contents, FolderFails, with_file}
use Rattle.folder_side.specs.declared.error.FolderFault.{FolderFault}
use Rattle.folder_side.specs.declared.error.FolderFault.TheVariants as folder
use Rattle.folder_texts.specs.FolderTexts.{without_text}
use Rattle.json_words.specs.Answer.{ReadsAs}
use Rattle.json_words.specs.declared.answer.ReadFault.{ReadFault}
use Rattle.json_words.specs.declared.answer.ReadFault.TheVariants as reading
use Rattle.local_index.specs.declared.fault.IndexKey.{IndexKey}
use Rattle.local_index.specs.declared.index.Index.{Index}
use Rattle.client_words.specs.JobReading.{jobs_of}
use Rattle.local_index.specs.IndexText.{index_of}
use Rattle.client_words.specs.declared.job.Job.{Job}
use Rattle.client_words.specs.declared.fault.Fault.{Fault}
use Rattle.client_words.specs.declared.fault.Fault.TheVariants as fault
use Rattle.client_desk.specs.KeptTexts.{Answers, IsIndexFault, IsListFault, fault_of_folder, fault_of_index, index_found, index_read, is_free, is_of_folder, jobs_found, jobs_read}

-- a failure of a folder is told as one, and want of memory as that
pub told_as : (before now : ℕ) (f : FolderFault) (e : Fault) → e ≡ fault_of_folder f → FolderFails {T = ⊤} before now (Err f) → FailsBy {T = ⊤} is_of_folder before now (Err e)
told_as before now f e is h = subst (λ (e : Fault). FailsBy {T = ⊤} is_of_folder before now (Err e)) (sym is) (by f h)
  where
    by : (f : FolderFault) → FolderFails {T = ⊤} before now (Err f) → FailsBy {T = ⊤} is_of_folder before now (Err (fault_of_folder f))
    by folder.Folder h = h
    by folder.NoMemory h = h

-- one fault more may come
pub list_may : {T : Type 0} (r : Result T Fault) → IfErr r IsIndexFault → IfErr r IsListFault
list_may (Ok x) is = tt
list_may (Err e) is = inr is

pub free_as : (f : FolderFault) (e : Fault) → e ≡ fault_of_folder f → IsTrue (is_free e)
free_as f e is = subst (λ e. IsTrue (is_free e)) (sym is) (by f)
  where
    by : (f : FolderFault) → IsTrue (is_free (fault_of_folder f))
    by folder.Folder = refl
    by folder.NoMemory = refl

-- where nothing failed the count is as it was
pub stays_so : {T : Type 0} (before now : ℕ) (r : Result T Fault) → now ≡ before → IfErr r (λ (e : Fault). is_of_folder e ≡ false) → FailsBy is_of_folder before now r
stays_so before now (Ok x) same none = same
stays_so before now (Err e) same none = subst (λ b. MatchBool b ((before ≤ now) × Rose before now) (now ≡ before)) (sym none) same

-- ---- changes, by the name and the text that were handed on

pub put_told : {T E : Type 0} (name wanted said text due : List ℕ) (old now : Option Contents) (r : Result T E) → name ≡ wanted → said ≡ text → text ≡ due
    → Changes (with_file (name ∷ []) said) old now r → Changes (with_file (wanted ∷ []) due) old now r
put_told name wanted said text due old now r named same is h =
    subst (λ n. Changes (with_file (n ∷ []) due) old now r) named (subst (λ t. Changes (with_file (name ∷ []) t) old now r) (same ∙ is) h)

pub taken_told : {T E : Type 0} (name wanted : List ℕ) (old now : Option Contents) (r : Result T E) → name ≡ wanted
    → Changes (without_text name) old now r → Changes (without_text wanted) old now r
taken_told name wanted old now r named h = subst (λ n. Changes (without_text n) old now r) named h

-- ---- the list of jobs

pub jobs_found_some : (o found : Option (List ℕ)) (text said : List ℕ) (r : Result (List Job) Fault) → found ≡ o → found ≡ Some text → said ≡ text
    → Answers (jobs_read (jobs_of said)) r → Answers (jobs_found o) r
jobs_found_some o found text said r is some same h =
    subst (λ o. Answers (jobs_found o) r) (sym some ∙ is) (subst (λ t. Answers (jobs_read (jobs_of t)) r) same h)

pub jobs_found_none : (o found : Option (List ℕ)) → found ≡ o → found ≡ None → Answers (jobs_found o) (Err fault.NotInitialised)
jobs_found_none o found is none = subst (λ o. Answers (jobs_found o) (Err fault.NotInitialised)) (sym none ∙ is) (inl refl)

-- ---- the index of a library

pub index_found_some : (lib : List ℕ) (o found : Option (List ℕ)) (text said : List ℕ) (r : Result Index Fault) → found ≡ o → found ≡ Some text → said ≡ text
    → Answers (index_read lib (index_of said)) r → Answers (index_found lib o) r
index_found_some lib o found text said r is some same h =
    subst (λ o. Answers (index_found lib o) r) (sym some ∙ is) (subst (λ t. Answers (index_read lib (index_of t)) r) same h)

pub index_found_none : (lib : List ℕ) (o found : Option (List ℕ)) → found ≡ o → found ≡ None → Answers (index_found lib o) (Err fault.BadIndex)
index_found_none lib o found is none = subst (λ o. Answers (index_found lib o) (Err fault.BadIndex)) (sym none ∙ is) (inl refl)

-- an index that was read, by whether it is of the library
abbrev chosen : Index → Bool → Result Index Fault
chosen index b = if b then Ok index else Err fault.BadIndex

pub index_same : (lib : List ℕ) (index : Index) (read : Result Index IndexKey) → read ≡ Ok index → bytes_eq index.lib lib ≡ true → Answers (index_read lib read) (Ok index)
index_same lib index read is same = ap (index_read lib) is ∙ ap (chosen index) same

pub index_other : (lib : List ℕ) (index : Index) (read : Result Index IndexKey) → read ≡ Ok index → bytes_eq index.lib lib ≡ false
    → Answers (index_read lib read) (Err fault.BadIndex)
index_other lib index read is other = inl (ap (index_read lib) is ∙ ap (chosen index) other)

-- a text that is no index, and want of memory
pub index_fault : (lib : List ℕ) (found : Result Index IndexKey) (f : ReadFault IndexKey) (e : Fault) → ReadsAs {A = Index} (Err f) found → e ≡ fault_of_index f
    → Answers (index_read lib found) (Err e)
index_fault lib found f e said is = subst (λ (e : Fault). Answers (index_read lib found) (Err e)) (sym is) (by f said)
  where
    by : (f : ReadFault IndexKey) → ReadsAs {A = Index} (Err f) found → Answers (index_read lib found) (Err (fault_of_index f))
    by (reading.Bad key) said = inl (ap (index_read lib) said)
    by reading.NoMemory said = inr refl

pub index_may : (f : ReadFault IndexKey) (e : Fault) → e ≡ fault_of_index f → IsIndexFault e
index_may f e is = subst IsIndexFault (sym is) (by f)
  where
    by : (f : ReadFault IndexKey) → IsIndexFault (fault_of_index f)
    by (reading.Bad key) = inl refl
    by reading.NoMemory = inr refl

pub index_uncounted : (f : ReadFault IndexKey) (e : Fault) → e ≡ fault_of_index f → is_of_folder e ≡ false
index_uncounted f e is = ap is_of_folder is ∙ by f
  where
    by : (f : ReadFault IndexKey) → is_of_folder (fault_of_index f) ≡ false
    by (reading.Bad key) = refl
    by reading.NoMemory = refl

pub library_same : (own lib : List ℕ) → bytes_eq own lib ≡ true → own ≡ lib
library_same own lib same = (bytes_decides own lib).0 same

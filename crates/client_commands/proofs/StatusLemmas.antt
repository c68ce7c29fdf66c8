-- The lines of jobs, one after another. The key lemmas are found_one, found_more, lacking_at, told_one, told_more, stopped_at, statuses_so and
-- same_holds.
use Rattle.std.proofs.Common.{◌≡◌, ◌+◌, ◌<◌, inl, inr, ℕ, suc, Bool, All, List, [], ◌∷◌, ◌++◌, length, take, drop, get_or, Option, Some, Result, Ok, Err, refl, sym, ap, subst, ◌∙◌, arith, drop-cons}
use Rattle.std.proofs.lemmas.List.{take-append-drop, take_more}
use Rattle.std.proofs.lemmas.List.Elements.{All-push}
use Rattle.folder_side.specs.Folder.{Contents}
use Rattle.folder_side.specs.declared.error.ScanFault.{ScanFault}
use Rattle.folder_texts.specs.FolderTexts.{text_at}
use Rattle.local_index.specs.declared.index.Index.{Index}
use Rattle.client_words.specs.declared.fault.Fault.{Fault}
use Rattle.client_words.specs.declared.job.Job.{Job}
use Rattle.client_words.specs.declared.line.Line.{Line}
use Rattle.client_desk.specs.KeptTexts.{Answers, jobs_found, jobs_name}
use Rattle.client_commands.specs.KeptSyncs.{index_at}
use Rattle.client_commands.specs.Statuses.{FindsIndex, FindsIndexes, HasIndex, IsSameDesk, LacksIndex, StatusesSo, TellJobs, TellsClean, TellsJob, TellsLine, TellsLines, TellsListed, Unlisted, failed, no_index, no_list, clean_line}
use Rattle.client_commands.specs.SyncFaults.{told_of_scan}
use Rattle.client_commands.specs.Views.{DeskView}
use Rattle.client_commands.specs.Worktrees.{ComparesSo}

-- ---- a list, and the place in it

module _ {X : Type 0} (xs : List X) (i : ℕ) (x : X) (within : i < length xs) (is : x ≡ get_or xs i x) where
  pub next_taken : take (i + 1) xs ≡ take i xs ++ x ∷ []
  next_taken = take_more xs i x within ∙ ap (λ (y : X). take i xs ++ y ∷ []) (sym is)

  pub next_left : drop i xs ≡ x ∷ drop (i + 1) xs
  next_left =
      let one : suc i ≡ i + 1 = omega arith in
      drop-cons xs i x within ∙ ap (λ (y : X). y ∷ drop (suc i) xs) (sym is) ∙ ap (λ (n : ℕ). x ∷ drop n xs) one

  cut_at : xs ≡ take i xs ++ x ∷ drop (i + 1) xs
  cut_at = sym (take-append-drop i xs) ∙ ap (λ (ys : List X). take i xs ++ ys) next_left

-- ---- indexes

module _ (c : Contents) (jobs : List Job) (i : ℕ) (job : Job) (within : i < length jobs) (is : job ≡ get_or jobs i job) where
  pub found_more : All (HasIndex c) (take i jobs) → HasIndex c job → All (HasIndex c) (take (i + 1) jobs)
  found_more before here = subst (All (HasIndex c)) (sym (next_taken jobs i job within is)) (All-push (HasIndex c) (take i jobs) job before here)

  lacking : (e : Fault) → index_at c job ≡ Err e → LacksIndex c jobs e
  lacking e lacks = record { before = take i jobs; job = job; after = drop (i + 1) jobs; cut = cut_at jobs i job within is; lacks = lacks }

  pub lacking_at : (e : Fault) → FindsIndex c job (Err e) → FindsIndexes c jobs (Err e)
  lacking_at e (inl lacks) = inr (lacking e lacks)
  lacking_at e (inr free) = inl free

-- ---- why the list of jobs with their indexes was not found

pub unlisted_list : (c : Contents) (e : Fault) → Answers (jobs_found (text_at c jobs_name)) (Err e) → Unlisted c e
unlisted_list c e (inl is) = no_list is
unlisted_list c e (inr free) = failed free

pub unlisted_index : (c : Contents) (jobs : List Job) (e : Fault) → jobs_found (text_at c jobs_name) ≡ Ok jobs → FindsIndexes c jobs (Err e) → Unlisted c e
unlisted_index c jobs e found (inl free) = failed free
unlisted_index c jobs e found (inr lacks) = no_index jobs found lacks

-- ---- lines

tells_push : (holds : List ℕ → Option Contents) (c : Contents) (jobs : List Job) (lines : List Line) (job : Job) (l : Line) → TellJobs holds c jobs lines → TellsJob holds c job l
    → TellJobs holds c (jobs ++ job ∷ []) (lines ++ l ∷ [])
tells_push holds c [] [] job l before here = (here, tt)
tells_push holds c [] (m ∷ lines) job l before here = absurd before
tells_push holds c (first ∷ jobs) [] job l before here = absurd before
tells_push holds c (first ∷ jobs) (m ∷ lines) job l before here = (before.0, tells_push holds c jobs lines job l before.1 here)

-- the same at a desk that holds the same
told_as : (old now : List ℕ → Option Contents) (c : Contents) (job : Job) (r : Result Line Fault) → now job.dir ≡ old job.dir → TellsLine now c job r → TellsLine old c job r
told_as old now c job (Ok l) same told =
    (told.0, told.1, told.2, told.3, λ d held. told.4 d (same ∙ held))
told_as old now c job (Err f) same (inl free) = inl free
told_as old now c job (Err f) same (inr (inl lacks)) = inr (inl lacks)
told_as old now c job (Err f) same (inr (inr stops)) = inr (inr (stops.0, stops.1, λ d held. stops.2 d (same ∙ held)))

module _ (old now : List ℕ → Option Contents) (c : Contents) (jobs : List Job) (i : ℕ) (job : Job) (within : i < length jobs) (is : job ≡ get_or jobs i job)
    (same : (d : List ℕ) → now d ≡ old d) (lines : List Line) (before : TellJobs old c (take i jobs) lines) where
  pub told_more : (all : List Line) (l : Line) → TellsLine now c job (Ok l) → all ≡ lines ++ l ∷ [] → TellJobs old c (take (i + 1) jobs) all
  told_more all l here grown =
      subst (λ (ls : List Line). TellJobs old c (take (i + 1) jobs) ls) (sym grown)
      (subst (λ (js : List Job). TellJobs old c js (lines ++ l ∷ [])) (sym (next_taken jobs i job within is))
      (tells_push old c (take i jobs) lines job l before (told_as old now c job (Ok l) (same job.dir) here)))

  pub stopped_at : (f : Fault) → TellsLine now c job (Err f) → TellsLines old c jobs (Err f)
  stopped_at f here = by (told_as old now c job (Err f) (same job.dir) here)
    where
      by : TellsLine old c job (Err f) → TellsLines old c jobs (Err f)
      by (inl free) = inl free
      by (inr (inl lacks)) = inr (inl (record { before = take i jobs; job = job; after = drop (i + 1) jobs; cut = cut_at jobs i job within is; lacks = lacks }))
      by (inr (inr stops)) =
          inr (inr (record { before = take i jobs; job = job; after = drop (i + 1) jobs; lines = lines; cut = cut_at jobs i job within is; told = before; stops = stops }))

pub no_lines : (holds : List ℕ → Option Contents) (c : Contents) (lines : List Line) → lines ≡ [] → TellJobs holds c [] lines
no_lines holds c lines none = subst (λ (ls : List Line). TellJobs holds c [] ls) (sym none) tt

-- ---- one job

module _ (holds : List ℕ → Option Contents) (c : Contents) (job : Job) where
  pub line_unread : (e : Fault) → Answers (index_at c job) (Err e) → TellsLine holds c job (Err e)
  line_unread e (inl lacks) = inr (inl lacks)
  line_unread e (inr free) = inl free

  pub line_so : (index : Index) (clean : Bool) (l : Line) → index_at c job ≡ Ok index → l ≡ clean_line job.lib clean → TellsClean (holds job.dir) index (Ok clean) → TellsLine holds c job (Ok l)
  line_so index clean l found is told = (index, found, clean, is, told)

  pub line_stops : (index : Index) (e : Fault) → TellsClean (holds job.dir) index (Err e) → TellsLine holds c job (Err e)
  line_stops index e (inl free) = inl free
  line_stops index e (inr stops) = inr (inr stops)

module _ (told out : Option Contents) (index : Index) where
  pub scan_told : (r : Result Bool ScanFault) → out ≡ told → ((d : Contents) → out ≡ Some d → ComparesSo d index r) → TellsClean told index (told_of_scan r)
  scan_told (Ok clean) same compares = λ d held. let seen = compares d (same ∙ held) in (seen.0, seen.1, seen.2)
  scan_told (Err why) same compares = inr (why, refl, λ d held. (compares d (same ∙ held)).2)

-- ---- all of it

abbrev no_lines_for : Fault → Result (List Line) Fault
no_lines_for f = Err f

-- no list, and then an index that is not there
pub status_unlisted : (holds : List ℕ → Option Contents) (c : Contents) (e : Fault) (due : Result (List Job) Fault) → Answers due (Err e) → TellsListed holds c due (Err e)
status_unlisted holds c e (Err f) (inl is) =
    let same : f ≡ e = cc in
    inl (ap no_lines_for same)
status_unlisted holds c e (Err f) (inr free) = inr free
status_unlisted holds c e (Ok jobs) (inl is) = let bad : ⊥ = cc in absurd bad
status_unlisted holds c e (Ok jobs) (inr free) = inl free

pub status_lacks : (holds : List ℕ → Option Contents) (c : Contents) (jobs : List Job) (e : Fault) (due : Result (List Job) Fault) → due ≡ Ok jobs → FindsIndexes c jobs (Err e)
    → TellsListed holds c due (Err e)
status_lacks holds c jobs e due is told = subst (λ (r : Result (List Job) Fault). TellsListed holds c r (Err e)) (sym is) (by told)
  where
    by : FindsIndexes c jobs (Err e) → StatusesSo holds c jobs (Err e)
    by (inl free) = inl free
    by (inr lacks) = inr (inl lacks)

pub status_so : (holds : List ℕ → Option Contents) (c : Contents) (jobs : List Job) (r : Result (List Line) Fault) (due : Result (List Job) Fault) → due ≡ Ok jobs → All (HasIndex c) jobs
    → TellsLines holds c jobs r → TellsListed holds c due r
status_so holds c jobs r due is all told = subst (λ (d : Result (List Job) Fault). TellsListed holds c d r) (sym is) (by r told)
  where
    by : (r : Result (List Line) Fault) → TellsLines holds c jobs r → StatusesSo holds c jobs r
    by (Ok lines) told = told
    by (Err f) (inl free) = inl free
    by (Err f) (inr (inl lacks)) = inr (inl lacks)
    by (Err f) (inr (inr stops)) = inr (inr (all, stops))

-- a desk that holds the same as one that holds the same
pub same_then : {N : Type 0} (old mid new : DeskView N) → IsSameDesk old mid → IsSameDesk mid new → IsSameDesk old new
same_then old mid new first later = record { dials = later.dials ∙ first.dials; holds = λ dir. later.holds dir ∙ first.holds dir }

-- A list of jobs that can stand together can do so with one that none of them meets, and without some of them. The key lemmas are with_new and
-- without_some.
use Rattle.std.proofs.Common.{◌≡◌, ◌+◌, ◌≤◌, ◌||◌, ℕ, suc, Bool, true, false, cond, nat_lt, not, All, List, [], ◌∷◌, ◌++◌, length, take, drop, unwrap_or, Ordering, Less, Equal, Greater, Option, None, Some, Result, Ok, refl, sym, ap, subst, ◌∙◌, arith, true≢false}
use Rattle.std.specs.Cmp.Lexicographic.{nat_list_cmp_total, slice_cmp}
use Rattle.std.specs.List.{filter, find, list_all, list_any, position_or_len}
use Rattle.std.specs.Ordering.{is_eq, is_lt, nat_cmp, ordering_reverse}
use Rattle.std.specs.Str.{bytes_eq}
use Rattle.std.proofs.lemmas.Bool.{and_from, and_parts, ltb-false}
use Rattle.std.proofs.lemmas.List.Elements.{All-filter, All-from_recursion, recursion_from_All}
use Rattle.std.proofs.lemmas.List.Folds.{list_all-append}
use Rattle.std.proofs.lemmas.List.Sums.{prefix_len-le-length}
use Rattle.std.proofs.lemmas.Map.Text.{is_eq-slice_cmp}
use Rattle.std.specs.List.{AllByRecursion}
use Rattle.ids.proofs.BasicLemmas.{apart_from_bytes_eq}
use Rattle.std.proofs.lemmas.Slice.Eq.{bytes_eq-Decides}
use Rattle.client_words.specs.JobReading.{is_behind}
use Rattle.client_words.specs.JobWriting.{AreJobs, IsJob, stand_in_order}
use Rattle.client_words.specs.declared.job.Job.{Job}
use Rattle.client_words.specs.declared.fault.Fault.{Fault}
use Rattle.client_desk.specs.JobList.{is_above, is_same_job, job_due, job_unless, jobs_with, meets_job, place_of}

-- ---- tests of all jobs of a list, and of one more

push_all : (P : Job → Bool) (jobs : List Job) (job : Job) → list_all P jobs ≡ true → P job ≡ true → list_all P (jobs ++ job ∷ []) ≡ true
push_all P jobs job all here = list_all-append P jobs (job ∷ []) ∙ and_from (list_all P jobs) (list_all P (job ∷ [])) all (and_from (P job) true here refl)

pushed_parts : (P : Job → Bool) (jobs : List Job) (job : Job) → list_all P (jobs ++ job ∷ []) ≡ true → (list_all P jobs ≡ true) × (P job ≡ true)
pushed_parts P jobs job all =
    let parts = and_parts (list_all P jobs) (list_all P (job ∷ [])) (sym (list_all-append P jobs (job ∷ [])) ∙ all) in
    (parts.0, (and_parts (P job) true parts.1).0)

or_parts : (a b : Bool) → (a || b) ≡ false → (a ≡ false) × (b ≡ false)
or_parts true b is = absurd (true≢false is)
or_parts false b is = (refl, is)

-- ---- jobs behind others, and one among those

wider : (before more jobs : List Job) (new : Job) → ((P : Job → Bool) → list_all P before ≡ true → P new ≡ true → list_all P more ≡ true) → stand_in_order before jobs ≡ true
    → list_all (λ job. is_behind new job) jobs ≡ true → stand_in_order more jobs ≡ true
wider before more [] new each stands all = refl
wider before more (j ∷ js) new each stands all =
    let parts = and_parts (list_all (λ other. is_behind other j) before) (stand_in_order (before ++ j ∷ []) js) stands in
    let first = and_parts (is_behind new j) (list_all (λ job. is_behind new job) js) all in
    and_from (list_all (λ other. is_behind other j) more) (stand_in_order (more ++ j ∷ []) js) (each (λ other. is_behind other j) parts.0 first.0)
    (wider (before ++ j ∷ []) (more ++ j ∷ []) js new
    (λ P was here. push_all P more j (each P (pushed_parts P before j was).0 here) (pushed_parts P before j was).1) parts.1 first.1)

without : (p : Job → Bool) (before less jobs : List Job) → ((P : Job → Bool) → list_all P before ≡ true → list_all P less ≡ true) → stand_in_order before jobs ≡ true
    → stand_in_order less (filter p jobs) ≡ true
without p before less [] each stands = refl
without p before less (j ∷ js) each stands =
    let parts = and_parts (list_all (λ other. is_behind other j) before) (stand_in_order (before ++ j ∷ []) js) stands in
    by (p j) (each (λ other. is_behind other j) parts.0)
    (without p (before ++ j ∷ []) (less ++ j ∷ []) js (λ P was. push_all P less j (each P (pushed_parts P before j was).0) (pushed_parts P before j was).1) parts.1)
    (without p (before ++ j ∷ []) less js (λ P was. each P (pushed_parts P before j was).0) parts.1)
  where
    by : (b : Bool) → list_all (λ other. is_behind other j) less ≡ true → stand_in_order (less ++ j ∷ []) (filter p js) ≡ true → stand_in_order less (filter p js) ≡ true
        → stand_in_order less (cond b (j ∷ filter p js) (filter p js)) ≡ true
    by true first kept left = and_from (list_all (λ other. is_behind other j) less) (stand_in_order (less ++ j ∷ []) (filter p js)) first kept
    by false first kept left = left

pub without_some : (p : Job → Bool) (jobs : List Job) → AreJobs jobs → AreJobs (filter p jobs)
without_some p jobs are = record { forms = All-filter p IsJob jobs are.forms; order = without p [] [] jobs (λ P was. was) are.order }

-- ---- the order of libraries

lt_is : (r : Ordering) → is_lt r ≡ true → r ≡ Less
lt_is Less is = refl
lt_is Equal is = absurd (true≢false (sym is))
lt_is Greater is = absurd (true≢false (sym is))

-- a library that is neither another nor below it is above it
lt_other : (a b : List ℕ) → is_lt (slice_cmp nat_cmp b a) ≡ false → bytes_eq a b ≡ false → is_lt (slice_cmp nat_cmp a b) ≡ true
lt_other a b low other = by (slice_cmp nat_cmp a b) refl
  where
    by : (r : Ordering) → slice_cmp nat_cmp a b ≡ r → is_lt r ≡ true
    by Less is = refl
    by Equal is = absurd (true≢false (ap is_eq (sym is) ∙ is_eq-slice_cmp a b ∙ other))
    by Greater is = absurd (true≢false (ap is_lt (sym (nat_list_cmp_total.antisymm b a ∙ ap ordering_reverse is)) ∙ low))

behind_new : (job new : Job) → is_above new job ≡ false → meets_job new job ≡ false → is_behind job new ≡ true
behind_new job new low none =
    let parts = or_parts (bytes_eq job.lib new.lib) (bytes_eq job.dir new.dir) none in
    and_from (is_lt (slice_cmp nat_cmp job.lib new.lib)) (not (bytes_eq job.dir new.dir)) (lt_other job.lib new.lib low parts.0) (ap not parts.1)

behind_old : (new job : Job) → is_above new job ≡ true → meets_job new job ≡ false → is_behind new job ≡ true
behind_old new job up none =
    let parts = or_parts (bytes_eq job.lib new.lib) (bytes_eq job.dir new.dir) none in
    let apart : bytes_eq new.dir job.dir ≡ false = apart_from_bytes_eq new.dir job.dir (λ same. true≢false (sym ((bytes_eq-Decides job.dir new.dir).1 (sym same)) ∙ parts.1)) in
    and_from (is_lt (slice_cmp nat_cmp new.lib job.lib)) (not (bytes_eq new.dir job.dir)) up (ap not apart)

above_rest : (new first job : Job) → is_above new first ≡ true → is_behind first job ≡ true → is_above new job ≡ true
above_rest new first job up behind =
    let parts = and_parts (is_lt (slice_cmp nat_cmp first.lib job.lib)) (not (bytes_eq first.dir job.dir)) behind in
    ap is_lt (nat_list_cmp_total.trans new.lib first.lib job.lib (lt_is _ up) (lt_is _ parts.0))

all_behind : (new first : Job) (before jobs : List Job) → is_above new first ≡ true → ((P : Job → Bool) → list_all P before ≡ true → P first ≡ true) → stand_in_order before jobs ≡ true
    → list_any (meets_job new) jobs ≡ false → list_all (λ job. is_behind new job) jobs ≡ true
all_behind new first before [] up has stands none = refl
all_behind new first before (j ∷ js) up has stands none =
    let parts = and_parts (list_all (λ other. is_behind other j) before) (stand_in_order (before ++ j ∷ []) js) stands in
    let met = or_parts (meets_job new j) (list_any (meets_job new) js) none in
    and_from (is_behind new j) (list_all (λ job. is_behind new job) js) (behind_old new j (above_rest new first j up (has (λ other. is_behind other j) parts.0)) met.0)
    (all_behind new first (before ++ j ∷ []) js up (λ P was. has P (pushed_parts P before j was).0) parts.1 met.1)

-- ---- one more, before the first whose library is above its own

abbrev inserted : Job → List Job → List Job
inserted new [] = new ∷ []
inserted new (x ∷ xs) = cond (is_above new x) (new ∷ x ∷ xs) (x ∷ inserted new xs)

inserted_at : (new : Job) (jobs : List Job) → take (position_or_len (is_above new) jobs) jobs ++ new ∷ drop (position_or_len (is_above new) jobs) jobs ≡ inserted new jobs
inserted_at new [] = refl
inserted_at new (x ∷ xs) = by (is_above new x) (inserted_at new xs)
  where
    place : ℕ
    place = position_or_len (is_above new) xs

    by : (b : Bool) → take place xs ++ new ∷ drop place xs ≡ inserted new xs
        → take (cond (not b) (1 + place) 0) (x ∷ xs) ++ new ∷ drop (cond (not b) (1 + place) 0) (x ∷ xs) ≡ cond b (new ∷ x ∷ xs) (x ∷ inserted new xs)
    by true rest = refl
    by false rest =
        let one : suc place ≡ 1 + place = omega arith in
        subst (λ (n : ℕ). take n (x ∷ xs) ++ new ∷ drop n (x ∷ xs) ≡ x ∷ inserted new xs) one (ap (λ (ys : List Job). x ∷ ys) rest)

place_is : (n size : ℕ) → n ≤ size → unwrap_or (cond (nat_lt n size) (Some n) None) size ≡ n
place_is n size within = by (nat_lt n size) refl
  where
    by : (b : Bool) → nat_lt n size ≡ b → unwrap_or (cond b (Some n) None) size ≡ n
    by true is = refl
    by false is =
        let past : size ≤ n = ltb-false n size is in
        omega (arith, within, past)

with_is : (new : Job) (jobs : List Job) → jobs_with new jobs ≡ inserted new jobs
with_is new jobs =
    let place : place_of new jobs ≡ position_or_len (is_above new) jobs = place_is (position_or_len (is_above new) jobs) (length jobs) (prefix_len-le-length (λ job. not (is_above new job)) jobs) in
    ap (λ (n : ℕ). take n jobs ++ new ∷ drop n jobs) place ∙ inserted_at new jobs

stands_with : (new : Job) (before jobs : List Job) → stand_in_order before jobs ≡ true → list_all (λ other. is_behind other new) before ≡ true → list_any (meets_job new) jobs ≡ false
    → stand_in_order before (inserted new jobs) ≡ true
stands_with new before [] stands behind none = and_from (list_all (λ other. is_behind other new) before) true behind refl
stands_with new before (x ∷ xs) stands behind none =
    let parts = and_parts (list_all (λ other. is_behind other x) before) (stand_in_order (before ++ x ∷ []) xs) stands in
    let met = or_parts (meets_job new x) (list_any (meets_job new) xs) none in
    by (is_above new x) refl parts.0 parts.1 met.0 met.1
    (λ low. stands_with new (before ++ x ∷ []) xs parts.1 (push_all (λ other. is_behind other new) before x behind (behind_new x new low met.0)) met.1)
  where
    by : (b : Bool) → is_above new x ≡ b → list_all (λ other. is_behind other x) before ≡ true → stand_in_order (before ++ x ∷ []) xs ≡ true → meets_job new x ≡ false
        → list_any (meets_job new) xs ≡ false → (is_above new x ≡ false → stand_in_order (before ++ x ∷ []) (inserted new xs) ≡ true)
        → stand_in_order before (cond b (new ∷ x ∷ xs) (x ∷ inserted new xs)) ≡ true
    by true up here rest apart others later =
        and_from (list_all (λ other. is_behind other new) before) (stand_in_order (before ++ new ∷ []) (x ∷ xs)) behind
        (wider before (before ++ new ∷ []) (x ∷ xs) new (λ P was is. push_all P before new was is) stands
        (and_from (is_behind new x) (list_all (λ job. is_behind new job) xs) (behind_old new x up apart)
        (all_behind new x (before ++ x ∷ []) xs up (λ P was. (pushed_parts P before x was).1) rest others)))
    by false low here rest apart others later =
        and_from (list_all (λ other. is_behind other x) before) (stand_in_order (before ++ x ∷ []) (inserted new xs)) here (later low)

forms_with : (new : Job) (jobs : List Job) → IsJob new → AllByRecursion IsJob jobs → AllByRecursion IsJob (inserted new jobs)
forms_with new [] is all = (is, tt)
forms_with new (x ∷ xs) is all = by (is_above new x) (forms_with new xs is all.1)
  where
    by : (b : Bool) → AllByRecursion IsJob (inserted new xs) → AllByRecursion IsJob (cond b (new ∷ x ∷ xs) (x ∷ inserted new xs))
    by true rest = (is, all)
    by false rest = (all.0, rest)

none_met : (met : Bool) (found : Option Job) → ◌≡◌ {A = Result (Option Job) Fault} (job_unless met found) (Ok None) → met ≡ false
none_met met (Some job) is = let bad : ⊥ = cc in absurd bad
none_met true None is = let bad : ⊥ = cc in absurd bad
none_met false None is = refl

pub with_new : (jobs : List Job) (new : Job) → AreJobs jobs → IsJob new → ◌≡◌ {A = Result (Option Job) Fault} (job_due jobs new) (Ok None) → AreJobs (jobs_with new jobs)
with_new jobs new are is due =
    let none : list_any (meets_job new) jobs ≡ false = none_met (list_any (meets_job new) jobs) (find (is_same_job new) jobs) due in
    subst AreJobs (sym (with_is new jobs)) (record {
      forms = All-from_recursion IsJob (inserted new jobs) (forms_with new jobs is (recursion_from_All IsJob jobs are.forms));
      order = stands_with new [] jobs are.order refl none;
    })

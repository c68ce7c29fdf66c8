-- The written value is that of the jobs, and is read as them.
use Rattle.std.proofs.Common.{◌≡◌, ◌≤◌, ◌∙◌, List, ℕ, map, false, Some, sym, ap, subst}
use Rattle.std.proofs.lemmas.Result.{IfOk-weaker}
use Rattle.serde_json.specs.Data.{Data, depth}
use Rattle.serde_json.specs.View.{view}
use Rattle.serde_json.specs.Written.{compact_text, has_float}
use Rattle.json_words.specs.JsonText.{json_of}
use Rattle.client_words.specs.JobReading.{jobs_of}
use Rattle.client_words.specs.JobWriting.{AreJobs, job_data, list_with, text_of}
use Rattle.client_words.proofs.JobLemmas.{jobs_in-data, jobs_of-known}
use Rattle.client_words.proofs.JobTextLemmas.{depth-list, has_float-list}
use Rattle.client_words.proofs.job_writing.write_jobs.Goals as goal

pub returns-clause-value : goal.returns-clause-value
returns-clause-value c =
    let d = view c.in_ok-value.value in
    let is = c.in_ok-value.ensures.value ∙ ap list_with c.in_ok-values.ensures.value in
    let P : List ℕ → Type 0 = λ text. has_float d ≡ false → text ≡ compact_text d in
    let Q : List ℕ → Type 0 = λ text. text ≡ text_of c.args.jobs.now in
    IfOk-weaker c.write.result P Q (λ text h. h (ap has_float is ∙ has_float-list c.args.jobs.now) ∙ ap compact_text is) c.write.ensures.value

pub returns-clause-reads_back : goal.returns-clause-reads_back
returns-clause-reads_back c =
    let jobs = c.args.jobs.now in
    let d = view c.in_ok-value.value in
    let is = c.in_ok-value.ensures.value ∙ ap list_with c.in_ok-values.ensures.value in
    let IsShallow : Data → Type 0 = λ v. depth v ≤ 127 in
    let P : List ℕ → Type 0 = λ text. depth d ≤ 127 → json_of text ≡ Some d in
    let Q : List ℕ → Type 0 = λ text. AreJobs jobs → jobs_of text ≡ Some jobs in
    IfOk-weaker c.write.result P Q
    (λ text h are.
    jobs_of-known text (list_with (map job_data jobs)) (h (subst IsShallow (sym is) (depth-list jobs)) ∙ ap Some is)
    ∙ jobs_in-data jobs are c.in_ok-values.ensures.typed)
    c.write.ensures.reads_back

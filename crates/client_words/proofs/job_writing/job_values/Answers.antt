-- One job more is in the list.
use Rattle.std.proofs.Common.{◌∷◌, ◌++◌, [], All, List, map, take, arith, sym, ap, subst, ◌∙◌}
use Rattle.std.proofs.lemmas.List.{take_all, take_more, map-append}
use Rattle.std.proofs.lemmas.List.Elements.{All-push}
use Rattle.serde_json.specs.View.{view}
use Rattle.client_words.specs.JobWriting.{job_data}
use Rattle.client_words.specs.TypedJob.{IsTyped}
use Rattle.client_words.specs.declared.job.Job.{Job}
use Rattle.client_words.proofs.job_writing.job_values.Goals as goal

pub loop-job-preserved : goal.loop-job-preserved
loop-job-preserved c =
    let before = take c.loop-job.job-index c.args.jobs.now in
    let job = c.job-item.result in
    let taken = take_more c.args.jobs.now c.loop-job.job-index job c.loop-job-test.true ∙ ap (λ x. before ++ x ∷ []) (sym c.job-item.is) in
    record {
      value =
          ap (map view) c.in_ok-push.ensures.items
          ∙ map-append view c.loop-job.values.items (c.in_ok-value.value ∷ [])
          ∙ ap (λ values. values ++ view c.in_ok-value.value ∷ []) c.loop-job.invariant.value
          ∙ ap (λ value. map job_data before ++ value ∷ []) c.in_ok-value.ensures.value
          ∙ sym (ap (map job_data) taken ∙ map-append job_data before (job ∷ []));
      typed = let P : List Job → Type 0 = λ jobs. All IsTyped jobs in
          subst P (sym taken) (All-push IsTyped before job c.loop-job.invariant.typed c.in_ok-value.ensures.typed);
    }

pub returns-clause-typed : goal.returns-clause-typed
returns-clause-typed c =
    let P : List Job → Type 0 = λ jobs. All IsTyped jobs in
    subst P (take_all c.loop-job.job-index c.args.jobs.now (omega arith)) c.loop-job.invariant.typed

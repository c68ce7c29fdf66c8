use Rattle.std.proofs.Common.{not, ap, ◌∙◌, rules}
use Rattle.std.proofs.lemmas.Fn.{filter_same}
use Rattle.client_words.specs.declared.job.Job.{Job}
use Rattle.client_desk.specs.JobList.{is_of_folder, jobs_without}
use Rattle.client_desk.proofs.job_list.jobs_without.Goals as goal

pub returns : goal.returns
returns c =
    let left = filter_same _ (λ (job : Job). not (is_of_folder c.args.dir.now job)) _ (λ x b f' k. search rules) _ _ c.retain.ensures.filtered in
    record { value = c.from_vec.ensures.value ∙ left ∙ ap (jobs_without c.args.dir.now) c.into_vec-left.ensures.value }

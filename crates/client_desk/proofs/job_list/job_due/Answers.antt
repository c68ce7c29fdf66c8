use Rattle.std.proofs.Common.{sym, ◌∙◌}
use Rattle.std.specs.List.{find, list_any}
use Rattle.client_desk.specs.JobList.{is_same_job, meets_job}
use Rattle.client_desk.proofs.ListLemmas.{due_met, due_none, due_there}
use Rattle.client_desk.proofs.job_list.job_due.Goals as goal

pub returns-in-Some : goal.returns-in-Some
returns-in-Some c = record {
  value = due_there (list_any (meets_job c.args.new.now) c.args.jobs.now) (find (is_same_job c.args.new.now) c.args.jobs.now) c.in-Some.job.now c.in-Some.ensures.value;
}

pub returns-then-meets_any : goal.returns-then-meets_any
returns-then-meets_any c = record {
  value =
      due_met (list_any (meets_job c.args.new.now) c.args.jobs.now) (find (is_same_job c.args.new.now) c.args.jobs.now) c.in-None.ensures.value
      (sym c.if-meets_any.true ∙ c.meets_any.ensures.value);
}

pub returns-else-meets_any : goal.returns-else-meets_any
returns-else-meets_any c = record {
  value =
      due_none (list_any (meets_job c.args.new.now) c.args.jobs.now) (find (is_same_job c.args.new.now) c.args.jobs.now) c.in-None.ensures.value
      (sym c.if-meets_any.false ∙ c.meets_any.ensures.value);
}

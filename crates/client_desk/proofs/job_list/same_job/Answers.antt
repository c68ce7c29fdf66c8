use Rattle.std.proofs.Common.{rules, tests}
use Rattle.std.proofs.lemmas.Iterator.{YieldsList-from_slice}
use Rattle.std.proofs.lemmas.Iterator.Search.{find_from_yields_List}
use Rattle.client_desk.specs.JobList.{is_same_job}
use Rattle.client_desk.proofs.job_list.same_job.Goals as goal

pub returns : goal.returns
returns c = record {
  value = find_from_yields_List (λ job. is_same_job c.args.new.now job) _ _ _ c.find.ensures.ran (YieldsList-from_slice c.args.jobs.now cc) (λ x b q k. search (rules, tests));
}

-- One index more.
use Rattle.std.proofs.Common.{◌∙◌, refl, subst, All}
use Rattle.std.proofs.lemmas.List.{take_all}
use Rattle.std.proofs.lemmas.List.Elements.{All-nil}
use Rattle.client_commands.specs.Statuses.{HasIndex}
use Rattle.client_commands.proofs.KeepLemmas.{fails_from}
use Rattle.client_commands.proofs.StatusLemmas.{found_more, lacking_at}
use Rattle.client_commands.proofs.statuses.check_indexes.Goals as goal

pub loop-job-init : goal.loop-job-init
loop-job-init g c = record { stays = refl; faults = refl; found = λ held told. All-nil (HasIndex held) }

pub loop-job-preserved : goal.loop-job-preserved
loop-job-preserved g c = record {
  stays = c.check_index.ensures.stays ∙ c.loop-job.invariant.stays;
  faults = c.in-Ok.ensures.faults ∙ c.loop-job.invariant.faults;
  found = λ held told.
      found_more held c.args.jobs.now c.loop-job.job-index c.job-item.result c.loop-job-test.true c.job-item.is (c.loop-job.invariant.found held told)
      (c.in-Ok.ensures.value held (c.loop-job.invariant.stays ∙ told));
}

pub returns-in-Err : goal.returns-in-Err
returns-in-Err g c = record {
  value = λ held told.
      lacking_at held c.args.jobs.now c.loop-job.job-index c.job-item.result c.loop-job-test.true c.job-item.is c.in-Err.fault (c.in-Err.ensures.value held (c.loop-job.invariant.stays ∙ told));
  may = c.in-Err.ensures.may;
  stays = c.check_index.ensures.stays ∙ c.loop-job.invariant.stays;
  faults = fails_from c.in-Err.fault _ _ _ c.loop-job.invariant.faults c.in-Err.ensures.faults;
}

pub returns : goal.returns
returns g c = record {
  value = λ held told. subst (All (HasIndex held)) (take_all c.loop-job.job-index c.args.jobs.now c.loop-job-test.false) (c.loop-job.invariant.found held told);
  may = tt;
  stays = c.loop-job.invariant.stays;
  faults = c.loop-job.invariant.faults;
}

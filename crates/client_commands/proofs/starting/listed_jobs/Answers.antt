-- The list is looked for, and then the index of each job.
use Rattle.std.proofs.Common.{◌∙◌}
use Rattle.client_commands.proofs.KeepLemmas.{fails_from, list_local}
use Rattle.client_commands.proofs.StatusLemmas.{unlisted_index, unlisted_list}
use Rattle.client_commands.proofs.starting.listed_jobs.Goals as goal

pub returns-in-Err : goal.returns-in-Err
returns-in-Err g c = record {
  value = λ held told. unlisted_list held c.in-Err.fault (c.in-Err.ensures.value held told);
  proper = tt;
  may = list_local c.in-Err.fault c.in-Err.ensures.may;
  stays = c.jobs_in.ensures.stays;
  faults = c.in-Err.ensures.faults;
}

pub returns-in-Ok-check_indexes : goal.returns-in-Ok-check_indexes
returns-in-Ok-check_indexes g c = record {
  value = λ held told. (c.in-Ok.ensures.value held told, rw c.slice.ensures.value at (c.in-Ok-check_indexes.ensures.value held (c.jobs_in.ensures.stays ∙ told)));
  proper = c.in-Ok.ensures.proper;
  may = tt;
  stays = c.check_indexes.ensures.stays ∙ c.jobs_in.ensures.stays;
  faults = c.in-Ok-check_indexes.ensures.faults ∙ c.in-Ok.ensures.faults;
}

pub returns-in-Err-check_indexes : goal.returns-in-Err-check_indexes
returns-in-Err-check_indexes g c = record {
  value = λ held told.
      unlisted_index held c.in-Ok.jobs c.in-Err-check_indexes.fault (c.in-Ok.ensures.value held told)
      (rw c.slice.ensures.value at (c.in-Err-check_indexes.ensures.value held (c.jobs_in.ensures.stays ∙ told)));
  proper = tt;
  may = c.in-Err-check_indexes.ensures.may;
  stays = c.check_indexes.ensures.stays ∙ c.jobs_in.ensures.stays;
  faults = fails_from c.in-Err-check_indexes.fault _ _ _ c.in-Ok.ensures.faults c.in-Err-check_indexes.ensures.faults;
}

use Rattle.std.proofs.Common.{ℕ, Option, length, ap}
use Rattle.std.specs.Prelude.{unwrap_or}
use Rattle.client_desk.proofs.job_list.place_of.Goals as goal

pub returns-in-Some-clause-value : goal.returns-in-Some-clause-value
returns-in-Some-clause-value c = ap (λ (o : Option ℕ). unwrap_or o (length c.args.jobs.now)) c.in-Some.ensures.value

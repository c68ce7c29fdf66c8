use Rattle.http_client.proofs.OutcomeBodyLemmas.{outcome_read}
use Rattle.http_client.proofs.laws.the_body_that_is_written_for_an_outcome_is_read_as_the_outcome.Goals as goal

pub returns : goal.returns
returns c = λ order outcome can is. outcome_read order outcome can is

use Rattle.std.proofs.Common.{ℕ, ◌^◌, ◌<◌, arith}
use Rattle.http_client.proofs.ReplyReadLemmas.{reply_read}
use Rattle.http_client.proofs.laws.what_is_written_for_an_outcome_is_read_as_the_outcome.Goals as goal

within : (n : ℕ) → n < 10 ^ 19 → n < 2 ^ 64
within n small = omega (arith, small)

pub returns : goal.returns
returns c = λ order outcome ends rest can tells small. reply_read order outcome ends rest can tells small (within _ small)

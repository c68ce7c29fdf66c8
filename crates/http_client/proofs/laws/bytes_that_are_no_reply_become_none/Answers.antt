use Rattle.http_client.proofs.MoreBytesLemmas.{bad_more}
use Rattle.http_client.proofs.laws.bytes_that_are_no_reply_become_none.Goals as goal

pub returns : goal.returns
returns c = λ order buffer more at is. bad_more order buffer more at is

use Rattle.http_client.proofs.OneReplyLemmas.{one_reply}
use Rattle.http_client.proofs.laws.some_bytes_tell_one_reply.Goals as goal

pub returns : goal.returns
returns c = λ order buffer r s is also. one_reply order buffer r s is also

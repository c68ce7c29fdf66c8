use Rattle.http_client.proofs.MoreBytesLemmas.{whole_alone, whole_more}
use Rattle.http_client.proofs.laws.a_whole_reply_is_one_whatever_follows_it.Goals as goal

pub returns : goal.returns
returns c = record {
  whole = λ order buffer more outcome used ends is. whole_more order buffer more outcome used ends is;
  part = λ order buffer outcome used ends is. whole_alone order buffer outcome used ends is;
}

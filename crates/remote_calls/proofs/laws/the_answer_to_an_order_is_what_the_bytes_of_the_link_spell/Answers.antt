use Rattle.remote_calls.proofs.ExchangeLemmas.{exchange_spells}
use Rattle.remote_calls.proofs.laws.the_answer_to_an_order_is_what_the_bytes_of_the_link_spell.Goals as goal

pub returns : goal.returns
returns c = λ what text input old new ending is told. exchange_spells what text input old new ending is told

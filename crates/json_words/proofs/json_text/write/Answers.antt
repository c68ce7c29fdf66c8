-- What is written is UTF-8, and reads as the value.
use Rattle.std.proofs.Common.{◌∙◌}
use Rattle.json_words.proofs.JsonLemmas.{json_of-utf8}
use Rattle.json_words.proofs.json_text.write.Goals as goal

pub returns-clause-reads_back : goal.returns-clause-reads_back
returns-clause-reads_back c = λ shallow.
    rw c.from_vec.ensures.value (json_of-utf8 c.in_ok-text.text.items c.in_ok-text.ensures.utf8 ∙ c.in_ok-text.ensures.reads_back shallow)

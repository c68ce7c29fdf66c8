-- A job that a line asks for has the form of its options.
use Rattle.client_words.proofs.ProperWordsLemmas.{matched_proper, told_proper}
use Rattle.client_words.proofs.word_reading.read_words.Goals as goal

pub returns-clause-proper : goal.returns-clause-proper
returns-clause-proper c = told_proper c.matched_words.result _ (matched_proper _) c.matched_words.ensures.value

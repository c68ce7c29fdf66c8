-- What is read as a command is its spelling.
use Rattle.server_words.proofs.SpellingLemmas.{words_of-command_of}
use Rattle.server_words.proofs.laws.a_command_is_spelled_in_one_way.Goals as goal

pub returns : goal.returns
returns c = words_of-command_of

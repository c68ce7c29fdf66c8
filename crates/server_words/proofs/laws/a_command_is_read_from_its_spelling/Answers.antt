-- The spelling of a command is read as it.
use Rattle.server_words.proofs.SpellingLemmas.{command_of-words_of}
use Rattle.server_words.proofs.laws.a_command_is_read_from_its_spelling.Goals as goal

pub returns : goal.returns
returns c = command_of-words_of

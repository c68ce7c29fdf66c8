-- The place of a command is that of its second word.
use Rattle.server_words.proofs.LocationLemmas.{location_of_words}
use Rattle.server_words.proofs.laws.a_command_is_in_memory_where_its_words_say_so.Goals as goal

pub returns : goal.returns
returns c = location_of_words

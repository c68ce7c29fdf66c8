use Rattle.std.proofs.Common.{sym}
use Rattle.server_words.proofs.LibraryWordsLemmas.{line_fits}
use Rattle.server_words.proofs.command_line.read_libraries.Goals as goal

pub returns-clause-fits : goal.returns-clause-fits
returns-clause-fits c = line_fits c.args.words.now c.library_ids.result (sym c.if-not-is_line_of_libraries.ensures.value) c.library_ids.ensures.value

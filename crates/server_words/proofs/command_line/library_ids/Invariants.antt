-- What was read so far, and then what is left, make the whole; there is room for each id.
use Rattle.std.proofs.Common.{◌≡◌, ◌≤◌, drop, length, vec_len, vec_capacity}
use Rattle.server_words.specs.CommandLine.{ids_of}
use Rattle.server_words.proofs.LibraryWordsLemmas.{after}
use Rattle.server_words.proofs.command_line.library_ids.Given as goal

abbrev pub invariant-loop-word : goal.invariant-loop-word
invariant-loop-word l = (ids_of l.words ≡ after l.ids.items (ids_of (drop l.word-index l.words))) × (length l.words ≤ vec_capacity l.ids) × (vec_len l.ids ≡ l.word-index)

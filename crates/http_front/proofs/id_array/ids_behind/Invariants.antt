-- What is left to check, after the ids so far, gives the whole answer.
use Rattle.std.proofs.Common.{length}
use Rattle.json_words.specs.Check.{each}
use Rattle.json_words.proofs.EachLemmas.{each_after}
use Rattle.json_tokens.proofs.RestLemmas.{Reads}
use Rattle.http_front.specs.IdArray.{id_at}
use Rattle.http_front.proofs.id_array.ids_behind.Given as goal

abbrev pub invariant-items : goal.invariant-items
invariant-items l = Reads (each id_at) (each_after id_at l.ids) 126 l.initial.reader l.reader

abbrev pub decreases-items : goal.decreases-items
decreases-items l = length l.reader

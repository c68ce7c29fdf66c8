-- The keys so far are fresh, and those that weren't are listed.
use Rattle.std.proofs.Common.{take}
use Rattle.depot.proofs.CollectionLemmas.{FreshenedSoFar}
use Rattle.depot.proofs.collection.Collection.freshen.Given as goal

abbrev pub invariant-loop-key : goal.invariant-loop-key
invariant-loop-key l = FreshenedSoFar (take l.key-index l.keys) l.initial.self l.self l.listed

use Rattle.std.proofs.Common.{rules}
use Rattle.turnstile.proofs.EntryLemmas.{counts}
use Rattle.turnstile.proofs.steps.Turnstile+V.count_in_turn.Goals as goal

pub load-requires : goal.load-requires
load-requires g c = (c.requires.own, search rules, counts _ _ _ _ _ c.requires.turn)

use Rattle.std.proofs.Common.{rules}
use Rattle.turnstile.proofs.EntryLemmas.{totals}
use Rattle.turnstile.proofs.steps.Turnstile+V.total.Goals as goal

pub load-requires : goal.load-requires
load-requires g c = (c.requires.own, search rules, totals _ _ _ _ _ c.requires.parts)

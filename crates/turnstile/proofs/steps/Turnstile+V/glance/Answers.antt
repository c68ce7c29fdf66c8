use Rattle.std.proofs.Common.{rules}
use Rattle.turnstile.proofs.EntryLemmas.{glances}
use Rattle.turnstile.proofs.steps.Turnstile+V.glance.Goals as goal

pub load-requires : goal.load-requires
load-requires g c = (c.requires.own, search rules, glances _ _ _ _ _)

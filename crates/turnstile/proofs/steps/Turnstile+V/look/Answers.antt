use Rattle.std.proofs.Common.{rules}
use Rattle.turnstile.proofs.TurnLemmas.{looks}
use Rattle.turnstile.proofs.steps.Turnstile+V.look.Goals as goal

pub load-requires : goal.load-requires
load-requires g c = (c.requires.own, search rules, looks _ _ _ _ _ c.requires.ready c.requires.parts)

use Rattle.std.proofs.Common.{rules, refl}
use Rattle.turnstile.proofs.DrawLemmas.{draws}
use Rattle.turnstile.proofs.steps.Turnstile+V.draw.Goals as goal

pub compare_exchange-requires : goal.compare_exchange-requires
compare_exchange-requires g c = (c.requires.own, search rules, draws _ _ _ _ _ _ _ c.requires.below refl c.requires.ready.0 c.requires.ready.1 c.requires.parts)

use Rattle.std.proofs.Common.{rules}
use Rattle.turnstile.proofs.PassLemmas.{joins}
use Rattle.turnstile.proofs.steps.Turnstile+V.merge.Goals as goal

pub join_seat-requires : goal.join_seat-requires
join_seat-requires g c = (c.requires.own.0, c.requires.own.1, c.requires.ready.3, search rules, joins _ _ _ _ _ _ c.requires.ready.0 c.requires.ready.1 c.requires.ready.2 c.requires.parts)

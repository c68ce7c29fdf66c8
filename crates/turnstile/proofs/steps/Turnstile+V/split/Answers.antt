use Rattle.std.proofs.Common.{rules}
use Rattle.turnstile.proofs.PassLemmas.{splits}
use Rattle.turnstile.proofs.steps.Turnstile+V.split.Goals as goal

pub split_seat-seat-requires : goal.split_seat-seat-requires
split_seat-seat-requires g c = (c.requires.own, search rules, splits _ _ _ _ (search rules))

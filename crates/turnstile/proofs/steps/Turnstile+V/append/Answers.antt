use Rattle.std.proofs.Common.{rules}
use Rattle.turnstile.proofs.EntryLemmas.{publishes}
use Rattle.turnstile.proofs.steps.Turnstile+V.append.Goals as goal

pub fetch_add-requires : goal.fetch_add-requires
fetch_add-requires g c = (search rules, search rules, publishes _ _ _ _ _ c.args.entry.value (search rules) (search rules) (search rules) (search rules))

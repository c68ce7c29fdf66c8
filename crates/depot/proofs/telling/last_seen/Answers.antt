-- The token at the place is the one that the secret shows.
use Rattle.std.proofs.Common.{sym, ◌∙◌}
use Rattle.depot.proofs.TellingLemmas.{seen_at, seen_none}
use Rattle.depot.proofs.telling.last_seen.Goals as goal

pub returns-in-Some-place_of : goal.returns-in-Some-place_of
returns-in-Some-place_of c = record {
  value = sym (seen_at c.args.tokens.now c.args.secret.now c.in-Some.shown c.in-Some-place_of.place c.index-tokens-place.result c.in-Some.is c.in-Some-place_of.ensures.found);
}

pub returns-in-None-place_of : goal.returns-in-None-place_of
returns-in-None-place_of c = record { value = sym (seen_none c.args.tokens.now c.args.secret.now c.in-Some.shown c.in-Some.is c.in-None-place_of.ensures.absent) }

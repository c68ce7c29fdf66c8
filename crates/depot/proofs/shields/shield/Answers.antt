use Rattle.std.proofs.Common.{refl}
use Rattle.depot.proofs.MayFreshLemmas.{none_shielded, shields_is}
use Rattle.depot.proofs.shields.shield.Goals as goal

pub returns-in-Some : goal.returns-in-Some
returns-in-Some c = record {
  value = shields_is c.args.running.now _ c.in-Some.collection c.shield_in.new.running c.in-Some.is refl c.args.keys.now c.shield_in.ensures.value;
}

pub returns-in-None : goal.returns-in-None
returns-in-None c = record { value = none_shielded c.args.keys.now c.args.running.now _ c.in-None.is c.in-None.is }

-- Damage is that of what is stored.
use Rattle.std.proofs.Common.{sym, subst}
use Rattle.library_state.specs.declared.refusal.Refusal.{Refusal}
use Rattle.depot.specs.ObjectCalls.{IsToldDamageOf}
use Rattle.depot.proofs.ObjectCallLemmas.{get_damage}
use Rattle.depot.proofs.object_calls.get_object.Goals as goal

pub returns-in-Err-clause-damaged : goal.returns-in-Err-clause-damaged
returns-in-Err-clause-damaged g c = λ objects told.
    subst (λ (why : Refusal). IsToldDamageOf objects why) (sym c.store_refusal.ensures.value)
    (get_damage objects c.args.key.now c.in-Err.fault (c.in-Err.ensures.refused objects told))

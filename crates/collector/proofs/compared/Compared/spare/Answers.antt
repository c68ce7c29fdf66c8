-- One key more.
use Rattle.std.proofs.Common.{List, arith, subst, sym}
use Rattle.std.proofs.lemmas.List.{take_all}
use Rattle.ids.specs.declared.key.Key.{Key}
use Rattle.collector.specs.Compared.{ComparedView, Spares, SparesSome}
use Rattle.collector.proofs.ComparedLemmas.{spares_more, spares_none, spares_some}
use Rattle.collector.proofs.WorklistLemmas.{on_error}
use Rattle.collector.proofs.compared.Compared.spare.Goals as goal

pub loop-key-init : goal.loop-key-init
loop-key-init c = spares_none c.args.self.now

pub loop-key-preserved : goal.loop-key-preserved
loop-key-preserved c =
    spares_more c.args.self.now c.loop-key.self c.spare_one.new.self c.args.keys.now c.loop-key.key-index c.key-item.result c.loop-key-test.true c.key-item.is
    c.in_ok-spare_one.ensures.ok c.loop-key.invariant

pub returns-in_err-spare_one-clause-err : goal.returns-in_err-spare_one-clause-err
returns-in_err-spare_one-clause-err c =
    on_error _ c.from_residual.result
    (subst (λ (new : ComparedView). SparesSome c.args.keys.now c.args.self.now new) (sym c.in_err-spare_one.ensures.err)
    (spares_some c.args.keys.now c.loop-key.key-index c.args.self.now c.loop-key.self c.loop-key.invariant))

pub returns-clause-ok : goal.returns-clause-ok
returns-clause-ok c =
    subst (λ (keys : List Key). Spares keys c.args.self.now c.loop-key.self) (take_all c.loop-key.key-index c.args.keys.now (omega arith)) c.loop-key.invariant

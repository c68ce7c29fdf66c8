-- A key that wasn't fresh is listed, and becomes fresh if there is room for it.
use Rattle.std.proofs.Common.{sym, ◌∙◌}
use Rattle.depot.proofs.CollectionLemmas.{error_then, freshens_again, freshens_failed, freshens_put, freshens_unlisted, ok_then}
use Rattle.collector.proofs.WorklistLemmas.{on_error}
use Rattle.depot.proofs.collection.Collection.freshen_one.Goals as goal

pub returns-then-has-clause-ok : goal.returns-then-has-clause-ok
returns-then-has-clause-ok c =
    freshens_again c.self.inside.marks c.self.inside.fresh c.self.inside.stored c.self.inside.turned.count c.args.key.now c.args.self.now c.self.view_is c.args.listed.now
    (sym c.has.ensures.value ∙ c.if-has.true)

pub returns-in_err-push-clause-err : goal.returns-in_err-push-clause-err
returns-in_err-push-clause-err c =
    on_error _ c.from_residual.result
    (freshens_unlisted c.self.inside.marks c.self.inside.fresh c.self.inside.stored c.self.inside.turned.count c.args.key.now c.args.self.now c.self.view_is c.args.listed.now c.push.new.self
    c.in_err-push.ensures.err)

pub returns-clause-ok : goal.returns-clause-ok
returns-clause-ok c =
    ok_then c.put.result
    (λ put. freshens_put c.self.inside.marks c.self.inside.fresh c.self.inside.stored c.self.inside.turned.count c.args.key.now c.args.self.now c.self.view_is c.put.new.self c.args.listed.now c.push.new.self
    (sym c.has.ensures.value ∙ c.if-has.false) put c.in_ok-push.ensures.ok) c.put.ensures.ok

pub returns-clause-err : goal.returns-clause-err
returns-clause-err c =
    error_then c.put.result
    (λ stays. freshens_failed c.self.inside.marks c.self.inside.fresh c.self.inside.stored c.self.inside.turned.count c.args.key.now c.args.self.now c.self.view_is c.put.new.self c.args.listed.now c.push.new.self
    (sym c.has.ensures.value ∙ c.if-has.false) stays c.in_ok-push.ensures.ok) c.put.ensures.err

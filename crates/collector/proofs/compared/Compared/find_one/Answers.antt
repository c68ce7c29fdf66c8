use Rattle.std.proofs.Common.{ap, subst, sym, ◌∷◌, [], ◌∙◌}
use Rattle.collector.specs.Compared.{ComparedView, Finds}
use Rattle.collector.specs.Worklist.{WorklistView}
use Rattle.collector.proofs.ComparedLemmas.{compared_of, finds_met, finds_spared}
use Rattle.collector.proofs.WorklistLemmas.{on_error}
use Rattle.collector.proofs.compared.Compared.find_one.Goals as goal

pub returns-then-has-clause-ok : goal.returns-then-has-clause-ok
returns-then-has-clause-ok c =
    subst (λ (view : ComparedView). Finds (c.args.key.now ∷ []) view view) c.self.view_is (finds_spared (compared_of c.self.inside.found c.self.inside.spared c.self.inside.beside) c.args.key.now (sym c.has.ensures.value ∙ c.if-has.true))

pub returns-in_err-meet-clause-err : goal.returns-in_err-meet-clause-err
returns-in_err-meet-clause-err c =
    on_error _ c.from_residual.result
    (ap (λ (found : WorklistView). compared_of found c.self.inside.spared c.self.inside.beside) c.in_err-meet.ensures.err ∙ c.self.view_is)

pub returns-clause-ok : goal.returns-clause-ok
returns-clause-ok c =
    subst (λ (old : ComparedView). Finds (c.args.key.now ∷ []) old (compared_of c.meet.new.self c.self.inside.spared c.self.inside.beside)) c.self.view_is
    (finds_met c.self.inside.found c.meet.new.self c.self.inside.spared c.self.inside.beside c.args.key.now (sym c.has.ensures.value ∙ c.if-has.false) c.in_ok-meet.ensures.ok)

use Rattle.std.proofs.Common.{ap, ◌∙◌}
use Rattle.collector.specs.Compared.{ComparedView, with_found}
use Rattle.collector.proofs.ComparedLemmas.{compared_of, met_found}
use Rattle.collector.specs.Worklist.{WorklistView}
use Rattle.collector.proofs.WorklistLemmas.{on_error}
use Rattle.collector.proofs.compared.Compared.meet.Goals as goal

pub returns-in_err-meet-clause-err : goal.returns-in_err-meet-clause-err
returns-in_err-meet-clause-err c =
    on_error _ c.from_residual.result
    (ap (λ (found : WorklistView). compared_of found c.self.inside.spared c.self.inside.beside) c.in_err-meet.ensures.err ∙ c.self.view_is)

pub returns-clause-ok : goal.returns-clause-ok
returns-clause-ok c =
    met_found c.self.inside.found c.meet.new.self c.self.inside.spared c.self.inside.beside c.args.key.now c.in_ok-meet.ensures.ok
    ∙ ap (λ (compared : ComparedView). with_found compared c.args.key.now) c.self.view_is

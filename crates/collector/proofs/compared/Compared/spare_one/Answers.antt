use Rattle.std.proofs.Common.{ap, ◌∙◌}
use Rattle.std.specs.Prelude.{⊤}
use Rattle.std.specs.FinMap as map
use Rattle.ids.specs.Key.{key_cmp}
use Rattle.collector.specs.Compared.{ComparedView, with_spared}
use Rattle.collector.proofs.ComparedLemmas.{compared_of}
use Rattle.collector.proofs.WorklistLemmas.{on_error}
use Rattle.collector.proofs.compared.Compared.spare_one.Goals as goal

pub returns-in_err-put-clause-err : goal.returns-in_err-put-clause-err
returns-in_err-put-clause-err c =
    on_error _ c.from_residual.result
    (ap (λ (spared : map.FinMap key_cmp ⊤). compared_of c.self.inside.found spared c.self.inside.beside) c.in_err-put.ensures.err ∙ c.self.view_is)

pub returns-clause-ok : goal.returns-clause-ok
returns-clause-ok c =
    ap (λ (spared : map.FinMap key_cmp ⊤). compared_of c.self.inside.found spared c.self.inside.beside) c.in_ok-put.ensures.ok
    ∙ ap (λ (compared : ComparedView). with_spared compared c.args.key) c.self.view_is

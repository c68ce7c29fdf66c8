use Rattle.std.proofs.Common.{List, ap, ℕ, ◌∙◌}
use Rattle.std.specs.FinMap as map
use Rattle.ids.specs.Key.{key_cmp}
use Rattle.collector.specs.Compared.{ComparedView}
use Rattle.collector.proofs.ComparedLemmas.{compared_of}
use Rattle.collector.proofs.WorklistLemmas.{on_error}
use Rattle.collector.proofs.compared.Compared.place.Goals as goal

pub returns-in_err-put-clause-err : goal.returns-in_err-put-clause-err
returns-in_err-put-clause-err c =
    on_error _ c.from_residual.result
    (ap (λ (beside : map.FinMap key_cmp (List ℕ)). compared_of c.self.inside.found c.self.inside.spared beside) c.in_err-put.ensures.err ∙ c.self.view_is)

pub returns-clause-ok : goal.returns-clause-ok
returns-clause-ok c =
    ap (λ (beside : map.FinMap key_cmp (List ℕ)). compared_of c.self.inside.found c.self.inside.spared beside) c.in_ok-put.ensures.ok
    ∙ ap (λ (compared : ComparedView). record compared { beside = map.insert compared.beside c.args.key c.args.id }) c.self.view_is

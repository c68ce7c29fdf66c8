use Rattle.std.proofs.Common.{List, ap, ℕ, ◌∙◌}
use Rattle.std.specs.FinMap as map
use Rattle.ids.specs.Key.{key_cmp}
use Rattle.collector.specs.Compared.{ComparedView}
use Rattle.collector.proofs.ComparedLemmas.{compared_of}
use Rattle.collector.proofs.compared.Compared.take_beside.Goals as goal

pub returns-clause-value : goal.returns-clause-value
returns-clause-value c = c.remove.ensures.value ∙ ap (λ (compared : ComparedView). map.get compared.beside c.args.key.now) c.self.view_is

pub returns-clause-stays : goal.returns-clause-stays
returns-clause-stays c =
    ap (λ (beside : map.FinMap key_cmp (List ℕ)). compared_of c.self.inside.found c.self.inside.spared beside) c.remove.ensures.stays
    ∙ ap (λ (compared : ComparedView). record compared { beside = map.remove compared.beside c.args.key.now }) c.self.view_is

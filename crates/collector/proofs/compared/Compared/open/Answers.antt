use Rattle.std.proofs.Common.{ap, subst, sym, ◌∙◌}
use Rattle.collector.specs.Compared.{ComparedView, OpensFirst}
use Rattle.collector.proofs.ComparedLemmas.{compared_of, opens_found}
use Rattle.collector.proofs.compared.Compared.open.Goals as goal

pub returns : goal.returns
returns c = record {
  value = λ some.
      subst (λ (old : ComparedView). OpensFirst old (compared_of c.open.new.self c.self.inside.spared c.self.inside.beside)) c.self.view_is
      (opens_found c.self.inside.found c.open.new.self c.self.inside.spared c.self.inside.beside
      (c.open.ensures.value (λ none. some (ap (λ (compared : ComparedView). compared.waiting) (sym c.self.view_is) ∙ none))));
}

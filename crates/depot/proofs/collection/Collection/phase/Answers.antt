use Rattle.std.proofs.Common.{ap, subst, ◌∙◌}
use Rattle.collector.specs.Marks.{AreMarks, phase_of}
use Rattle.collector.specs.Opened.{HaveOpened}
use Rattle.depot.specs.DepotView.{CollectionView}
use Rattle.depot.proofs.collection.Collection.phase.Goals as goal

pub returns : goal.returns
returns c = record {
  value = c.phase.ensures.value ∙ ap (λ (a : CollectionView). phase_of a.marks) c.self.view_is;
  good = subst (λ (a : CollectionView). AreMarks a.marks) c.self.view_is c.phase.ensures.good;
  read = subst (λ (a : CollectionView). HaveOpened a.marks) c.self.view_is c.phase.ensures.read;
}

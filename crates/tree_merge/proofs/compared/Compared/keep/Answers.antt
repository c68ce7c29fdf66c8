-- The pair is told, and the others as before.
use Rattle.tree_merge.proofs.ComparedLemmas.{one_more}
use Rattle.tree_merge.proofs.compared.Compared.keep.Goals as goal

pub returns-in-Ok : goal.returns-in-Ok
returns-in-Ok c = record {
  value = λ objects compared is. one_more objects c.args.self.now (record { pairs = c.insert.new.self }) c.args.pair c.args.same c.in-Ok.ensures.updates compared is;
}

use Rattle.std.proofs.Common.{List, subst, ◌∙◌}
use Rattle.ids.specs.declared.key.Key.{Key}
use Rattle.fs_objects.specs.declared.fs_object.FsObject.TheVariants as fs
use Rattle.object_graph.specs.Reached.{named_in}
use Rattle.collector.specs.Compared.{Finds}
use Rattle.collector.proofs.ComparedLemmas.{finds_named, places_none}
use Rattle.collector.proofs.comparing.find_blocks.Goals as goal

pub returns : goal.returns
returns c = record {
  value =
      finds_named (named_in (fs.File c.args.file)) c.args.older.now c.args.compared.now c.args.compared.now c.find.new.self (places_none c.args.older.now c.args.compared.now)
      (subst (λ (names : List Key). Finds names c.args.compared.now c.find.new.self) (c.slice.ensures.value ∙ c.in_ok-names.ensures.value) c.in_ok-find.ensures.ok);
}

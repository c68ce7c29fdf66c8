use Rattle.std.proofs.Common.{List, ap, subst, ◌∙◌}
use Rattle.ids.specs.declared.key.Key.{Key}
use Rattle.fs_objects.specs.declared.fs_object.FsObject.TheVariants as fs
use Rattle.object_graph.specs.Reached.{entry_keys, named_in}
use Rattle.collector.specs.Compared.{Finds}
use Rattle.collector.proofs.ComparedLemmas.{finds_named}
use Rattle.collector.proofs.comparing.find_entries.Goals as goal

pub returns : goal.returns
returns c = record {
  value =
      finds_named (named_in (fs.Dir c.args.directory)) c.args.older.now c.args.compared.now c.place_beside.new.compared c.find.new.self c.in_ok-place_beside.ensures.value
      (subst (λ (names : List Key). Finds names c.place_beside.new.compared c.find.new.self)
      (c.slice.ensures.value ∙ c.in_ok-names.ensures.value ∙ ap entry_keys (c.as_slice-2.ensures.value ∙ c.in_ok-entries.ensures.value)) c.in_ok-find.ensures.ok);
}

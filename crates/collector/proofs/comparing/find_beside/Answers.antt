use Rattle.std.proofs.Common.{List, subst, sym}
use Rattle.fs_objects.specs.declared.dirent.Dirent.{Dirent}
use Rattle.object_graph.specs.Objects.{fs_key}
use Rattle.object_graph.specs.Reached.{named, named_in}
use Rattle.collector.specs.Compared.{AreAmong}
use Rattle.collector.proofs.OpeningLemmas.{finds_after}
use Rattle.collector.proofs.comparing.find_beside.Goals as goal

pub returns-in-Ok-find_names-clause-value : goal.returns-in-Ok-find_names-clause-value
returns-in-Ok-find_names-clause-value g c = λ objects told.
    finds_after objects c.args.id.now (named_in c.args.object) c.as_slice.result.now c.args.compared.now c.spared_entries.new.compared c.find_names.new.compared
    (c.in-Ok.ensures.value objects told)
    (subst (λ (entries : List Dirent). AreAmong (named objects (fs_key c.args.id.now)) entries) (sym c.as_slice.ensures.value) (c.in-Ok.ensures.listed objects told))
    c.in-Ok-find_names.ensures.value

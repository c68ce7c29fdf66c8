use Rattle.std.proofs.Common.{◌≡◌, List, map, subst, IfOk}
use Rattle.std.specs.Map.Iter.{deref_pair}
use Rattle.std.proofs.lemmas.Iterator.Consumers.{map_from_collect}
use Rattle.tree_model.specs.Path.{PathV}
use Rattle.folder_side.specs.declared.scan_report.Seen.{Seen}
use Rattle.local_index.proofs.EntryListedLemmas.{listed}
use Rattle.local_index.proofs.scan_changes.seen_entries.Goals as goal

pub returns : goal.returns
returns c = record {
  value = subst (λ (all : List (PathV × Seen)). IfOk c.collect.result (λ v. map deref_pair v.items ≡ all)) c.iter.ensures.rest
      (map_from_collect _ c.collect.ensures.ran (listed c.iter.result));
}

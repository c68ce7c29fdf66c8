use Rattle.std.proofs.Common.{◌∙◌, ap, Bool}
use Rattle.tree_merge.specs.Opening.{base_over}
use Rattle.tree_merge.proofs.EntryStepLemmas.{has_entry}
use Rattle.tree_merge.proofs.TableLemmas.{on_ok_more}
use Rattle.tree_merge.proofs.opening.put_entry.Goals as goal

pub returns : goal.returns
returns c = record {
  ok =
      on_ok_more c.put.result
      (λ put. has_entry c.args.own c.args.trio c.args.part c.args.opened.now c.put.new.table c.put_if.new.table c.base_entry.result c.entry_in.result c.entry_in-2.result
      (c.base_entry.ensures.value ∙ ap (λ (b : Bool). base_over b c.args.trio.base) c.is_some.ensures) c.entry_in.ensures.value c.entry_in-2.ensures.value put c.in_ok-put_if.ensures.ok)
      c.put.ensures.ok;
}

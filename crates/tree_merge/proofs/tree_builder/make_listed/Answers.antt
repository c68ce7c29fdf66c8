use Rattle.tree_merge.proofs.TableLemmas.{if_ok_more}
use Rattle.tree_merge.proofs.EmptyDirectoryLemmas.{no_items, some_items}
use Rattle.tree_merge.proofs.MadeLemmas.{lists_empty, lists_written, refused_list}
use Rattle.tree_merge.proofs.tree_builder.make_listed.Goals as goal

pub returns-in-Ok-clause-value : goal.returns-in-Ok-clause-value
returns-in-Ok-clause-value c =
    if_ok_more c.make_object.result
    (λ id is. lists_written c.make_object.new.made id c.in-Ok.bytes c.args.entries (some_items c.args.entries c.is_empty.result c.is_empty.ensures.value c.if-is_empty.false) is c.in-Ok.ensures.value c.requires.ready)
    c.make_object.ensures.value

pub returns-in-Ok-clause-taken : goal.returns-in-Ok-clause-taken
returns-in-Ok-clause-taken c id e = refused_list c.args.made.now c.in-Ok.bytes id c.args.entries (some_items c.args.entries c.is_empty.result c.is_empty.ensures.value c.if-is_empty.false) (c.make_object.ensures.taken id e) c.in-Ok.ensures.value c.requires.ready

pub returns-then-is_empty-clause-value : goal.returns-then-is_empty-clause-value
returns-then-is_empty-clause-value c = lists_empty c.args.made.now c.args.entries (no_items c.args.entries c.is_empty.result c.is_empty.ensures.value c.if-is_empty.true)

-- The entries without the root tell the same three trees.
use Rattle.std.proofs.Common.{arith}
use Rattle.tree_merge.proofs.RootDroppedLemmas.{no_root, rest_few, rest_seen, rest_whole}
use Rattle.tree_merge.proofs.level_merge.merge_level.Goals as goal

pub merge_entries-requires : goal.merge_entries-requires
merge_entries-requires g c = record { root = no_root c.args.opened.joined c.drop_root.new.table c.drop_root.ensures.ok }

pub returns-clause-value : goal.returns-clause-value
returns-clause-value g c objects told compared directory whole few level trees seen =
    let less = rest_few c.args.opened.joined c.drop_root.new.table c.drop_root.ensures.ok in
    c.merge_entries.ensures.value objects told compared directory (rest_whole c.args.opened.joined c.drop_root.new.table c.drop_root.ensures.ok objects whole) (omega (arith, less, few)) level trees
    (rest_seen c.args.opened.joined c.drop_root.new.table c.drop_root.ensures.ok objects level trees seen)

-- What is wanted beside the directories.
use Rattle.std.proofs.Common.{◌≡◌, Err, ap}
use Rattle.tree_merge.specs.declared.tree_builder.BuildFault.TheVariants.{Taken}
use Rattle.tree_push.proofs.OfferingLemmas.{changed_block, keeps_then, own_named}
use Rattle.tree_push.proofs.offering.offer.Goals as goal

pub returns-in-Ok-add_files-clause-value : goal.returns-in-Ok-add_files-clause-value
returns-in-Ok-add_files-clause-value c = λ seen objects keeps path.
    c.in-Ok.ensures.value seen objects (keeps_then _ _ objects c.in-Ok-add_files.ensures.stays.made keeps) path

pub returns-in-Ok-add_files-clause-ok : goal.returns-in-Ok-add_files-clause-ok
returns-in-Ok-add_files-clause-ok c = c.in-Ok-add_files.ensures.ok c.args.knowns.now c.requires.ids

pub returns-in-Ok-add_files-clause-within : goal.returns-in-Ok-add_files-clause-within
returns-in-Ok-add_files-clause-within c = λ key there.
    changed_block c.args.knowns.now c.args.paths.now c.new.result c.new.ensures.value key ((c.in-Ok-add_files.ensures.within c.args.knowns.now c.requires.ids).blocks key there)

pub returns-in-Ok-add_files-clause-tree : goal.returns-in-Ok-add_files-clause-tree
returns-in-Ok-add_files-clause-tree c = λ seen.
    let dirs = c.in-Ok.ensures.dirs seen in
    record {
      dirs = _;
      kept = c.in-Ok-add_files.ensures.stays.made;
      named = c.in-Ok.ensures.named;
      entries = dirs.0;
      are = dirs.1;
      texts = dirs.2;
      top = dirs.3;
      zeros = c.in-Ok.ensures.zeros seen;
      needed = c.in-Ok.ensures.needed seen;
      others = (c.in-Ok-add_files.ensures.within c.args.knowns.now c.requires.ids).objects;
    }

pub returns-in-Ok-add_files-clause-named : goal.returns-in-Ok-add_files-clause-named
returns-in-Ok-add_files-clause-named c = c.in-Ok-add_files.ensures.stays.named (own_named _ c.in-Ok.ensures.named)

pub returns-in-Err-clause-taken : goal.returns-in-Err-clause-taken
returns-in-Err-clause-taken c = λ id is. let same : c.in-Err.fault ≡ Taken id = cc in c.in-Err.ensures.taken id (ap Err same)

-- What is stored of the directories is the tree.
use Rattle.std.proofs.Common.{subst, sym}
use Rattle.sync_calls.specs.Hall.{shown_by}
use Rattle.tree_merge.specs.TreeBuilding.{IsClash}
use Rattle.generated_library.specs.Directories.{IsFlat}
use Rattle.generated_library.proofs.LedLemmas.{tree_led}
use Rattle.generated_library.proofs.StoppingLemmas.{stopped_else, unbuilt}
use Rattle.generated_library.proofs.TreeLemmas.{flat_files}
use Rattle.generated_library.proofs.pushing.put_directories.Goals as goal

pub build_at-requires : goal.build_at-requires
build_at-requires g c = record { entries = subst IsFlat (sym c.requires.entries.1) (flat_files c.args.asker.now.moment c.requires.entries.0) }

pub returns-clause-leads : goal.returns-clause-leads
returns-clause-leads g c =
    tree_led g.S.Shelf.contents g.S.Shelf.may_give g.S.Shelf.texts g.S.Shelf.faults (shown_by c.args.pass.now) (shown_by c.put_all.new.pass) c.args.asker.now.moment c.in-Ok.built.made c.args.entries c.in-Ok.built.root c.in-Ok.ensures.value c.in-Ok.ensures.needed c.in_ok-put_all.ensures.leads

pub returns-in-Err-clause-stops : goal.returns-in-Err-clause-stops
returns-in-Err-clause-stops g c =
    unbuilt g.S.Shelf.contents g.S.Shelf.may_give g.S.Shelf.texts g.S.Shelf.faults c.args.asker.now.lib c.args.asker.now.secret c.args.asker.now.moment (IsClash c.args.entries) c.args.pass.now
    c.in-Err.fault c.not_built.result c.in-Err.ensures.taken c.not_built.ensures.value

pub returns-in_err-put_all-clause-stops : goal.returns-in_err-put_all-clause-stops
returns-in_err-put_all-clause-stops g c =
    stopped_else g.S.Shelf.contents g.S.Shelf.may_give g.S.Shelf.texts g.S.Shelf.faults c.args.asker.now.lib c.args.asker.now.secret c.args.asker.now.moment (IsClash c.args.entries) c.put_all.new.pass c.in_err-put_all.field-0.0 c.from_residual.result
    c.from_residual.ensures.1 c.in_err-put_all.ensures.stops

-- Files, directories, a commit and the update, one after another.
use Rattle.std.proofs.Common.{ap, subst, sym, ◌∙◌}
use Rattle.std.specs.FinMap as map
use Rattle.sync_calls.specs.Hall.{shown_by}
use Rattle.tree_merge.specs.Sides.{Entries}
use Rattle.tree_merge.specs.TreeBuilding.{IsClash}
use Rattle.generated_library.specs.Filled.{HasTree, entries_of, pushed_files}
use Rattle.generated_library.specs.Generated.{files_from}
use Rattle.generated_library.specs.Leading.{Any, Leads}
use Rattle.generated_library.specs.Stopping.{StopsWhere}
use Rattle.generated_library.proofs.FillLemmas.{tree_len}
use Rattle.generated_library.proofs.LedLemmas.{push_led}
use Rattle.generated_library.proofs.PathLemmas.{pushed_few}
use Rattle.generated_library.proofs.StoppingLemmas.{stopped_else, stopped_where}
use Rattle.generated_library.proofs.pushing.push.Goals as goal

pub returns-clause-paths : goal.returns-clause-paths
returns-clause-paths g c =
    let round = c.args.round in
    let files = pushed_files round.is_second 0 (files_from round.count round.number) in
    c.len-paths.ensures.value ∙ (ap map.len c.in_ok-bytes.ensures.entries ∙ sym (tree_len c.args.asker.now.moment files))

-- what was added is what the directories are made of
pub put_directories-requires-clause-entries : goal.put_directories-requires-clause-entries
put_directories-requires-clause-entries g c =
    (pushed_files c.args.round.is_second 0 (files_from c.args.round.count c.args.round.number), c.in_ok-bytes.ensures.entries)

pub returns-clause-leads : goal.returns-clause-leads
returns-clause-leads g c =
    let round = c.args.round in
    let first = files_from round.count round.number in
    let files = pushed_files round.is_second 0 first in
    let dirs = subst (λ (e : Entries). Leads g.S.Shelf.contents g.S.Shelf.faults (shown_by c.put_files.new.pass) (shown_by c.put_directories.new.pass) Any (HasTree c.args.asker.now.moment e c.in_ok-root.root))
    c.in_ok-bytes.ensures.entries c.in_ok-root.ensures.leads in
    push_led g.S.Shelf.contents g.S.Shelf.may_give g.S.Shelf.texts g.S.Shelf.faults (shown_by c.args.pass.now) (shown_by c.put_files.new.pass) (shown_by c.put_directories.new.pass) (shown_by c.put_commit.new.pass)
    (shown_by c.update.new.pass) round.is_second c.args.parent c.in_ok-commit.commit c.args.asker.now.moment first files c.args.asker.now.lib c.in_ok-root.root
    (pushed_few round.is_second round.count round.number c.requires.few)
    c.in_ok-bytes.ensures.leads dirs c.in_ok-commit.ensures.leads c.in_ok-update.ensures.leads

pub returns-in_err-bytes-clause-stops : goal.returns-in_err-bytes-clause-stops
returns-in_err-bytes-clause-stops g c =
    stopped_else g.S.Shelf.contents g.S.Shelf.may_give g.S.Shelf.texts g.S.Shelf.faults c.args.asker.now.lib c.args.asker.now.secret c.args.asker.now.moment (IsClash (entries_of c.args.asker.now.moment (pushed_files c.args.round.is_second 0 (files_from c.args.round.count c.args.round.number))))
    c.put_files.new.pass c.in_err-bytes.field-0.0 c.from_residual.result c.from_residual.ensures.1 c.in_err-bytes.ensures.stops

pub returns-in_err-root-clause-stops : goal.returns-in_err-root-clause-stops
returns-in_err-root-clause-stops g c =
    let stops = subst (λ (e : Entries). StopsWhere g.S.Shelf.contents g.S.Shelf.may_give g.S.Shelf.texts g.S.Shelf.faults c.args.asker.now.lib c.args.asker.now.secret (IsClash e) c.args.asker.now.moment c.put_directories.new.pass
    c.in_err-root.field-0.0) c.in_ok-bytes.ensures.entries c.in_err-root.ensures.stops in
    stopped_where g.S.Shelf.contents g.S.Shelf.may_give g.S.Shelf.texts g.S.Shelf.faults c.args.asker.now.lib c.args.asker.now.secret c.args.asker.now.moment (IsClash (entries_of c.args.asker.now.moment (pushed_files c.args.round.is_second 0 (files_from c.args.round.count c.args.round.number))))
    c.put_directories.new.pass c.in_err-root.field-0.0 c.from_residual-in_err-root.result c.from_residual-in_err-root.ensures.1 stops

pub returns-in_err-commit-clause-stops : goal.returns-in_err-commit-clause-stops
returns-in_err-commit-clause-stops g c =
    stopped_else g.S.Shelf.contents g.S.Shelf.may_give g.S.Shelf.texts g.S.Shelf.faults c.args.asker.now.lib c.args.asker.now.secret c.args.asker.now.moment (IsClash (entries_of c.args.asker.now.moment (pushed_files c.args.round.is_second 0 (files_from c.args.round.count c.args.round.number))))
    c.put_commit.new.pass c.in_err-commit.field-0.0 c.from_residual-in_err-commit.result c.from_residual-in_err-commit.ensures.1 c.in_err-commit.ensures.stops

pub returns-in_err-update-clause-stops : goal.returns-in_err-update-clause-stops
returns-in_err-update-clause-stops g c =
    stopped_else g.S.Shelf.contents g.S.Shelf.may_give g.S.Shelf.texts g.S.Shelf.faults c.args.asker.now.lib c.args.asker.now.secret c.args.asker.now.moment (IsClash (entries_of c.args.asker.now.moment (pushed_files c.args.round.is_second 0 (files_from c.args.round.count c.args.round.number))))
    c.update.new.pass c.in_err-update.field-0.0 c.from_residual-in_err-update.result c.from_residual-in_err-update.ensures.1 c.in_err-update.ensures.stops

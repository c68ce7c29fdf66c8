-- All modes are those of files, and then each path is tested.
use Rattle.std.proofs.Common.{sym, ◌∙◌}
use Rattle.tree_push.proofs.OfferedEntryLemmas.{if_ok}
use Rattle.sync_daemon.proofs.SeenFolderLemmas.{seen_folder_is, unseen}
use Rattle.sync_daemon.proofs.seen_folder.is_seen_folder.Goals as goal

pub returns-then-not-have_file_modes : goal.returns-then-not-have_file_modes
returns-then-not-have_file_modes c = record { value = unseen c.args.knowns.now c.args.seens.now (sym c.have_file_modes.ensures.value ∙ c.if-not-have_file_modes.true) }

pub returns : goal.returns
returns c = record {
  value = if_ok _ _ c.all_stand.result (λ told is. seen_folder_is c.args.knowns.now c.args.seens.now told (sym c.have_file_modes.ensures.value ∙ c.if-not-have_file_modes.false) is) c.all_stand.ensures.value;
}

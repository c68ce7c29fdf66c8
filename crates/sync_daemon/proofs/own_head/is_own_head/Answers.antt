-- The head is another, or it goes by what was seen.
use Rattle.tree_push.proofs.OfferedEntryLemmas.{if_ok}
use Rattle.sync_daemon.proofs.BringLemmas.{both_when, never_both}
use Rattle.sync_daemon.proofs.own_head.is_own_head.Goals as goal

pub returns-then-not-is_pushed_head : goal.returns-then-not-is_pushed_head
returns-then-not-is_pushed_head c = record { value = never_both c.is_pushed_head.result c.is_pushed_head.ensures.value c.if-not-is_pushed_head.true }

pub returns : goal.returns
returns c = record {
  value = if_ok _ _ c.is_seen_folder.result (λ told is. both_when c.is_pushed_head.result c.is_pushed_head.ensures.value c.if-not-is_pushed_head.false told is) c.is_seen_folder.ensures.value;
}

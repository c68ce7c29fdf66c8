use Rattle.std.proofs.Common.{◌≡◌, ℕ}
use Rattle.sync_rules.proofs.ShortSyncLemmas.{denied_ends, denied_orders, denied_syncs}
use Rattle.sync_rules.proofs.laws.a_changed_folder_of_a_reader_is_told_as_denied.Goals as goal

pub returns : goal.returns
returns c = λ lib secret id first later last cuts contents index user moment is differs within. (
  denied_syncs lib secret id first later last cuts contents index is differs user (λ (other : ℕ). other ≡ moment) within,
  denied_orders lib secret id first later last user (λ (other : ℕ). other ≡ moment) index.base,
  denied_ends lib secret id first later last cuts contents index is differs,
)

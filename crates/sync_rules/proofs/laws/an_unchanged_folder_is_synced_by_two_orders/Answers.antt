use Rattle.std.proofs.Common.{◌≡◌, ℕ, Some, refl}
use Rattle.sync_rules.specs.Causes.{IsSoHere}
use Rattle.sync_rules.specs.ShortSyncs.{two_sent}
use Rattle.sync_rules.proofs.ShortSyncLemmas.{unchanged_ends, unchanged_index, unchanged_orders, unchanged_syncs}
use Rattle.sync_rules.proofs.laws.an_unchanged_folder_is_synced_by_two_orders.Goals as goal

pub returns : goal.returns
returns c = λ lib secret id first later cuts contents index user moment is agrees within. (
  unchanged_syncs lib secret id first later cuts contents index user (λ (other : ℕ). other ≡ moment) is agrees moment refl within,
  unchanged_orders lib secret id first later user (λ (other : ℕ). other ≡ moment) index.base,
  unchanged_ends lib secret id first later (IsSoHere cuts (Some contents) index (two_sent lib secret id first later)) contents,
  unchanged_index lib secret id first later index contents is,
)

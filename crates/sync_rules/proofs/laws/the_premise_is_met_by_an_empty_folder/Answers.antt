use Rattle.std.proofs.Common.{◌≡◌, ℕ, refl}
use Rattle.std.specs.FinMap as fin
use Rattle.sync_rules.specs.OneFile.{commit_alone, empty_index, no_contents, stored}
use Rattle.sync_rules.proofs.OneFileLemmas.{empty_agrees, empty_over}
use Rattle.sync_rules.proofs.ShortSyncLemmas.{unchanged_synced}
use Rattle.sync_rules.proofs.laws.the_premise_is_met_by_an_empty_folder.Goals as goal

pub returns : goal.returns
returns c = λ lib secret first later cuts commit user moment spells none.
    let over = empty_over cuts commit spells none in
    let agrees = empty_agrees cuts commit spells none in (
      over,
      agrees,
      unchanged_synced lib secret commit.id first later cuts no_contents (empty_index commit) user (λ (other : ℕ). other ≡ moment) refl agrees (stored (commit_alone commit)) fin.empty moment over,
    )

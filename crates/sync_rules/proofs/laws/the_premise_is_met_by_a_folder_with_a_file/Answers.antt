use Rattle.std.proofs.Common.{◌≡◌, ℕ, [], refl}
use Rattle.sync_rules.specs.OneFile.{folder_of, index_of, objects_of, stored, tree_of}
use Rattle.sync_rules.proofs.OneFileLemmas.{first_over, one_agrees, one_over}
use Rattle.sync_rules.proofs.OverLemmas.{over_first}
use Rattle.sync_rules.proofs.ShortSyncLemmas.{unchanged_synced}
use Rattle.sync_rules.proofs.laws.the_premise_is_met_by_a_folder_with_a_file.Goals as goal

pub returns : goal.returns
returns c = λ lib secret first later cuts commit entry bytes user moment is.
    let objects = stored (objects_of cuts commit entry bytes) in
    let folder = folder_of entry bytes in
    let index = index_of cuts commit entry bytes in
    let tree = tree_of entry bytes in
    let over = one_over cuts commit entry bytes is in
    let agrees = one_agrees cuts commit entry bytes is in (
      over,
      first_over cuts commit entry bytes is,
      agrees,
      unchanged_synced lib secret commit.id first later cuts folder index user (λ (other : ℕ). other ≡ moment) refl agrees objects tree moment
          (over_first objects cuts folder index tree [] (objects_of cuts commit entry bytes) over),
    )

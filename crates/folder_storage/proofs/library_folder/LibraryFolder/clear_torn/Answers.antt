use Rattle.std.proofs.Common.{◌∙◌, ap}
use Rattle.folder_storage.specs.LibraryFolder.{Doubts}
use Rattle.folder_storage.proofs.library_folder.LibraryFolder.clear_torn.Goals as goal

pub loop-key-preserved : goal.loop-key-preserved
loop-key-preserved g c =
    let before = c.loop-key.invariant in
    let stays = c.take_torn-taken.ensures.stays in (
      stays.0 ∙ before.0,
      stays.1 ∙ before.1,
      stays.2 ∙ before.2,
      c.take_torn-taken.ensures.after ∙ ap (λ (d : Doubts). record d { is_adrift = c.take_torn-taken.new.self.is_adrift }) before.3,
    )

use Rattle.folder_storage.proofs.AtOnceLemmas.{ended-so}
use Rattle.folder_storage.proofs.at_once.FileEndings.of.Goals as goal

pub returns-in-Ok : goal.returns-in-Ok
returns-in-Ok c = record {
  told = ended-so c.args.self.now.keys.items c.deref.result.now c.args.self.now.endings.items c.as_slice.result.now c.args.key.now c.in-Ok.place c.ending_at.result
      c.deref.ensures.value c.as_slice.ensures.value c.in-Ok.ensures.ok c.ending_at.ensures.told;
}

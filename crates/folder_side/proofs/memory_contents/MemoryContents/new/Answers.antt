use Rattle.folder_side.proofs.FolderLemmas.{IsFolder-nothing}
use Rattle.folder_side.proofs.memory_contents.MemoryContents.new.Goals as goal

pub invariant_of-result : goal.invariant_of-result
invariant_of-result c = rw (c.new.ensures.value, c.new-2.ensures.value) IsFolder-nothing

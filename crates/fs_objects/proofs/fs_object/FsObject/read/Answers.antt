-- Bytes that are no text are no object.
use Rattle.fs_objects.proofs.ObjectReadingLemmas.{fs_of-no_text}
use Rattle.fs_objects.proofs.fs_object.FsObject.read.Goals as goal

pub returns-in-Err-clause-value : goal.returns-in-Err-clause-value
returns-in-Err-clause-value c = fs_of-no_text c.args.bytes.now c.in-Err.ensures.cases.0

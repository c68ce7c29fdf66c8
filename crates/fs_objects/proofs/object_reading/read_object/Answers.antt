-- The parts make the object of the text; a text without parts has none.
use Rattle.std.proofs.Common.{Err, sym, subst, ◌∙◌}
use Rattle.json_words.specs.Answer.{ReadsAs}
use Rattle.fs_objects.specs.FsObject.{fs_of}
use Rattle.fs_objects.proofs.PartsLemmas.{object_from-is}
use Rattle.fs_objects.proofs.ObjectReadingLemmas.{fs_of-object, fs_of-none, told_by_part}
use Rattle.fs_objects.proofs.object_reading.read_object.Goals as goal

pub returns-in-Ok-clause-value : goal.returns-in-Ok-clause-value
returns-in-Ok-clause-value c =
    let read = c.in-Ok.ensures.ok in
    let same = object_from-is read.0 c.in-Ok.parts read.2 ∙ sym (fs_of-object c.args.text.now read.0 c.utf8.text read.1) in
    subst (λ wanted. ReadsAs c.object_from.result wanted) same c.object_from.ensures.value

pub returns-clause-value : goal.returns-clause-value
returns-clause-value c =
    let text = c.args.text.now in
    let told = told_by_part c.in-Err.fault (fs_of text) _ (fs_of-none text c.utf8.text) c.in-Err.ensures.err in
    subst (λ fault. ReadsAs (Err fault) (fs_of text)) (sym c.fs_fault.ensures.value) told

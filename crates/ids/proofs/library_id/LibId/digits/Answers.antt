-- The hyphenated form has 36 characters, and has the form that is read.
use Rattle.std.proofs.Common.{sym}
use Rattle.uuid.proofs.TextLemmas.{by_index_length}
use Rattle.ids.proofs.LibraryTextLemmas.{IsOf-hyphenated}
use Rattle.ids.proofs.library_id.LibId.digits.Goals as goal

pub copy_from_slice-requires : goal.copy_from_slice-requires
copy_from_slice-requires c = rw (c.as_bytes.ensures.value, c.encode_lower-text.ensures.text) (sym (by_index_length 36 _))

pub returns-clause-form : goal.returns-clause-form
returns-clause-form c = rw (c.copy_from_slice.ensures.after, c.as_bytes.ensures.value, c.encode_lower-text.ensures.text) (IsOf-hyphenated _)

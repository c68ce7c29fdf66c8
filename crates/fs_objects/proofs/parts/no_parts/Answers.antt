-- No field is found among no members.
use Rattle.std.proofs.Common.{refl}
use Rattle.json_words.specs.Fields.{array_field, number_field}
use Rattle.fs_objects.proofs.parts.no_parts.Goals as goal

pub returns-clause-value : goal.returns-clause-value
unfolding array_field number_field
returns-clause-value c = record { kind = refl; version = refl; size = refl; dirents = refl; block_ids = refl }

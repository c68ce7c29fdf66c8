-- The items that are answered are those of the array, in order.
use Rattle.std.proofs.Common.{rules}
use Rattle.json_words.proofs.FieldLemmas.{list_of-items_view}
use Rattle.json_words.specs.Fields.{array_field}
use Rattle.json_words.proofs.fields.array_field.Goals as goal

pub returns-in-Some : goal.returns-in-Some
unfolding array_field
returns-in-Some c = search (rules, list_of-items_view)

-- The iterator begins with the keys of the object.
use Rattle.std.proofs.Common.{List, String, Global, string_bytes, sym, ap, ◌∙◌}
use Rattle.std.specs.List.{list_all, list_any}
use Rattle.std.specs.Str.{bytes_eq}
use Rattle.json_words.proofs.FieldLemmas.{has_only_members-keys}
use Rattle.json_words.proofs.fields.has_only_members.Goals as goal

pub loop-key-init : goal.loop-key-init
loop-key-init c =
    let known_all = λ (keys : List (String Global)). list_all (λ key. list_any (λ name. bytes_eq (string_bytes key) name.now) c.args.known.now) keys in
    (tt, tt, has_only_members-keys c.args.known.now c.args.members.now.entries ∙ ap known_all (sym (c.into_iter-key-iterator.ensures.into_iter_gives ∙ c.keys-key-items.ensures.rest)))

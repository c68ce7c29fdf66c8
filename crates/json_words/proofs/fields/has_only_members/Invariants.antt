-- The keys that are left decide.
use Rattle.std.proofs.Common.{◌≡◌, map, string_bytes}
use Rattle.std.specs.List.{list_all, list_any}
use Rattle.std.specs.Str.{bytes_eq}
use Rattle.serde_json.specs.View.{members_view}
use Rattle.json_words.specs.Fields.{has_only_members}
use Rattle.json_words.proofs.fields.has_only_members.Given as goal

abbrev pub invariant-loop-key : goal.invariant-loop-key
invariant-loop-key l =
    (goal.iterator-loop-key).can_next l.key-iterator × (goal.iterator-loop-key).is_finite l.key-iterator
    × (has_only_members (map (λ key. key.now) l.known) (members_view l.members.entries) ≡ list_all (λ key. list_any (λ name. bytes_eq (string_bytes key) name.now) l.known) l.key-iterator)

-- The map is put to as the members are.
use Rattle.std.proofs.Common.{◌≡◌, true, false, map, string_bytes, sym, ap, ◌∙◌, rules}
use Rattle.std.specs.List.{list_any}
use Rattle.std.specs.Str.{bytes_eq}
use Rattle.serde_json.specs.Data.{put}
use Rattle.serde_json.specs.View.{view, members_view}
use Rattle.serde_json.proofs.Views.{members_view-insert_entry}
use Rattle.json_tokens.specs.Kept.{emptied}
use Rattle.json_words.proofs.FieldLemmas.{any_named}
use Rattle.json_tokens.proofs.KeptLemmas.{put_kept-known, put_kept-unknown}
use Rattle.json_tokens.proofs.kept.keep_member.Goals as goal

pub returns-then-not-is_known-clause-ok : goal.returns-then-not-is_known-clause-ok
returns-then-not-is_known-clause-ok c =
    let passed = c.in_ok-pass_value.ensures.ok in
    let names = map (λ key. key.now) c.args.known.now in
    let unknown : list_any (bytes_eq c.args.name.now) names ≡ false = any_named c.args.name.now c.args.known.now ∙ sym c.if-not-is_known.ensures.value in
    (passed.0, passed.1, sym (put_kept-unknown names c.args.name.now passed.0 (members_view c.args.found.now.entries) unknown))

pub returns-in-Ok-clause-ok : goal.returns-in-Ok-clause-ok
returns-in-Ok-clause-ok c =
    let is = c.in_ok-member.ensures.ok in
    let name = c.args.name.now in
    let names = map (λ key. key.now) c.args.known.now in
    let old = members_view c.args.found.now.entries in
    let known : list_any (bytes_eq name) names ≡ true = any_named name c.args.known.now ∙ sym c.if-not-is_known.ensures.value in
    let copied : string_bytes c.in_ok-key.key ≡ name = search rules in
    let inserted : members_view c.insert.new.self.entries ≡ put name (emptied is.0) old =
    ap members_view c.in-Ok.ensures.entries ∙ members_view-insert_entry c.args.found.now.entries c.in_ok-key.key c.in_ok-member.member ∙ ap (λ key. put key (view c.in_ok-member.member) old) copied ∙ ap (λ d. put name d old) is.2 in
    (is.0, is.1, inserted ∙ sym (put_kept-known names name is.0 old known))

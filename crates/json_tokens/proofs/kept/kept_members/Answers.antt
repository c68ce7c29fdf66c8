-- Each member joins those found, and the map what is kept of them.
use Rattle.std.proofs.Common.{◌≡◌, Some, map, sym, ap, ◌∙◌, arith}
use Rattle.json.specs.Json.{read_key}
use Rattle.serde_json.specs.Data.{no_members, put}
use Rattle.serde_json.specs.View.{members_view}
use Rattle.json_tokens.specs.Front.{NoFront, NoMembers}
use Rattle.json_tokens.specs.Kept.{put_kept}
use Rattle.json_words.proofs.AnswerLemmas.{OnBad-always, OnBad-handed_on}
use Rattle.json_tokens.proofs.FrontLemmas.{MembersAfter-start, MembersAfter-more, MembersAfter-bad, MembersAfter-no_key, MembersAfter-end}
use Rattle.json_tokens.proofs.KeptLemmas.{IsSorted-put, kept_members-put}
use Rattle.json_tokens.proofs.kept.kept_members.Goals as goal

pub members-init : goal.members-init
members-init c = (no_members, MembersAfter-start c.args.depth c.args.reader.now, tt, ap members_view c.new-found.ensures.empty)

pub members-preserved : goal.members-preserved
members-preserved c =
    let l = c.members in
    let found = l.invariant.0 in
    let name = c.in-Some.name.now in
    let names = map (λ key. key.now) c.args.known.now in
    let named : read_key l.reader ≡ Some (Some name, c.next_key.new.self) = grind arith in
    let done = c.in_ok-keep_member.ensures in
    let d = done.ok.0 in
    let after = MembersAfter-more c.args.depth c.args.reader.now found l.reader l.invariant.1 name c.next_key.new.self d c.keep_member.new.reader named done.ok.1 done.shorter in (
      put name d found,
      after,
      IsSorted-put name d found l.invariant.2,
      done.ok.2 ∙ ap (put_kept names name d) l.invariant.3 ∙ sym (kept_members-put names name d found l.invariant.2),
    )

pub returns-in_err-name-clause-err : goal.returns-in_err-name-clause-err
returns-in_err-name-clause-err c =
    let l = c.members in
    OnBad-always c.from_residual.result (MembersAfter-no_key c.args.depth c.args.reader.now l.invariant.0 l.reader l.invariant.1 c.in_err-name.ensures.value)

pub returns-in_err-keep_member-clause-err : goal.returns-in_err-keep_member-clause-err
returns-in_err-keep_member-clause-err c =
    let l = c.members in
    let name = c.in-Some.name.now in
    let named : read_key l.reader ≡ Some (Some name, c.next_key.new.self) = grind arith in
    let spoils : NoFront c.args.depth c.next_key.new.self → NoMembers c.args.depth c.args.reader.now =
    λ none. MembersAfter-bad c.args.depth c.args.reader.now l.invariant.0 l.reader l.invariant.1 name c.next_key.new.self named none in
    OnBad-handed_on c.in_err-keep_member.field-0.0 c.from_residual-in_err-keep_member.result c.from_residual-in_err-keep_member.ensures.1 spoils c.in_err-keep_member.ensures.err

pub returns-clause-ok : goal.returns-clause-ok
returns-clause-ok c =
    let l = c.members in
    (l.invariant.0, MembersAfter-end c.args.depth c.args.reader.now l.invariant.0 l.reader l.invariant.1 c.next_key.new.self (grind arith), l.invariant.3)

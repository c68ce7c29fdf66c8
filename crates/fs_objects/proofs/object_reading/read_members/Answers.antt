-- Each member joins those before it; what is no key, or no value, spoils the object.
use Rattle.std.proofs.Common.{◌≡◌, Some, None, arith}
use Rattle.json.specs.Json.{read_key}
use Rattle.serde_json.specs.Data.{no_members, put}
use Rattle.fs_objects.specs.Parts.{member_depth}
use Rattle.json_tokens.proofs.FrontLemmas.{MembersAfter-start, MembersAfter-more, MembersAfter-bad, MembersAfter-no_key, MembersAfter-end}
use Rattle.json_words.proofs.AnswerLemmas.{OnBad-always, OnBad-handed_on}
use Rattle.fs_objects.proofs.object_reading.read_members.Goals as goal

pub members-init : goal.members-init
members-init c = record { found = no_members; after = MembersAfter-start member_depth c.args.reader.now; parts = c.no_parts-parts.ensures.value; proper = c.no_parts-parts.ensures.proper }

pub returns-in_err-name-clause-err : goal.returns-in_err-name-clause-err
returns-in_err-name-clause-err c =
    let l = c.members in
    let i = l.invariant in
    OnBad-always c.from_residual.result (MembersAfter-no_key member_depth c.args.reader.now i.found l.reader i.after c.in_err-name.ensures.value)

pub members-preserved : goal.members-preserved
members-preserved c =
    let l = c.members in
    let i = l.invariant in
    let key = c.in-Some.name.now in
    let behind = c.next_key.new.self in
    let named : read_key l.reader ≡ Some (Some key, behind) = grind arith in
    let member = c.in_ok-read_member.ensures.ok in
    record {
      found = put key member.d i.found;
      after = MembersAfter-more member_depth c.args.reader.now i.found l.reader i.after key behind member.d c.read_member.new.reader named member.front c.in_ok-read_member.ensures.shorter;
      parts = member.parts i.found i.parts;
      proper = c.in_ok-read_member.ensures.proper i.proper;
    }

pub returns-in_err-read_member-clause-err : goal.returns-in_err-read_member-clause-err
returns-in_err-read_member-clause-err c =
    let l = c.members in
    let i = l.invariant in
    let key = c.in-Some.name.now in
    let behind = c.next_key.new.self in
    let named : read_key l.reader ≡ Some (Some key, behind) = grind arith in
    let bad = c.from_residual-in_err-read_member in
    OnBad-handed_on c.in_err-read_member.field-0.0 bad.result bad.ensures.1 (MembersAfter-bad member_depth c.args.reader.now i.found l.reader i.after key behind named) c.in_err-read_member.ensures.err

pub returns-clause-ok : goal.returns-clause-ok
returns-clause-ok c =
    let l = c.members in
    let i = l.invariant in
    let rest = c.next_key.new.self in
    let closes : read_key l.reader ≡ Some (None, rest) = grind arith in
    (i.found, MembersAfter-end member_depth c.args.reader.now i.found l.reader i.after rest closes, i.parts)

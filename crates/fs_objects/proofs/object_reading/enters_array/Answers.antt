-- The first token tells whether the value is an array.
use Rattle.std.proofs.Common.{sym, subst, ◌∙◌}
use Rattle.json.specs.Reads.{token_of}
use Rattle.json_tokens.specs.Front.{FrontIs, NoFront}
use Rattle.fs_objects.specs.Parts.{member_depth}
use Rattle.json_tokens.proofs.FrontLemmas.{NoFront-end}
use Rattle.json_tokens.proofs.OpeningLemmas.{no_array}
use Rattle.fs_objects.proofs.object_reading.enters_array.Goals as goal

pub returns-in-None-clause-err : goal.returns-in-None-clause-err
returns-in-None-clause-err c = subst (λ old. NoFront member_depth old) (sym c.in-None.ensures.value.0) (NoFront-end member_depth)

pub returns-clause-ok : goal.returns-clause-ok
returns-clause-ok c =
    let token = c.in-Some.token in
    let left = c.next.new.self in
    let front = c.in_ok-pass_from.ensures.ok in (
      front.0,
      subst (λ old. FrontIs member_depth old front.0 c.pass_from.new.reader) (sym c.in-Some.ensures.value) front.1,
      no_array member_depth (token_of token) left c.pass_from.new.reader front.0 (sym c.is_bracket.ensures.value ∙ c.if-is_bracket.false) front.1,
    )

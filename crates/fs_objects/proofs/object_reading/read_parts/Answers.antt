-- The text has an object exactly where its members are read and nothing is behind them.
use Rattle.std.proofs.Common.{[], sym, subst, ◌∙◌}
use Rattle.json_tokens.specs.Front.{FrontIs}
use Rattle.json_tokens.proofs.WholeLemmas.{read-front}
use Rattle.json_words.proofs.AnswerLemmas.{OnBad-handed_on}
use Rattle.fs_objects.proofs.ObjectReadingLemmas.{when_false, when_true, whole-none, more_behind, nothing_behind, nothing_read}
use Rattle.fs_objects.proofs.object_reading.read_parts.Goals as goal

pub returns-then-not-opens_object-clause-err : goal.returns-then-not-opens_object-clause-err
returns-then-not-opens_object-clause-err c = λ d is.
    let front = subst (λ ts. FrontIs 127 ts d []) (sym c.in_ok-reader.ensures.ok) (read-front c.args.text.now d is) in
    when_false _ _ c.opens_object.result c.if-not-opens_object.true c.opens_object.ensures.value 127 d [] front

pub returns-in_err-parts-clause-err : goal.returns-in_err-parts-clause-err
returns-in_err-parts-clause-err c =
    let text = c.args.text.now in
    let opened = sym c.in_ok-reader.ensures.ok ∙ when_true _ _ c.opens_object.result c.if-not-opens_object.false c.opens_object.ensures.value in
    OnBad-handed_on c.in_err-parts.field-0.0 c.from_residual-in_err-parts.result c.from_residual-in_err-parts.ensures.1 (λ none. nothing_read text (whole-none text c.opens_object.new.reader opened none)) c.in_err-parts.ensures.err

pub returns-then-is_some-clause-err : goal.returns-then-is_some-clause-err
returns-then-is_some-clause-err c =
    let text = c.args.text.now in
    let opened = sym c.in_ok-reader.ensures.ok ∙ when_true _ _ c.opens_object.result c.if-not-opens_object.false c.opens_object.ensures.value in
    let found = c.in_ok-parts.ensures.ok in
    nothing_read text (more_behind text c.opens_object.new.reader opened found.0 c.read_members.new.reader c.next.new.self c.next.result c.next.ensures.value (sym c.is_some.ensures ∙ c.if-is_some.true) found.1)

pub returns-clause-ok : goal.returns-clause-ok
returns-clause-ok c =
    let text = c.args.text.now in
    let opened = sym c.in_ok-reader.ensures.ok ∙ when_true _ _ c.opens_object.result c.if-not-opens_object.false c.opens_object.ensures.value in
    let found = c.in_ok-parts.ensures.ok in
    (found.0, nothing_behind text c.opens_object.new.reader opened found.0 c.read_members.new.reader c.next.new.self c.next.result c.next.ensures.value (sym c.is_some.ensures ∙ c.if-is_some.false) found.1, found.2)

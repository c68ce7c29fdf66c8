-- What an array or an object holds is passed over, and an empty one stands for it.
use Rattle.std.proofs.Common.{◌≡◌, sym, ap, ◌∙◌, arith, rules}
use Rattle.serde_json.specs.Data.{null, boolean, number, string, array, object}
use Rattle.serde_json.specs.View.{view, number_view, items_view, members_view}
use Rattle.serde_json.specs.declared.value.Value.{String, Number, Bool, Null, Array, Object, the_lemmas}
use Rattle.serde_json.proofs.Views.{view-Array, view-Object}
use Rattle.json_tokens.specs.Kept.{emptied}
use Rattle.json_words.proofs.AnswerLemmas.{OnBad-always}
use Rattle.json_tokens.proofs.FrontLemmas.{FrontIs-array, NoFront-array, FrontIs-object, NoFront-object, NoFront-too_deep_array, NoFront-too_deep_object, FrontIs-string, FrontIs-boolean, FrontIs-null, FrontIs-number, NoFront-number, NoFront-no_beginning}
use Rattle.json_tokens.proofs.kept.emptied_from.Goals as goal

pub returns-in_ok-from_str-in-String-clause-ok : goal.returns-in_ok-from_str-in-String-clause-ok
returns-in_ok-from_str-in-String-clause-ok c =
    let text = c.in-String.text.now in
    let seen : view (String c.in_ok-from_str-in-String.field-0) ≡ string text = search (rules, the_lemmas) in
    (string text, rw c.in-String.is (FrontIs-string c.args.depth text c.args.reader.now), seen)

pub returns-in-Some-clause-ok : goal.returns-in-Some-clause-ok
returns-in-Some-clause-ok c =
    let n = number_view c.in-Some.number in
    let seen : view (Number c.in-Some.number) ≡ number n = search (rules, the_lemmas) in
    (number n, rw c.in-Number.is (FrontIs-number c.args.depth c.in-Number.text.now n c.args.reader.now (sym c.in-Some.ensures.value)), seen)

pub returns-in-None-clause-err : goal.returns-in-None-clause-err
returns-in-None-clause-err c = rw c.in-Number.is (NoFront-number c.args.depth c.in-Number.text.now c.args.reader.now (sym c.in-None.ensures.value))

pub returns-in-Bool-clause-ok : goal.returns-in-Bool-clause-ok
returns-in-Bool-clause-ok c =
    let seen : view (Bool c.in-Bool.bit) ≡ boolean c.in-Bool.bit = search (rules, the_lemmas) in
    (boolean c.in-Bool.bit, rw c.in-Bool.is (FrontIs-boolean c.args.depth c.in-Bool.bit c.args.reader.now), seen)

pub returns-in-Null-clause-ok : goal.returns-in-Null-clause-ok
returns-in-Null-clause-ok c =
    let seen : view Null ≡ null = search (rules, the_lemmas) in
    (null, rw c.in-Null.is (FrontIs-null c.args.depth c.args.reader.now), seen)

pub returns-in-EndObject-clause-err : goal.returns-in-EndObject-clause-err
returns-in-EndObject-clause-err c = NoFront-no_beginning c.args.depth c.args.first c.args.reader.now c.in-EndObject.is

pub returns-then-depth-eq0-clause-err : goal.returns-then-depth-eq0-clause-err
returns-then-depth-eq0-clause-err c = rw c.in-BeginArray.is (NoFront-too_deep_array c.args.depth c.args.reader.now (omega arith))

pub returns-then-depth-eq0-2-clause-err : goal.returns-then-depth-eq0-2-clause-err
returns-then-depth-eq0-2-clause-err c = rw c.in-BeginObject.is (NoFront-too_deep_object c.args.depth c.args.reader.now (omega arith))

pub returns-in_err-pass_items-in-BeginArray-clause-err : goal.returns-in_err-pass_items-in-BeginArray-clause-err
returns-in_err-pass_items-in-BeginArray-clause-err c =
    rw c.in-BeginArray.is (OnBad-always c.from_residual-in_err-pass_items-in-BeginArray.result (NoFront-array c.args.depth c.args.reader.now (omega arith) c.in_err-pass_items-in-BeginArray.ensures.err))

pub returns-in_err-pass_members-in-BeginObject-clause-err : goal.returns-in_err-pass_members-in-BeginObject-clause-err
returns-in_err-pass_members-in-BeginObject-clause-err c =
    rw c.in-BeginObject.is (OnBad-always c.from_residual-in_err-pass_members-in-BeginObject.result (NoFront-object c.args.depth c.args.reader.now (omega arith) c.in_err-pass_members-in-BeginObject.ensures.err))

pub returns-in_ok-pass_items-in-BeginArray-clause-ok : goal.returns-in_ok-pass_items-in-BeginArray-clause-ok
returns-in_ok-pass_items-in-BeginArray-clause-ok c =
    let are = c.in_ok-pass_items-in-BeginArray.ensures.ok in
    let seen : view (Array c.new.result) ≡ emptied (array are.0) = view-Array c.new.result ∙ ap (λ vs. array (items_view vs)) c.new.ensures.items in
    (array are.0, rw c.in-BeginArray.is (FrontIs-array c.args.depth c.args.reader.now are.0 c.pass_items.new.reader (omega arith) are.1), seen)

pub returns-in_ok-pass_members-in-BeginObject-clause-ok : goal.returns-in_ok-pass_members-in-BeginObject-clause-ok
returns-in_ok-pass_members-in-BeginObject-clause-ok c =
    let are = c.in_ok-pass_members-in-BeginObject.ensures.ok in
    let seen : view (Object c.new-in-BeginObject.result) ≡ emptied (object are.0) = view-Object c.new-in-BeginObject.result ∙ ap (λ es. object (members_view es)) c.new-in-BeginObject.ensures.empty in
    (object are.0, rw c.in-BeginObject.is (FrontIs-object c.args.depth c.args.reader.now are.0 c.pass_members.new.reader (omega arith) are.1), seen)

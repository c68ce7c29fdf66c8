-- An array is read behind its bracket; another value is none.
use Rattle.std.proofs.Common.{[], Ok, ap}
use Rattle.serde_json.specs.Data.{array}
use Rattle.fs_objects.specs.Directory.{entries_after}
use Rattle.json_words.proofs.AnswerLemmas.{OnBad-handed_on}
use Rattle.fs_objects.proofs.ObjectReadingLemmas.{entered_array, entered_none, when_false, when_true, no_items_in}
use Rattle.fs_objects.proofs.object_reading.read_dirents.Goals as goal

pub returns-then-not-branch-clause-ok : goal.returns-then-not-branch-clause-ok
returns-then-not-branch-clause-ok c =
    let passed = when_false _ _ c.in_ok-enters_array.field-0 c.if-not-branch.true c.in_ok-enters_array.ensures.ok in
    (passed.0, passed.1, no_items_in (entries_after []) passed.0 passed.2)

pub returns-clause-ok : goal.returns-clause-ok
returns-clause-ok c =
    let opened = when_true _ _ c.in_ok-enters_array.field-0 c.if-not-branch.false c.in_ok-enters_array.ensures.ok in
    let listed = c.in_ok-list.ensures.ok in
    (array listed.0, entered_array c.args.reader.now c.enters_array.new.reader c.entries_behind.new.reader listed.0 opened listed.1, ap Ok listed.2)

pub returns-in_err-list-clause-err : goal.returns-in_err-list-clause-err
returns-in_err-list-clause-err c =
    let opened = when_true _ _ c.in_ok-enters_array.field-0 c.if-not-branch.false c.in_ok-enters_array.ensures.ok in
    OnBad-handed_on c.in_err-list.field-0.0 c.from_residual-in_err-list.result c.from_residual-in_err-list.ensures.1 (entered_none c.args.reader.now c.enters_array.new.reader opened) c.in_err-list.ensures.err

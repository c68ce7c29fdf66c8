-- A text of the form is the hyphenated text of the bytes that it parses to.
use Rattle.std.proofs.Common.{List, [], ℕ, Option, unwrap_or, ap, sym, refl, ◌∙◌, arith, true≢false}
use Rattle.uuid.specs.Text.{hyphenated_text, lower}
use Rattle.ids.proofs.FormLemmas.{IsOf-from_longest, not_of_form}
use Rattle.ids.proofs.LibraryTextLemmas.{bytes_of, parsed-library, hyphenated-library}
use Rattle.ids.specs.Form.{IsOf}
use Rattle.ids.specs.LibraryId.{library_form}
use Rattle.ids.proofs.library_id.LibId.read.Goals as goal

pub returns-then-at-lt-CHARACTERS-clause-form : goal.returns-then-at-lt-CHARACTERS-clause-form
returns-then-at-lt-CHARACTERS-clause-form c = (
  λ e. absurd (true≢false (sym e)),
  λ good.
      let is = rw c.as_bytes.ensures.value at c.library_beginning-at.ensures.value in
      absurd (not_of_form library_form c.args.text.now c.library_beginning-at.result is c.then-at-lt-CHARACTERS.either good),
)

pub unreachable-requires : goal.unreachable-requires
unreachable-requires c =
    let is = rw c.as_bytes.ensures.value at c.library_beginning-at.ensures.value in
    let good : IsOf library_form c.args.text.now = IsOf-from_longest library_form c.args.text.now c.library_beginning-at.result is (omega arith) (omega arith) in
    true≢false (sym (c.in-Err.ensures.ok.1 (bytes_of c.args.text.now, sym (parsed-library c.args.text.now good))))

pub returns-clause-form : goal.returns-clause-form
returns-clause-form c = (
  λ _.
      let is = rw c.as_bytes.ensures.value at c.library_beginning-at.ensures.value in
      IsOf-from_longest library_form c.args.text.now c.library_beginning-at.result is (omega arith) (omega arith),
  λ _. refl,
)

pub returns-clause-value : goal.returns-clause-value
returns-clause-value c =
    let is = rw c.as_bytes.ensures.value at c.library_beginning-at.ensures.value in
    let good : IsOf library_form c.args.text.now = IsOf-from_longest library_form c.args.text.now c.library_beginning-at.result is (omega arith) (omega arith) in
    let same = parsed-library c.args.text.now good ∙ sym c.in-Ok.ensures.bytes in
    hyphenated-library c.args.text.now good ∙ ap (λ (o : Option (List ℕ)). hyphenated_text lower (unwrap_or o [])) same

-- Each character before the place is allowed there, so the front begins a good text, and no longer one does.
use Rattle.std.proofs.Common.{◌≡◌, length, sym, ◌∙◌, arith}
use Rattle.ids.proofs.FormLemmas.{longest_by_places, at_end, at_other}
use Rattle.ids.proofs.LibraryTextLemmas.{filler, filler-allowed}
use Rattle.ids.specs.LibraryId.{library_form}
use Rattle.ids.proofs.library_id.library_beginning.Goals as goal

pub returns-then-not-is_allowed : goal.returns-then-not-is_allowed
returns-then-not-is_allowed c = record {
  value = longest_by_places library_form filler (λ k _. filler-allowed k) c.args.text.now c.loop-place.place (omega arith) c.loop-place.invariant.0 c.loop-place.invariant.1
      (at_other (sym c.is_allowed.ensures.value ∙ c.if-not-is_allowed.true));
}

pub returns : goal.returns
returns c =
    let all : c.loop-place.place ≡ length c.args.text.now = omega arith in record {
      value = rw (← all) (longest_by_places library_form filler (λ k _. filler-allowed k) c.args.text.now c.loop-place.place (omega arith) c.loop-place.invariant.0 c.loop-place.invariant.1 (at_end all));
    }

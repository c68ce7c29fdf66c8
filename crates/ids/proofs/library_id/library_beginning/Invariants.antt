use Rattle.std.proofs.Common.{◌≤◌}
use Rattle.ids.proofs.FormLemmas.{AllowsFront}
use Rattle.ids.specs.LibraryId.{library_form}
use Rattle.ids.proofs.library_id.library_beginning.Given as goal

abbrev pub invariant-loop-place : goal.invariant-loop-place
invariant-loop-place l = (l.place ≤ 36) × AllowsFront library_form l.text l.place

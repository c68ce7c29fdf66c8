-- What was taken out is stored, and with what is left it is all that was made.
use Rattle.std.proofs.Common.{◌≡◌}
use Rattle.std.specs.FinMap as map
use Rattle.sync_calls.specs.Hall.{AreReady, made_with, shares_of, shown_by}
use Rattle.generated_library.specs.Leading.{Any, Leads}
use Rattle.generated_library.proofs.LedLemmas.{MadeSoFar}
use Rattle.generated_library.proofs.pushing.put_all.Given as goal

abbrev pub invariant-loop-key : goal.invariant-loop-key
invariant-loop-key g l = record {
  ready : AreReady g.S.Shelf.contents g.S.Shelf.may_give g.S.Shelf.texts g.S.Shelf.faults l.hall l.pass;
  size : (shares_of l.pass ≡ shares_of l.fn.pass) × (made_with l.pass ≡ made_with l.fn.pass);
  leads : Leads g.S.Shelf.contents g.S.Shelf.faults (shown_by l.fn.pass) (shown_by l.pass) Any (MadeSoFar l.initial.made l.made);
}

abbrev pub decreases-loop-key : goal.decreases-loop-key
decreases-loop-key g l = map.len l.made

-- The passes that were taken are joined.
use Rattle.std.proofs.Common.{◌≡◌, vec_len}
use Rattle.sync_calls.specs.Hall.{made_with, passes_in, rooms_of, shares_of}
use Rattle.sync_calls.proofs.JoiningLemmas.{AreJoinedBehind}
use Rattle.sync_calls.proofs.joining.Hall+S.join.Given as goal

abbrev pub invariant-loop-pass : goal.invariant-loop-pass
invariant-loop-pass g l =
    (l.into.exit ≡ l.initial.into.exit) × (vec_len l.into.passes ≡ vec_len l.initial.into.passes)
    × AreJoinedBehind g.S.Shelf.contents g.S.Shelf.may_give g.S.Shelf.texts g.S.Shelf.faults (shares_of l.initial.into) (made_with l.initial.into) (rooms_of l.self) (passes_in l.initial.into) l.initial.passes.items l.passes.items (passes_in l.into)

abbrev pub decreases-loop-pass : goal.decreases-loop-pass
decreases-loop-pass g l = vec_len l.passes

-- All rooms are ready for the pass that stands for all; else everything is as it was.
use Rattle.std.proofs.Common.{◌≡◌, ℕ, refl, ap, subst}
use Rattle.std.specs.Prelude.{slice_index_or}
use Rattle.sync_calls.specs.Hall.{ExitLock, HallOf, IsReadyAt, made_with, passes_in, rooms_of, shares_of}
use Rattle.sync_calls.proofs.ClosedLemmas.{ready_kept}
use Rattle.sync_calls.proofs.closing.Hall+S.close.Goals as goal

pub close_all-requires-clause-ready : goal.close_all-requires-clause-ready
close_all-requires-clause-ready g c =
    let all : shares_of c.args.pass ≡ made_with c.args.pass = c.in-Ok.ensures.told.0 refl in (
      made_with c.args.pass,
      λ i room to below.
          subst (λ (n : ℕ). IsReadyAt g.S.Shelf.contents g.S.Shelf.may_give g.S.Shelf.texts g.S.Shelf.faults n (made_with c.args.pass) (slice_index_or (rooms_of c.args.self) i room) (slice_index_or (passes_in c.args.pass) i to)) all
          (c.requires.ready.each i room to below),
    )

pub returns-in-Err-clause-err : goal.returns-in-Err-clause-err
returns-in-Err-clause-err g c =
    let with_exit : ExitLock g.row.S.Denot → HallOf g.row.S.Denot = λ exit. record { rooms = c.args.self.rooms; exit = exit } in (
      ap with_exit c.in-Err.ensures.err.0,
      ready_kept g.S.Shelf.contents g.S.Shelf.may_give g.S.Shelf.texts g.S.Shelf.faults c.args.self c.args.pass c.in-Err.exit c.in-Err.share c.requires.ready c.in-Err.ensures.err.1 c.in-Err.ensures.err.2,
      refl,
    )

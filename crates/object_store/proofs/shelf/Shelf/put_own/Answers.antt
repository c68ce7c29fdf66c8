-- A copy of the bytes is put.
use Rattle.std.proofs.Common.{ℕ, List, Some, subst}
use Rattle.object_store.specs.Shelf.{Changes, GivesAlso, put_known}
use Rattle.object_store.proofs.shelf.Shelf.put_own.Goals as goal

pub returns-clause-ok : goal.returns-clause-ok
returns-clause-ok g c =
    subst (λ (bytes : List ℕ). Changes (g.Self.Shelf.contents c.args.self.now) (put_known (g.Self.Shelf.contents c.args.self.now) c.args.slot bytes) (g.Self.Shelf.contents c.put.new.self) c.put.result) c.slice.ensures.value
    c.put.ensures.ok

pub returns-clause-gives : goal.returns-clause-gives
returns-clause-gives g c =
    subst (λ (bytes : List ℕ). GivesAlso (g.Self.Shelf.may_give c.args.self.now) (g.Self.Shelf.may_give c.put.new.self) c.args.slot (Some bytes)) c.slice.ensures.value
    c.put.ensures.gives

-- Both passes are taken from the end of the new ones.
use Rattle.std.proofs.Common.{◌≡◌, ℕ, List, [], ◌∷◌, ◌++◌, Some}
use Rattle.std.proofs.lemmas.List.Elements.{All-pop}
use Rattle.std.specs.Prelude.{Option}
use Rattle.object_store.specs.Shelf.{Contents}
use Rattle.object_store.specs.declared.shelf.Slot.{Slot}
use Rattle.depot.specs.DepotView.{DepotView}
use Rattle.sync_calls.specs.Hall.{AreReady, HallOf, PassOf}
use Rattle.sync_calls.specs.Making.{AreNew, IsNewOf}
use Rattle.service_tests.proofs.hall.two_passes.Goals as goal

module _ {S : Type 0} (contents : S → Option Contents) (may_give : S → Slot → Option (List ℕ) → Type 0) (texts faults : S → ℕ) where
  -- those in front of the last are new
  front_new : (made : ℕ) (depots : List (DepotView S)) (hall : HallOf S) (all front : List (PassOf S)) (pass : PassOf S) → all ≡ front ++ pass ∷ []
      → AreNew contents may_give texts faults made depots hall all → AreNew contents may_give texts faults made depots hall front
  front_new made depots hall all front pass taken new = (All-pop (IsNewOf contents may_give texts faults made depots hall) all front (Some pass) taken new).0

  -- and the last is one of the hall
  last_ready : (made : ℕ) (depots : List (DepotView S)) (hall : HallOf S) (all front : List (PassOf S)) (pass : PassOf S) → all ≡ front ++ pass ∷ []
      → AreNew contents may_give texts faults made depots hall all → AreReady contents may_give texts faults hall pass
  last_ready made depots hall all front pass taken new =
      let found : IsNewOf contents may_give texts faults made depots hall pass = (All-pop (IsNewOf contents may_give texts faults made depots hall) all front (Some pass) taken new).1 in
      found.ready

pub returns-in-Ok-clause-first : goal.returns-in-Ok-clause-first
returns-in-Ok-clause-first g c = last_ready g.S.Shelf.contents g.S.Shelf.may_give g.S.Shelf.texts g.S.Shelf.faults _ _ _ _ _ _ c.in-Some.ensures.items c.in-Ok.ensures.ok

pub returns-in-Ok-clause-second : goal.returns-in-Ok-clause-second
returns-in-Ok-clause-second g c =
    let front = front_new g.S.Shelf.contents g.S.Shelf.may_give g.S.Shelf.texts g.S.Shelf.faults _ _ _ _ _ _ c.in-Some.ensures.items c.in-Ok.ensures.ok in
    last_ready g.S.Shelf.contents g.S.Shelf.may_give g.S.Shelf.texts g.S.Shelf.faults _ _ _ _ _ _ c.in-Some-pop.ensures.items front

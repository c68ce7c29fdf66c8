-- What the calls, collections and looks of a connection leave in a pass are operations, in their order. The key lemma is ran_goes.
use Rattle.std.proofs.Common.{ℕ, List, [], ◌∷◌, Option, ap, refl, subst}
use Rattle.object_store.specs.Shelf.{Contents}
use Rattle.object_store.specs.declared.shelf.Slot.{Slot}
use Rattle.sync_calls.specs.Operations.{Line}
use Rattle.worker_server.specs.Calls.{AnsweredSo, Leaves, Ran, Told, call_asked, collection_asked, left_by, look_asked, operations_of}
use Rattle.hall_server.specs.Serving.{Goes, HallShown, hall_rules}
use Rattle.hall_server.proofs.CollectingLemmas.{collects_goes}
use Rattle.hall_server.proofs.GoingLemmas.{asks_goes, glances_goes, goes_append, goes_none}

module _ {S : Type 0} (contents : S → Option Contents) (may_give : S → Slot → Option (List ℕ) → Type 0) (texts faults : S → ℕ) (shows : ℕ → Type 0) where
  pub told_goes : (u : HallShown S) (t : Told Line) (v : HallShown S) → AnsweredSo (hall_rules contents may_give texts faults shows) u t v
      → Goes contents may_give texts faults u.libraries (left_by t) v.libraries
  told_goes u (call_asked lib call answer lines) v (moment, shown, (given, asks, stays, is)) = asks_goes contents may_give texts faults u.libraries lib call moment given lines v.libraries v.drawn asks
  told_goes u (collection_asked lib secret ends lines) v is = collects_goes contents may_give texts faults shows u lib secret ends lines v is
  told_goes u (look_asked lib secret tag same lines) v (found, glances, stays, is) = glances_goes contents may_give texts faults u.libraries lib secret tag found lines v.libraries glances

  pub ran_goes : (u : HallShown S) (calls : List (Told Line)) (v : HallShown S) → Ran (hall_rules contents may_give texts faults shows) u calls v
      → Goes contents may_give texts faults u.libraries (operations_of calls) v.libraries
  ran_goes u [] v same = goes_none contents may_give texts faults u.libraries v.libraries [] refl (ap (λ (w : HallShown S). w.libraries) same)
  ran_goes u (t ∷ ts) v (mid, first, more) =
      goes_append contents may_give texts faults u.libraries mid.libraries v.libraries (left_by t) (operations_of ts) (told_goes u t mid first) (ran_goes mid ts v more)

  -- so what the requests of a connection left are operations too
  pub leaves_goes : (u : HallShown S) (lines : List Line) (v : HallShown S) → Leaves (hall_rules contents may_give texts faults shows) u lines v
      → Goes contents may_give texts faults u.libraries lines v.libraries
  leaves_goes u lines v leaves =
      subst (λ (ls : List Line). Goes contents may_give texts faults u.libraries ls v.libraries) leaves.2 (ran_goes u leaves.0 v leaves.1)

-- One link that is served with a hall, as a worker sees it. Our own. Read before: hall_rules and Goes of `hall_server`, LinkView of `link_ears`.
use Rattle.std.specs.Prelude.{◌≡◌, ℕ, List, Option, Some}
use Rattle.link_ears.specs.Ear.{LinkView}
use Rattle.object_store.specs.Shelf.{Contents}
use Rattle.object_store.specs.declared.shelf.Slot.{Slot}
use Rattle.sync_calls.specs.Hall.{PassOf, made_with, shares_of, shown_by}
use Rattle.sync_calls.specs.Operations.{Line}
use Rattle.worker_server.specs.Calls.{Ran, Told, operations_of}
use Rattle.worker_server.specs.ServedConnection.{CountsEnd, EndsAsked, SessionInTime}
use Rattle.worker_server.specs.declared.served.Served.{Served}
use Rattle.hall_server.specs.Serving.{Goes, hall_rules, hall_shown}

-- where the link told what it had left, the bytes given are the texts of the hall's replies to the requests that these spelled; of every
-- link, what the pass shows goes on by the operations that were asked, and by nothing else; and each fault has its cause. The pass stands
-- for as many passes as before
pub record ServesLink {S : Type 0} (contents : S → Option Contents) (may_give : S → Slot → Option (List ℕ) → Type 0) (texts faults : S → ℕ) (shows : ℕ → Type 0)
    (u : PassOf S) (before : LinkView) (how : Served) (now : LinkView) (v : PassOf S) : Type 0 where
  pub session : (input : List ℕ) → before.left ≡ Some input
      → SessionInTime (hall_rules contents may_give texts faults shows) input before.tells now.tells (hall_shown u) (hall_shown v) how
  pub ran : (calls : List (Told Line)) × Ran (hall_rules contents may_give texts faults shows) (hall_shown u) calls (hall_shown v)
      × Goes contents may_give texts faults (shown_by u) (operations_of calls) (shown_by v)
  pub count : CountsEnd before.faults now.faults how
  pub ends : EndsAsked how before.tells now.tells now.left
  pub size : (shares_of v ≡ shares_of u) × (made_with v ≡ made_with u)

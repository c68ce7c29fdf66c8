-- Which collection runs as a turn ends. Our own. Read RunsAt.
use Rattle.std.specs.Prelude.{◌≡◌, ℕ, length, Option, Some, option_map}
use Rattle.depot.specs.DepotView.{DepotView}
use Rattle.sync_calls.specs.Shown.{Shown, library_at}

-- the number of the collection that runs, if one does
abbrev pub running_number : {S : Type 0} → DepotView S → Option ℕ
running_number depot = option_map (λ _. depot.state.collection) depot.running

-- after all changes that were seen, the collection of this number runs, or none does
pub record RunsAt {S : Type 0} (u : Shown S) (number : Option ℕ) : Type 0 where
  pub there : DepotView S
  pub stood : library_at u (length u.seen) ≡ Some there
  pub runs : number ≡ running_number there

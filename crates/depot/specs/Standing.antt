-- What a depot's shelf stands for. Our own. Read IsOnShelf.
use Rattle.std.specs.Prelude.{◌⊎◌, Bool, true, false}
use Rattle.library_rules.specs.LibraryState.{State, IsSound}
use Rattle.library_rules.specs.Recovery.{StandsFor}
use Rattle.library_state.specs.declared.state.LibState.{LibState}
use Rattle.object_store.specs.Shelf.{Contents}
use Rattle.depot.specs.DepotView.{library}
use Rattle.depot.specs.NextState.{Follows}

-- the shelf stands for a library that some call, or a token more, makes of this one, and which is sound
pub record StandsForNext (held : Contents) (s : State) : Type 0 where
  pub next : LibState
  pub follows : Follows s.state next
  pub sound : IsSound (library next s.faults s.objects)
  pub stands : StandsFor held.status held.objects (library next s.faults s.objects)

-- the shelf stands for the library; while the depot is unsettled it may stand for the next one
abbrev pub IsOnShelf : Bool → Contents → State → Type 0
IsOnShelf false held s = StandsFor held.status held.objects s
IsOnShelf true held s = StandsFor held.status held.objects s ⊎ StandsForNext held s

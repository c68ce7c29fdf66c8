-- What lies on a shelf that stands for a state, and what is opened from it. Our own. Read StandsFor, then opened.
use Rattle.std.specs.Prelude.{◌≡◌, ℕ, ◌+◌, false, List, Option, None, Some, Ok}
use Rattle.ids.specs.Key.{Objects}
use Rattle.ids.specs.declared.key.Key.{Key}
use Rattle.library_state.specs.StateSpelling.{text_of}
use Rattle.library_state.specs.StateText.{state_of as read_state}
use Rattle.object_graph.specs.Unchanged.{Keeps}
use Rattle.library_rules.specs.LibraryState.{State, is_stored, is_needed}

-- the text of the state stands in the shelf's slot and is read as it, each object of the library lies there with its
-- bytes, and what else lies there no kept commit needs
pub record StandsFor (slot : Option (List ℕ)) (lying : Objects) (s : State) : Type 0 where
  pub text : slot ≡ Some (text_of s.state)
  pub reads : read_state (text_of s.state) ≡ Ok s.state
  pub lies : Keeps s.objects lying
  pub garbage : (key : Key) → is_stored s.objects key ≡ false → is_needed lying s.state.kept key ≡ false

-- the state that is opened from such a shelf: with all objects that lie there, no collection running, and the next
-- opening number
abbrev pub opened : Objects → ℕ → State → State
opened lying faults s = record s { objects = lying; state = record s.state { opening = s.state.opening + 1 }; running = None; faults = faults }

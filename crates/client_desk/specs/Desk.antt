-- Where the client's folders and dials come from. Our own. Read SameElsewhere.
use Rattle.std.specs.Prelude.{◌≡◌, ◌≢◌, ℕ, List, Option}
use Rattle.folder_side.specs.Folder.{Contents}

-- at every other path the same is held
abbrev pub SameElsewhere : (old new : List ℕ → Option Contents) → List ℕ → Type 0
SameElsewhere old new dir = (other : List ℕ) → other ≢ dir → new other ≡ old other

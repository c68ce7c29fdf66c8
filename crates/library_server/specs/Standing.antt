-- What a command does to the place where libraries are kept: a library is handed out, and comes back. Our own.
-- Read Returned first, then StandsAs and OthersGiveNoMore. Read before: Ground of folder_storage.
use Rattle.std.specs.Prelude.{◌≡◌, ℕ, List, Option, Some, Result, Ok, Err}
use Rattle.object_store.specs.Shelf.{Contents, GivesNoMore}
use Rattle.folder_storage.specs.Ground.{ChangesStanding, HandedOut, Kept, MayGive, StandAsBefore, Standing, Standings}
use Rattle.library_rules.specs.LibraryState.{State}
use Rattle.library_rules.specs.Recovery.{StandsFor}

-- what is seen of a ground: how each library stands, where it tells it, and its count of faults
pub record GroundView : Type 0 where
  pub stands : Standings
  pub faults : ℕ

-- a library was handed out and came back, and every other stands as it did. Where it is told, it stands there with what
-- its shelf then held
pub record ComesBack (old new : Standings) (folder lib : List ℕ) (contents : Option Contents) : Type 0 where
  pub here : (standing : Standing) (held : Contents) → old folder lib ≡ Some standing → contents ≡ Some held
      → new folder lib ≡ Some (Kept held)
  pub others : (f l : List ℕ) → ((f ≡ folder) × (l ≡ lib) → ⊥) → new f l ≡ old f l

-- no library was handed out, or one was, and its shelf came back
pub data Returned {S : Type 0} (contents : S → Option Contents) (old new : Standings) (folder lib : List ℕ) : Type 0 where
  untouched : StandAsBefore old new → Returned contents old new folder lib
  came_back : (shelf : S) → ComesBack old new folder lib (contents shelf) → Returned contents old new folder lib

-- what was handed out is out, or came back where the command stops
abbrev pub HandsOutOr : {S T E : Type 0} → (S → Option Contents) → Standings → Standings → List ℕ → List ℕ → Result T E → Type 0
HandsOutOr contents old new folder lib (Ok x) = ChangesStanding old new folder lib HandedOut
HandsOutOr contents old new folder lib (Err e) = Returned contents old new folder lib

-- no library but this one may give more than it might before
abbrev pub OthersGiveNoMore : MayGive → MayGive → (folder lib : List ℕ) → Type 0
OthersGiveNoMore old new folder lib = (f l : List ℕ) → ((f ≡ folder) × (l ≡ lib) → ⊥) → GivesNoMore (old f l) (new f l)

-- the library is there, its shelf stands for this state, and just the state's objects lie there
pub record StandsAs (standing : Option Standing) (s : State) : Type 0 where
  pub held : Contents
  pub there : standing ≡ Some (Kept held)
  pub stands : StandsFor held.status held.objects s
  pub objects : held.objects ≡ s.objects

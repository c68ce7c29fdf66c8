-- How the libraries of a ground stand, what their shelves may give, and what its calls change. Our own. Read Standing
-- first, then FindsLibrary, and MayGive, then GivesOfLibrary and GivesBack.
-- A ground in memory tells how each library stands; an adapter over a real one tells None of each.
use Rattle.std.specs.Prelude.{◌≡◌, ◌≢◌, ◌⊎◌, ◌+◌, ◌-◌, ◌^◌, ℕ, min, List, Option, None, Some, ⊤, option_map}
use Rattle.std.specs.FinMap as map
use Rattle.object_store.specs.Shelf.{Contents, GivesNoMore, Tells}
use Rattle.object_store.specs.declared.shelf.Slot.{Slot}

-- a library isn't there, is there with these contents, or is there and was handed out
pub data Standing : Type 0 where
  Absent : Standing
  Kept : Contents → Standing
  HandedOut : Standing

-- how each library stands, by the word of its folder and its id, where that is told
abbrev pub Standings : Type 0
Standings = List ℕ → List ℕ → Option Standing

-- a shelf with nothing on it
abbrev pub no_contents : Contents
no_contents = record { objects = map.empty; status = None }

-- none is found exactly where the ground has no such library; what is found is what is kept there. A library that was
-- handed out is neither
abbrev pub FindsLibrary : {S : Type 0} → (S → Option Contents) → Standing → Option S → Type 0
FindsLibrary contents standing None = standing ≡ Absent
FindsLibrary contents standing (Some shelf) = (held : Contents) × (standing ≡ Kept held) × (contents shelf ≡ Some held)

-- none is made exactly where the ground has such a library; what is made is empty
abbrev pub MakesLibrary : {S : Type 0} → (S → Option Contents) → Standing → Option S → Type 0
MakesLibrary contents standing None = standing ≢ Absent
MakesLibrary contents standing (Some shelf) = (standing ≡ Absent) × (contents shelf ≡ Some no_contents)

-- a shelf that is handed out has counted no fault
abbrev pub HasNoFaults : {S : Type 0} → (S → ℕ) → Option S → Type 0
HasNoFaults faults None = ⊤
HasNoFaults faults (Some shelf) = faults shelf ≡ 0

-- every library stands as it did
abbrev pub StandAsBefore : Standings → Standings → Type 0
StandAsBefore old new = (folder lib : List ℕ) → new folder lib ≡ old folder lib

-- one library stands so, where it is told, and every other as it did
pub record ChangesStanding (old new : Standings) (folder lib : List ℕ) (standing : Standing) : Type 0 where
  pub here : new folder lib ≡ option_map (λ _. standing) (old folder lib)
  pub others : (f l : List ℕ) → ((f ≡ folder) × (l ≡ lib) → ⊥) → new f l ≡ old f l

-- what was handed out stands so, and what was not changes nothing
abbrev pub HandsOut : {S : Type 0} → Standings → Standings → List ℕ → List ℕ → Option S → Type 0
HandsOut old new folder lib None = StandAsBefore old new
HandsOut old new folder lib (Some shelf) = ChangesStanding old new folder lib HandedOut

-- a shelf goes back to a library that was handed out; no other changes
pub record TakesBack (old new : Standings) (folder lib : List ℕ) (contents : Option Contents) : Type 0 where
  pub here : (held : Contents) → contents ≡ Some held → old folder lib ≡ Some HandedOut → new folder lib ≡ Some (Kept held)
  pub kept : (standing : Standing) → standing ≢ HandedOut → old folder lib ≡ Some standing → new folder lib ≡ Some standing
  pub others : (f l : List ℕ) → ((f ≡ folder) × (l ≡ lib) → ⊥) → new f l ≡ old f l

-- the sum of two counts, which stops at the greatest number of 64 bits
abbrev pub count_sum : ℕ → ℕ → ℕ
count_sum a b = min (a + b) (2 ^ 64 - 1)

-- ---- what the libraries may give

-- what a fetch of a slot of a library's shelf may give, as that is handed out: by the word of its folder and its id
abbrev pub MayGive : Type 1
MayGive = List ℕ → List ℕ → Slot → Option (List ℕ) → Type 0

-- a library that is told gives what it has, and nothing where it is made; one that is out is handed out to nobody
abbrev pub GivesStanding : Standing → Slot → Option (List ℕ) → Type 0
GivesStanding Absent slot given = given ≡ None
GivesStanding (Kept held) slot given = Tells held slot given
GivesStanding HandedOut slot given = ⊥

-- the shelf that is handed out may give no more than its library
abbrev pub GivesOfLibrary : {S : Type 0} → (S → Slot → Option (List ℕ) → Type 0) → (Slot → Option (List ℕ) → Type 0) → Option S → Type 0
GivesOfLibrary may_give gives None = ⊤
GivesOfLibrary may_give gives (Some shelf) = GivesNoMore gives (may_give shelf)

-- no library may give more than it might before
abbrev pub AllGiveNoMore : MayGive → MayGive → Type 0
AllGiveNoMore old new = (folder lib : List ℕ) → GivesNoMore (old folder lib) (new folder lib)

-- the library to which a shelf goes back may give what the shelf may, or what it might before; no other may give more
pub record GivesBack (old new : MayGive) (folder lib : List ℕ) (gives : Slot → Option (List ℕ) → Type 0) : Type 0 where
  pub here : (slot : Slot) (given : Option (List ℕ)) → new folder lib slot given → gives slot given ⊎ old folder lib slot given
  pub others : (f l : List ℕ) → ((f ≡ folder) × (l ≡ lib) → ⊥) → GivesNoMore (old f l) (new f l)

-- The libraries of a ground in memory, as a list. Our own. Read standing_in first.
use Rattle.std.specs.Prelude.{◌≡◌, ℕ, ◌<◌, ◌&&◌, Bool, true, false, List, [], ◌∷◌, length, slice_index_or, if◌then◌else◌, Option, None, Some, unwrap_or}
use Rattle.std.proofs.Common.{subst, ap}
use Rattle.std.specs.Str.{bytes_eq}
use Rattle.object_store.specs.declared.shelf.Slot.{Slot}
use Rattle.folder_storage.specs.Ground.{GivesStanding, MayGive, Standing, Standings, Absent, Kept, HandedOut}
use Rattle.folder_storage.specs.SteadyShelf.{SteadyShelfState}
use Rattle.folder_storage.specs.declared.memory_ground.KeptLibrary.{KeptLibrary}

-- whether it is this library
abbrev pub is_at : KeptLibrary → List ℕ → List ℕ → Bool
is_at kept folder lib = bytes_eq kept.folder folder && bytes_eq kept.lib lib

abbrev pub standing_of : Option SteadyShelfState → Standing
standing_of None = HandedOut
standing_of (Some shelf) = Kept shelf.contents

-- how a library stands: as the first entry of it says
abbrev pub standing_in : List KeptLibrary → List ℕ → List ℕ → Standing
standing_in [] folder lib = Absent
standing_in (kept ∷ more) folder lib = if is_at kept folder lib then standing_of kept.shelf else standing_in more folder lib

-- the same, of each library
abbrev pub standings : List KeptLibrary → Standings
standings libraries folder lib = Some (standing_in libraries folder lib)

-- the first entry of a library
pub record IsPlaceOf (libraries : List KeptLibrary) (folder lib : List ℕ) (place : ℕ) : Type 0 where
  pub within : place < length libraries
  pub there : (d : KeptLibrary) → is_at (slice_index_or libraries place d) folder lib ≡ true
  pub first : (k : ℕ) (d : KeptLibrary) → k < place → is_at (slice_index_or libraries k d) folder lib ≡ false

-- what stands where a shelf is laid, unless one stands there
abbrev pub returned : Option SteadyShelfState → SteadyShelfState → Option SteadyShelfState
returned None shelf = Some shelf
returned (Some before) shelf = Some before

-- the entry of a library whose shelf was handed out
abbrev pub entry_out : List ℕ → List ℕ → KeptLibrary
entry_out folder lib = record { folder = folder; lib = lib; shelf = None }

-- what each library may give: what it has
abbrev pub gives_in : List KeptLibrary → MayGive
gives_in libraries folder lib = GivesStanding (standing_in libraries folder lib)

told_standing : {a b : Standing} → Some a ≡ Some b → a ≡ b
told_standing {a} e = ap (λ o. unwrap_or o a) e

pub gives_told : (libraries : List KeptLibrary) (folder lib : List ℕ) (standing : Standing) (slot : Slot) (given : Option (List ℕ))
    → standings libraries folder lib ≡ Some standing → gives_in libraries folder lib slot given → GivesStanding standing slot given
gives_told libraries folder lib standing slot given told gives = subst (λ s. GivesStanding s slot given) (told_standing told) gives

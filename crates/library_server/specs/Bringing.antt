-- Several libraries that a command names: started one after another, and given back. Our own. Read IsBrought first, then
-- AreOut, and AreTaken, then AreBack and IsStoppedAt. Read before: AreApart of server_words, Standing, IsOpenedState and OpensTo of Starting.
use Rattle.std.specs.Prelude.{◌≡◌, ◌≢◌, false, ℕ, ◌+◌, ◌<◌, ◌≤◌, List, length, slice_index_or, Option, Some, option_map}
use Rattle.ids.specs.FaultCount.{Rose}
use Rattle.depot.specs.DepotView.{DepotView, IsGood, state_of}
use Rattle.depot.specs.Giving.{GivesBy}
use Rattle.folder_storage.specs.Ground.{HandedOut, Kept, MayGive, Standing, Standings}
use Rattle.library_rules.specs.LibraryState.{State}
use Rattle.object_store.specs.Shelf.{Contents, GivesNoMore}
use Rattle.object_store.specs.StoreView.{HasNoStray}
use Rattle.object_store.specs.declared.shelf.Slot.{Slot}
use Rattle.server_words.specs.Spelling.{location_text}
use Rattle.server_words.specs.declared.command.Location.{Location}
use Rattle.library_server.specs.Making.{RoseWhere}
use Rattle.library_server.specs.Standing.{GroundView, Returned}
use Rattle.library_server.specs.Starting.{IsNotBrought, IsOfOpening, IsOpenedState, OpensTo, RefusesOpening, is_unbrought_counted}
use Rattle.library_server.specs.declared.not_done.NotBrought.{NotBrought}

-- the library in this place is none of those with these numbers
abbrev pub IsNoneAmong : List ℕ → List (List ℕ) → (from count : ℕ) → List ℕ → List ℕ → Type 0
IsNoneAmong folder libs from count f l = f ≡ folder → (k : ℕ) (d : List ℕ) → from ≤ k → k < count → slice_index_or libs k d ≢ l

-- no other library may give more than it might before
abbrev pub UnnamedGiveNoMore : MayGive → MayGive → List ℕ → List (List ℕ) → (from count : ℕ) → Type 0
UnnamedGiveNoMore old new folder libs from count = (f l : List ℕ) → IsNoneAmong folder libs from count f l → GivesNoMore (old f l) (new f l)

-- the first so many of these libraries are out, and every other stands as it did
pub record AreOut (old new : Standings) (folder : List ℕ) (libs : List (List ℕ)) (count : ℕ) : Type 0 where
  pub here : (i : ℕ) (d : List ℕ) → i < count → new folder (slice_index_or libs i d) ≡ option_map (λ _. HandedOut) (old folder (slice_index_or libs i d))
  pub others : (f l : List ℕ) → IsNoneAmong folder libs 0 count f l → new f l ≡ old f l

-- a count where it rose before stays so: it never falls, but at the greatest number of 64 bits
abbrev pub IsRaised : ℕ → ℕ → Type 0
IsRaised old new = (before : ℕ) → Rose before old → Rose before new

-- ---- the libraries

module _ {S : Type 0} (contents : S → Option Contents) (may_give : S → Slot → Option (List ℕ) → Type 0) (faults : S → ℕ) (gives : MayGive)
    (location : Location) (shows : ℕ → Type 0) (stands : Standings) where
  -- the library of this id was started. Its shelf may give what the named library might, and what the opening laid, and its slot has the text of its state
  pub record IsBrought (lib : List ℕ) (depot : DepotView S) : Type 0 where
    pub state : IsOpenedState (gives (location_text location) lib) location lib shows depot.state
    pub told : (standing : Standing) → stands (location_text location) lib ≡ Some standing
        → (s : State) × (state_of contents faults depot ≡ Some s) × OpensTo location lib shows standing s
    pub laid : GivesBy (IsOfOpening location lib shows depot.state) (gives (location_text location) lib) (may_give depot.store.shelf)
    pub none : HasNoStray contents depot.store
    pub settled : depot.unsettled ≡ false
    pub good : IsGood contents faults depot

  -- each of the first so many
  abbrev pub AreBrought : List (List ℕ) → ℕ → List (DepotView S) → Type 0
  AreBrought libs count depots = (length depots ≡ count)
      × ((i : ℕ) (l : List ℕ) (d : DepotView S) → i < count → IsBrought (slice_index_or libs i l) (slice_index_or depots i d))

module _ {S : Type 0} (contents : S → Option Contents) where
  -- those with these numbers were taken back, each where it was out, with what its shelf then held; every other stands as it did
  pub record AreTaken (old new : Standings) (folder : List ℕ) (libs : List (List ℕ)) (depots : List (DepotView S)) (from count : ℕ) : Type 0 where
    pub here : (i : ℕ) (l : List ℕ) (d : DepotView S) (held : Contents) → from ≤ i → i < count → contents (slice_index_or depots i d).store.shelf ≡ Some held
        → old folder (slice_index_or libs i l) ≡ Some HandedOut → new folder (slice_index_or libs i l) ≡ Some (Kept held)
    pub others : (f l : List ℕ) → IsNoneAmong folder libs from count f l → new f l ≡ old f l

  -- the first so many came back: each stands with what its shelf then held, and every other as it did
  pub record AreBack (old new : Standings) (folder : List ℕ) (libs : List (List ℕ)) (depots : List (DepotView S)) (count : ℕ) : Type 0 where
    pub here : (i : ℕ) (l : List ℕ) (d : DepotView S) (standing : Standing) (held : Contents) → i < count
        → old folder (slice_index_or libs i l) ≡ Some standing → contents (slice_index_or depots i d).store.shelf ≡ Some held
        → new folder (slice_index_or libs i l) ≡ Some (Kept held)
    pub others : (f l : List ℕ) → IsNoneAmong folder libs 0 count f l → new f l ≡ old f l

  -- the library behind the first so many, which are out, wasn't started: the refusal, its cause in what it may give, and that the
  -- storage's count rose where it failed
  pub record IsStopping (gives : MayGive) (location : Location) (shows : ℕ → Type 0) (libs : List (List ℕ)) (count : ℕ) (old new : GroundView) (why : NotBrought) : Type 0 where
    pub within : count < length libs
    pub mid : Standings
    pub out : AreOut old.stands mid (location_text location) libs count
    pub back : (l : List ℕ) → Returned contents mid new.stands (location_text location) (slice_index_or libs count l)
    pub told : (l : List ℕ) (standing : Standing) → old.stands (location_text location) (slice_index_or libs count l) ≡ Some standing
        → RefusesOpening location (slice_index_or libs count l) shows standing why (new.stands (location_text location) (slice_index_or libs count l))
    pub cause : (l : List ℕ) → IsNotBrought (gives (location_text location) (slice_index_or libs count l)) location (slice_index_or libs count l) shows why
    pub rose : RoseWhere (is_unbrought_counted why) old.faults new.faults

  -- the library with this number wasn't started: the refusal, its cause in what it may give, and that the storage's count rose where it
  -- failed. Those before it were, and came back as they were started; every other stands as it did
  pub record IsStoppedAt (may_give : S → Slot → Option (List ℕ) → Type 0) (faults : S → ℕ) (gives : MayGive) (location : Location) (shows : ℕ → Type 0)
      (libs : List (List ℕ)) (old new : GroundView) (why : NotBrought) : Type 0 where
    pub number : ℕ
    pub within : number < length libs
    pub depots : List (DepotView S)
    pub before : AreBrought contents may_give faults gives location shows old.stands libs number depots
    pub back : (i : ℕ) (l : List ℕ) (d : DepotView S) (standing : Standing) (held : Contents) → i < number
        → old.stands (location_text location) (slice_index_or libs i l) ≡ Some standing → contents (slice_index_or depots i d).store.shelf ≡ Some held
        → new.stands (location_text location) (slice_index_or libs i l) ≡ Some (Kept held)
    pub told : (l : List ℕ) (standing : Standing) → old.stands (location_text location) (slice_index_or libs number l) ≡ Some standing
        → RefusesOpening location (slice_index_or libs number l) shows standing why (new.stands (location_text location) (slice_index_or libs number l))
    pub cause : (l : List ℕ) → IsNotBrought (gives (location_text location) (slice_index_or libs number l)) location (slice_index_or libs number l) shows why
    pub rose : RoseWhere (is_unbrought_counted why) old.faults new.faults
    pub others : (f l : List ℕ) → IsNoneAmong (location_text location) libs 0 (number + 1) f l → new.stands f l ≡ old.stands f l

-- Libraries that are started one after another, and given back from the last on. The key lemmas are next_out, next_brought, stopping,
-- taken_back, came_back_all and stopped_at.
use Rattle.std.proofs.Common.{◌≡◌, ◌≢◌, ◌⊎◌, inl, inr, ℕ, ◌+◌, ◌<◌, ◌≤◌, List, [], ◌∷◌, ◌++◌, length, length-append, take, Option, Some, Ok, Err, option_map, refl, sym, ap, subst, ◌∙◌, arith}
use Rattle.std.specs.Prelude.{◌-◌, ◌^◌, min, slice_index_or}
use Rattle.std.proofs.lemmas.Bool.{cases_lt, false≢true}
use Rattle.std.proofs.lemmas.List.{get_or_append_left, get_or-append_right, get_or_default}
use Rattle.ids.specs.FaultCount.{Rose}
use Rattle.depot.specs.DepotView.{DepotView, IsGood, state_of}
use Rattle.depot.specs.Giving.{GivesBy}
use Rattle.folder_storage.specs.Ground.{ChangesStanding, GivesBack, HandedOut, Kept, MayGive, Standing, Standings, TakesBack, count_sum}
use Rattle.object_store.specs.Shelf.{Contents, GivesNoMore}
use Rattle.object_store.specs.declared.shelf.Slot.{Slot}
use Rattle.server_words.specs.CommandLine.{AreApart}
use Rattle.server_words.specs.Spelling.{location_text}
use Rattle.server_words.specs.declared.command.Location.{Location}
use Rattle.library_server.specs.Bringing.{AreBack, AreBrought, AreOut, AreTaken, IsBrought, IsNoneAmong, IsRaised, IsStoppedAt, IsStopping, UnnamedGiveNoMore}
use Rattle.object_store.specs.declared.shelf.ShelfFailed.TheVariants as shelf
use Rattle.sync_calls.proofs.BehindLemmas.{front_less, last_there, one_less}
use Rattle.library_server.specs.Making.{RoseWhere}
use Rattle.library_server.specs.Standing.{GroundView, OthersGiveNoMore, Returned, came_back, untouched}
use Rattle.library_server.specs.Starting.{IsNotBrought, RefusesOpening, is_unbrought_counted}
use Rattle.library_server.specs.declared.not_done.NotBrought.{NotBrought}
use Rattle.library_server.specs.declared.not_done.NotBrought.TheVariants as unbrought
use Rattle.library_server.proofs.CauseLemmas.{absent_gives}
use Rattle.library_server.proofs.StartingLemmas.{absent_given, unbrought_before}

-- ---- places

-- two numbers are one, or the first is below or above
cases_at : (i j : ℕ) → i < j + 1 → (i < j) ⊎ (i ≡ j)
cases_at i j less = by (cases_lt i j)
  where
    by : (i < j) ⊎ (j ≤ i) → (i < j) ⊎ (i ≡ j)
    by (inl below) = inl below
    by (inr at) = inr (omega (arith, less, at))

-- one library more is named
module _ (folder : List ℕ) (libs : List (List ℕ)) where
  -- so it is none of those before the last
  none_before : (from count : ℕ) (f l : List ℕ) → IsNoneAmong folder libs from (count + 1) f l → IsNoneAmong folder libs from count f l
  none_before from count f l none same k d at below = none same k d at (omega (arith, below))

  -- nor the last one
  none_last : (from count : ℕ) (f l d : List ℕ) → from ≤ count → IsNoneAmong folder libs from (count + 1) f l → (f ≡ folder) × (l ≡ slice_index_or libs count d) → ⊥
  none_last from count f l d at none (same, is) = none same count d at (omega arith) (sym is)

  -- the first of those from a number on, and those behind it
  none_first : (from count : ℕ) (f l d : List ℕ) → from < count → IsNoneAmong folder libs from count f l → (f ≡ folder) × (l ≡ slice_index_or libs from d) → ⊥
  none_first from count f l d less none (same, is) = none same from d (omega arith) less (sym is)

  none_behind : (from count : ℕ) (f l : List ℕ) → IsNoneAmong folder libs from count f l → IsNoneAmong folder libs (from + 1) count f l
  none_behind from count f l none same k d at below = none same k d (omega (arith, at)) below

  module _ (apart : AreApart libs) where
    -- a library is none of those before it, nor of those behind it
    none_of_first : (count : ℕ) (d : List ℕ) → count < length libs → IsNoneAmong folder libs 0 count folder (slice_index_or libs count d)
    none_of_first count d within same k e at below is = apart k count e d below within is

    none_of_last : (from count : ℕ) (d : List ℕ) → count ≤ length libs → IsNoneAmong folder libs (from + 1) count folder (slice_index_or libs from d)
    none_of_last from count d within same k e at below is = apart from k d e (omega (arith, at)) (omega (arith, below, within)) (sym is)

    other_of : (i j : ℕ) (d e : List ℕ) → i < j → j < length libs → (folder ≡ folder) × (slice_index_or libs i d ≡ slice_index_or libs j e) → ⊥
    other_of i j d e less within (same, is) = apart i j d e less within is

-- ---- handed out

pub out_none : (stands : Standings) (folder : List ℕ) (libs : List (List ℕ)) → AreOut stands stands folder libs 0
out_none stands folder libs = record { here = λ i d less. absurd (omega (arith, less)); others = λ f l none. refl }

module _ (folder : List ℕ) (libs : List (List ℕ)) (apart : AreApart libs) where
  -- a library that isn't out yet stands as it did
  pub stands_yet : (old mid : Standings) (count : ℕ) (d : List ℕ) → count < length libs → AreOut old mid folder libs count
      → mid folder (slice_index_or libs count d) ≡ old folder (slice_index_or libs count d)
  stands_yet old mid count d within out = out.others folder (slice_index_or libs count d) (none_of_first folder libs apart count d within)

  -- one more is out
  pub out_more : (old mid new : Standings) (count : ℕ) (d : List ℕ) → count < length libs → AreOut old mid folder libs count
      → ChangesStanding mid new folder (slice_index_or libs count d) HandedOut → AreOut old new folder libs (count + 1)
  out_more old mid new count d within out one = record {
    here = λ i e below. by i e (cases_at i count below);
    others = λ f l none.
        one.others f l (none_last folder libs 0 count f l d (omega arith) none) ∙ out.others f l (none_before folder libs 0 count f l none);
  }
    where
      by : (i : ℕ) (e : List ℕ) → (i < count) ⊎ (i ≡ count) → new folder (slice_index_or libs i e) ≡ option_map (λ _. HandedOut) (old folder (slice_index_or libs i e))
      by i e (inl less) = one.others folder (slice_index_or libs i e) (other_of folder libs apart i count e d less within) ∙ out.here i e less
      by i e (inr is) =
          let same : slice_index_or libs i e ≡ slice_index_or libs count d = ap (λ (n : ℕ). slice_index_or libs n e) is ∙ get_or_default libs count e d within in
          subst (λ (lib : List ℕ). new folder lib ≡ option_map (λ _. HandedOut) (old folder lib)) (sym same)
          (one.here ∙ ap (option_map (λ _. HandedOut)) (stands_yet old mid count d within out))

-- ---- taken back

module _ {S : Type 0} (contents : S → Option Contents) (folder : List ℕ) (libs : List (List ℕ)) (depots : List (DepotView S)) where
  pub taken_none : (stands : Standings) (count : ℕ) → AreTaken contents stands stands folder libs depots count count
  taken_none stands count = record { here = λ i l d held at below told out. absurd (omega (arith, at, below)); others = λ f l none. refl }

  -- one more is taken back, in front of those that were
  pub taken_more : (old mid new : Standings) (from count : ℕ) (l : List ℕ) (depot : DepotView S) → AreApart libs → from < count → count ≤ length libs → count ≤ length depots
      → ((d : DepotView S) → slice_index_or depots from d ≡ depot)
      → AreTaken contents old mid folder libs depots (from + 1) count → TakesBack mid new folder (slice_index_or libs from l) (contents depot.store.shelf)
      → AreTaken contents old new folder libs depots from count
  taken_more old mid new from count l depot apart less within sized is taken one = record {
    here = λ i e d held at below told out. by i e d held below told out (cases_at from i (omega (arith, at)));
    others = λ f k none.
        one.others f k (none_first folder libs from count f k l less none) ∙ taken.others f k (none_behind folder libs from count f k none);
  }
    where
      by : (i : ℕ) (e : List ℕ) (d : DepotView S) (held : Contents) → i < count → contents (slice_index_or depots i d).store.shelf ≡ Some held
          → old folder (slice_index_or libs i e) ≡ Some HandedOut → (from < i) ⊎ (from ≡ i) → new folder (slice_index_or libs i e) ≡ Some (Kept held)
      by i e d held below told out (inl behind) =
          one.others folder (slice_index_or libs i e) (λ both. apart from i l e behind (omega (arith, below, within)) (sym both.1))
          ∙ taken.here i e d held (omega (arith, behind)) below told out
      by i e d held below told out (inr first) =
          let at : slice_index_or libs i e ≡ slice_index_or libs from l = ap (λ (n : ℕ). slice_index_or libs n e) (sym first) ∙ get_or_default libs from e l (omega (arith, less, within)) in
          let shelf : contents depot.store.shelf ≡ Some held
          = ap (λ (x : DepotView S). contents x.store.shelf) (sym (ap (λ (n : ℕ). slice_index_or depots n d) (sym first) ∙ is d)) ∙ told in
          let there : mid folder (slice_index_or libs from l) ≡ Some HandedOut
          = taken.others folder (slice_index_or libs from l) (none_of_last folder libs apart from count l within) ∙ (ap (old folder) (sym at) ∙ out) in
          ap (new folder) at ∙ one.here held shelf there

  -- what was out and is taken back stands with what its shelf holds
  pub came_back_all : (old mid new : Standings) (count : ℕ) → AreOut old mid folder libs count → AreTaken contents mid new folder libs depots 0 count
      → AreBack contents old new folder libs depots count
  came_back_all old mid new count out taken = record {
    here = λ i l d standing held below there told.
        taken.here i l d held (omega arith) below told (out.here i l below ∙ ap (option_map (λ _. HandedOut)) there);
    others = λ f l none. taken.others f l none ∙ out.others f l none;
  }

-- ---- what others may give

pub unnamed_none : (gives : MayGive) (folder : List ℕ) (libs : List (List ℕ)) (from : ℕ) → UnnamedGiveNoMore gives gives folder libs from from
unnamed_none gives folder libs from f l none slot given is = is

pub unnamed_more : {old mid new : MayGive} (folder : List ℕ) (libs : List (List ℕ)) (count : ℕ) (d : List ℕ) → UnnamedGiveNoMore old mid folder libs 0 count
    → OthersGiveNoMore mid new folder (slice_index_or libs count d) → UnnamedGiveNoMore old new folder libs 0 (count + 1)
unnamed_more folder libs count d first one f l none slot given is =
    first f l (none_before folder libs 0 count f l none) slot given (one f l (none_last folder libs 0 count f l d (omega arith) none) slot given is)

pub unnamed_back : {old mid new : MayGive} {gives : Slot → Option (List ℕ) → Type 0} (folder : List ℕ) (libs : List (List ℕ)) (from count : ℕ) (d : List ℕ) → from < count
    → UnnamedGiveNoMore old mid folder libs (from + 1) count → GivesBack mid new folder (slice_index_or libs from d) gives → UnnamedGiveNoMore old new folder libs from count
unnamed_back folder libs from count d less first one f l none slot given is =
    first f l (none_behind folder libs from count f l none) slot given (one.others f l (none_first folder libs from count f l d less none) slot given is)

-- that, and then more of the same
pub unnamed_then : {old mid new : MayGive} (folder : List ℕ) (libs : List (List ℕ)) (count : ℕ) → UnnamedGiveNoMore old mid folder libs 0 count
    → UnnamedGiveNoMore mid new folder libs 0 count → UnnamedGiveNoMore old new folder libs 0 count
unnamed_then folder libs count first second f l none slot given is = first f l none slot given (second f l none slot given is)

-- a library that isn't out yet may give no more than it might
pub gives_yet : {old mid : MayGive} (folder : List ℕ) (libs : List (List ℕ)) (count : ℕ) (d : List ℕ) → AreApart libs → count < length libs
    → UnnamedGiveNoMore old mid folder libs 0 count → GivesNoMore (old folder (slice_index_or libs count d)) (mid folder (slice_index_or libs count d))
gives_yet folder libs count d apart within first =
    first folder (slice_index_or libs count d) (none_of_first folder libs apart count d within)

-- ---- counts

-- a count that rose stays so
pub rose_more : (a b c d : ℕ) → Rose a b → d ≡ count_sum b c → Rose a d
rose_more a b c d rose is = subst (Rose a) (sym is) (above a b c (2 ^ 64 - 1) rose)
  where
    above : (a b c most : ℕ) → min (a + 1) most ≤ b → min (a + 1) most ≤ min (b + c) most
    above a b c most rose = omega arith

pub raised_itself : (a : ℕ) → IsRaised a a
raised_itself a before rose = rose

pub raised_more : (a b c d : ℕ) → IsRaised a b → d ≡ count_sum b c → IsRaised a d
raised_more a b c d raised is before rose = rose_more before b c d (raised before rose) is

-- ---- libraries that were started

module _ {S : Type 0} (contents : S → Option Contents) (may_give : S → Slot → Option (List ℕ) → Type 0) (faults : S → ℕ) (gives : MayGive)
    (location : Location) (shows : ℕ → Type 0) (old : Standings) (libs : List (List ℕ)) where
  pub brought_none : (depots : List (DepotView S)) → length depots ≡ 0 → AreBrought contents may_give faults gives location shows old libs 0 depots
  brought_none depots none = (none, λ i l d less. absurd (omega (arith, less)))

  -- one that was started as it stands now was started as it stood before those in front of it were
  pub brought_now : (mid : Standings) (now : MayGive) (lib : List ℕ) (depot : DepotView S) → mid (location_text location) lib ≡ old (location_text location) lib
      → GivesNoMore (gives (location_text location) lib) (now (location_text location) lib)
      → IsBrought contents may_give faults now location shows mid lib depot → IsBrought contents may_give faults gives location shows old lib depot
  brought_now mid now lib depot same reads is = record {
    state = absent_given location lib shows (λ (d : DepotView S). d.state) (Ok depot) reads is.state;
    told = λ standing there. is.told standing (same ∙ there);
    laid = absent_gives location lib shows may_give (λ (d : DepotView S). d) (Ok depot) reads is.laid;
    none = is.none;
    settled = is.settled;
    good = is.good;
  }

  pub brought_more : (count : ℕ) (depots : List (DepotView S)) (depot : DepotView S) (l : List ℕ) → count < length libs → AreBrought contents may_give faults gives location shows old libs count depots
      → IsBrought contents may_give faults gives location shows old (slice_index_or libs count l) depot
      → AreBrought contents may_give faults gives location shows old libs (count + 1) (depots ++ depot ∷ [])
  brought_more count depots depot l within before one = (
    length-append depots (depot ∷ []) ∙ ap (λ (n : ℕ). n + 1) before.0,
    λ i k d below. by i k d (cases_at i count below),
  )
    where
      by : (i : ℕ) (k : List ℕ) (d : DepotView S) → (i < count) ⊎ (i ≡ count)
          → IsBrought contents may_give faults gives location shows old (slice_index_or libs i k) (slice_index_or (depots ++ depot ∷ []) i d)
      by i k d (inl less) =
          let size = before.0 in
          subst (λ (x : DepotView S). IsBrought contents may_give faults gives location shows old (slice_index_or libs i k) x) (sym (get_or_append_left depots (depot ∷ []) d i (omega (arith, less, size))))
          (before.1 i k d less)
      by i k d (inr is) =
          let lib : slice_index_or libs i k ≡ slice_index_or libs count l = ap (λ (n : ℕ). slice_index_or libs n k) is ∙ get_or_default libs count k l within in
          let last : slice_index_or (depots ++ depot ∷ []) i d ≡ depot
          = get_or-append_right depots (depot ∷ []) count i d before.0 (omega (arith, is)) ∙ ap (λ (n : ℕ). slice_index_or (depot ∷ []) n d) (zero_at is) in
          subst (λ (x : DepotView S). IsBrought contents may_give faults gives location shows old (slice_index_or libs i k) x) (sym last)
          (subst (λ (x : List ℕ). IsBrought contents may_give faults gives location shows old x depot) (sym lib) one)
        where
          zero_at : (i ≡ count) → i - count ≡ 0
          zero_at is = omega (arith, is)

-- ---- one that wasn't

module _ {S : Type 0} (contents : S → Option Contents) (may_give : S → Slot → Option (List ℕ) → Type 0) (faults : S → ℕ) (gives : MayGive)
    (location : Location) (shows : ℕ → Type 0) (libs : List (List ℕ)) (apart : AreApart libs) where
  -- a place to which a library came back, or from which none was handed out, stands elsewhere as it did
  stays_elsewhere : (mid new : Standings) (folder lib f l : List ℕ) → Returned contents mid new folder lib → ((f ≡ folder) × (l ≡ lib) → ⊥) → new f l ≡ mid f l
  stays_elsewhere mid new folder lib f l (untouched same) other = same f l
  stays_elsewhere mid new folder lib f l (came_back shelf back) other = back.others f l other

  -- those before it came back
  pub stopped_at : (count : ℕ) (old mid new : GroundView) (depots : List (DepotView S)) (why : NotBrought) → AreBrought contents may_give faults gives location shows old.stands libs count depots
      → IsStopping contents gives location shows libs count old mid why → AreTaken contents mid.stands new.stands (location_text location) libs depots 0 count → IsRaised mid.faults new.faults
      → IsStoppedAt contents may_give faults gives location shows libs old new why
  stopped_at count old mid new depots why before stops taken raised = record {
    number = count;
    within = stops.within;
    depots = depots;
    before = before;
    back = λ i l d standing held below there told.
        taken.here i l d held (omega arith) below told
        (stays_elsewhere stops.mid mid.stands (location_text location) (slice_index_or libs count l) (location_text location) (slice_index_or libs i l) (stops.back l)
        (λ both. apart i count l l below stops.within both.1)
        ∙ (stops.out.here i l below ∙ ap (option_map (λ _. HandedOut)) there));
    told = λ l standing there.
        subst (λ (after : Option Standing). RefusesOpening location (slice_index_or libs count l) shows standing why after)
        (sym (taken.others (location_text location) (slice_index_or libs count l) (none_of_first (location_text location) libs apart count l stops.within)))
        (stops.told l standing there);
    cause = stops.cause;
    rose = λ counted. raised old.faults (stops.rose counted);
    others = λ f l none.
        taken.others f l (none_before (location_text location) libs 0 count f l none)
        ∙ (stays_elsewhere stops.mid mid.stands (location_text location) (slice_index_or libs count []) f l (stops.back []) (none_last (location_text location) libs 0 count f l [] (omega arith) none)
        ∙ stops.out.others f l (none_before (location_text location) libs 0 count f l none));
  }

-- so many are among more
pub unnamed_among : {old new : MayGive} (folder : List ℕ) (libs : List (List ℕ)) (few many : ℕ) → few ≤ many → UnnamedGiveNoMore old new folder libs 0 few → UnnamedGiveNoMore old new folder libs 0 many
unnamed_among folder libs few many less gives f l none slot given is = gives f l (λ same k d at below. none same k d at (omega (arith, below, less))) slot given is

-- ---- one step of a loop

-- the next of those named was started
module _ (folder : List ℕ) (libs : List (List ℕ)) (apart : AreApart libs) (count : ℕ) (lib : List ℕ) (within : count < length libs) (is : lib ≡ slice_index_or libs count lib) where
  pub next_out : (old mid new : Standings) → AreOut old mid folder libs count → ChangesStanding mid new folder lib HandedOut → AreOut old new folder libs (count + 1)
  next_out old mid new out one = out_more folder libs apart old mid new count lib within out (subst (λ (l : List ℕ). ChangesStanding mid new folder l HandedOut) is one)

  pub next_unnamed : {old mid new : MayGive} → UnnamedGiveNoMore old mid folder libs 0 count → OthersGiveNoMore mid new folder lib → UnnamedGiveNoMore old new folder libs 0 (count + 1)
  next_unnamed {old} {mid} {new} first one = unnamed_more {old = old} {mid = mid} {new = new} folder libs count lib first (subst (λ (l : List ℕ). OthersGiveNoMore mid new folder l) is one)

  -- it stands as it did, and may give no more
  pub next_stands : (old mid : Standings) → AreOut old mid folder libs count → mid folder lib ≡ old folder lib
  next_stands old mid out = ap (mid folder) is ∙ (stands_yet folder libs apart old mid count lib within out ∙ ap (old folder) (sym is))

  pub next_gives : {old mid : MayGive} → UnnamedGiveNoMore old mid folder libs 0 count → GivesNoMore (old folder lib) (mid folder lib)
  next_gives {old} {mid} first = subst (λ (l : List ℕ). GivesNoMore (old folder l) (mid folder l)) (sym is) (gives_yet {old = old} {mid = mid} folder libs count lib apart within first)

module _ {S : Type 0} (contents : S → Option Contents) (may_give : S → Slot → Option (List ℕ) → Type 0) (faults : S → ℕ) (gives : MayGive)
    (location : Location) (shows : ℕ → Type 0) (libs : List (List ℕ)) (apart : AreApart libs) (index : ℕ) (lib : List ℕ) (within : index < length libs)
    (is : lib ≡ slice_index_or libs index lib) where
  pub next_brought : (old mid : Standings) (now : MayGive) (depots : List (DepotView S)) (depot : DepotView S) → AreOut old mid (location_text location) libs index
      → UnnamedGiveNoMore gives now (location_text location) libs 0 index → AreBrought contents may_give faults gives location shows old libs index depots
      → IsBrought contents may_give faults now location shows mid lib depot
      → AreBrought contents may_give faults gives location shows old libs (index + 1) (depots ++ depot ∷ [])
  next_brought old mid now depots depot out unnamed before one =
      brought_more contents may_give faults gives location shows old libs index depots depot lib within before
      (subst (λ (l : List ℕ). IsBrought contents may_give faults gives location shows old l depot) is
      (brought_now contents may_give faults gives location shows old libs mid now lib depot (next_stands (location_text location) libs apart index lib within is old mid out)
      (next_gives (location_text location) libs apart index lib within is {old = gives} {mid = now} unnamed) one))

  -- it wasn't started
  pub stopping : (count : ℕ) (old mid new : GroundView) (now : MayGive) (why : NotBrought) → count ≡ index → AreOut old.stands mid.stands (location_text location) libs index → mid.faults ≡ old.faults
      → UnnamedGiveNoMore gives now (location_text location) libs 0 index → Returned contents mid.stands new.stands (location_text location) lib
      → ((standing : Standing) → mid.stands (location_text location) lib ≡ Some standing → RefusesOpening location lib shows standing why (new.stands (location_text location) lib))
      → IsNotBrought (now (location_text location) lib) location lib shows why → RoseWhere (is_unbrought_counted why) mid.faults new.faults
      → IsStopping contents gives location shows libs count old new why
  stopping count old mid new now why same out kept unnamed back told cause rose = record {
    within = subst (λ (n : ℕ). n < length libs) (sym same) within;
    mid = mid.stands;
    out = subst (λ (n : ℕ). AreOut old.stands mid.stands (location_text location) libs n) (sym same) out;
    back = λ l. subst (λ (x : List ℕ). Returned contents mid.stands new.stands (location_text location) x) (sym (at l)) back;
    told = λ l standing there.
        subst (λ (x : List ℕ). RefusesOpening location x shows standing why (new.stands (location_text location) x)) (sym (at l))
        (told standing (next_stands (location_text location) libs apart index lib within is old.stands mid.stands out ∙ (ap (old.stands (location_text location)) (sym (at l)) ∙ there)));
    cause = λ l.
        subst (λ (x : List ℕ). IsNotBrought (gives (location_text location) x) location x shows why) (sym (at l))
        (unbrought_before location lib shows why (next_gives (location_text location) libs apart index lib within is {old = gives} {mid = now} unnamed) cause);
    rose = subst (λ (n : ℕ). RoseWhere (is_unbrought_counted why) n new.faults) kept rose;
  }
    where
      at : (l : List ℕ) → slice_index_or libs count l ≡ lib
      at l = ap (λ (n : ℕ). slice_index_or libs n l) same ∙ (get_or_default libs index l lib within ∙ sym is)

-- no memory for any
pub stopped_first : {S : Type 0} (contents : S → Option Contents) (may_give : S → Slot → Option (List ℕ) → Type 0) (faults : S → ℕ) (gives : MayGive) (location : Location) (shows : ℕ → Type 0)
    (libs : List (List ℕ)) (old : GroundView) → 1 ≤ length libs → IsStoppedAt contents may_give faults gives location shows libs old old (unbrought.Storage shelf.NoMemory)
stopped_first contents may_give faults gives location shows libs old some = record {
  number = 0;
  within = omega (arith, some);
  depots = [];
  before = (refl, λ i l d less. absurd (omega (arith, less)));
  back = λ i l d standing held less there told. absurd (omega (arith, less));
  told = λ l standing there. there;
  cause = λ l. tt;
  rose = λ counted. absurd (false≢true counted);
  others = λ f l none. refl;
}

-- each from one number on stands for a library
abbrev pub AreGoodFrom : {S : Type 0} → (S → Option Contents) → (S → ℕ) → List (DepotView S) → (from count : ℕ) → Type 0
AreGoodFrom {S} contents faults depots from count = (i : ℕ) (d : DepotView S) → from ≤ i → i < count → IsGood contents faults (slice_index_or depots i d)

pub good_none : {S : Type 0} (contents : S → Option Contents) (faults : S → ℕ) (depots : List (DepotView S)) (count : ℕ) → AreGoodFrom contents faults depots count count
good_none contents faults depots count i d at below = absurd (omega (arith, at, below))

-- the last of those that are left goes back
module _ {S : Type 0} (folder : List ℕ) (libs : List (List ℕ)) (apart : AreApart libs) (all left front : List (DepotView S)) (depot : DepotView S) (lib : List ℕ)
    (pop : left ≡ front ++ depot ∷ []) (first : left ≡ take (length left) all) (fits : length left ≤ length all) (few : length all ≤ length libs)
    (is : lib ≡ slice_index_or libs (length front) lib) where
  pub taken_back : (contents : S → Option Contents) (old mid new : Standings) → AreTaken contents old mid folder libs all (length left) (length all)
      → TakesBack mid new folder lib (contents depot.store.shelf) → AreTaken contents old new folder libs all (length front) (length all)
  taken_back contents old mid new taken one =
      let longer : length left ≡ length front + 1 = one_less left front depot pop in
      taken_more contents folder libs all old mid new (length front) (length all) lib depot apart (omega (arith, longer, fits)) few (omega arith)
      (λ d. last_there left front depot all d pop first)
      (subst (λ (n : ℕ). AreTaken contents old mid folder libs all n (length all)) longer taken)
      (subst (λ (l : List ℕ). TakesBack mid new folder l (contents depot.store.shelf)) is one)

  pub unnamed_taken : {old mid new : MayGive} {gives : Slot → Option (List ℕ) → Type 0} → UnnamedGiveNoMore old mid folder libs (length left) (length all) → GivesBack mid new folder lib gives
      → UnnamedGiveNoMore old new folder libs (length front) (length all)
  unnamed_taken {old} {mid} {new} {gives} before one =
      let longer : length left ≡ length front + 1 = one_less left front depot pop in
      unnamed_back {old = old} {mid = mid} {new = new} {gives = gives} folder libs (length front) (length all) lib (omega (arith, longer, fits))
      (subst (λ (n : ℕ). UnnamedGiveNoMore old mid folder libs n (length all)) longer before)
      (subst (λ (l : List ℕ). GivesBack mid new folder l gives) is one)

  pub good_more : (contents : S → Option Contents) (faults : S → ℕ) → AreGoodFrom contents faults all (length left) (length all) → IsGood contents faults depot
      → AreGoodFrom contents faults all (length front) (length all)
  good_more contents faults behind here i d at below = by (cases_at (length front) i (omega (arith, at)))
    where
      by : (length front < i) ⊎ (length front ≡ i) → IsGood contents faults (slice_index_or all i d)
      by (inl more) = let longer : length left ≡ length front + 1 = one_less left front depot pop in behind i d (omega (arith, longer, more)) below
      by (inr same) =
          subst (λ (x : DepotView S). IsGood contents faults x) (sym (ap (λ (n : ℕ). slice_index_or all n d) (sym same) ∙ last_there left front depot all d pop first)) here

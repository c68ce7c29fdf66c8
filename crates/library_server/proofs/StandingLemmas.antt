-- What was handed out and came back, and counts that rose. The key lemmas are comes_back, others_back and rose_given.
use Rattle.std.proofs.Common.{◌≡◌, ℕ, ◌+◌, ◌-◌, ◌^◌, ◌≤◌, List, Option, Some, option_map, Result, Ok, Err, ap, ◌∙◌, arith}
use Rattle.std.specs.Prelude.{min}
use Rattle.ids.specs.FaultCount.{Rose}
use Rattle.folder_storage.specs.Ground.{AllGiveNoMore, ChangesStanding, GivesBack, HandedOut, Kept, MayGive, StandAsBefore, Standing, Standings, TakesBack, count_sum}
use Rattle.object_store.specs.Shelf.{Contents}
use Rattle.object_store.specs.declared.shelf.Slot.{Slot}
use Rattle.library_server.specs.Standing.{ComesBack, HandsOutOr, OthersGiveNoMore, Returned, untouched, came_back}

-- what was handed out and taken back came back
pub comes_back : (old mid new : Standings) (folder lib : List ℕ) (contents : Option Contents)
    → ChangesStanding old mid folder lib HandedOut → TakesBack mid new folder lib contents → ComesBack old new folder lib contents
comes_back old mid new folder lib contents out back = record {
  here = λ standing held there told. back.here held told (out.here ∙ ap (option_map (λ _. HandedOut)) there);
  others = λ f l apart. back.others f l apart ∙ out.others f l apart;
}

-- a library that came back stands with what its shelf holds
pub back_here : (old new : Standings) (folder lib : List ℕ) (contents : Option Contents) (standing : Standing) (held : Contents)
    → ComesBack old new folder lib contents → old folder lib ≡ Some standing → contents ≡ Some held → new folder lib ≡ Some (Kept held)
back_here old new folder lib contents standing held back there told = back.here standing held there told

-- after nothing was changed
pub out_after : (old mid new : Standings) (folder lib : List ℕ) → StandAsBefore old mid → ChangesStanding mid new folder lib HandedOut
    → ChangesStanding old new folder lib HandedOut
out_after old mid new folder lib same out = record {
  here = out.here ∙ ap (option_map (λ _. HandedOut)) (same folder lib);
  others = λ f l apart. out.others f l apart ∙ same f l;
}

pub back_after : (old mid new : Standings) (folder lib : List ℕ) (contents : Option Contents) → StandAsBefore old mid
    → ComesBack mid new folder lib contents → ComesBack old new folder lib contents
back_after old mid new folder lib contents same back = record {
  here = λ standing held there told. back.here standing held (same folder lib ∙ there) told;
  others = λ f l apart. back.others f l apart ∙ same f l;
}

module _ {S : Type 0} (contents : S → Option Contents) where
  pub returned_after : (old mid new : Standings) (folder lib : List ℕ) → StandAsBefore old mid → Returned contents mid new folder lib
      → Returned contents old new folder lib
  returned_after old mid new folder lib same (untouched kept) = untouched (λ f l. kept f l ∙ same f l)
  returned_after old mid new folder lib same (came_back shelf back) =
      came_back shelf (back_after old mid new folder lib (contents shelf) same back)

pub hands_after : {S T E : Type 0} (contents : S → Option Contents) (old mid new : Standings) (folder lib : List ℕ) (result : Result T E)
    → StandAsBefore old mid → HandsOutOr contents mid new folder lib result → HandsOutOr contents old new folder lib result
hands_after contents old mid new folder lib (Ok x) same out = out_after old mid new folder lib same out
hands_after contents old mid new folder lib (Err e) same back = returned_after contents old mid new folder lib same back

-- ---- what other libraries may give

-- a library is looked for, or made
pub others_all : {old new : MayGive} (folder lib : List ℕ) → AllGiveNoMore old new → OthersGiveNoMore old new folder lib
others_all folder lib first f l apart = first f l

-- that, and then more of the same library
pub others_then : {old mid new : MayGive} (folder lib : List ℕ) → AllGiveNoMore old mid → OthersGiveNoMore mid new folder lib → OthersGiveNoMore old new folder lib
others_then folder lib first second f l apart slot given is = first f l slot given (second f l apart slot given is)

-- its shelf goes back
pub others_back : {old mid new : MayGive} {gives : Slot → Option (List ℕ) → Type 0} (folder lib : List ℕ) → OthersGiveNoMore old mid folder lib → GivesBack mid new folder lib gives
    → OthersGiveNoMore old new folder lib
others_back folder lib first back f l apart slot given is = first f l apart slot given (back.others f l apart slot given is)

-- ---- counts

min_above : (most s0 s1 g : ℕ) → 1 ≤ most → min (s0 + 1) most ≤ s1 → min (g + 1) most ≤ min (g + s1) most
min_above most s0 s1 g some rose = omega arith

-- a shelf whose count rose raises that of the location that takes it back
pub rose_given : (s0 s1 g g' : ℕ) → Rose s0 s1 → g' ≡ count_sum g s1 → Rose g g'
rose_given s0 s1 g g' rose is = rw is (min_above (2 ^ 64 - 1) s0 s1 g (omega arith) rose)

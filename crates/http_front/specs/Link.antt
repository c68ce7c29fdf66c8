-- What a call on a link or a sink moves, and when its count of faults rises. Read first: FaultCount of ids.
-- What is told is an Option: an object in memory tells its bytes, an adapter over a real one tells None.
use Rattle.std.specs.Prelude.{ℕ, ◌≡◌, ◌≤◌, List, [], ◌∷◌, ◌++◌, length, Option, None, Some, Result, Ok, Err, ⊤}
use Rattle.std.specs.Io.KnownBytes.{append_known}
use Rattle.ids.specs.FaultCount.{Rose}
use Rattle.http_front.specs.declared.link.LinkFailed.{LinkFailed}

-- a call that fails raises the count, and no other call changes it
abbrev pub CountsFaults : {T : Type 0} → ℕ → ℕ → Result T LinkFailed → Type 0
CountsFaults before now (Ok done) = now ≡ before
CountsFaults before now (Err failed) = (before ≤ now) × Rose before now

-- how many bytes had been taken from a link, and how many given to it, as it was asked for more
abbrev pub Asked : Type 0
Asked = ℕ × ℕ

-- the list with one more, where the link tells what it was asked, and its bytes
abbrev pub asked_once_more : Option (List Asked) → Option (List ℕ) → Option (List ℕ) → Option (List Asked)
asked_once_more (Some asked) (Some taken) (Some given) = Some (asked ++ (length taken, length given) ∷ [])
asked_once_more asked taken given = None

-- what a link tells of itself: the bytes that it moved, and what had been moved as it was asked for more
pub record LinkTells : Type 0 where
  pub taken : Option (List ℕ)
  pub given : Option (List ℕ)
  pub asked : Option (List Asked)

abbrev pub told_by : {L : Type 0} → (L → Option (List ℕ)) → (L → Option (List ℕ)) → (L → Option (List Asked)) → L → LinkTells
told_by taken given asked link = record { taken = taken link; given = given link; asked = asked link }

-- the link was asked for more, and nothing was moved
abbrev pub AskedInVain : LinkTells → LinkTells → Type 0
AskedInVain old new = (new.taken ≡ old.taken) × (new.given ≡ old.given) × (new.asked ≡ asked_once_more old.asked old.taken old.given)

-- a front of these bytes was given
pub record GivesFront (old new : Option (List ℕ)) (bytes : List ℕ) : Type 0 where
  pub front : List ℕ
  pub rest : List ℕ
  pub cut : bytes ≡ front ++ rest
  pub given : new ≡ append_known old front

-- a call gives all of the piece, or fails after a front of it
abbrev pub Gives : Option (List ℕ) → Option (List ℕ) → List ℕ → Result ⊤ LinkFailed → Type 0
Gives old new piece (Ok done) = new ≡ append_known old piece
Gives old new piece (Err failed) = GivesFront old new piece

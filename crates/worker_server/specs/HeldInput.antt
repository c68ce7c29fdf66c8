-- How much of its input a connection holds unread: what was taken beyond the requests whose replies were given by then.
-- Read NeverHoldsMore first, at the end. Requests, replies and when more is asked for: ServedConnection.
use Rattle.std.specs.Prelude.{ℕ, ◌≡◌, ◌+◌, ◌<◌, ◌≤◌, ◌⊎◌, List, [], ◌∷◌, ◌++◌, length, take, All, Some}
use Rattle.http_front.specs.Limits.{body_limit, head_limit, piece_limit}
use Rattle.http_front.specs.Link.{Asked, LinkTells}
use Rattle.http_front.specs.RequestStream.{Reads}
use Rattle.worker_server.specs.ServedConnection.{Exchange, requests, texts}

-- ---- the times of a connection, each by how many bytes had been taken from its link, and how many given to it

-- a time from the first of these to the second, where the link was asked for more as the first stood, if at all, and then not
-- until the second: what came at the first had been taken, and some of what was given until the second had been given
pub record IsBetween (from to counts : Asked) : Type 0 where
  pub came : counts.0 ≡ to.0
  pub after : from.1 ≤ counts.1
  pub before : counts.1 ≤ to.1

-- a time from the first to the last, where the link was asked for more at just those of the list
abbrev pub StoodAt : Asked → List Asked → Asked → Asked → Type 0
StoodAt from [] to counts = IsBetween from to counts
StoodAt from (asked ∷ more) to counts = IsBetween from asked counts ⊎ StoodAt asked more to counts

-- ---- what is held

module _ {Operation : Type 0} where
  -- a connection with this input and these exchanges began at the first time, and the second came. By then the replies to some
  -- requests had been given, and of what was taken fewer than so many bytes follow those requests
  pub record HoldsFewer (most : ℕ) (input : List ℕ) (xs : List (Exchange Operation)) (from counts : Asked) : Type 0 where
    pub taken : ℕ
    pub given : ℕ
    pub taken_is : counts.0 ≡ from.0 + taken
    pub given_is : counts.1 ≡ from.1 + given
    pub answered : List (Exchange Operation)
    pub later : List (Exchange Operation)
    pub split : xs ≡ answered ++ later
    pub replied : length (texts 0 answered) ≤ given
    pub unread : List ℕ
    pub read : Reads (take taken input) (requests answered) unread
    pub few : length unread < most

  -- where the link tells what it moved and what it was asked: each time that a connection with these exchanges asked for more it
  -- held fewer bytes unread than the longest head and the longest body have, and at any time fewer than these and a piece
  abbrev pub NeverHoldsMore : List ℕ → List (Exchange Operation) → LinkTells → LinkTells → Type 0
  NeverHoldsMore input xs old new =
      (taken given now gave : List ℕ) (before asked : List Asked) → old.taken ≡ Some taken → old.given ≡ Some given → old.asked ≡ Some before
      → new.taken ≡ Some now → new.given ≡ Some gave → new.asked ≡ Some (before ++ asked)
      → All (HoldsFewer (head_limit + body_limit) input xs (length taken, length given)) asked
      × ((counts : Asked) → StoodAt (length taken, length given) asked (length now, length gave) counts
      → HoldsFewer (head_limit + body_limit + piece_limit) input xs (length taken, length given) counts)

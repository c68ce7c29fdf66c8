-- A link and a sink in memory, as contracts see them: what was moved, what is left to move, and
-- which calls are to fail. Read first: Link.
use Rattle.std.specs.Prelude.{ℕ, ◌-◌, Bool, ◌||◌, nat_lt, min, List, [], ◌∷◌, ◌++◌, length, take, drop, if◌then◌else◌}
use Rattle.ids.specs.FaultCount.{counted, is_due}
use Rattle.http_front.specs.Link.{Asked}

-- `calls` counts the takes and gives so far, up to 2 ^ 64 - 1
pub record MemoryLinkState : Type 0 where
  pub left : List ℕ
  pub taken : List ℕ
  pub given : List ℕ
  pub piece : ℕ
  pub room : ℕ
  pub fails : List ℕ
  pub calls : ℕ
  pub faults : ℕ
  pub asked : List Asked

pub record MemorySinkState : Type 0 where
  pub given : List ℕ
  pub room : ℕ
  pub fails : List ℕ
  pub calls : ℕ
  pub faults : ℕ

-- how many bytes of a piece find room
abbrev pub fitting : ℕ → List ℕ → List ℕ → ℕ
fitting room given piece = min (length piece) (room - length given)

-- a give of this number moves so many bytes
abbrev pub given_count : ℕ → List ℕ → ℕ → List ℕ → List ℕ → ℕ
given_count room fails number given piece = if is_due fails number then 0 else fitting room given piece

-- a give fails where it is to fail, and where the piece finds no room in full
abbrev pub give_fails : ℕ → List ℕ → ℕ → List ℕ → List ℕ → Bool
give_fails room fails number given piece =
    is_due fails number || nat_lt (room - length given) (length piece)

-- what it was asked, and once more
abbrev pub asked_more : MemoryLinkState → List Asked
asked_more link = link.asked ++ (length link.taken, length link.given) ∷ []

-- the link after a take of n bytes
abbrev pub after_take : MemoryLinkState → ℕ → MemoryLinkState
after_take link n = record link {
  left = drop n link.left;
  taken = link.taken ++ take n link.left;
  calls = counted link.calls;
  asked = asked_more link;
}

-- the link after a take that failed
abbrev pub after_failed_take : MemoryLinkState → MemoryLinkState
after_failed_take link = record link { calls = counted link.calls; faults = counted link.faults; asked = asked_more link }

-- A dial in memory, as contracts see it. Read first: Dial, MemoryLink.
use Rattle.std.specs.Prelude.{ℕ, ◌≡◌, Bool, if◌then◌else◌, List, []}
use Rattle.ids.specs.FaultCount.{counted}
use Rattle.http_front.specs.MemoryLink.{MemoryLinkState}

-- `rest` are the links that are not handed out, the next one first. `room` is how many of those that come back it keeps to be
-- looked at, the first ones. `calls` counts the calls for a link so far, up to 2 ^ 64 - 1, and `dialled` is what they asked for
pub record MemoryDialState : Type 0 where
  pub rest : List MemoryLinkState
  pub room : ℕ
  pub fails : List ℕ
  pub calls : ℕ
  pub back : List MemoryLinkState
  pub dialled : List (List ℕ × ℕ)
  pub faults : ℕ

-- nothing was moved on it, it was asked for nothing, and no call of it failed
pub record IsUnused (link : MemoryLinkState) : Type 0 where
  pub taken : link.taken ≡ []
  pub given : link.given ≡ []
  pub asked : link.asked ≡ []
  pub faults : link.faults ≡ 0

-- the count of faults after a call for a link
abbrev pub faults_after : Bool → ℕ → ℕ
faults_after failed count = if failed then counted count else count

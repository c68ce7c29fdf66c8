-- What a dial tells of the links that it makes and takes back, and of what it was asked for. Read first: Link.
use Rattle.std.specs.Prelude.{ℕ, ◌≡◌, ◌+◌, ◌-◌, ◌^◌, min, List, [], ◌++◌, Option, None, Some, ⊤}
use Rattle.std.specs.List.{AllByRecursion}
use Rattle.http_front.specs.Link.{Asked}

-- the sum of two counts, which stops at the greatest number of 64 bits
abbrev pub count_sum : ℕ → ℕ → ℕ
count_sum a b = min (a + b) (2 ^ 64 - 1)

-- nothing, where that is told
abbrev pub IsNothing : {A : Type 0} → Option (List A) → Type 0
IsNothing None = ⊤
IsNothing (Some items) = items ≡ []

-- nothing was moved on a link yet, and none of its calls failed
pub record IsFresh {L : Type 0} (taken given : L → Option (List ℕ)) (asked : L → Option (List Asked)) (faults : L → ℕ) (link : L) : Type 0 where
  pub taken_none : IsNothing (taken link)
  pub given_none : IsNothing (given link)
  pub asked_none : IsNothing (asked link)
  pub no_faults : faults link ≡ 0

-- whatever a dial was asked for since was this port of this host. Told are a host and a port for each call, also for one that failed
abbrev pub DialsOnly : List ℕ → ℕ → (before now : List (List ℕ × ℕ)) → Type 0
DialsOnly host port before now = (more : List (List ℕ × ℕ)) × (now ≡ before ++ more) × AllByRecursion (λ (asked : List ℕ × ℕ). asked ≡ (host, port)) more

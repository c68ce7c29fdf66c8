-- Words for a failure of the outside, which its count tells. Our own. Read Rose first.
use Rattle.std.specs.Prelude.{◌≡◌, ℕ, ◌+◌, ◌-◌, ◌^◌, ◌==◌, ◌≤◌, min, Bool, List, Result, Ok, Err}
use Rattle.std.specs.Bool.{MatchBool}
use Rattle.std.specs.List.{list_any}

-- one more, up to 2 ^ 64 - 1
abbrev pub counted : ℕ → ℕ
counted n = min (n + 1) (2 ^ 64 - 1)

-- a count rose in a call. It stops at the greatest number of 64 bits, where it counts as risen
abbrev pub Rose : ℕ → ℕ → Type 0
Rose before now = min (before + 1) (2 ^ 64 - 1) ≤ now

-- a call answers its fault only where its count rose, and else the count stays
abbrev pub FailsBy : {T E : Type 0} → (E → Bool) → ℕ → ℕ → Result T E → Type 0
FailsBy is_fault before now (Ok x) = now ≡ before
FailsBy is_fault before now (Err e) = MatchBool (is_fault e) ((before ≤ now) × Rose before now) (now ≡ before)

-- of a stand-in of the outside: the call of this number is to fail
abbrev pub is_due : List ℕ → ℕ → Bool
is_due fails number = list_any (λ n. n == number) fails

-- Counts that did not fall, or rose, over parts of a call. The key lemmas are not_fallen_same, not_fallen_sum, not_fallen_then, rose_later,
-- rose_before and rose_out.
use Rattle.std.proofs.Common.{◌≡◌, ◌+◌, ◌-◌, ◌^◌, ◌≤◌, ℕ, min, true, false, Bool, subst, arith}
use Rattle.std.specs.Bool.{MatchBool}
use Rattle.ids.specs.FaultCount.{Rose}
use Rattle.http_front.specs.Dial.{count_sum}
use Rattle.client_commands.specs.Keeping.{HasNotFallen}

kept_same : (most before now : ℕ) → now ≡ before → min before most ≤ now
kept_same most before now is = omega (arith, is)

pub not_fallen_same : (before now : ℕ) → now ≡ before → HasNotFallen before now
not_fallen_same before now is = kept_same (2 ^ 64 - 1) before now is

kept_sum : (most before now count : ℕ) → now ≡ min (before + count) most → min before most ≤ now
kept_sum most before now count is = omega (arith, is)

-- a count to which another was added
pub not_fallen_sum : (before now count : ℕ) → now ≡ count_sum before count → HasNotFallen before now
not_fallen_sum before now count is = kept_sum (2 ^ 64 - 1) before now count is

kept_above : (most before now : ℕ) → before ≤ now → min before most ≤ now
kept_above most before now is = omega (arith, is)

pub not_fallen_above : (before now : ℕ) → before ≤ now → HasNotFallen before now
not_fallen_above before now is = kept_above (2 ^ 64 - 1) before now is

kept_chain : (most a b c : ℕ) → min a most ≤ b → min b most ≤ c → min a most ≤ c
kept_chain most a b c first later = omega (arith, first, later)

pub not_fallen_then : (a b c : ℕ) → HasNotFallen a b → HasNotFallen b c → HasNotFallen a c
not_fallen_then a b c first later = kept_chain (2 ^ 64 - 1) a b c first later

rose_after : (most a b c : ℕ) → min a most ≤ b → min (b + 1) most ≤ c → min (a + 1) most ≤ c
rose_after most a b c kept rose = omega (arith, kept, rose)

pub rose_later : (a b c : ℕ) → HasNotFallen a b → Rose b c → Rose a c
rose_later a b c kept rose = rose_after (2 ^ 64 - 1) a b c kept rose

rose_first : (most a b c : ℕ) → min (a + 1) most ≤ b → min b most ≤ c → min (a + 1) most ≤ c
rose_first most a b c rose kept = omega (arith, rose, kept)

pub rose_before : (a b c : ℕ) → Rose a b → HasNotFallen b c → Rose a c
rose_before a b c rose kept = rose_first (2 ^ 64 - 1) a b c rose kept

rose_added : (most before now count : ℕ) → 1 ≤ count → now ≡ min (before + count) most → min (before + 1) most ≤ now
rose_added most before now count some is = omega (arith, some, is)

-- what comes back with a count above 0 raises the count of all
pub rose_back : (before now count : ℕ) → 1 ≤ count → now ≡ count_sum before count → Rose before now
rose_back before now count some is = rose_added (2 ^ 64 - 1) before now count some is

rose_some : (most count : ℕ) → 1 ≤ most → min (0 + 1) most ≤ count → 1 ≤ count
rose_some most count large rose = omega (arith, large, rose)

-- of what was fresh, and whose count rose meanwhile
pub rose_out : (before now start count : ℕ) → start ≡ 0 → Rose start count → now ≡ count_sum before count → Rose before now
rose_out before now start count fresh rose is =
    rose_back before now count (rose_some (2 ^ 64 - 1) count (omega arith) (subst (λ (n : ℕ). Rose n count) fresh rose)) is

-- a call that tells its faults by the count of a folder
pub not_fallen_told : (b : Bool) (before now : ℕ) → MatchBool b ((before ≤ now) × Rose before now) (now ≡ before) → HasNotFallen before now
not_fallen_told true before now told = not_fallen_above before now told.0
not_fallen_told false before now told = not_fallen_same before now told

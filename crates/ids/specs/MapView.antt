-- A `BTreeMap` seen as a finite map, and its keys in order. Our own. Read map_of first, then IsNext.
use Rattle.std.specs.Prelude.{◌≡◌, ⊤, false, Option, None, Some, IsSome}
use Rattle.std.specs.BTreeMap.{BTreeMap}
use Rattle.std.specs.FinMap as map
use Rattle.std.specs.Ordering.{is_gt}
use Rattle.std.specs.declared.cmp.Ordering.{Ordering}
use Rattle.std.specs.declared.cmp.Ordering.TheVariants.{Less}

-- the map of the entries
abbrev pub map_of : {K X : Type 0} (R : K → K → Ordering) → BTreeMap K X → map.FinMap R X
map_of R m = map.from_entries {R = R} m.entries

-- the key is above this one, if there is one
abbrev pub IsAbove : {K : Type 0} → (K → K → Ordering) → Option K → K → Type 0
IsAbove R None key = ⊤
IsAbove R (Some after) key = R after key ≡ Less

-- key is the least of the map's keys that are above `after`
pub record IsLeastAbove {K X : Type 0} {R : K → K → Ordering} (m : map.FinMap R X) (after : Option K) (key : K) : Type 0 where
  pub there : IsSome (map.get m key)
  pub above : IsAbove R after key
  pub least : (q : K) → IsAbove R after q → IsSome (map.get m q) → is_gt (R key q) ≡ false

-- the next key of the map above `after`, and none where there is none
abbrev pub IsNext : {K X : Type 0} {R : K → K → Ordering} → map.FinMap R X → Option K → Option K → Type 0
IsNext {K} {R = R} m after None = (q : K) → IsAbove R after q → map.get m q ≡ None
IsNext m after (Some key) = IsLeastAbove m after key

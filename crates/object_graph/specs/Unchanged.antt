-- How the objects of a store change: some are added, others leave, and what stays keeps its bytes. Our own.
use Rattle.std.specs.Prelude.{◌≡◌, ℕ, true, List, Some}
use Rattle.std.specs.FinMap as map
use Rattle.ids.specs.Key.{Objects}
use Rattle.ids.specs.declared.key.Key.{Key}
use Rattle.object_graph.specs.Traversal.{is_in}

-- each object of `old` stands in `new` with its bytes
pub record Keeps (old new : Objects) : Type 0 where
  pub kept : (key : Key) (bytes : List ℕ) → map.get old key ≡ Some bytes → map.get new key ≡ Some bytes

-- at these keys both have the same bytes, or nothing
pub record AgreeOn (keys : List Key) (old new : Objects) : Type 0 where
  pub same : (key : Key) → is_in keys key ≡ true → map.get new key ≡ map.get old key

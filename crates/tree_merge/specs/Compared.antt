-- What comparisons of files told. Our own. Read IsSame, then AreCompared.
use Rattle.std.specs.Prelude.{◌≡◌, ℕ, Bool, List, Option, Some}
use Rattle.std.specs.BTreeMap.{get}
use Rattle.std.specs.Ordering.{ordering_then}
use Rattle.std.specs.declared.cmp.Ordering.{Ordering}
use Rattle.ids.specs.Key.{Objects}
use Rattle.ids.specs.ObjectId.{id_cmp}
use Rattle.object_graph.specs.Objects.{contents_of, same_id}
use Rattle.tree_merge.specs.declared.compared.Compared.{Compared}
use Rattle.tree_merge.specs.declared.compared.Pair.{Pair}

-- pairs are ordered by their left ids, and then by their right ones
abbrev pub pair_cmp : Pair → Pair → Ordering
pair_cmp a b = ordering_then (id_cmp a.left b.left) (id_cmp a.right b.right)

-- it tells whether two files have the same bytes
abbrev pub IsSame : Objects → (left right : List ℕ) → Bool → Type 0
IsSame objects left right same = same ≡ same_id (contents_of objects left) (contents_of objects right)

-- what is kept of each pair of files is so
pub record AreCompared (objects : Objects) (compared : Compared) : Type 0 where
  pub right : (pair : Pair) (same : Bool) → get pair_cmp compared.pairs pair ≡ Some same → IsSame objects pair.left pair.right same

-- what is kept stays so, where the objects are told
abbrev pub StayCompared : Option Objects → (old new : Compared) → Type 0
StayCompared told old new = (objects : Objects) → told ≡ Some objects → AreCompared objects old → AreCompared objects new

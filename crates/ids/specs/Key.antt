-- The order of keys, and what a store holds. Read Kind and ObjectId first. Our own.
use Rattle.std.specs.Prelude.{ℕ, List}
use Rattle.std.specs.FinMap as map
use Rattle.std.specs.declared.cmp.Ordering.{Ordering}
use Rattle.std.specs.Ordering.{ordering_then, nat_cmp}
use Rattle.ids.specs.Kind.{kind_place}
use Rattle.ids.specs.ObjectId.{id_cmp}
use Rattle.ids.specs.declared.key.Key.{Key}

-- keys are ordered by kind, and then by id
abbrev pub key_cmp : Key → Key → Ordering
key_cmp a b = ordering_then (nat_cmp (kind_place a.kind) (kind_place b.kind)) (id_cmp a.id b.id)

-- what is stored: each key's bytes
abbrev pub Objects : Type 0
Objects = map.FinMap key_cmp (List ℕ)

-- For private clauses: going over ids that may name nothing, with the keys that were met. Read absent_from.
use Rattle.std.specs.Prelude.{Bool, not, ◌&&◌, if◌then◌else◌, is_some, ℕ, List, [], ◌∷◌, ⊤}
use Rattle.std.specs.FinMap as map
use Rattle.ids.specs.Key.{key_cmp}
use Rattle.ids.specs.declared.key.Key.{Key}
use Rattle.ids.specs.declared.key.Kind.{Kind}
use Rattle.object_graph.specs.Objects.{is_nil}
use Rattle.object_store.specs.StoreView.{Index}

-- keys that were met
abbrev pub Met : Type 0
Met = map.FinMap key_cmp ⊤

-- a key is told absent where it names nothing, isn't of forty zeros, and wasn't met
abbrev pub is_absent : (Key → Bool) → Met → Key → Bool
is_absent stored met key = not (is_nil key.id) && (not (stored key) && not (is_some (map.get met key)))

-- the ids that are told absent, each once
abbrev pub absent_from : (Key → Bool) → Kind → Met → List (List ℕ) → List (List ℕ)
absent_from stored k met [] = []
absent_from stored k met (id ∷ ids) =
    if is_absent stored met (record { kind = k; id = id }) then id ∷ absent_from stored k (map.insert met (record { kind = k; id = id }) tt) ids
    else absent_from stored k met ids

-- whether the index knows a key
abbrev pub is_known : Index → Key → Bool
is_known index key = is_some (map.get index key)

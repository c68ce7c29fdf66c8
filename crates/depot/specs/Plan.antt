-- What an update that is not refused does, as a list of objects. Our own. Read objects_in, then HasNames.
use Rattle.std.specs.Prelude.{◌≡◌, ℕ, List, [], ◌∷◌, ◌++◌, Option, None, Some, map as map_list}
use Rattle.std.specs.FinMap as map
use Rattle.std.specs.List.{AllByRecursion}
use Rattle.ids.specs.declared.key.Key.{Key}
use Rattle.library_rules.specs.declared.entry.Stored.{Stored}
use Rattle.object_graph.specs.Objects.{commit_key}
use Rattle.object_store.specs.Store.{name_refusal}
use Rattle.depot.specs.Giving.{IsLaidAs}
use Rattle.depot.specs.declared.plan.Plan.{Plan}

-- the objects of a table, in the order of their keys
abbrev pub listed : List (Key × List ℕ) → List Stored
listed entries = map_list (λ entry. record { key = entry.0; bytes = entry.1 }) entries

-- the object of a commit that is made here, where its text isn't stored yet
abbrev pub own_object : List ℕ → Option (List ℕ) → List Stored
own_object head None = []
own_object head (Some text) = record { key = commit_key head; bytes = text } ∷ []

-- the objects that a plan stores, in this order: directories, and then the head
abbrev pub objects_in : Plan → List Stored
objects_in plan = listed (map.entries plan.dirs) ++ own_object plan.head plan.text

-- no name forbids the object, and an update may lay it
abbrev pub IsNamed : Stored → Type 0
IsNamed x = (name_refusal x.key x.bytes ≡ None) × IsLaidAs x.key.kind x.key.id x.bytes

abbrev pub AreNamed : List Stored → Type 0
AreNamed added = AllByRecursion (λ x. IsNamed x) added

abbrev pub HasNames : Plan → Type 0
HasNames plan = AreNamed (objects_in plan)

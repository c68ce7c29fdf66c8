-- For private clauses: which keys a table knows, and ids that are put into a map. Read Knows first.
use Rattle.std.specs.Prelude.{◌≡◌, ◌&&◌, Bool, not, if◌then◌else◌, is_some, List, [], ◌∷◌, ⊤}
use Rattle.std.specs.FinMap as map
use Rattle.ids.specs.Key.{key_cmp}
use Rattle.ids.specs.ObjectId.{id_cmp}
use Rattle.ids.specs.declared.key.Key.{Key}
use Rattle.object_graph.specs.FsIds.{is_fs}
use Rattle.object_graph.specs.Traversal.{is_in}

-- the table knows exactly these keys
abbrev pub Knows : List Key → map.FinMap key_cmp ⊤ → Type 0
Knows keys known = (key : Key) → is_some (map.get known key) ≡ is_in keys key

-- whether a key is of a file or directory that isn't known
abbrev pub is_wanted : map.FinMap key_cmp ⊤ → Key → Bool
is_wanted known key = is_fs key.kind && not (is_some (map.get known key))

-- the ids of those keys, put into a map
abbrev pub with_ids : map.FinMap key_cmp ⊤ → List Key → map.FinMap id_cmp ⊤ → map.FinMap id_cmp ⊤
with_ids known [] ids = ids
with_ids known (key ∷ keys) ids = if is_wanted known key then map.insert (with_ids known keys ids) key.id tt else with_ids known keys ids

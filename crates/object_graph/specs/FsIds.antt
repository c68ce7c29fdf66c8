-- The file and directory objects that one commit needs and another doesn't. Our own. Read fs_ids.
use Rattle.std.specs.Prelude.{ℕ, Bool, true, false, not, if◌then◌else◌, List, [], ◌∷◌, Option, None, Some, ⊤}
use Rattle.std.specs.FinMap as map
use Rattle.ids.specs.Key.{Objects}
use Rattle.ids.specs.ObjectId.{id_cmp}
use Rattle.ids.specs.declared.key.Key.{Key}
use Rattle.ids.specs.declared.key.Kind.{Kind}
use Rattle.ids.specs.declared.key.Kind.TheVariants.{Commit, Fs, Block}
use Rattle.object_graph.specs.Objects.{fs_key}
use Rattle.object_graph.specs.Traversal.{is_in, needs}

abbrev pub is_fs : Kind → Bool
is_fs Commit = false
is_fs Fs = true
is_fs Block = false

-- the ids of those keys that are of files or directories
abbrev pub fs_ids_among : List Key → map.FinMap id_cmp ⊤
fs_ids_among [] = map.empty
fs_ids_among (key ∷ keys) = if is_fs key.kind then map.insert (fs_ids_among keys) key.id tt else fs_ids_among keys

-- what a commit needs, if there is one
abbrev pub needs_if : Objects → Option (List ℕ) → List Key
needs_if objects None = []
needs_if objects (Some id) = needs objects id

-- the ids of files and directories among some keys that aren't among others, in ascending order
abbrev pub fs_ids_of : (wanted known : List Key) → List (List ℕ)
fs_ids_of wanted known = map.keys (map.retain_keys (fs_ids_among wanted) (λ id. not (is_in known (fs_key id))))

-- the ids of the file and directory objects that the server's commit needs and the client's doesn't, in ascending order
unfoldable pub fs_ids : Objects → (server : List ℕ) → (client : Option (List ℕ)) → List (List ℕ)
fs_ids objects server client = fs_ids_of (needs objects server) (needs_if objects client)

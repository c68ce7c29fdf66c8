-- What an object names, as it is read. Our own. Read names_of, then names_at; is_of_bytes is for private clauses.
use Rattle.std.specs.Prelude.{ℕ, Bool, true, false, List, [], Option, None, Some, Result, Ok, Err}
use Rattle.std.specs.FinMap as map
use Rattle.ids.specs.Key.{Objects}
use Rattle.ids.specs.declared.key.Key.{Key}
use Rattle.ids.specs.declared.key.Kind.{Kind}
use Rattle.ids.specs.declared.key.Kind.TheVariants as kind
use Rattle.fs_objects.specs.declared.fs_object.FsObject.{FsObject}
use Rattle.commit_objects.specs.declared.commit.Commit.{Commit}
use Rattle.object_graph.specs.Objects.{commit_in, fs_in, fs_key}
use Rattle.object_graph.specs.Reached.{named_in, own_keys}
use Rattle.object_graph.specs.declared.fault.TreeFault.{TreeFault}
use Rattle.object_graph.specs.declared.fault.TreeFault.TheVariants.{Incomplete}
use Rattle.object_store.specs.Store.{is_want}
use Rattle.tree_walk.specs.declared.fault.WalkFault.{WalkFault}
use Rattle.tree_walk.specs.declared.fault.WalkFault.TheVariants as walk

abbrev pub names_read : Result FsObject TreeFault → Result (List Key) TreeFault
names_read (Ok object) = Ok (named_in object)
names_read (Err fault) = Err fault

abbrev pub root_read : Result Commit TreeFault → Result (List Key) TreeFault
root_read (Ok commit) = Ok (own_keys commit.root)
root_read (Err fault) = Err fault

abbrev pub names_by : Kind → (id bytes : List ℕ) → Result (List Key) TreeFault
names_by kind.Commit id bytes = root_read (commit_in id (Some bytes))
names_by kind.Fs id bytes = names_read (fs_in (fs_key id) (Some bytes))
names_by kind.Block id bytes = Ok []

-- what an object of these bytes names, or that they can't be read; a block may have any bytes
abbrev pub names_of : Key → List ℕ → Result (List Key) TreeFault
names_of key bytes = names_by key.kind key.id bytes

abbrev pub names_in : Key → Option (List ℕ) → Result (List Key) TreeFault
names_in key None = Err (Incomplete key)
names_in key (Some bytes) = names_of key bytes

-- what the stored object names; what isn't stored is incomplete
abbrev pub names_at : Objects → Key → Result (List Key) TreeFault
names_at objects key = names_in key (map.get objects key)

-- whether a fault may come of bytes that are at hand: they can't be read, or memory is wanting
abbrev pub is_of_bytes : WalkFault → Bool
is_of_bytes (walk.Unreadable key) = true
is_of_bytes (walk.Store fault) = is_want fault
is_of_bytes (walk.Incomplete key) = false
is_of_bytes (walk.WrongKind id) = false
is_of_bytes (walk.WrongSize id) = false
is_of_bytes (walk.TooDeep path) = false
is_of_bytes (walk.TooMany paths) = false

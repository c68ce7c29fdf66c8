-- The limits of what is listed of a tree. Our own. Read IsEntryPath, then IsWithinLimits.
use Rattle.tree_model.specs.declared.limits.TheConstants.{MAX_PATHS, MAX_NAMES}
use Rattle.std.specs.Prelude.{◌≢◌, ◌≤◌, [], length, IsSome}
use Rattle.std.specs.Coded.{Coded, coded×, coded_list, coded_ℕ}
use Rattle.std.specs.FinMap as map
use Rattle.std.specs.List.{AllByRecursion}
use Rattle.tree_model.specs.Path.{PathV, IsPath, path_cmp}
use Rattle.object_graph.specs.Listing.{Listed}
use Rattle.object_graph.specs.contracts.entry.Entry as entry_contracts
use Rattle.object_graph.specs.declared.entry.Entry.{Entry}

-- the path of an entry: 1 to MAX_NAMES good names
pub record IsEntryPath (path : PathV) : Type 0 where
  pub some : path ≢ []
  pub named : IsPath path
  pub bound : length path ≤ MAX_NAMES

-- at most MAX_PATHS entries, each at such a path
pub record IsWithinLimits (entries : map.FinMap path_cmp Entry) : Type 0 where
  pub few : map.len entries ≤ MAX_PATHS
  pub paths : (path : PathV) → IsSome (map.get entries path) → IsEntryPath path

-- ---- for private clauses: the same of a list

pub record AreFound (found : Listed) : Type 0 where
  pub few : length found ≤ MAX_PATHS
  pub paths : AllByRecursion (λ (x : PathV × Entry). IsEntryPath x.0) found

-- a list is stored as such
abbrev pub listed_code : Coded Listed
listed_code = coded_list (coded× (coded_list (coded_list coded_ℕ)) entry_contracts.the_row.coded)

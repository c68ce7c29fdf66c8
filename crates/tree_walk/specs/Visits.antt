-- For private clauses: what a traversal met, and the first fault of commits. Read MetView first.
use Rattle.std.specs.Prelude.{◌≡◌, ℕ, Bool, true, false, not, ◌&&◌, if◌then◌else◌, is_some, unwrap_or, List, [], ◌∷◌, ◌++◌, Option, None, Some, refl}
use Rattle.std.specs.Coded.{Coded, code_by, coded×, coded_bool, coded_list}
use Rattle.std.specs.FinMap as map
use Rattle.ids.specs.Key.{Objects, key_cmp}
use Rattle.ids.specs.contracts.key.Key as key_contracts
use Rattle.ids.specs.declared.key.Key.{Key}
use Rattle.object_graph.specs.Objects.{block_key}
use Rattle.object_graph.specs.Traversal.{is_in, walk_commit}
use Rattle.object_graph.specs.declared.fault.TreeFault.{TreeFault}
use Rattle.tree_walk.specs.Files.{first_due}

-- each key once, in the order of first visit; and of each whether all that lies below it was gone over
pub record MetView : Type 0 where
  pub keys : List Key
  pub marks : map.FinMap key_cmp Bool

-- it is stored as the pair of its fields
abbrev pub met_code : Coded MetView
met_code = code_by (List Key × map.FinMap key_cmp Bool) (coded× (coded_list key_contracts.the_row.coded) (map.code key_contracts.the_row.coded coded_bool)) (λ met. (met.keys, met.marks)) (λ pair. record { keys = pair.0; marks = pair.1 }) (λ _. refl)

abbrev pub nothing_met : MetView
nothing_met = record { keys = []; marks = map.empty }

abbrev pub is_done : MetView → Key → Bool
is_done met key = unwrap_or (map.get met.marks key) false

-- no key stands twice, or was met before
abbrev pub no_repeat : List Key → List Key → Bool
no_repeat met [] = true
no_repeat met (key ∷ keys) = not (is_in met key) && no_repeat (key ∷ met) keys

-- the table has exactly the keys of the list, each of which stands once
pub record IsMet (order : List Key) (marks : map.FinMap key_cmp Bool) : Type 0 where
  pub there : (key : Key) → is_some (map.get marks key) ≡ is_in order key
  pub once : no_repeat [] order ≡ true

-- a key more, behind the others, unless it was met before
abbrev pub with_key_met : Key → MetView → MetView
with_key_met key met = if is_in met.keys key then met else record { keys = met.keys ++ key ∷ []; marks = map.insert met.marks key false }

abbrev pub with_blocks_met : List (List ℕ) → MetView → MetView
with_blocks_met [] met = met
with_blocks_met (id ∷ ids) met = with_blocks_met ids (with_key_met (block_key id) met)

-- all that lies below it was gone over
abbrev pub finished : Key → MetView → MetView
finished key met = record (with_key_met key met) { marks = map.insert (with_key_met key met).marks key true }

-- the first fault of one commit, and then of another, if there is one
abbrev pub commit_due : Objects → Option (List ℕ) → Option TreeFault
commit_due objects None = None
commit_due objects (Some id) = (walk_commit objects id).fault

abbrev pub commits_due : Objects → (server : List ℕ) → (client : Option (List ℕ)) → Option TreeFault
commits_due objects server client = first_due (walk_commit objects server).fault (commit_due objects client)

-- What a collection has marked, what waits to be marked, and what it may still remove. Our own.
-- Read MarksView, then Leads and IsExact.
use Rattle.std.specs.Prelude.{◌≡◌, ◌==◌, ℕ, Bool, true, false, if◌then◌else◌, is_some, List, [], ◌++◌, length, map as map_list, ⊤, refl}
use Rattle.std.specs.Coded.{Coded, code_by, coded×, coded_list, coded_ℕ}
use base.Stored.{coded_unit}
use Rattle.std.specs.FinMap as map
use Rattle.std.specs.List.{IsDistinct, list_any}
use Rattle.std.specs.Ordering.{eq_by_cmp}
use Rattle.ids.specs.Key.{Objects, key_cmp}
use Rattle.ids.specs.contracts.key.Key as key_contracts
use Rattle.ids.specs.declared.key.Key.{Key}
use Rattle.object_graph.specs.Objects.{commit_key, same_id}
use Rattle.object_graph.specs.Reached.{ReachedFrom}
use Rattle.object_graph.specs.Traversal.{IsComplete, distinct_from, is_in, needs}
use Rattle.object_store.specs.StoreView.{Index}
use Rattle.collector.specs.declared.marks.Phase.{Phase}
use Rattle.collector.specs.declared.marks.Phase.TheVariants.{Marking, Sweeping, Over}

-- keys that may be removed
abbrev pub Candidates : Type 0
Candidates = map.FinMap key_cmp ⊤

-- the commits for which the collection began; what is marked, and what waits to be, in the order in which it was met; and
-- the candidates
pub record MarksView : Type 0 where
  pub commits : List (List ℕ)
  pub marked : List Key
  pub pending : List Key
  pub candidates : Candidates

-- it is stored as its fields
abbrev pub marks_code : Coded MarksView
marks_code = code_by (List (List ℕ) × (List Key × (List Key × Candidates)))
    (coded× (coded_list (coded_list coded_ℕ)) (coded× (coded_list key_contracts.the_row.coded) (coded× (coded_list key_contracts.the_row.coded) (map.code key_contracts.the_row.coded coded_unit))))
    (λ marks. (marks.commits, (marks.marked, (marks.pending, marks.candidates))))
    (λ parts. record { commits = parts.0; marked = parts.1.0; pending = parts.1.1.0; candidates = parts.1.1.1 }) (λ _. refl)

abbrev pub is_candidate : MarksView → Key → Bool
is_candidate marks key = is_some (map.get marks.candidates key)

-- marking is due while something waits, and then sweeping while a candidate is left
abbrev pub phase_of : MarksView → Phase
phase_of marks = if length marks.pending == 0 then (if map.len marks.candidates == 0 then Over else Sweeping) else Marking

-- ---- what always holds

-- nothing is met twice, and what is marked is no candidate
pub record AreMarks (marks : MarksView) : Type 0 where
  pub once : IsDistinct (eq_by_cmp key_cmp) (marks.marked ++ marks.pending)
  pub apart : (key : Key) → is_candidate marks key ≡ true → is_in marks.marked key ≡ false

-- ---- beside the objects that are stored

-- whether one of these commits needs a key
abbrev pub needed_by : Objects → List (List ℕ) → Key → Bool
needed_by objects commits key = list_any (λ commit. is_in (needs objects commit) key) commits

-- these commits are complete
abbrev pub AreCompleteCommits : Objects → List (List ℕ) → Type 0
AreCompleteCommits objects commits = (commit : List ℕ) → list_any (same_id commit) commits ≡ true → IsComplete objects commit

-- the marks lead to all that the commits need: what isn't marked yet waits, or is reached from what waits without a way
-- through what is marked
pub record Leads (objects : Objects) (marks : MarksView) : Type 0 where
  pub each : (key : Key) → needed_by objects marks.commits key ≡ true → is_in marks.marked key ≡ false
      → ReachedFrom objects marks.marked marks.pending key

-- nothing is met but what the commits need, where they are complete
pub record IsExact (objects : Objects) (marks : MarksView) : Type 0 where
  pub each : AreCompleteCommits objects marks.commits → (key : Key) → is_in (marks.marked ++ marks.pending) key ≡ true
      → needed_by objects marks.commits key ≡ true

-- ---- what a call leaves

-- the marks of a collection that begins: what is stored is a candidate, and the commits wait
pub record AreFirst (index : Index) (kept : List (List ℕ)) (marks : MarksView) : Type 0 where
  pub commits : marks.commits ≡ kept
  pub marked : marks.marked ≡ []
  pub pending : marks.pending ≡ distinct_from [] (map_list commit_key kept)
  pub candidates : (key : Key) → is_candidate marks key ≡ is_some (map.get index key)

-- only the candidates may be others
pub record HasTheSameMarks (old new : MarksView) : Type 0 where
  pub commits : new.commits ≡ old.commits
  pub marked : new.marked ≡ old.marked
  pub pending : new.pending ≡ old.pending

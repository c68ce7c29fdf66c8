-- How the marks stand to a library in which a collection runs. Our own. Read Collects, then ShieldsSo.
use Rattle.std.specs.Prelude.{◌≡◌, ◌≤◌, ◌+◌, ◌&&◌, ◌||◌, not, ℕ, true, false, is_some, List, length, Some}
use Rattle.std.specs.FinMap as map
use Rattle.std.specs.FinSet as set
use Rattle.std.specs.List.{AllByRecursion, IsDistinct, list_any}
use Rattle.std.specs.Ordering.{eq_by_cmp}
use Rattle.ids.specs.Key.{key_cmp}
use Rattle.ids.specs.declared.key.Key.{Key}
use Rattle.library_rules.specs.LibraryState.{State, Running, is_kept, is_needed, is_stored}
use Rattle.library_state.specs.declared.history.Install.{Install}
use Rattle.object_graph.specs.Objects.{same_id}
use Rattle.object_graph.specs.Traversal.{is_in}
use Rattle.object_graph.specs.Unchanged.{Keeps}
use Rattle.object_store.specs.StoreView.{Index}
use Rattle.collector.specs.Marks.{AreMarks, HasTheSameMarks, IsExact, Leads, MarksView, is_candidate, needed_by}

-- the commits are the kept ones
abbrev pub AreKeptCommits : List Install → List (List ℕ) → Type 0
AreKeptCommits kept commits = (commit : List ℕ) → list_any (same_id commit) commits ≡ is_kept kept commit

-- the index has the keys of what is stored
abbrev pub KnowsStored : State → Index → Type 0
KnowsStored s index = (key : Key) → is_some (map.get index key) ≡ is_stored s.objects key

-- the marks are those of the collection that runs
pub record Collects (s : State) (running : Running) (marks : MarksView) : Type 0 where
  pub runs : s.running ≡ Some running
  pub good : AreMarks marks
  pub leads : Leads s.objects marks
  pub exact : IsExact s.objects marks
  -- the commits for which it began are kept still
  pub commits : (commit : List ℕ) → list_any (same_id commit) marks.commits ≡ true → is_kept s.state.kept commit ≡ true
  -- a candidate is stored and isn't fresh; and where none of those commits needs it, no kept commit does
  pub stored : (key : Key) → is_candidate marks key ≡ true → is_stored s.objects key ≡ true
  pub not_fresh : (key : Key) → is_candidate marks key ≡ true → set.contains running.fresh key ≡ false
  pub unneeded : (key : Key) → is_candidate marks key ≡ true → needed_by s.objects marks.commits key ≡ false
      → is_needed s.objects s.state.kept key ≡ false
  -- what is stored and is no candidate is needed or fresh
  pub covers : (key : Key) → is_stored s.objects key ≡ true → is_candidate marks key ≡ false
      → (is_needed s.objects s.state.kept key || set.contains running.fresh key) ≡ true
  -- the commits need no more keys than were stored as it began, and each turn took a candidate or made a mark
  pub few : (keys : List Key) → IsDistinct (eq_by_cmp key_cmp) keys → AllByRecursion (λ key. needed_by s.objects marks.commits key ≡ true) keys
      → length keys ≤ running.stored
  pub turns : running.turned + map.len marks.candidates ≤ running.stored + length marks.marked

-- what is to be done to the marks where a call leaves a library in which the collection goes on: what came or was told
-- present is fresh, what is fresh is shielded, and so is what a kept commit needs and none needed before; and nothing else
pub record ShieldsSo (s t : State) (before after : Running) (old new : MarksView) : Type 0 where
  pub grown : Keeps s.objects t.objects
  pub kept : (commit : List ℕ) → is_kept s.state.kept commit ≡ true → is_kept t.state.kept commit ≡ true
  pub runs : t.running ≡ Some after
  pub numbers : (after.stored ≡ before.stored) × (after.turned ≡ before.turned)
  pub came : (key : Key) → is_stored t.objects key ≡ true → is_stored s.objects key ≡ false → set.contains after.fresh key ≡ true
  pub fresh : (key : Key) → set.contains before.fresh key ≡ true → set.contains after.fresh key ≡ true
  pub marks : HasTheSameMarks old new
  pub fewer : (key : Key) → is_candidate new key ≡ true → is_candidate old key ≡ true
  pub shields : (key : Key) → set.contains after.fresh key ≡ true → is_candidate new key ≡ false
  pub installs : (key : Key) → is_needed t.objects t.state.kept key ≡ true → is_needed s.objects s.state.kept key ≡ false
      → is_candidate new key ≡ false
  pub spares : (key : Key) → is_candidate old key ≡ true → is_candidate new key ≡ false
      → (is_needed t.objects t.state.kept key || set.contains after.fresh key) ≡ true

-- these keys are candidates, each once
pub record AreCandidates (marks : MarksView) (keys : List Key) : Type 0 where
  pub each : (key : Key) → is_in keys key ≡ true → is_candidate marks key ≡ true
  pub once : IsDistinct (eq_by_cmp key_cmp) keys

-- the candidates are as before, without these
pub record LeavesCandidates (removed : List Key) (old new : MarksView) : Type 0 where
  pub each : (key : Key) → is_candidate new key ≡ (is_candidate old key && not (is_in removed key))
  pub size : map.len new.candidates + length removed ≡ map.len old.candidates

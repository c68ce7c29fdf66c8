-- Which steps of a collection are permitted. There are no marks: what is needed is asked of the kept commits anew.
-- Our own. Read Begins, Sweeps and Ends.
use Rattle.std.specs.Prelude.{◌≡◌, ◌⊎◌, ◌*◌, ◌<◌, ◌≤◌, ◌||◌, true, false, [], Option, None, Some, is_some, ⊤}
use Rattle.std.specs.FinSet as set
use Rattle.std.specs.List.{IsDistinct}
use Rattle.std.specs.Ordering.{eq_by_cmp}
use Rattle.ids.specs.Key.{key_cmp}
use Rattle.ids.specs.declared.key.Key.{Key}
use Rattle.library_state.specs.declared.refusal.Refusal.TheVariants as refusal
use Rattle.library_state.specs.declared.reply.Reply.TheVariants as reply
use Rattle.object_graph.specs.Traversal.{is_in}
use Rattle.library_rules.specs.Answered.{Plain, Fails}
use Rattle.library_rules.specs.LibraryState.{State, Running, is_stored, is_needed, is_fresh, last_number}
use Rattle.library_rules.specs.declared.entry.Entry.{Entry}

-- a collection begins where none runs and its number isn't the last one
pub record Begins (s : State) (e : Entry) : Type 0 where
  pub says : Plain s e reply.Checked
  pub idle : s.running ≡ None
  pub next : s.state.collection < last_number
  pub adds : e.added ≡ []
  pub removes : e.removed ≡ []

-- objects leave that are stored, that no kept commit needs and that aren't fresh, each once; a collection has at most
-- twice as many turns that aren't refused as objects were stored when it began
pub record Sweeps (s : State) (running : Running) (e : Entry) : Type 0 where
  pub stored : (key : Key) → is_in e.removed key ≡ true → is_stored s.objects key ≡ true
  pub unneeded : (key : Key) → is_in e.removed key ≡ true → is_needed s.objects s.state.kept key ≡ false
  pub not_fresh : (key : Key) → is_in e.removed key ≡ true → set.contains running.fresh key ≡ false
  pub once : IsDistinct (eq_by_cmp key_cmp) e.removed
  pub few : e.reply ≡ reply.Checked → running.turned < 2 * running.stored
  pub says : Plain s e reply.Checked ⊎ Fails s e

-- where none runs nothing leaves, and the turn is refused: by a fault, or since the last collection began already
abbrev pub SweepPermits : State → Entry → Option Running → Type 0
SweepPermits s e None = (e.removed ≡ []) × (Fails s e ⊎ (Plain s e (reply.Refused refusal.Spent) × (s.state.collection ≡ last_number)))
SweepPermits s e (Some running) = Sweeps s running e

-- what is stored is needed by a kept commit or fresh
pub record IsClean (s : State) : Type 0 where
  pub each : (key : Key) → is_stored s.objects key ≡ true → (is_needed s.objects s.state.kept key || is_fresh s.running key) ≡ true

-- a collection ends where one runs and nothing is left for it
pub record Ends (s : State) (e : Entry) : Type 0 where
  pub says : Plain s e reply.Checked
  pub runs : is_some s.running ≡ true
  pub clean : IsClean s
  pub adds : e.added ≡ []
  pub removes : e.removed ≡ []

-- a collection that runs had at most so many turns that weren't refused
abbrev pub HasFewTurns : Option Running → Type 0
HasFewTurns None = ⊤
HasFewTurns (Some running) = running.turned ≤ 2 * running.stored

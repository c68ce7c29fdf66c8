-- What an entry of the history changes, whether it is permitted or not. Our own. Read apply from below.
use Rattle.std.specs.Prelude.{ℕ, ◌+◌, Bool, true, false, if◌then◌else◌, List, [], ◌∷◌, ◌++◌, filter, Option, None, Some, option_map, map as map_list}
use Rattle.std.specs.FinMap as map
use Rattle.std.specs.FinSet as set
use Rattle.std.specs.Str.{bytes_eq}
use Rattle.ids.specs.Key.{Objects, key_cmp}
use Rattle.ids.specs.declared.key.Key.{Key}
use Rattle.library_state.specs.Retention.{kept_for}
use Rattle.library_state.specs.declared.call.Act.{Act}
use Rattle.library_state.specs.declared.call.Act.TheVariants as act
use Rattle.library_state.specs.declared.call.Op.TheVariants as op
use Rattle.library_state.specs.declared.reply.Reply.{Reply}
use Rattle.library_state.specs.declared.reply.Reply.TheVariants as reply
use Rattle.library_state.specs.declared.state.LibState.{LibState}
use Rattle.library_state.specs.declared.token.Token.{Token}
use Rattle.library_rules.specs.Calls.{keys_of}
use Rattle.library_rules.specs.LibraryState.{State, Running, is_kept, is_stored}
use Rattle.library_rules.specs.declared.entry.Entry.{Entry}
use Rattle.library_rules.specs.declared.entry.Step.{Step}
use Rattle.library_rules.specs.declared.entry.Step.TheVariants as step
use Rattle.library_rules.specs.declared.entry.Stored.{Stored}

-- ---- objects

-- what is stored keeps its bytes
abbrev pub put_new : Objects → Stored → Objects
put_new objects x = if is_stored objects x.key then objects else map.insert objects x.key x.bytes

-- objects are put one after another
abbrev pub with_added : Objects → List Stored → Objects
with_added objects [] = objects
with_added objects (x ∷ added) = with_added (put_new objects x) added

-- objects leave one after another
abbrev pub without : Objects → List Key → Objects
without objects [] = objects
without objects (key ∷ removed) = without (map.remove objects key) removed

-- the keys of objects that are put
abbrev pub keys_added : List Stored → List Key
keys_added added = map_list (λ x. x.key) added

-- ---- fresh keys

-- keys are added to a set one after another
abbrev pub add_all : List Key → set.FinSet key_cmp → set.FinSet key_cmp
add_all [] keys = keys
add_all (key ∷ more) keys = add_all more (set.insert keys key)

-- these keys are fresh in a collection that runs
abbrev pub fresher : List Key → Running → Running
fresher keys running = record running { fresh = add_all keys running.fresh }

-- objects come and go; those that come are fresh
abbrev pub moved : State → List Stored → List Key → State
moved s added removed = record s { objects = without (with_added s.objects added) removed; running = option_map (fresher (keys_added added)) s.running }

-- ---- calls

-- whether an answer is a refusal
abbrev pub is_refused : Reply → Bool
is_refused (reply.Refused why) = true
is_refused reply.Checked = false
is_refused (reply.HeadIs id) = false
is_refused (reply.Got bytes) = false
is_refused (reply.Stored new) = false
is_refused (reply.Absent ids) = false
is_refused (reply.Updated id) = false
is_refused reply.Limited = false
is_refused (reply.Listed ids) = false

-- the token of a secret saw this collection
abbrev pub with_last : List ℕ → ℕ → List Token → List Token
with_last secret collection [] = []
with_last secret collection (token ∷ tokens) = if bytes_eq secret token.secret then record token { last = collection } ∷ tokens else token ∷ with_last secret collection tokens

-- without a secret no token saw it
abbrev pub seen_by : Option (List ℕ) → ℕ → List Token → List Token
seen_by None collection tokens = tokens
seen_by (Some secret) collection tokens = with_last secret collection tokens

-- a key that was told present by a put; what was put new is fresh as an object that came
abbrev pub told_by : Key → Reply → List Key
told_by key (reply.Stored false) = key ∷ []
told_by key other = []

-- the keys that are stored among some
abbrev pub stored_keys : Objects → List Key → List Key
stored_keys objects keys = filter (is_stored objects) keys

-- the new head that an answered update tells
abbrev pub head_in : Reply → List ℕ → List ℕ
head_in (reply.Updated head) pushed = head
head_in other pushed = pushed

-- the state with one head update more
abbrev pub with_install : (head pushed : List ℕ) → ℕ → LibState → LibState
with_install head pushed moment state = record state { kept = state.kept ++ record { head = head; pushed = pushed; at = moment } ∷ [] }

-- the state after an act that is answered so and isn't refused: an upload check tells the token of the last collection,
-- and an update of a commit that isn't kept is one head update more
abbrev pub next_by : LibState → Option (List ℕ) → ℕ → Act → Reply → LibState
next_by state secret moment (act.Check op.Upload) r = record state { tokens = seen_by secret state.collection state.tokens }
next_by state secret moment (act.Check op.Download) r = state
next_by state secret moment act.Head r = state
next_by state secret moment (act.Get key) r = state
next_by state secret moment (act.Put key bytes) r = state
next_by state secret moment (act.Missing k ids) r = state
next_by state secret moment (act.Update pushed) r = if is_kept state.kept pushed then state else with_install (head_in r pushed) pushed moment state
next_by state secret moment (act.Limit days) r = record state { days = days }
next_by state secret moment (act.Ids server client) r = state

-- where a collection runs, the keys that an act told present are fresh: that of a put, and those that were asked for and
-- are stored
abbrev pub fresher_by : Objects → Act → Reply → Option Running → Option Running
fresher_by objects (act.Check o) r running = running
fresher_by objects act.Head r running = running
fresher_by objects (act.Get key) r running = running
fresher_by objects (act.Put key bytes) r running = option_map (fresher (told_by key r)) running
fresher_by objects (act.Missing k ids) r running = option_map (fresher (stored_keys objects (keys_of k ids))) running
fresher_by objects (act.Update pushed) r running = running
fresher_by objects (act.Limit days) r running = running
fresher_by objects (act.Ids server client) r running = running

-- what a call that isn't refused changes, beside objects that come
abbrev pub act_changes : Option (List ℕ) → ℕ → Act → Reply → State → State
act_changes secret moment a r s = record s { state = next_by s.state secret moment a r; running = fresher_by s.objects a r s.running }

-- ---- collections

-- history is cut, the collection has the next number, and no key is fresh
abbrev pub begun : ℕ → State → State
begun moment s = record s {
  state = record s.state { kept = kept_for s.state.days moment s.state.kept; collection = s.state.collection + 1 };
  running = Some (record { fresh = set.empty; stored = map.len s.objects; turned = 0 });
}

-- one turn more, unless it is refused
abbrev pub turn_counted : Bool → Running → Running
turn_counted refused running = record running { turned = if refused then running.turned else running.turned + 1 }

-- a turn that isn't refused is counted
abbrev pub swept : Bool → State → State
swept refused s = record s { running = option_map (turn_counted refused) s.running }

-- no collection runs
abbrev pub ended : State → State
ended s = record s { running = None }

-- ---- entries

-- what a step changes, beside objects that come and go: a refused call nothing
abbrev pub step_changes : ℕ → Step → Reply → State → State
step_changes moment (step.Asked call) r s = if is_refused r then s else act_changes call.secret moment call.act r s
step_changes moment step.Began r s = begun moment s
step_changes moment step.Swept r s = swept (is_refused r) s
step_changes moment step.Ended r s = ended s

-- the count of the storage's faults is this
abbrev pub counted : ℕ → State → State
counted faults s = record s { faults = faults }

-- the state after an entry
abbrev pub apply : State → Entry → State
apply s e = counted e.faults (step_changes e.moment e.step e.reply (moved s e.added e.removed))

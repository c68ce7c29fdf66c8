-- When an upload is complete. Our own. Read is_safe, then IsUploaded.
use Rattle.std.specs.Prelude.{◌≡◌, ℕ, ◌&&◌, ◌||◌, Bool, true, false, List, Option, None, Some, ⊤}
use Rattle.std.specs.FinSet as set
use Rattle.std.specs.List.{AllByRecursion, list_any}
use Rattle.ids.specs.declared.key.Key.{Key}
use Rattle.library_state.specs.declared.call.Act.{Act}
use Rattle.library_state.specs.declared.call.Act.TheVariants as act
use Rattle.library_state.specs.declared.reply.Reply.{Reply}
use Rattle.library_state.specs.declared.reply.Reply.TheVariants as reply
use Rattle.object_graph.specs.Objects.{commit_key, is_nil, same_id}
use Rattle.object_graph.specs.Traversal.{walk_commit}
use Rattle.library_rules.specs.LibraryState.{State, Running, is_stored, is_needed}
use Rattle.library_rules.specs.MergeBase.{chain_of}

-- while a collection runs, a key is shielded from it that is needed by a kept commit or fresh
abbrev pub is_shielded : State → Option Running → Key → Bool
is_shielded s None key = true
is_shielded s (Some running) key = is_needed s.objects s.state.kept key || set.contains running.fresh key

-- a stored key that no collection takes until the next one begins
abbrev pub is_safe : State → Key → Bool
is_safe s key = is_stored s.objects key && is_shielded s s.running key

-- each key that the traversal of a pushed commit visits is safe, and so is each commit up to its merge base
pub record IsUploaded (s : State) (pushed : List ℕ) : Type 0 where
  pub visited : AllByRecursion (λ key. is_safe s key ≡ true) (walk_commit s.objects pushed).visits
  pub chain : AllByRecursion (λ id. is_safe s (commit_key id) ≡ true) (chain_of s pushed)

-- ---- one call or turn

-- what was safe stays safe
abbrev pub KeepsSafe : State → State → Type 0
KeepsSafe s t = (key : Key) → is_safe s key ≡ true → is_safe t key ≡ true

-- what an answer tells to be stored is safe: the key of a put, and each that was asked for and isn't told absent
abbrev pub TellsSafe : Act → Reply → State → Type 0
TellsSafe (act.Put key bytes) (reply.Stored new) t = is_safe t key ≡ true
TellsSafe (act.Missing k ids) (reply.Absent absent) t = (id : List ℕ) → list_any (same_id id) ids ≡ true → is_nil id ≡ false
    → list_any (same_id id) absent ≡ false → is_safe t (record { kind = k; id = id }) ≡ true
TellsSafe a r t = ⊤

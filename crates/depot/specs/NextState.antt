-- The state that a call makes of the one before it. Our own. Read state_after, then Follows.
use Rattle.std.specs.Prelude.{◌≡◌, ◌+◌, ℕ, false, if◌then◌else◌, List}
use Rattle.library_rules.specs.Changes.{is_refused}
pub use Rattle.library_rules.specs.Changes.{next_by, with_install}
pub use Rattle.library_rules.specs.Creation.{with_new_token}
use Rattle.library_state.specs.Retention.{kept_for}
use Rattle.library_state.specs.declared.call.Call.{Call}
use Rattle.library_state.specs.declared.reply.Reply.{Reply}
use Rattle.library_state.specs.declared.right.Right.{Right}
use Rattle.library_state.specs.declared.state.LibState.{LibState}

-- what a call makes of a state that is answered so, and isn't refused
abbrev pub next_state : LibState → Call → ℕ → Reply → LibState
next_state state call moment r = next_by state call.secret moment call.act r

-- the state after an answer: a refusal leaves it as it was
abbrev pub state_after : LibState → Call → ℕ → Reply → LibState
state_after state call moment r = if is_refused r then state else next_state state call moment r

-- the state once a collection has begun: history is cut, and one collection more is counted
abbrev pub with_begin : ℕ → LibState → LibState
with_begin moment state = record state { kept = kept_for state.days moment state.kept; collection = state.collection + 1 }

-- a state is what a call that isn't refused, a token more, or the begin of a collection makes of the present one
pub data Follows (present other : LibState) : Type 0 where
  answered : (call : Call) (moment : ℕ) (said : Reply) → is_refused said ≡ false → next_state present call moment said ≡ other → Follows present other
  token_added : (user secret : List ℕ) (right : Right) → with_new_token user secret right present ≡ other → Follows present other
  collection_began : (moment : ℕ) → with_begin moment present ≡ other → Follows present other

-- The state of one library, and when it is sound. Our own. Read State, then IsSound.
use Rattle.library_state.specs.declared.state.TheConstants.{MAX_STATE_NAME, MAX_TOKENS}
use Rattle.std.specs.Prelude.{◌≡◌, ◌≢◌, ℕ, ◌≤◌, ℤ, Bool, true, false, List, [], ◌∷◌, length, Option, None, Some, is_some, map as map_list}
use Rattle.std.specs.List.{list_any, AllByRecursion, IsDistinct}
use Rattle.std.specs.FinMap as map
use Rattle.std.specs.FinSet as set
use Rattle.std.specs.Str.{bytes_eq}
use Rattle.ids.specs.Key.{Objects, key_cmp}
use Rattle.ids.specs.declared.key.Key.{Key}
pub use Rattle.library_state.specs.StateText.{last_number, is_day_count}
use Rattle.library_state.specs.Tokens.{secrets_of}
use Rattle.library_state.specs.declared.history.Install.{Install}
use Rattle.library_state.specs.declared.state.LibState.{LibState}
use Rattle.library_state.specs.declared.token.Token.{Token}
use Rattle.object_graph.specs.Objects.{same_id}
use Rattle.object_graph.specs.Traversal.{IsComplete, is_in, needs}

-- a collection that runs: the keys that were put or told present since it began, the number of objects that were
-- stored as it began, and its turns since then that weren't refused
pub record Running : Type 0 where
  pub fresh : set.FinSet key_cmp
  pub stored : ℕ
  pub turned : ℕ

-- what a library is: its objects; the state that is written into its text, with the head updates that are retained, of
-- which the last one has the head; the collection that runs; and how often its storage failed
pub record State : Type 0 where
  pub objects : Objects
  pub state : LibState
  pub running : Option Running
  pub faults : ℕ

-- ---- kept commits, and what they need

-- the head and the pushed commit of each retained head update
abbrev pub kept_commits : List Install → List (List ℕ)
kept_commits [] = []
kept_commits (install ∷ installs) = install.head ∷ install.pushed ∷ kept_commits installs

-- whether a commit is kept
abbrev pub is_kept : List Install → List ℕ → Bool
is_kept installs id = list_any (same_id id) (kept_commits installs)

-- the head: that of the last head update
abbrev pub head_of : List Install → List ℕ
head_of [] = []
head_of (install ∷ []) = install.head
head_of (install ∷ next ∷ installs) = head_of (next ∷ installs)

-- whether an object is stored under a key
abbrev pub is_stored : Objects → Key → Bool
is_stored objects key = is_some (map.get objects key)

-- whether a kept commit needs a key
abbrev pub is_needed : Objects → List Install → Key → Bool
is_needed objects kept key = list_any (λ commit. is_in (needs objects commit) key) (kept_commits kept)

-- whether a key was put or told present since the collection that runs began
abbrev pub is_fresh : Option Running → Key → Bool
is_fresh None key = false
is_fresh (Some running) key = set.contains running.fresh key

-- ---- soundness

-- there is a head, each kept commit is complete, and fresh keys are stored
pub record AreKept (objects : Objects) (kept : List Install) (running : Option Running) : Type 0 where
  pub some_kept : kept ≢ []
  pub complete : (commit : List ℕ) → is_kept kept commit ≡ true → IsComplete objects commit
  pub fresh_stored : (key : Key) → is_fresh running key ≡ true → is_stored objects key ≡ true

-- the users, in the order of the tokens
abbrev pub users_of : List Token → List (List ℕ)
users_of tokens = map_list (λ token. token.user) tokens

-- the secrets are distinct, there are at most MAX_TOKENS, none saw a collection that didn't begin, and users have 1 to MAX_STATE_NAME bytes
pub record AreTokens (tokens : List Token) (collection : ℕ) : Type 0 where
  pub secrets : IsDistinct bytes_eq (secrets_of tokens)
  pub few : length tokens ≤ MAX_TOKENS
  pub lasts : AllByRecursion (λ token. token.last ≤ collection) tokens
  pub users : AllByRecursion (λ user. (1 ≤ length user) × (length user ≤ MAX_STATE_NAME)) (users_of tokens)

-- the numbers and the name are within their limits
pub record AreNumbers (collection opening : ℕ) (days : ℤ) (name : List ℕ) : Type 0 where
  pub collections : collection ≤ last_number
  pub opened : 1 ≤ opening
  pub openings : opening ≤ last_number
  pub day_count : is_day_count days ≡ true
  pub name_size : length name ≤ MAX_STATE_NAME

-- a sound state
pub record IsSound (s : State) : Type 0 where
  pub kept : AreKept s.objects s.state.kept s.running
  pub tokens : AreTokens s.state.tokens s.state.collection
  pub numbers : AreNumbers s.state.collection s.state.opening s.state.days s.state.name

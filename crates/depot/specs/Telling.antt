-- For private clauses: figures of a library, one of which is another wherever a call changed it. Read AreFigures.
use Rattle.std.specs.Prelude.{◌≡◌, ◌≢◌, ◌⊎◌, ℕ, Bool, true, false, List, length, Option, None, Some, option_map, ⊤}
use Rattle.std.specs.FinMap as map
use Rattle.std.specs.FinSet as set
use Rattle.ids.specs.Key.{key_cmp}
use Rattle.library_rules.specs.Calls.{token_of}
use Rattle.library_rules.specs.LibraryState.{Running}
use Rattle.library_state.specs.declared.call.Act.{Act}
use Rattle.library_state.specs.declared.call.Act.TheVariants as act
use Rattle.library_state.specs.declared.call.Op.TheVariants as op
use Rattle.library_state.specs.declared.state.LibState.{LibState}
use Rattle.library_state.specs.declared.token.Token.{Token}
use Rattle.depot.specs.DepotView.{fresh_in}
use Rattle.depot.specs.declared.telling.Figures.{Figures}
use Rattle.depot.specs.declared.turn.Turn.{Turn}
use Rattle.depot.specs.declared.turn.Turn.TheVariants as turn

-- the secret of an upload check, the one act that changes a token
abbrev pub checked_secret : Act → Option (List ℕ) → Option (List ℕ)
checked_secret (act.Check op.Upload) secret = secret
checked_secret other secret = None

-- the last collection that the token of a secret saw
abbrev pub last_seen : List Token → Option (List ℕ) → Option ℕ
last_seen tokens secret = option_map (λ (token : Token). token.last) (token_of tokens secret)

-- the keys of a table of so many
pub record HasCount (keys : set.FinSet key_cmp) (count : ℕ) : Type 0 where
  pub table : map.FinMap key_cmp ⊤
  pub same : keys ≡ fresh_in table
  pub size : map.len table ≡ count

-- so many keys are fresh: none where no collection runs
abbrev pub CountsFresh : Option Running → ℕ → Type 0
CountsFresh None count = count ≡ 0
CountsFresh (Some running) count = HasCount running.fresh count

-- these are figures of a library: the counts of faults, of objects, of head updates and of fresh keys, the days, and the last
-- collection that the token of a secret saw
pub record AreFigures (faults objects : ℕ) (secret : Option (List ℕ)) (state : LibState) (running : Option Running) (figures : Figures) : Type 0 where
  pub of_faults : figures.faults ≡ faults
  pub of_objects : figures.objects ≡ objects
  pub of_updates : figures.updates ≡ length state.kept
  pub of_days : figures.days ≡ state.days
  pub of_last : figures.last ≡ last_seen state.tokens secret
  pub of_fresh : CountsFresh running figures.fresh

-- whether a turn is a step of a collection that isn't refused
abbrev pub is_step : Turn → Bool
is_step (turn.Began number) = true
is_step (turn.Marked count) = true
is_step (turn.Swept keys) = true
is_step (turn.Ended number) = true
is_step (turn.Over number) = false
is_step (turn.Refused why keys) = false

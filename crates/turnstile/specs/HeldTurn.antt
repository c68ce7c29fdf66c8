-- What contracts see of a turn: words on `Held` for callers. Our own. Read IsHeld first; PassView has the words on the pass.
use Rattle.std.specs.Prelude.{◌≡◌, ℕ}
use Rattle.std.specs.Borrow.{GName}
use Rattle.turnstile.specs.declared.view.Parcel.{Parcel}
use Rattle.turnstile.specs.declared.view.View.{View}
use Rattle.turnstile.specs.declared.view.About.{About}
use Rattle.turnstile.specs.declared.rule.Turns.{Turns}
use Rattle.turnstile.specs.declared.seated.Seated.{Seated}
use Rattle.turnstile.specs.declared.lock.Lock.{Lock}
use Rattle.turnstile.specs.declared.held.Held.{Held}
use Rattle.turnstile.specs.PassView.{IsInTurn, WasMadeBy, participant_of}

module _ {V E : Type 0} where
  -- the pass that has the turn, as it is now, and which borrow of it that is
  abbrev pub pass_of : Held V E → Seated (Parcel V E) (View V E)
  pass_of h = h.pass.now

  abbrev pub name_of : Held V E → GName
  name_of h = h.pass.ghost_name

  -- the turnstile, the value, and the number of entries so far
  abbrev pub turnstile_of : Held V E → Lock (Parcel V E) (View V E) (About V) (Turns V)
  turnstile_of h = h.turnstile.now

  abbrev pub value_of : Held V E → V
  value_of h = h.value

  abbrev pub place_of : Held V E → ℕ
  place_of h = h.place

  abbrev pub with_value : Held V E → V → Held V E
  with_value h y = record h { value = y }

  -- its pass has the turn at its turnstile
  abbrev pub IsHeld : Held V E → Type 0
  IsHeld h = WasMadeBy h.turnstile.now h.pass.now × IsInTurn h.pass.now.parts h.place (participant_of h.pass.now)

  -- the same turn, of the same pass at the same turnstile
  abbrev pub IsSameTurn : Held V E → Held V E → Type 0
  IsSameTurn h i = (i.pass.ghost_name ≡ h.pass.ghost_name) × (i.turnstile ≡ h.turnstile) × (i.pass.now.parts ≡ h.pass.now.parts)

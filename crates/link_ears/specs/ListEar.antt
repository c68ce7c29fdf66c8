-- An ear in memory: which link a call gives, and which call fails. Our own. Read first: Ear.
use Rattle.std.specs.Prelude.{ℕ, ◌≡◌, true, false, List, [], ◌∷◌, Option, None, Some, Result, Ok, Err}
use Rattle.ids.specs.FaultCount.{is_due}
use Rattle.http_front.specs.declared.link.LinkFailed.{LinkFailed}

-- of the calls whose numbers are to fail, the number of this call, and the links that were left and are left, the next one first: a
-- call fails exactly where it is to fail; else it gives the next link, or none where none is left
abbrev pub GivesNext : {L : Type 0} → List ℕ → ℕ → List L → List L → Result (Option L) LinkFailed → Type 0
GivesNext fails calls old new (Ok (Some link)) = (is_due fails calls ≡ false) × (old ≡ link ∷ new)
GivesNext fails calls old new (Ok None) = (is_due fails calls ≡ false) × (old ≡ []) × (new ≡ [])
GivesNext fails calls old new (Err failed) = (is_due fails calls ≡ true) × (new ≡ old)

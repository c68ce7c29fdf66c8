-- For private clauses: a call that may change the state beside the head updates, and the place of a token. Read TextSo.
use Rattle.std.specs.Prelude.{◌≡◌, ◌≢◌, ℕ, ◌<◌, Bool, true, false, List, length, slice_index_or, slice_set, Result, Ok, ⊤}
use Rattle.std.specs.Str.{bytes_eq}
use Rattle.library_state.specs.declared.state.LibState.{LibState}
use Rattle.library_state.specs.declared.token.Token.{Token}
use Rattle.object_store.specs.declared.error.StoreFault.{StoreFault}
use Rattle.depot.specs.Writing.{Slot, RewritesSo}

-- a call that leaves the state as it is writes nothing; any other writes the text of the next one
pub data TextSo (unsettled : Bool) (present next : LibState) (old : Slot) (still : Bool) (new : Slot) (result : Result ⊤ StoreFault)
    (before now : ℕ) : Type 0 where
  same : next ≡ present → still ≡ unsettled → new ≡ old → now ≡ before → result ≡ Ok tt → TextSo unsettled present next old still new result before now
  changed : next ≢ present → RewritesSo unsettled present next old still new result → TextSo unsettled present next old still new result before now

-- the first token of a secret stands at this place
pub record IsPlaceOf (tokens : List Token) (secret : List ℕ) (place : ℕ) : Type 0 where
  pub within : place < length tokens
  pub is : (d : Token) → bytes_eq secret (slice_index_or tokens place d).secret ≡ true
  pub first : (k : ℕ) (d : Token) → k < place → bytes_eq secret (slice_index_or tokens k d).secret ≡ false

-- the tokens with the one at a place told of this collection; the last argument isn't looked at
abbrev pub marked : (place collection : ℕ) → List Token → Token → List Token
marked place collection tokens d = slice_set tokens place (record (slice_index_or tokens place d) { last = collection })

-- What contracts see of a pass and of a turn: words for callers. Our own. Read view_of, IsPassOf and IsInTurn first.
use Rattle.std.specs.Prelude.{◌≡◌, ℕ, ◌+◌, ◌<◌, ◌≤◌, true, false, List, [], ◌∷◌, length, Option, Some, None}
use mathlib.Core.List.{IsPrefix}
use Rattle.turnstile.specs.declared.view.Parcel.{Parcel}
use Rattle.turnstile.specs.declared.view.View.{View}
use Rattle.turnstile.specs.declared.seated.Seated.{Seated}
use Rattle.turnstile.specs.declared.lock.Lock.{Lock}
use Rattle.turnstile.specs.Rule.{most_turns}
use Rattle.turnstile.specs.Steps.{Participant, newcomer}

module _ {V E : Type 0} where
  -- what the pass knows and holds, and what it knows
  abbrev pub participant_of : Seated (Parcel V E) (View V E) → Participant V E
  participant_of p = p.seat.me

  abbrev pub view_of : Seated (Parcel V E) (View V E) → View V E
  view_of p = p.seat.me.0

  -- for how many passes it stands, of how many
  abbrev pub parts_of : Seated (Parcel V E) (View V E) → ℕ
  parts_of p = (view_of p).parts

  abbrev pub passes_of : Seated (Parcel V E) (View V E) → ℕ
  passes_of p = (view_of p).passes

  -- the first ticket of all, and how many tickets it drew
  abbrev pub first_of : Seated (Parcel V E) (View V E) → ℕ
  first_of p = (view_of p).first

  abbrev pub turns_of : Seated (Parcel V E) (View V E) → ℕ
  turns_of p = (view_of p).turns

  -- the start of the history, its known beginning, the last length read outside of a turn and how many times it was read, the number last read of the next ticket, and the places of its own entries
  abbrev pub start_of : Seated (Parcel V E) (View V E) → Option V
  start_of p = (view_of p).start

  abbrev pub seen_of : Seated (Parcel V E) (View V E) → List E
  seen_of p = (view_of p).seen

  abbrev pub looked_of : Seated (Parcel V E) (View V E) → ℕ
  looked_of p = (view_of p).looked

  abbrev pub looks_of : Seated (Parcel V E) (View V E) → ℕ
  looks_of p = (view_of p).looks

  abbrev pub drawn_of : Seated (Parcel V E) (View V E) → ℕ
  drawn_of p = (view_of p).drawn

  -- how many entries were published in this turn
  abbrev pub told_of : Seated (Parcel V E) (View V E) → ℕ
  told_of p = (view_of p).told

  abbrev pub book_of : Seated (Parcel V E) (View V E) → List ℕ
  book_of p = (view_of p).book

  -- between turns
  pub record IsIdle (parts : ℕ) (m : Participant V E) : Type 0 where
    pub no_slot : m.1 ≡ []
    pub no_ticket : m.0.ticket ≡ None
    pub no_turn : m.0.turn ≡ false
    pub some_part : 0 < parts
    pub parts_are : m.0.parts ≡ parts

  -- in a turn, with `place` entries in the history. The slot is held, and the value is out of it.
  pub record IsInTurn (parts place : ℕ) (m : Participant V E) : Type 0 where
    pub parcel : Parcel V E
    pub start : V
    pub held : m.1 ≡ (0, parcel) ∷ []
    pub taken : parcel.value ≡ None
    pub has_turn : m.0.turn ≡ true
    pub place_is : length m.0.seen ≡ place
    pub some_part : 0 < parts
    pub parts_are : m.0.parts ≡ parts
    pub start_is : m.0.start ≡ Some start

  -- the value stands, from the start, for the known list
  abbrev pub StandsFor : (V → List E → V → Type 0) → View V E → V → Type 0
  StandsFor stands v y = (x : V) × (v.start ≡ Some x) × stands x v.seen y

  -- the slot is held, with this value in it
  abbrev pub HoldsValue : Participant V E → V → Type 0
  HoldsValue m y = (p : Parcel V E) × (m.1 ≡ (0, p) ∷ []) × (p.value ≡ Some y)

  -- the slot is held, with no value in it
  abbrev pub HoldsNone : Participant V E → Type 0
  HoldsNone m = (p : Parcel V E) × (m.1 ≡ (0, p) ∷ []) × (p.value ≡ None)

  -- as a turn begins: the known list may be longer, and is no shorter than what was looked at; one ticket was drawn, behind all that the pass drew
  pub record Catches (v w : View V E) : Type 0 where
    pub start_stays : w.start ≡ v.start
    pub passes_stay : w.passes ≡ v.passes
    pub first_stays : w.first ≡ v.first
    pub parts_stay : w.parts ≡ v.parts
    pub looked_stays : w.looked ≡ v.looked
    pub looks_stay : w.looks ≡ v.looks
    pub book_stays : w.book ≡ v.book
    pub seen_grows : IsPrefix v.seen w.seen
    pub looked_below : v.looked ≤ length w.seen
    pub one_turn : w.turns ≡ v.turns + 1
    pub drawn_grows : v.drawn ≤ w.drawn
    pub drawn_bound : v.first + v.turns ≤ w.drawn

  -- the same pass of the same turnstile, after a step
  abbrev pub IsSamePass : Seated (Parcel V E) (View V E) → Seated (Parcel V E) (View V E) → Type 0
  IsSamePass p q = (q.seat.table_id ≡ p.seat.table_id) × (q.parts ≡ p.parts)

  -- the turnstile is spent: the pass shows the number read, and all else is as it was
  abbrev pub IsSpentAt : Seated (Parcel V E) (View V E) → Seated (Parcel V E) (View V E) → Type 0
  IsSpentAt p q = IsSamePass p q × (participant_of q ≡ (record (view_of p) { drawn = most_turns }, (participant_of p).1))

  -- the pass was made by that turnstile
  abbrev pub WasMadeBy : {K Q : Type 0} → Lock (Parcel V E) (View V E) K Q → Seated (Parcel V E) (View V E) → Type 0
  WasMadeBy lock p = p.seat.table_id ≡ lock.table.shared.table_id

  -- the pass was made by that turnstile, and is between turns
  abbrev pub IsPassOf : {K Q : Type 0} → Lock (Parcel V E) (View V E) K Q → Seated (Parcel V E) (View V E) → Type 0
  IsPassOf lock p = WasMadeBy lock p × IsIdle p.parts p.seat.me

  -- a pass of a new turnstile: one of so many, which knows the start, and has seen and made nothing
  abbrev pub IsNewPass : {K Q : Type 0} → Lock (Parcel V E) (View V E) K Q → Option V → ℕ → ℕ → Seated (Parcel V E) (View V E) → Type 0
  IsNewPass lock start passes first p = IsPassOf lock p × (view_of p ≡ newcomer start passes first 1)

-- What the rule says of a turnstile at any moment, in plain words: the statements of src/laws.rt. Our own. Read Rule first.
use Rattle.std.specs.Prelude.{◌≡◌, ℕ, ◌+◌, ◌<◌, ◌≤◌, true, List, [], ◌∷◌, length}
use mathlib.Core.Option.{some}
use mathlib.Core.List.{IsPrefix}
use lib.ListN.{get_elem?}
use Rattle.atomic_table.specs.Table.{State}
use Rattle.turnstile.specs.declared.view.Parcel.{Parcel}
use Rattle.turnstile.specs.declared.view.View.{View}
use Rattle.turnstile.specs.declared.view.About.{About}
use Rattle.turnstile.specs.Lists.{Has, IsOnce}
use Rattle.turnstile.specs.Rule.{most_turns, total, turns_in, IsFree, Stands, IsLawful}

module _ {V E : Type 0} where
  -- two participants with the turn are one
  abbrev pub HasOneTurn : List (View V E) → Type 0
  HasOneTurn views = (i j : ℕ) (v w : View V E) → get_elem? views i ≡ some v → get_elem? views j ≡ some w → v.turn ≡ true → w.turn ≡ true → i ≡ j

  -- each known list begins the history, and is all of it where the participant has the turn
  abbrev pub KnowsBeginning : List E → List (View V E) → Type 0
  KnowsBeginning history views = (i : ℕ) (v : View V E) → get_elem? views i ≡ some v → IsPrefix v.seen history × (v.turn ≡ true → v.seen ≡ history)

  -- each book has a place once, and only places of the history
  abbrev pub HasPlacesOnce : List E → List (View V E) → Type 0
  HasPlacesOnce history views = (i : ℕ) (v : View V E) → get_elem? views i ≡ some v → IsOnce v.book × ((p : ℕ) → Has p v.book → p < length history)

  -- two books with one place are one
  abbrev pub HasOneBook : List (View V E) → Type 0
  HasOneBook views = (i j : ℕ) (v w : View V E) (p : ℕ) → get_elem? views i ≡ some v → get_elem? views j ≡ some w → Has p v.book → Has p w.book → i ≡ j

  -- each place of the history stands in a book
  abbrev pub HasEachPlace : List E → List (View V E) → Type 0
  HasEachPlace history views = (p : ℕ) → p < length history → (i : ℕ) × (v : View V E) × (get_elem? views i ≡ some v) × Has p v.book

  module _ (stands : V → List E → V → Type 0) where
    -- at any moment between two steps
    abbrev pub Always : ((k : About V) (s : State (Parcel V E) (View V E)) → IsLawful stands k s → Type 0) → Type 0
    Always P = (k : About V) (s : State (Parcel V E) (View V E)) (r : IsLawful stands k s) → P k s r

    -- where the turn is free, the slot holds a value that stands for the history
    abbrev pub StandsWhereFree : (k : About V) (s : State (Parcel V E) (View V E)) → IsLawful stands k s → Type 0
    StandsWhereFree k s r = IsFree s.views → (p : Parcel V E) × (s.homes ≡ some p ∷ []) × Stands stands k.start.value r.history p

    -- who stands for all passes has seen all of the history, and has each place of it in its book
    abbrev pub HasSeenAll : (k : About V) (s : State (Parcel V E) (View V E)) → IsLawful stands k s → Type 0
    HasSeenAll k s r = (i : ℕ) (v : View V E) → get_elem? s.views i ≡ some v → v.parts ≡ k.passes → (v.seen ≡ r.history) × ((p : ℕ) → p < length r.history → Has p v.book)

    -- who stands for all passes drew all tickets, and read no number beyond them
    abbrev pub HasDrawnAll : (k : About V) (s : State (Parcel V E) (View V E)) → IsLawful stands k s → Type 0
    HasDrawnAll k s r = (i : ℕ) (v : View V E) → get_elem? s.views i ≡ some v → v.parts ≡ k.passes → (k.first + v.turns ≡ r.drawn) × (v.drawn ≤ k.first + v.turns)

    -- the tickets drawn so far are those from the first on, and no more than the most
    abbrev pub DrawsWithinMost : (k : About V) (s : State (Parcel V E) (View V E)) → IsLawful stands k s → Type 0
    DrawsWithinMost k s r = (k.first + total turns_in s.views ≡ r.drawn) × (r.drawn ≤ most_turns)

-- What each atomic step tells the participant that makes it, and how two participants become of one and one of two. Read Drew, Gains and Published first.
use Rattle.std.specs.Prelude.{◌≡◌, ◌≢◌, ℕ, ◌+◌, ◌-◌, ◌^◌, ◌<◌, ◌≤◌, max, true, false, List, [], ◌∷◌, ◌++◌, length, Option, Some, None}
use mathlib.Core.List.{IsPrefix}
use Rattle.atomic_table.specs.Table.{Me, rest}
use Rattle.turnstile.specs.declared.view.Parcel.{Parcel}
use Rattle.turnstile.specs.declared.view.View.{View}
use Rattle.turnstile.specs.Lists.{IsOnce, longer, shorter}
use Rattle.turnstile.specs.Rule.{Stands, most_turns}

-- what a participant knows, and the slot that it holds
abbrev pub Participant : Type 0 → Type 0 → Type 0
Participant V E = Me (Parcel V E) (View V E)

module _ {V E : Type 0} where
  -- the entry that a parcel carries, if it carries one
  abbrev pub next_of : Parcel V E → List E
  next_of p = elim p.next [ None ↦ [] | Some a ↦ a.value ∷ [] ]

  -- the entries that lie in the slots held
  abbrev pub carried_entries : List (ℕ × Parcel V E) → List E
  carried_entries [] = []
  carried_entries (x ∷ xs) = next_of x.1

  -- a participant at the start, which stands for `parts` of the `passes`
  abbrev pub newcomer : Option V → ℕ → ℕ → ℕ → View V E
  newcomer start passes first parts = record { start = start; passes = passes; first = first; parts = parts; ticket = None; turn = false; told = 0; turns = 0; drawn = 0; seen = []; other = []; looked = 0; looks = 0; book = [] }

  -- split: the first keeps all but one part, and the second begins with that one
  abbrev pub one_less : View V E → View V E
  one_less v = record v { parts = v.parts - 1 }

  abbrev pub one_part : View V E → View V E
  one_part v = newcomer v.start v.passes v.first 1

  -- join: the first has what both had, and the second is spent
  abbrev pub both_of : View V E → View V E → View V E
  both_of v w = record v { parts = v.parts + w.parts; turns = v.turns + w.turns; drawn = max v.drawn w.drawn; seen = longer v.seen w.seen; other = shorter v.seen w.seen; looked = max v.looked w.looked; looks = v.looks + w.looks; book = v.book ++ w.book }

  abbrev pub spent : View V E
  spent = newcomer None 0 0 0

  -- publish: one entry more was told in this turn, at the end of the known list, and its place is in the book
  abbrev pub with_entry : View V E → List E → ℕ → View V E
  with_entry v entry place = record v { told = v.told + 1; seen = v.seen ++ entry; book = v.book ++ place ∷ [] }

  -- draw: n was there, and is the ticket if it was the number expected
  abbrev pub Drew : ℕ → Participant V E → ℕ → Participant V E → Type 0
  Drew expected m n w =
      (n ≤ most_turns) × (m.0.drawn ≤ n) × (m.0.first + m.0.turns ≤ n)
      × (n ≡ expected → w ≡ (record m.0 { ticket = Some n; turns = m.0.turns + 1; drawn = n }, m.1))
      × (n ≢ expected → w ≡ (record m.0 { drawn = n }, m.1))

  -- look, where the ticket is served: the turn comes with the slot, and all of the history is seen
  abbrev pub Gains : (V → List E → V → Type 0) → Participant V E → Participant V E → Type 0
  Gains stands m w =
      (x : V) × (p : Parcel V E) × (m.0.start ≡ Some x)
      × (w ≡ (record m.0 { turn = true; told = 0; seen = w.0.seen }, (0, p) ∷ m.1))
      × Stands stands x w.0.seen p
      × IsPrefix m.0.seen w.0.seen

  abbrev pub Looked : (V → List E → V → Type 0) → Participant V E → ℕ → Participant V E → Type 0
  Looked stands m n w = (m.0.ticket ≡ Some n → Gains stands m w) × (m.0.ticket ≢ Some n → w ≡ m)

  -- release: the participant is left with neither ticket nor turn, and the table has the slot again
  abbrev pub Released : Participant V E → ℕ → Participant V E → Type 0
  Released m n w = w ≡ (record m.0 { ticket = None; turn = false; told = 0 }, rest m.1)

  -- publish: the carried entry stands at the end of the history, at the place n
  abbrev pub Published : Participant V E → ℕ → Participant V E → Type 0
  Published m n w =
      (n ≡ length m.0.seen) × (n + 1 < 2 ^ 64)
      × (w ≡ (with_entry m.0 (carried_entries m.1) n, m.1))

  -- count in a turn: all of the history was seen
  abbrev pub Counted : Participant V E → ℕ → Participant V E → Type 0
  Counted m n w = (n ≡ length m.0.seen) × (m.0.looked ≤ n) × (w ≡ m)

  -- count outside of a turn: the number read is kept, and this was one look more
  abbrev pub Glanced : Participant V E → ℕ → Participant V E → Type 0
  Glanced m n w = (m.0.looked ≤ n) × (length m.0.seen ≤ n) × (w ≡ (record m.0 { looked = n; looks = m.0.looks + 1 }, m.1))

  -- a load of the passes word: how many passes were made, what the last join taught, and where the participant stands for all of them, that
  -- no more tickets were drawn than it drew
  abbrev pub Totalled : Participant V E → ℕ → Participant V E → Type 0
  Totalled m n w =
      (n ≡ m.0.passes) × (m.0.parts ≤ n) × (w ≡ m)
      × IsOnce m.0.book
      × (length m.0.other ≤ length m.0.seen → IsPrefix m.0.other m.0.seen)
      × (m.0.parts ≡ n → m.0.drawn ≤ m.0.first + m.0.turns)

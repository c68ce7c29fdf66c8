-- The rule of the turnstile: what is true of its four words, its slot and all participants between any two steps.
-- Our own; docs/CONCURRENCY.md has its clauses in words. Read IsLawful first.
use Rattle.std.specs.Prelude.{◌≡◌, ℕ, ◌+◌, ◌*◌, ◌<◌, ◌≤◌, true, false, List, [], ◌∷◌, length, Some}
use mathlib.Core.Option.{Option as Home, none, some}
use mathlib.Core.List.{IsPrefix}
use lib.ListN.{get_elem?}
use Rattle.atomic_table.specs.Table.{State}
use Rattle.turnstile.specs.declared.view.Parcel.{Parcel}
use Rattle.turnstile.specs.declared.view.View.{View}
use Rattle.turnstile.specs.declared.view.About.{About}
use Rattle.turnstile.specs.Lists.{Has, IsOnce}

-- the greatest number of turns, 2^61
abbrev pub most_turns : ℕ
most_turns = 2305843009213693952

-- a number of each participant, added up
abbrev pub total : {V E : Type 0} → (View V E → ℕ) → List (View V E) → ℕ
total f [] = 0
total f (v ∷ views) = f v + total f views

-- for how many passes it stands, and how many tickets it drew
abbrev pub parts_in : {V E : Type 0} → View V E → ℕ
parts_in v = v.parts

abbrev pub turns_in : {V E : Type 0} → View V E → ℕ
turns_in v = v.turns

-- the parcel holds a value that stands, from x, for the history
abbrev pub Stands : {V E : Type 0} → (V → List E → V → Type 0) → V → List E → Parcel V E → Type 0
Stands {V} stands x history p = (y : V) × (p.value ≡ Some y) × stands x history y

-- no participant has the turn
abbrev pub IsFree : {V E : Type 0} → List (View V E) → Type 0
IsFree {V} {E} views = (i : ℕ) (v : View V E) → get_elem? views i ≡ some v → v.turn ≡ false

-- What is true of the participant i, whose view is v. `owner t` is the participant that drew the ticket t, and `maker p` the one whose book has the place p.
pub record Fits {V E : Type 0} (k : About V) (history : List E) (serving drawn : ℕ) (owner maker : ℕ → ℕ) (i : ℕ) (v : View V E) : Type 0 where
  pub ticketed : (t : ℕ) → v.ticket ≡ Some t → (serving ≤ t) × (t < drawn) × (owner t ≡ i)
  pub turning : v.turn ≡ true → (v.ticket ≡ Some serving) × (v.seen ≡ history)
  pub seen_first : IsPrefix v.seen history
  pub other_first : IsPrefix v.other history
  pub looked_below : v.looked ≤ length history
  pub drawn_below : v.drawn ≤ drawn
  pub booked : (p : ℕ) → Has p v.book → (p < length v.seen) × (maker p ≡ i)
  pub once : IsOnce v.book
  pub spent : v.parts ≡ 0 → (v.book ≡ []) × (v.turn ≡ false) × (v.turns ≡ 0)
  pub started : 0 < v.parts → (v.start ≡ Some k.start.value) × (v.passes ≡ k.passes) × (v.first ≡ k.first)

module _ {V E : Type 0} (stands : V → List E → V → Type 0) where
  -- The slot is at home, with a value that stands for the history, where no participant has the turn, and away where one has it.
  pub data Place (x : V) (history : List E) (serving : ℕ) (homes : List (Home (Parcel V E))) (views : List (View V E)) : Type 0 where
    home : (p : Parcel V E) → homes ≡ some p ∷ [] → Stands stands x history p → IsFree views → length history ≤ 4 * serving → Place x history serving homes views
    away : (i : ℕ) (v : View V E) → homes ≡ none ∷ [] → get_elem? views i ≡ some v → v.turn ≡ true → length history ≤ 4 * serving + v.told → v.told ≤ 4 → Place x history serving homes views

  -- The tickets out are the numbers from the one served up to the next one, each with its owner, and the places of the history stand each in the book of its maker.
  pub record IsLawful (k : About V) (s : State (Parcel V E) (View V E)) : Type 0 where
    pub history : List E
    pub serving : ℕ
    pub drawn : ℕ
    pub owner : ℕ → ℕ
    pub maker : ℕ → ℕ
    pub words : s.words ≡ k.passes ∷ drawn ∷ serving ∷ length history ∷ []
    pub order : serving ≤ drawn
    pub top : drawn ≤ most_turns
    pub parts : total parts_in s.views ≡ k.passes
    pub turns : k.first + total turns_in s.views ≡ drawn
    pub each : (i : ℕ) (v : View V E) → get_elem? s.views i ≡ some v → Fits k history serving drawn owner maker i v
    pub out : (t : ℕ) → serving ≤ t → t < drawn → (v : View V E) × (get_elem? s.views (owner t) ≡ some v) × (v.ticket ≡ Some t)
    pub made : (p : ℕ) → p < length history → (v : View V E) × (get_elem? s.views (maker p) ≡ some v) × Has p v.book
    pub place : Place k.start.value history serving s.homes s.views

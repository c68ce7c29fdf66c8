-- What of the rule stays when one view changes. The key lemmas are still (another participant), moves (the one itself), each_set, made_set, place_set, one_moves (one view changes) and alone (only its own fields move).
use Rattle.std.proofs.Common.{Bool, eqb, eq-eqb, ne_eqb, ◌≡◌, ◌≢◌, ℕ, zero, suc, ◌+◌, ◌*◌, ◌<◌, ◌≤◌, ⊎_elim, true, false, List, [], ◌∷◌, ◌++◌, length, set, refl, sym, ◌∙◌, ap, subst, arith}
use Rattle.std.specs.Prelude.{Option, Some, if◌then◌else◌}
use mathlib.Core.Option.{Option as Home, some, none, some-injective, some-ne-none}
use mathlib.Core.List.{IsPrefix}
use mathlib.Core.Logic.{dite}
use native.Mathlib.Decide.{ℕ_discrete}
use lib.ListN.{get_elem?}
use Rattle.atomic_table.specs.Table.{State}
use Rattle.atomic_table.proofs.Lists.{at_set, set_here, set_else}
use Rattle.turnstile.specs.declared.view.Parcel.{Parcel}
use Rattle.turnstile.specs.declared.view.View.{View}
use Rattle.turnstile.specs.declared.view.About.{About}
use Rattle.turnstile.specs.Lists.{Has}
use Rattle.turnstile.specs.Rule.{total, parts_in, turns_in, Stands, IsFree, Fits, Place, IsLawful}
use Rattle.turnstile.specs.Laws.{HasOneTurn}
use Rattle.turnstile.specs.Rule.Place.{home, away}
use Rattle.turnstile.proofs.ListsLemmas.{prefix_trans, prefix_length}

-- the same function but at n, where it gives i
abbrev pub pinned : (ℕ → ℕ) → ℕ → ℕ → ℕ → ℕ
pinned f n i t = if eqb t n then i else f t

pub pinned-here : (f : ℕ → ℕ) (n i t : ℕ) → t ≡ n → pinned f n i t ≡ i
pinned-here f n i t e = ap (λ (b : Bool). if b then i else f t) (eq-eqb t n e)

pub pinned-else : (f : ℕ → ℕ) (n i t : ℕ) → t ≢ n → pinned f n i t ≡ f t
pinned-else f n i t e = ap (λ (b : Bool). if b then i else f t) (ne_eqb t n e)

module _ {V E : Type 0} where
  -- sums over the participants

  pub total-set : (f : View V E → ℕ) (views : List (View V E)) (i : ℕ) (v w : View V E) → get_elem? views i ≡ some v → total f (set views i w) + f v ≡ total f views + f w
  total-set f [] i v w e = absurd (some-ne-none v (sym e))
  total-set f (x ∷ xs) zero v w e = let t = ap f (some-injective x v e) in omega arith
  total-set f (x ∷ xs) (suc i) v w e = let t = total-set f xs i v w e in omega arith

  pub total-append : (f : View V E → ℕ) (views more : List (View V E)) → total f (views ++ more) ≡ total f views + total f more
  total-append f [] more = omega arith
  total-append f (x ∷ xs) more = let t = total-append f xs more in omega arith

  pub total-at : (f : View V E → ℕ) (views : List (View V E)) (i : ℕ) (v : View V E) → get_elem? views i ≡ some v → f v ≤ total f views
  total-at f [] i v e = absurd (some-ne-none v (sym e))
  total-at f (x ∷ xs) zero v e = let t = ap f (some-injective x v e) in omega arith
  total-at f (x ∷ xs) (suc i) v e = let t = total-at f xs i v e in omega arith

  -- two participants stand for no more than all
  pub total-two : (f : View V E → ℕ) (views : List (View V E)) (i j : ℕ) (v w : View V E) → get_elem? views i ≡ some v → get_elem? views j ≡ some w → i ≢ j → f v + f w ≤ total f views
  total-two f [] i j v w e e' apart = absurd (some-ne-none v (sym e))
  total-two f (x ∷ xs) zero zero v w e e' apart = absurd (apart refl)
  total-two f (x ∷ xs) zero (suc j) v w e e' apart = let t = ap f (some-injective x v e) in let r = total-at f xs j w e' in omega arith
  total-two f (x ∷ xs) (suc i) zero v w e e' apart = let t = ap f (some-injective x w e') in let r = total-at f xs i v e in omega arith
  total-two f (x ∷ xs) (suc i) (suc j) v w e e' apart = let r = total-two f xs i j v w e e' (λ s. apart (ap suc s)) in omega arith

  -- where all others have none of it, one has all
  total-none : (f : View V E → ℕ) (views : List (View V E)) → ((j : ℕ) (u : View V E) → get_elem? views j ≡ some u → f u ≡ 0) → total f views ≡ 0
  total-none f [] none_of = refl
  total-none f (x ∷ xs) none_of = let h = none_of zero x refl in let t = total-none f xs (λ j u e. none_of (suc j) u e) in omega arith

  pub total-one : (f : View V E → ℕ) (views : List (View V E)) (i : ℕ) (v : View V E) → get_elem? views i ≡ some v → ((j : ℕ) (u : View V E) → j ≢ i → get_elem? views j ≡ some u → f u ≡ 0) → total f views ≡ f v
  total-one f [] i v e others = absurd (some-ne-none v (sym e))
  total-one f (x ∷ xs) zero v e others = let h = ap f (some-injective x v e) in let t = total-none f xs (λ j u e'. others (suc j) u (λ z. absurd (omega arith)) e') in omega arith
  total-one f (x ∷ xs) (suc i) v e others =
      let h = others zero x (λ z. absurd (omega arith)) refl in
      let t = total-one f xs i v e (λ j u far e'. others (suc j) u (λ z. far (omega arith)) e') in
      omega arith

  -- one view changes

  pub each_set : (P : ℕ → View V E → Type 0) (views : List (View V E)) (i : ℕ) (w : View V E) → P i w → ((j : ℕ) (u : View V E) → j ≢ i → get_elem? views j ≡ some u → P j u)
      → (j : ℕ) (u : View V E) → get_elem? (set views i w) j ≡ some u → P j u
  each_set P views i w mine others j u e = ⊎_elim
      (λ (t : (j ≡ i) × (w ≡ u)). subst (λ (x : ℕ × View V E). P x.0 x.1) (λ k. (sym t.0 k, t.1 k)) mine)
      (λ (t : (j ≢ i) × (get_elem? views j ≡ some u)). others j u t.0 t.1)
      (at_set views i j w u e)

  pub inside : (views : List (View V E)) (i : ℕ) (v : View V E) → get_elem? views i ≡ some v → i < length views
  inside [] i v e = absurd (some-ne-none v (sym e))
  inside (x ∷ xs) zero v e = omega arith
  inside (x ∷ xs) (suc i) v e = let t = inside xs i v e in omega arith

  pub one_view : (views : List (View V E)) (i : ℕ) (v w : View V E) → get_elem? views i ≡ some v → get_elem? views i ≡ some w → v ≡ w
  one_view views i v w e f = some-injective v w (sym e ∙ f)

  -- what one participant has is still there, where the view that changes keeps it
  pub kept_set : (P : View V E → Type 0) (views : List (View V E)) (i : ℕ) (v w : View V E) → get_elem? views i ≡ some v → (P v → P w)
      → (m : ℕ) → (u : View V E) × (get_elem? views m ≡ some u) × P u → (u : View V E) × (get_elem? (set views i w) m ≡ some u) × P u
  kept_set P views i v w at more m t = dite (ℕ_discrete m i)
      (λ e. (
        w,
        subst (λ (z : ℕ). get_elem? (set views i w) z ≡ some w) (sym e) (set_here views i w (inside views i v at)),
        more (subst P (one_view views i t.0 v (subst (λ (z : ℕ). get_elem? views z ≡ some t.0) e t.1) at) t.2),
      ))
      (λ other. (t.0, set_else views i m w other ∙ t.1, t.2))

  -- the book with the place p is still there, and so is the ticket t
  pub made_set : (views : List (View V E)) (i : ℕ) (v w : View V E) → get_elem? views i ≡ some v → ((p : ℕ) → Has p v.book → Has p w.book)
      → (m p : ℕ) → (u : View V E) × (get_elem? views m ≡ some u) × Has p u.book → (u : View V E) × (get_elem? (set views i w) m ≡ some u) × Has p u.book
  made_set views i v w at more m p t = kept_set (λ (u : View V E). Has p u.book) views i v w at (more p) m t

  pub out_set : (views : List (View V E)) (i : ℕ) (v w : View V E) → get_elem? views i ≡ some v → ((t : ℕ) → v.ticket ≡ Some t → w.ticket ≡ Some t)
      → (m t : ℕ) → (u : View V E) × (get_elem? views m ≡ some u) × (u.ticket ≡ Some t) → (u : View V E) × (get_elem? (set views i w) m ≡ some u) × (u.ticket ≡ Some t)
  out_set views i v w at more m t o = kept_set (λ (u : View V E). u.ticket ≡ Some t) views i v w at (more t) m o

  -- another participant still fits, where the history goes on, and what its ticket, its turn and its book say stays
  pub still : (k : About V) (history history' : List E) (serving serving' drawn drawn' : ℕ) (owner owner' maker maker' : ℕ → ℕ) (i : ℕ) (v : View V E)
      → IsPrefix history history' → drawn ≤ drawn'
      → (v.turn ≡ true → (serving' ≡ serving) × (history' ≡ history))
      → ((t : ℕ) → serving ≤ t → t < drawn → owner t ≡ i → (serving' ≤ t) × (owner' t ≡ i))
      → ((p : ℕ) → p < length history → maker p ≡ i → maker' p ≡ i)
      → Fits k history serving drawn owner maker i v → Fits k history' serving' drawn' owner' maker' i v
  still k history history' serving serving' drawn drawn' owner owner' maker maker' i v longer up turn ticket book f =
      let same = prefix_length history history' longer in
      let looked = f.looked_below in
      let read = f.drawn_below in
      let first = prefix_length v.seen history f.seen_first in record {
        ticketed = λ t e. let o = f.ticketed t e in let n = ticket t o.0 o.1 o.2 in let below : t < drawn = o.1 in (n.0, omega arith, n.1);
        turning = λ e. let o = f.turning e in let n = turn e in (o.0 ∙ ap (λ (z : ℕ). Some z) (sym n.0), o.1 ∙ sym n.1);
        seen_first = prefix_trans v.seen history history' f.seen_first longer;
        other_first = prefix_trans v.other history history' f.other_first longer;
        looked_below = omega arith;
        drawn_below = omega arith;
        booked = λ p h. let o = f.booked p h in let below : p < length v.seen = o.0 in (o.0, book p (omega arith) o.1);
        once = f.once;
        spent = f.spent;
        started = f.started;
      }

  -- the participant itself still fits, where its ticket, its turn and its numbers change: what it has seen and its book stay
  pub moves : {k : About V} {history : List E} {serving drawn : ℕ} {owner maker : ℕ → ℕ} {i : ℕ} {v : View V E} → Fits k history serving drawn owner maker i v
      → (serving' drawn' : ℕ) (owner' : ℕ → ℕ) (ticket : Option ℕ) (turn : Bool) (told turns read looked looks : ℕ)
      → ((t : ℕ) → ticket ≡ Some t → (serving' ≤ t) × (t < drawn') × (owner' t ≡ i))
      → (turn ≡ true → (ticket ≡ Some serving') × (v.seen ≡ history))
      → looked ≤ length history → read ≤ drawn' → (v.parts ≡ 0 → (v.book ≡ []) × (turn ≡ false) × (turns ≡ 0))
      → Fits k history serving' drawn' owner' maker i (record v { ticket = ticket; turn = turn; told = told; turns = turns; drawn = read; looked = looked; looks = looks })
  moves f serving' drawn' owner' ticket turn told turns read looked looks ticketed turning looked_below drawn_below spent = record {
    ticketed = ticketed;
    turning = turning;
    seen_first = f.seen_first;
    other_first = f.other_first;
    looked_below = looked_below;
    drawn_below = drawn_below;
    booked = f.booked;
    once = f.once;
    spent = spent;
    started = f.started;
  }

  module _ (stands : V → List E → V → Type 0) where
    -- the place of the slot, where the view that changes has the turn exactly as before
    pub place_set : (x : V) (history : List E) (serving : ℕ) (homes : List (Home (Parcel V E))) (views : List (View V E)) (i : ℕ) (v w : View V E) → get_elem? views i ≡ some v
        → w.turn ≡ v.turn → (v.turn ≡ true → w.told ≡ v.told) → Place stands x history serving homes views → Place stands x history serving homes (set views i w)
    place_set x history serving homes views i v w at turn told (home p is value free few) =
        home p is value (each_set (λ j (u : View V E). u.turn ≡ false) views i w (turn ∙ free i v at) (λ j u _ e. free j u e)) few
    place_set x history serving homes views i v w at turn told (away j u is there has few bound) = dite (ℕ_discrete j i)
        (λ e. let same : u ≡ v = one_view views i u v (subst (λ (z : ℕ). get_elem? views z ≡ some u) e there) at in
        let on : v.turn ≡ true = ap (λ (z : View V E). z.turn) (sym same) ∙ has in
        let told' : w.told ≡ u.told = told on ∙ ap (λ (z : View V E). z.told) (sym same) in
        away i w is (set_here views i w (inside views i v at)) (turn ∙ on) (omega arith) (omega arith))
        (λ other. away j u is (set_else views i j w other ∙ there) has few bound)

    -- one turn

    pub one_turn : (k : About V) (s : State (Parcel V E) (View V E)) → IsLawful stands k s → HasOneTurn s.views
    one_turn k s r i j v w at at' turn turn' =
        let f = r.each i v at in
        let g = r.each j w at' in
        sym ((f.ticketed r.serving (f.turning turn).0).2) ∙ (g.ticketed r.serving (g.turning turn').0).2

    -- the words stay, and one view changes, but for its ticket and what is summed up of it; the slot may go elsewhere
    pub one_moves : (k : About V) (s : State (Parcel V E) (View V E)) (r : IsLawful stands k s) (i : ℕ) (v w : View V E) → get_elem? s.views i ≡ some v
        → Fits k r.history r.serving r.drawn r.owner r.maker i w → w.parts ≡ v.parts → w.turns ≡ v.turns → w.ticket ≡ v.ticket → ((p : ℕ) → Has p v.book → Has p w.book)
        → (ws : List ℕ) → ws ≡ s.words → (homes : List (Home (Parcel V E))) → Place stands k.start.value r.history r.serving homes (set s.views i w)
        → IsLawful stands k record { words = ws; homes = homes; views = set s.views i w }
    one_moves k s r i v w at fits parts turns ticket book ws same homes place =
        let all = total-set parts_in s.views i v w at in
        let drew = total-set turns_in s.views i v w at in
        let sum = r.parts in
        let tickets = r.turns in record {
          history = r.history;
          serving = r.serving;
          drawn = r.drawn;
          owner = r.owner;
          maker = r.maker;
          words = same ∙ r.words;
          order = r.order;
          top = r.top;
          parts = omega arith;
          turns = omega arith;
          each = each_set (Fits k r.history r.serving r.drawn r.owner r.maker) s.views i w fits (λ j u _ e. r.each j u e);
          out = λ t low high. out_set s.views i v w at (λ _ e. ticket ∙ e) (r.owner t) t (r.out t low high);
          made = λ p below. made_set s.views i v w at book (r.maker p) p (r.made p below);
          place = place;
        }

    -- the words and the slot stay, and one view changes in its own fields alone
    pub alone : (k : About V) (s : State (Parcel V E) (View V E)) (r : IsLawful stands k s) (i : ℕ) (v w : View V E) → get_elem? s.views i ≡ some v
        → Fits k r.history r.serving r.drawn r.owner r.maker i w → w.parts ≡ v.parts → w.turns ≡ v.turns → w.ticket ≡ v.ticket → w.turn ≡ v.turn → w.told ≡ v.told → ((p : ℕ) → Has p v.book → Has p w.book)
        → (ws : List ℕ) → ws ≡ s.words → IsLawful stands k record { words = ws; homes = s.homes; views = set s.views i w }
    alone k s r i v w at fits parts turns ticket turn told book ws same =
        one_moves k s r i v w at fits parts turns ticket book ws same s.homes
        (place_set k.start.value r.history r.serving s.homes s.views i v w at turn (λ _. told) r.place)

    -- where no participant has the turn the slot is at home, and where one has it the slot is away

    home_of : (x : V) (history : List E) (serving : ℕ) (homes : List (Home (Parcel V E))) (views : List (View V E)) → IsFree views → Place stands x history serving homes views
        → (p : Parcel V E) × (homes ≡ some p ∷ []) × Stands stands x history p × (length history ≤ 4 * serving)
    home_of x history serving homes views free (home p is value _ few) = (p, is, value, few)
    home_of x history serving homes views free (away i v is there turn few bound) = let f = free i v there in absurd (cc)

    pub at_home : (k : About V) (s : State (Parcel V E) (View V E)) (r : IsLawful stands k s) → IsFree s.views
        → (p : Parcel V E) × (s.homes ≡ some p ∷ []) × Stands stands k.start.value r.history p × (length r.history ≤ 4 * r.serving)
    at_home k s r free = home_of k.start.value r.history r.serving s.homes s.views free r.place

    away_of : (x : V) (history : List E) (serving : ℕ) (homes : List (Home (Parcel V E))) (views : List (View V E)) → HasOneTurn views → (i : ℕ) (v : View V E) → get_elem? views i ≡ some v → v.turn ≡ true
        → Place stands x history serving homes views → (homes ≡ none ∷ []) × (length history ≤ 4 * serving + v.told) × (v.told ≤ 4)
    away_of x history serving homes views one i v at turn (home p is value free few) = let f = free i v at in absurd (cc)
    away_of x history serving homes views one i v at turn (away j u is there turn' few bound) =
        let e = one j i u v there at turn' turn in
        let same : u ≡ v = one_view views i u v (subst (λ (z : ℕ). get_elem? views z ≡ some u) e there) at in
        let told : u.told ≡ v.told = ap (λ (z : View V E). z.told) same in
        (is, omega arith, omega arith)

    pub from_home : (k : About V) (s : State (Parcel V E) (View V E)) (r : IsLawful stands k s) (i : ℕ) (v : View V E) → get_elem? s.views i ≡ some v → v.turn ≡ true
        → (s.homes ≡ none ∷ []) × (length r.history ≤ 4 * r.serving + v.told) × (v.told ≤ 4)
    from_home k s r i v at turn = away_of k.start.value r.history r.serving s.homes s.views (one_turn k s r) i v at turn r.place

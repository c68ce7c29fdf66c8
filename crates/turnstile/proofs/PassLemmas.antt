-- The steps on passes keep the rule: makes, splits and joins are what each owes, and ends is what a last state with all parts in one view shows.
use Rattle.std.proofs.Common.{◌≡◌, ◌≢◌, ℕ, zero, suc, ◌+◌, ◌<◌, ◌≤◌, ⊎_elim, false, List, [], ◌∷◌, ◌++◌, length, set, refl, sym, ◌∙◌, ap, subst, arith, le_refl}
use Rattle.std.proofs.Math.Nat.{max-le}
use Rattle.std.specs.Prelude.{Option, Some, None}
use Rattle.std.proofs.lemmas.List.{append-nil}
use mathlib.Core.Option.{Option as Home, some, some-injective, some-ne-none}
use mathlib.Core.List.{IsPrefix}
use mathlib.Core.Logic.{dite}
use native.Mathlib.Decide.{ℕ_discrete}
use lib.ListN.{get_elem?}
use Rattle.atomic_table.specs.Table.{State, opening, Final, Seen, Splits, Joins}
use Rattle.atomic_table.proofs.Lists.{set_here, set_else, at_longer, at_snoc}
use Rattle.turnstile.specs.declared.view.Parcel.{Parcel}
use Rattle.turnstile.specs.declared.view.View.{View}
use Rattle.turnstile.specs.declared.view.About.{About}
use Rattle.turnstile.specs.Lists.{Has, longer}
use Rattle.turnstile.specs.Rule.{most_turns, parts_in, turns_in, Stands, IsFree, Fits, Place, IsLawful}
use Rattle.turnstile.specs.Rule.Place.{home, away}
use Rattle.turnstile.specs.Steps.{newcomer, one_less, one_part, both_of, spent}
use Rattle.turnstile.proofs.ListsLemmas.{prefix_length, prefix_whole, longer_by, shorter_by, longer-left, longer-right, Has-left, Has-right, Has-append, IsOnce-append}
use Rattle.turnstile.proofs.RuleLemmas.{pinned, pinned-here, pinned-else, total-set, total-append, total-one, total-two, each_set, inside, one_view, made_set, out_set, still, place_set, at_home}

module _ {V E : Type 0} (stands : V → List E → V → Type 0) (k : About V) where
  abbrev Rule : State (Parcel V E) (View V E) → Type 0
  Rule = IsLawful stands k

  only : (first : View V E) (j : ℕ) (u : View V E) → j ≢ 0 → get_elem? (first ∷ []) j ≡ some u → ⊥
  only first zero u other e = other refl
  only first (suc j) u other e = some-ne-none u (sym e)

  -- a participant that has seen nothing and made nothing fits anywhere
  new_fits : (history : List E) (serving drawn : ℕ) (owner maker : ℕ → ℕ) (i : ℕ) (start : Option V) (passes first parts : ℕ) → (0 < parts → (start ≡ Some k.start.value) × (passes ≡ k.passes) × (first ≡ k.first))
      → Fits k history serving drawn owner maker i (newcomer start passes first parts)
  new_fits history serving drawn owner maker i start passes first parts started = record {
    ticketed = λ t e. absurd (cc);
    turning = λ e. absurd (cc);
    seen_first = (history, refl);
    other_first = (history, refl);
    looked_below = omega arith;
    drawn_below = omega arith;
    booked = λ p h. absurd h;
    once = tt;
    spent = λ _. (refl, refl, refl);
    started = started;
  }

  -- make: one participant stands for all, and the value is at home
  pub makes : (p : Parcel V E) → k.first ≤ most_turns → p.value ≡ Some k.start.value → stands k.start.value [] k.start.value
      → Rule (opening (k.passes ∷ k.first ∷ k.first ∷ 0 ∷ []) (p ∷ []) (newcomer (Some k.start.value) k.passes k.first k.passes))
  makes p top value begins = let drawn : ℕ = k.first in let first : View V E = newcomer (Some k.start.value) k.passes k.first k.passes in record {
    history = [];
    serving = drawn;
    drawn = drawn;
    owner = λ _. 0;
    maker = λ _. 0;
    words = refl;
    order = le_refl drawn;
    top = top;
    parts = omega arith;
    turns = omega arith;
    each = each_set (Fits k [] drawn drawn (λ _. 0) (λ _. 0)) (first ∷ []) 0 first (new_fits [] drawn drawn (λ _. 0) (λ _. 0) 0 (Some k.start.value) k.passes k.first k.passes (λ _. (refl, refl, refl)))
        (λ j u other e. absurd (only first j u other e));
    out = λ t low high. absurd (omega arith);
    made = λ q below. absurd (omega arith);
    place = home p refl (k.start.value, value, begins)
        (each_set (λ j (u : View V E). u.turn ≡ false) (first ∷ []) 0 first refl (λ j u other e. absurd (only first j u other e))) (omega arith);
  }

  -- split

  place_snoc : (x : V) (history : List E) (serving : ℕ) (homes : List (Home (Parcel V E))) (views : List (View V E)) (w : View V E) → w.turn ≡ false
      → Place stands x history serving homes views → Place stands x history serving homes (views ++ w ∷ [])
  place_snoc x history serving homes views w off (home p is value free few) =
      home p is value (λ j u e. ⊎_elim (λ old. free j u old) (λ (t : w ≡ u). subst (λ (z : View V E). z.turn ≡ false) t off) (at_snoc views w u j e)) few
  place_snoc x history serving homes views w off (away i v is there turn few bound) = away i v is (at_longer views (w ∷ []) i v there) turn few bound

  pub splits : (id : ℕ) (v : View V E) → 1 < v.parts → Splits Rule id v (one_less v) (one_part v)
  splits id v several s r at =
      let left : View V E = one_less v in
      let right : View V E = one_part v in
      let views : List (View V E) = set s.views id left in
      let f = r.each id v at in
      let begun = f.started (omega arith) in
      let all = total-set parts_in s.views id v left at in
      let drew = total-set turns_in s.views id v left at in
      let sum = r.parts in
      let tickets = r.turns in
      let two = total-append parts_in views (right ∷ []) in
      let two' = total-append turns_in views (right ∷ []) in record {
        history = r.history;
        serving = r.serving;
        drawn = r.drawn;
        owner = r.owner;
        maker = r.maker;
        words = r.words;
        order = r.order;
        top = r.top;
        parts = omega arith;
        turns = omega arith;
        each = λ j u e. ⊎_elim
            (λ old. each_set (Fits k r.history r.serving r.drawn r.owner r.maker) s.views id left
            record {
              ticketed = f.ticketed;
              turning = f.turning;
              seen_first = f.seen_first;
              other_first = f.other_first;
              looked_below = f.looked_below;
              drawn_below = f.drawn_below;
              booked = f.booked;
              once = f.once;
              spent = λ none_left. absurd (omega arith);
              started = λ _. begun;
            }
            (λ i x _ there. r.each i x there) j u old)
            (λ (t : right ≡ u). subst (λ (z : View V E). Fits k r.history r.serving r.drawn r.owner r.maker j z) t
            (new_fits r.history r.serving r.drawn r.owner r.maker j v.start v.passes v.first 1 (λ _. begun)))
            (at_snoc views right u j e);
        out = λ t low high. let o = out_set s.views id v left at (λ _ e. e) (r.owner t) t (r.out t low high) in (o.0, at_longer views (right ∷ []) (r.owner t) o.0 o.1, o.2);
        made = λ p below. let t = made_set s.views id v left at (λ q h. h) (r.maker p) p (r.made p below) in (t.0, at_longer views (right ∷ []) (r.maker p) t.0 t.1, t.2);
        place = place_snoc k.start.value r.history r.serving s.homes views right refl (place_set stands k.start.value r.history r.serving s.homes s.views id v left at refl (λ _. refl) r.place);
      }

  -- join

  both_fit : (history : List E) (serving drawn : ℕ) (owner maker : ℕ → ℕ) (id other : ℕ) (v w : View V E) → other ≢ id → v.turn ≡ false → 0 < v.parts
      → Fits k history serving drawn owner maker id v → Fits k history serving drawn owner maker other w
      → Fits k history serving drawn owner (λ p. pinned (λ m. m) other id (maker p)) id (both_of v w)
  both_fit history serving drawn owner maker id other v w apart free part f g =
      let seen : List E = longer v.seen w.seen in
      let left = longer-left v.seen w.seen in
      let right = longer-right v.seen w.seen in record {
        ticketed = f.ticketed;
        turning = λ e. absurd (cc);
        seen_first = longer_by (λ l. IsPrefix l history) v.seen w.seen f.seen_first g.seen_first;
        other_first = shorter_by (λ l. IsPrefix l history) v.seen w.seen f.seen_first g.seen_first;
        looked_below = max-le f.looked_below g.looked_below;
        drawn_below = max-le f.drawn_below g.drawn_below;
        booked = λ p h. ⊎_elim
            (λ old. let o = f.booked p old in let below : p < length v.seen = o.0 in (omega arith, pinned-else (λ m. m) other id (maker p) (λ z. apart (sym z ∙ o.1)) ∙ o.1))
            (λ new. let o = g.booked p new in let below : p < length w.seen = o.0 in (omega arith, pinned-here (λ m. m) other id (maker p) o.1))
            (Has-append p v.book w.book h);
        once = IsOnce-append v.book w.book f.once g.once (λ p mine its. apart (sym (g.booked p its).1 ∙ (f.booked p mine).1));
        spent = λ none_left. absurd (omega arith);
        started = λ _. f.started part;
      }

  pub joins : (id other : ℕ) (v w : View V E) → v.turn ≡ false → w.turn ≡ false → w.ticket ≡ None → 0 < v.parts → Joins Rule id v other w (both_of v w) spent
  joins id other v w free free' none_left part s r at apart there =
      let both : View V E = both_of v w in
      let views : List (View V E) = set s.views id both in
      let at' : get_elem? s.views other ≡ some w = sym (set_else s.views id other both apart) ∙ there in
      let f = r.each id v at in
      let g = r.each other w at' in
      let maker : ℕ → ℕ = λ p. pinned (λ m. m) other id (r.maker p) in
      let one = total-set parts_in s.views id v both at in
      let two = total-set parts_in views other w spent there in
      let one' = total-set turns_in s.views id v both at in
      let two' = total-set turns_in views other w spent there in
      let sum = r.parts in
      let tickets = r.turns in
      let here : get_elem? (set views other spent) id ≡ some both = set_else views other id spent (λ e. apart (sym e)) ∙ set_here s.views id both (inside s.views id v at) in record {
        history = r.history;
        serving = r.serving;
        drawn = r.drawn;
        owner = r.owner;
        maker = maker;
        words = r.words;
        order = r.order;
        top = r.top;
        parts = omega arith;
        turns = omega arith;
        each = each_set (Fits k r.history r.serving r.drawn r.owner maker) views other spent
            (new_fits r.history r.serving r.drawn r.owner maker other None 0 0 0 (λ none_left. absurd (omega arith)))
            (λ j u far e. each_set (λ j u. j ≢ other → Fits k r.history r.serving r.drawn r.owner maker j u) s.views id both
            (λ _. both_fit r.history r.serving r.drawn r.owner r.maker id other v w apart free part f g)
            (λ j u near e far. still k r.history r.history r.serving r.serving r.drawn r.drawn r.owner r.owner r.maker maker j u ([], append-nil r.history) (le_refl r.drawn)
            (λ _. (refl, refl)) (λ t low high own. (low, own))
            (λ p below own. pinned-else (λ m. m) other id (r.maker p) (λ z. far (sym own ∙ z)) ∙ own) (r.each j u e))
            j u e far);
        out = λ t low high.
            let o = out_set s.views id v both at (λ _ e. e) (r.owner t) t (r.out t low high) in
            let far : r.owner t ≢ other = λ z.
            let same : o.0 ≡ w = one_view views other o.0 w (subst (λ (m : ℕ). get_elem? views m ≡ some o.0) z o.1) there in
            let clash : Some t ≡ None = sym o.2 ∙ (ap (λ (u : View V E). u.ticket) same ∙ none_left) in
            absurd (cc) in
            (o.0, set_else views other (r.owner t) spent far ∙ o.1, o.2);
        made = λ p below. let t = r.made p below in dite (ℕ_discrete (r.maker p) other)
            (λ is. (
              both,
              subst (λ (z : ℕ). get_elem? (set views other spent) z ≡ some both) (sym (pinned-here (λ m. m) other id (r.maker p) is)) here,
              Has-right p v.book w.book (subst (λ (z : View V E). Has p z.book) (one_view s.views other t.0 w (subst (λ (z : ℕ). get_elem? s.views z ≡ some t.0) is t.1) at') t.2),
            ))
            (λ far.
            let u = made_set s.views id v both at (λ q h. Has-left q v.book w.book h) (r.maker p) p t in
            (u.0, subst (λ (z : ℕ). get_elem? (set views other spent) z ≡ some u.0) (sym (pinned-else (λ m. m) other id (r.maker p) far)) (set_else views other (r.maker p) spent far ∙ u.1), u.2));
        place = place_set stands k.start.value r.history r.serving s.homes views other w spent there (sym free') (λ on. absurd (cc))
            (place_set stands k.start.value r.history r.serving s.homes s.views id v both at refl (λ _. refl) r.place);
      }

  -- close

  -- where one participant has all the parts, no other has the turn or a book, so its list is the whole history, its book has each place, and the value is at home
  whole_of : (s : State (Parcel V E) (View V E)) (r : Rule s) (id : ℕ) (v : View V E) → get_elem? s.views id ≡ some v → v.parts ≡ k.passes
      → (j : ℕ) (u : View V E) → j ≢ id → get_elem? s.views j ≡ some u → (u.book ≡ []) × (u.turn ≡ false) × (u.turns ≡ 0)
  whole_of s r id v at all j u other there =
      let two = total-two parts_in s.views id j v u at there (λ e. other (sym e)) in
      let sum = r.parts in
      let tickets = r.turns in
      (r.each j u there).spent (omega arith)

  book_of_all : (s : State (Parcel V E) (View V E)) (r : Rule s) (id : ℕ) (v : View V E) → get_elem? s.views id ≡ some v → v.parts ≡ k.passes
      → (p : ℕ) → p < length r.history → Has p v.book
  book_of_all s r id v at all p below =
      let t = r.made p below in
      dite (ℕ_discrete (r.maker p) id)
      (λ is. subst (λ (z : View V E). Has p z.book) (one_view s.views id t.0 v (subst (λ (z : ℕ). get_elem? s.views z ≡ some t.0) is t.1) at) t.2)
      (λ far. absurd (subst (Has p) (whole_of s r id v at all (r.maker p) t.0 far t.1).0 t.2))

  -- a list that has every place of the history is no shorter
  seen_all : (n m : ℕ) → ((p : ℕ) → p < n → p < m) → n ≤ m
  seen_all zero m every = omega arith
  seen_all (suc n) m every = let last = every n (omega arith) in omega arith

  pub knows_all : (s : State (Parcel V E) (View V E)) (r : Rule s) (id : ℕ) (v : View V E) → get_elem? s.views id ≡ some v → v.parts ≡ k.passes
      → (v.seen ≡ r.history) × ((p : ℕ) → p < length r.history → Has p v.book)
  knows_all s r id v at all =
      let f = r.each id v at in
      let book = book_of_all s r id v at all in
      (prefix_whole v.seen r.history f.seen_first (seen_all (length r.history) (length v.seen) (λ p below. (f.booked p (book p below)).0)), book)

  -- no other drew a ticket, so it drew all
  pub drew_all : (s : State (Parcel V E) (View V E)) (r : Rule s) (id : ℕ) (v : View V E) → get_elem? s.views id ≡ some v → v.parts ≡ k.passes
      → (k.first + v.turns ≡ r.drawn) × (v.drawn ≤ k.first + v.turns)
  drew_all s r id v at all =
      let one = total-one turns_in s.views id v at (λ j u other there. (whole_of s r id v at all j u other there).2) in
      let tickets = r.turns in
      let below = (r.each id v at).drawn_below in
      (omega arith, omega arith)

  pub ends : (id : ℕ) (v : View V E) (ws : List ℕ) (xs : List (Parcel V E)) (q : Parcel V E) → v.turn ≡ false → 0 < v.parts → v.parts ≡ v.passes
      → Final (Seen Rule id v) ws xs → get_elem? xs 0 ≡ some q
      → ((x : V) × (v.start ≡ Some x) × Stands stands x v.seen q) × ((p : ℕ) → p < length v.seen → Has p v.book)
  ends id v ws xs q free part all end here =
      let s = end.0 in
      let r = end.1.0 in
      let at = end.1.1 in
      let f = r.each id v at in
      let begun = f.started part in
      let every = all ∙ begun.1 in
      let empty : IsFree s.views = λ j u e. dite (ℕ_discrete j id)
      (λ is. subst (λ (z : View V E). z.turn ≡ false) (one_view s.views id v u at (subst (λ (z : ℕ). get_elem? s.views z ≡ some u) is e)) free)
      (λ other. (whole_of s r id v at every j u other e).1) in
      let h = at_home stands k s r empty in
      let is : h.0 ≡ q = some-injective h.0 q (sym (end.4 0 h.0 (ap (λ hs. get_elem? hs 0) h.1)) ∙ here) in
      let first = prefix_length v.seen r.history f.seen_first in
      let known = knows_all s r id v at every in
      let whole : v.seen ≡ r.history = known.0 in
      let y = h.2.0 in (
        (k.start.value, begun.0, (y, ap (λ (z : Parcel V E). z.value) (sym is) ∙ h.2.1, subst (λ (z : List E). stands k.start.value z y) (sym whole) h.2.2)),
        λ p below. known.1 p (omega arith),
      )

-- The steps that begin and end a turn keep the rule: looks and releases are what each owes.
use Rattle.std.proofs.Common.{◌≡◌, ◌≢◌, ℕ, ◌+◌, ◌*◌, ◌%◌, ◌^◌, ◌<◌, ◌≤◌, true, false, List, [], ◌∷◌, length, set, get_or, refl, sym, ◌∙◌, ap, subst, arith, le_refl}
use Rattle.std.proofs.Math.Nat.{mod-eq_of_lt}
use Rattle.std.specs.Prelude.{Option, Some, None}
use mathlib.Core.Option.{Option as Home, some, none}
use mathlib.Core.Logic.{dite}
use native.Mathlib.Decide.{ℕ_discrete}
use lib.ListN.{get_elem?}
use lib.Seq.{set-get_or}
use Rattle.atomic_table.specs.Table.{State, keeps, takes, gives, put_back, Allows}
use Rattle.atomic_table.proofs.Lists.{set_here, set_else}
use Rattle.turnstile.specs.declared.view.Parcel.{Parcel}
use Rattle.turnstile.specs.declared.view.View.{View}
use Rattle.turnstile.specs.declared.view.About.{About}
use Rattle.turnstile.specs.Rule.{parts_in, turns_in, IsFree, Fits, IsLawful}
use Rattle.turnstile.specs.Rule.Place.{home, away}
use Rattle.turnstile.specs.Steps.{Participant, Looked, Released}
use Rattle.turnstile.proofs.ListsLemmas.{prefix_refl, prefix_length}
use Rattle.turnstile.proofs.RuleLemmas.{total-set, each_set, inside, one_view, made_set, still, one_turn, moves, one_moves, alone, at_home, from_home}
use Rattle.std.proofs.lemmas.Bool.{false_from_ne_true}

dec_ticket : (o : Option ℕ) (n : ℕ) → Dec (o ≡ Some n)
dec_ticket None n = no (λ e. cc)
dec_ticket (Some t) n = dite (ℕ_discrete t n) (λ e. yes (ap (λ (z : ℕ). Some z) e)) (λ e. no (λ f. e (cc)))

module _ {V E : Type 0} (stands : V → List E → V → Type 0) (k : About V) where
  abbrev Rule : State (Parcel V E) (View V E) → Type 0
  Rule = IsLawful stands k

  -- look, where the ticket is served: no other has the turn
  free_for : (s : State (Parcel V E) (View V E)) (r : Rule s) (id : ℕ) (v : View V E) → get_elem? s.views id ≡ some v → v.turn ≡ false → v.ticket ≡ Some r.serving → IsFree s.views
  free_for s r id v at none_yet ticket j u there = false_from_ne_true u.turn (λ turn.
      let g = r.each j u there in
      let f = r.each id v at in
      let e : j ≡ id = sym (g.ticketed r.serving (g.turning turn).0).2 ∙ (f.ticketed r.serving ticket).2 in
      let same : u ≡ v = one_view s.views id u v (subst (λ (z : ℕ). get_elem? s.views z ≡ some u) e there) at in
      let off : u.turn ≡ v.turn = ap (λ (z : View V E). z.turn) same in
      absurd (cc))

  -- the slot goes to the participant whose ticket is served, which then has seen all
  gained : (s : State (Parcel V E) (View V E)) (r : Rule s) (id : ℕ) (v : View V E) → get_elem? s.views id ≡ some v → 0 < v.parts → v.ticket ≡ Some r.serving
      → (p : Parcel V E) → s.homes ≡ some p ∷ [] → length r.history ≤ 4 * r.serving → (ws : List ℕ) → ws ≡ s.words
      → Rule record { words = ws; homes = set s.homes 0 none; views = set s.views id (record v { turn = true; told = 0; seen = r.history }) }
  gained s r id v at part ticket p is few ws same =
      let w : View V E = record v { turn = true; told = 0; seen = r.history } in
      let f = r.each id v at in
      let first = prefix_length v.seen r.history f.seen_first in
      let fits : Fits k r.history r.serving r.drawn r.owner r.maker id w = record {
        ticketed = f.ticketed;
        turning = λ _. (ticket, refl);
        seen_first = prefix_refl r.history;
        other_first = f.other_first;
        looked_below = f.looked_below;
        drawn_below = f.drawn_below;
        booked = λ p h. let o = f.booked p h in let below : p < length v.seen = o.0 in (omega arith, o.1);
        once = f.once;
        spent = λ none_left. absurd (omega arith);
        started = f.started;
      } in
      one_moves stands k s r id v w at fits refl refl refl (λ q h. h) ws same (set s.homes 0 none)
      (away id w (ap (λ hs. set hs 0 none) is) (set_here s.views id w (inside s.views id v at)) refl (omega arith) (omega arith))

  -- look: whoever's ticket is served gets the turn
  pub looks : (slots id : ℕ) (me : Participant V E) → me.0.turn ≡ false → 0 < me.0.parts
      → Allows Rule slots id me 2 (λ n. n) (Looked stands me)
  looks slots id me free part s r _ at _ =
      let n : ℕ = get_or s.words 2 0 in
      let is : n ≡ r.serving = ap (λ ws. get_or ws 2 0) r.words in
      let f = r.each id me.0 at in
      let ws : List ℕ = set s.words 2 n in
      dite (dec_ticket me.0.ticket n)
      (λ hit.
      let ticket : me.0.ticket ≡ Some r.serving = hit ∙ ap (λ (z : ℕ). Some z) is in
      let h = at_home stands k s r (free_for s r id me.0 at free ticket) in (
        record me.0 { turn = true; told = 0; seen = r.history },
        takes 0 h.0,
        ap (λ hs. get_elem? hs 0) h.1,
        gained s r id me.0 at part ticket h.0 h.1 h.3 ws (set-get_or s.words 2 0),
        ((λ _. (k.start.value, h.0, (f.started part).0, refl, h.2, f.seen_first)), λ miss. absurd (miss hit)),
      ))
      (λ miss. (
        me.0,
        keeps,
        tt,
        alone stands k s r id me.0 me.0 at f refl refl refl refl refl (λ p q. q) ws (set-get_or s.words 2 0),
        ((λ hit. absurd (miss hit)), λ _. refl),
      ))

  -- release: the next ticket is served, and the slot is home with a value that stands for the history
  released : (s : State (Parcel V E) (View V E)) (r : Rule s) (id : ℕ) (v : View V E) (q : Parcel V E) (x y : V) → get_elem? s.views id ≡ some v → v.turn ≡ true → 0 < v.parts
      → v.start ≡ Some x → q.value ≡ Some y → stands x v.seen y → (ws : List ℕ) → ws ≡ set s.words 2 (r.serving + 1) → (hs : List (Home (Parcel V E))) → hs ≡ set s.homes 0 (some q)
      → Rule record { words = ws; homes = hs; views = set s.views id (record v { ticket = None; turn = false; told = 0 }) }
  released s r id v q x y at turn part start value stood ws set_words hs set_homes =
      let w : View V E = record v { ticket = None; turn = false; told = 0 } in
      let f = r.each id v at in
      let t = f.turning turn in
      let own = f.ticketed r.serving t.0 in
      let below : r.serving < r.drawn = own.1 in
      let slot = from_home stands k s r id v at turn in
      let few : length r.history ≤ 4 * r.serving + v.told = slot.1 in
      let bound : v.told ≤ 4 = slot.2 in
      let all = total-set parts_in s.views id v w at in
      let drew = total-set turns_in s.views id v w at in
      let sum = r.parts in
      let tickets = r.turns in
      let apart : (j : ℕ) (u : View V E) → j ≢ id → get_elem? s.views j ≡ some u → u.turn ≡ true → ⊥ = λ j u other e on. other (one_turn stands k s r j id u v e at on turn) in
      let began : Some x ≡ Some k.start.value = sym start ∙ (f.started part).0 in
      let same : x ≡ k.start.value = cc in record {
        history = r.history;
        serving = r.serving + 1;
        drawn = r.drawn;
        owner = r.owner;
        maker = r.maker;
        words = set_words ∙ ap (λ ws. set ws 2 (r.serving + 1)) r.words;
        order = omega arith;
        top = r.top;
        parts = omega arith;
        turns = omega arith;
        each = each_set (Fits k r.history (r.serving + 1) r.drawn r.owner r.maker) s.views id w
            (moves f (r.serving + 1) r.drawn r.owner None false 0 v.turns v.drawn v.looked v.looks
            (λ t e. absurd (cc)) (λ e. absurd (cc)) f.looked_below f.drawn_below (λ none_left. absurd (omega arith)))
            (λ j u other e. still k r.history r.history r.serving (r.serving + 1) r.drawn r.drawn r.owner r.owner r.maker r.maker j u (prefix_refl r.history) (le_refl r.drawn)
            (λ on. absurd (apart j u other e on))
            (λ t low high its. dite (ℕ_discrete t r.serving)
            (λ z. absurd (other (sym its ∙ (ap r.owner z ∙ own.2))))
            (λ z. (omega arith, its)))
            (λ p _ its. its) (r.each j u e));
        out = λ n low high.
            let o = r.out n (omega arith) high in
            let far : r.owner n ≢ id = λ z.
            let same : o.0 ≡ v = one_view s.views id o.0 v (subst (λ (m : ℕ). get_elem? s.views m ≡ some o.0) z o.1) at in
            let both : Some n ≡ Some r.serving = sym o.2 ∙ (ap (λ (u : View V E). u.ticket) same ∙ t.0) in
            let is : n ≡ r.serving = cc in
            omega arith in
            (o.0, set_else s.views id (r.owner n) w far ∙ o.1, o.2);
        made = λ p before. made_set s.views id v w at (λ q h. h) (r.maker p) p (r.made p before);
        place = home q (set_homes ∙ ap (λ hs. set hs 0 (some q)) slot.0)
            (y, value, subst (λ (z : V × List E). stands z.0 z.1 y) (λ i. (same i, t.1 i)) stood)
            (each_set (λ j (u : View V E). u.turn ≡ false) s.views id w refl (λ j u other e. false_from_ne_true u.turn (λ on. apart j u other e on)))
            (omega arith);
      }

  pub releases : (slots id : ℕ) (me : Participant V E) (q : Parcel V E) (x y : V) → me.0.turn ≡ true → 0 < me.0.parts → me.1 ≡ (0, q) ∷ []
      → me.0.start ≡ Some x → q.value ≡ Some y → stands x me.0.seen y
      → Allows Rule slots id me 2 (λ n. (n + 1) % 2 ^ 64) (Released me)
  releases slots id me q x y turn part held start value stood s r _ at _ =
      let n : ℕ = get_or s.words 2 0 in
      let is : n ≡ r.serving = ap (λ ws. get_or ws 2 0) r.words in
      let f = r.each id me.0 at in
      let own = f.ticketed r.serving (f.turning turn).0 in
      let below : r.serving < r.drawn = own.1 in
      let top = r.top in
      let fits : n + 1 < 2 ^ 64 = omega arith in
      let next : (n + 1) % 2 ^ 64 ≡ r.serving + 1 = mod-eq_of_lt fits ∙ ap (λ (z : ℕ). z + 1) is in (
        record me.0 { ticket = None; turn = false; told = 0 },
        gives,
        tt,
        released s r id me.0 q x y at turn part start value stood (set s.words 2 ((n + 1) % 2 ^ 64)) (ap (set s.words 2) next) (put_back s.homes me.1) (ap (put_back s.homes) held),
        refl,
      )

-- The step that draws a ticket keeps the rule: draws is what it owes.
use Rattle.std.proofs.Common.{◌≡◌, ℕ, ◌+◌, ◌<◌, Bool, false, List, set, get_or, refl, sym, ◌∙◌, ap, subst, arith, eqb, eq-eqb, ne_eqb}
use Rattle.std.specs.Prelude.{Some, None}
use mathlib.Core.Option.{some}
use mathlib.Core.Logic.{dite}
use native.Mathlib.Decide.{ℕ_discrete}
use lib.ListN.{get_elem?}
use lib.Seq.{set-get_or}
use prog.Atomic.{either}
use Rattle.atomic_table.specs.Table.{State, keeps, Allows}
use Rattle.atomic_table.proofs.Lists.{set_here}
use Rattle.turnstile.specs.declared.view.Parcel.{Parcel}
use Rattle.turnstile.specs.declared.view.View.{View}
use Rattle.turnstile.specs.declared.view.About.{About}
use Rattle.turnstile.specs.Rule.{most_turns, parts_in, turns_in, Fits, IsLawful}
use Rattle.turnstile.specs.Steps.{Participant, Drew}
use Rattle.turnstile.proofs.ListsLemmas.{prefix_refl}
use Rattle.turnstile.proofs.RuleLemmas.{pinned, pinned-here, pinned-else, total-set, total-at, each_set, inside, made_set, out_set, still, place_set, moves, alone}

module _ {V E : Type 0} (stands : V → List E → V → Type 0) (k : About V) where
  abbrev Rule : State (Parcel V E) (View V E) → Type 0
  Rule = IsLawful stands k

  -- draw, where the expected number was there
  drawn_one : (s : State (Parcel V E) (View V E)) (r : Rule s) (id guess next : ℕ) (v : View V E) → guess < most_turns → next ≡ guess + 1 → v.ticket ≡ None → v.turn ≡ false → 0 < v.parts → get_elem? s.views id ≡ some v → r.drawn ≡ guess
      → Rule record { words = set s.words 1 next; homes = s.homes; views = set s.views id (record v { ticket = Some guess; turns = v.turns + 1; drawn = guess }) }
  drawn_one s r id guess next v under up none_yet free part at hit =
      let w : View V E = record v { ticket = Some guess; turns = v.turns + 1; drawn = guess } in
      let f = r.each id v at in
      let order = r.order in
      let all = total-set parts_in s.views id v w at in
      let drew = total-set turns_in s.views id v w at in
      let sum = r.parts in
      let tickets = r.turns in
      let owner : ℕ → ℕ = pinned r.owner guess id in record {
        history = r.history;
        serving = r.serving;
        drawn = next;
        owner = owner;
        maker = r.maker;
        words = ap (λ ws. set ws 1 next) r.words;
        order = omega arith;
        top = omega arith;
        parts = omega arith;
        turns = omega arith;
        each = each_set (Fits k r.history r.serving next owner r.maker) s.views id w
            (moves f r.serving next owner (Some guess) v.turn v.told (v.turns + 1) guess v.looked v.looks
            (λ t e. let same : t ≡ guess = cc in (omega arith, omega arith, pinned-here r.owner guess id t same)) (λ e. absurd (cc)) f.looked_below (omega arith) (λ none_left. absurd (omega arith)))
            (λ j u other e. still k r.history r.history r.serving r.serving r.drawn next r.owner owner r.maker r.maker j u (prefix_refl r.history) (omega arith) (λ _. (refl, refl))
            (λ t low high own. (low, pinned-else r.owner guess id t (λ z. omega arith) ∙ own)) (λ p _ own. own) (r.each j u e));
        out = λ t low high. dite (ℕ_discrete t guess)
            (λ e. (w, subst (λ (z : ℕ). get_elem? (set s.views id w) z ≡ some w) (sym (pinned-here r.owner guess id t e)) (set_here s.views id w (inside s.views id v at)), ap (λ (z : ℕ). Some z) (sym e)))
            (λ e. subst (λ (z : ℕ). (u : View V E) × (get_elem? (set s.views id w) z ≡ some u) × (u.ticket ≡ Some t)) (sym (pinned-else r.owner guess id t e))
            (out_set s.views id v w at (λ _ has. absurd (cc)) (r.owner t) t (r.out t low (omega arith))));
        made = λ p below. made_set s.views id v w at (λ q h. h) (r.maker p) p (r.made p below);
        place = place_set stands k.start.value r.history r.serving s.homes s.views id v w at refl (λ _. refl) r.place;
      }

  -- draw, where another number was there
  drawn_none : (s : State (Parcel V E) (View V E)) (r : Rule s) (id n : ℕ) (v : View V E) → n ≡ r.drawn → get_elem? s.views id ≡ some v → (ws : List ℕ) → ws ≡ s.words
      → Rule record { words = ws; homes = s.homes; views = set s.views id (record v { drawn = n }) }
  drawn_none s r id n v is at ws same =
      let f = r.each id v at in
      alone stands k s r id v (record v { drawn = n }) at
      (moves f r.serving r.drawn r.owner v.ticket v.turn v.told v.turns n v.looked v.looks f.ticketed f.turning f.looked_below (omega arith) f.spent)
      refl refl refl refl refl (λ p h. h) ws same

  pub draws : (slots id guess next : ℕ) (me : Participant V E) → guess < most_turns → next ≡ guess + 1 → me.0.ticket ≡ None → me.0.turn ≡ false → 0 < me.0.parts
      → Allows Rule slots id me 1 (λ n. either (eqb n guess) next n) (Drew guess me)
  draws slots id guess next me under up none_yet free part s r _ at _ =
      let n : ℕ = get_or s.words 1 0 in
      let is : n ≡ r.drawn = ap (λ ws. get_or ws 1 0) r.words in
      let top = r.top in
      let f = r.each id me.0 at in
      let read = f.drawn_below in
      let begun = (f.started part).2 in
      let mine = total-at turns_in s.views id me.0 at in
      let tickets = r.turns in
      dite (ℕ_discrete n guess)
      (λ hit. (
        record me.0 { ticket = Some guess; turns = me.0.turns + 1; drawn = guess },
        keeps,
        tt,
        subst (λ (b : Bool). Rule record { words = set s.words 1 (either b next n); homes = s.homes; views = set s.views id (record me.0 { ticket = Some guess; turns = me.0.turns + 1; drawn = guess }) }) (sym (eq-eqb n guess hit))
            (drawn_one s r id guess next me.0 under up none_yet free part at (omega arith)),
        (omega arith, omega arith, omega arith, (λ _. ap (λ (z : ℕ). (record me.0 { ticket = Some z; turns = me.0.turns + 1; drawn = z }, me.1)) (sym hit)), λ miss. absurd (miss hit)),
      ))
      (λ miss. (
        record me.0 { drawn = n },
        keeps,
        tt,
        drawn_none s r id n me.0 is at (set s.words 1 (either (eqb n guess) next n))
            (ap (λ (b : Bool). set s.words 1 (either b next n)) (ne_eqb n guess miss) ∙ set-get_or s.words 1 0),
        (omega arith, omega arith, omega arith, (λ hit. absurd (miss hit)), λ _. refl),
      ))

-- The steps on the history keep the rule: publishes, counts, glances and totals are what each owes.
use Rattle.std.proofs.Common.{◌≡◌, ◌≢◌, ℕ, ◌+◌, ◌*◌, ◌%◌, ◌^◌, ◌<◌, ◌≤◌, ⊎_elim, inl, true, List, [], ◌∷◌, ◌++◌, length, length-append, set, get_or, refl, sym, ◌∙◌, ap, subst, arith, le_refl, append_assoc}
use Rattle.std.proofs.Math.Nat.{mod-eq_of_lt}
use mathlib.Core.Option.{some}
use mathlib.Core.List.{IsPrefix}
use mathlib.Core.Logic.{dite}
use native.Mathlib.Decide.{ℕ_discrete}
use lib.ListN.{get_elem?}
use lib.Seq.{set-get_or}
use Rattle.atomic_table.specs.Table.{State, keeps, Allows}
use Rattle.atomic_table.proofs.Lists.{set_here}
use Rattle.turnstile.specs.declared.view.Parcel.{Parcel}
use Rattle.turnstile.specs.declared.view.View.{View}
use Rattle.turnstile.specs.declared.view.About.{About}
use Rattle.turnstile.specs.Lists.{Has}
use Rattle.turnstile.specs.Rule.{parts_in, turns_in, Fits, IsLawful}
use Rattle.turnstile.specs.Rule.Place.{away}
use Rattle.turnstile.specs.Steps.{Participant, carried_entries, Published, Counted, Glanced, Totalled}
use Rattle.turnstile.proofs.ListsLemmas.{prefix_refl, prefix_length, prefix_between, Has-left, Has-right, Has-append, IsOnce-append}
use Rattle.turnstile.proofs.PassLemmas.{drew_all}
use Rattle.turnstile.proofs.RuleLemmas.{pinned, pinned-here, pinned-else, total-set, total-at, each_set, inside, made_set, out_set, still, one_turn, moves, alone, from_home}

module _ {V E : Type 0} (stands : V → List E → V → Type 0) (k : About V) where
  abbrev Rule : State (Parcel V E) (View V E) → Type 0
  Rule = IsLawful stands k

  goes_past : (xs ys zs seen more : List E) → xs ++ ys ≡ zs → seen ≡ zs → xs ++ (ys ++ more) ≡ seen ++ more
  goes_past xs ys zs seen more e f = sym (append_assoc xs ys more) ∙ ap (λ l. l ++ more) (e ∙ sym f)

  -- publish: the entry stands at the end of the history, in the book of the one who has the turn
  published : (s : State (Parcel V E) (View V E)) (r : Rule s) (id n : ℕ) (v : View V E) (more : List E) → length more ≡ 1 → n ≡ length r.history → get_elem? s.views id ≡ some v → v.turn ≡ true → 0 < v.parts → v.told < 4
      → (ws : List ℕ) → ws ≡ set s.words 3 (length r.history + 1)
      → Rule record { words = ws; homes = s.homes; views = set s.views id (record v { told = v.told + 1; seen = v.seen ++ more; book = v.book ++ n ∷ [] }) }
  published s r id n v more one is at turn part room ws set_words =
      let w : View V E = record v { told = v.told + 1; seen = v.seen ++ more; book = v.book ++ n ∷ [] } in
      let f = r.each id v at in
      let t = f.turning turn in
      let history : List E = v.seen ++ more in
      let maker : ℕ → ℕ = pinned r.maker n id in
      let slot = from_home stands k s r id v at turn in
      let few : length r.history ≤ 4 * r.serving + v.told = slot.1 in
      let whole : length v.seen ≡ length r.history = ap length t.1 in
      let longer : length history ≡ length r.history + 1 = omega (arith, length-append v.seen more) in
      let goes_on : IsPrefix r.history history = subst (λ (z : List E). IsPrefix z history) t.1 (more, refl) in
      let looked = f.looked_below in
      let all = total-set parts_in s.views id v w at in
      let drew = total-set turns_in s.views id v w at in
      let sum = r.parts in
      let tickets = r.turns in
      let apart : (j : ℕ) (u : View V E) → j ≢ id → get_elem? s.views j ≡ some u → u.turn ≡ true → ⊥ = λ j u other e on. other (one_turn stands k s r j id u v e at on turn) in
      let other_first = f.other_first in record {
        history = history;
        serving = r.serving;
        drawn = r.drawn;
        owner = r.owner;
        maker = maker;
        words = set_words ∙ (ap (λ ws. set ws 3 (length r.history + 1)) r.words ∙ ap (λ (z : ℕ). k.passes ∷ r.drawn ∷ r.serving ∷ z ∷ []) (sym longer));
        order = r.order;
        top = r.top;
        parts = omega arith;
        turns = omega arith;
        each = each_set (Fits k history r.serving r.drawn r.owner maker) s.views id w
            record {
              ticketed = f.ticketed;
              turning = λ _. (t.0, refl);
              seen_first = prefix_refl history;
              other_first = (other_first.0 ++ more, goes_past v.other other_first.0 r.history v.seen more other_first.1 t.1);
              looked_below = omega arith;
              drawn_below = f.drawn_below;
              booked = λ p h. ⊎_elim
                  (λ (old : Has p v.book). let o = f.booked p old in let below : p < length v.seen = o.0 in (omega arith, pinned-else r.maker n id p (λ z. omega arith) ∙ o.1))
                  (λ (new : Has p (n ∷ [])). let here : p ≡ n = ⊎_elim (λ (z : p ≡ n). z) (λ (z : ⊥). absurd z) new in (omega arith, pinned-here r.maker n id p here))
                  (Has-append p v.book (n ∷ []) h);
              once = IsOnce-append v.book (n ∷ []) f.once ((λ h. h), tt)
                  (λ p old new. let o = f.booked p old in let below : p < length v.seen = o.0 in let here : p ≡ n = ⊎_elim (λ (z : p ≡ n). z) (λ (z : ⊥). absurd z) new in omega arith);
              spent = λ none_left. absurd (omega arith);
              started = f.started;
            }
            (λ j u other e. still k r.history history r.serving r.serving r.drawn r.drawn r.owner r.owner r.maker maker j u goes_on (le_refl r.drawn)
            (λ on. absurd (apart j u other e on))
            (λ t low high own. (low, own))
            (λ p below own. pinned-else r.maker n id p (λ z. omega arith) ∙ own) (r.each j u e));
        out = λ t low high. out_set s.views id v w at (λ _ e. e) (r.owner t) t (r.out t low high);
        made = λ p below. dite (ℕ_discrete p n)
            (λ here. (w, subst (λ (z : ℕ). get_elem? (set s.views id w) z ≡ some w) (sym (pinned-here r.maker n id p here)) (set_here s.views id w (inside s.views id v at)), Has-right p v.book (n ∷ []) (inl here)))
            (λ before. subst (λ (z : ℕ). (u : View V E) × (get_elem? (set s.views id w) z ≡ some u) × Has p u.book) (sym (pinned-else r.maker n id p before))
            (made_set s.views id v w at (λ q h. Has-left q v.book (n ∷ []) h) (r.maker p) p (r.made p (omega arith))));
        place = away id w slot.0 (set_here s.views id w (inside s.views id v at)) turn (omega arith) (omega arith);
      }

  pub publishes : (slots id : ℕ) (me : Participant V E) (e : E) → me.0.turn ≡ true → 0 < me.0.parts → me.0.told < 4 → carried_entries me.1 ≡ e ∷ []
      → Allows Rule slots id me 3 (λ n. (n + 1) % 2 ^ 64) (Published me)
  publishes slots id me e turn part room carried s r _ at _ =
      let n : ℕ = get_or s.words 3 0 in
      let is : n ≡ length r.history = ap (λ ws. get_or ws 3 0) r.words in
      let f = r.each id me.0 at in
      let t = f.turning turn in
      let own = f.ticketed r.serving t.0 in
      let below : r.serving < r.drawn = own.1 in
      let top = r.top in
      let slot = from_home stands k s r id me.0 at turn in
      let few : length r.history ≤ 4 * r.serving + me.0.told = slot.1 in
      let fits : n + 1 < 2 ^ 64 = omega arith in
      let next : (n + 1) % 2 ^ 64 ≡ length r.history + 1 = mod-eq_of_lt fits ∙ ap (λ (z : ℕ). z + 1) is in (
        record me.0 { told = me.0.told + 1; seen = me.0.seen ++ carried_entries me.1; book = me.0.book ++ n ∷ [] },
        keeps,
        tt,
        published s r id n me.0 (carried_entries me.1) (ap length carried) is at turn part room (set s.words 3 ((n + 1) % 2 ^ 64)) (ap (set s.words 3) next),
        (is ∙ ap length (sym t.1), fits, refl),
      )

  -- count in a turn: the number is the length of all that was seen
  pub counts : (slots id : ℕ) (me : Participant V E) → me.0.turn ≡ true → Allows Rule slots id me 3 (λ n. n) (Counted me)
  counts slots id me turn s r _ at _ =
      let n : ℕ = get_or s.words 3 0 in
      let is : n ≡ length r.history = ap (λ ws. get_or ws 3 0) r.words in
      let f = r.each id me.0 at in
      let looked = f.looked_below in (
        me.0,
        keeps,
        tt,
        alone stands k s r id me.0 me.0 at f refl refl refl refl refl (λ p h. h) (set s.words 3 n) (set-get_or s.words 3 0),
        (is ∙ ap length (sym (f.turning turn).1), omega arith, refl),
      )

  -- count outside of a turn: the number is at least all that was seen and looked at
  pub glances : (slots id : ℕ) (me : Participant V E) → Allows Rule slots id me 3 (λ n. n) (Glanced me)
  glances slots id me s r _ at _ =
      let n : ℕ = get_or s.words 3 0 in
      let is : n ≡ length r.history = ap (λ ws. get_or ws 3 0) r.words in
      let f = r.each id me.0 at in
      let looked = f.looked_below in
      let first = prefix_length me.0.seen r.history f.seen_first in
      let w : View V E = record me.0 { looked = n; looks = me.0.looks + 1 } in
      let fits : Fits k r.history r.serving r.drawn r.owner r.maker id w
      = moves f r.serving r.drawn r.owner me.0.ticket me.0.turn me.0.told me.0.turns me.0.drawn n (me.0.looks + 1) f.ticketed f.turning (omega arith) f.drawn_below f.spent in (
        w,
        keeps,
        tt,
        alone stands k s r id me.0 w at fits refl refl refl refl refl (λ p h. h) (set s.words 3 n) (set-get_or s.words 3 0),
        (omega arith, omega arith, refl),
      )

  -- a load of the passes word
  pub totals : (slots id : ℕ) (me : Participant V E) → 0 < me.0.parts → Allows Rule slots id me 0 (λ n. n) (Totalled me)
  totals slots id me part s r _ at _ =
      let n : ℕ = get_or s.words 0 0 in
      let is : n ≡ k.passes = ap (λ ws. get_or ws 0 0) r.words in
      let f = r.each id me.0 at in
      let few = total-at parts_in s.views id me.0 at in
      let sum = r.parts in
      let tickets = r.turns in (
        me.0,
        keeps,
        tt,
        alone stands k s r id me.0 me.0 at f refl refl refl refl refl (λ p h. h) (set s.words 0 n) (set-get_or s.words 0 0),
        (
          is ∙ sym (f.started part).1,
          omega arith,
          refl,
          f.once,
          λ shorter. prefix_between me.0.other me.0.seen r.history f.other_first f.seen_first shorter,
          λ every. let drew = drew_all stands k s r id me.0 at (every ∙ is) in let first = (f.started part).2 in omega arith,
        ),
      )

-- What an array is read as while its items are read one after another: the answer is that of the items that are left.
-- Such a loop has Reads for its invariant. Read it first; the key lemmas are Reads-more, Reads-end and Reads-rest.
use Rattle.std.proofs.Common.{◌≡◌, ℕ, zero, suc, ◌-◌, ◌<◌, ◌≤◌, List, [], ◌∷◌, ◌++◌, length, Option, Some, None, refl, sym, ap, ◌∙◌, append_assoc, append-nil, arith}
use Rattle.std.specs.Prelude.{option_and_then}
use Rattle.json.specs.Token.{Token}
use Rattle.json.specs.Json.{Json, Parse, parse_map, after_end_array, items, items_step, value}
use Rattle.json.specs.Json as json
use Rattle.json.proofs.Grammar.{left, Takes, skip_value-shorter}
use Rattle.serde_json.specs.Data.{Data, Items, item}
use Rattle.serde_json.specs.Read.{of_json, of_items, converted}
use Rattle.serde_json.specs.View.{items_of}
use Rattle.json_words.specs.Fields.{list_of}
use Rattle.json_tokens.specs.Front.{FrontIs, NoFront, ItemsAre, NoItems}
use Rattle.json_words.proofs.FieldLemmas.{list_of-items_of}
use Rattle.json_tokens.proofs.ConvertedLemmas.{item_read}
use Rattle.json_tokens.proofs.FrontLemmas.{before, ItemsAfter, ItemsAfter-start, ItemsAfter-more, ItemsAfter-bad, ItemsAfter-end, ItemsAfter-shorter, NoFront-end}

-- ---- as many turns as there are tokens are enough

value_same : (f g : Parse json.Items) (o : Option (Json × List Token)) → ((r : List Token) → left o ≡ Some r → f r ≡ g r)
    → option_and_then (λ q. parse_map (json.item q.0) (f q.1)) o ≡ option_and_then (λ q. parse_map (json.item q.0) (g q.1)) o
value_same f g None same = refl
value_same f g (Some q) same = ap (parse_map (json.item q.0)) (same q.1 refl)

module _ (p : Parse Json) (takes : Takes p) where
  none_of_nothing : (o : Option (Json × List Token)) → p [] ≡ o → o ≡ None
  none_of_nothing None is = refl
  none_of_nothing (Some q) is = absurd (omega (arith, takes [] q.1 (ap left is)))

  step_same : (f g : Parse json.Items) (ts : List Token) (end : Option (List Token)) → ((r : List Token) → left (p ts) ≡ Some r → f r ≡ g r) → items_step p f ts end ≡ items_step p g ts end
  step_same f g ts (Some rest) same = refl
  step_same f g ts None same = value_same f g (p ts) same

  nothing_after : (f : Parse json.Items) → items_step p f [] None ≡ None
  nothing_after f = ap (option_and_then (λ q. parse_map (json.item q.0) (f q.1))) (none_of_nothing (p []) refl)

  items-enough : (n m : ℕ) (ts : List Token) → length ts ≤ n → length ts ≤ m → items p n ts ≡ items p m ts
  unfolding items
  items-enough zero zero ts few enough = refl
  items-enough zero (suc m) [] few enough = sym (nothing_after (items p m))
  items-enough zero (suc m) (t ∷ ts) few enough = absurd (omega arith)
  items-enough (suc n) zero [] few enough = nothing_after (items p n)
  items-enough (suc n) zero (t ∷ ts) few enough = absurd (omega arith)
  items-enough (suc n) (suc m) ts few enough =
      step_same (items p n) (items p m) ts (after_end_array ts) (λ r is. items-enough n m r (omega (arith, takes ts r is)) (omega (arith, takes ts r is)))

-- ---- the items that are left, read by another call

list_of-before : (ds : List Data) (rest : Items) → list_of (before ds rest) ≡ ds ++ list_of rest
list_of-before [] rest = refl
list_of-before (d ∷ ds) rest = ap (λ all. d ∷ all) (list_of-before ds rest)

module _ (depth : ℕ) (start : List Token) (done : List Data) (now : List Token) (after : ItemsAfter depth start done now) where
  enough_left : converted of_items (items (value depth) (length start) start) ≡ parse_map (before done) (converted of_items (items (value depth) (length now) now))
  enough_left =
      after.same
      ∙ ap (λ read. parse_map (before done) (converted of_items read)) (items-enough (value depth) (skip_value-shorter depth) after.turns (length now) now after.enough (omega arith))

  ItemsAfter-rest : (ds : Items) (new : List Token) → ItemsAre depth now ds new → ItemsAre depth start (before done ds) new
  ItemsAfter-rest ds new are = enough_left ∙ ap (parse_map (before done)) are

  ItemsAfter-none : NoItems depth now → NoItems depth start
  ItemsAfter-none none = enough_left ∙ ap (parse_map (before done)) none

some_at_front : (depth : ℕ) (now : List Token) (d : Data) (rest : List Token) → FrontIs depth now d rest → 0 < length now
some_at_front depth [] d rest is = let none = NoFront-end depth in absurd (cc)
some_at_front depth (t ∷ ts) d rest is = omega arith

some_is : (p q : Items × List Token) → Some p ≡ Some q → p ≡ q
some_is p q e = cc

-- ---- the answer of an array

-- of the array that starts behind its bracket at `start` some items are read, and `now` is left: what is answered of all its
-- items is what `ahead` says of those that are left
pub record Reads {A : Type 0} (answer ahead : List Data → A) (depth : ℕ) (start now : List Token) : Type 0 where
  pub done : List Data
  pub after : ItemsAfter depth start done now
  pub same : (rest : List Data) → answer (done ++ rest) ≡ ahead rest

module _ {A : Type 0} (answer : List Data → A) (depth : ℕ) (start : List Token) where
  pub Reads-start : (ahead : List Data → A) → ((ds : List Data) → answer ds ≡ ahead ds) → Reads answer ahead depth start start
  Reads-start ahead same = record { done = []; after = ItemsAfter-start depth start; same = same }

  module _ (ahead : List Data → A) (now : List Token) (reads : Reads answer ahead depth start now) where
    -- one more item, of which it is known what it adds
    pub Reads-more : (d : Data) (rest : List Token) (next : List Data → A) → after_end_array now ≡ None → FrontIs depth now d rest → length rest < length now
        → ((ds : List Data) → ahead (d ∷ ds) ≡ next ds) → Reads answer next depth start rest
    Reads-more d rest next going is shorter adds = record {
      done = reads.done ++ d ∷ [];
      after = ItemsAfter-more depth start reads.done now reads.after d rest going is shorter;
      same = λ ds. ap answer (append_assoc reads.done (d ∷ []) ds) ∙ reads.same (d ∷ ds) ∙ adds ds;
    }

    -- an item that is no value
    pub Reads-bad : after_end_array now ≡ None → NoFront depth now → NoItems depth start
    Reads-bad going none = ItemsAfter-bad depth start reads.done now reads.after going none

    -- at the closing bracket nothing is left
    pub Reads-end : (rest : List Token) → after_end_array now ≡ Some rest → (ds : Items) × ItemsAre depth start ds rest × (ahead [] ≡ answer (list_of ds))
    Reads-end rest closes = (
      items_of reads.done,
      ItemsAfter-end depth start reads.done now reads.after rest closes,
      sym (ap answer (list_of-items_of reads.done ∙ sym (append-nil reads.done)) ∙ reads.same []),
    )

    pub Reads-shorter : (rest : List Token) → after_end_array now ≡ Some rest → length rest < length start
    Reads-shorter rest closes = ItemsAfter-shorter depth start reads.done now reads.after rest closes

    -- the items that are left are read by another call
    pub Reads-rest : (ds : Items) (new : List Token) → ItemsAre depth now ds new → (all : Items) × ItemsAre depth start all new × (ahead (list_of ds) ≡ answer (list_of all))
    Reads-rest ds new are = (
      before reads.done ds,
      ItemsAfter-rest depth start reads.done now reads.after ds new are,
      sym (ap answer (list_of-before reads.done ds) ∙ reads.same (list_of ds)),
    )

    pub Reads-none : NoItems depth now → NoItems depth start
    Reads-none none = ItemsAfter-none depth start reads.done now reads.after none

    -- an item that settles the answer settles it whatever stands behind
    pub Reads-settled : (told : A) → after_end_array now ≡ None → ((d : Data) (rest : List Token) → FrontIs depth now d rest → (ds : List Data) → ahead (d ∷ ds) ≡ told)
        → (all : Items) (new : List Token) → ItemsAre depth start all new → answer (list_of all) ≡ told
    Reads-settled told going settles all new are = by (converted of_json (value depth now)) refl
      where
        whole : (d : Data) (ds : Items) → all ≡ before reads.done (item d ds) → answer (list_of all) ≡ ahead (d ∷ list_of ds)
        whole d ds is = ap (λ is. answer (list_of is)) is ∙ ap answer (list_of-before reads.done (item d ds)) ∙ reads.same (d ∷ list_of ds)

        behind : (d : Data) (rest : List Token) → FrontIs depth now d rest → (left : Option (Items × List Token)) → parse_map (before reads.done) (parse_map (item d) left) ≡ Some (all, new)
            → answer (list_of all) ≡ told
        behind d rest is None e = absurd (cc)
        behind d rest is (Some p) e = whole d p.0 (sym (ap (λ q. q.0) (some_is (before reads.done (item d p.0), p.1) (all, new) e))) ∙ settles d rest is (list_of p.0)

        by : (o : Option (Data × List Token)) → converted of_json (value depth now) ≡ o → answer (list_of all) ≡ told
        by None is = let none = Reads-bad going is in absurd (cc)
        by (Some p) is =
            let left = enough_left depth start reads.done now reads.after in
            let next = item_read (value depth) (length now) now p.1 p.0 (some_at_front depth now p.0 p.1 is) going is in
            behind p.0 p.1 is (converted of_items (items (value depth) (length now - 1) p.1)) (sym (left ∙ ap (parse_map (before reads.done)) next) ∙ are)

-- What is told below the names of a directory that are done. The key lemmas are done_start, done_more, done_first and done_all.
use Rattle.std.proofs.Common.{◌≡◌, ◌≢◌, ◌||◌, ◌&&◌, Bool, true, false, if◌then◌else◌, ℕ, List, [], ◌∷◌, ◌++◌, nat_eq, refl, sym, ap, ap₂, ◌∙◌, append_assoc, Option, Some, None, is_some, true≢false}
use Rattle.std.specs.Cmp.Lexicographic.{bytes_decides, pointwise}
use Rattle.std.specs.FinMap as map
use Rattle.std.specs.Option.{option_or}
use Rattle.tree_model.specs.Path.{PathV}
use Rattle.tree_model.specs.DirectorySurvival.{is_under}
use Rattle.tree_model.specs.MergeParts.{beyond}
use Rattle.tree_model.proofs.BehindLemmas.{beyond_behind, under_behind}
use Rattle.tree_model.proofs.BelowLemmas.{name_itself, under_is, under_of}
use Rattle.tree_merge.specs.declared.level.Level.{Level}

-- whether entries of a name are still to come
abbrev pub waits : Level → List ℕ → Bool
waits level n = is_some (map.get level.base (n ∷ [])) || (is_some (map.get level.head (n ∷ [])) || is_some (map.get level.pushed (n ∷ [])))

module _ {Y : Type 0} where
  -- what a function tells, behind a directory
  abbrev pub told_below : PathV → (PathV → Option Y) → PathV → Option Y
  told_below d f q = if is_under d q then f (beyond d q) else None

  -- what is told below the names that are done
  abbrev pub of_done : (List ℕ → Bool) → (List ℕ → PathV → Option Y) → PathV → Option Y
  of_done to_come g [] = None
  of_done to_come g (n ∷ []) = None
  of_done to_come g (n ∷ m ∷ r) = if to_come n then None else g n (m ∷ r)

  -- and below all names
  abbrev pub of_all : (List ℕ → PathV → Option Y) → PathV → Option Y
  of_all g [] = None
  of_all g (n ∷ []) = None
  of_all g (n ∷ m ∷ r) = g n (m ∷ r)

  told_at : (d : PathV) (f : PathV → Option Y) (n : List ℕ) (r : PathV) → told_below d f (d ++ n ∷ r) ≡ f (n ∷ r)
  told_at d f n r = ap (λ (b : Bool). if b then f (beyond d (d ++ n ∷ r)) else None) (under_of d n r) ∙ ap f (beyond_behind d (n ∷ r))

  told_out : (d : PathV) (f : PathV → Option Y) (q : PathV) → is_under d q ≡ false → told_below d f q ≡ None
  told_out d f q out = ap (λ (b : Bool). if b then f (beyond d q) else None) out

  -- two functions that tell the same below a directory
  pub told_same : (d : PathV) (f g : PathV → Option Y) → ((n : List ℕ) (r : PathV) → f (n ∷ r) ≡ g (n ∷ r)) → (q : PathV) → told_below d f q ≡ told_below d g q
  told_same d f g same q = by (is_under d q) refl
    where
      by : (b : Bool) → is_under d q ≡ b → told_below d f q ≡ told_below d g q
      by false out = told_out d f q out ∙ sym (told_out d g q out)
      by true is =
          let below = under_is d q is in
          ap (told_below d f) below.is ∙ told_at d f below.name below.rest ∙ same below.name below.rest ∙ sym (told_at d g below.name below.rest) ∙ ap (told_below d g) (sym below.is)

  pub or_none : (o : Option Y) → option_or o None ≡ o
  or_none None = refl
  or_none (Some x) = refl

  pub or_assoc : (o p q : Option Y) → option_or (option_or o p) q ≡ option_or o (option_or p q)
  or_assoc None p q = refl
  or_assoc (Some x) p q = refl

  -- what two functions tell together
  pub told_two : (d : PathV) (f g h : PathV → Option Y) → ((n : List ℕ) (r : PathV) → option_or (f (n ∷ r)) (g (n ∷ r)) ≡ h (n ∷ r)) → (q : PathV) → option_or (told_below d f q) (told_below d g q) ≡ told_below d h q
  told_two d f g h both q = join (is_under d q) ∙ told_same d (λ p. option_or (f p) (g p)) h both q
    where
      join : (b : Bool) → option_or (if b then f (beyond d q) else None) (if b then g (beyond d q) else None) ≡ (if b then option_or (f (beyond d q)) (g (beyond d q)) else None)
      join true = refl
      join false = refl

  -- before the first name nothing is told
  pub done_start : (d : PathV) (to_come : List ℕ → Bool) (g : List ℕ → PathV → Option Y) → ((n m : List ℕ) (r : PathV) → to_come n ≡ false → g n (m ∷ r) ≡ None)
      → (q : PathV) → told_below d (of_done to_come g) q ≡ None
  done_start d to_come g none q = told_same d (of_done to_come g) (λ p. None) each q ∙ by None (is_under d q)
    where
      by : (o : Option Y) (b : Bool) → (if b then o else o) ≡ o
      by o true = refl
      by o false = refl

      at : (n m : List ℕ) (r : PathV) (b : Bool) → to_come n ≡ b → (if b then None else g n (m ∷ r)) ≡ None
      at n m r true is = refl
      at n m r false is = none n m r is

      each : (n : List ℕ) (r : PathV) → of_done to_come g (n ∷ r) ≡ None
      each n [] = refl
      each n (m ∷ r) = at n m r (to_come n) refl

  -- after the last all
  pub done_all : (d : PathV) (to_come : List ℕ → Bool) (g : List ℕ → PathV → Option Y) → ((n : List ℕ) → to_come n ≡ false) → (q : PathV) → told_below d (of_done to_come g) q ≡ told_below d (of_all g) q
  done_all d to_come g all = told_same d (of_done to_come g) (of_all g) each
    where
      each : (n : List ℕ) (r : PathV) → of_done to_come g (n ∷ r) ≡ of_all g (n ∷ r)
      each n [] = refl
      each n (m ∷ r) = ap (λ (b : Bool). if b then None else g n (m ∷ r)) (all n)

  -- one name more
  module _ (d : PathV) (n : List ℕ) (before after : List ℕ → Bool) (g : List ℕ → PathV → Option Y) (waited : before n ≡ true) (gone : after n ≡ false)
      (others : (k : List ℕ) → k ≢ n → after k ≡ before k) where
    deep : (k : List ℕ) (r : PathV) → of_done after g (k ∷ r) ≡ option_or (of_done before g (k ∷ r)) (if is_under (n ∷ []) (k ∷ r) then g n (beyond (n ∷ []) (k ∷ r)) else None)
    deep k [] = sym (ap (λ (b : Bool). if b then g n [] else None) (none (pointwise nat_eq n k)))
      where
        none : (b : Bool) → (b && false) ≡ false
        none true = refl
        none false = refl
    deep k (m ∷ r) = by (pointwise nat_eq n k) refl
      where
        by : (b : Bool) → pointwise nat_eq n k ≡ b
            → (if after k then None else g k (m ∷ r)) ≡ option_or (if before k then None else g k (m ∷ r)) (if pointwise nat_eq n k && true then g n (m ∷ r) else None)
        by true is =
            let same : n ≡ k = (bytes_decides n k).0 is in
            ap (λ (b : Bool). if b then None else g k (m ∷ r)) (ap after (sym same) ∙ gone)
            ∙ ap (λ (j : List ℕ). g j (m ∷ r)) (sym same)
            ∙ sym (ap₂ (λ (a b : Bool). option_or (if a then None else g k (m ∷ r)) (if b && true then g n (m ∷ r) else None)) (ap before (sym same) ∙ waited) is)
        by false apart =
            let other : k ≢ n = λ e. true≢false (sym (ap (pointwise nat_eq n) e ∙ name_itself n) ∙ apart) in
            ap (λ (b : Bool). if b then None else g k (m ∷ r)) (others k other)
            ∙ sym (or_none (if before k then None else g k (m ∷ r)))
            ∙ sym (ap (λ (b : Bool). option_or (if before k then None else g k (m ∷ r)) (if b && true then g n (m ∷ r) else None)) apart)

    -- the same, the name's own first
    deep_first : (k : List ℕ) (r : PathV) → of_done after g (k ∷ r) ≡ option_or (if is_under (n ∷ []) (k ∷ r) then g n (beyond (n ∷ []) (k ∷ r)) else None) (of_done before g (k ∷ r))
    deep_first k r = deep k r ∙ turned k r
      where
        at : (k m : List ℕ) (r : PathV) (b : Bool) → pointwise nat_eq n k ≡ b
            → option_or (if before k then None else g k (m ∷ r)) (if b && true then g n (m ∷ r) else None) ≡ option_or (if b && true then g n (m ∷ r) else None) (if before k then None else g k (m ∷ r))
        at k m r false apart = or_none (if before k then None else g k (m ∷ r))
        at k m r true is =
            let waits_too : before k ≡ true = ap before (sym ((bytes_decides n k).0 is)) ∙ waited in
            ap (λ (b : Bool). option_or (if b then None else g k (m ∷ r)) (g n (m ∷ r))) waits_too
            ∙ sym (or_none (g n (m ∷ r)))
            ∙ sym (ap (λ (b : Bool). option_or (g n (m ∷ r)) (if b then None else g k (m ∷ r))) waits_too)

        turned : (k : List ℕ) (r : PathV) → option_or (of_done before g (k ∷ r)) (if is_under (n ∷ []) (k ∷ r) then g n (beyond (n ∷ []) (k ∷ r)) else None)
            ≡ option_or (if is_under (n ∷ []) (k ∷ r) then g n (beyond (n ∷ []) (k ∷ r)) else None) (of_done before g (k ∷ r))
        turned k [] = sym (or_none (if is_under (n ∷ []) (k ∷ []) then g n [] else None))
        turned k (m ∷ r) = at k m r (pointwise nat_eq n k) refl

    -- below the directory the name's own is told below its entry
    joined_done : (join : Option Y → Option Y → Option Y) → (join None None ≡ None) → ((k : List ℕ) (r : PathV) → of_done after g (k ∷ r) ≡ join (of_done before g (k ∷ r)) (if is_under (n ∷ []) (k ∷ r) then g n (beyond (n ∷ []) (k ∷ r)) else None))
        → (q : PathV) → join (told_below d (of_done before g) q) (told_below (d ++ n ∷ []) (g n) q) ≡ told_below d (of_done after g) q
    joined_done join none each q = by (is_under d q) refl
      where
        -- what isn't under the directory isn't under its entry
        out_child : is_under d q ≡ false → (b : Bool) → is_under (d ++ n ∷ []) q ≡ b → is_under (d ++ n ∷ []) q ≡ false
        out_child out false is = is
        out_child out true is =
            let below = under_is (d ++ n ∷ []) q is in
            absurd (true≢false (sym (under_of d n (below.name ∷ below.rest)) ∙ ap (is_under d) (sym (below.is ∙ append_assoc d (n ∷ []) (below.name ∷ below.rest))) ∙ out))

        by : (b : Bool) → is_under d q ≡ b → join (told_below d (of_done before g) q) (told_below (d ++ n ∷ []) (g n) q) ≡ told_below d (of_done after g) q
        by false out =
            ap₂ join (told_out d (of_done before g) q out) (told_out (d ++ n ∷ []) (g n) q (out_child out (is_under (d ++ n ∷ []) q) refl)) ∙ none
            ∙ sym (told_out d (of_done after g) q out)
        by true is =
            let below = under_is d q is in
            let r : PathV = below.name ∷ below.rest in
            ap (λ (p : PathV). join (told_below d (of_done before g) p) (told_below (d ++ n ∷ []) (g n) p)) below.is
            ∙ ap₂ join (told_at d (of_done before g) below.name below.rest)
            (ap₂ (λ (b : Bool) (p : PathV). if b then g n p else None) (under_behind d (n ∷ []) r) (beyond_more d r))
            ∙ sym (each below.name below.rest)
            ∙ sym (told_at d (of_done after g) below.name below.rest) ∙ ap (told_below d (of_done after g)) (sym below.is)
          where
            beyond_more : (d : PathV) (r : PathV) → beyond (d ++ n ∷ []) (d ++ r) ≡ beyond (n ∷ []) r
            beyond_more [] r = refl
            beyond_more (k ∷ d) r = beyond_more d r

    pub done_more : (f : PathV → Option Y) (q : PathV) → option_or (option_or (f q) (told_below d (of_done before g) q)) (told_below (d ++ n ∷ []) (g n) q) ≡ option_or (f q) (told_below d (of_done after g) q)
    done_more f q =
        or_assoc (f q) (told_below d (of_done before g) q) (told_below (d ++ n ∷ []) (g n) q)
        ∙ ap (option_or (f q)) (joined_done (λ x y. option_or x y) refl deep q)

    pub done_first : (f : PathV → Option Y) (q : PathV) → option_or (told_below (d ++ n ∷ []) (g n) q) (option_or (told_below d (of_done before g) q) (f q)) ≡ option_or (told_below d (of_done after g) q) (f q)
    done_first f q =
        sym (or_assoc (told_below (d ++ n ∷ []) (g n) q) (told_below d (of_done before g) q) (f q))
        ∙ ap (λ (o : Option Y). option_or o (f q)) (joined_done (λ x y. option_or y x) refl deep_first q)

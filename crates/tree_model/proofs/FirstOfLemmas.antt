-- The first of the names that are too long, by path. The key lemmas are first_long_told, first_one, first_joined and first_behind.
use Rattle.std.proofs.Common.{◌≡◌, ◌≢◌, ℕ, ◌<◌, ◌&&◌, ◌⊎◌, Bool, true, false, cond, if◌then◌else◌, T, List, [], ◌∷◌, ◌++◌, map as map_list, length, find, nat_lt, refl, sym, ap, ap₂, ◌∙◌, subst, Option, Some, None, IsSome, is_some, option_map, Ordering, Less, Equal, Greater, ltb-true, true≢false, inl, inr}
use Rattle.std.proofs.lemmas.Bool.{lt-ltb}
use Rattle.std.specs.Bool.{then_some}
use Rattle.std.specs.Cmp.{IsTotalOrder}
use Rattle.std.specs.FinMap as map
use Rattle.std.specs.FinMap.Entries.{below_all, same_entries}
use Rattle.std.specs.List.{AllByRecursion}
use Rattle.std.specs.Option.{option_or}
use Rattle.std.specs.Ordering.{is_lt, ordering_reverse}
use Rattle.ids.proofs.BasicLemmas.{pushed_is_some}
use Rattle.tree_model.specs.declared.limits.TheConstants.{MAX_NAME}
use Rattle.tree_model.specs.declared.node.FileVersion.{FileVersion}
use Rattle.tree_model.specs.Path.{PathV, last_name, parent_of, path_cmp}
use Rattle.tree_model.specs.PathOrder.{paths_exact, paths_total}
use Rattle.tree_model.specs.DirectorySurvival.{Sides, is_under}
use Rattle.tree_model.specs.ConflictCopies.{Naming, conflict_spot, conflicts, first_long, in_trees, leavers, places_of, tries}
use Rattle.tree_model.specs.MergeParts.{IsFirst, IsFirstAt, beyond, copy_at, earlier, left_for, long_at, long_behind, long_in, told_behind}
use Rattle.tree_model.proofs.BehindLemmas.{beyond_behind, cmp_behind}
use Rattle.tree_model.proofs.BelowLemmas.{under_is, under_of}
use Rattle.tree_model.proofs.CopyLemmas.{leaver_from}
use Rattle.tree_model.proofs.FirstLongNameLemmas.{Copy, Found, found_first, moved_things}
use Rattle.tree_model.proofs.ListedLemmas.{same_path, same_path-true}
use Rattle.tree_model.proofs.MovingLemmas.{In, moved_from}
use Rattle.tree_model.proofs.SortedEntryLemmas.{found_sorted}

-- ---- one order

order : IsTotalOrder path_cmp
order = paths_total

-- what stands above isn't below
not_both_ways : (p q : PathV) → path_cmp p q ≢ Greater → path_cmp q p ≢ Greater → p ≡ q
not_both_ways p q one other = by (path_cmp p q) refl
  where
    turned : path_cmp q p ≡ ordering_reverse (path_cmp p q)
    turned = order.antisymm q p

    by : (r : Ordering) → path_cmp p q ≡ r → p ≡ q
    by Less is = absurd (other (turned ∙ ap ordering_reverse is))
    by Equal is = paths_exact p q is
    by Greater is = absurd (one is)

-- of three paths
not_above_through : (p q r : PathV) → path_cmp p q ≡ Less → path_cmp q r ≢ Greater → path_cmp p r ≢ Greater
not_above_through p q r below not_above = by (path_cmp q r) refl
  where
    never : (s : Ordering) → path_cmp p r ≡ s → s ≡ Less → path_cmp p r ≢ Greater
    never s is less e = let both : Less ≡ Greater = sym less ∙ sym is ∙ e in cc

    by : (s : Ordering) → path_cmp q r ≡ s → path_cmp p r ≢ Greater
    by Less is = never (path_cmp p r) refl (order.trans p q r below is)
    by Equal is = never (path_cmp p r) refl (ap (path_cmp p) (sym (paths_exact q r is)) ∙ below)
    by Greater is = absurd (not_above is)

-- ---- there is one first path

pub first_one : (f : PathV → Option ℕ) (a b : Option (PathV × ℕ)) → IsFirst f a → IsFirst f b → a ≡ b
first_one f None None one other = refl
first_one f None (Some y) one other = let both : None ≡ Some y.1 = sym (one y.0) ∙ other.there in cc
first_one f (Some x) None one other = let both : None ≡ Some x.1 = sym (other x.0) ∙ one.there in cc
first_one f (Some x) (Some y) one other =
    let path : x.0 ≡ y.0 = not_both_ways x.0 y.0 (one.least y.0 (ap is_some other.there)) (other.least x.0 (ap is_some one.there)) in
    let both : Some x.1 ≡ Some y.1 = sym one.there ∙ ap f path ∙ other.there in
    let size : x.1 ≡ y.1 = cc in
    ap₂ some_pair path size
  where
    some_pair : PathV → ℕ → Option (PathV × ℕ)
    some_pair p n = Some (p, n)

pub first_same : (f g : PathV → Option ℕ) → ((q : PathV) → f q ≡ g q) → (a : Option (PathV × ℕ)) → IsFirst f a → IsFirst g a
first_same f g same None first = λ q. sym (same q) ∙ first q
first_same f g same (Some x) first = record { there = sym (same x.0) ∙ first.there; least = λ q some. first.least q (ap is_some (same q) ∙ some) }

-- what two tell together
pub first_joined : (f g : PathV → Option ℕ) (a b : Option (PathV × ℕ)) → IsFirst f a → IsFirst g b → IsFirst (λ q. option_or (f q) (g q)) (earlier a b)
first_joined f g None None one other = λ q. ap₂ (λ (x y : Option ℕ). option_or x y) (one q) (other q)
first_joined f g None (Some y) one other = record {
  there = ap₂ (λ (x z : Option ℕ). option_or x z) (one y.0) other.there;
  least = λ q some. other.least q (ap (λ (x : Option ℕ). is_some (option_or x (g q))) (sym (one q)) ∙ some);
}
first_joined f g (Some x) None one other = record {
  there = ap (λ (z : Option ℕ). option_or z (g x.0)) one.there;
  least = λ q some. one.least q (only (f q) (g q) (other q) some);
}
  where
    only : (o p : Option ℕ) → p ≡ None → is_some (option_or o p) ≡ true → is_some o ≡ true
    only None p none some = sym (ap is_some none) ∙ some
    only (Some n) p none some = refl
first_joined f g (Some x) (Some y) one other = by (path_cmp y.0 x.0) refl
  where
    either : (q : PathV) (o : Option ℕ) → f q ≡ o → is_some (option_or (f q) (g q)) ≡ true → (IsSome (f q)) ⊎ (IsSome (g q))
    either q (Some n) is some = inl (ap is_some is)
    either q None is some = inr (ap (λ (o : Option ℕ). is_some (option_or o (g q))) (sym is) ∙ some)

    -- the second stands first: the first function tells nothing at its path
    second : path_cmp y.0 x.0 ≡ Less → IsFirstAt (λ q. option_or (f q) (g q)) y
    second below = record {
      there = none_here (f y.0) refl;
      least = λ q some. at q (either q (f q) refl some);
    }
      where
        none_here : (o : Option ℕ) → f y.0 ≡ o → option_or (f y.0) (g y.0) ≡ Some y.1
        none_here None is = ap (λ (o : Option ℕ). option_or o (g y.0)) is ∙ other.there
        none_here (Some n) is =
            absurd (one.least y.0 (ap is_some is) (order.antisymm x.0 y.0 ∙ ap ordering_reverse below))

        at : (q : PathV) → (IsSome (f q)) ⊎ (IsSome (g q)) → path_cmp y.0 q ≢ Greater
        at q (inl some) = not_above_through y.0 x.0 q below (one.least q some)
        at q (inr some) = other.least q some

    first : path_cmp x.0 y.0 ≢ Greater → IsFirstAt (λ q. option_or (f q) (g q)) x
    first above = record {
      there = ap (λ (o : Option ℕ). option_or o (g x.0)) one.there;
      least = λ q some. at q (either q (f q) refl some);
    }
      where
        through : (q : PathV) → path_cmp y.0 q ≢ Greater → (r : Ordering) → path_cmp x.0 y.0 ≡ r → path_cmp x.0 q ≢ Greater
        through q not_above Less is = not_above_through x.0 y.0 q is not_above
        through q not_above Equal is = subst (λ (p : PathV). path_cmp p q ≢ Greater) (sym (paths_exact x.0 y.0 is)) not_above
        through q not_above Greater is = absurd (above is)

        at : (q : PathV) → (IsSome (f q)) ⊎ (IsSome (g q)) → path_cmp x.0 q ≢ Greater
        at q (inl some) = one.least q some
        at q (inr some) = through q (other.least q some) (path_cmp x.0 y.0) refl

    by : (r : Ordering) → path_cmp y.0 x.0 ≡ r → IsFirst (λ q. option_or (f q) (g q)) (if is_lt (path_cmp y.0 x.0) then Some y else Some x)
    by Less is = subst (λ (r : Ordering). IsFirst (λ q. option_or (f q) (g q)) (if is_lt r then Some y else Some x)) (sym is) (second is)
    by Equal is = subst (λ (r : Ordering). IsFirst (λ q. option_or (f q) (g q)) (if is_lt r then Some y else Some x)) (sym is)
        (first (λ e. let both : Equal ≡ Greater = sym (ap ordering_reverse is) ∙ sym (order.antisymm x.0 y.0) ∙ e in cc))
    by Greater is = subst (λ (r : Ordering). IsFirst (λ q. option_or (f q) (g q)) (if is_lt r then Some y else Some x)) (sym is)
        (first (λ e. let both : Less ≡ Greater = sym (ap ordering_reverse is) ∙ sym (order.antisymm x.0 y.0) ∙ e in cc))

-- ---- behind a directory

pub first_behind : (d : PathV) (f : PathV → Option ℕ) → f [] ≡ None → (a : Option (PathV × ℕ)) → IsFirst f a → IsFirst (told_behind d f) (long_behind d a)
first_behind d f root None first = λ q. by q (is_under d q)
  where
    by : (q : PathV) (b : Bool) → (if b then f (beyond d q) else None) ≡ None
    by q true = first (beyond d q)
    by q false = refl
first_behind d f root (Some x) first = record {
  there = at x.0 first.there;
  least = λ q some. least q (is_under d q) refl some;
}
  where
    not_root : (q : PathV) → IsSome (f q) → q ≢ []
    not_root q some e = true≢false (sym some ∙ ap is_some (ap f e ∙ root))

    at : (p : PathV) → f p ≡ Some x.1 → told_behind d f (d ++ p) ≡ Some x.1
    at [] is = let both : None ≡ Some x.1 = sym root ∙ is in cc
    at (n ∷ p) is = ap (λ (b : Bool). if b then f (beyond d (d ++ n ∷ p)) else None) (under_of d n p) ∙ ap f (beyond_behind d (n ∷ p)) ∙ is

    least : (q : PathV) (b : Bool) → is_under d q ≡ b → is_some (if is_under d q then f (beyond d q) else None) ≡ true → path_cmp (d ++ x.0) q ≢ Greater
    least q false out some = absurd (true≢false (sym some ∙ ap (λ (b : Bool). is_some (if b then f (beyond d q) else None)) out))
    least q true under some =
        let below = under_is d q under in
        let r : PathV = below.name ∷ below.rest in
        let there : IsSome (f r) =
        ap is_some (ap f (sym (ap (beyond d) below.is ∙ beyond_behind d r))) ∙ sym (ap (λ (b : Bool). is_some (if b then f (beyond d q) else None)) under) ∙ some in
        subst (λ (p : PathV). path_cmp (d ++ x.0) p ≢ Greater) (sym below.is)
        (subst (λ (s : Ordering). s ≢ Greater) (sym (cmp_behind d x.0 r (not_root x.0 (ap is_some first.there)) (λ e. cc))) (first.least r there))

-- ---- the first of the conflict copies

module _ (naming : Naming) (s : Sides) where
  abbrev all_copies : List Copy
  all_copies = conflicts naming s

  things : map_list (λ (m : Copy). m.0) all_copies ≡ map.entries (leavers s)
  things = moved_things (in_trees s) (conflict_spot naming) (tries s) (map.entries (leavers s)) []

  rising : T (map.is_sorted path_cmp (map_list (λ (m : Copy). m.0) all_copies))
  rising = subst (λ (es : List (PathV × FileVersion)). T (map.is_sorted path_cmp es)) (sym things) (map.entries_sorted (leavers s))

  -- the same list with the copies' paths stands in order too
  places_rising : (ms : List Copy) → map.is_sorted path_cmp (map_list left_for ms) ≡ map.is_sorted path_cmp (map_list (λ (m : Copy). m.0) ms)
  places_rising [] = refl
  places_rising (m ∷ ms) = ap₂ (λ (a b : Bool). a && b) (below m.0.0 ms) (places_rising ms)
    where
      below : (p : PathV) (ms : List Copy) → below_all path_cmp p (map_list left_for ms) ≡ below_all path_cmp p (map_list (λ (m : Copy). m.0) ms)
      below p [] = refl
      below p (m ∷ ms) = ap (λ (b : Bool). is_lt (path_cmp p m.0.0) && b) (below p ms)

  in_places : (m : Copy) (ms : List Copy) → In m ms → In (left_for m) (map_list left_for ms)
  in_places m [] there = absurd there
  in_places m (k ∷ ms) (inl is) = inl (ap left_for is)
  in_places m (k ∷ ms) (inr there) = inr (in_places m ms there)

  -- a file's copy is found at its path
  copy_of_file : (m : Copy) → In m all_copies → copy_at naming s m.0.0 ≡ Some m.1
  copy_of_file m there = found_sorted (left_for m) (map_list left_for all_copies) (subst T (sym (places_rising all_copies)) rising) (in_places m all_copies there)

  -- and what is found is one of them
  found_copy : (q : PathV) (ms : List Copy) (p : PathV) → map.find path_cmp q (map_list left_for ms) ≡ Some p → (m : Copy) × (In m ms) × (m.0.0 ≡ q) × (m.1 ≡ p)
  found_copy q [] p e = cc
  found_copy q (m ∷ ms) p e = by (same_path q m.0.0) refl e (found_copy q ms p)
    where
      by : (b : Bool) → same_path q m.0.0 ≡ b → cond b (Some m.1) (map.find path_cmp q (map_list left_for ms)) ≡ Some p
          → (map.find path_cmp q (map_list left_for ms) ≡ Some p → (k : Copy) × (In k ms) × (k.0.0 ≡ q) × (k.1 ≡ p)) → (k : Copy) × (In k (m ∷ ms)) × (k.0.0 ≡ q) × (k.1 ≡ p)
      by true tie e more = let same : m.1 ≡ p = cc in (m, inl refl, sym (same_path-true q m.0.0 tie), same)
      by false tie e more = let found = more e in (found.0, inr found.1, found.2, found.3)

  -- a copy has a name
  pub copy_some : (q p : PathV) → copy_at naming s q ≡ Some p → p ≢ []
  copy_some q p is e =
      let found = found_copy q all_copies p is in
      let from = moved_from (in_trees s) (conflict_spot naming) (tries s) (map.entries (leavers s)) [] found.0 found.1 in
      pushed_is_some (parent_of found.0.0.0) (naming (last_name found.0.0.0) found.0.0.1.modifier found.0.0.1.mtime from.number) (sym from.at ∙ found.3 ∙ e)

  -- a file leaves a path of the trees alone
  pub copy_unknown : (q : PathV) → in_trees s q ≡ false → copy_at naming s q ≡ None
  copy_unknown q unknown = by (copy_at naming s q) refl
    where
      by : (o : Option PathV) → copy_at naming s q ≡ o → copy_at naming s q ≡ None
      by None is = is
      by (Some p) is =
          let found = found_copy q all_copies p is in
          let from = moved_from (in_trees s) (conflict_spot naming) (tries s) (map.entries (leavers s)) [] found.0 found.1 in
          absurd (true≢false (sym (leaver_from s found.0.0 from.of_list).known ∙ ap (in_trees s) found.2 ∙ unknown))

  -- a table that tells each copy by the path that its file left has the copies in order
  pub in_order : (table : map.FinMap path_cmp PathV) → ((q : PathV) → map.get table q ≡ copy_at naming s q) → map.values table ≡ places_of (conflicts naming s)
  in_order table told =
      ap (λ (es : List (PathV × PathV)). map_list (λ (e : PathV × PathV). e.1) es)
      (same_entries path_cmp paths_total paths_exact (map.entries table) (map_list left_for all_copies) (map.entries_sorted table) (subst T (sym (places_rising all_copies)) rising)
      (λ q. sym (map.get-entries table q) ∙ told q))
      ∙ seconds all_copies
    where
      seconds : (ms : List Copy) → map_list (λ (e : PathV × PathV). e.1) (map_list left_for ms) ≡ places_of ms
      seconds [] = refl
      seconds (m ∷ ms) = ap (λ (ps : List PathV). m.1 ∷ ps) (seconds ms)

  long_of : (p : PathV) → MAX_NAME < length (last_name p) → long_in (Some p) ≡ Some (length (last_name p))
  long_of p long = ap (λ (b : Bool). then_some b (length (last_name p))) (lt-ltb MAX_NAME (length (last_name p)) long)

  -- where a name is too long, its copy is one of the list
  pub told_long : (q : PathV) → IsSome (long_at naming s q) → (m : Copy) × (In m all_copies) × (m.0.0 ≡ q) × (MAX_NAME < length (last_name m.1))
  told_long q some = by (copy_at naming s q) refl some
    where
      long : (p : PathV) (b : Bool) → nat_lt MAX_NAME (length (last_name p)) ≡ b → is_some (then_some b (length (last_name p))) ≡ true → MAX_NAME < length (last_name p)
      long p true is some = ltb-true MAX_NAME (length (last_name p)) is
      long p false is some = absurd (true≢false (sym some))

      by : (o : Option PathV) → copy_at naming s q ≡ o → is_some (long_in o) ≡ true → (m : Copy) × (In m all_copies) × (m.0.0 ≡ q) × (MAX_NAME < length (last_name m.1))
      by None is some = cc
      by (Some p) is some =
          let found = found_copy q all_copies p is in
          (found.0, found.1, found.2, subst (λ (r : PathV). MAX_NAME < length (last_name r)) (sym found.3) (long p (nat_lt MAX_NAME (length (last_name p))) refl some))

  none_long : (ms : List Copy) → first_long ms ≡ None → (m : Copy) → In m ms → nat_lt MAX_NAME (length (last_name m.1)) ≡ false
  none_long [] none m there = absurd there
  none_long (k ∷ ms) none m there = by (nat_lt MAX_NAME (length (last_name k.1))) refl none there (none_long ms)
    where
      by : (b : Bool) → nat_lt MAX_NAME (length (last_name k.1)) ≡ b
          → option_map {U = PathV × ℕ} (λ (j : Copy). (j.0.0, length (last_name j.1))) (cond b (Some k) (find (λ j. nat_lt MAX_NAME (length (last_name j.1))) ms)) ≡ None
          → In m (k ∷ ms) → (first_long ms ≡ None → (m : Copy) → In m ms → nat_lt MAX_NAME (length (last_name m.1)) ≡ false) → nat_lt MAX_NAME (length (last_name m.1)) ≡ false
      by true is none there more = cc
      by false is none (inl same) more = ap (λ (j : Copy). nat_lt MAX_NAME (length (last_name j.1))) same ∙ is
      by false is none (inr there) more = more none m there

  pub first_long_told : IsFirst (long_at naming s) (first_long (conflicts naming s))
  first_long_told = by (first_long (conflicts naming s)) refl
    where
      -- a recursion over the list gives what holds of each
      of_all : (P : Copy → Type 0) (ms : List Copy) → AllByRecursion P ms → (m : Copy) → In m ms → P m
      of_all P [] all m there = absurd there
      of_all P (k ∷ ms) all m (inl is) = subst P (sym is) all.0
      of_all P (k ∷ ms) all m (inr there) = of_all P ms all.1 m there

      nothing : first_long (conflicts naming s) ≡ None → (q : PathV) (o : Option ℕ) → long_at naming s q ≡ o → long_at naming s q ≡ None
      nothing none q None is = is
      nothing none q (Some n) is =
          let long = told_long q (ap is_some is) in
          absurd (true≢false (sym (lt-ltb MAX_NAME (length (last_name long.0.1)) long.3) ∙ none_long all_copies none long.0 long.1))

      by : (o : Option (PathV × ℕ)) → first_long (conflicts naming s) ≡ o → IsFirst (long_at naming s) (first_long (conflicts naming s))
      by None none = subst (IsFirst (long_at naming s)) (sym none) (λ q. nothing none q (long_at naming s q) refl)
      by (Some x) found =
          let own : Found all_copies x.0 x.1 = found_first all_copies x.0 x.1 rising found in
          let there : long_at naming s x.0 ≡ Some x.1 =
          ap (long_at naming s) (sym own.of) ∙ ap long_in (copy_of_file own.copy own.there)
          ∙ long_of own.copy.1 (subst (λ (n : ℕ). MAX_NAME < n) (sym own.size) own.long) ∙ ap Some own.size in
          subst (IsFirst (long_at naming s)) (sym found) (record {
            there = there;
            least = λ q some.
                let long = told_long q some in
                subst (λ (p : PathV). path_cmp x.0 p ≢ Greater) long.2
                (of_all (λ (m : Copy). MAX_NAME < length (last_name m.1) → path_cmp x.0 m.0.0 ≢ Greater) all_copies own.first long.0 long.1 long.3);
          })

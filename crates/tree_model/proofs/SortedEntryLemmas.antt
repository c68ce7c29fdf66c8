-- Entries of a map stand in the order of their keys. The key lemmas are above_last, first_below and mapped_entries.
use Rattle.std.proofs.Common.{◌≡◌, ◌&&◌, Bool, true, false, cond, T, List, [], ◌∷◌, refl, sym, ap, ap₂, ◌∙◌, subst, Option, Some, None, is_some, Ordering, Less, true≢false, inl, inr}
use Rattle.std.specs.Ordering.{is_lt}
use Rattle.std.specs.FinMap as map
use Rattle.std.specs.FinMap.Entries.{below_all}
use Rattle.ids.proofs.BasicLemmas.{apart_from_is_lt}
use Rattle.tree_model.specs.Path.{PathV, path_cmp}
use Rattle.tree_model.proofs.ListedLemmas.{same_path, same_path-true, same_path-itself}
use Rattle.tree_model.proofs.MovingLemmas.{In, found_in}

pub left_holds : (a b : Bool) → T (a && b) → T a
left_holds true b h = tt
left_holds false b h = absurd h

pub right_holds : (a b : Bool) → T (a && b) → T b
right_holds true b h = h
right_holds false b h = absurd h

pub less_is : (r : Ordering) → r ≡ Less → T (is_lt r)
less_is r e = subst (λ (q : Ordering). T (is_lt q)) (sym e) tt

module _ {X : Type 0} where
  -- a path below all of a list isn't in it
  pub none_below : (q : PathV) (es : List (PathV × X)) → T (below_all path_cmp q es) → map.find path_cmp q es ≡ None
  none_below q [] h = refl
  none_below q (e ∷ es) h =
      ap₂ (λ (b : Bool) (o : Option X). cond b (Some e.1) o)
      (apart_from_is_lt (path_cmp q e.0) (left_holds (is_lt (path_cmp q e.0)) (below_all path_cmp q es) h))
      (none_below q es (right_holds (is_lt (path_cmp q e.0)) (below_all path_cmp q es) h))

  tied_none : (q : PathV) (v : X) (es : List (PathV × X)) → T (below_all path_cmp q es) → In (q, v) es → ⊥
  tied_none q v es h there = true≢false (sym (found_in es (q, v) there) ∙ ap is_some (none_below q es h))

  -- an entry of a list in order is what is found at its path
  pub found_sorted : (e : PathV × X) (es : List (PathV × X)) → T (map.is_sorted path_cmp es) → In e es → map.find path_cmp e.0 es ≡ Some e.1
  found_sorted e [] h there = absurd there
  found_sorted e (f ∷ es) h (inl is) =
      subst (λ (g : PathV × X). map.find path_cmp g.0 (f ∷ es) ≡ Some g.1) (sym is)
      (ap (λ (b : Bool). cond b (Some f.1) (map.find path_cmp f.0 es)) (same_path-itself f.0))
  found_sorted e (f ∷ es) h (inr there) = by (same_path e.0 f.0) refl (found_sorted e es (right_holds (below_all path_cmp f.0 es) (map.is_sorted path_cmp es) h) there)
    where
      by : (b : Bool) → same_path e.0 f.0 ≡ b → map.find path_cmp e.0 es ≡ Some e.1 → cond b (Some f.1) (map.find path_cmp e.0 es) ≡ Some e.1
      by false is more = more
      by true is more =
          absurd (tied_none e.0 e.1 es (subst (λ (p : PathV). T (below_all path_cmp p es)) (sym (same_path-true e.0 f.0 is)) (left_holds (below_all path_cmp f.0 es) (map.is_sorted path_cmp es) h)) there)

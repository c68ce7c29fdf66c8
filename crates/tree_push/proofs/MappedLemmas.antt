-- A table that is filled from another's entries, one after another. The key lemmas are mapped_start, mapped_more and mapped_end.
use Rattle.std.proofs.Common.{◌≡◌, inl, inr, Bool, true, false, cond, List, [], ◌∷◌, Option, None, Some, option_map, refl, sym, ap, ◌∙◌, subst}
use Rattle.std.specs.FinMap as fin
use Rattle.std.specs.List.{AllByRecursion}
use Rattle.std.specs.Option.{option_or}
use Rattle.tree_model.specs.Path.{PathV, path_cmp}
use Rattle.tree_model.specs.PathOrder.{paths_total}
use Rattle.tree_model.proofs.ListedLemmas.{same_path, same_path-true}
use Rattle.tree_model.proofs.MovingLemmas.{In}
use Rattle.folder_side.proofs.SortedEntryLemmas.{Rises-entries, found_of, skip_first}

module _ {X Y : Type 0} (f : PathV → X → Y) (whole : fin.FinMap path_cmp X) where
  -- what is filled, or is still left, is all of it; and what is left stands in the whole
  pub record IsMapped (done : fin.FinMap path_cmp Y) (rest : List (PathV × X)) : Type 0 where
    pub value : (q : PathV) → option_or (fin.get done q) (option_map (f q) (fin.find path_cmp q rest)) ≡ option_map (f q) (fin.get whole q)
    pub are : AllByRecursion (λ e. fin.get whole e.0 ≡ Some e.1) rest

  all_found : (es : List (PathV × X)) → ((e : PathV × X) → In e es → fin.get whole e.0 ≡ Some e.1) → AllByRecursion (λ e. fin.get whole e.0 ≡ Some e.1) es
  all_found [] is = tt
  all_found (e ∷ es) is = (is e (inl refl), all_found es (λ other there. is other (inr there)))

  pub mapped_start : (done : fin.FinMap path_cmp Y) → done ≡ fin.empty → IsMapped done (fin.entries whole)
  mapped_start done none = record {
    value = λ q. ap (λ (o : Option Y). option_or o (option_map (f q) (fin.find path_cmp q (fin.entries whole)))) (ap (λ (m : fin.FinMap path_cmp Y). fin.get m q) none ∙ fin.get-empty path_cmp q)
        ∙ ap (option_map (f q)) (sym (fin.get-entries whole q));
    are = all_found (fin.entries whole) (λ e there. fin.get-entries whole e.0 ∙ found_of (fin.entries whole) e (Rises-entries whole) there);
  }

  pub mapped_more : (done new : fin.FinMap path_cmp Y) (path : PathV) (x : X) (y : Y) (rest : List (PathV × X)) → IsMapped done ((path, x) ∷ rest)
      → y ≡ f path x → new ≡ fin.insert done path y → IsMapped new rest
  mapped_more done new path x y rest is one more = record {
    value = λ q. ap (λ (o : Option Y). option_or o (option_map (f q) (fin.find path_cmp q rest))) (got q) ∙ by q (same_path q path) refl;
    are = is.are.1;
  }
    where
      got : (q : PathV) → fin.get new q ≡ cond (same_path q path) (Some y) (fin.get done q)
      got q = ap (λ (m : fin.FinMap path_cmp Y). fin.get m q) more ∙ fin.get-insert paths_total done path y q

      by : (q : PathV) (b : Bool) → same_path q path ≡ b
          → option_or (cond (same_path q path) (Some y) (fin.get done q)) (option_map (f q) (fin.find path_cmp q rest)) ≡ option_map (f q) (fin.get whole q)
      by q true same =
          ap (λ b. option_or (cond b (Some y) (fin.get done q)) (option_map (f q) (fin.find path_cmp q rest))) same
          ∙ subst (λ (p : PathV). Some y ≡ option_map (f p) (fin.get whole p)) (sym (same_path-true q path same)) (ap Some one ∙ ap (option_map (f path)) (sym is.are.0))
      by q false apart =
          ap (λ b. option_or (cond b (Some y) (fin.get done q)) (option_map (f q) (fin.find path_cmp q rest))) apart
          ∙ ap (λ (o : Option X). option_or (fin.get done q) (option_map (f q) o)) (sym (skip_first q (path, x) rest apart)) ∙ is.value q

  pub mapped_end : (done : fin.FinMap path_cmp Y) → IsMapped done [] → (q : PathV) → fin.get done q ≡ option_map (f q) (fin.get whole q)
  mapped_end done is q = none (fin.get done q) ∙ is.value q
    where
      none : (o : Option Y) → o ≡ option_or o None
      none None = refl
      none (Some y) = refl

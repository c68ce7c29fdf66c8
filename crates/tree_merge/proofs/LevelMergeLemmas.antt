-- The merge of one directory's entries, from what was decided and named. The key lemmas are level_refused and level_merged.
use Rattle.std.proofs.Common.{◌≡◌, ◌||◌, Bool, true, false, if◌then◌else◌, ℕ, List, [], ◌∷◌, ◌++◌, refl, sym, ap, ap₂, ◌∙◌, subst, Option, Some, None, IsSome, is_some, true≢false}
use Rattle.std.specs.FinMap as map
use Rattle.std.specs.Option.{option_or}
use Rattle.std.specs.Ordering.{is_lt}
use Rattle.ids.specs.Key.{Objects}
use Rattle.tree_model.specs.declared.node.Node.{Node}
use Rattle.tree_model.specs.Path.{PathV, path_cmp}
use Rattle.tree_model.specs.PathOrder.{paths_exact, paths_total}
use Rattle.tree_model.specs.DirectorySurvival.{Sides, is_under, stays}
use Rattle.tree_model.specs.ConflictCopies.{conflicts, first_long}
use Rattle.tree_model.specs.MergeParts.{IsFirst, beyond, copy_at, earlier, long_at, long_behind, long_in, told_behind}
use Rattle.tree_model.specs.ThreeWayMerge.{merged}
use Rattle.tree_model.proofs.FirstOfLemmas.{copy_unknown, first_behind, first_joined, first_long_told, first_same, told_long}
use Rattle.tree_model.proofs.MergedAtLemmas.{at_place, nothing_under}
use Rattle.tree_model.proofs.PartLemmas.{some_merged}
use Rattle.tree_model.proofs.ResultTreeLemmas.{no_root_merged}
use Rattle.conflict_names.specs.Naming.{naming}
use Rattle.conflict_names.proofs.GoodNameLemmas.{naming-naming}
use Rattle.object_graph.specs.Unchanged.{Keeps}
use Rattle.tree_merge.specs.ConflictNaming.{IsNamedTree}
use Rattle.tree_merge.specs.Decision.{AreWholeIn}
use Rattle.tree_merge.specs.LevelMerge.{MakesIf, MakesLevel, MakesNamed, MergesLevel, RefusesName}
use Rattle.tree_merge.specs.Sides.{AreTrees}
use Rattle.tree_merge.specs.WorkSoFar.{long_told}
use Rattle.tree_merge.specs.declared.conflict_copies.Named.{Named}
use Rattle.tree_merge.specs.declared.opening.Kept.{Kept}
use Rattle.tree_merge.specs.declared.work.Work.{Work}
use Rattle.tree_merge.proofs.JoinedSideLemmas.{seen_len}
use Rattle.tree_merge.proofs.LevelMadeLemmas.{from_long}
use Rattle.tree_merge.proofs.MadeLemmas.{kept_itself}

module _ (objects : Objects) (path : PathV) (head : Option (List ℕ)) (level : Sides) (trees : AreTrees level) (kept : map.FinMap path_cmp Kept) (old new : Work) where
  root_none : copy_at naming level [] ≡ None
  root_none = copy_unknown naming level [] (ap₂ ◌||◌ (ap is_some trees.base.no_root) (ap₂ ◌||◌ (ap is_some trees.head.no_root) (ap is_some trees.pushed.no_root)))

  -- a merge that has a path has something that survives
  survives_of : (q : PathV) → IsSome (map.get (merged naming level) q) → stays level [] ≡ true
  survives_of q some = by (stays level []) refl
    where
      none : (q : PathV) → stays level [] ≡ false → map.get (merged naming level) q ≡ None
      none [] gone = no_root_merged naming naming-naming level trees.base trees.head trees.pushed
      none (n ∷ q) gone = nothing_under naming naming-naming level trees.base trees.head trees.pushed [] (n ∷ q) gone refl

      by : (b : Bool) → stays level [] ≡ b → stays level [] ≡ true
      by true is = is
      by false gone = absurd (true≢false (sym some ∙ ap is_some (none q gone)))

  -- ---- a name is too long

  pub level_refused : (own : PathV) (bytes : ℕ) → first_long (conflicts naming level) ≡ Some (own, bytes) → RefusesName path own bytes old new → (part : Option Kept) → is_some part ≡ true
      → MergesLevel objects path head level kept old new part
  level_refused own bytes found refused part some = record {
    survives = some ∙ sym something;
    long = λ f first.
        subst (IsFirst (λ q. option_or (f q) (told_behind path (long_at naming level) q))) (sym (refused.long ∙ ap (earlier (long_told old.long)) (sym (ap (long_behind path) found))))
        (first_joined f (told_behind path (long_at naming level)) (long_told old.long) (long_behind path (first_long (conflicts naming level))) first
        (first_behind path (long_at naming level) (ap long_in root_none) (first_long (conflicts naming level)) (first_long_told naming level)));
    named = λ short. absurd (never (long_told old.long) (sym refused.long ∙ short));
  }
    where
      never : (o : Option (PathV × ℕ)) → earlier o (Some (path ++ own, bytes)) ≡ None → ⊥
      never None e = cc
      never (Some x) e = by (is_lt (path_cmp (path ++ own) x.0)) e
        where
          by : (b : Bool) → (if b then Some (path ++ own, bytes) else Some x) ≡ None → ⊥
          by true e = cc
          by false e = cc

      first_here : IsFirst (long_at naming level) (Some (own, bytes))
      first_here = subst (IsFirst (long_at naming level)) found (first_long_told naming level)

      something : stays level [] ≡ true
      something =
          let long = told_long naming level own (ap is_some first_here.there) in
          survives_of long.0.1 (ap is_some (at_place naming naming-naming level long.0 long.1))

  -- ---- all have their names

  pub level_merged : (named : Named) → ((more : Objects) → Keeps objects more → IsNamedTree more level named) → AreWholeIn objects named.nodes → (part : Option Kept) → MakesNamed objects path head named kept old new part
      → MergesLevel objects path head level kept old new part
  level_merged named told whole part done = record {
    survives = by_part part makes.makes;
    long = λ f first.
        subst (IsFirst (λ q. option_or (f q) (told_behind path (long_at naming level) q))) (sym (same_long part makes.makes ∙ makes.mid_long))
        (first_same f (λ q. option_or (f q) (told_behind path (long_at naming level) q)) (λ q. sym (ap (option_or (f q)) (none_told q (is_under path q)) ∙ or_none (f q))) (long_told old.long) first);
    named = λ short. record { named = named; told = told; whole = whole; makes = done };
  }
    where
      makes : MakesLevel path named kept done.own old new part
      makes = done.makes

      own : IsNamedTree objects level named
      own = told objects (kept_itself objects)

      same_long : (p : Option Kept) → MakesIf named.nodes kept done.own makes.mid new p → long_told new.long ≡ long_told makes.mid.long
      same_long None made = made.long
      same_long (Some k) made = from_long named.nodes kept k.paths makes.mid new k.id done.own made.makes

      none_long : (q : PathV) → long_at naming level q ≡ None
      none_long = subst (IsFirst (long_at naming level)) own.short (first_long_told naming level)

      none_told : (q : PathV) (b : Bool) → (if b then long_at naming level (beyond path q) else None) ≡ None
      none_told q true = none_long (beyond path q)
      none_told q false = refl

      or_none : (o : Option ℕ) → option_or o None ≡ o
      or_none None = refl
      or_none (Some x) = refl

      sized : map.len (merged naming level) ≡ map.len named.nodes
      sized = seen_len objects named.nodes (merged naming level) own.nodes

      -- no entries where nothing survives, and some where something does
      by_part : (p : Option Kept) → MakesIf named.nodes kept done.own makes.mid new p → is_some p ≡ stays level []
      by_part None made = by (stays level []) refl
        where
          by : (b : Bool) → stays level [] ≡ b → false ≡ stays level []
          by false is = sym is
          by true is =
              let found = some_merged naming naming-naming level is in
              let nothing : map.get (merged naming level) found.0 ≡ None =
              ap (λ (t : map.FinMap path_cmp Node). map.get t found.0) (map.empty_of_len (merged naming level) (sized ∙ made.none)) ∙ map.get-empty path_cmp found.0 in
              absurd (true≢false (sym found.1 ∙ ap is_some nothing))
      by_part (Some k) made = by (stays level []) refl
        where
          by : (b : Bool) → stays level [] ≡ b → true ≡ stays level []
          by true is = sym is
          by false is =
              absurd (made.some (sym sized ∙ ap map.len (map.same_map paths_total paths_exact (merged naming level) map.empty (λ q. none q ∙ sym (map.get-empty path_cmp q))) ∙ map.len-empty path_cmp Node))
            where
              none : (q : PathV) → map.get (merged naming level) q ≡ None
              none q = at (map.get (merged naming level) q) refl
                where
                  at : (o : Option Node) → map.get (merged naming level) q ≡ o → map.get (merged naming level) q ≡ None
                  at None e = e
                  at (Some x) e = absurd (true≢false (sym (survives_of q (ap is_some e)) ∙ is))

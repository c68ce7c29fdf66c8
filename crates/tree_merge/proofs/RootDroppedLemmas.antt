-- What three sides have at the paths of a table, without the root. The key lemmas are no_root, rest_few, rest_whole and rest_seen.
use Rattle.std.proofs.Common.{◌≡◌, ◌≤◌, ◌-◌, ◌||◌, Bool, true, false, cond, [], refl, sym, ap, ap₂, ◌∙◌, subst, arith, Option, None, is_some, option_map}
use Rattle.std.specs.FinMap as map
use Rattle.ids.specs.Key.{Objects}
use Rattle.tree_model.specs.Path.{PathV}
use Rattle.tree_model.specs.PathOrder.{paths_total}
use Rattle.tree_model.specs.DirectorySurvival.{Sides}
use Rattle.tree_model.specs.ConflictCopies.{in_trees}
use Rattle.tree_model.proofs.ListedLemmas.{same_path, same_path-itself, same_path-true}
use Rattle.object_graph.specs.Objects.{node_of}
use Rattle.tree_merge.specs.FileChoice.{IsWholeAt}
use Rattle.tree_merge.specs.Sides.{AreSeen, AreSeenIn, AreTrees, Threes, base_in, head_in, pushed_in}
use Rattle.tree_merge.specs.declared.sides.Three.{Three}

module _ (m n : Threes) (is : n ≡ map.remove m []) where
  at : (q : PathV) → map.get n q ≡ cond (same_path q []) None (map.get m q)
  at q = ap (λ (t : Threes). map.get t q) is ∙ map.get-remove paths_total m [] q

  pub no_root : map.get n [] ≡ None
  no_root = at [] ∙ ap (λ (b : Bool). cond b None (map.get m [])) (same_path-itself [])

  pub rest_few : map.len n ≤ map.len m
  rest_few = by (map.contains_key m []) (ap map.len is ∙ map.len-remove paths_total m [])
    where
      by : (b : Bool) → map.len n ≡ cond b (map.len m - 1) (map.len m) → map.len n ≤ map.len m
      by true e = omega arith
      by false e = omega arith

  pub rest_whole : (objects : Objects) → ((q : PathV) → IsWholeAt objects (map.get m q)) → (q : PathV) → IsWholeAt objects (map.get n q)
  rest_whole objects whole q = by (same_path q []) (at q)
    where
      by : (b : Bool) → map.get n q ≡ cond b None (map.get m q) → IsWholeAt objects (map.get n q)
      by true e = subst (IsWholeAt objects) (sym e) tt
      by false e = subst (IsWholeAt objects) (sym e) (whole q)

  -- of three trees, which have nothing at the root
  pub rest_seen : (objects : Objects) (s : Sides) → AreTrees s → AreSeenIn objects m s → AreSeenIn objects n s
  rest_seen objects s trees seen more keeps = record {
    known = λ q. known q (same_path q []) refl (at q);
    base = λ q. base q (same_path q []) refl (at q);
    head = λ q. head q (same_path q []) refl (at q);
    pushed = λ q. pushed q (same_path q []) refl (at q);
  }
    where
      old : AreSeen more m s
      old = seen more keeps

      root_unknown : in_trees s [] ≡ false
      root_unknown = ap₂ ◌||◌ (ap is_some trees.base.no_root) (ap₂ ◌||◌ (ap is_some trees.head.no_root) (ap is_some trees.pushed.no_root))

      known : (q : PathV) (b : Bool) → same_path q [] ≡ b → map.get n q ≡ cond b None (map.get m q) → in_trees s q ≡ is_some (map.get n q)
      known q true tie e = ap (in_trees s) (same_path-true q [] tie) ∙ root_unknown ∙ sym (ap is_some e)
      known q false tie e = old.known q ∙ sym (ap is_some e)

      base : (q : PathV) (b : Bool) → same_path q [] ≡ b → map.get n q ≡ cond b None (map.get m q) → map.get s.base q ≡ option_map (node_of more) (base_in (map.get n q))
      base q true tie e = ap (map.get s.base) (same_path-true q [] tie) ∙ trees.base.no_root ∙ sym (ap (λ (o : Option Three). option_map (node_of more) (base_in o)) e)
      base q false tie e = old.base q ∙ sym (ap (λ (o : Option Three). option_map (node_of more) (base_in o)) e)

      head : (q : PathV) (b : Bool) → same_path q [] ≡ b → map.get n q ≡ cond b None (map.get m q) → map.get s.head q ≡ option_map (node_of more) (head_in (map.get n q))
      head q true tie e = ap (map.get s.head) (same_path-true q [] tie) ∙ trees.head.no_root ∙ sym (ap (λ (o : Option Three). option_map (node_of more) (head_in o)) e)
      head q false tie e = old.head q ∙ sym (ap (λ (o : Option Three). option_map (node_of more) (head_in o)) e)

      pushed : (q : PathV) (b : Bool) → same_path q [] ≡ b → map.get n q ≡ cond b None (map.get m q) → map.get s.pushed q ≡ option_map (node_of more) (pushed_in (map.get n q))
      pushed q true tie e = ap (map.get s.pushed) (same_path-true q [] tie) ∙ trees.pushed.no_root ∙ sym (ap (λ (o : Option Three). option_map (node_of more) (pushed_in o)) e)
      pushed q false tie e = old.pushed q ∙ sym (ap (λ (o : Option Three). option_map (node_of more) (pushed_in o)) e)

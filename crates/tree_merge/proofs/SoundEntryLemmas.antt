-- Entries of a sound table. The key lemmas are nothing_below and below_none.
use Rattle.std.proofs.Common.{◌≡◌, ◌≢◌, ℕ, List, [], ◌∷◌, ◌++◌, refl, sym, ap, ◌∙◌, subst, append_assoc, Option, Some, None, is_some, IsSome}
use Rattle.std.specs.FinMap as map
use Rattle.tree_model.specs.Path.{PathV}
use Rattle.object_graph.specs.declared.entry.Entry.{Entry}
use Rattle.object_graph.specs.declared.entry.Entry.TheVariants.{Dir}
use Rattle.tree_merge.specs.Sides.{Entries}
use Rattle.tree_merge.specs.TreeBuilding.{IsSound}
use Rattle.ids.proofs.BasicLemmas.{pushed_is_some}

-- what has something below it is a directory
pub above : (W : Entries) → IsSound W → (p : PathV) (m : List ℕ) (q : PathV) → p ≢ [] → IsSome (map.get W (p ++ m ∷ q)) → map.get W p ≡ Some Dir
above W sound p m [] other there = sound.in_dirs p m other there
above W sound p m (k ∷ q) other there =
    let split : (p ++ m ∷ []) ++ k ∷ q ≡ p ++ m ∷ k ∷ q = append_assoc p (m ∷ []) (k ∷ q) in
    let next : map.get W (p ++ m ∷ []) ≡ Some Dir = above W sound (p ++ m ∷ []) k q (pushed_is_some p m) (subst (λ (r : PathV). IsSome (map.get W r)) (sym split) there) in
    sound.in_dirs p m other (ap is_some next)

pub nothing_below : (W : Entries) → IsSound W → (p : PathV) (m : List ℕ) (q : PathV) → p ≢ [] → (map.get W p ≡ Some Dir → ⊥) → map.get W (p ++ m ∷ q) ≡ None
nothing_below W sound p m q other no_dir = by (map.get W (p ++ m ∷ q)) refl
  where
    by : (o : Option Entry) → map.get W (p ++ m ∷ q) ≡ o → map.get W (p ++ m ∷ q) ≡ None
    by None e = e
    by (Some x) e = absurd (no_dir (above W sound p m q other (ap is_some e)))

pub below_none : (W : Entries) → IsSound W → (d : PathV) (n : List ℕ) (q : PathV) → map.get W (d ++ n ∷ []) ≡ None → map.get W (d ++ n ∷ q) ≡ None
below_none W sound d n [] away = away
below_none W sound d n (m ∷ q) away =
    ap (map.get W) (sym (append_assoc d (n ∷ []) (m ∷ q)))
    ∙ nothing_below W sound (d ++ n ∷ []) m q (pushed_is_some d n) (λ h. differ (sym away ∙ h))
  where
    differ : None ≡ Some Dir → ⊥
    differ e = cc

-- The entries of a directory are merged by these entries alone, once it is told what survives below them. The key lemmas are
-- tree_top, merges_here and level_len.
use Rattle.std.proofs.Common.{◌≡◌, ◌≢◌, ℕ, ◌+◌, ◌||◌, ◌&&◌, not, Bool, true, false, if◌then◌else◌, List, [], ◌∷◌, ◌++◌, nat_eq, refl, sym, ap, ap₂, ◌∙◌, Option, Some, None, IsSome, is_some, option_map, true≢false, ◌⊎◌, inl, inr}
use Rattle.std.proofs.lemmas.Bool.{and_parts, or_cases, or_right}
use Rattle.std.specs.Bool.{one_answer}
use Rattle.std.specs.Cmp.Lexicographic.{bytes_decides, pointwise}
use Rattle.std.specs.FinMap as map
use Rattle.std.specs.List.{AllByRecursion, sum_by}
use Rattle.std.specs.Option.{option_or}
use Rattle.tree_model.specs.declared.node.Node.{Node}
use Rattle.tree_model.specs.declared.node.Node.TheVariants.{Dir, File}
use Rattle.tree_model.specs.Path.{PathV, IsPath, last_name, parent_of, path_cmp}
use Rattle.tree_model.specs.FileMerge.{Choice, choice}
use Rattle.tree_model.specs.Tree.{Tree, IsTree, file_of, has_dir, is_dir}
use Rattle.tree_model.specs.DirectorySurvival.{Sides, choice_at, gets_file, is_under, is_within, kept, kept_dir, keeps, paths_of_all, stays}
use Rattle.tree_model.specs.ConflictCopies.{Naming, in_trees, leaver_at}
use Rattle.tree_model.specs.MergeParts.{IsLevel, IsTop, MergesHere, copy_at}
use Rattle.tree_model.specs.PathCounts.{paths_below}
use Rattle.tree_model.specs.ThreeWayMerge.{IsNaming, merged, node_at}
use Rattle.tree_model.proofs.BelowLemmas.{name_itself, parent_push, some_of_dir, under_within, within_is}
use Rattle.tree_model.proofs.FirstOfLemmas.{copy_unknown}
use Rattle.tree_model.proofs.LevelLemmas.{stays_levels}
use Rattle.tree_model.proofs.ListedLemmas.{any_at, any_of, is_in, listed, same_path, same_path-apart, same_path-itself, same_path-true}
use Rattle.tree_model.proofs.NothingLostLemmas.{stays_in_either}
use Rattle.tree_model.proofs.PartLemmas.{keys_distinct}
use Rattle.tree_model.proofs.RegionLemmas.{IsRegion, copy_region, merged_region}
use Rattle.tree_model.proofs.ResultTreeLemmas.{IsCopy, no_root_merged, not_root, origin}
use Rattle.tree_model.proofs.ShownCountLemmas.{AreApart, AreDistinctPaths, is_below_any, shown_and_below}
use Rattle.tree_model.proofs.SurvivalLemmas.{stays_from}

-- ---- three trees of one level

pub tree_top : (left_out : List ℕ → Bool) (t u : Tree) → IsTop left_out t u → IsTree t → IsTree u
tree_top left_out t u top tree = record {
  no_root = top.no_root;
  in_dirs = λ e n some there. absurd (deep e n some there);
  named = named;
}
  where
    deep : (e : PathV) (n : List ℕ) → e ≢ [] → IsSome (map.get u (e ++ n ∷ [])) → ⊥
    deep [] n some there = some refl
    deep (m ∷ []) n some there = true≢false (sym there ∙ ap is_some (top.nothing m n []))
    deep (m ∷ k ∷ e) n some there = true≢false (sym there ∙ ap is_some (top.nothing m k (e ++ n ∷ [])))

    of_entry : (n : List ℕ) (b : Bool) → is_some (if b then None else map.get t (n ∷ [])) ≡ true → IsPath (n ∷ [])
    of_entry n true e = absurd (true≢false (sym e))
    of_entry n false e = tree.named (n ∷ []) e

    named : (q : PathV) → IsSome (map.get u q) → IsPath q
    named [] there = absurd (true≢false (sym there ∙ ap is_some top.no_root))
    named (n ∷ []) there = of_entry n (left_out n) (ap is_some (sym (top.here n)) ∙ there)
    named (n ∷ m ∷ q) there = absurd (true≢false (sym there ∙ ap is_some (top.nothing n m q)))

module _ (s l : Sides) (survives : List ℕ → Bool) (level : IsLevel s l survives) (head : IsTree s.head) (pushed : IsTree s.pushed) where
  -- at an entry

  head_here : (n : List ℕ) → map.get l.head (n ∷ []) ≡ map.get s.head (n ∷ [])
  head_here n = level.head.here n

  pushed_here : (n : List ℕ) → map.get l.pushed (n ∷ []) ≡ map.get s.pushed (n ∷ [])
  pushed_here n = level.pushed.here n

  -- base's entry, if it isn't left out
  file_left : (b : Bool) (o : Option Node) → file_of (if b && is_dir o then None else o) ≡ file_of o
  file_left false o = refl
  file_left true None = refl
  file_left true (Some Dir) = refl
  file_left true (Some (File f)) = refl

  choice_here : (n : List ℕ) → choice_at l (n ∷ []) ≡ choice_at s (n ∷ [])
  choice_here n =
      ap (λ (o : Option Node). choice (file_of o) (file_of (map.get l.head (n ∷ []))) (file_of (map.get l.pushed (n ∷ [])))) (level.base.here n)
      ∙ ap (λ o. choice o (file_of (map.get l.head (n ∷ []))) (file_of (map.get l.pushed (n ∷ [])))) (file_left (survives n) (map.get s.base (n ∷ [])))
      ∙ ap₂ (λ (h p : Option Node). choice (file_of (map.get s.base (n ∷ []))) (file_of h) (file_of p)) (head_here n) (pushed_here n)

  -- where something survives below an entry, head or pushed has a directory there
  either_here : (n : List ℕ) → survives n ≡ true → (has_dir s.head (n ∷ []) ≡ true) ⊎ (has_dir s.pushed (n ∷ []) ≡ true)
  either_here n is =
      stays_in_either s head pushed (n ∷ []) (λ e. cc) (level.each n ∙ ap (λ (b : Bool). kept_dir s (n ∷ []) || b) is ∙ or_true (kept_dir s (n ∷ [])))
    where
      or_true : (b : Bool) → (b || true) ≡ true
      or_true true = refl
      or_true false = refl

  known_here : (n : List ℕ) → in_trees l (n ∷ []) ≡ in_trees s (n ∷ [])
  known_here n =
      ap₂ (λ (h p : Option Node). is_some (map.get l.base (n ∷ [])) || (is_some h || is_some p)) (head_here n) (pushed_here n)
      ∙ ap (λ (o : Option Node). is_some o || (is_some (map.get s.head (n ∷ [])) || is_some (map.get s.pushed (n ∷ [])))) (level.base.here n)
      ∙ by (survives n) refl
    where
      some_other : (b : Bool) (x y : Bool) → (x ≡ true) ⊎ (y ≡ true) → (false || (x || y)) ≡ (b || (x || y))
      some_other true true y either = refl
      some_other true false true either = refl
      some_other true false false (inl e) = absurd (true≢false (sym e))
      some_other true false false (inr e) = absurd (true≢false (sym e))
      some_other false x y either = refl

      some_either : (has_dir s.head (n ∷ []) ≡ true) ⊎ (has_dir s.pushed (n ∷ []) ≡ true) → (is_some (map.get s.head (n ∷ [])) ≡ true) ⊎ (is_some (map.get s.pushed (n ∷ [])) ≡ true)
      some_either (inl dir) = inl (some_of_dir (map.get s.head (n ∷ [])) dir)
      some_either (inr dir) = inr (some_of_dir (map.get s.pushed (n ∷ [])) dir)

      left : survives n ≡ true → (b : Bool) → is_dir (map.get s.base (n ∷ [])) ≡ b
          → (is_some (if b then None else map.get s.base (n ∷ [])) || (is_some (map.get s.head (n ∷ [])) || is_some (map.get s.pushed (n ∷ [])))) ≡ in_trees s (n ∷ [])
      left is true dir = some_other (is_some (map.get s.base (n ∷ []))) (is_some (map.get s.head (n ∷ []))) (is_some (map.get s.pushed (n ∷ []))) (some_either (either_here n is))
      left is false dir = refl

      by : (b : Bool) → survives n ≡ b
          → (is_some (if b && is_dir (map.get s.base (n ∷ [])) then None else map.get s.base (n ∷ [])) || (is_some (map.get s.head (n ∷ [])) || is_some (map.get s.pushed (n ∷ [])))) ≡ in_trees s (n ∷ [])
      by true is = left is (is_dir (map.get s.base (n ∷ []))) refl
      by false is = refl

  -- only the entries are known
  deep_none : (n m : List ℕ) (r : PathV) → in_trees l (n ∷ m ∷ r) ≡ false
  deep_none n m r = ap₂ ◌||◌ (ap is_some (level.base.nothing n m r)) (ap₂ ◌||◌ (ap is_some (level.head.nothing n m r)) (ap is_some (level.pushed.nothing n m r)))

  root_none : in_trees l [] ≡ false
  root_none = ap₂ ◌||◌ (ap is_some level.base.no_root) (ap₂ ◌||◌ (ap is_some level.head.no_root) (ap is_some level.pushed.no_root))

  -- a fact on what is known holds of entries alone
  entry_of : (P : PathV → Type 0) → ((n : List ℕ) → in_trees s (n ∷ []) ≡ true → P (n ∷ [])) → (q : PathV) → in_trees l q ≡ true → P q
  entry_of P each [] known = absurd (true≢false (sym known ∙ root_none))
  entry_of P each (n ∷ []) known = each n (sym (known_here n) ∙ known)
  entry_of P each (n ∷ m ∷ r) known = absurd (true≢false (sym known ∙ deep_none n m r))

  -- ---- which directories survive

  kept_here : (n : List ℕ) → kept_dir l (n ∷ []) ≡ (kept_dir s (n ∷ []) || survives n)
  kept_here n =
      ap₂ (λ (h p : Option Node). (is_dir h && is_dir p) || ((is_dir h || is_dir p) && not (has_dir l.base (n ∷ [])))) (head_here n) (pushed_here n)
      ∙ ap (λ (o : Option Node). (h && p) || ((h || p) && not (is_dir o))) (level.base.here n)
      ∙ by (survives n) refl
    where
      h : Bool
      h = has_dir s.head (n ∷ [])

      p : Bool
      p = has_dir s.pushed (n ∷ [])

      or_none : (x : Bool) → x ≡ (x || false)
      or_none true = refl
      or_none false = refl

      all_true : (x y z : Bool) → (x ≡ true) ⊎ (y ≡ true) → ((x && y) || ((x || y) && true)) ≡ (z || true)
      all_true true true true either = refl
      all_true true true false either = refl
      all_true true false true either = refl
      all_true true false false either = refl
      all_true false true true either = refl
      all_true false true false either = refl
      all_true false false z (inl e) = absurd (true≢false (sym e))
      all_true false false z (inr e) = absurd (true≢false (sym e))

      no_dir : (o : Option Node) → is_dir (if true && is_dir o then None else o) ≡ false
      no_dir None = refl
      no_dir (Some Dir) = refl
      no_dir (Some (File f)) = refl

      by : (c : Bool) → survives n ≡ c
          → ((h && p) || ((h || p) && not (is_dir (if c && is_dir (map.get s.base (n ∷ [])) then None else map.get s.base (n ∷ []))))) ≡ (kept_dir s (n ∷ []) || c)
      by true is = ap (λ (c : Bool). (h && p) || ((h || p) && not c)) (no_dir (map.get s.base (n ∷ []))) ∙ all_true h p (kept_dir s (n ∷ [])) (either_here n is)
      by false is = or_none (kept_dir s (n ∷ []))

  -- in a level a directory survives by its own kind
  stays_kept : (n : List ℕ) → stays l (n ∷ []) ≡ kept_dir l (n ∷ [])
  stays_kept n = one_answer (stays l (n ∷ [])) (kept_dir l (n ∷ [])) ((λ e. e), (λ e. e)) ((λ e. stays_from l (n ∷ []) (kept (n ∷ []) e)), there)
    where
      only : (q : PathV) → in_trees l q ≡ true → keeps l (n ∷ []) q ≡ true → kept_dir l (n ∷ []) ≡ true
      only q known passes = let rest = within_is (n ∷ []) q (within q passes) in own q known passes rest.0 rest.1
        where
          within : (q : PathV) → keeps l (n ∷ []) q ≡ true → is_within (n ∷ []) q ≡ true
          within q passes =
              elim (or_cases (is_within (n ∷ []) q && kept_dir l q) (is_under (n ∷ []) q && gets_file l q) passes) [
                | inl h ↦ (and_parts (is_within (n ∷ []) q) (kept_dir l q) h).0
                | inr h ↦ under_within (n ∷ []) q (and_parts (is_under (n ∷ []) q) (gets_file l q) h).0
              ]

          here : keeps l (n ∷ []) (n ∷ []) ≡ true → kept_dir l (n ∷ []) ≡ true
          here passes =
              elim (or_cases (is_within (n ∷ []) (n ∷ []) && kept_dir l (n ∷ [])) (is_under (n ∷ []) (n ∷ []) && gets_file l (n ∷ [])) passes) [
                | inl h ↦ (and_parts (is_within (n ∷ []) (n ∷ [])) (kept_dir l (n ∷ [])) h).1
                | inr h ↦ absurd (true≢false (sym (and_parts (pointwise nat_eq n n) false (and_parts (is_under (n ∷ []) (n ∷ [])) (gets_file l (n ∷ [])) h).0).1))
              ]

          own : (q : PathV) → in_trees l q ≡ true → keeps l (n ∷ []) q ≡ true → (r : PathV) → q ≡ n ∷ r → kept_dir l (n ∷ []) ≡ true
          own q known passes [] is = here (ap (keeps l (n ∷ [])) (sym is) ∙ passes)
          own q known passes (m ∷ r) is = absurd (true≢false (sym known ∙ ap (in_trees l) is ∙ deep_none n m r))

      there : stays l (n ∷ []) ≡ true → kept_dir l (n ∷ []) ≡ true
      there e =
          let found = any_at (keeps l (n ∷ [])) (paths_of_all l) e in
          only found.path (sym (listed l found.path) ∙ found.there) found.passes

  pub stays_here : (n : List ℕ) → stays l (n ∷ []) ≡ stays s (n ∷ [])
  stays_here n = stays_kept n ∙ kept_here n ∙ sym (level.each n)

  leaver_here : (n : List ℕ) → leaver_at l (n ∷ []) ≡ leaver_at s (n ∷ [])
  leaver_here n = ap₂ (λ (b : Bool) (k : Choice). option_or k.side (if b then k.main else None)) (stays_here n) (choice_here n)

  node_here : (n : List ℕ) → node_at l (n ∷ []) ≡ node_at s (n ∷ [])
  node_here n = ap₂ (λ (b : Bool) (k : Choice). if b then Some Dir else option_map File k.main) (stays_here n) (choice_here n)

module _ (naming : Naming) (is_naming : IsNaming naming) (s l : Sides) (survives : List ℕ → Bool) (level : IsLevel s l survives) (base : IsTree s.base) (head : IsTree s.head) (pushed : IsTree s.pushed) where
  -- the root's own entries
  abbrev at_root : PathV → Bool
  at_root e = same_path e []

  region_here : IsRegion s l [] at_root
  region_here = record {
    rooted = none (in_trees s []) refl;
    known = known;
    some = entry_of s l survives level head pushed (λ q. q ≢ []) (λ n there e. cc);
    within = entry_of s l survives level head pushed (λ q. at_root (parent_of q) ≡ true) (λ n there. same_path-itself []);
    lies = λ q some is. (q, some, refl);
    leaves = entry_of s l survives level head pushed (λ q. leaver_at l q ≡ leaver_at s q) (λ n there. leaver_here s l survives level head pushed n);
    stands = entry_of s l survives level head pushed (λ q. node_at l q ≡ node_at s q) (λ n there. node_here s l survives level head pushed n);
  }
    where
      none : (b : Bool) → in_trees s [] ≡ b → in_trees s [] ≡ false
      none true there = absurd (not_root naming is_naming s base head pushed [] there refl)
      none false there = there

      known : (q : PathV) → q ≢ [] → at_root (parent_of q) ≡ true → in_trees l q ≡ in_trees s q
      known [] some is = absurd (some refl)
      known (n ∷ []) some is = known_here s l survives level head pushed n
      known (n ∷ m ∷ r) some is = let both : n ∷ parent_of (m ∷ r) ≡ [] = same_path-true (n ∷ parent_of (m ∷ r)) [] is in cc

  itself : (o : Option PathV) → option_map (λ (p : PathV). [] ++ p) o ≡ o
  itself None = refl
  itself (Some p) = refl

  own_base : IsTree l.base
  own_base = tree_top (λ name. survives name && has_dir s.base (name ∷ [])) s.base l.base level.base base

  own_head : IsTree l.head
  own_head = tree_top (λ name. false) s.head l.head level.head head

  own_pushed : IsTree l.pushed
  own_pushed = tree_top (λ name. false) s.pushed l.pushed level.pushed pushed

  -- something survives in the level where something survives at all
  root_here : stays l [] ≡ stays s []
  root_here = one_answer (stays l []) (stays s []) ((λ e. e), (λ e. e)) (back, there)
    where
      no_dir : (t : Tree) → IsTree t → has_dir t [] ≡ false
      no_dir t tree = ap is_dir tree.no_root

      not_kept : (t : Sides) → IsTree t.head → IsTree t.pushed → kept_dir t [] ≡ false
      not_kept t h p = ap₂ (λ (a b : Bool). (a && b) || ((a || b) && not (has_dir t.base []))) (no_dir t.head h) (no_dir t.pushed p)

      entry : (t u : Sides) → ((n : List ℕ) → (gets_file t (n ∷ []) || stays t (n ∷ [])) ≡ (gets_file u (n ∷ []) || stays u (n ∷ []))) → kept_dir t [] ≡ false → stays t [] ≡ true → stays u [] ≡ true
      entry t u same none e =
          elim ((stays_levels t []).0 e) [
            | inl own ↦ absurd (true≢false (sym own ∙ none))
            | inr has ↦ (stays_levels u []).1 (inr (record { name = has.name; keeps = sym (same has.name) ∙ has.keeps }))
          ]

      gets : (n : List ℕ) → (gets_file l (n ∷ []) || stays l (n ∷ [])) ≡ (gets_file s (n ∷ []) || stays s (n ∷ []))
      gets n =
          ap₂ (λ (k : Choice) (b : Bool). (is_some k.main || is_some k.side) || b) (choice_here s l survives level head pushed n) (stays_here s l survives level head pushed n)

      there : stays l [] ≡ true → stays s [] ≡ true
      there = entry l s gets (not_kept l own_head own_pushed)

      back : stays s [] ≡ true → stays l [] ≡ true
      back = entry s l (λ n. sym (gets n)) (not_kept s head pushed)

  pub merges_here : MergesHere naming s l
  merges_here = record {
    survives = root_here;
    stay = stays_here s l survives level head pushed;
    copies = λ n. copy_region naming is_naming s l [] at_root region_here (n ∷ []) (λ e. cc) (same_path-itself []) ∙ itself (copy_at naming l (n ∷ []));
    alone = λ n m r. copy_unknown naming l (n ∷ m ∷ r) (deep_none s l survives level head pushed n m r);
    nodes = λ n. merged_region naming is_naming s l [] at_root region_here (n ∷ []) (λ e. cc) (same_path-itself []);
    nothing = λ n m r. nothing n m r (map.get (merged naming l) (n ∷ m ∷ r)) refl;
  }
    where
      deep : (n m : List ℕ) (r : PathV) → (in_trees l (n ∷ m ∷ r) ≡ true) ⊎ IsCopy naming l (n ∷ m ∷ r) → ⊥
      deep n m r (inl known) = true≢false (sym known ∙ deep_none s l survives level head pushed n m r)
      deep n m r (inr copy) =
          entry_of s l survives level head pushed (λ p. n ∷ parent_of (m ∷ r) ≡ parent_of p → ⊥) (λ k there e. cc) copy.of.0 copy.known
          (ap parent_of copy.at ∙ parent_push (parent_of copy.of.0) (naming (last_name copy.of.0) copy.of.1.modifier copy.of.1.mtime copy.number))

      nothing : (n m : List ℕ) (r : PathV) (o : Option Node) → map.get (merged naming l) (n ∷ m ∷ r) ≡ o → map.get (merged naming l) (n ∷ m ∷ r) ≡ None
      nothing n m r None e = e
      nothing n m r (Some node) e = absurd (deep n m r (origin naming l (n ∷ m ∷ r) (ap is_some e)))

-- ---- how many paths there are

-- a path of one name
abbrev pub IsSingle : PathV → Type 0
IsSingle p = (n : List ℕ) × (p ≡ n ∷ [])

name_apart : (n k : List ℕ) → n ≢ k → pointwise nat_eq n k ≡ false
name_apart n k other = by (pointwise nat_eq n k) refl
  where
    by : (b : Bool) → pointwise nat_eq n k ≡ b → pointwise nat_eq n k ≡ false
    by true is = absurd (other ((bytes_decides n k).0 is))
    by false is = is

-- nothing lies below two entries
apart_entries : (n k : List ℕ) → n ≢ k → (q : PathV) → is_under (n ∷ []) q ≡ true → is_under (k ∷ []) q ≡ false
apart_entries n k other [] under = cc
apart_entries n k other (m ∷ r) under =
    let same : n ≡ m = (bytes_decides n m).0 (and_parts (pointwise nat_eq n m) (is_under [] r) under).0 in
    ap (λ (b : Bool). b && is_under [] r) (name_apart k m (λ e. other (same ∙ sym e)))

singles_apart : (es : List PathV) → AreDistinctPaths es → AllByRecursion IsSingle es → AreApart es
singles_apart [] distinct all = tt
singles_apart (e ∷ es) distinct all = (others e all.0 es distinct.0 all.1, singles_apart es distinct.1 all.1)
  where
    two : (e f : PathV) → IsSingle e → IsSingle f → same_path f e ≡ false → (q : PathV) → is_under e q ≡ true → is_under f q ≡ false
    two e f one other tie q under =
        let own : is_under (one.0 ∷ []) q ≡ true = ap (λ (p : PathV). is_under p q) (sym one.1) ∙ under in
        ap (λ (p : PathV). is_under p q) other.1
        ∙ apart_entries one.0 other.0
        (λ same. true≢false (sym (ap₂ same_path (other.1 ∙ ap (λ (n : List ℕ). n ∷ []) (sym same) ∙ sym one.1) refl ∙ same_path-itself e) ∙ tie)) q own

    others : (e : PathV) → IsSingle e → (fs : List PathV) → AllByRecursion (λ y. same_path y e ≡ false) fs → AllByRecursion IsSingle fs
        → AllByRecursion (λ f. (q : PathV) → is_under e q ≡ true → is_under f q ≡ false) fs
    others e one [] tie all = tt
    others e one (f ∷ fs) tie all = (two e f one all.0 tie.0, others e one fs tie.1 all.1)

module _ (naming : Naming) (is_naming : IsNaming naming) (s l : Sides) (survives : List ℕ → Bool) (level : IsLevel s l survives) (base : IsTree s.base) (head : IsTree s.head) (pushed : IsTree s.pushed)
    {X : Type 0} (kept_there : map.FinMap path_cmp X) (single : (q : PathV) → IsSome (map.get kept_there q) → IsSingle q)
    (covers : (n m : List ℕ) (r : PathV) → IsSome (map.get (merged naming s) (n ∷ m ∷ r)) → IsSome (map.get kept_there (n ∷ []))) where
  abbrev shows : PathV → Bool
  shows q = same_path (parent_of q) []

  here : MergesHere naming s l
  here = merges_here naming is_naming s l survives level base head pushed

  shows_deep : (n m : List ℕ) (r : PathV) → shows (n ∷ m ∷ r) ≡ false
  shows_deep n m r = same_path-apart (n ∷ parent_of (m ∷ r)) [] (λ e. cc)

  same_shown : (q : PathV) → shows q ≡ true → map.get (merged naming l) q ≡ map.get (merged naming s) q
  same_shown [] is =
      no_root_merged naming is_naming l (own_base naming is_naming s l survives level base head pushed) (own_head naming is_naming s l survives level base head pushed) (own_pushed naming is_naming s l survives level base head pushed)
      ∙ sym (no_root_merged naming is_naming s base head pushed)
  same_shown (n ∷ []) is = here.nodes n
  same_shown (n ∷ m ∷ r) is = absurd (true≢false (sym is ∙ shows_deep n m r))

  none_hidden : (q : PathV) → shows q ≡ false → map.get (merged naming l) q ≡ None
  none_hidden [] is = absurd (true≢false (sym (same_path-itself []) ∙ is))
  none_hidden (n ∷ []) is = absurd (true≢false (sym (same_path-itself []) ∙ is))
  none_hidden (n ∷ m ∷ r) is = here.nothing n m r

  in_keys : (q : PathV) → IsSome (map.get kept_there q) → is_in q (map.keys kept_there) ≡ true
  in_keys q some = sym (map.contains_key-keys kept_there q) ∙ some

  covered : (q : PathV) → shows q ≡ false → IsSome (map.get (merged naming s) q) → is_below_any (map.keys kept_there) q ≡ true
  covered [] is some = absurd (true≢false (sym (same_path-itself []) ∙ is))
  covered (n ∷ []) is some = absurd (true≢false (sym (same_path-itself []) ∙ is))
  covered (n ∷ m ∷ r) is some =
      any_of (λ e. is_under e (n ∷ m ∷ r)) (n ∷ []) (map.keys kept_there) (in_keys (n ∷ []) (covers n m r some)) (ap (λ (b : Bool). b && true) (name_itself n))

  hides : (q : PathV) → is_below_any (map.keys kept_there) q ≡ true → shows q ≡ false
  hides q below =
      let found = any_at (λ e. is_under e q) (map.keys kept_there) below in
      let one = single found.path (map.contains_key-keys kept_there found.path ∙ found.there) in
      deeper q one.0 (ap (λ (p : PathV). is_under p q) (sym one.1) ∙ found.passes)
    where
      deeper : (q : PathV) (n : List ℕ) → is_under (n ∷ []) q ≡ true → shows q ≡ false
      deeper [] n under = cc
      deeper (k ∷ []) n under = absurd (true≢false (sym (and_parts (pointwise nat_eq n k) false under).1))
      deeper (k ∷ m ∷ r) n under = shows_deep k m r

  all_single : (qs : List PathV) → ((q : PathV) → is_in q qs ≡ true → IsSingle q) → AllByRecursion IsSingle qs
  all_single [] each = tt
  all_single (q ∷ qs) each = (each q (ap (λ b. b || is_in q qs) (same_path-itself q)), all_single qs (λ r there. each r (or_right (same_path r q) (is_in r qs) there)))

  pub level_len : map.len (merged naming s) ≡ map.len (merged naming l) + sum_by (paths_below (merged naming s)) (map.keys kept_there)
  level_len =
      shown_and_below (merged naming s) (merged naming l) shows (map.keys kept_there) same_shown none_hidden covered hides
      (singles_apart (map.keys kept_there) (keys_distinct kept_there) (all_single (map.keys kept_there) (λ q there. single q (map.contains_key-keys kept_there q ∙ there))))

-- Two lists of entries that are met from the front. The key lemmas are told-merged and ordered-merged.
use Rattle.std.proofs.Common.{◌≡◌, Bool, true, false, if◌then◌else◌, List, [], ◌∷◌, ◌++◌, map as list_map, refl, sym, ap, ap₂, ◌∙◌, subst, Some, None, Less, Equal, Greater, Ordering}
use Rattle.std.specs.FinMap as map
use Rattle.std.specs.List.{AllByRecursion}
use Rattle.std.specs.List.Sorted.{IsStrictlySortedBy}
use Rattle.std.specs.Ordering.{ordering_reverse}
use Rattle.tree_model.specs.Path.{PathV, path_cmp}
use Rattle.tree_model.specs.PathOrder.{paths_total, paths_exact}
use Rattle.tree_model.proofs.ListedLemmas.{same_path, same_path-true}
use Rattle.folder_side.specs.declared.scan_report.Seen.{Seen}
use Rattle.folder_side.proofs.SortedEntryLemmas.{IsBefore, Rises, Rises-entries, before_all, missed}
use Rattle.local_index.specs.ScanChanges.{differs, change_of, told_at, AreChanges}
use Rattle.local_index.specs.MergedEntries.{added, gone, changed, all_gone, by_first, merged_first, merged}
use Rattle.local_index.specs.declared.scan_changes.Change.{Change}
use Rattle.local_index.specs.declared.scan_changes.ChangeKind.TheVariants.{Added, Changed, Gone}
use Rattle.local_index.specs.declared.index.Known.{Known}

abbrev pub Es : Type 0
Es = List (PathV × Seen)

abbrev pub Fs : Type 0
Fs = List (PathV × Known)

-- ---- a list of changes with what it says, and before which it has none

-- the list says of each path what the entries say
abbrev pub Tells : Es → Fs → List Change → Type 0
Tells es fs changes = (q : PathV) → told_at q changes ≡ change_of (map.find path_cmp q es) (map.find path_cmp q fs)

-- a path stands before every change
abbrev pub LeadsTo : PathV → List Change → Type 0
LeadsTo q changes = AllByRecursion (λ p. path_cmp q p ≡ Less) (list_map (λ (c : Change). c.path) changes)

abbrev pub InOrder : List Change → Type 0
InOrder changes = IsStrictlySortedBy path_cmp (list_map (λ (c : Change). c.path) changes)

-- what a merge is to give
pub record Merges (es : Es) (fs : Fs) (changes : List Change) : Type 0 where
  pub tells : Tells es fs changes
  pub ordered : InOrder changes
  pub leads : (q : PathV) → IsBefore q es → IsBefore q fs → LeadsTo q changes

InOrder-nothing : InOrder []
unfolding IsStrictlySortedBy
InOrder-nothing = tt

InOrder-more : (c : Change) (changes : List Change) → LeadsTo c.path changes → InOrder changes → InOrder (c ∷ changes)
unfolding IsStrictlySortedBy
InOrder-more c changes leads ordered = (leads, ordered)

-- ---- the steps

-- the first entry of the first list stands before all others
pub Merges-added : (e : PathV × Seen) (es : Es) (fs : Fs) (rest : List Change) → IsBefore e.0 es → IsBefore e.0 fs → Merges es fs rest → Merges (e ∷ es) fs (added e ∷ rest)
Merges-added e es fs rest h k merges = record {
  tells = λ q. by q (same_path q e.0) refl;
  ordered = InOrder-more (added e) rest (merges.leads e.0 h k) merges.ordered;
  leads = λ q be bf. (be.0, merges.leads q be.1 bf);
}
  where
    by : (q : PathV) (b : Bool) → same_path q e.0 ≡ b → (if b then Some Added else told_at q rest) ≡ change_of (if b then Some e.1 else map.find path_cmp q es) (map.find path_cmp q fs)
    by q true is = ap (change_of (Some e.1)) (sym (ap (λ p. map.find path_cmp p fs) (same_path-true q e.0 is) ∙ missed e.0 fs k))
    by q false is = merges.tells q

-- the first entry of the second list does
pub Merges-gone : (f : PathV × Known) (es : Es) (fs : Fs) (rest : List Change) → IsBefore f.0 es → IsBefore f.0 fs → Merges es fs rest → Merges es (f ∷ fs) (gone f ∷ rest)
Merges-gone f es fs rest h k merges = record {
  tells = λ q. by q (same_path q f.0) refl;
  ordered = InOrder-more (gone f) rest (merges.leads f.0 h k) merges.ordered;
  leads = λ q be bf. (bf.0, merges.leads q be bf.1);
}
  where
    by : (q : PathV) (b : Bool) → same_path q f.0 ≡ b → (if b then Some Gone else told_at q rest) ≡ change_of (map.find path_cmp q es) (if b then Some f.1 else map.find path_cmp q fs)
    by q true is = ap (λ o. change_of o (Some f.1)) (sym (ap (λ p. map.find path_cmp p es) (same_path-true q f.0 is) ∙ missed f.0 es h))
    by q false is = merges.tells q

-- both begin with one path
pub Merges-both : (e : PathV × Seen) (f : PathV × Known) (es : Es) (fs : Fs) (rest : List Change) → e.0 ≡ f.0 → IsBefore e.0 es → IsBefore f.0 fs → Merges es fs rest
    → Merges (e ∷ es) (f ∷ fs) (changed e f ++ rest)
Merges-both e f es fs rest path h k merges = by (differs e.1 f.1) refl
  where
    before_fs : IsBefore e.0 fs
    before_fs = subst (λ (p : PathV). IsBefore p fs) (sym path) k

    tells : (d : Bool) → differs e.1 f.1 ≡ d → (q : PathV) (b : Bool) → same_path q e.0 ≡ b
        → told_at q ((if d then (record { path = e.0; kind = Changed } ∷ []) else []) ++ rest)
        ≡ change_of (if b then Some e.1 else map.find path_cmp q es) (if b then Some f.1 else map.find path_cmp q fs)
    tells true is q true s = ap (λ b. if b then Some Changed else told_at q rest) s ∙ sym (ap (λ d. if d then Some Changed else None) is)
    tells true is q false s = ap (λ b. if b then Some Changed else told_at q rest) s ∙ merges.tells q
    tells false is q true s =
        let p : q ≡ e.0 = same_path-true q e.0 s in
        merges.tells q
        ∙ ap (λ p. change_of (map.find path_cmp p es) (map.find path_cmp p fs)) p
        ∙ ap (λ o. change_of o (map.find path_cmp e.0 fs)) (missed e.0 es h) ∙ ap (change_of None) (missed e.0 fs before_fs)
        ∙ sym (ap (λ d. if d then Some Changed else None) is)
    tells false is q false s = merges.tells q

    both : (q : PathV) (b : Bool) → same_path q e.0 ≡ b
        → change_of (if b then Some e.1 else map.find path_cmp q es) (if b then Some f.1 else map.find path_cmp q fs)
        ≡ change_of (map.find path_cmp q (e ∷ es)) (map.find path_cmp q (f ∷ fs))
    both q b s =
        ap (λ b. change_of (if b then Some e.1 else map.find path_cmp q es) (if b then Some f.1 else map.find path_cmp q fs)) (sym s)
        ∙ ap (λ p. change_of (if same_path q e.0 then Some e.1 else map.find path_cmp q es) (if same_path q p then Some f.1 else map.find path_cmp q fs)) path

    by : (d : Bool) → differs e.1 f.1 ≡ d → Merges (e ∷ es) (f ∷ fs) ((if d then (record { path = e.0; kind = Changed } ∷ []) else []) ++ rest)
    by true is = record {
      tells = λ q. tells true is q (same_path q e.0) refl ∙ both q (same_path q e.0) refl;
      ordered = InOrder-more (record { path = e.0; kind = Changed }) rest (merges.leads e.0 h before_fs) merges.ordered;
      leads = λ q be bf. (be.0, merges.leads q be.1 bf.1);
    }
    by false is = record {
      tells = λ q. tells false is q (same_path q e.0) refl ∙ both q (same_path q e.0) refl;
      ordered = merges.ordered;
      leads = λ q be bf. merges.leads q be.1 bf.1;
    }

-- ---- the whole merge

merges_gone : (fs : Fs) → Rises fs → Merges [] fs (all_gone fs)
merges_gone [] k = record { tells = λ q. refl; ordered = InOrder-nothing; leads = λ q be bf. tt }
merges_gone (f ∷ fs) k = Merges-gone f [] fs (all_gone fs) tt k.0 (merges_gone fs k.1)

by_place : (e : PathV × Seen) (es : Es) (f : PathV × Known) (fs : Fs) (less equal greater : List Change) → Rises (e ∷ es) → Rises (f ∷ fs)
    → Merges es (f ∷ fs) less → Merges es fs equal → Merges (e ∷ es) fs greater
    → (o : Ordering) → path_cmp e.0 f.0 ≡ o → Merges (e ∷ es) (f ∷ fs) (by_first o e f less equal greater)
by_place e es f fs less equal greater h k l m n Less is = Merges-added e es (f ∷ fs) less h.0 (is, before_all e.0 f.0 fs is k.0) l
by_place e es f fs less equal greater h k l m n Equal is = Merges-both e f es fs equal (paths_exact e.0 f.0 is) h.0 k.0 m
by_place e es f fs less equal greater h k l m n Greater is =
    let after : path_cmp f.0 e.0 ≡ Less = paths_total.antisymm f.0 e.0 ∙ ap ordering_reverse is in
    Merges-gone f (e ∷ es) fs greater (after, before_all f.0 e.0 es after h.0) k.0 n

merges_first : (e : PathV × Seen) (es : Es) (behind : Fs → List Change) → Rises (e ∷ es) → ((fs : Fs) → Rises fs → Merges es fs (behind fs))
    → (fs : Fs) → Rises fs → Merges (e ∷ es) fs (merged_first e behind fs)
merges_first e es behind h more [] k = Merges-added e es [] (behind []) h.0 tt (more [] tt)
merges_first e es behind h more (f ∷ fs) k =
    by_place e es f fs (behind (f ∷ fs)) (behind fs) (merged_first e behind fs) h k (more (f ∷ fs) k) (more fs k.1) (merges_first e es behind h more fs k.1)
    (path_cmp e.0 f.0) refl

pub merges : (es : Es) → Rises es → (fs : Fs) → Rises fs → Merges es fs (merged es fs)
merges [] h fs k = merges_gone fs k
merges (e ∷ es) h fs k = merges_first e es (merged es) h (merges es h.1) fs k

-- the merge of two maps' entries
pub AreChanges-merged : (seen : map.FinMap path_cmp Seen) (known : map.FinMap path_cmp Known) → AreChanges seen known (merged (map.entries seen) (map.entries known))
AreChanges-merged seen known =
    let whole = merges (map.entries seen) (Rises-entries seen) (map.entries known) (Rises-entries known) in
    record {
      each = λ q. whole.tells q ∙ sym (ap₂ change_of (map.get-entries seen q) (map.get-entries known q));
      ordered = whole.ordered;
    }

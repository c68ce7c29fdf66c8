-- The entries of one name are taken and merged. The key lemmas are name_taken, whole_taken, entry_merged and
-- has_entry.
use Rattle.std.proofs.Common.{◌≡◌, ◌≢◌, ◌||◌, not, Bool, true, false, if◌then◌else◌, ℕ, List, [], ◌∷◌, ◌++◌, refl, sym, ap, ap₂, ◌∙◌, subst, Option, None, IsSome, is_some, option_map, true≢false, ◌⊎◌, inl, inr}
use Rattle.std.specs.FinMap as map
use Rattle.std.specs.Option.{option_or}
use Rattle.std.specs.Ordering.{eq_by_cmp}
use Rattle.ids.specs.Key.{Objects}
use Rattle.tree_model.specs.Path.{PathV, path_cmp}
use Rattle.tree_model.specs.ConflictCopies.{in_trees}
use Rattle.tree_model.proofs.FirstOfLemmas.{copy_unknown}
use Rattle.tree_model.proofs.ListedLemmas.{same_path, same_path-apart, same_path-itself}
use Rattle.conflict_names.specs.Naming.{naming}
use Rattle.object_graph.specs.Objects.{entry_of}
use Rattle.object_graph.specs.declared.entry.Entry.{Entry}
use Rattle.tree_merge.specs.DirectoryMerge.{IsMergedPart, MergesEntry, MergesPart}
use Rattle.tree_merge.specs.Level.{Dirents, IsTaken, IsWithout}
use Rattle.tree_merge.specs.Opening.{AreWholeEntries, AreWholeSides, HasEntry, base_over, ids_in, is_settled}
use Rattle.tree_merge.specs.Sides.{AreTrees, Threes}
use Rattle.tree_merge.specs.declared.level.Level.{Level}
use Rattle.tree_merge.specs.declared.level.Trio.{Trio}
use Rattle.tree_merge.specs.declared.opening.Ids.{Ids}
use Rattle.tree_merge.specs.declared.opening.Kept.{Kept}
use Rattle.tree_merge.specs.declared.opening.Opened.{Opened}
use Rattle.tree_merge.specs.declared.work.Work.{Work}
use Rattle.tree_merge.proofs.DoneNameLemmas.{waits}
use Rattle.tree_merge.proofs.FirstNameLemmas.{are_below, below_name, names_whole}
use Rattle.tree_merge.proofs.SideLemmas.{ids_at, side_trees, trio_of}
use Rattle.tree_merge.proofs.MergingSoLemmas.{MergingSo}
use Rattle.tree_merge.proofs.SoFarLemmas.{merging_more}
use Rattle.tree_merge.proofs.WholeSideLemmas.{whole_entries_of}

module _ (objects : Objects) (path : PathV) (ids : Ids) (room : ℕ) (whole : AreWholeSides objects room ids) (level after : Level) (opened : Opened) (old mid : Work) (own : PathV) (trio : Trio)
    (so : MergingSo objects path ids (below_name objects ids room whole) level opened old mid) (taken : IsTaken own trio level after) where
  some_there : (IsSome (map.get level.base own)) ⊎ ((IsSome (map.get level.head own)) ⊎ (IsSome (map.get level.pushed own)))
  some_there = by (is_some (map.get level.base own)) (is_some (map.get level.head own)) (is_some (map.get level.pushed own)) refl refl refl
      (ap₂ ◌||◌ (ap is_some (sym taken.base)) (ap₂ ◌||◌ (ap is_some (sym taken.head)) (ap is_some (sym taken.pushed))) ∙ taken.some)
    where
      by : (x y z : Bool) → is_some (map.get level.base own) ≡ x → is_some (map.get level.head own) ≡ y → is_some (map.get level.pushed own) ≡ z
          → (is_some (map.get level.base own) || (is_some (map.get level.head own) || is_some (map.get level.pushed own))) ≡ true
          → (IsSome (map.get level.base own)) ⊎ ((IsSome (map.get level.head own)) ⊎ (IsSome (map.get level.pushed own)))
      by true y z e f g some = inl e
      by false true z e f g some = inr (inl f)
      by false false true e f g some = inr (inr g)
      by false false false e f g some = absurd (true≢false (sym some ∙ ap₂ ◌||◌ e (ap₂ ◌||◌ f g)))

  -- the path is that of a name
  pub name_taken : (n : List ℕ) × (own ≡ n ∷ [])
  name_taken = so.only own some_there

  abbrev n : List ℕ
  n = name_taken.0

  waited : waits level n ≡ true
  waited =
      ap₂ ◌||◌ (ap is_some (ap (map.get level.base) (sym name_taken.1) ∙ sym taken.base)) (ap₂ ◌||◌ (ap is_some (ap (map.get level.head) (sym name_taken.1) ∙ sym taken.head))
      (ap is_some (ap (map.get level.pushed) (sym name_taken.1) ∙ sym taken.pushed))) ∙ taken.some

  pub trio_is : trio ≡ trio_of objects ids n
  trio_is = λ i. record {
    base = (taken.base ∙ ap (map.get level.base) name_taken.1 ∙ so.base n waited) i;
    head = (taken.head ∙ ap (map.get level.head) name_taken.1 ∙ so.head n waited) i;
    pushed = (taken.pushed ∙ ap (map.get level.pushed) name_taken.1 ∙ so.pushed n waited) i;
  }

  pub whole_taken : AreWholeEntries objects room trio
  whole_taken = whole_entries_of objects room ids n trio whole trio_is taken.some

  left : (m m2 : Dirents) → IsWithout own m m2 → (q : PathV) → map.get m2 q ≡ (if same_path q (n ∷ []) then None else map.get m q)
  left m m2 without q = without q ∙ ap (λ (p : PathV). if same_path q p then None else map.get m q) name_taken.1

  none_here : (m m2 : Dirents) → IsWithout own m m2 → map.get m2 (n ∷ []) ≡ None
  none_here m m2 without = left m m2 without (n ∷ []) ∙ ap (λ (b : Bool). if b then None else map.get m (n ∷ [])) (same_path-itself (n ∷ []))

  same_there : (m m2 : Dirents) → IsWithout own m m2 → (k : List ℕ) → k ≢ n → map.get m2 (k ∷ []) ≡ map.get m (k ∷ [])
  same_there m m2 without k other =
      left m m2 without (k ∷ []) ∙ ap (λ (b : Bool). if b then None else map.get m (k ∷ [])) (same_path-apart (k ∷ []) (n ∷ []) (λ e. other (let same : k ≡ n = cc in same)))

  pub entry_merged : (opened_after : Opened) (new : Work) → MergesEntry objects path own trio opened opened_after mid new → MergingSo objects path ids (below_name objects ids room whole) after opened_after old new
  entry_merged opened_after new entry =
      merging_more objects path ids (below_name objects ids room whole) level after opened opened_after old mid new n trio entry.part so waited
      (ap₂ ◌||◌ (ap is_some (none_here level.base after.base taken.left_base)) (ap₂ ◌||◌ (ap is_some (none_here level.head after.head taken.left_head)) (ap is_some (none_here level.pushed after.pushed taken.left_pushed))))
      (λ k other. ap₂ ◌||◌ (ap is_some (same_there level.base after.base taken.left_base k other)) (ap₂ ◌||◌ (ap is_some (same_there level.head after.head taken.left_head k other)) (ap is_some (same_there level.pushed after.pushed taken.left_pushed k other))))
      (left level.base after.base taken.left_base) (left level.head after.head taken.left_head) (left level.pushed after.pushed taken.left_pushed)
      trio_is taken.some
      (subst (λ (p : PathV). HasEntry p trio entry.part opened opened_after) name_taken.1 entry.placed)
      (subst (λ (p : PathV). IsMergedPart objects (path ++ p) (not (is_settled (ids_at objects ids n).base (ids_at objects ids n).head (ids_at objects ids n).pushed)) (ids_at objects ids n) (below_name objects ids room whole n) mid new entry.part) name_taken.1
      (subst (λ (t : Trio). MergesPart objects (path ++ own) (ids_in t) mid new entry.part) trio_is entry.merges (below_name objects ids room whole n) (are_below objects ids room whole n)))
      (copy_unknown naming (below_name objects ids room whole n) [] unknown)
    where
      trees : AreTrees (below_name objects ids room whole n)
      trees = side_trees objects room (ids_at objects ids n) (names_whole objects ids room whole n) (below_name objects ids room whole n) (are_below objects ids room whole n)

      unknown : in_trees (below_name objects ids room whole n) [] ≡ false
      unknown = ap₂ ◌||◌ (ap is_some trees.base.no_root) (ap₂ ◌||◌ (ap is_some trees.head.no_root) (ap is_some trees.pushed.no_root))

-- an entry is written down with what is left below it
pub has_entry : (own : PathV) (trio : Trio) (part : Option Kept) (old : Opened) (joined : Threes) (kept : map.FinMap path_cmp Kept) (b h p : Option Entry)
    → b ≡ base_over (is_some part) trio.base → h ≡ option_map entry_of trio.head → p ≡ option_map entry_of trio.pushed
    → joined ≡ map.insert old.joined own (record { base = b; head = h; pushed = p })
    → ((q : PathV) → map.get kept q ≡ (if eq_by_cmp path_cmp q own then option_or part (map.get old.kept q) else map.get old.kept q))
    → HasEntry own trio part old (record { joined = joined; kept = kept })
has_entry own trio part old joined kept b h p is_base is_head is_pushed put keep = record {
  joined = put ∙ (λ i. map.insert old.joined own (record { base = is_base i; head = is_head i; pushed = is_pushed i }));
  kept = keep;
}

-- A directory whose entries are merged name by name, and what is known of the parts below those that are done. Read PartSo and
-- PartBuilt, then MergingSo; the key lemmas are taken_more, built_more and lists_more.
use Rattle.std.proofs.Common.{◌≡◌, ◌≢◌, ◌<◌, not, Bool, true, false, if◌then◌else◌, ℕ, List, [], ◌∷◌, ◌++◌, refl, ap, Option, Some, None, IsSome, is_some, option_map, ◌⊎◌, ◌↔◌, inl, inr}
use Rattle.std.specs.FinMap as map
use Rattle.std.specs.Option.{option_or}
use Rattle.ids.specs.Key.{Objects}
use Rattle.ids.specs.ObjectId.{nil}
use Rattle.ids.specs.declared.key.Key.{Key}
use Rattle.tree_model.specs.declared.limits.TheConstants.{MAX_PATHS}
use Rattle.tree_model.specs.Path.{PathV, path_cmp}
use Rattle.tree_model.specs.DirectorySurvival.{Sides, stays}
use Rattle.tree_model.specs.MergeParts.{IsFirst, copy_at, long_at}
use Rattle.tree_model.specs.ThreeWayMerge.{merged}
use Rattle.tree_model.proofs.OneLevelLemmas.{IsSingle}
use Rattle.conflict_names.specs.Naming.{naming}
use Rattle.object_graph.specs.Objects.{AreEntriesOf, dirents_at, fs_key}
use Rattle.object_graph.specs.Traversal.{IsCompleteRoot}
use Rattle.object_graph.specs.Unchanged.{Keeps}
use Rattle.tree_walk.specs.Extent.{extent_of}
use Rattle.tree_merge.specs.Decision.{AreWholeIn}
use Rattle.tree_merge.specs.HeadDirectory.{IsHeads}
use Rattle.tree_merge.specs.LevelMerge.{IsTakenBelow, ListsKnown}
use Rattle.tree_merge.specs.Opening.{dirents_if, id_in, is_settled, part_in, paths_in, settled_in}
use Rattle.tree_merge.specs.Sides.{Entries, IsSeen}
use Rattle.tree_merge.specs.TreeBuilding.{HasMade, IsDirectoryOf, IsDirectoryText, IsNilMadeOrKept, IsNilOrMade, IsSound, directory_id_in}
use Rattle.tree_merge.specs.WorkSoFar.{long_told}
use Rattle.tree_merge.specs.declared.level.Level.{Level}
use Rattle.tree_merge.specs.declared.opening.Ids.{Ids}
use Rattle.tree_merge.specs.declared.opening.Kept.{Kept}
use Rattle.tree_merge.specs.declared.opening.Opened.{Opened}
use Rattle.tree_merge.specs.declared.work.Stop.TheVariants as why
use Rattle.tree_merge.specs.declared.work.Work.{Work}
use Rattle.tree_merge.proofs.DoneNameLemmas.{of_done, told_below, waits}
use Rattle.tree_merge.proofs.LevelTreeLemmas.{join_over}
use Rattle.tree_merge.proofs.MadeLemmas.{kept_then}
use Rattle.tree_merge.proofs.SideLemmas.{ids_at, trio_of}

-- a fact that is kept as more is made
pub taken_more : (E : Entries) (one two : Objects) → Keeps one two → (id : List ℕ) → IsTakenBelow E one id → IsTakenBelow E two id
taken_more E one two keeps id taken = record {
  bytes = taken.bytes;
  own = taken.own;
  text = taken.text;
  clash = elim taken.clash [
    | inl zeros ↦ inl zeros
    | inr other ↦ inr (other.0, other.1, elim other.2 [ inl text ↦ inl text | inr there ↦ inr (keeps.kept (fs_key id) other.0 there) ])
  ];
}

pub has_more : (one two : Objects) → Keeps one two → (id : List ℕ) → HasMade one id → HasMade two id
has_more one two keeps id has = by (map.get one (fs_key id)) refl has
  where
    by : (o : Option (List ℕ)) → map.get one (fs_key id) ≡ o → IsSome o → HasMade two id
    by None is some = cc some
    by (Some bytes) is some = ap is_some (keeps.kept (fs_key id) bytes is)

pub known_more : (K : PathV → Option (List ℕ)) (one two : Objects) → Keeps one two → (id : List ℕ) → IsNilMadeOrKept K one id → IsNilMadeOrKept K two id
known_more K one two keeps id (inl (inl zeros)) = inl (inl zeros)
known_more K one two keeps id (inl (inr made)) = inl (inr (has_more one two keeps id made))
known_more K one two keeps id (inr kept) = inr kept

module _ (objects : Objects) (path : PathV) (ids : Ids) (c : List ℕ → Sides) where
  -- ---- of one part

  pub record PartSo (n : List ℕ) (part : Option Kept) (E : Entries) : Type 0 where
    pub count : paths_in part ≡ map.len (merged naming (c n))
    pub sound : IsSound E
    pub seen : (more : Objects) → Keeps objects more → IsSeen more E (merged naming (c n))
    pub whole : AreWholeIn objects E

  -- whether the directories of an entry are opened
  abbrev pub opens : List ℕ → Bool
  opens n = not (is_settled (ids_at objects ids n).base (ids_at objects ids n).head (ids_at objects ids n).pushed)

  pub record PartBuilt (n : List ℕ) (part : Option Kept) (E : Entries) (K : PathV → Option (List ℕ)) (made : Objects) : Type 0 where
    pub complete : (dir : PathV) (id : List ℕ) → K dir ≡ Some id → IsCompleteRoot objects id
    pub known : (IsNilOrMade made (id_in part)) ⊎ (K [] ≡ Some (id_in part))
    pub top : (id : List ℕ) → K [] ≡ Some id → (id_in part ≡ id) × (id ≢ nil)
    pub own : opens n ≡ false → (id : List ℕ) → part_in (ids_at objects ids n) ≡ Some id → (extent_of objects id).paths ≢ 0 → K [] ≡ Some id
    pub value : (more : Objects) → Keeps objects more → Keeps made more → AreEntriesOf more (id_in part) E
    pub ids_kept : (dir : PathV) (id : List ℕ) → dir ≢ [] → K dir ≡ Some id → (more : Objects) → Keeps objects more → Keeps made more
        → directory_id_in more (dirents_at more (id_in part)) dir ≡ Some id
    pub same : opens n ≡ true → (dir : PathV) (id : List ℕ)
        → settled_in objects (dirents_if objects (ids_at objects ids n).base) (dirents_if objects (ids_at objects ids n).head) (dirents_if objects (ids_at objects ids n).pushed) dir ≡ Some id
        → (extent_of objects id).paths ≢ 0 → K dir ≡ Some id
    pub heads : (more : Objects) → Keeps objects more → Keeps made more → IsHeads objects more (ids_at objects ids n).head (id_in part)
    pub zeros : (id_in part ≡ nil) ↔ ((q : PathV) → map.get E q ≡ None)

  -- ---- of all names that are done

  pub record BuiltSoFar (to_come : List ℕ → Bool) (kept : map.FinMap path_cmp Kept) (entries : List ℕ → Entries) (old now : Objects) : Type 0 where
    pub kept_of : List ℕ → PathV → Option (List ℕ)
    pub parts : (n : List ℕ) → to_come n ≡ false → PartBuilt n (map.get kept (n ∷ [])) (entries n) (kept_of n) now
    pub needed : (id : List ℕ) → id ≢ nil → HasMade now id → (HasMade old id) ⊎ ((n : List ℕ) × ((to_come n ≡ false) × ((more : Objects) → Keeps objects more → Keeps now more → IsDirectoryOf more (id_in (map.get kept (n ∷ []))) id)))
    pub below : (key : Key) (bytes : List ℕ) → map.get now key ≡ Some bytes → (map.get old key ≡ Some bytes) ⊎ ((n : List ℕ) × ((to_come n ≡ false) × ListsKnown (kept_of n) now bytes))

  -- where a copy goes of a file below an entry
  abbrev pub copies_of : List ℕ → PathV → Option PathV
  copies_of n r = option_map (λ p. path ++ n ∷ p) (copy_at naming (c n) r)

  pub record NamedSoFar (to_come : List ℕ → Bool) (kept : map.FinMap path_cmp Kept) (old now : Work) : Type 0 where
    pub entries : List ℕ → Entries
    pub parts : (n : List ℕ) → to_come n ≡ false → PartSo n (map.get kept (n ∷ [])) (entries n)
    pub copies : (q : PathV) → map.get now.copies q ≡ option_or (told_below path (of_done to_come copies_of) q) (map.get old.copies q)
    pub kept_made : Keeps old.made now.made
    pub texts : (key : Key) (bytes : List ℕ) → map.get now.made key ≡ Some bytes → (map.get old.made key ≡ Some bytes) ⊎ ((n : List ℕ) × ((to_come n ≡ false) × IsDirectoryText (entries n) bytes))
    pub taken : (id : List ℕ) → now.stop ≡ Some (why.Taken id) → (old.stop ≡ Some (why.Taken id)) ⊎ ((n : List ℕ) × ((to_come n ≡ false) × IsTakenBelow (entries n) now.made id))
    pub many : now.stop ≡ Some why.Many → (old.stop ≡ Some why.Many) ⊎ ((n : List ℕ) × ((to_come n ≡ false) × (MAX_PATHS < paths_in (map.get kept (n ∷ [])))))
    pub still : now.stop ≡ None → old.stop ≡ None
    pub built : now.stop ≡ None → BuiltSoFar to_come kept entries old.made now.made

  -- some names are done, the entries of the others are still in the level
  pub record MergingSo (level : Level) (opened : Opened) (old now : Work) : Type 0 where
    pub base : (n : List ℕ) → waits level n ≡ true → map.get level.base (n ∷ []) ≡ (trio_of objects ids n).base
    pub head : (n : List ℕ) → waits level n ≡ true → map.get level.head (n ∷ []) ≡ (trio_of objects ids n).head
    pub pushed : (n : List ℕ) → waits level n ≡ true → map.get level.pushed (n ∷ []) ≡ (trio_of objects ids n).pushed
    pub only : (q : PathV) → (IsSome (map.get level.base q)) ⊎ ((IsSome (map.get level.head q)) ⊎ (IsSome (map.get level.pushed q))) → IsSingle q
    pub joined : (n : List ℕ) → map.get opened.joined (n ∷ []) ≡ (if waits level n then None else join_over (is_some (map.get opened.kept (n ∷ []))) (trio_of objects ids n))
    pub kept_waits : (n : List ℕ) → waits level n ≡ true → map.get opened.kept (n ∷ []) ≡ None
    pub joined_single : (q : PathV) → IsSome (map.get opened.joined q) → IsSingle q
    pub kept_single : (q : PathV) → IsSome (map.get opened.kept q) → IsSingle q
    pub survives : (n : List ℕ) → waits level n ≡ false → is_some (map.get opened.kept (n ∷ [])) ≡ stays (c n) []
    pub long : (f : PathV → Option ℕ) → IsFirst f (long_told old.long) → IsFirst (λ q. option_or (f q) (told_below path (of_done (waits level) (λ n. long_at naming (c n))) q)) (long_told now.long)
    pub named : long_told now.long ≡ None → NamedSoFar (waits level) opened.kept old now

  -- ---- as more is made

  pub built_more : (k : List ℕ) (p : Option Kept) (E : Entries) (K : PathV → Option (List ℕ)) (one two : Objects) → Keeps one two → PartBuilt k p E K one → PartBuilt k p E K two
  built_more k p E K one two keeps b = record {
    complete = b.complete;
    known = elim b.known [ inl own ↦ inl (made own) | inr root ↦ inr root ];
    top = b.top;
    own = b.own;
    value = λ more there also. b.value more there (kept_then one two more keeps also);
    ids_kept = λ dir id some is more there also. b.ids_kept dir id some is more there (kept_then one two more keeps also);
    same = b.same;
    heads = λ more there also. b.heads more there (kept_then one two more keeps also);
    zeros = b.zeros;
  }
    where
      made : IsNilOrMade one (id_in p) → IsNilOrMade two (id_in p)
      made (inl zeros) = inl zeros
      made (inr has) = inr (has_more one two keeps (id_in p) has)

  pub lists_more : (K : PathV → Option (List ℕ)) (one two : Objects) → Keeps one two → (bytes : List ℕ) → ListsKnown K one bytes → ListsKnown K two bytes
  lists_more K one two keeps bytes known dirents reads name e found dir = known_more K one two keeps e.id (known dirents reads name e found dir)

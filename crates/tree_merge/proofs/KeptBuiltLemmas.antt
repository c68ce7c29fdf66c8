-- The whole tree once all directories are made or kept. The key lemmas are built_all, needed_all, ids_all, root_empty, no_kept, dirs_no_kept and part_same.
use Rattle.std.proofs.Common.{◌≡◌, ℕ, List, [], ◌∷◌, ◌++◌, refl, sym, ap, ◌∙◌, None, Some, Option, ◌↔◌, is_some, IsSome, true≢false, ◌⊎◌, inl, inr}
use Rattle.std.specs.FinMap as map
use Rattle.ids.specs.Key.{Objects, key_cmp}
use Rattle.ids.specs.declared.key.Key.{Key}
use Rattle.tree_model.specs.Path.{PathV}
use Rattle.fs_objects.specs.declared.dirent.Dirent.{Dirent}
use Rattle.object_graph.specs.Objects.{dirents_at, AreEntriesOf}
use Rattle.object_graph.specs.Unchanged.{Keeps}
use Rattle.tree_merge.specs.Sides.{Entries}
use Rattle.tree_merge.specs.TreeBuilding.{AreThere, Given, AreDirectories, AreDirectoriesOver, IsNilMadeOrKept, IsNilOrMade, IsSound, IsNilWhereEmpty, IsShownPart, HasMade, IsDirectoryOf, directory_id_in, Lists}
use Rattle.tree_merge.proofs.MadeLemmas.{kept_then}
use Rattle.tree_merge.proofs.BuiltSoFarLemmas.{BuiltSo, Reach}
use Rattle.tree_merge.proofs.SoundEntryLemmas.{below_none, nothing_below}
use Rattle.tree_merge.proofs.BuiltLemmas.{same_sound}
use Rattle.ids.specs.ObjectId.{nil}
use Rattle.object_graph.specs.declared.entry.Entry.TheVariants.{Dir}
use Rattle.tree_merge.proofs.SameEntryLemmas.{entries_same, ids_same}

-- ---- at the end

module _ (stored : Given) (K : PathV → Option (List ℕ)) (W N R : Entries) (H : PathV → List Dirent) (M M2 : Objects) (root : List ℕ) (part : IsShownPart stored K W N) (so : BuiltSo stored K W N R H M) (none : (q : PathV) → map.get R q ≡ None)
    (keeps : Keeps M M2) (lists : Lists M2 root (H [])) where
  pub built_all : (objects : Objects) → AreThere stored objects → Keeps M2 objects → AreEntriesOf objects root W
  built_all objects also all [] = part.sound.no_root
  built_all objects also all (n ∷ q) =
      sym (entries_same objects (dirents_at objects root) (H []) (lists.names (so.proper []) objects all) (n ∷ q)
      ∙ so.done objects (kept_then M M2 objects keeps all) [] n q (inr also) (inl refl) part.top (none (n ∷ [])))

  pub needed_all : ((id : List ℕ) → HasMade M2 id → (HasMade M id) ⊎ (id ≡ root)) → (id : List ℕ) → HasMade M2 id → (objects : Objects) → Keeps M2 objects → IsDirectoryOf objects root id
  needed_all told id has objects all = elim (told id has) [ inl old ↦ of_old (so.reach id old).0 (so.reach id old).1 | inr own ↦ inl own ]
    where
      of_old : (p : PathV) → Reach R H M p id → IsDirectoryOf objects root id
      of_old p r = by r.waits
        where
          by : (r.dir ≡ []) ⊎ IsSome (map.get R r.dir) → IsDirectoryOf objects root id
          by (inr some) = absurd (true≢false (sym some ∙ ap is_some (none r.dir)))
          by (inl top) = inr (
            r.name ∷ r.rest,
            ids_same objects (dirents_at objects root) (H []) (lists.names (so.proper []) objects all) (r.name ∷ r.rest)
                ∙ ap (λ (p : PathV). directory_id_in objects (H p) (r.name ∷ r.rest)) (sym top) ∙ r.at objects (kept_then M M2 objects keeps all),
          )

  pub ids_all : (d : PathV) (id : List ℕ) → K d ≡ Some id → (objects : Objects) → Keeps M2 objects → directory_id_in objects (dirents_at objects root) d ≡ Some id
  ids_all d id kept objects all = by r.waits
    where
      r : Reach R H M d id
      r = so.listed d id kept (none d)

      by : (r.dir ≡ []) ⊎ IsSome (map.get R r.dir) → directory_id_in objects (dirents_at objects root) d ≡ Some id
      by (inr some) = absurd (true≢false (sym some ∙ ap is_some (none r.dir)))
      by (inl top) =
          ap (directory_id_in objects (dirents_at objects root)) (r.is ∙ ap (λ (p : PathV). p ++ r.name ∷ r.rest) top)
          ∙ ids_same objects (dirents_at objects root) (H []) (lists.names (so.proper []) objects all) (r.name ∷ r.rest)
          ∙ ap (λ (p : PathV). directory_id_in objects (H p) (r.name ∷ r.rest)) (sym top) ∙ r.at objects (kept_then M M2 objects keeps all)

-- a tree whose root has nothing has nothing
pub root_empty : (W : Entries) (root : List ℕ) → IsSound W → IsNilWhereEmpty W [] root → (root ≡ nil) ↔ ((path : PathV) → map.get W path ≡ None)
root_empty W root sound zeros = (λ is path. nothing (zeros.0 is) path, λ none. zeros.1 (λ name. none (name ∷ [])))
  where
    differ : None ≡ Some Dir → ⊥
    differ e = cc

    nothing : ((name : List ℕ) → map.get W (name ∷ []) ≡ None) → (path : PathV) → map.get W path ≡ None
    nothing none [] = sound.no_root
    nothing none (n ∷ []) = none n
    nothing none (n ∷ m ∷ q) = nothing_below W sound (n ∷ []) m q (λ e. cc) (λ dir. differ (sym (none n) ∙ dir))

-- no objects are given
abbrev pub no_objects : Given
no_objects = record { stored = map.empty; made = map.empty }

-- where nothing is kept the entries are the whole
pub no_kept : (K : PathV → Option (List ℕ)) → ((q : PathV) → K q ≡ None) → (W : Entries) → IsSound W → IsShownPart no_objects K W W
no_kept K none W sound = record {
  sound = sound;
  nodes = sound;
  top = none [];
  shown = λ q some. refl;
  none = λ d n q waits open_here away. below_none W sound d n q away;
  stands = λ d id is. absurd (no_id id (sym (none d) ∙ is));
  hidden = λ d n some. absurd (true≢false (sym some ∙ ap is_some (none d)));
  below = λ d id is. absurd (no_id id (sym (none d) ∙ is));
  some = λ d id is. absurd (no_id id (sym (none d) ∙ is));
}
  where
    no_id : (id : List ℕ) → None ≡ Some id → ⊥
    no_id id e = cc

pub dirs_no_kept : (K : PathV → Option (List ℕ)) → ((q : PathV) → K q ≡ None) → (W : Entries) (M : Objects) → AreDirectoriesOver K W M → AreDirectories W M
dirs_no_kept K none W M dirs = record {
  texts = dirs.texts;
  below = λ key bytes there dirents reads name e found dir. plain e.id (dirs.below key bytes there dirents reads name e found dir);
}
  where
    no_id : (id : List ℕ) → None ≡ Some id → ⊥
    no_id id e = cc

    plain : (id : List ℕ) → IsNilMadeOrKept K M id → IsNilOrMade M id
    plain id (inl made) = made
    plain id (inr kept) = absurd (no_id id (sym (none kept.0) ∙ kept.1))

keeps_none : (objects : Objects) → Keeps map.empty objects
keeps_none objects = record { kept = λ key bytes there. absurd (nothing key bytes there) }
  where
    nothing : (key : Key) (bytes : List ℕ) → (let m : Objects = map.empty in map.get m key) ≡ Some bytes → ⊥
    nothing key bytes there = let both : None ≡ Some bytes = sym (map.get-empty key_cmp key) ∙ there in cc

pub keeps_nothing : (objects : Objects) → AreThere no_objects objects
keeps_nothing objects = (keeps_none objects, keeps_none objects)

-- the same entries, told by another table
pub part_same : (stored : Given) (K : PathV → Option (List ℕ)) (W E N : Entries) → ((q : PathV) → map.get N q ≡ map.get E q) → IsShownPart stored K W E → IsShownPart stored K W N
part_same stored K W E N same part = record {
  sound = part.sound;
  nodes = same_sound N E same part.nodes;
  top = part.top;
  shown = λ q some. same q ∙ part.shown q (ap is_some (sym (same q)) ∙ some);
  none = λ d n q waits open_here away. part.none d n q (waits_too d waits) open_here (sym (same (d ++ n ∷ [])) ∙ away);
  stands = λ d id is. same d ∙ part.stands d id is;
  hidden = λ d n some. same (d ++ n ∷ []) ∙ part.hidden d n some;
  below = part.below;
  some = part.some;
}
  where
    waits_too : (d : PathV) → (d ≡ []) ⊎ IsSome (map.get N d) → (d ≡ []) ⊎ IsSome (map.get E d)
    waits_too d (inl root) = inl root
    waits_too d (inr some) = inr (ap is_some (sym (same d)) ∙ some)

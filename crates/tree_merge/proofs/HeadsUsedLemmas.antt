-- The directory that is left is the head's where that lists the same. The key lemmas are nil_heads, heads_stored, heads_of_part,
-- right_from_same and empty_listed.
use Rattle.std.proofs.Common.{◌≡◌, ◌||◌, ◌&&◌, not, Bool, true, false, cond, if◌then◌else◌, ℕ, List, [], ◌∷◌, refl, sym, ap, ap₂, ◌∙◌, subst, Option, Some, None, IsSome, is_some, option_map, option_and_then, true≢false, inl, inr}
use Rattle.std.proofs.lemmas.Bool.{and_parts}
use Rattle.std.specs.Cmp.Lexicographic.{bytes_decides}
use Rattle.std.specs.FinMap as map
use Rattle.ids.specs.Key.{Objects}
use Rattle.ids.specs.ObjectId.{nil}
use Rattle.ids.proofs.BasicLemmas.{same_from_some}
use Rattle.tree_model.specs.Path.{PathV, path_cmp}
use Rattle.tree_model.specs.PathOrder.{paths_total}
use Rattle.tree_model.proofs.ListedLemmas.{same_path, same_path-true}
use Rattle.tree_model.proofs.OneLevelLemmas.{IsSingle}
use Rattle.fs_objects.specs.Mode.{is_directory_mode}
use Rattle.fs_objects.specs.declared.dirent.Dirent.{Dirent}
use Rattle.object_graph.specs.Objects.{AreEntriesOf, directory_in, dirents_at, entries_of, entry_in, entry_named, entry_of, fs_at, fs_key, is_nil}
use Rattle.object_graph.specs.Traversal.{IsCompleteRoot}
use Rattle.object_graph.specs.Unchanged.{Keeps}
use Rattle.object_graph.specs.declared.entry.Entry.{Entry}
use Rattle.tree_merge.specs.HeadDirectory.{IsHeads, IsRight, ListSame}
use Rattle.tree_merge.specs.Level.{Dirents, Tells}
use Rattle.tree_merge.specs.Opening.{id_in, is_left_alone, is_pusheds, is_settled, part_in, part_of, same_directory}
use Rattle.tree_merge.specs.Sides.{Entries}
use Rattle.tree_merge.specs.TreeBuilding.{AreDirectoriesOver, AreThere, Given, HasMade, IsDirectoryText, IsNilMadeOrKept, IsNilOrMade, IsShownPart, directory_id_in}
use Rattle.tree_merge.specs.declared.opening.Ids.{Ids}
use Rattle.tree_merge.specs.declared.opening.Kept.{Kept}
use Rattle.tree_merge.proofs.DirentLemmas.{same_name-itself}
use Rattle.tree_merge.proofs.HeadDirectoryLemmas.{dirents_kept}
use Rattle.tree_merge.proofs.LevelLemmas.{same_child}
use Rattle.tree_merge.proofs.MergedOverLemmas.{entry_made, read_made}
use Rattle.tree_merge.proofs.WholeSideLemmas.{child_complete, complete_directory}

-- ---- forty zeros have no directories below them

nil_dirents : (more : Objects) → dirents_at more nil ≡ []
nil_dirents more = ap (λ (b : Bool). if b then [] else entries_of (fs_at more nil)) ((bytes_decides nil nil).1 refl)

pub nil_ids : (more : Objects) (q : PathV) (id : List ℕ) → directory_id_in more (dirents_at more nil) q ≡ Some id → ⊥
nil_ids more q id is = let both : None ≡ Some id = sym (none q) ∙ ap (λ (es : List Dirent). directory_id_in more es q) (sym (nil_dirents more)) ∙ is in cc
  where
    none : (q : PathV) → directory_id_in more [] q ≡ None
    none [] = refl
    none (n ∷ []) = refl
    none (n ∷ m ∷ q) = refl

pub nil_heads : (objects more : Objects) (head : Option (List ℕ)) → IsHeads objects more head nil
nil_heads objects more head [] own id some at found same = absurd (some (sym (same_from_some nil id found)))
nil_heads objects more head (n ∷ r) own id some at found same = absurd (nil_ids more (n ∷ r) id found)

-- ---- a complete directory names the same ones among more objects

pub ids_stay : (objects more : Objects) → Keeps objects more → (root : List ℕ) → IsCompleteRoot objects root → (dir : PathV)
    → directory_id_in more (dirents_at more root) dir ≡ directory_id_in objects (dirents_at objects root) dir
ids_stay objects more keeps root complete [] = refl
ids_stay objects more keeps root complete (n ∷ []) =
    ap (λ (es : List Dirent). directory_in (entry_named n es)) (dirents_kept objects more keeps root (complete_directory objects root complete))
ids_stay objects more keeps root complete (n ∷ m ∷ r) =
    ap (λ (es : List Dirent). option_and_then (λ id. directory_id_in more (dirents_at more id) (m ∷ r)) (directory_in (entry_named n es)))
    (dirents_kept objects more keeps root (complete_directory objects root complete))
    ∙ by (directory_in (entry_named n (dirents_at objects root))) refl (λ child whole. ids_stay objects more keeps child whole (m ∷ r))
  where
    by : (o : Option (List ℕ)) → directory_in (entry_named n (dirents_at objects root)) ≡ o
        → ((child : List ℕ) → IsCompleteRoot objects child → directory_id_in more (dirents_at more child) (m ∷ r) ≡ directory_id_in objects (dirents_at objects child) (m ∷ r))
        → option_and_then (λ id. directory_id_in more (dirents_at more id) (m ∷ r)) o ≡ option_and_then (λ id. directory_id_in objects (dirents_at objects id) (m ∷ r)) o
    by None found rest = refl
    by (Some child) found rest = rest child (child_complete objects root complete n child found)

pub heads_stored : (objects more : Objects) → Keeps objects more → (root : List ℕ) → IsCompleteRoot objects root → IsHeads objects more (Some root) root
heads_stored objects more keeps root complete [] own id some at found same = same_from_some id own (sym found ∙ at)
heads_stored objects more keeps root complete (n ∷ r) own id some at found same = same_from_some id own (sym found ∙ ids_stay objects more keeps root complete (n ∷ r) ∙ at)

-- ---- what is settled is the head's, or the head has nothing there

pub same_directory-true : (left right : Option (List ℕ)) → same_directory left right ≡ true → left ≡ right
same_directory-true None None e = refl
same_directory-true None (Some right) e = cc
same_directory-true (Some left) None e = cc
same_directory-true (Some left) (Some right) e = ap Some ((bytes_decides left right).0 e)

heads_part : (b h p : Option (List ℕ)) (id k : List ℕ) → is_settled b h p ≡ true → part_of b h p ≡ Some id → h ≡ Some k → k ≡ id
heads_part b h p id k settled is head = by (is_left_alone b h p) refl
  where
    by : (c : Bool) → is_left_alone b h p ≡ c → k ≡ id
    by true alone = same_from_some k id (sym head ∙ sym (ap (λ (c : Bool). if c then h else p) alone) ∙ is)
    by false other =
        let pusheds = and_parts (same_directory h b) (not (is_some b && is_some p)) (sym (ap (λ (c : Bool). c || is_pusheds b h p) other) ∙ settled) in
        let base : b ≡ Some k = sym (same_directory-true h b pusheds.0) ∙ head in
        let part : p ≡ Some id = sym (ap (λ (c : Bool). if c then h else p) other) ∙ is in
        absurd (true≢false (sym pusheds.1 ∙ ap₂ (λ (x y : Option (List ℕ)). not (is_some x && is_some y)) base part))

pub heads_of_part : (objects more : Objects) → Keeps objects more → (ids : Ids) (id : List ℕ) → is_settled ids.base ids.head ids.pushed ≡ true → part_in ids ≡ Some id → IsCompleteRoot objects id
    → IsHeads objects more ids.head id
heads_of_part objects more keeps ids id settled is complete = by ids.head refl
  where
    by : (o : Option (List ℕ)) → ids.head ≡ o → IsHeads objects more o id
    by None there = λ dir own i some at found same. cc at
    by (Some k) there =
        subst (λ (j : List ℕ). IsHeads objects more (Some j) id) (sym (heads_part ids.base ids.head ids.pushed id k settled is there)) (heads_stored objects more keeps id complete)

-- ---- a directory that lists the same is right as it stands

abbrev table_of : List Dirent → Dirents
table_of [] = map.empty
table_of (e ∷ es) = map.insert (table_of es) (e.name ∷ []) e

table_tells : (es : List Dirent) → Tells [] es (table_of es)
table_tells es = record { named = λ n. named n es; only = λ q some. only q es some }
  where
    named : (n : List ℕ) (es : List Dirent) → map.get (table_of es) (n ∷ []) ≡ entry_named n es
    named n [] = map.get-empty path_cmp (n ∷ [])
    named n (e ∷ es) =
        map.get-insert paths_total (table_of es) (e.name ∷ []) e (n ∷ [])
        ∙ ap₂ (λ (b : Bool) (o : Option Dirent). cond b (Some e) o) (same_child [] n e.name) (named n es)

    only : (q : PathV) (es : List Dirent) → IsSome (map.get (table_of es) q) → (n : List ℕ) × (q ≡ n ∷ [])
    only q [] some = absurd (true≢false (sym some ∙ ap is_some (map.get-empty path_cmp q)))
    only q (e ∷ es) some = by (same_path q (e.name ∷ [])) refl (ap is_some (sym (map.get-insert paths_total (table_of es) (e.name ∷ []) e q)) ∙ some) (only q es)
      where
        by : (b : Bool) → same_path q (e.name ∷ []) ≡ b → is_some (cond b (Some e) (map.get (table_of es) q)) ≡ true → (IsSome (map.get (table_of es) q) → (n : List ℕ) × (q ≡ n ∷ []))
            → (n : List ℕ) × (q ≡ n ∷ [])
        by true tie there more = (e.name, same_path-true q (e.name ∷ []) tie)
        by false apart there more = more there

pub right_from_same : (objects more : Objects) (own root : List ℕ) (nodes : Entries) (kept : map.FinMap path_cmp Kept) → ListSame (dirents_at objects own) (dirents_at more root)
    → ((n : List ℕ) → map.get nodes (n ∷ []) ≡ option_map entry_of (entry_named n (dirents_at more root))) → ((q : PathV) → IsSome (map.get nodes q) → IsSingle q)
    → ((n id : List ℕ) → directory_in (entry_named n (dirents_at more root)) ≡ Some id → id ≡ id_in (map.get kept (n ∷ []))) → IsRight objects own nodes kept
right_from_same objects more own root nodes kept same node_is single listed = record { listed = table_of (dirents_at objects own); tells = tells; just = record { here = here; below = below } }
  where
    tells : Tells [] (dirents_at objects own) (table_of (dirents_at objects own))
    tells = table_tells (dirents_at objects own)

    here : (q : PathV) → map.get nodes q ≡ option_map entry_of (map.get (table_of (dirents_at objects own)) q)
    here q = by (map.get nodes q) (map.get (table_of (dirents_at objects own)) q) refl refl
      where
        named : (n : List ℕ) → q ≡ n ∷ [] → map.get nodes q ≡ option_map entry_of (map.get (table_of (dirents_at objects own)) q)
        named n is =
            subst (λ (p : PathV). map.get nodes p ≡ option_map entry_of (map.get (table_of (dirents_at objects own)) p)) (sym is)
            (node_is n ∙ sym (same n).0 ∙ ap (option_map entry_of) (sym (tells.named n)))

        by : (x : Option Entry) (y : Option Dirent) → map.get nodes q ≡ x → map.get (table_of (dirents_at objects own)) q ≡ y → map.get nodes q ≡ option_map entry_of (map.get (table_of (dirents_at objects own)) q)
        by (Some x) y e f = let one = single q (ap is_some e) in named one.0 one.1
        by None (Some y) e f = let one = tells.only q (ap is_some f) in named one.0 one.1
        by None None e f = e ∙ sym (ap (option_map entry_of) f)

    below : (q : PathV) (e : Dirent) → map.get (table_of (dirents_at objects own)) q ≡ Some e → is_directory_mode e.mode ≡ true → e.id ≡ id_in (map.get kept q)
    below q e there dir =
        let one = tells.only q (ap is_some there) in
        let found : entry_named one.0 (dirents_at objects own) ≡ Some e = sym (tells.named one.0) ∙ ap (map.get (table_of (dirents_at objects own))) (sym one.1) ∙ there in
        listed one.0 e.id (sym (same one.0).1 ∙ ap directory_in found ∙ ap (λ (b : Bool). if b then Some e.id else None) dir) ∙ ap (λ (p : PathV). id_in (map.get kept p)) (sym one.1)

-- ---- a directory that is made names an empty one by forty zeros

module _ (given : Given) (K : PathV → Option (List ℕ)) (whole nodes : Entries) (shown : IsShownPart given K whole nodes) (made : Objects) (root : List ℕ) (dirs : AreDirectoriesOver K whole made) (known : IsNilOrMade made root)
    (objects : Objects) (there : AreThere given objects) (keeps : Keeps made objects) (value : AreEntriesOf objects root whole) where
  pub empty_listed : (name : List ℕ) → ((k : List ℕ) → map.get whole (name ∷ k ∷ []) ≡ None) → (i : List ℕ) → directory_id_in objects (dirents_at objects root) (name ∷ []) ≡ Some i → i ≡ nil
  empty_listed name none i is = by_id (entry_made whole K made objects dirs keeps root known name i is)
    where
      -- under that id nothing stands
      nothing : (k : List ℕ) → entry_in objects (dirents_at objects i) (k ∷ []) ≡ None
      nothing k = sym (ap (option_and_then (λ id. entry_in objects (dirents_at objects id) (k ∷ []))) is) ∙ sym (value (name ∷ k ∷ [])) ∙ none k

      no_entries : (es : List Dirent) → ((k : List ℕ) → option_map entry_of (entry_named k es) ≡ None) → es ≡ []
      no_entries [] all = refl
      no_entries (e ∷ es) all =
          let both : Some (entry_of e) ≡ None = sym (ap (λ (b : Bool). option_map entry_of (if b then Some e else entry_named e.name es)) (same_name-itself e.name)) ∙ all e.name in cc

      -- an object that was made lists something
      lists_some : (bytes : List ℕ) → is_nil i ≡ false → map.get made (fs_key i) ≡ Some bytes → (text : IsDirectoryText whole bytes) → ⊥
      lists_some bytes other at text =
          let reads : dirents_at objects i ≡ text.dirents =
          ap (λ (b : Bool). if b then [] else entries_of (fs_at objects i)) other ∙ ap entries_of (read_made whole K made objects dirs keeps i bytes at text) in
          text.some (no_entries text.dirents (λ k. ap (λ (es : List Dirent). option_map entry_of (entry_named k es)) (sym reads) ∙ nothing k))

      of_made : (o : Option (List ℕ)) → map.get made (fs_key i) ≡ o → IsSome o → is_nil i ≡ false → ⊥
      of_made None at some other = cc some
      of_made (Some bytes) at some other = lists_some bytes other at (dirs.texts (fs_key i) bytes at)

      decide : HasMade made i → (b : Bool) → is_nil i ≡ b → i ≡ nil
      decide has true zeros = (bytes_decides i nil).0 zeros
      decide has false other = absurd (of_made (map.get made (fs_key i)) refl has other)

      by_id : IsNilMadeOrKept K made i → i ≡ nil
      by_id (inl (inl zeros)) = zeros
      by_id (inl (inr has)) = decide has (is_nil i) refl
      by_id (inr own) = (shown.some own.0 i own.1).1 (λ k. sym (shown.below own.0 i own.1 objects there k []) ∙ nothing k)

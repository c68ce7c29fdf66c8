-- One entry more, of directories that are made from the last path to the first. The key lemma is built_more.
use Rattle.std.proofs.Common.{if◌then◌else◌, ◌≡◌, ◌≢◌, ℕ, ◌||◌, ◌==◌, Bool, true, false, cond, List, [], ◌∷◌, ◌++◌, refl, sym, ap, ap₂, ◌∙◌, subst, append_assoc, append-nil, All, Option, Some, None, is_some, IsSome, option_map, option_and_then, Less, Greater, bit_and, eqb-true, true≢false, ◌⊎◌, inl, inr}
use Rattle.std.proofs.lemmas.List.Elements.{All-push, All-from_recursion}
use Rattle.std.specs.FinMap as map
use Rattle.std.specs.Ordering.{ordering_reverse}
use Rattle.ids.specs.Key.{Objects}
use Rattle.tree_model.specs.Path.{PathV, path_cmp, parent_of, last_name}
use Rattle.tree_model.specs.PathOrder.{paths_total}
use Rattle.tree_model.proofs.BelowLemmas.{parent_push, last_push}
use Rattle.tree_model.proofs.ListedLemmas.{same_path, same_path-true, same_path-itself, same_path-apart}
use Rattle.fs_objects.specs.Mode.{is_file_mode, is_directory_mode}
use Rattle.fs_objects.specs.Proper.{IsProperEntry}
use Rattle.fs_objects.specs.declared.dirent.Dirent.{Dirent}
use Rattle.object_graph.specs.Objects.{entry_named, entry_of, directory_in, entry_in, dirents_at}
use Rattle.object_graph.specs.Unchanged.{Keeps}
use Rattle.object_graph.specs.declared.entry.Entry.{Entry}
use Rattle.object_graph.specs.declared.entry.Entry.TheVariants.{Dir, File}
use Rattle.tree_merge.specs.Sides.{Entries}
use Rattle.tree_merge.specs.TreeBuilding.{Given, IsSound, IsShownPart, HasMade, directory_id_in, IsEntryListed, IsOwnListed}
use Rattle.tree_merge.proofs.TableLemmas.{apart_by}
use Rattle.tree_merge.proofs.PathOrderLemmas.{before_child}
use Rattle.tree_merge.proofs.DirentLemmas.{named_push, named_push_other}
use Rattle.tree_merge.proofs.MadeLemmas.{kept_then, kept_itself}
use Rattle.tree_merge.proofs.SameEntryLemmas.{entries_same, ids_same, entry_same, id_same, id_named}
use Rattle.ids.proofs.BasicLemmas.{pushed_is_some}
use Rattle.tree_merge.proofs.SoundEntryLemmas.{nothing_below}
use Rattle.tree_merge.proofs.BuiltSoFarLemmas.{BuiltSo, Reach, Sees}

-- ---- one entry more

pub no_directory : (mode : ℕ) → is_file_mode mode ≡ true → is_directory_mode mode ≡ false
no_directory mode e = ap (λ (n : ℕ). n == 0o040000) (eqb-true (bit_and mode 0o170000) 0o100000 e)

-- an entry that is made has its name
pub entry_name : (made : Objects) (n : List ℕ) (o : Option (List ℕ)) (x : Entry) (es : List Dirent) (e : Dirent) → IsEntryListed made n o x es e → e.name ≡ n
entry_name made n None Dir es e h = ap (λ (f : Dirent). f.name) h.is
entry_name made n (Some id) Dir es e h = ap (λ (f : Dirent). f.name) h
entry_name made n o (File id mode mtime modifier size) es e h = ap (λ (f : Dirent). f.name) h

module _ (stored : Given) (K : PathV → Option (List ℕ)) (W N R after : Entries) (H H2 : PathV → List Dirent) (M M2 : Objects) (path d : PathV) (n : List ℕ) (x : Entry) (e : Dirent)
    (part : IsShownPart stored K W N) (so : BuiltSo stored K W N R H M) (split : path ≡ d ++ n ∷ []) (there : map.get R path ≡ Some x)
    (popped : (q : PathV) → map.get after q ≡ cond (same_path q path) None (map.get R q))
    (behind : (q : PathV) → path_cmp path q ≡ Less → map.get R q ≡ None)
    (before : (q : PathV) → IsSome (map.get after q) → path_cmp q path ≡ Less)
    (made : IsEntryListed M2 n (K path) x (H path) e) (keeps : Keeps M M2) (told : (id : List ℕ) → HasMade M2 id → (HasMade M id) ⊎ IsOwnListed (K path) x e id)
    (free : entry_named n (H d) ≡ None)
    (listed : (q : PathV) → H2 q ≡ (if same_path q d then (if same_path q path then [] else H q) ++ e ∷ [] else (if same_path q path then [] else H q))) where
  sound : IsSound W
  sound = part.sound

  in_nodes : map.get N path ≡ Some x
  in_nodes = sym (so.still path (ap is_some there)) ∙ there

  in_whole : map.get W path ≡ Some x
  in_whole = sym (part.shown path (ap is_some in_nodes)) ∙ in_nodes

  -- the directory of an entry isn't kept
  dir_open : (o : Option (List ℕ)) → K d ≡ o → IsSome o → ⊥
  dir_open o is some = true≢false (sym (ap (λ (q : PathV). is_some (map.get N q)) (sym split) ∙ ap is_some in_nodes) ∙ ap is_some (part.hidden d n (ap is_some is ∙ some)))

  not_root : path ≢ []
  not_root is = pushed_is_some d n (sym split ∙ is)

  longer : path ≢ d
  longer is = apart_by d path (ap (path_cmp d) split ∙ before_child d n) is

  -- what the directories hold now
  at_dir : H2 d ≡ H d ++ e ∷ []
  at_dir =
      listed d
      ∙ ap₂ (λ (b c : Bool). if b then (if c then [] else H d) ++ e ∷ [] else (if c then [] else H d)) (same_path-itself d) (same_path-apart d path (λ is. longer (sym is)))

  at_other : (q : PathV) → q ≢ d → q ≢ path → H2 q ≡ H q
  at_other q other own =
      listed q
      ∙ ap₂ (λ (b c : Bool). if b then (if c then [] else H q) ++ e ∷ [] else (if c then [] else H q)) (same_path-apart q d other) (same_path-apart q path own)

  named : e.name ≡ n
  named = entry_name M2 n (K path) x (H path) e made

  proper_entry : IsProperEntry e
  proper_entry = by (K path) x made in_whole
    where
      by : (o : Option (List ℕ)) (y : Entry) → IsEntryListed M2 n o y (H path) e → map.get W path ≡ Some y → IsProperEntry e
      by None Dir h here = subst IsProperEntry (sym h.is) (record { known = refl; plain = λ file. (refl, refl) })
      by (Some id) Dir h here = subst IsProperEntry (sym h) (record { known = refl; plain = λ file. (refl, refl) })
      by o (File id mode mtime modifier size) h here =
          let file : is_file_mode mode ≡ true = sound.modes path (record { id = id; mode = mode; mtime = mtime; modifier = modifier; size = size }) here in
          subst IsProperEntry (sym h)
          (record { known = ap (λ (b : Bool). b || is_directory_mode mode) file; plain = λ no_file. absurd (true≢false (sym file ∙ no_file)) })

  proper_more : (q : PathV) → All IsProperEntry (H2 q)
  proper_more q = subst (All IsProperEntry) (sym (listed q)) (by (same_path q d) (same_path q path))
    where
      all_of_none : All IsProperEntry []
      all_of_none = All-from_recursion IsProperEntry [] tt

      by : (b c : Bool) → All IsProperEntry (if b then (if c then [] else H q) ++ e ∷ [] else (if c then [] else H q))
      by true true = All-push IsProperEntry [] e all_of_none proper_entry
      by true false = All-push IsProperEntry (H q) e (so.proper q) proper_entry
      by false true = all_of_none
      by false false = so.proper q

  left : (q : PathV) → IsSome (map.get after q) → (q ≢ path) × (map.get after q ≡ map.get R q)
  left q some = by (same_path q path) refl
    where
      by : (b : Bool) → same_path q path ≡ b → (q ≢ path) × (map.get after q ≡ map.get R q)
      by true tie = absurd (true≢false (sym some ∙ ap is_some (popped q ∙ ap (λ (b : Bool). cond b None (map.get R q)) tie)))
      by false apart = (
        λ is. true≢false (sym (ap (λ (p : PathV). same_path p path) is ∙ same_path-itself path) ∙ apart),
        popped q ∙ ap (λ (b : Bool). cond b None (map.get R q)) apart,
      )

  -- a path that is gone now was gone before, or is this one
  went : (q : PathV) → map.get after q ≡ None → (q ≡ path) ⊎ (map.get R q ≡ None)
  went q away = by (same_path q path) refl
    where
      by : (b : Bool) → same_path q path ≡ b → (q ≡ path) ⊎ (map.get R q ≡ None)
      by true tie = inl (same_path-true q path tie)
      by false apart = inr (ap (λ (b : Bool). cond b None (map.get R q)) (sym apart) ∙ sym (popped q) ∙ away)

  -- the directory of this entry still waits
  dir_waits : (d ≡ []) ⊎ IsSome (map.get after d)
  dir_waits = by d refl
    where
      by : (p : PathV) → d ≡ p → (d ≡ []) ⊎ IsSome (map.get after d)
      by [] is = inl is
      by (m ∷ p) is = inr (still_there (map.get after d) refl)
        where
          some_dir : d ≢ []
          some_dir none = let both : m ∷ p ≡ [] = sym is ∙ none in cc

          in_tree : map.get N d ≡ Some Dir
          in_tree = part.nodes.in_dirs d n some_dir (ap (λ (q : PathV). is_some (map.get N q)) (sym split) ∙ ap is_some in_nodes)

          reversed : path_cmp path d ≡ Greater
          reversed = paths_total.antisymm path d ∙ ap ordering_reverse (ap (path_cmp d) split ∙ before_child d n)

          unlike : Less ≡ Greater → ⊥
          unlike h = cc

          still_there : (o : Option Entry) → map.get after d ≡ o → is_some (map.get after d) ≡ true
          still_there (Some y) h = ap is_some h
          still_there None h =
              elim (went d h) [
                | inl own ↦ absurd (longer (sym own))
                | inr away ↦ absurd (unlike (sym (so.gone d path (ap is_some in_tree) away (ap is_some there)) ∙ reversed))
              ]

  -- the new entry leads to what the tree has there
  right : (objects : Objects) → Keeps M2 objects → (q : PathV) → Sees stored objects q → entry_in objects (H2 d) (n ∷ q) ≡ map.get W (path ++ q)
  right objects all q sees =
      ap (λ (es : List Dirent). entry_in objects es (n ∷ q)) at_dir ∙ of_entry q sees (K path) refl x made in_whole
    where
      here : entry_named n (H d ++ e ∷ []) ≡ Some e
      here = named_push (H d) e n named free

      no_dir : (id : List ℕ) (mode : ℕ) (y : Entry) → map.get W path ≡ Some y → y ≢ Dir → map.get W path ≡ Some Dir → ⊥
      no_dir id mode y is other h = other (some_same y Dir (sym is ∙ h))
        where
          some_same : (a b : Entry) → Some a ≡ Some b → a ≡ b
          some_same a b e = cc

      of_entry : (q : PathV) → Sees stored objects q → (o : Option (List ℕ)) → K path ≡ o → (y : Entry) → IsEntryListed M2 n o y (H path) e → map.get W path ≡ Some y
          → entry_in objects (H d ++ e ∷ []) (n ∷ q) ≡ map.get W (path ++ q)
      of_entry [] sees None kept_is Dir h is =
          ap (option_map entry_of) here ∙ ap (λ (f : Dirent). Some (entry_of f)) h.is ∙ sym is ∙ ap (map.get W) (sym (append-nil path))
      of_entry [] sees (Some own) kept_is Dir h is =
          ap (option_map entry_of) here ∙ ap (λ (f : Dirent). Some (entry_of f)) h ∙ sym is ∙ ap (map.get W) (sym (append-nil path))
      of_entry (m ∷ q) (inl none) o kept_is Dir h is = cc none
      of_entry (m ∷ q) (inr also) (Some own) kept_is Dir h is =
          ap (λ (o : Option Dirent). option_and_then (λ id. entry_in objects (dirents_at objects id) (m ∷ q)) (directory_in o)) here
          ∙ ap (λ (f : Dirent). option_and_then (λ id. entry_in objects (dirents_at objects id) (m ∷ q)) (directory_in (Some f))) h
          ∙ part.below path own kept_is objects also m q
      of_entry [] sees o kept_is (File id mode mtime modifier size) h is =
          let file : is_file_mode mode ≡ true = sound.modes path (record { id = id; mode = mode; mtime = mtime; modifier = modifier; size = size }) is in
          ap (option_map entry_of) here ∙ ap (λ (f : Dirent). Some (entry_of f)) h
          ∙ ap (λ (b : Bool). Some (if b then Dir else File id mode mtime modifier size)) (no_directory mode file)
          ∙ sym is ∙ ap (map.get W) (sym (append-nil path))
      of_entry (m ∷ q) (inr also) None kept_is Dir h is =
          ap (λ (o : Option Dirent). option_and_then (λ id. entry_in objects (dirents_at objects id) (m ∷ q)) (directory_in o)) here
          ∙ ap (λ (o : Option (List ℕ)). option_and_then (λ id. entry_in objects (dirents_at objects id) (m ∷ q)) o) (ap (λ (f : Dirent). directory_in (Some f)) h.is)
          ∙ entries_same objects (dirents_at objects e.id) (H path) (h.lists.names (so.proper path) objects all) (m ∷ q)
          ∙ so.done objects (kept_then M M2 objects keeps all) path m q (inr also) (inr (ap is_some there)) kept_is (behind (path ++ m ∷ []) (before_child path m))
      of_entry (m ∷ q) sees o kept_is (File id mode mtime modifier size) h is =
          let file : is_file_mode mode ≡ true = sound.modes path (record { id = id; mode = mode; mtime = mtime; modifier = modifier; size = size }) is in
          ap (λ (o : Option Dirent). option_and_then (λ id. entry_in objects (dirents_at objects id) (m ∷ q)) (directory_in o)) here
          ∙ ap (λ (o : Option (List ℕ)). option_and_then (λ id. entry_in objects (dirents_at objects id) (m ∷ q)) o)
          (ap (λ (f : Dirent). directory_in (Some f)) h ∙ ap (λ (b : Bool). if b then Some id else None) (no_directory mode file))
          ∙ sym (nothing_below W sound path m q not_root (no_dir id mode (File id mode mtime modifier size) is (λ w. cc)))

  done_more : (objects : Objects) → Keeps M2 objects → (d2 : PathV) (m : List ℕ) (q : PathV) → Sees stored objects q → (d2 ≡ []) ⊎ IsSome (map.get after d2) → K d2 ≡ None → map.get after (d2 ++ m ∷ []) ≡ None
      → entry_in objects (H2 d2) (m ∷ q) ≡ map.get W (d2 ++ m ∷ q)
  done_more objects all d2 m q sees waits open_here away = elim (went (d2 ++ m ∷ []) away) [ inl own ↦ of_new own | inr old ↦ of_old old ]
    where
      was_waiting : (d2 ≡ []) ⊎ IsSome (map.get R d2)
      was_waiting = by waits
        where
          by : (d2 ≡ []) ⊎ IsSome (map.get after d2) → (d2 ≡ []) ⊎ IsSome (map.get R d2)
          by (inl root) = inl root
          by (inr some) = inr (ap is_some (sym (left d2 some).1) ∙ some)

      not_this : d2 ≢ path
      not_this is = by waits
        where
          by : (d2 ≡ []) ⊎ IsSome (map.get after d2) → ⊥
          by (inl root) = not_root (sym is ∙ root)
          by (inr some) = (left d2 some).0 is

      of_new : d2 ++ m ∷ [] ≡ path → entry_in objects (H2 d2) (m ∷ q) ≡ map.get W (d2 ++ m ∷ q)
      of_new own =
          let same : d2 ++ m ∷ [] ≡ d ++ n ∷ [] = own ∙ split in
          let dir : d2 ≡ d = sym (parent_push d2 m) ∙ ap parent_of same ∙ parent_push d n in
          let name : m ≡ n = sym (last_push d2 m) ∙ ap last_name same ∙ last_push d n in
          ap₂ (λ (p : PathV) (k : List ℕ). entry_in objects (H2 p) (k ∷ q)) dir name ∙ right objects all q sees
          ∙ ap (λ (p : PathV). map.get W (p ++ q)) (sym own) ∙ ap (map.get W) (append_assoc d2 (m ∷ []) q)

      of_old : map.get R (d2 ++ m ∷ []) ≡ None → entry_in objects (H2 d2) (m ∷ q) ≡ map.get W (d2 ++ m ∷ q)
      of_old old = by (same_path d2 d) refl ∙ so.done objects (kept_then M M2 objects keeps all) d2 m q sees was_waiting open_here old
        where
          by : (b : Bool) → same_path d2 d ≡ b → entry_in objects (H2 d2) (m ∷ q) ≡ entry_in objects (H d2) (m ∷ q)
          by true tie =
              let is : d2 ≡ d = same_path-true d2 d tie in
              let other : m ≢ e.name = λ k. gone_not (sym (ap (map.get R) (ap₂ (λ (p : PathV) (j : List ℕ). p ++ j ∷ []) is (k ∙ named) ∙ sym split)) ∙ old) in
              ap (λ (p : PathV). entry_in objects (H2 p) (m ∷ q)) is
              ∙ ap (λ (es : List Dirent). entry_in objects es (m ∷ q)) at_dir
              ∙ entry_same objects (H d ++ e ∷ []) (H d) m (named_push_other (H d) e m other) q
              ∙ ap (λ (p : PathV). entry_in objects (H p) (m ∷ q)) (sym is)
            where
              gone_not : map.get R path ≡ None → ⊥
              gone_not none = let both : Some x ≡ None = sym there ∙ none in cc
          by false apart =
              ap (λ (es : List Dirent). entry_in objects es (m ∷ q))
              (at_other d2 (λ is. true≢false (sym (ap (λ (p : PathV). same_path p d) is ∙ same_path-itself d) ∙ apart)) not_this)

  -- nothing is listed in a directory that is kept
  hollow_more : (q : PathV) (k : List ℕ) → IsSome (K q) → entry_named k (H2 q) ≡ None
  hollow_more q k some = ap (entry_named k) (listed q) ∙ by (same_path q d) (same_path q path) refl
    where
      by : (b c : Bool) → same_path q d ≡ b → entry_named k (if b then (if c then [] else H q) ++ e ∷ [] else (if c then [] else H q)) ≡ None
      by true c tie = absurd (dir_open (K d) refl (ap (λ (p : PathV). is_some (K p)) (sym (same_path-true q d tie)) ∙ some))
      by false true tie = refl
      by false false tie = so.hollow q k some

  here : entry_named n (H2 d) ≡ Some e
  here = ap (entry_named n) at_dir ∙ named_push (H d) e n named free

  -- what was reached from a directory's entries is reached still
  reach_still : (p : PathV) (id : List ℕ) → Reach R H M p id → Reach after H2 M2 p id
  reach_still p id r = by (same_path r.dir path) refl
    where
      through : r.dir ≡ path → ((objects : Objects) → Keeps M objects → directory_id_in objects (H path) (r.name ∷ r.rest) ≡ Some id)
          → (o : Option (List ℕ)) → K path ≡ o → (y : Entry) → IsEntryListed M2 n o y (H path) e → map.get W path ≡ Some y → Reach after H2 M2 p id
      through tie at (Some kept) kept_is y h is = absurd (id_named M (H path) r.name r.rest id (at M (kept_itself M)) (so.hollow path r.name (ap is_some kept_is)))
      through tie at None kept_is Dir h is = record {
        dir = d;
        name = n;
        rest = r.name ∷ r.rest;
        is = r.is ∙ ap (λ (f : PathV). f ++ r.name ∷ r.rest) (tie ∙ split) ∙ append_assoc d (n ∷ []) (r.name ∷ r.rest);
        waits = dir_waits;
        at = λ objects all.
            ap (λ (o : Option Dirent). option_and_then (λ i. directory_id_in objects (dirents_at objects i) (r.name ∷ r.rest)) (directory_in o)) here
            ∙ ap (λ (o : Option (List ℕ)). option_and_then (λ i. directory_id_in objects (dirents_at objects i) (r.name ∷ r.rest)) o) (ap (λ (f : Dirent). directory_in (Some f)) h.is)
            ∙ ids_same objects (dirents_at objects e.id) (H path) (h.lists.names (so.proper path) objects all) (r.name ∷ r.rest)
            ∙ at objects (kept_then M M2 objects keeps all);
      }
      through tie at None kept_is (File own mode mtime modifier size) h is =
          let empty : map.get W (path ++ r.name ∷ []) ≡ None = nothing_below W sound path r.name [] not_root (λ dir. no_dir (File own mode mtime modifier size) (λ w. cc) (sym is ∙ dir)) in
          absurd (id_named M (H path) r.name r.rest id (at M (kept_itself M))
          (unmapped (entry_named r.name (H path))
          (so.done M (kept_itself M) path r.name [] (inl refl) (inr (ap is_some there)) kept_is (behind (path ++ r.name ∷ []) (before_child path r.name)) ∙ empty)))
        where
          no_dir : (y : Entry) → y ≢ Dir → Some y ≡ Some Dir → ⊥
          no_dir y other h = let same : y ≡ Dir = cc in other same

          unmapped : (o : Option Dirent) → option_map entry_of o ≡ None → o ≡ None
          unmapped None h = refl
          unmapped (Some f) h = cc

      waits_still : r.dir ≢ path → (r.dir ≡ []) ⊎ IsSome (map.get after r.dir)
      waits_still other = by_waits r.waits
        where
          by_waits : (r.dir ≡ []) ⊎ IsSome (map.get R r.dir) → (r.dir ≡ []) ⊎ IsSome (map.get after r.dir)
          by_waits (inl root) = inl root
          by_waits (inr some) = inr (ap is_some (popped r.dir ∙ ap (λ (b : Bool). cond b None (map.get R r.dir)) (same_path-apart r.dir path other)) ∙ some)

      same_at : r.dir ≢ path → (objects : Objects) → Keeps M objects → (c : Bool) → same_path r.dir d ≡ c → directory_id_in objects (H2 r.dir) (r.name ∷ r.rest) ≡ directory_id_in objects (H r.dir) (r.name ∷ r.rest)
      same_at other objects all true tie =
          let is : r.dir ≡ d = same_path-true r.dir d tie in
          let apart_name : r.name ≢ e.name =
          λ k. id_named objects (H r.dir) r.name r.rest id (r.at objects all) (ap₂ (λ (p : PathV) (j : List ℕ). entry_named j (H p)) is (k ∙ named) ∙ free) in
          ap (λ (p : PathV). directory_id_in objects (H2 p) (r.name ∷ r.rest)) is
          ∙ ap (λ (es : List Dirent). directory_id_in objects es (r.name ∷ r.rest)) at_dir
          ∙ id_same objects (H d ++ e ∷ []) (H d) r.name (named_push_other (H d) e r.name apart_name) r.rest
          ∙ ap (λ (p : PathV). directory_id_in objects (H p) (r.name ∷ r.rest)) (sym is)
      same_at other objects all false away =
          ap (λ (es : List Dirent). directory_id_in objects es (r.name ∷ r.rest))
          (at_other r.dir (λ is. true≢false (sym (ap (λ (p : PathV). same_path p d) is ∙ same_path-itself d) ∙ away)) other)

      by : (b : Bool) → same_path r.dir path ≡ b → Reach after H2 M2 p id
      by true tie =
          through (same_path-true r.dir path tie) (λ objects all. ap (λ (p : PathV). directory_id_in objects (H p) (r.name ∷ r.rest)) (sym (same_path-true r.dir path tie)) ∙ r.at objects all)
          (K path) refl x made in_whole
      by false apart =
          let other : r.dir ≢ path = λ is. true≢false (sym (ap (λ (p : PathV). same_path p path) is ∙ same_path-itself path) ∙ apart) in
          record {
            dir = r.dir;
            name = r.name;
            rest = r.rest;
            is = r.is;
            waits = waits_still other;
            at = λ objects all. same_at other objects (kept_then M M2 objects keeps all) (same_path r.dir d) refl ∙ r.at objects (kept_then M M2 objects keeps all);
          }

  -- a directory that is made, or kept, is reached by its entry
  reach_more : (id : List ℕ) → HasMade M2 id → (q : PathV) × Reach after H2 M2 q id
  reach_more id has = elim (told id has) [
    | inl old ↦ let r = so.reach id old in (r.0, reach_still r.0 id r.1)
    | inr own ↦ (path, of_own (K path) x made own)
  ]
    where
      of_own : (o : Option (List ℕ)) (y : Entry) → IsEntryListed M2 n o y (H path) e → IsOwnListed o y e id → Reach after H2 M2 path id
      of_own (Some kept) y h none = absurd none
      of_own None Dir h own = record {
        dir = d;
        name = n;
        rest = [];
        is = split;
        waits = dir_waits;
        at = λ objects all. ap directory_in here ∙ ap (λ (f : Dirent). directory_in (Some f)) h.is ∙ ap Some (sym own);
      }
      of_own None (File own mode mtime modifier size) h none = absurd none

  listed_more : (q : PathV) (id : List ℕ) → K q ≡ Some id → map.get after q ≡ None → Reach after H2 M2 q id
  listed_more q id kept away = elim (went q away) [
    | inl own ↦ let kept_here : K path ≡ Some id = ap K (sym own) ∙ kept in
        subst (λ (p : PathV). Reach after H2 M2 p id) (sym own) (of_kept kept_here (K path) x made refl (sym in_nodes ∙ part.stands path id kept_here))
    | inr old ↦ reach_still q id (so.listed q id kept old)
  ]
    where
      of_kept : K path ≡ Some id → (o : Option (List ℕ)) (y : Entry) → IsEntryListed M2 n o y (H path) e → K path ≡ o → Some y ≡ Some Dir → Reach after H2 M2 path id
      of_kept kept_here None y h is dir = let both : None ≡ Some id = sym is ∙ kept_here in cc
      of_kept kept_here (Some own) Dir h is dir = record {
        dir = d;
        name = n;
        rest = [];
        is = split;
        waits = dir_waits;
        at = λ objects all. ap directory_in here ∙ ap (λ (f : Dirent). directory_in (Some f)) h ∙ sym is ∙ kept_here;
      }
      of_kept kept_here (Some own) (File file mode mtime modifier size) h is dir = cc

  pub built_more : BuiltSo stored K W N after H2 M2
  built_more = record {
    proper = proper_more;
    still = λ q some. (left q some).1 ∙ so.still q (ap is_some (sym (left q some).1) ∙ some);
    gone = λ q r whole away some.
        elim (went q away) [
          | inl own ↦ ap (path_cmp r) own ∙ before r some
          | inr old ↦ so.gone q r whole old (ap is_some (sym (left r some).1) ∙ some)
        ];
    done = done_more;
    hollow = hollow_more;
    reach = reach_more;
    listed = listed_more;
  }

-- A directory is merged, once its entries are merged over what is left below them. The key lemma is directory_merged.
use Rattle.std.proofs.Common.{◌≡◌, ◌<◌, ◌||◌, Bool, true, false, if◌then◌else◌, ℕ, List, [], ◌∷◌, ◌++◌, refl, sym, ap, ap₂, ◌∙◌, subst, arith, Option, Some, None, IsSome, is_some, option_map, true≢false, ◌⊎◌, inl, inr}
use Rattle.std.proofs.lemmas.Bool.{or_right}
use Rattle.std.specs.FinMap as map
use Rattle.std.specs.List.{sum_by}
use Rattle.std.specs.Option.{option_or}
use Rattle.ids.specs.Key.{Objects}
use Rattle.ids.specs.declared.key.Key.{Key}
use Rattle.ids.proofs.BasicLemmas.{none_from_option_map}
use Rattle.tree_model.specs.Path.{PathV, path_cmp}
use Rattle.tree_model.specs.PathCounts.{paths_below}
use Rattle.tree_model.specs.PathOrder.{paths_exact, paths_total}
use Rattle.tree_model.specs.DirectorySurvival.{Sides, stays}
use Rattle.tree_model.specs.MergeParts.{AreParts, IsFirst, IsLevel, MergesBelow, MergesHere, copy_at, long_at, long_in, told_behind}
use Rattle.tree_model.specs.ThreeWayMerge.{merged}
use Rattle.tree_model.proofs.FirstOfLemmas.{copy_unknown, first_same}
use Rattle.tree_model.proofs.OneLevelLemmas.{level_len}
use Rattle.tree_model.proofs.PartLemmas.{part_len}
use Rattle.tree_model.proofs.SortedEntryLemmas.{found_sorted}
use Rattle.conflict_names.specs.Naming.{naming}
use Rattle.conflict_names.proofs.GoodNameLemmas.{naming-naming}
use Rattle.object_graph.specs.Objects.{node_of}
use Rattle.object_graph.specs.Unchanged.{Keeps}
use Rattle.object_graph.specs.declared.entry.Entry.{Entry}
use Rattle.object_graph.specs.declared.entry.Entry.TheVariants.{Dir}
use Rattle.tree_merge.specs.DirectoryMerge.{AreSidesOf, IsBuiltBelow, IsMergedPart, IsNamedPart}
use Rattle.tree_merge.specs.Level.{IsEmpty}
use Rattle.tree_merge.specs.HeadDirectory.{FindsOwn, IsRight}
use Rattle.tree_merge.specs.LevelMerge.{IsBuiltFrom, IsNamedLevel, IsTakenBelow, MakesDirectory, MakesFrom, MakesIf, MakesLevel, MakesOne, MergesLevel, head_if, kept_paths}
use Rattle.tree_merge.specs.Opening.{AreWholeSides, IsWholeIf, IsWholeSide, id_in, paths_in}
use Rattle.tree_merge.specs.Sides.{AreTrees, Entries, IsSeen}
use Rattle.tree_merge.specs.TreeBuilding.{Given, IsDirectoryText, IsShownPart, IsSound, kept_ids}
use Rattle.tree_merge.specs.WorkSoFar.{copies_behind, long_told}
use Rattle.tree_merge.specs.declared.level.Level.{Level}
use Rattle.tree_merge.specs.declared.opening.Ids.{Ids}
use Rattle.tree_merge.specs.declared.opening.Kept.{Kept}
use Rattle.tree_merge.specs.declared.opening.Opened.{Opened}
use Rattle.tree_merge.specs.declared.work.Stop.{Stop}
use Rattle.tree_merge.specs.declared.work.Stop.TheVariants as why
use Rattle.tree_merge.specs.declared.work.Work.{Work}
use Rattle.tree_merge.proofs.CopiesBehindLemmas.{copies_told}
use Rattle.tree_merge.proofs.DirectoryBuiltLemmas.{built_nothing, built_own, built_some}
use Rattle.tree_merge.proofs.DoneNameLemmas.{of_done, or_assoc, or_none, told_below, told_two, waits}
use Rattle.tree_merge.proofs.FirstNameLemmas.{below_name}
use Rattle.tree_merge.proofs.HeadDirectoryLemmas.{asked_is}
use Rattle.tree_merge.proofs.JoinedSideLemmas.{seen_len}
use Rattle.tree_merge.proofs.LevelMadeLemmas.{from_long, short_none}
use Rattle.tree_merge.proofs.LevelReadyLemmas as ready
use Rattle.tree_merge.proofs.MadeLemmas.{kept_itself, kept_then}
use Rattle.tree_merge.proofs.PathLimitLemmas.{below_len, merged_len, paths_len, sum_of}
use Rattle.tree_merge.proofs.SideLemmas.{side_fits}
use Rattle.tree_merge.proofs.MergingSoLemmas.{BuiltSoFar, MergingSo, NamedSoFar, PartBuilt, copies_of, taken_more}
use Rattle.tree_merge.proofs.WholePartLemmas.{entry_at, get_whole, gone_below, left_stands, nodes_single, part_shown, taken_above, text_above, whole_entries, whole_files, whole_seen, whole_sound}

module _ (objects : Objects) (path : PathV) (ids : Ids) (room : ℕ) (whole : AreWholeSides objects room ids) (s : Sides) (are : AreSidesOf objects ids s) (level : Level) (opened : Opened) (old now : Work)
    (so : MergingSo objects path ids (below_name objects ids room whole) level opened old now) (empty : IsEmpty level) where
  abbrev c : List ℕ → Sides
  c = below_name objects ids room whole

  abbrev part_of : List ℕ → Option Kept
  part_of n = map.get opened.kept (n ∷ [])

  abbrev l : Sides
  l = ready.l objects path ids room whole s are level opened old now so empty

  trees : AreTrees s
  trees = ready.trees objects path ids room whole s are level opened old now so empty

  gone : (n : List ℕ) → waits level n ≡ false
  gone = ready.gone objects path ids room whole s are level opened old now so empty

  parts : (n : List ℕ) → AreParts (n ∷ []) s (c n)
  parts = ready.parts objects path ids room whole s are level opened old now so empty

  below : (n : List ℕ) → MergesBelow naming (n ∷ []) s (c n)
  below = ready.below objects path ids room whole s are level opened old now so empty

  survives : (n : List ℕ) → is_some (part_of n) ≡ stays (c n) []
  survives = ready.survives objects path ids room whole s are level opened old now so empty

  is_level : IsLevel s l (λ n. is_some (part_of n))
  is_level = ready.is_level objects path ids room whole s are level opened old now so empty

  here : MergesHere naming s l
  here = ready.here objects path ids room whole s are level opened old now so empty

  own_trees : AreTrees l
  own_trees = ready.own_trees objects path ids room whole s are level opened old now so empty

  -- ---- the first long name

  long_two : (n : List ℕ) (r : PathV) → option_or (of_done (waits level) (λ k. long_at naming (c k)) (n ∷ r)) (long_at naming l (n ∷ r)) ≡ long_at naming s (n ∷ r)
  long_two n [] = ap long_in (sym (here.copies n))
  long_two n (m ∷ r) =
      ap₂ (λ (b : Bool) (o : Option ℕ). option_or (if b then None else long_at naming (c n) (m ∷ r)) o) (gone n) (ap long_in (here.alone n m r))
      ∙ or_none (long_at naming (c n) (m ∷ r)) ∙ sym ((below n).longs m r)

  module _ (new : Work) (part : Option Kept) (merged_level : MergesLevel objects path ids.head l opened.kept now new part) where
    long_all : (f : PathV → Option ℕ) → IsFirst f (long_told old.long) → IsFirst (λ q. option_or (f q) (told_behind path (long_at naming s) q)) (long_told new.long)
    long_all f first =
        first_same (λ q. option_or (option_or (f q) (told_below path (of_done (waits level) (λ k. long_at naming (c k))) q)) (told_behind path (long_at naming l) q))
        (λ q. option_or (f q) (told_behind path (long_at naming s) q))
        (λ q. or_assoc (f q) (told_below path (of_done (waits level) (λ k. long_at naming (c k))) q) (told_behind path (long_at naming l) q)
        ∙ ap (option_or (f q)) (told_two path (of_done (waits level) (λ k. long_at naming (c k))) (long_at naming l) (long_at naming s) long_two q))
        (long_told new.long)
        (merged_level.long (λ q. option_or (f q) (told_below path (of_done (waits level) (λ k. long_at naming (c k))) q)) (so.long f first))

    module _ (short : long_told new.long ≡ None) where
      nl : IsNamedLevel objects path ids.head l opened.kept now new part
      nl = merged_level.named short

      -- the copies are told, and then an object is made, or the head's is used
      ml : MakesLevel path nl.named opened.kept nl.makes.own now new part
      ml = nl.makes.makes

      abbrev Makes : Option Kept → Type 0
      Makes p = MakesIf nl.named.nodes opened.kept nl.makes.own ml.mid new p

      long_made : (p : Option Kept) → Makes p → long_told new.long ≡ long_told ml.mid.long
      long_made None made = made.long
      long_made (Some k) made = from_long nl.named.nodes opened.kept k.paths ml.mid new k.id nl.makes.own made.makes

      short_now : long_told now.long ≡ None
      short_now = sym ml.mid_long ∙ sym (long_made part ml.makes) ∙ short

      sf : NamedSoFar objects path ids c (waits level) opened.kept old now
      sf = so.named short_now

      abbrev E : List ℕ → Entries
      E = sf.entries

      abbrev W : Entries
      W = whole_entries objects ids s l c are trees parts (λ n. is_some (part_of n)) is_level nl.named.nodes E (λ more keeps. (nl.told more keeps).nodes) (λ n. (sf.parts n (gone n)).seen) (λ n. (sf.parts n (gone n)).sound)

      abbrev surv : List ℕ → Bool
      surv n = is_some (part_of n)

      told_nodes : (more : Objects) → Keeps objects more → IsSeen more nl.named.nodes (merged naming l)
      told_nodes more keeps = (nl.told more keeps).nodes

      seen_E : (n : List ℕ) (more : Objects) → Keeps objects more → IsSeen more (E n) (merged naming (c n))
      seen_E n = (sf.parts n (gone n)).seen

      sound_E : (n : List ℕ) → IsSound (E n)
      sound_E n = (sf.parts n (gone n)).sound

      W_is : (q : PathV) → map.get W q ≡ entry_at objects ids s l c are trees parts surv is_level nl.named.nodes E told_nodes seen_E sound_E q
      W_is = get_whole objects ids s l c are trees parts surv is_level nl.named.nodes E told_nodes seen_E sound_E

      W_seen : (more : Objects) → Keeps objects more → IsSeen more W (merged naming s)
      W_seen = whole_seen objects ids s l c are trees parts surv is_level nl.named.nodes E told_nodes seen_E sound_E

      W_sound : IsSound W
      W_sound = whole_sound objects ids s l c are trees parts surv is_level nl.named.nodes E told_nodes seen_E sound_E

      W_text : (n bytes : List ℕ) → IsDirectoryText (E n) bytes → IsDirectoryText W bytes
      W_text = text_above objects ids s l c are trees parts surv is_level nl.named.nodes E told_nodes seen_E sound_E opened.kept so.kept_single survives

      W_taken : (n id : List ℕ) (made : Objects) → IsTakenBelow (E n) made id → IsTakenBelow W made id
      W_taken = taken_above objects ids s l c are trees parts surv is_level nl.named.nodes E told_nodes seen_E sound_E opened.kept so.kept_single survives

      -- ---- copies

      copies_two : (n : List ℕ) (r : PathV) → option_or (option_map (λ p. path ++ p) (copy_at naming l (n ∷ r))) (of_done (waits level) (copies_of objects path ids c) (n ∷ r)) ≡ option_map (λ p. path ++ p) (copy_at naming s (n ∷ r))
      copies_two n [] = or_none (option_map (λ p. path ++ p) (copy_at naming l (n ∷ []))) ∙ ap (option_map (λ p. path ++ p)) (sym (here.copies n))
      copies_two n (m ∷ r) =
          ap₂ (λ (o : Option PathV) (b : Bool). option_or (option_map (λ p. path ++ p) o) (if b then None else copies_of objects path ids c n (m ∷ r))) (here.alone n m r) (gone n)
          ∙ twice (copy_at naming (c n) (m ∷ r)) ∙ ap (option_map (λ p. path ++ p)) (sym ((below n).copies m r))
        where
          twice : (o : Option PathV) → option_map (λ p. path ++ n ∷ p) o ≡ option_map (λ p. path ++ p) (option_map (λ p. (n ∷ []) ++ p) o)
          twice None = refl
          twice (Some p) = refl

      root_none : (t : Sides) → AreTrees t → copy_at naming t [] ≡ None
      root_none t own = copy_unknown naming t [] (ap₂ ◌||◌ (ap is_some own.base.no_root) (ap₂ ◌||◌ (ap is_some own.head.no_root) (ap is_some own.pushed.no_root)))

      copies_now : (q : PathV) → map.get new.copies q ≡ option_or (copies_behind path (copy_at naming s) q) (map.get old.copies q)
      copies_now q =
          ml.copies q
          ∙ ap₂ (λ (x y : Option PathV). option_or x y)
          (ap (λ (f : PathV → Option PathV). copies_behind path f q) (λ i r. (nl.told objects (kept_itself objects)).copies r i) ∙ copies_told path (copy_at naming l) (root_none l own_trees) q)
          (sf.copies q)
          ∙ sym (or_assoc (told_below path (λ r. option_map (λ p. path ++ p) (copy_at naming l r)) q) (told_below path (of_done (waits level) (copies_of objects path ids c)) q) (map.get old.copies q))
          ∙ ap (λ (o : Option PathV). option_or o (map.get old.copies q))
          (told_two path (λ r. option_map (λ p. path ++ p) (copy_at naming l r)) (of_done (waits level) (copies_of objects path ids c)) (λ r. option_map (λ p. path ++ p) (copy_at naming s r)) copies_two q
          ∙ sym (copies_told path (copy_at naming s) (root_none s trees) q))

      -- ---- how many paths

      stands : (n : List ℕ) → is_some (part_of n) ≡ true → map.get nl.named.nodes (n ∷ []) ≡ Some Dir
      stands n = left_stands objects ids s l c are trees parts surv is_level nl.named.nodes E told_nodes seen_E sound_E opened.kept so.kept_single survives n

      -- no entries are no paths at all
      no_node : map.len nl.named.nodes ≡ 0 → (r : PathV) → map.get nl.named.nodes r ≡ None
      no_node none r = ap (λ (m : Entries). map.get m r) (map.empty_of_len nl.named.nodes none) ∙ map.get-empty path_cmp r

      no_part : map.len nl.named.nodes ≡ 0 → (n : List ℕ) → part_of n ≡ None
      no_part none n = by (part_of n) refl
        where
          by : (o : Option Kept) → part_of n ≡ o → part_of n ≡ None
          by None is = is
          by (Some k) is = let both : None ≡ Some Dir = sym (no_node none (n ∷ [])) ∙ stands n (ap is_some is) in cc

      nothing_left : map.len nl.named.nodes ≡ 0 → (q : PathV) → map.get W q ≡ None
      nothing_left none q = W_is q ∙ at_path q
        where
          at_path : (r : PathV) → entry_at objects ids s l c are trees parts surv is_level nl.named.nodes E told_nodes seen_E sound_E r ≡ None
          at_path [] = refl
          at_path (n ∷ []) = no_node none (n ∷ [])
          at_path (n ∷ m ∷ r) =
              none_from_option_map (node_of objects) (map.get (E n) (m ∷ r))
              (sym (seen_E n objects (kept_itself objects) (m ∷ r)) ∙ (below n).nothing (sym (survives n) ∙ ap is_some (no_part none n)) (m ∷ r))

      sum_left : kept_paths opened.kept ≡ sum_by (paths_below (merged naming s)) (map.keys opened.kept)
      sum_left =
          sum_of (λ (own : Kept). own.paths) (paths_below (merged naming s)) (map.entries opened.kept)
          (λ e there. of_one e (map.get-entries opened.kept e.0 ∙ found_sorted e (map.entries opened.kept) (map.entries_sorted opened.kept) there))
        where
          of_one : (e : PathV × Kept) → map.get opened.kept e.0 ≡ Some e.1 → e.1.paths ≡ paths_below (merged naming s) e.0
          of_one e there =
              let one = so.kept_single e.0 (ap is_some there) in
              let n : List ℕ = one.0 in
              ap paths_in (sym there ∙ ap (map.get opened.kept) one.1)
              ∙ (sf.parts n (gone n)).count
              ∙ sym (part_len naming naming-naming s (c n) (n ∷ []) (parts n) trees.base trees.head trees.pushed)
              ∙ ap (paths_below (merged naming s)) (sym one.1)

      covers : (n m : List ℕ) (r : PathV) → IsSome (map.get (merged naming s) (n ∷ m ∷ r)) → IsSome (map.get opened.kept (n ∷ []))
      covers n m r some = left (stays (c n) []) refl
        where
          left : (b : Bool) → stays (c n) [] ≡ b → is_some (part_of n) ≡ true
          left true is = survives n ∙ is
          left false is = absurd (true≢false (sym some ∙ ap is_some (sym ((below n).nodes m r) ∙ (below n).nothing is (m ∷ r))))

      counted : (p : Option Kept) → Makes p → paths_in p ≡ map.len (merged naming s)
      counted None made =
          sym (seen_len objects W (merged naming s) (W_seen objects (kept_itself objects))
          ∙ ap map.len (map.same_map paths_total paths_exact W map.empty (λ q. nothing_left made.none q ∙ sym (map.get-empty path_cmp q))) ∙ map.len-empty path_cmp Entry)
      counted (Some k) made =
          let all = level_len naming naming-naming s l surv is_level trees.base trees.head trees.pushed opened.kept so.kept_single covers in
          let own = seen_len objects nl.named.nodes (merged naming l) (told_nodes objects (kept_itself objects)) in
          let few = merged_len naming s in
          let sides = paths_len s in
          let b = (side_fits objects room ids.base whole.0 s.base are.base).count in
          let h = (side_fits objects room ids.head whole.1 s.head are.head).count in
          let p = (side_fits objects room ids.pushed whole.2 s.pushed are.pushed).count in
          let is = made.paths in
          omega (arith, all, own, few, sides, b, h, p, is, sum_left)

      -- ---- texts and refusals are the whole's

      texts_now : (key : Key) (bytes : List ℕ) → map.get now.made key ≡ Some bytes → (map.get old.made key ≡ Some bytes) ⊎ IsDirectoryText W bytes
      texts_now key bytes there = elim (sf.texts key bytes there) [ inl before ↦ inl before | inr found ↦ inr (W_text found.0 bytes found.1.1) ]

      taken_now : (made : Objects) → Keeps now.made made → (id : List ℕ) → now.stop ≡ Some (why.Taken id) → (old.stop ≡ Some (why.Taken id)) ⊎ IsTakenBelow W made id
      taken_now made keeps id is = elim (sf.taken id is) [ inl before ↦ inl before | inr found ↦ inr (W_taken found.0 id made (taken_more (E found.0) now.made made keeps id found.1.1)) ]

      -- a part of too many paths makes the whole too large
      many_now : (p : Option Kept) → paths_in p ≡ map.len (merged naming s) → now.stop ≡ Some why.Many → (old.stop ≡ Some why.Many) ⊎ (1000000 < paths_in p)
      many_now p count is = elim (sf.many is) [ inl before ↦ inl before | inr found ↦ inr (large found.0 found.1.1) ]
        where
          large : (n : List ℕ) → 1000000 < paths_in (part_of n) → 1000000 < paths_in p
          large n big =
              let own = (sf.parts n (gone n)).count in
              let part = part_len naming naming-naming s (c n) (n ∷ []) (parts n) trees.base trees.head trees.pushed in
              let few = below_len (merged naming s) (n ∷ []) in
              omega (arith, big, own, part, few, count)

      -- ---- all together

      -- what is told of a part, of what is left of it
      abbrev Named : Option Kept → Type 0
      Named p = IsNamedPart objects path true ids s old new p

      named_of : (p : Option Kept) → ((key : Key) (bytes : List ℕ) → map.get new.made key ≡ Some bytes → (map.get old.made key ≡ Some bytes) ⊎ IsDirectoryText W bytes) → Keeps now.made new.made
          → ((id : List ℕ) → new.stop ≡ Some (why.Taken id) → (old.stop ≡ Some (why.Taken id)) ⊎ IsTakenBelow W new.made id) → (new.stop ≡ Some why.Many → (old.stop ≡ Some why.Many) ⊎ (1000000 < paths_in p))
          → (new.stop ≡ None → now.stop ≡ None) → (new.stop ≡ None → IsBuiltBelow objects W true ids old.made new.made (id_in p)) → paths_in p ≡ map.len (merged naming s) → Named p
      named_of p texts keeps taken many still built count = record {
        count = count;
        copies = copies_now;
        entries = W;
        sound = W_sound;
        seen = W_seen;
        whole = whole_files objects ids s l c are trees parts surv is_level nl.named.nodes E told_nodes seen_E sound_E nl.whole (λ n. (sf.parts n (gone n)).whole);
        kept_made = kept_then old.made now.made new.made sf.kept_made keeps;
        texts = texts;
        taken = taken;
        many = many;
        still = λ clear. sf.still (still clear);
        built = built;
      }

      -- nothing was made
      unmade : (p : Option Kept) → Makes p → new.made ≡ now.made → new.stop ≡ now.stop → (now.stop ≡ None → IsBuiltBelow objects W true ids old.made now.made (id_in p)) → Named p
      unmade p made same alike built =
          let keeps : Keeps now.made new.made = subst (Keeps now.made) (sym same) (kept_itself now.made) in
          named_of p
          (λ key bytes there. texts_now key bytes (ap (λ (m : Objects). map.get m key) (sym same) ∙ there))
          keeps
          (λ id is. taken_now new.made keeps id (sym alike ∙ is))
          (λ is. many_now p (counted p made) (sym alike ∙ is))
          (λ clear. sym alike ∙ clear)
          (λ clear. subst (λ (m : Objects). IsBuiltBelow objects W true ids old.made m (id_in p)) (sym same) (built (sym alike ∙ clear)))
          (counted p made)

      -- there are no entries
      of_none : Makes None → Named None
      of_none made =
          unmade None made (made.made ∙ ml.mid_made) (made.stop ∙ ml.mid_stop)
          (λ clear. built_nothing objects path ids c (waits level) opened.kept E old.made now.made (sf.built clear) gone W (nothing_left made.none) (no_part made.none))

      -- the merge is refused already, or the directory is made, or it is the head's
      of_some : (k : Kept) → Makes (Some k) → Named (Some k)
      of_some k made = from nl.makes.own nl.makes.found made.makes
        where
          taking : (h : List ℕ) → head_if ids.head now ≡ Some h → IsRight objects h nl.named.nodes opened.kept → k.id ≡ h → new ≡ ml.mid → Named (Some k)
          taking h asked right is same =
              let side : IsWholeSide objects room h = subst (IsWholeIf objects room) (asked_is ids.head now h asked) whole.1 in
              unmade (Some k) made (ap (λ (w : Work). w.made) same ∙ ml.mid_made) (ap (λ (w : Work). w.stop) same ∙ ml.mid_stop)
              (λ clear. subst (IsBuiltBelow objects W true ids old.made now.made) (sym is)
              (built_own objects path ids c (waits level) opened.kept E old.made now.made (sf.built clear) gone W nl.named.nodes h (asked_is ids.head now h asked) side.complete right
              (W_is []) (λ n. W_is (n ∷ [])) (λ n m q. W_is (n ∷ m ∷ q)) stands made.some))

          making : FindsOwn objects (head_if ids.head now) nl.named.nodes opened.kept None → MakesDirectory nl.named.nodes opened.kept k.paths ml.mid new k.id → Named (Some k)
          making found d = by ml.mid.stop refl
            where
              keeps : Keeps now.made new.made
              keeps = subst (λ (m : Objects). Keeps m new.made) ml.mid_made d.kept_made

              stopped : (x : Stop) → ml.mid.stop ≡ Some x → Named (Some k)
              stopped x is =
                  let same = d.stopped (or_right (is_some ml.mid.long) (is_some ml.mid.stop) (ap is_some is)) in
                  unmade (Some k) made (same.0 ∙ ml.mid_made) (same.1 ∙ ml.mid_stop) (λ clear. absurd (let both : None ≡ Some x = sym clear ∙ sym ml.mid_stop ∙ is in cc))

              going : ml.mid.stop ≡ None → Named (Some k)
              going is =
                  let clear_now : now.stop ≡ None = sym ml.mid_stop ∙ is in
                  let one : MakesOne nl.named.nodes opened.kept k.paths ml.mid new k.id = d.makes (ap₂ ◌||◌ (short_none ml.mid.long (ml.mid_long ∙ short_now)) (ap is_some is)) in
                  let bs = sf.built clear_now in
                  let shown : IsShownPart given (kept_ids opened.kept) W nl.named.nodes = shown_now bs in
                  named_of (Some k)
                  (λ key bytes there. elim (one.texts given W shown key bytes there) [
                    | inr text ↦ inr text
                    | inl before ↦ texts_now key bytes (ap (λ (m : Objects). map.get m key) (sym ml.mid_made) ∙ before)
                  ])
                  keeps
                  (λ id there. inr (one.taken given W shown id there))
                  (λ there. inr (one.many there))
                  (λ clear. clear_now)
                  (λ clear. built_some objects path ids c (waits level) opened.kept E old.made now.made bs gone new.made keeps W k.id so.kept_single
                  (subst (λ (m : Objects). IsBuiltFrom given (kept_ids opened.kept) W m new.made k.id) ml.mid_made (one.built clear given W shown))
                  nl.named.nodes (nodes_single objects ids s l c are trees parts surv is_level nl.named.nodes E told_nodes seen_E sound_E) (λ n. W_is (n ∷ []))
                  (gone_below objects ids s l c are trees parts surv is_level nl.named.nodes E told_nodes seen_E sound_E opened.kept so.kept_single survives)
                  (λ h is right. found h (ap (λ (b : Bool). if b then None else ids.head) (ap₂ ◌||◌ (short_none now.long short_now) (ap is_some clear_now)) ∙ is) right))
                  (counted (Some k) made)
                where
                  given : Given
                  given = record { stored = objects; made = now.made }

                  part_is : (bs : BuiltSoFar objects path ids c (waits level) opened.kept E old.made now.made) (n : List ℕ) (part : Kept) → part_of n ≡ Some part → PartBuilt objects path ids c n (Some part) (E n) (bs.kept_of n) now.made
                  part_is bs n part is = subst (λ (o : Option Kept). PartBuilt objects path ids c n o (E n) (bs.kept_of n) now.made) is (bs.parts n (gone n))

                  shown_now : BuiltSoFar objects path ids c (waits level) opened.kept E old.made now.made → IsShownPart given (kept_ids opened.kept) W nl.named.nodes
                  shown_now bs =
                      part_shown objects ids s l c are trees parts surv is_level nl.named.nodes E told_nodes seen_E sound_E opened.kept so.kept_single survives given
                      (λ n part is more there. (part_is bs n part is).value more there.0 there.1)
                      (λ n part is zeros. (part_is bs n part is).zeros.0 zeros)
                      (λ n part is none. (part_is bs n part is).zeros.1 none)

              by : (o : Option Stop) → ml.mid.stop ≡ o → Named (Some k)
              by None is = going is
              by (Some x) is = stopped x is

          from : (o : Option (List ℕ)) → FindsOwn objects (head_if ids.head now) nl.named.nodes opened.kept o → MakesFrom o nl.named.nodes opened.kept k.paths ml.mid new k.id → Named (Some k)
          from None found made_one = making found made_one
          from (Some h) found used = taking h found.0 found.1 used.0 used.1

      named_now : Named part
      named_now = by part ml.makes
        where
          by : (p : Option Kept) → Makes p → Named p
          by None made = of_none made
          by (Some k) made = of_some k made

    pub directory_merged : IsMergedPart objects path true ids s old new part
    directory_merged = record { survives = merged_level.survives ∙ here.survives; long = long_all; named = named_now }

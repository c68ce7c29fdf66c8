-- Before the first name of a directory nothing is merged. The key lemmas are sides_of_names and merging_start.
use Rattle.std.proofs.Common.{◌≡◌, ◌≤◌, ◌||◌, not, Bool, true, false, if◌then◌else◌, ℕ, length, List, [], ◌∷◌, ◌++◌, refl, sym, ap, ap₂, ◌∙◌, subst, arith, Option, Some, None, IsSome, is_some, option_map, option_and_then, true≢false, inl, inr}
use Rattle.std.specs.FinMap as map
use Rattle.std.specs.Option.{option_or}
use Rattle.ids.specs.Key.{Objects}
use Rattle.tree_model.specs.declared.node.Node.{Node}
use Rattle.tree_model.specs.Path.{PathV, path_cmp}
use Rattle.tree_model.specs.PathOrder.{paths_exact, paths_total}
use Rattle.tree_model.specs.DirectorySurvival.{Sides}
use Rattle.tree_model.specs.MergeParts.{long_at}
use Rattle.tree_model.specs.ThreeWayMerge.{merged}
use Rattle.tree_model.proofs.FirstOfLemmas.{first_same}
use Rattle.conflict_names.specs.Naming.{naming}
use Rattle.fs_objects.specs.declared.dirent.Dirent.{Dirent}
use Rattle.object_graph.specs.Objects.{dirents_at, directory_in, entry_below, entry_in, entry_named, node_of}
use Rattle.object_graph.specs.declared.entry.Entry.{Entry}
use Rattle.tree_merge.specs.DirectoryMerge.{AreSidesOf}
use Rattle.tree_merge.specs.FileChoice.{IsWholeIf as IsWholeFile}
use Rattle.tree_merge.specs.FileEntry.{file_in}
use Rattle.tree_merge.specs.Opening.{AreWholeSides, IsLevelOf, IsWholeIf, dirents_if, is_settled, part_in}
use Rattle.tree_merge.specs.WorkSoFar.{long_told}
use Rattle.tree_merge.specs.declared.level.Level.{Level}
use Rattle.tree_merge.specs.declared.opening.Ids.{Ids}
use Rattle.tree_merge.specs.declared.opening.Kept.{Kept}
use Rattle.tree_merge.specs.declared.opening.Opened.{Opened}
use Rattle.tree_merge.specs.declared.work.Work.{Work}
use Rattle.tree_merge.proofs.DoneNameLemmas.{done_start, of_done, told_below, waits}
use Rattle.tree_merge.proofs.HeadsUsedLemmas.{nil_heads}
use Rattle.tree_merge.proofs.LevelTreeLemmas.{join_over, three_given}
use Rattle.tree_merge.proofs.MadeLemmas.{kept_itself}
use Rattle.tree_merge.proofs.OwnPartLemmas.{HasSide, nil_entries, no_copies, none_long, none_merged, none_sound, none_survives, settled_side}
use Rattle.tree_merge.proofs.SideLemmas.{ids_at, none_in, side_trees, sides_exist, trio_of}
use Rattle.tree_merge.proofs.MergingSoLemmas.{MergingSo, PartBuilt, PartSo, copies_of}
use Rattle.tree_merge.proofs.WholeSideLemmas.{child_complete}

module _ (objects : Objects) (ids : Ids) (room : ℕ) (whole : AreWholeSides objects room ids) where
  -- ---- the sides below each name

  -- what lies below an entry is whole as the directory is
  child_whole : (o : Option (List ℕ)) → IsWholeIf objects room o → (n : List ℕ) → IsWholeIf objects room (directory_in (entry_named n (dirents_if objects o)))
  child_whole None own n = tt
  child_whole (Some id) own n = by (directory_in (entry_named n (dirents_at objects id))) refl
    where
      by : (o : Option (List ℕ)) → directory_in (entry_named n (dirents_at objects id)) ≡ o → IsWholeIf objects room o
      by None found = tt
      by (Some child) found = record { complete = child_complete objects id own.complete n child found; deep = deep }
        where
          deep : (q : PathV) → IsSome (entry_below objects q child) → length q ≤ room
          deep [] there = omega arith
          deep (m ∷ q) there =
              let long : length (n ∷ m ∷ q) ≤ room = own.deep (n ∷ m ∷ q) (ap (λ (o : Option (List ℕ)). is_some (option_and_then (λ i. entry_in objects (dirents_at objects i) (m ∷ q)) o)) found ∙ there) in
              omega (arith, long)

  pub names_whole : (n : List ℕ) → AreWholeSides objects room (ids_at objects ids n)
  names_whole n = (child_whole ids.base whole.0 n, child_whole ids.head whole.1 n, child_whole ids.pushed whole.2 n)

  -- three trees below the entries of each name
  pub below_name : List ℕ → Sides
  below_name n = (sides_exist objects room (ids_at objects ids n) (names_whole n)).0

  pub are_below : (n : List ℕ) → AreSidesOf objects (ids_at objects ids n) (below_name n)
  unfolding below_name
  are_below n = (sides_exist objects room (ids_at objects ids n) (names_whole n)).1

  -- ---- before the first name

  module _ (path : PathV) (level : Level) (of : IsLevelOf objects ids level) (opened : Opened) (joined_none : opened.joined ≡ map.empty) (kept_none : opened.kept ≡ map.empty) (w : Work) where
    abbrev c : List ℕ → Sides
    c = below_name

    waits_is : (n : List ℕ) → waits level n ≡ (is_some (trio_of objects ids n).base || (is_some (trio_of objects ids n).head || is_some (trio_of objects ids n).pushed))
    waits_is n = ap₂ ◌||◌ (ap is_some (of.base.named n)) (ap₂ ◌||◌ (ap is_some (of.head.named n)) (ap is_some (of.pushed.named n)))

    -- a name of no entries has no directories
    none_there : (n : List ℕ) → waits level n ≡ false → (x y z : Option Dirent) → (is_some x || (is_some y || is_some z)) ≡ false → is_settled (directory_in x) (directory_in y) (directory_in z) ≡ true × (part_in (record { base = directory_in x; head = directory_in y; pushed = directory_in z }) ≡ None)
    none_there n gone None None None e = (refl, refl)
    none_there n gone (Some x) y z e = absurd (true≢false e)
    none_there n gone None (Some y) z e = absurd (true≢false e)
    none_there n gone None None (Some z) e = absurd (true≢false e)

    settled_none : (n : List ℕ) → waits level n ≡ false → is_settled (ids_at objects ids n).base (ids_at objects ids n).head (ids_at objects ids n).pushed ≡ true × (part_in (ids_at objects ids n) ≡ None)
    settled_none n gone = none_there n gone (trio_of objects ids n).base (trio_of objects ids n).head (trio_of objects ids n).pushed (sym (waits_is n) ∙ gone)

    side : (n : List ℕ) → waits level n ≡ false → HasSide objects (ids_at objects ids n) (c n)
    side n gone = settled_side objects (ids_at objects ids n) (c n) (are_below n) (settled_none n gone).0 (side_trees objects room (ids_at objects ids n) (names_whole n) (c n) (are_below n))

    side_none : (n : List ℕ) (gone : waits level n ≡ false) (q : PathV) → map.get (side n gone).tree q ≡ None
    side_none n gone q =
        (side n gone).is q ∙ ap (λ (o : Option (List ℕ)). option_map (node_of objects) (entry_in objects (dirents_if objects o) q)) (settled_none n gone).1
        ∙ ap (option_map (node_of objects)) (none_in objects q)

    -- nothing is merged there, nothing leaves and nothing is too long
    nothing_merged : (n : List ℕ) → waits level n ≡ false → (q : PathV) → map.get (merged naming (c n)) q ≡ None
    nothing_merged n gone = none_merged (c n) (side n gone).tree (side n gone).own (side_none n gone)

    no_long : (n m : List ℕ) (r : PathV) → waits level n ≡ false → long_at naming (c n) (m ∷ r) ≡ None
    no_long n m r gone = none_long (c n) (side n gone).tree (side n gone).own (m ∷ r)

    no_copy : (n m : List ℕ) (r : PathV) → waits level n ≡ false → copies_of objects path ids c n (m ∷ r) ≡ None
    no_copy n m r gone = ap (option_map (λ p. path ++ n ∷ p)) (no_copies (c n) (side n gone).tree (side n gone).own (m ∷ r))

    kept_nothing : (q : PathV) → map.get opened.kept q ≡ None
    kept_nothing q = ap (λ (m : map.FinMap path_cmp Kept). map.get m q) kept_none ∙ map.get-empty path_cmp q

    joined_nothing : (q : PathV) → map.get opened.joined q ≡ None
    joined_nothing q = ap (λ m. map.get m q) joined_none ∙ map.get-empty path_cmp q

    none_or : {Y : Type 0} (o : Option Y) → option_or None o ≡ o
    none_or o = refl

    or_none : {Y : Type 0} (o : Option Y) → option_or o None ≡ o
    or_none None = refl
    or_none (Some x) = refl

    -- what is known of a name of no entries
    part_none : (n : List ℕ) → waits level n ≡ false → PartSo objects path ids c n None map.empty
    part_none n gone = record {
      count = sym (ap map.len (map.same_map paths_total paths_exact (merged naming (c n)) map.empty (λ q. nothing_merged n gone q ∙ sym (map.get-empty path_cmp q))) ∙ map.len-empty path_cmp Node);
      sound = none_sound;
      seen = λ more keeps q. nothing_merged n gone q ∙ sym (ap (option_map (node_of more)) (map.get-empty path_cmp q));
      whole = λ q. subst (λ (o : Option Entry). IsWholeFile objects (file_in o)) (sym (map.get-empty path_cmp q)) tt;
    }

    built_none : (n : List ℕ) → waits level n ≡ false → PartBuilt objects path ids c n None map.empty (λ d. None) w.made
    built_none n gone = record {
      complete = λ dir id there. cc there;
      known = inl (inl refl);
      top = λ id there. cc there;
      own = λ closed id is some. let both : None ≡ Some id = sym (settled_none n gone).1 ∙ is in cc;
      value = λ more keeps also q. map.get-empty path_cmp q ∙ sym (nil_entries more q);
      ids_kept = λ dir id some there. cc there;
      same = λ open_here. absurd (true≢false (sym open_here ∙ ap not (settled_none n gone).0));
      heads = λ more keeps also. nil_heads objects more (ids_at objects ids n).head;
      zeros = ((λ e q. map.get-empty path_cmp q), (λ all. refl));
    }

    pub merging_start : MergingSo objects path ids c level opened w w
    merging_start = record {
      base = λ n wait. of.base.named n;
      head = λ n wait. of.head.named n;
      pushed = λ n wait. of.pushed.named n;
      only = λ q there. elim there [ inl b ↦ of.base.only q b | inr more ↦ elim more [ inl h ↦ of.head.only q h | inr p ↦ of.pushed.only q p ] ];
      joined = λ n. joined_nothing (n ∷ []) ∙ none_joined n (waits level n) refl;
      kept_waits = λ n wait. kept_nothing (n ∷ []);
      joined_single = λ q some. absurd (true≢false (sym some ∙ ap is_some (joined_nothing q)));
      kept_single = λ q some. absurd (true≢false (sym some ∙ ap is_some (kept_nothing q)));
      survives = λ n gone.
          ap is_some (kept_nothing (n ∷ []))
          ∙ none_survives (c n) (side n gone).tree (side n gone).own (side_none n gone);
      long = λ f first.
          first_same f (λ q. option_or (f q) (told_below path (of_done (waits level) (λ n. long_at naming (c n))) q))
          (λ q. sym (ap (option_or (f q)) (done_start path (waits level) (λ n. long_at naming (c n)) no_long q) ∙ or_none (f q))) (long_told w.long) first;
      named = λ short. record {
        entries = λ n. map.empty;
        parts = λ n gone. subst (λ (p : Option Kept). PartSo objects path ids c n p map.empty) (sym (kept_nothing (n ∷ []))) (part_none n gone);
        copies = λ q. sym (ap (λ (o : Option PathV). option_or o (map.get w.copies q)) (done_start path (waits level) (copies_of objects path ids c) no_copy q));
        kept_made = kept_itself w.made;
        texts = λ key bytes there. inl there;
        taken = λ id there. inl there;
        many = λ there. inl there;
        still = λ clear. clear;
        built = λ clear. record {
          kept_of = λ n d. None;
          parts = λ n gone. subst (λ (p : Option Kept). PartBuilt objects path ids c n p map.empty (λ d. None) w.made) (sym (kept_nothing (n ∷ []))) (built_none n gone);
          needed = λ id some has. inl has;
          below = λ key bytes there. inl there;
        };
      };
    }
      where
        none_joined : (n : List ℕ) (b : Bool) → waits level n ≡ b → None ≡ (if waits level n then None else join_over (is_some (map.get opened.kept (n ∷ []))) (trio_of objects ids n))
        none_joined n true wait = sym (ap (λ (b : Bool). if b then None else join_over (is_some (map.get opened.kept (n ∷ []))) (trio_of objects ids n)) wait)
        none_joined n false gone =
            sym (ap (λ (b : Bool). if b then None else join_over (is_some (map.get opened.kept (n ∷ []))) (trio_of objects ids n)) gone
            ∙ ap (λ (b : Bool). if b then Some (three_given (is_some (map.get opened.kept (n ∷ []))) (trio_of objects ids n)) else None) (sym (waits_is n) ∙ gone))

-- Files that leave their paths, named one by one. The key lemmas are named_start, named_more, named_long and named_all.
use Rattle.std.proofs.Common.{◌≡◌, ◌≢◌, ℕ, suc, ◌+◌, ◌<◌, ◌≤◌, ◌&&◌, ◌||◌, Bool, true, false, cond, if◌then◌else◌, T, List, [], ◌∷◌, ◌++◌, length, find, nat_lt, map as map_list, refl, sym, ap, ap₂, ◌∙◌, subst, arith, append-nil, append_assoc, Option, Some, None, IsSome, is_some, option_map, Err, true≢false, le-ltb}
use Rattle.std.proofs.lemmas.Bool.{lt-ltb}
use Rattle.std.proofs.lemmas.List.{map-append}
use Rattle.std.specs.Option.{option_or}
use Rattle.std.specs.Ordering.{is_lt}
use Rattle.std.specs.FinMap as map
use Rattle.std.specs.FinMap.Entries.{below_all, same_entries}
use Rattle.ids.specs.Key.{Objects}
use Rattle.tree_model.specs.declared.node.FileVersion.{FileVersion}
use Rattle.tree_model.specs.declared.node.Node.{Node}
use Rattle.tree_model.specs.declared.node.Node.TheVariants as tree_node
use Rattle.tree_model.specs.Path.{PathV, IsPath, path_cmp, parent_of, last_name}
use Rattle.tree_model.specs.PathOrder.{paths_total, paths_exact}
use Rattle.tree_model.specs.DirectorySurvival.{Sides, paths_of_all}
use Rattle.tree_model.specs.ConflictCopies.{in_trees, leavers, conflicts, conflict_spot, first_long, is_gone, least_free, moves, tries}
use Rattle.tree_model.specs.MergeParts.{copy_at, left_for}
use Rattle.tree_model.specs.ThreeWayMerge.{node_at, merged, file_moved}
use Rattle.tree_model.proofs.BelowLemmas.{last_push}
use Rattle.tree_model.proofs.ListedLemmas.{same_path, same_path-itself, same_path-true, is_in}
use Rattle.tree_model.proofs.MovingLemmas.{or_none, least_from, least_before, least_is_free}
use Rattle.tree_model.proofs.MergeLemmas.{get-merged}
use Rattle.tree_model.proofs.CopyLemmas.{spots_apart, in_list, enough, get-leavers}
use Rattle.tree_model.proofs.NameLemmas.{IsName-short}
use Rattle.tree_model.proofs.ResultTreeLemmas.{known_by, last_named}
use Rattle.tree_model.proofs.SortedEntryLemmas.{left_holds, none_below}
use Rattle.object_graph.specs.Objects.{node_of}
use Rattle.conflict_names.specs.Naming.{naming}
use Rattle.conflict_names.proofs.GoodNameLemmas.{naming-naming}
use Rattle.tree_merge.specs.FileEntry.{as_entry, version_of}
use Rattle.tree_merge.specs.Sides.{Entries, IsSeen, AreTrees}
use Rattle.tree_merge.specs.Decision.{Marks, IsDecided}
use Rattle.tree_merge.specs.ConflictNaming.{Places, name_of, place_of, IsFreePlace, IsLongPlace, AreKnown, HasCopied, IsNamed}
use Rattle.tree_merge.specs.declared.conflict_copies.CopyFault.{CopyFault}
use Rattle.tree_merge.specs.declared.conflict_copies.CopyFault.TheVariants.{TooLong, NoMemory}
use Rattle.tree_merge.specs.declared.decision.Decided.{Decided}
use Rattle.tree_merge.specs.declared.file_entry.FileEntry.{FileEntry}
use Rattle.tree_merge.proofs.TableLemmas.{Table, get-put}

abbrev pub Copy : Type 0
Copy = (PathV × FileVersion) × PathV

-- ---- a table seen through a function of its values

module _ {X Y : Type 0} (f : X → Y) where
  abbrev pub mapped : List (PathV × X) → List (PathV × Y)
  mapped [] = []
  mapped (e ∷ es) = (e.0, f e.1) ∷ mapped es

  mapped-below : (k : PathV) (es : List (PathV × X)) → below_all path_cmp k (mapped es) ≡ below_all path_cmp k es
  mapped-below k [] = refl
  mapped-below k (e ∷ es) = ap (λ b. is_lt (path_cmp k e.0) && b) (mapped-below k es)

  mapped-sorted : (es : List (PathV × X)) → map.is_sorted path_cmp (mapped es) ≡ map.is_sorted path_cmp es
  mapped-sorted [] = refl
  mapped-sorted (e ∷ es) = ap₂ ◌&&◌ (mapped-below e.0 es) (mapped-sorted es)

  mapped-find : (q : PathV) (es : List (PathV × X)) → map.find path_cmp q (mapped es) ≡ option_map f (map.find path_cmp q es)
  mapped-find q [] = refl
  mapped-find q (e ∷ es) = by (same_path q e.0) (mapped-find q es)
    where
      by : (b : Bool) → map.find path_cmp q (mapped es) ≡ option_map f (map.find path_cmp q es)
          → cond b (Some (f e.1)) (map.find path_cmp q (mapped es)) ≡ option_map f (cond b (Some e.1) (map.find path_cmp q es))
      by true more = refl
      by false more = more

  -- a table whose values are those of another through f
  pub mapped_entries : (m : Table X) (n : Table Y) → ((q : PathV) → option_map f (map.get m q) ≡ map.get n q) → mapped (map.entries m) ≡ map.entries n
  mapped_entries m n same =
      let es : List (PathV × X) = map.entries m in
      let s : T (map.is_sorted path_cmp (mapped es)) = subst T (sym (mapped-sorted es)) (map.entries_sorted m) in
      let found : (q : PathV) → map.find path_cmp q (mapped es) ≡ map.find path_cmp q (map.entries n) =
      λ q. mapped-find q es ∙ ap (option_map f) (sym (map.get-entries m q)) ∙ same q ∙ map.get-entries n q in
      same_entries path_cmp paths_total paths_exact (mapped es) (map.entries n) s (map.entries_sorted n) found

  pub mapped_length : (es : List (PathV × X)) → length (mapped es) ≡ length es
  mapped_length [] = refl
  mapped_length (e ∷ es) = let more = mapped_length es in omega arith

-- ---- lists of copies

find_append : {X : Type 0} (q : PathV) (es fs : List (PathV × X)) → map.find path_cmp q (es ++ fs) ≡ option_or (map.find path_cmp q es) (map.find path_cmp q fs)
find_append q [] fs = refl
find_append {X = X} q (e ∷ es) fs = by (same_path q e.0) (find_append q es fs)
  where
    by : (b : Bool) → map.find path_cmp q (es ++ fs) ≡ option_or (map.find path_cmp q es) (map.find path_cmp q fs)
        → cond b (Some e.1) (map.find path_cmp q (es ++ fs)) ≡ option_or (cond b (Some e.1) (map.find path_cmp q es)) (map.find path_cmp q fs)
    by true more = refl
    by false more = more

abbrev long_name : Copy → Bool
long_name m = nat_lt 255 (length (last_name m.1))

abbrev told_long : Copy → PathV × ℕ
told_long m = (m.0.0, length (last_name m.1))

pub long_after : (done ms : List Copy) → first_long done ≡ None → first_long (done ++ ms) ≡ first_long ms
long_after [] ms e = refl
long_after (m ∷ done) ms e = by (long_name m) e (long_after done ms)
  where
    by : (b : Bool) → option_map told_long (cond b (Some m) (find long_name done)) ≡ None → (first_long done ≡ None → first_long (done ++ ms) ≡ first_long ms)
        → option_map told_long (cond b (Some m) (find long_name (done ++ ms))) ≡ first_long ms
    by true e more = cc
    by false e more = more e

pub first_of_short : (m : Copy) (ms : List Copy) → length (last_name m.1) ≤ 255 → first_long (m ∷ ms) ≡ first_long ms
first_of_short m ms short = ap (λ (b : Bool). option_map told_long (cond b (Some m) (find long_name ms))) (le-ltb 255 (length (last_name m.1)) short)

pub first_of_long : (m : Copy) (ms : List Copy) → 255 < length (last_name m.1) → first_long (m ∷ ms) ≡ Some (told_long m)
first_of_long m ms long = ap (λ (b : Bool). option_map told_long (cond b (Some m) (find long_name ms))) (lt-ltb 255 (length (last_name m.1)) long)

-- ---- the invariant

abbrev seen_leavers : Objects → Table FileEntry → List (PathV × FileVersion)
seen_leavers objects rest = mapped (version_of objects) (map.entries rest)

-- the copies so far, and what is left
pub record NamedSo (objects : Objects) (s : Sides) (rest : Table FileEntry) (known : Marks) (nodes : Entries) (places : Places) : Type 0 where
  pub done : List Copy
  pub taken : List PathV
  pub is : conflicts naming s ≡ done ++ moves same_path (in_trees s) (conflict_spot naming) (tries s) taken (seen_leavers objects rest)
  pub told : (q : PathV) → map.get places q ≡ map.find path_cmp q (map_list left_for done)
  pub waits : (q : PathV) → IsSome (map.get rest q) → map.find path_cmp q (map_list left_for done) ≡ None
  pub gone : (q : PathV) → is_some (map.get known q) ≡ is_gone same_path (in_trees s) (conflict_spot naming) taken q
  pub stands : (q : PathV) → option_map (node_of objects) (map.get nodes q) ≡ option_or (map.find path_cmp q (map_list file_moved done)) (if in_trees s q then node_at s q else None)
  pub others : (q : PathV) → is_in q taken ≡ false → map.find path_cmp q (map_list file_moved done) ≡ None
  pub short : first_long done ≡ None
  pub short_taken : (q : PathV) → is_in q taken ≡ true → length (last_name q) ≤ 255
  pub enough : length taken + length (map.entries rest) ≤ length (map.entries (leavers s))

or_false : (b : Bool) → b ≡ (b || false)
or_false true = refl
or_false false = refl

none_or : {X : Type 0} (o : Option X) → o ≡ option_or None o
none_or o = refl

pub named_start : (objects : Objects) (s : Sides) (d : Decided) → IsDecided objects s d → (places : Places) → places ≡ map.empty → NamedSo objects s d.leavers d.known d.nodes places
named_start objects s d is places none =
    let same : seen_leavers objects d.leavers ≡ map.entries (leavers s) =
    mapped_entries (version_of objects) d.leavers (leavers s) (λ q. is.leavers q ∙ sym (get-leavers s q)) in
    let count : length (map.entries d.leavers) ≡ length (map.entries (leavers s)) = sym (mapped_length (version_of objects) (map.entries d.leavers)) ∙ ap length same in
    record {
      done = [];
      taken = [];
      is = ap (moves same_path (in_trees s) (conflict_spot naming) (tries s) []) (sym same);
      told = λ q. ap (λ (m : Places). map.get m q) none ∙ map.get-empty path_cmp q;
      waits = λ q some. refl;
      gone = λ q. is.known q ∙ or_false (in_trees s q);
      stands = is.nodes;
      others = λ q apart. refl;
      short = refl;
      short_taken = λ q there. absurd (true≢false (sym there));
      enough = omega arith;
    }

either_less : (m n : ℕ) → (m < n → ⊥) → (n < m → ⊥) → m ≡ n
either_less m n a b = omega (arith, a, b)

module _ (objects : Objects) (s : Sides) (trees : AreTrees s) (rest after : Table FileEntry) (known : Marks) (nodes : Entries) (places : Places) (path : PathV) (file : FileEntry)
    (so : NamedSo objects s rest known nodes places) (taken_out : map.entries rest ≡ (path, file) ∷ map.entries after) where
  abbrev leaver : PathV × FileVersion
  leaver = (path, version_of objects file)

  abbrev least : ℕ
  least = least_free same_path (in_trees s) (conflict_spot naming) so.taken leaver (tries s) 1

  seen_first : seen_leavers objects rest ≡ leaver ∷ seen_leavers objects after
  seen_first = ap (mapped (version_of objects)) taken_out

  left : length (map.entries rest) ≡ suc (length (map.entries after))
  left = ap length taken_out

  least_gone_not : is_gone same_path (in_trees s) (conflict_spot naming) so.taken (conflict_spot naming leaver least) ≡ false
  least_gone_not =
      least_is_free (in_trees s) (conflict_spot naming) (paths_of_all s) (in_list naming naming-naming s) (spots_apart naming naming-naming) so.taken leaver (tries s)
      (omega (arith, enough s, so.enough, left))

  -- the least number is that which the places tell
  least_is : (number : ℕ) → 1 ≤ number → AreKnown known path file number
      → is_gone same_path (in_trees s) (conflict_spot naming) so.taken (place_of path file number) ≡ false → least ≡ number
  least_is number from all free =
      either_less least number
      (λ below. true≢false (sym (sym (so.gone (place_of path file least)) ∙ all least (least_from (in_trees s) (conflict_spot naming) so.taken leaver (tries s) 1) below) ∙ least_gone_not))
      (λ below. true≢false (sym (least_before (in_trees s) (conflict_spot naming) so.taken leaver (tries s) 1 number from below) ∙ free))

  next_is : (number : ℕ) → least ≡ number
      → conflicts naming s ≡ so.done ++ ((leaver, place_of path file number) ∷ moves same_path (in_trees s) (conflict_spot naming) (tries s) (place_of path file number ∷ so.taken) (seen_leavers objects after))
  next_is number e =
      so.is
      ∙ ap (λ xs. so.done ++ moves same_path (in_trees s) (conflict_spot naming) (tries s) so.taken xs) seen_first
      ∙ ap (λ (k : ℕ). so.done ++ ((leaver, place_of path file k) ∷ moves same_path (in_trees s) (conflict_spot naming) (tries s) (place_of path file k ∷ so.taken) (seen_leavers objects after))) e

  last_of_place : (number : ℕ) → last_name (place_of path file number) ≡ name_of path file number
  last_of_place number = last_push (parent_of path) (name_of path file number)

  -- a name that is too long is no name of the trees, and was not taken
  long_free : (number : ℕ) → 255 < length (name_of path file number) → is_gone same_path (in_trees s) (conflict_spot naming) so.taken (place_of path file number) ≡ false
  long_free number long = ap₂ ◌||◌ (unknown (in_trees s to) refl) (untaken (is_in to so.taken) refl)
    where
      to : PathV
      to = place_of path file number

      not_root : to ≢ []
      not_root e = no_end (parent_of path) (name_of path file number) e
        where
          no_end : (d : PathV) (n : List ℕ) → d ++ n ∷ [] ≢ []
          no_end [] n e = cc
          no_end (m ∷ d) n e = cc

      too_long : length (last_name to) ≤ 255 → ⊥
      too_long h = let e : length (last_name to) ≡ length (name_of path file number) = ap length (last_of_place number) in absurd (omega arith)

      unknown : (b : Bool) → in_trees s to ≡ b → in_trees s to ≡ false
      unknown false e = e
      unknown true e =
          let good : IsPath to = known_by s IsPath to (trees.base.named to) (trees.head.named to) (trees.pushed.named to) e in
          absurd (too_long (IsName-short (last_name to) (last_named to not_root good)))

      untaken : (b : Bool) → is_in to so.taken ≡ b → is_in to so.taken ≡ false
      untaken false e = e
      untaken true e = absurd (too_long (so.short_taken to e))

  pub named_long : (of : PathV) (bytes : ℕ) → IsLongPlace known path file of bytes → first_long (conflicts naming s) ≡ Some (of, bytes)
  named_long of bytes place =
      let size : length (last_name (place_of path file place.number)) ≡ bytes = ap length (last_of_place place.number) ∙ sym place.at.is in
      let long : 255 < length (name_of path file place.number) = subst (λ (n : ℕ). 255 < n) place.at.is place.at.long in
      let at_last : 255 < length (last_name (place_of path file place.number)) = subst (λ (n : ℕ). 255 < n) (sym size) place.at.long in
      let rest_of : List Copy = moves same_path (in_trees s) (conflict_spot naming) (tries s) (place_of path file place.number ∷ so.taken) (seen_leavers objects after) in
      ap first_long (next_is place.number (least_is place.number place.from_one place.least (long_free place.number long)))
      ∙ long_after so.done ((leaver, place_of path file place.number) ∷ rest_of) so.short
      ∙ first_of_long (leaver, place_of path file place.number) rest_of at_last
      ∙ ap₂ some_pair (sym place.at.own) size
    where
      some_pair : PathV → ℕ → Option (PathV × ℕ)
      some_pair p n = Some (p, n)

  module _ (known_after : Marks) (nodes_after : Entries) (places_after : Places) (to : PathV) (free : IsFreePlace known path file to)
      (copied : HasCopied path to file known known_after nodes nodes_after places places_after) where
    here : to ≡ place_of path file free.number
    here = free.at.is

    not_gone : is_gone same_path (in_trees s) (conflict_spot naming) so.taken to ≡ false
    not_gone = sym (so.gone to) ∙ ap is_some free.free

    number_is : least ≡ free.number
    number_is = least_is free.number free.from_one free.least (ap (is_gone same_path (in_trees s) (conflict_spot naming) so.taken) (sym here) ∙ not_gone)

    abbrev copy : Copy
    copy = (leaver, to)

    is_more : conflicts naming s ≡ (so.done ++ copy ∷ []) ++ moves same_path (in_trees s) (conflict_spot naming) (tries s) (to ∷ so.taken) (seen_leavers objects after)
    is_more =
        next_is free.number number_is
        ∙ ap (λ (p : PathV). so.done ++ ((leaver, p) ∷ moves same_path (in_trees s) (conflict_spot naming) (tries s) (p ∷ so.taken) (seen_leavers objects after))) (sym here)
        ∙ sym (append_assoc so.done (copy ∷ []) (moves same_path (in_trees s) (conflict_spot naming) (tries s) (to ∷ so.taken) (seen_leavers objects after)))

    gone_more : (q : PathV) → is_some (map.get known_after q) ≡ is_gone same_path (in_trees s) (conflict_spot naming) (to ∷ so.taken) q
    gone_more q = ap is_some (ap (λ (m : Marks). map.get m q) copied.marked ∙ get-put known to tt q) ∙ by (same_path q to) (in_trees s q) (so.gone q)
      where
        by : (b t : Bool) → is_some (map.get known q) ≡ (t || is_in q so.taken) → is_some (cond b (Some tt) (map.get known q)) ≡ (t || (b || is_in q so.taken))
        by true true e = refl
        by true false e = refl
        by false t e = e

    found_more : (q : PathV) → map.find path_cmp q (map_list file_moved (so.done ++ copy ∷ []))
        ≡ option_or (map.find path_cmp q (map_list file_moved so.done)) (cond (same_path q to) (Some (tree_node.File (version_of objects file))) None)
    found_more q = ap (map.find path_cmp q) (map-append file_moved so.done (copy ∷ [])) ∙ find_append q (map_list file_moved so.done) (map_list file_moved (copy ∷ []))

    stands_more : (q : PathV) → option_map (node_of objects) (map.get nodes_after q)
        ≡ option_or (map.find path_cmp q (map_list file_moved (so.done ++ copy ∷ []))) (if in_trees s q then node_at s q else None)
    stands_more q =
        ap (option_map (node_of objects)) (ap (λ (m : Entries). map.get m q) copied.stands ∙ get-put nodes to (as_entry file) q)
        ∙ by (same_path q to) refl
        ∙ ap (λ (o : Option Node). option_or o (if in_trees s q then node_at s q else None)) (sym (found_more q))
      where
        version : Node
        version = tree_node.File (version_of objects file)

        untaken : is_in to so.taken ≡ false
        untaken = (or_none (in_trees s to) (is_in to so.taken) not_gone).1

        by_found : (o : Option Node) (r : Option Node) → option_or o r ≡ option_or (option_or o None) r
        by_found None r = refl
        by_found (Some v) r = refl

        by : (b : Bool) → same_path q to ≡ b
            → option_map (node_of objects) (cond b (Some (as_entry file)) (map.get nodes q))
            ≡ option_or (option_or (map.find path_cmp q (map_list file_moved so.done)) (cond b (Some version) None)) (if in_trees s q then node_at s q else None)
        by true e =
            sym (ap (λ (o : Option Node). option_or (option_or o (Some version)) (if in_trees s q then node_at s q else None))
            (so.others q (ap (λ (p : PathV). is_in p so.taken) (same_path-true q to e) ∙ untaken)))
        by false e = so.stands q ∙ by_found (map.find path_cmp q (map_list file_moved so.done)) (if in_trees s q then node_at s q else None)

    others_more : (q : PathV) → is_in q (to ∷ so.taken) ≡ false → map.find path_cmp q (map_list file_moved (so.done ++ copy ∷ [])) ≡ None
    others_more q e =
        let parts = or_none (same_path q to) (is_in q so.taken) e in
        found_more q ∙ ap₂ (λ (o : Option Node) (b : Bool). option_or o (cond b (Some (tree_node.File (version_of objects file))) None)) (so.others q parts.1) parts.0

    short_here : length (last_name to) ≤ 255
    short_here = subst (λ (n : List ℕ). length n ≤ 255) (sym (ap last_name here ∙ last_of_place free.number)) free.at.short

    short_more : first_long (so.done ++ copy ∷ []) ≡ None
    short_more = long_after so.done (copy ∷ []) so.short ∙ first_of_short copy [] short_here

    short_taken_more : (q : PathV) → is_in q (to ∷ so.taken) ≡ true → length (last_name q) ≤ 255
    short_taken_more q e = by (same_path q to) refl e
      where
        by : (b : Bool) → same_path q to ≡ b → (b || is_in q so.taken) ≡ true → length (last_name q) ≤ 255
        by true tie e = subst (λ (p : PathV). length (last_name p) ≤ 255) (sym (same_path-true q to tie)) short_here
        by false apart e = so.short_taken q e

    -- the copy is told by the path that its file left, at which none was told before
    left_more : (q : PathV) → map.find path_cmp q (map_list left_for (so.done ++ copy ∷ [])) ≡ option_or (map.find path_cmp q (map_list left_for so.done)) (cond (same_path q path) (Some to) None)
    left_more q = ap (map.find path_cmp q) (map-append left_for so.done (copy ∷ [])) ∙ find_append q (map_list left_for so.done) (map_list left_for (copy ∷ []))

    first_rest : map.find path_cmp path (map.entries rest) ≡ Some file
    first_rest = ap (map.find path_cmp path) taken_out ∙ ap (λ (b : Bool). cond b (Some file) (map.find path_cmp path (map.entries after))) (same_path-itself path)

    told_more : (q : PathV) → map.get places_after q ≡ map.find path_cmp q (map_list left_for (so.done ++ copy ∷ []))
    told_more q = ap (λ (m : Places). map.get m q) copied.told ∙ get-put places path to q ∙ by (same_path q path) refl ∙ sym (left_more q)
      where
        none_else : (o : Option PathV) → o ≡ option_or o None
        none_else None = refl
        none_else (Some p) = refl

        by : (b : Bool) → same_path q path ≡ b → cond b (Some to) (map.get places q) ≡ option_or (map.find path_cmp q (map_list left_for so.done)) (cond b (Some to) None)
        by true tie =
            sym (ap (λ (o : Option PathV). option_or o (Some to))
            (so.waits q (ap is_some (map.get-entries rest q ∙ ap (λ (p : PathV). map.find path_cmp p (map.entries rest)) (same_path-true q path tie) ∙ first_rest))))
        by false apart = so.told q ∙ none_else (map.find path_cmp q (map_list left_for so.done))

    waits_more : (q : PathV) → IsSome (map.get after q) → map.find path_cmp q (map_list left_for (so.done ++ copy ∷ [])) ≡ None
    waits_more q some =
        left_more q
        ∙ ap₂ (λ (o : Option PathV) (b : Bool). option_or o (cond b (Some to) None))
        (so.waits q (ap is_some (map.get-entries rest q ∙ ap (map.find path_cmp q) taken_out ∙ ap (λ (b : Bool). cond b (Some file) (map.find path_cmp q (map.entries after))) other) ∙ (ap is_some (sym (map.get-entries after q)) ∙ some)))
        other
      where
        -- the first of a list in order isn't among the others
        rising : T (map.is_sorted path_cmp ((path, file) ∷ map.entries after))
        rising = subst (λ (es : List (PathV × FileEntry)). T (map.is_sorted path_cmp es)) taken_out (map.entries_sorted rest)

        other : same_path q path ≡ false
        other = by (same_path q path) refl
          where
            by : (b : Bool) → same_path q path ≡ b → same_path q path ≡ false
            by false e = e
            by true tie =
                let none : map.find path_cmp path (map.entries after) ≡ None = none_below path (map.entries after) (left_holds (below_all path_cmp path (map.entries after)) (map.is_sorted path_cmp (map.entries after)) rising) in
                absurd (true≢false (sym some ∙ ap is_some (map.get-entries after q ∙ ap (λ (p : PathV). map.find path_cmp p (map.entries after)) (same_path-true q path tie) ∙ none)))

    pub named_more : NamedSo objects s after known_after nodes_after places_after
    named_more = record {
      done = so.done ++ copy ∷ [];
      taken = to ∷ so.taken;
      is = is_more;
      told = told_more;
      waits = waits_more;
      gone = gone_more;
      stands = stands_more;
      others = others_more;
      short = short_more;
      short_taken = short_taken_more;
      enough = omega (arith, so.enough, left);
    }

-- ---- at the end

pub record AllNamed (objects : Objects) (s : Sides) (nodes : Entries) (places : Places) : Type 0 where
  pub short : first_long (conflicts naming s) ≡ None
  pub nodes_seen : IsSeen objects nodes (merged naming s)
  pub told : (q : PathV) → map.get places q ≡ copy_at naming s q

pub named_all : (objects : Objects) (s : Sides) (rest : Table FileEntry) (known : Marks) (nodes : Entries) (places : Places)
    → map.entries rest ≡ [] → NamedSo objects s rest known nodes places → AllNamed objects s nodes places
named_all objects s rest known nodes places none so =
    let all : conflicts naming s ≡ so.done =
    so.is ∙ ap (λ (es : List (PathV × FileEntry)). so.done ++ moves same_path (in_trees s) (conflict_spot naming) (tries s) so.taken (mapped (version_of objects) es)) none ∙ append-nil so.done in
    record {
      short = ap first_long all ∙ so.short;
      nodes_seen = λ q.
          get-merged naming s q
          ∙ ap (λ (ms : List Copy). option_or (map.find path_cmp q (map_list file_moved ms)) (if in_trees s q then node_at s q else None)) all
          ∙ sym (so.stands q);
      told = λ q. so.told q ∙ ap (λ (ms : List Copy). map.find path_cmp q (map_list left_for ms)) (sym all);
    }

-- the refusal of the first name that is too long
pub refused : (objects : Objects) (s : Sides) (fault : CopyFault) → ((of : PathV) (bytes : ℕ) → fault ≡ TooLong of bytes → first_long (conflicts naming s) ≡ Some (of, bytes)) → IsNamed objects s (Err fault)
refused objects s (TooLong path bytes) told = told path bytes refl
refused objects s NoMemory told = tt

-- The entries below a directory as a list, and the tree that they make. The key lemmas are found_listed, tree_of_root and
-- counts_listed.
use Rattle.std.proofs.Common.{◌≡◌, ◌&&◌, ◌≤◌, ◌+◌, ℕ, zero, suc, Bool, true, false, cond, if◌then◌else◌, nat_eq, List, [], ◌∷◌, ◌++◌, length, refl, sym, ap, ap₂, ◌∙◌, subst, Option, None, Some, option_map, option_and_then, arith}
use Rattle.std.specs.Bool.{one_answer}
use Rattle.std.specs.Cmp.{tied_itself}
use Rattle.std.specs.Cmp.Lexicographic.{pointwise, bytes_decides}
use Rattle.std.specs.FinMap as map
use Rattle.std.specs.Option.{option_or}
use Rattle.std.specs.Ordering.{eq_by_cmp, is_eq}
use Rattle.ids.specs.Key.{Objects}
use Rattle.ids.specs.declared.key.Key.{Key}
use Rattle.tree_model.specs.Path.{PathV, path_cmp}
use Rattle.tree_model.specs.PathOrder.{paths_total, paths_tie}
use Rattle.tree_model.specs.Tree.{Tree}
use Rattle.tree_model.specs.declared.limits.TheConstants.{MAX_NAMES}
use Rattle.tree_model.specs.declared.node.Node.{Node}
use Rattle.fs_objects.specs.Mode.{is_directory_mode}
use Rattle.fs_objects.specs.declared.dirent.Dirent.{Dirent}
use Rattle.object_graph.specs.Objects.{name_cmp, same_id, entry_named, in_name_order, entry_of, directory_in, dirents_at, entry_in, entry_below, node_of}
use Rattle.object_graph.specs.Traversal.{start, walk_object, walk_below, walk_root}
use Rattle.object_graph.specs.declared.entry.Entry.{Entry}
use Rattle.object_graph.proofs.EntryLemmas.{names_total, same_name-true, named_in_order, Apart, apart_in_order}
use Rattle.object_graph.specs.Listing.{Listed, prefixed, listed_entry, listed_in, listed}
use Rattle.object_graph.proofs.KeyLemmas.{within_itself}
use Rattle.object_graph.proofs.BelowLemmas.{Ran, entry_ran}

abbrev pub same_path : PathV → PathV → Bool
same_path = pointwise (pointwise nat_eq)

-- the entry at a path of the list
abbrev pub found : PathV → Listed → Option Entry
found q [] = None
found q (x ∷ listed) = if same_path q x.0 then Some x.1 else found q listed

-- ---- what is found in a list

pub found-append : (q : PathV) (xs ys : Listed) → found q (xs ++ ys) ≡ option_or (found q xs) (found q ys)
found-append q [] ys = refl
found-append q (x ∷ xs) ys = by (same_path q x.0) (found-append q xs ys)
  where
    by : (b : Bool) → found q (xs ++ ys) ≡ option_or (found q xs) (found q ys) → (if b then Some x.1 else found q (xs ++ ys)) ≡ option_or (if b then Some x.1 else found q xs) (found q ys)
    by true more = refl
    by false more = more

found-prefixed : (n : List ℕ) (q : PathV) (name : List ℕ) (xs : Listed) → found (n ∷ q) (prefixed name xs) ≡ (if same_id n name then found q xs else None)
found-prefixed n q name [] = by (same_id n name)
  where
    by : (b : Bool) → found (n ∷ q) [] ≡ (if b then found q [] else None)
    by true = refl
    by false = refl
found-prefixed n q name (x ∷ xs) = by (same_id n name) (same_path q x.0) (found-prefixed n q name xs)
  where
    by : (a b : Bool) → found (n ∷ q) (prefixed name xs) ≡ (if a then found q xs else None)
        → (if a && b then Some x.1 else found (n ∷ q) (prefixed name xs)) ≡ (if a then (if b then Some x.1 else found q xs) else None)
    by true true more = refl
    by true false more = more
    by false b more = more

found-root-prefixed : (name : List ℕ) (xs : Listed) → found [] (prefixed name xs) ≡ None
found-root-prefixed name [] = refl
found-root-prefixed name (x ∷ xs) = found-root-prefixed name xs

found-root : (inner : List ℕ → Listed) (entries : List Dirent) → found [] (listed_in inner entries) ≡ None
found-root inner [] = refl
found-root inner (e ∷ entries) =
    found-append [] (listed_entry inner e) (listed_in inner entries)
    ∙ ap₂ (λ (o r : Option Entry). option_or o r) (found-root-prefixed e.name (if is_directory_mode e.mode then inner e.id else [])) (found-root inner entries)

-- names are one where they tie
same_name-is : (m n : List ℕ) → eq_by_cmp name_cmp m n ≡ same_id m n
same_name-is m n = one_answer (eq_by_cmp name_cmp m n) (same_id m n) (same_name-true m n, there) (bytes_decides m n)
  where
    there : m ≡ n → eq_by_cmp name_cmp m n ≡ true
    there is = subst (λ k. eq_by_cmp name_cmp m k ≡ true) is (ap is_eq (tied_itself names_total m))

-- what stands at a path whose first name has this entry
abbrev at_entry : (List ℕ → Listed) → PathV → Option Dirent → Option Entry
at_entry inner q None = None
at_entry inner [] (Some e) = Some (entry_of e)
at_entry inner (next ∷ q) (Some e) = found (next ∷ q) (if is_directory_mode e.mode then inner e.id else [])

found-entry : (inner : List ℕ → Listed) (name : List ℕ) (q : PathV) (e : Dirent)
    → found (name ∷ q) (listed_entry inner e) ≡ (if same_id name e.name then at_entry inner q (Some e) else None)
found-entry inner name [] e = by (same_id name e.name) (found-prefixed name [] e.name (if is_directory_mode e.mode then inner e.id else []))
  where
    by : (a : Bool) → found (name ∷ []) (prefixed e.name (if is_directory_mode e.mode then inner e.id else [])) ≡ (if a then found [] (if is_directory_mode e.mode then inner e.id else []) else None)
        → (if a && true then Some (entry_of e) else found (name ∷ []) (prefixed e.name (if is_directory_mode e.mode then inner e.id else []))) ≡ (if a then Some (entry_of e) else None)
    by true more = refl
    by false more = more
found-entry inner name (next ∷ q) e = by (same_id name e.name) (found-prefixed name (next ∷ q) e.name (if is_directory_mode e.mode then inner e.id else []))
  where
    by : (a : Bool)
        → found (name ∷ next ∷ q) (prefixed e.name (if is_directory_mode e.mode then inner e.id else [])) ≡ (if a then found (next ∷ q) (if is_directory_mode e.mode then inner e.id else []) else None)
        → (if a && false then Some (entry_of e) else found (name ∷ next ∷ q) (prefixed e.name (if is_directory_mode e.mode then inner e.id else [])))
        ≡ (if a then found (next ∷ q) (if is_directory_mode e.mode then inner e.id else []) else None)
    by true more = more
    by false more = more

found-in : (inner : List ℕ → Listed) (name : List ℕ) (q : PathV) (entries : List Dirent) → Apart entries
    → found (name ∷ q) (listed_in inner entries) ≡ at_entry inner q (entry_named name entries)
unfolding Apart
found-in inner name q [] apart = refl
found-in inner name q (e ∷ entries) apart =
    found-append (name ∷ q) (listed_entry inner e) (listed_in inner entries)
    ∙ ap₂ (λ (o r : Option Entry). option_or o r) (found-entry inner name q e) (found-in inner name q entries apart.1)
    ∙ by (same_id name e.name) (sym (same_name-is name e.name))
  where
    or_none : (o : Option Entry) → option_or o None ≡ o
    or_none None = refl
    or_none (Some x) = refl

    by : (b : Bool) → same_id name e.name ≡ eq_by_cmp name_cmp name e.name
        → option_or (if same_id name e.name then at_entry inner q (Some e) else None) (at_entry inner q (entry_named name entries))
        ≡ at_entry inner q (if eq_by_cmp name_cmp name e.name then Some e else entry_named name entries)
    by b is = at (eq_by_cmp name_cmp name e.name) refl is
      where
        at : (c : Bool) → eq_by_cmp name_cmp name e.name ≡ c → same_id name e.name ≡ c
            → option_or (if same_id name e.name then at_entry inner q (Some e) else None) (at_entry inner q (entry_named name entries))
            ≡ at_entry inner q (if c then Some e else entry_named name entries)
        at true tied same =
            ap (λ (a : Bool). option_or (if a then at_entry inner q (Some e) else None) (at_entry inner q (entry_named name entries))) same
            ∙ ap (λ (o : Option Dirent). option_or (at_entry inner q (Some e)) (at_entry inner q o)) (ap (λ n. entry_named n entries) (same_name-true name e.name tied) ∙ apart.0)
            ∙ or_none (at_entry inner q (Some e))
        at false tied same = ap (λ (a : Bool). option_or (if a then at_entry inner q (Some e) else None) (at_entry inner q (entry_named name entries))) same

-- the list of a complete directory tells what stands at each path below it
module _ (blocks : Bool) (A : Objects) where
  pub found_listed : (q : PathV) (room : ℕ) (path : PathV) (id : List ℕ) (visits : List Key) → Ran (walk_object blocks A (walk_below blocks A room) true path id) visits
      → found q (listed A room id) ≡ entry_below A q id
  unfolding listed
  found_listed [] zero path id visits ran = refl
  found_listed (name ∷ q) zero path id visits ran = by (entry_named name (dirents_at A id)) refl q
    where
      by : (o : Option Dirent) → entry_named name (dirents_at A id) ≡ o → (q : PathV) → None ≡ entry_in A (dirents_at A id) (name ∷ q)
      by None is [] = ap (option_map entry_of) (sym is)
      by None is (next ∷ q) = ap (λ o. option_and_then (λ id. entry_in A (dirents_at A id) (next ∷ q)) (directory_in o)) (sym is)
      by (Some e) is q = cc ((entry_ran blocks A zero path id visits ran name e is).1)
  found_listed [] (suc room) path id visits ran = found-root (listed A room) (in_name_order (dirents_at A id))
  found_listed (name ∷ []) (suc room) path id visits ran =
      found-in (listed A room) name [] (in_name_order (dirents_at A id)) (apart_in_order (dirents_at A id))
      ∙ ap (at_entry (listed A room) []) (named_in_order name (dirents_at A id))
      ∙ by (entry_named name (dirents_at A id))
    where
      by : (o : Option Dirent) → at_entry (listed A room) [] o ≡ option_map entry_of o
      by None = refl
      by (Some e) = refl
  found_listed (name ∷ next ∷ q) (suc room) path id visits ran =
      found-in (listed A room) name (next ∷ q) (in_name_order (dirents_at A id)) (apart_in_order (dirents_at A id))
      ∙ ap (at_entry (listed A room) (next ∷ q)) (named_in_order name (dirents_at A id))
      ∙ by (entry_named name (dirents_at A id)) refl (found_listed (next ∷ q) room)
    where
      within : (e : Dirent) (b : Bool) → Ran (walk_object blocks A (walk_below blocks A room) b (path ++ e.name ∷ []) e.id) visits
          → ((path : PathV) (id : List ℕ) (visits : List Key) → Ran (walk_object blocks A (walk_below blocks A room) true path id) visits
          → found (next ∷ q) (listed A room id) ≡ entry_below A (next ∷ q) id)
          → found (next ∷ q) (if b then listed A room e.id else []) ≡ option_and_then (λ id. entry_in A (dirents_at A id) (next ∷ q)) (if b then Some e.id else None)
      within e true own more = more (path ++ e.name ∷ []) e.id visits own
      within e false own more = refl

      by : (o : Option Dirent) → entry_named name (dirents_at A id) ≡ o
          → ((path : PathV) (id : List ℕ) (visits : List Key) → Ran (walk_object blocks A (walk_below blocks A room) true path id) visits
          → found (next ∷ q) (listed A room id) ≡ entry_below A (next ∷ q) id)
          → at_entry (listed A room) (next ∷ q) o ≡ option_and_then (λ id. entry_in A (dirents_at A id) (next ∷ q)) (directory_in o)
      by None is more = refl
      by (Some e) is more =
          let here = entry_ran blocks A (suc room) path id visits ran name e is in
          let less : here.0 ≡ room = omega (arith, here.1) in
          within e (is_directory_mode e.mode)
          (subst (λ r. Ran (walk_object blocks A (walk_below blocks A r) (is_directory_mode e.mode) (path ++ e.name ∷ []) e.id) visits) less here.2) more

-- ---- the table and the tree that a list makes

pub find-listed : (q : PathV) (xs : Listed) → map.find path_cmp q xs ≡ found q xs
find-listed q [] = refl
find-listed q (x ∷ xs) = ap₂ (λ (b : Bool) (o : Option Entry). cond b (Some x.1) o) (sym (paths_tie q x.0)) (find-listed q xs)

pub table_entries : (blocks : Bool) (A : Objects) (root : List ℕ) → (walk_root blocks A root start).fault ≡ None → (path : PathV)
    → map.get (map.from_entries {R = path_cmp} (listed A MAX_NAMES root)) path ≡ entry_below A path root
table_entries blocks A root none path =
    map.get-from_entries paths_total (listed A MAX_NAMES root) path ∙ find-listed path (listed A MAX_NAMES root)
    ∙ found_listed blocks A path MAX_NAMES [] root (walk_root blocks A root start).visits
    (record { from = start; none = none; within = within_itself (walk_root blocks A root start).visits })

abbrev pub nodes : Objects → Listed → List (PathV × Node)
nodes A [] = []
nodes A (x ∷ listed) = (x.0, node_of A x.1) ∷ nodes A listed

find-nodes : (A : Objects) (q : PathV) (listed : Listed) → map.find path_cmp q (nodes A listed) ≡ option_map (node_of A) (found q listed)
find-nodes A q [] = refl
find-nodes A q (x ∷ listed) =
    ap (λ (b : Bool). cond b (Some (node_of A x.1)) (map.find path_cmp q (nodes A listed))) (sym (paths_tie q x.0))
    ∙ by (same_path q x.0) (find-nodes A q listed)
  where
    by : (b : Bool) → map.find path_cmp q (nodes A listed) ≡ option_map (node_of A) (found q listed)
        → cond b (Some (node_of A x.1)) (map.find path_cmp q (nodes A listed)) ≡ option_map (node_of A) (if b then Some x.1 else found q listed)
    by true more = refl
    by false more = more

abbrev pub tree_of : Objects → Listed → Tree
tree_of A listed = map.from_entries (nodes A listed)

pub get-tree_of : (A : Objects) (q : PathV) (xs : Listed) → map.get (tree_of A xs) q ≡ option_map (node_of A) (found q xs)
get-tree_of A q xs = map.get-from_entries paths_total (nodes A xs) q ∙ find-nodes A q xs

pub len-tree_of : (A : Objects) (xs : Listed) → map.len (tree_of A xs) ≤ length xs
len-tree_of A [] = omega (arith, map.len-empty path_cmp Node)
len-tree_of A (x ∷ xs) = by (map.contains_key (tree_of A xs) x.0) (map.len-insert paths_total (tree_of A xs) x.0 (node_of A x.1)) (len-tree_of A xs)
  where
    by : (b : Bool) → map.len (tree_of A (x ∷ xs)) ≡ cond b (map.len (tree_of A xs)) (map.len (tree_of A xs) + 1) → map.len (tree_of A xs) ≤ length xs → map.len (tree_of A (x ∷ xs)) ≤ length (x ∷ xs)
    by true is few = omega (arith, is, few)
    by false is few = omega (arith, is, few)

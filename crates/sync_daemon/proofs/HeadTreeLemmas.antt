-- The tree of a root whose entries were got, and which files of a folder are alike there. The key lemmas are tree_for, is_tree_of, other_way and
-- alone_alike.
use Rattle.std.proofs.Common.{◌≡◌, ◌≢◌, ◌&&◌, ℕ, ℤ, Bool, true, false, cond, if◌then◌else◌, List, [], ◌∷◌, map, Option, None, Some, is_some, option_map, option_and_then, refl, sym, ap, subst, ◌∙◌, true≢false}
use Rattle.std.specs.Prelude.{⊤}
use Rattle.std.specs.FinMap as fin
use Rattle.std.specs.Ordering.{eq_by_cmp}
use Rattle.std.specs.Str.{bytes_eq}
use Rattle.std.proofs.lemmas.Slice.Eq.{bytes_eq-Decides}
use Rattle.ids.proofs.BasicLemmas.{same_from_bytes_eq}
use Rattle.ids.specs.Key.{Objects}
use Rattle.ids.specs.declared.key.Key.{Key}
use Rattle.tree_model.specs.Path.{PathV, path_cmp}
use Rattle.tree_model.specs.PathOrder.{paths_total}
use Rattle.tree_model.specs.Tree.{Tree}
use Rattle.tree_model.specs.declared.node.Node.{Node}
use Rattle.tree_model.specs.declared.node.Node.TheVariants as node
use Rattle.block_chunker.specs.declared.cuts.Cuts.{Cuts}
use Rattle.folder_side.specs.Folder.{Contents, IsFolder, at}
use Rattle.folder_side.specs.declared.holding.Holding.TheVariants.{File}
use Rattle.local_index.specs.declared.index.Index.{Index}
use Rattle.local_index.specs.declared.index.Known.{Known}
use Rattle.local_index.specs.declared.index.Known.TheVariants as known
use Rattle.object_graph.specs.Objects.{AreEntriesOf, IsTreeOf, contents_of, node_of}
use Rattle.object_graph.specs.declared.entry.Entry.{Entry}
use Rattle.object_graph.specs.declared.entry.Entry.TheVariants as entry
use Rattle.sync_rules.specs.Checkout.{is_alone, own_has}
use Rattle.sync_rules.specs.Offer.{IsOffer, changed_entry, changed_file, entry_of_file, entry_of_holding, offered_file, offered_of, own_of}
use Rattle.sync_rules.specs.Premises.{Knows, NamesFile, Over}
use Rattle.sync_rules.proofs.NameLemmas.{own_alike}
use Rattle.tree_checkout.specs.Planning.{AreAlike, StandsFor, alone_at}

-- ---- the tree that some entries stand for

abbrev as_node : Objects → PathV × Entry → PathV × Node
as_node objects e = (e.0, node_of objects e.1)

find_nodes : (objects : Objects) (q : PathV) (es : List (PathV × Entry)) → fin.find path_cmp q (map (as_node objects) es) ≡ option_map (node_of objects) (fin.find path_cmp q es)
find_nodes objects q [] = refl
find_nodes objects q (e ∷ es) = by (eq_by_cmp path_cmp q e.0) (find_nodes objects q es)
  where
    by : (b : Bool) → fin.find path_cmp q (map (as_node objects) es) ≡ option_map (node_of objects) (fin.find path_cmp q es)
        → cond b (Some (node_of objects e.1)) (fin.find path_cmp q (map (as_node objects) es)) ≡ option_map (node_of objects) (cond b (Some e.1) (fin.find path_cmp q es))
    by true more = refl
    by false more = more

-- any entries stand for a tree
pub tree_for : (objects : Objects) (entries : fin.FinMap path_cmp Entry) → (tree : Tree) × StandsFor objects entries tree
tree_for objects entries = (
  fin.from_entries (map (as_node objects) (fin.entries entries)),
  λ path.
      fin.get-from_entries paths_total (map (as_node objects) (fin.entries entries)) path ∙ find_nodes objects path (fin.entries entries)
      ∙ ap (option_map (node_of objects)) (sym (fin.get-entries entries path)),
)

-- it is the root's, where these are the root's entries
pub is_tree_of : (objects : Objects) (root : List ℕ) (entries : fin.FinMap path_cmp Entry) (tree : Tree) → AreEntriesOf objects root entries → StandsFor objects entries tree
    → IsTreeOf objects root tree
is_tree_of objects root entries tree are stands path = stands path ∙ ap (option_map (node_of objects)) (are path)

-- ---- which files are alike

abbrev is_file_node : Option Node → Bool
is_file_node (Some (node.File file)) = true
is_file_node _ = false

abbrev bytes_at : Option Node → List ℕ
bytes_at (Some (node.File file)) = file.bytes
bytes_at _ = []

-- these bytes have another own id than the index tells
abbrev IsApart : Cuts → (bytes : List ℕ) → Option Known → Type 0
IsApart cuts bytes (Some (known.File its was size mode mtime modifier)) = bytes_eq (own_of cuts bytes) was ≡ false
IsApart cuts bytes _ = ⊤

-- what was pushed with its own id has its bytes under it
module _ (objects : Objects) (cuts : Cuts) (c : Contents) (index : Index) (moment : ℕ) (user : List ℕ) (parent : Option (List ℕ)) (commit : List ℕ)
    (offer : IsOffer objects cuts c index moment user parent commit) (path : PathV) (bytes : List ℕ) (there : at c path ≡ Some (File bytes)) (below : path ≢ []) where
  -- the node of the entry with which it stands in the commit is the one that is offered
  offered_node : (k : Option Known) → fin.get index.entries path ≡ k → Some (node_of objects (entry_of_file cuts moment user k bytes)) ≡ Some (node.File (offered_file cuts moment user k bytes))
  offered_node k is =
      sym (ap (option_map (node_of objects)) (offer.entries path below ∙ (λ i. option_and_then (entry_of_holding cuts moment user (is i)) (there i))))
      ∙ offer.tree path below ∙ (λ i. option_and_then (offered_of cuts moment user (is i)) (there i))

  pub offered_bytes : (k : Option Known) → fin.get index.entries path ≡ k → IsApart cuts bytes k → contents_of objects (own_of cuts bytes) ≡ bytes
  offered_bytes None is other = ap bytes_at (offered_node None is)
  offered_bytes (Some known.Dir) is other = ap bytes_at (offered_node (Some known.Dir) is)
  offered_bytes (Some (known.File its was size mode mtime modifier)) is other =
      by (bytes_eq (own_of cuts bytes) was) other (ap bytes_at (offered_node (Some (known.File its was size mode mtime modifier)) is))
    where
      by : (b : Bool) → b ≡ false
          → bytes_at (Some (node_of objects (if b then entry.File its mode mtime modifier size else changed_entry cuts moment user (Some (known.File its was size mode mtime modifier)) bytes)))
          ≡ bytes_at (Some (node.File (if b then record { mode = mode; mtime = mtime; modifier = modifier; bytes = bytes }
          else changed_file moment user (Some (known.File its was size mode mtime modifier)) bytes)))
          → contents_of objects (own_of cuts bytes) ≡ bytes
      by true is_not same = absurd (true≢false is_not)
      by false is_not same = same

-- whether ids are one is the same both ways
pub other_way : (x y : List ℕ) → bytes_eq x y ≡ false → bytes_eq y x ≡ false
other_way x y is = by (bytes_eq y x) refl
  where
    by : (b : Bool) → bytes_eq y x ≡ b → bytes_eq y x ≡ false
    by true same = absurd (true≢false (sym ((bytes_eq-Decides x y).1 (sym (same_from_bytes_eq y x same))) ∙ is))
    by false same = same

both_first : (a b : Bool) → (a && b) ≡ true → a ≡ true
both_first true b is = refl
both_first false b is = absurd (true≢false (sym is))

both_second : (a b : Bool) → (a && b) ≡ true → b ≡ true
both_second true b is = is
both_second false b is = absurd (true≢false (sym is))

-- what was pushed, where something was
abbrev pub PushedSo : Objects → Cuts → Contents → Index → (moment : ℕ) → (user : List ℕ) → Bool → Type 0
PushedSo objects cuts c index moment user pushed = pushed ≡ true → (parent : Option (List ℕ)) × (commit : List ℕ) × IsOffer objects cuts c index moment user parent commit

module _ (objects : Objects) (cuts : Cuts) (c : Contents) (index : Index) (base : Tree) (had : List (Key × List ℕ)) (over : Over objects cuts c index base had) (formed : IsFolder c)
    (moment : ℕ) (user : List ℕ) (pushed : Bool) (offers : PushedSo objects cuts c index moment user pushed) where
  not_root : (path : PathV) (bytes : List ℕ) → at c path ≡ Some (File bytes) → path ≢ []
  not_root path bytes there is = let none : at c path ≡ None = ap (at c) is ∙ formed.no_root in true≢false (sym (ap is_some there) ∙ ap is_some none)

  -- a file whose own id is that of the index has the contents of the index's id
  known_same : (path : PathV) (bytes : List ℕ) → at c path ≡ Some (File bytes) → (its was : List ℕ) (size mode : ℕ) (mtime : ℤ) (modifier : List ℕ)
      → fin.get index.entries path ≡ Some (known.File its was size mode mtime modifier) → was ≡ own_of cuts bytes → contents_of objects its ≡ bytes
  known_same path bytes there its was size mode mtime modifier is same =
      by (fin.get base path) refl (subst (Knows cuts (fin.get base path)) is (over.stands path)) (subst (NamesFile objects (fin.get base path)) is (over.names path))
    where
      by : (n : Option Node) → fin.get base path ≡ n → Knows cuts n (Some (known.File its was size mode mtime modifier)) → NamesFile objects n (Some (known.File its was size mode mtime modifier))
          → contents_of objects its ≡ bytes
      by None none knows names = absurd knows
      by (Some node.Dir) dir knows names = absurd knows
      by (Some (node.File file)) held knows names = names ∙ sym (own_alike objects cuts c index base had over path path bytes file there held (sym same ∙ knows.0))

  -- a file that is left alone has the contents of the head's id
  pub left_bytes : (path : PathV) (bytes : List ℕ) → at c path ≡ Some (File bytes) → (id : List ℕ) (k : Option Known) → fin.get index.entries path ≡ k
      → own_has (own_of cuts bytes) k id pushed ≡ true → contents_of objects id ≡ bytes
  left_bytes path bytes there id k is left = by k is left
    where
      offered : (o : Option Known) → fin.get index.entries path ≡ o → IsApart cuts bytes o → (pushed && bytes_eq (own_of cuts bytes) id) ≡ true → contents_of objects id ≡ bytes
      offered o found other both =
          let named : own_of cuts bytes ≡ id = same_from_bytes_eq (own_of cuts bytes) id (both_second pushed (bytes_eq (own_of cuts bytes) id) both) in
          let made = offers (both_first pushed (bytes_eq (own_of cuts bytes) id) both) in
          ap (contents_of objects) (sym named)
          ∙ offered_bytes objects cuts c index moment user made.0 made.1 made.2 path bytes there (not_root path bytes there) o found other

      by : (o : Option Known) → fin.get index.entries path ≡ o → own_has (own_of cuts bytes) o id pushed ≡ true → contents_of objects id ≡ bytes
      by None found has = offered None found tt has
      by (Some known.Dir) found has = offered (Some known.Dir) found tt has
      by (Some (known.File its was size mode mtime modifier)) found has = apart (bytes_eq was (own_of cuts bytes)) refl has
        where
          apart : (b : Bool) → bytes_eq was (own_of cuts bytes) ≡ b → (if b then bytes_eq its id else (pushed && bytes_eq (own_of cuts bytes) id)) ≡ true → contents_of objects id ≡ bytes
          apart true one has_it =
              ap (contents_of objects) (sym (same_from_bytes_eq its id has_it))
              ∙ known_same path bytes there its was size mode mtime modifier found (same_from_bytes_eq was (own_of cuts bytes) one)
          apart false one has_it = offered (Some (known.File its was size mode mtime modifier)) found (other_way was (own_of cuts bytes) one) has_it

  -- so each file that is left alone has its bytes already
  pub alone_alike : (entries : fin.FinMap path_cmp Entry) (tree : Tree) → StandsFor objects entries tree → AreAlike c (alone_at cuts c index entries pushed) tree
  alone_alike entries tree stands path file bytes is there left =
      by (fin.get entries path) (sym (stands path) ∙ is)
      (sym (λ i. is_alone cuts (there i) (fin.get index.entries path) (fin.get entries path) pushed) ∙ left)
    where
      by : (e : Option Entry) → option_map (node_of objects) e ≡ Some (node.File file) → is_alone cuts (Some (File bytes)) (fin.get index.entries path) e pushed ≡ true → file.bytes ≡ bytes
      by None node_is has = absurd (true≢false (sym (ap is_some node_is)))
      by (Some entry.Dir) node_is has = absurd (true≢false (sym (ap is_file_node node_is)))
      by (Some (entry.File id mode mtime modifier size)) node_is has =
          sym (ap bytes_at node_is) ∙ left_bytes path bytes there id (fin.get index.entries path) refl has

-- What is written for a plan: the files of the head's tree, with the objects that were got for them. The key lemmas are made_for,
-- made_objects, made_of and all_planned.
use Rattle.std.proofs.Common.{◌≡◌, ◌≢◌, ℕ, ℤ, Bool, true, false, if◌then◌else◌, List, [], ◌∷◌, ◌++◌, Option, None, Some, Result, Ok, Err, refl, sym, ap, subst, ◌∙◌, inl, inr}
use Rattle.std.specs.Prelude.{⊤}
use Rattle.std.specs.FinMap as fin
use Rattle.std.specs.List.{AllByRecursion, flat_map}
use Rattle.std.specs.Cmp.Lexicographic.{bytes_decides}
use Rattle.ids.specs.Key.{Objects}
use Rattle.ids.specs.ObjectId.{nil}
use Rattle.tree_model.specs.Path.{PathV, path_cmp}
use Rattle.tree_model.proofs.MovingLemmas.{In}
use Rattle.fs_objects.specs.declared.file_object.FileObject.{FileObject}
use Rattle.fs_objects.specs.declared.fs_object.FsObject.{FsObject}
use Rattle.fs_objects.specs.declared.fs_object.FsObject.TheVariants as fs
use Rattle.folder_side.specs.declared.scan_report.Scan.{Scan}
use Rattle.folder_side.specs.declared.scan_report.Seen.{Seen}
use Rattle.folder_side.specs.declared.scan_report.Seen.TheVariants as seen
use Rattle.folder_side.proofs.SortedEntryLemmas.{Rises-entries, found_of}
use Rattle.local_index.specs.declared.index.Index.{Index}
use Rattle.object_graph.specs.Objects.{AreEntriesOf, blocks_at, blocks_of, entry_below, fs_at, fs_in, fs_key, is_nil}
use Rattle.object_graph.specs.Unchanged.{Keeps}
use Rattle.object_graph.specs.declared.entry.Entry.{Entry}
use Rattle.object_graph.specs.declared.entry.Entry.TheVariants as entry
use Rattle.object_graph.specs.declared.fault.TreeFault.{TreeFault}
use Rattle.tree_walk.specs.Files.{as_file, file_at}
use Rattle.tree_checkout.specs.CheckingOut.{AreFor, AreObjects, AreOf, IsForNode, IsNodeOf, IsObjectOf}
use Rattle.tree_checkout.specs.Planning.{dir_due, due_of, dues_at, is_alone_in}
use Rattle.tree_checkout.specs.declared.planning.Due.{Due}
use Rattle.tree_checkout.specs.declared.planning.DueNode.{DueNode}
use Rattle.tree_checkout.specs.declared.planning.DueNode.TheVariants as due
use Rattle.tree_checkout.specs.declared.steps.Write.{Write}
use Rattle.tree_checkout.specs.declared.steps.WriteNode.{WriteNode}
use Rattle.tree_checkout.specs.declared.steps.WriteNode.TheVariants as write
use Rattle.sync_daemon.specs.Bringing.{AreMade, IsMade}

-- ---- the object of a file

-- what is held is there too, with the same bytes
module _ (held objects : Objects) (keeps : Keeps held objects) where
  pub there_too : (id : List ℕ) (file : FileObject) → fs_at held id ≡ Ok (fs.File file) → fs_at objects id ≡ Ok (fs.File file)
  there_too id file is = by (fin.get held (fs_key id)) refl is
    where
      by : (o : Option (List ℕ)) → fin.get held (fs_key id) ≡ o → fs_in (fs_key id) o ≡ Ok (fs.File file) → fs_at objects id ≡ Ok (fs.File file)
      by None none read = cc
      by (Some bytes) some read = ap (fs_in (fs_key id)) (keeps.kept (fs_key id) bytes some) ∙ read

  -- a file that is read as such
  pub read_file : (id : List ℕ) (r : Result FsObject TreeFault) (file : FileObject) → as_file id r ≡ Ok file → r ≡ Ok (fs.File file)
  read_file id (Ok (fs.File other)) file is = let same : other ≡ file = cc in ap (λ (f : FileObject). Ok (fs.File f)) same
  read_file id (Ok (fs.Dir entries)) file is = cc
  read_file id (Err why) file is = cc

  module _ (id : List ℕ) (file : FileObject) (is : file_at held id ≡ Ok file) where
    file_blocks : blocks_at objects id ≡ file.blocks
    file_blocks = by (is_nil id) is
      where
        by : (b : Bool) → (if b then Ok (record { blocks = []; size = 0 }) else as_file id (fs_at held id)) ≡ Ok file → (if b then [] else blocks_of (fs_at objects id)) ≡ file.blocks
        by true read = let same : record { blocks = []; size = 0 } ≡ file = cc in ap (λ (f : FileObject). f.blocks) same
        by false read = ap blocks_of (there_too id file (read_file id (fs_at held id) file read))

    file_object : id ≢ nil → fs_at objects id ≡ Ok (fs.File file)
    file_object some = by (is_nil id) refl is
      where
        by : (b : Bool) → is_nil id ≡ b → (if b then Ok (record { blocks = []; size = 0 }) else as_file id (fs_at held id)) ≡ Ok file → fs_at objects id ≡ Ok (fs.File file)
        by true none read = absurd (some ((bytes_decides id nil).0 none))
        by false apart read = there_too id file (read_file id (fs_at held id) file read)

  -- ---- over objects that have what is held

  pub made_node : (d : DueNode) (node : WriteNode) → IsMade held d node → IsForNode objects d node
  made_node due.Dir write.Dir is = tt
  made_node (due.File id) (write.File file) is = (is.0, file_blocks id file.object is.1)
  made_node due.Dir (write.File file) is = absurd is
  made_node (due.File id) write.Dir is = absurd is

  pub made_for : (dues : List Due) (writes : List Write) → AreMade held dues writes → AreFor objects dues writes
  made_for [] [] made = tt
  made_for [] (w ∷ writes) made = absurd made
  made_for (d ∷ dues) [] made = absurd made
  made_for (d ∷ dues) (w ∷ writes) made = (made.0.0, made_node d.node w.node made.0.1, made_for dues writes made.1)

  object_node : (d : DueNode) (node : WriteNode) → IsMade held d node → IsObjectOf objects node
  object_node due.Dir write.Dir is = tt
  object_node (due.File id) (write.File file) is = λ some.
      subst (λ (x : List ℕ). fs_at objects x ≡ Ok (fs.File file.object)) (sym is.0) (file_object id file.object is.1 (λ none. some (is.0 ∙ none)))
  object_node due.Dir (write.File file) is = absurd is
  object_node (due.File id) write.Dir is = absurd is

  pub made_objects : (dues : List Due) (writes : List Write) → AreMade held dues writes → AreObjects objects writes
  made_objects [] [] made = tt
  made_objects [] (w ∷ writes) made = absurd made
  made_objects (d ∷ dues) [] made = absurd made
  made_objects (d ∷ dues) (w ∷ writes) made = (object_node d.node w.node made.0.1, made_objects dues writes made.1)

-- ---- what is due is of the tree

-- the entries have the file that is due
abbrev pub IsNodeIn : (entries : fin.FinMap path_cmp Entry) → PathV → DueNode → Type 0
IsNodeIn entries path due.Dir = ⊤
IsNodeIn entries path (due.File id) = (mode : ℕ) × (mtime : ℤ) × (modifier : List ℕ) × (size : ℕ) × (fin.get entries path ≡ Some (entry.File id mode mtime modifier size))

abbrev pub AreIn : (entries : fin.FinMap path_cmp Entry) → List Due → Type 0
AreIn entries dues = AllByRecursion (λ (d : Due). IsNodeIn entries d.path d.node) dues

module _ (entries : fin.FinMap path_cmp Entry) (scan : Scan) (index : Index) (pushed : Bool) where
  in_both : (first later : List Due) → AreIn entries first → AreIn entries later → AreIn entries (first ++ later)
  in_both [] later all more = more
  in_both (d ∷ first) later all more = (all.0, in_both first later all.1 more)

  dir_in : (s : Option Seen) (path : PathV) → AreIn entries (dir_due s path)
  dir_in None path = (tt, tt)
  dir_in (Some seen.Dir) path = tt
  dir_in (Some (seen.File blocks size)) path = (tt, tt)

  due_in : (path : PathV) (e : Entry) → fin.get entries path ≡ Some e → AreIn entries (due_of (fin.get scan.paths path) (fin.get index.entries path) pushed path e)
  due_in path entry.Dir is = dir_in (fin.get scan.paths path) path
  due_in path (entry.File id mode mtime modifier size) is = by (is_alone_in (fin.get scan.paths path) (fin.get index.entries path) id pushed)
    where
      by : (b : Bool) → AreIn entries (if b then [] else record { path = path; node = due.File id } ∷ [])
      by true = tt
      by false = ((mode, mtime, modifier, size, is), tt)

  in_all : (es : List (PathV × Entry)) → ((e : PathV × Entry) → In e es → fin.get entries e.0 ≡ Some e.1) → AreIn entries (flat_map (dues_at scan index pushed) es)
  in_all [] are = tt
  in_all (e ∷ es) are =
      in_both (dues_at scan index pushed e) (flat_map (dues_at scan index pushed) es) (due_in e.0 e.1 (are e (inl refl))) (in_all es (λ f there. are f (inr there)))

  -- each is found at its path
  pub found_in : (e : PathV × Entry) → In e (fin.entries entries) → fin.get entries e.0 ≡ Some e.1
  found_in e there = fin.get-entries entries e.0 ∙ found_of (fin.entries entries) e (Rises-entries entries) there

  pub all_planned : (dues : List Due) → dues ≡ flat_map (dues_at scan index pushed) (fin.entries entries) → AreIn entries dues
  all_planned dues is = subst (AreIn entries) (sym is) (in_all (fin.entries entries) found_in)

-- what is written is the root's
module _ (objects : Objects) (root : List ℕ) (entries : fin.FinMap path_cmp Entry) (are : AreEntriesOf objects root entries) where
  node_of_root : (d : Due) (w : Write) → w.path ≡ d.path → IsNodeIn entries d.path d.node → IsForNode objects d.node w.node → IsNodeOf objects root w.path w.node
  node_of_root d w same of for = by d.node w.node of for
    where
      by : (n : DueNode) (node : WriteNode) → IsNodeIn entries d.path n → IsForNode objects n node → IsNodeOf objects root w.path node
      by due.Dir write.Dir here is = tt
      by (due.File id) (write.File file) here is =
          let found : entry_below objects w.path root ≡ Some (entry.File id here.0 here.1 here.2 here.3) = ap (λ (p : PathV). entry_below objects p root) same ∙ sym (are d.path) ∙ here.4 in
          record {
            mode = here.0;
            mtime = here.1;
            modifier = here.2;
            size = here.3;
            there = found ∙ ap (λ (x : List ℕ). Some (entry.File x here.0 here.1 here.2 here.3)) (sym is.0);
            blocks = ap (blocks_at objects) is.0 ∙ is.1;
          }
      by due.Dir (write.File file) here is = absurd is
      by (due.File id) write.Dir here is = absurd is

  pub made_of : (dues : List Due) (writes : List Write) → AreIn entries dues → AreFor objects dues writes → AreOf objects root writes
  made_of [] [] of for = tt
  made_of [] (w ∷ writes) of for = absurd for
  made_of (d ∷ dues) [] of for = absurd for
  made_of (d ∷ dues) (w ∷ writes) of for = (node_of_root d w for.0 of.0 for.1, made_of dues writes of.1 for.2)

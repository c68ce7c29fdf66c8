-- Files that stay whole as they are placed, and as objects are added. The key lemmas are whole_kept, whole_settled and whole_named.
use Rattle.std.proofs.Common.{◌≡◌, ℕ, List, [], Bool, true, false, cond, if◌then◌else◌, sym, ap, ◌∙◌, subst, Option, None, Some, option_map}
use Rattle.std.specs.Option.{option_or}
use Rattle.std.specs.FinMap as map
use Rattle.ids.specs.Key.{Objects}
use Rattle.tree_model.specs.Path.{PathV, path_cmp}
use Rattle.tree_model.proofs.ListedLemmas.{same_path}
use Rattle.object_graph.proofs.StoredLemmas.{root_stored}
use Rattle.object_graph.specs.Traversal.{IsCompleteRoot, Walk, start, walk_below, walk_file_at, walk_root}
use Rattle.object_graph.specs.Unchanged.{Keeps}
use Rattle.object_graph.specs.declared.entry.Entry.{Entry}
use Rattle.object_graph.proofs.LocalityLemmas.{Follows, locality}
use Rattle.object_graph.proofs.SchemeLemmas.{along_below, along_object}
use Rattle.object_graph.proofs.StoredLemmas.{agree_kept, none_stored, object_stored}
use Rattle.tree_merge.specs.Decision.{AreWholeFiles, AreWholeIn, HasSettled, IsWholeDecided, IsWholePlacing, Marks}
use Rattle.tree_merge.specs.FileChoice.{IsWholeIf, changed_both}
use Rattle.tree_merge.specs.FileEntry.{as_entry, file_in}
use Rattle.tree_merge.specs.Sides.{Entries}
use Rattle.tree_merge.specs.Telling.{IsWhole}
use Rattle.tree_merge.specs.declared.decision.Decided.{Decided}
use Rattle.tree_merge.specs.declared.decision.Placing.{Placing}
use Rattle.tree_merge.specs.declared.file_entry.FileEntry.{FileEntry}
use Rattle.tree_merge.proofs.TableLemmas.{Table, get-popped, get-put}

-- a complete root is complete among more objects
pub complete_kept : (objects more : Objects) → Keeps objects more → (id : List ℕ) → IsCompleteRoot objects id → IsCompleteRoot more id
complete_kept objects more keeps id whole =
    let w : Walk = walk_root true objects id start in
    ap (λ (v : Walk). v.fault)
    ((along_object true true objects more (Follows objects more) (locality objects more true) (walk_below true objects 100) (walk_below true more 100)
    (along_below true true objects more (Follows objects more) (locality objects more true) 100) true [] id).same start
    (agree_kept objects more w.visits keeps (root_stored objects true id start (none_stored objects) whole)))
    ∙ whole

-- a whole file is whole among more objects
pub whole_kept : (objects more : Objects) → Keeps objects more → (id : List ℕ) → IsWhole objects id → IsWhole more id
whole_kept objects more keeps id whole =
    let w : Walk = walk_file_at objects id start in
    ap (λ (v : Walk). v.fault)
    ((along_object true true objects more (Follows objects more) (locality objects more true) (walk_below true objects 100) (walk_below true more 100)
    (along_below true true objects more (Follows objects more) (locality objects more true) 100) false [] id).same start
    (agree_kept objects more w.visits keeps (object_stored objects true 100 false [] id start (none_stored objects) whole)))
    ∙ whole

-- ---- the choice

pub whole_both : (objects : Objects) (head pushed : Option FileEntry) → IsWholeIf objects head → IsWholeIf objects pushed
    → IsWholeIf objects (changed_both head pushed).main × IsWholeIf objects (changed_both head pushed).side
whole_both objects None pushed one two = (two, tt)
whole_both objects (Some head) pushed one two = (one, two)

pub whole_or : (objects : Objects) (file other : Option FileEntry) → IsWholeIf objects file → IsWholeIf objects other → IsWholeIf objects (option_or file other)
whole_or objects None other one two = two
whole_or objects (Some file) other one two = one

pub whole_entry : (objects : Objects) (file : Option FileEntry) → IsWholeIf objects file → IsWholeIf objects (file_in (option_map as_entry file))
whole_entry objects None whole = tt
whole_entry objects (Some file) whole = whole

-- ---- tables

whole_entries_or : (objects : Objects) (one other : Option Entry) → IsWholeIf objects (file_in one) → IsWholeIf objects (file_in other) → IsWholeIf objects (file_in (option_or one other))
whole_entries_or objects None other one two = two
whole_entries_or objects (Some x) other one two = one

-- one path is decided
pub whole_settled : (objects : Objects) (path : PathV) (placing : Placing) (before after : Marks) (old new : Decided) → HasSettled path placing before after old new
    → IsWholePlacing objects placing → IsWholeDecided objects old → IsWholeDecided objects new
whole_settled objects path placing before after old new settled placed whole = record {
  nodes = λ q. subst (λ (o : Option Entry). IsWholeIf objects (file_in o)) (sym (settled.nodes q)) (entry q (same_path q path));
  leavers = λ q. subst (IsWholeIf objects) (sym (settled.leavers q)) (file q (same_path q path));
}
  where
    entry : (q : PathV) (b : Bool) → IsWholeIf objects (file_in (if b then option_or placing.node (map.get old.nodes q) else map.get old.nodes q))
    entry q true = whole_entries_or objects placing.node (map.get old.nodes q) placed.0 (whole.nodes q)
    entry q false = whole.nodes q

    file : (q : PathV) (b : Bool) → IsWholeIf objects (if b then option_or placing.leaver (map.get old.leavers q) else map.get old.leavers q)
    file q true = whole_or objects placing.leaver (map.get old.leavers q) placed.1 (whole.leavers q)
    file q false = whole.leavers q

pub whole_start : (objects : Objects) (d : Decided) → d.nodes ≡ map.empty → d.leavers ≡ map.empty → IsWholeDecided objects d
whole_start objects d nodes leavers = record {
  nodes = λ q. subst (λ (o : Option Entry). IsWholeIf objects (file_in o)) (sym (ap (λ (m : Entries). map.get m q) nodes ∙ map.get-empty path_cmp q)) tt;
  leavers = λ q. subst (IsWholeIf objects) (sym (ap (λ (m : Table FileEntry). map.get m q) leavers ∙ map.get-empty path_cmp q)) tt;
}

-- a file is taken out of a table
pub whole_popped : (objects : Objects) (m n : Table FileEntry) (e : PathV × FileEntry) → n ≡ map.remove m e.0 → AreWholeFiles objects m → AreWholeFiles objects n
whole_popped objects m n e is whole q = subst (IsWholeIf objects) (sym (get-popped m n e is q)) (by (same_path q e.0))
  where
    by : (b : Bool) → IsWholeIf objects (cond b None (map.get m q))
    by true = tt
    by false = whole q

-- and put into one of entries
pub whole_put : (objects : Objects) (m n : Entries) (place : PathV) (file : FileEntry) → n ≡ map.insert m place (as_entry file) → IsWhole objects file.id → AreWholeIn objects m → AreWholeIn objects n
whole_put objects m n place file is own whole q =
    subst (λ (o : Option Entry). IsWholeIf objects (file_in o)) (sym (ap (λ (t : Entries). map.get t q) is ∙ get-put m place (as_entry file) q)) (by (same_path q place))
  where
    by : (b : Bool) → IsWholeIf objects (file_in (cond b (Some (as_entry file)) (map.get m q)))
    by true = own
    by false = whole q

pub whole_file_at : (objects : Objects) (m : Table FileEntry) (path : PathV) (file : FileEntry) → map.get m path ≡ Some file → AreWholeFiles objects m → IsWhole objects file.id
whole_file_at objects m path file there whole = subst (IsWholeIf objects) there (whole path)

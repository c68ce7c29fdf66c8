-- The tree of what was fetched is the tree of all objects that have it. The key lemmas are tree_got, tree_failed and tree_halts.
use Rattle.std.proofs.Common.{◌≡◌, ℕ, false, List, sym, ap, ◌∙◌, None, Some, Err}
use Rattle.std.specs.FinMap as map
use Rattle.ids.specs.Key.{Objects}
use Rattle.tree_model.specs.Path.{path_cmp}
use Rattle.object_graph.specs.Objects.{AreEntriesOf}
use Rattle.object_graph.specs.Reached.{own_keys}
use Rattle.object_graph.specs.Traversal.{Walk, start, walk_root}
use Rattle.object_graph.specs.Unchanged.{Keeps}
use Rattle.object_graph.specs.declared.entry.Entry.{Entry}
use Rattle.object_graph.specs.declared.fault.TreeFault.{TreeFault}
use Rattle.tree_walk.specs.Reading.{IsDue}
use Rattle.tree_walk.specs.declared.fault.WalkFault.{WalkFault}
use Rattle.tree_walk.specs.declared.fault.WalkFault.TheVariants as walk
use Rattle.remote_calls.specs.Sends.{Sent}
use Rattle.sync_rules.specs.Named.{HasGot}
use Rattle.sync_rules.specs.Causes.{IsWrongTree}
use Rattle.sync_rules.specs.declared.fault.SyncFault.{SyncFault}
use Rattle.sync_rules.specs.declared.fault.SyncFault.TheVariants as fault
use Rattle.tree_fetch.specs.Fetching.{FetchesTree, Fetching, FindsWrongTree, IsFetchedTree}
use Rattle.tree_fetch.specs.Levels.{Covers, Halts, tree_fault}
use Rattle.tree_fetch.specs.declared.asker.Asker.{Asker}
use Rattle.tree_fetch.proofs.CoverLemmas.{no_sizes, same_entries, same_walk}
use Rattle.tree_fetch.proofs.SendLemmas.{kept_got, stops_here}

module _ (asker : Asker) (before now : List Sent) (root : List ℕ) where
  pub tree_halts : (why : SyncFault) → Halts asker (own_keys root) before now why → FetchesTree asker before now root (Err why)
  tree_halts (fault.BadTree why) never = absurd never
  tree_halts why stopped = stopped

  module _ (held : Objects) (f : Fetching asker (own_keys root) before now held) (covered : Covers held 101 root) where
    keeps : (objects : Objects) → HasGot objects f.more → Keeps held objects
    keeps objects has = f.kept objects (kept_got asker (own_keys root) before now held f objects has)

    pub tree_got : (entries : map.FinMap path_cmp Entry) → ((walk_root false held root start).fault ≡ None) × AreEntriesOf held root entries
        → IsFetchedTree asker before now root (record { objects = held; entries = entries })
    tree_got entries is = record {
      more = f.more;
      had = f.had;
      sends = f.sends;
      asked = f.asked;
      reached = f.reached;
      went = f.went;
      held = is.0;
      own = is.1;
      came = f.came;
      whole = λ objects has. ap (λ (w : Walk). w.fault) (same_walk held objects (keeps objects has) root covered) ∙ is.0;
      entries = λ objects has path. is.1 path ∙ sym (same_entries held objects (keeps objects has) root is.0 path);
      kept = keeps;
    }

    bad : (why : WalkFault) → ((objects : Objects) → HasGot objects f.more → IsWrongTree objects root why) → FindsWrongTree asker before now root why
    bad why wrong = record { more = f.more; had = f.had; sends = f.sends; asked = f.asked; reached = f.reached; went = f.went; wrong = wrong }

    due : (why : TreeFault) → (walk_root false held root start).fault ≡ Some why → (objects : Objects) → HasGot objects f.more → (walk_root false objects root start).fault ≡ Some why
    due why is objects has = ap (λ (w : Walk). w.fault) (same_walk held objects (keeps objects has) root covered) ∙ is

    pub tree_failed : (why : WalkFault) → IsDue held (walk_root false held root start).fault why → FetchesTree asker before now root (Err (tree_fault why))
    tree_failed (walk.Store why) is = stops_here asker (own_keys root) before now held f
    tree_failed (walk.Incomplete key) is = bad (walk.Incomplete key) (due (TreeFault.Incomplete key) is)
    tree_failed (walk.Unreadable key) is = bad (walk.Unreadable key) (due (TreeFault.Unreadable key) is)
    tree_failed (walk.WrongKind id) is = bad (walk.WrongKind id) (due (TreeFault.WrongKind id) is)
    tree_failed (walk.WrongSize id) is = absurd (no_sizes held root id is)
    tree_failed (walk.TooDeep path) is = bad (walk.TooDeep path) (due (TreeFault.TooDeep path) is)
    tree_failed (walk.TooMany count) is = bad (walk.TooMany count) (due (TreeFault.TooMany count) is)

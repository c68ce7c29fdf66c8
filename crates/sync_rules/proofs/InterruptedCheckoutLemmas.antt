-- What a checkout left, done or not, is known as that. The key lemma is left_known.
use Rattle.std.proofs.Common.{◌≡◌, ℕ, Bool, true, false, not, ◌||◌, if◌then◌else◌, List, length, Option, None, Some, is_some, option_map, option_and_then, refl, sym, ap, ◌∙◌, true≢false}
use Rattle.std.specs.FinMap as fin
use Rattle.std.specs.Str.{bytes_eq}
use Rattle.std.proofs.lemmas.Slice.Eq.{bytes_eq-Decides}
use Rattle.ids.specs.Key.{Objects}
use Rattle.tree_model.specs.Path.{PathV}
use Rattle.tree_model.specs.Tree.{Tree}
use Rattle.tree_model.specs.declared.node.Node.{Node}
use Rattle.block_chunker.specs.declared.cuts.Cuts.{Cuts}
use Rattle.object_graph.specs.Objects.{IsTreeOf, contents_of, entry_below, node_of}
use Rattle.object_graph.specs.declared.entry.Entry.{Entry}
use Rattle.object_graph.specs.declared.entry.Entry.TheVariants as entry
use Rattle.folder_side.specs.Folder.{Contents, at}
use Rattle.folder_side.specs.ScanReport.{block_names, seen_of}
use Rattle.folder_side.specs.WorkingTree.{held_of, plain_node}
use Rattle.folder_side.specs.declared.holding.Holding.{Holding}
use Rattle.folder_side.specs.declared.holding.Holding.TheVariants.{Dir, File, Other}
use Rattle.folder_side.specs.declared.scan_report.Seen.{Seen}
use Rattle.folder_side.specs.declared.scan_report.Seen.TheVariants as seen
use Rattle.local_index.specs.ScanChanges.{change_of, differs}
use Rattle.local_index.specs.declared.scan_changes.ChangeKind.TheVariants.{Changed}
use Rattle.local_index.specs.declared.index.Index.{Index}
use Rattle.local_index.specs.declared.index.Known.{Known}
use Rattle.local_index.specs.declared.index.Known.TheVariants as known
use Rattle.sync_rules.specs.Checkout.{MayHold, keeps}
use Rattle.sync_rules.specs.InterruptedCheckout.{HasOwnId, HasOwnIds, IsLeftByCheckout, is_left, is_reached, is_removed, is_unchanged}
use Rattle.sync_rules.specs.Offer.{Agrees, own_of}

or_right : (a b : Bool) → b ≡ true → (a || b) ≡ true
or_right true b is = refl
or_right false b is = is

-- what agrees with the index is left so
agreed_left_so : (s : Option Seen) (k : Option Known) (there : Option Entry) → change_of s k ≡ None → is_left s k there ≡ true
agreed_left_so None None there same = refl
agreed_left_so None (Some was) there same = absurd (true≢false (ap is_some same))
agreed_left_so (Some s) None there same = absurd (true≢false (ap is_some same))
agreed_left_so (Some s) (Some was) there same = by (differs s was) refl
  where
    by : (b : Bool) → differs s was ≡ b → is_left (Some s) (Some was) there ≡ true
    by false is = ap (λ (b : Bool). not b || is_reached s there) is
    by true is = absurd (true≢false (sym (ap (λ (b : Bool). is_some (if b then Some Changed else None)) is) ∙ ap is_some same))

module _ (objects : Objects) (cuts : Cuts) where
  -- a file of the tree is known by its own id
  reached_so : (h : Option Holding) (k : Option Known) (there : Option Entry) → HasOwnId objects cuts there → is_some (option_map plain_node (option_map (node_of objects) there)) ≡ true
      → option_and_then held_of h ≡ option_map plain_node (option_map (node_of objects) there) → is_left (option_and_then (seen_of cuts) h) k there ≡ true
  reached_so h k None own some holds = absurd (true≢false (sym some))
  reached_so None k (Some e) own some holds = absurd (true≢false (sym (ap is_some holds)))
  reached_so (Some Other) k (Some e) own some holds = absurd (true≢false (sym (ap is_some holds)))
  reached_so (Some Dir) k (Some entry.Dir) own some holds = or_right (is_unchanged seen.Dir k) true refl
  reached_so (Some Dir) k (Some (entry.File id mode mtime modifier size)) own some holds = cc
  reached_so (Some (File bytes)) k (Some entry.Dir) own some holds = cc
  reached_so (Some (File bytes)) k (Some (entry.File id mode mtime modifier size)) own some holds =
      let same : bytes ≡ contents_of objects id = cc in
      or_right (is_unchanged (seen.File (block_names cuts bytes) (length bytes)) k) (bytes_eq (own_of cuts bytes) id) ((bytes_eq-Decides (own_of cuts bytes) id).1 (ap (own_of cuts) same ∙ own))

  -- nothing is there where something of another kind comes, or nothing
  removed_so : (h : Option Holding) (was : Known) (there : Option Entry) → change_of (option_and_then (seen_of cuts) h) (Some was) ≡ None
      → keeps (option_map (node_of objects) there) h ≡ false → is_removed was there ≡ true
  removed_so None was there same apart = absurd (true≢false (ap is_some same))
  removed_so (Some Other) was there same apart = absurd (true≢false (ap is_some same))
  removed_so (Some Dir) known.Dir None same apart = refl
  removed_so (Some Dir) known.Dir (Some entry.Dir) same apart = absurd (true≢false apart)
  removed_so (Some Dir) known.Dir (Some (entry.File id mode mtime modifier size)) same apart = refl
  removed_so (Some Dir) (known.File id own size mode mtime modifier) there same apart = absurd (true≢false (ap is_some same))
  removed_so (Some (File bytes)) known.Dir there same apart = absurd (true≢false (ap is_some same))
  removed_so (Some (File bytes)) (known.File its own its_size its_mode its_mtime its_modifier) None same apart = refl
  removed_so (Some (File bytes)) (known.File its own its_size its_mode its_mtime its_modifier) (Some entry.Dir) same apart = refl
  removed_so (Some (File bytes)) (known.File its own its_size its_mode its_mtime its_modifier) (Some (entry.File id mode mtime modifier size)) same apart = absurd (true≢false apart)

  cleared_so : (h : Option Holding) (k : Option Known) (there : Option Entry) → change_of (option_and_then (seen_of cuts) h) k ≡ None
      → keeps (option_map (node_of objects) there) h ≡ false → is_left None k there ≡ true
  cleared_so h None there same apart = refl
  cleared_so h (Some was) there same apart = removed_so h was there same apart

  pub left_known : (c d : Contents) (index : Index) (tree : Tree) (root : List ℕ) → Agrees cuts c index → IsTreeOf objects root tree → HasOwnIds objects cuts root
      → ((path : PathV) → MayHold tree c d path) → IsLeftByCheckout objects cuts d index root
  left_known c d index tree root agrees is own holds path = by (holds path)
    where
      there : Option Entry
      there = entry_below objects path root

      was : Option Known
      was = fin.get index.entries path

      by : MayHold tree c d path → is_left (option_and_then (seen_of cuts) (at d path)) was there ≡ true
      by (MayHold.kept same) =
          ap (λ (h : Option Holding). is_left (option_and_then (seen_of cuts) h) was there) same
          ∙ agreed_left_so (option_and_then (seen_of cuts) (at c path)) was there (agrees path)
      by (MayHold.reached some same) =
          reached_so (at d path) was there (own path) (sym (ap (λ (n : Option Node). is_some (option_map plain_node n)) (is path)) ∙ some)
          (same ∙ ap (option_map plain_node) (is path))
      by (MayHold.cleared none apart) =
          ap (λ (h : Option Holding). is_left (option_and_then (seen_of cuts) h) was there) none
          ∙ cleared_so (at c path) was there (agrees path) (sym (ap (λ (n : Option Node). keeps n (at c path)) (is path)) ∙ apart)

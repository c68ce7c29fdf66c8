-- A sync whose head is the commit that it pushed: the index knows what was offered, and nothing was done to the folder. The key lemmas are
-- own_finishes and none_here.
use Rattle.std.proofs.Common.{◌≡◌, ◌≢◌, ◌≤◌, ◌⊎◌, ◌&&◌, ℕ, ℤ, Bool, true, false, cond, if◌then◌else◌, List, [], ◌∷◌, map, Option, None, Some, is_some, option_map, option_and_then, Ok, refl, sym, ap, subst, ◌∙◌, append-nil, inl, inr, true≢false}
use Rattle.std.specs.FinMap as fin
use Rattle.std.specs.Option.{option_or}
use Rattle.std.specs.Ordering.{eq_by_cmp}
use Rattle.std.specs.Str.{bytes_eq}
use Rattle.std.proofs.lemmas.List.Elements.{All-nil}
use Rattle.std.proofs.lemmas.Slice.Eq.{bytes_eq-Decides}
use Rattle.ids.specs.Key.{Objects}
use Rattle.ids.specs.declared.key.Key.{Key}
use Rattle.ids.proofs.BasicLemmas.{same_from_bytes_eq}
use Rattle.tree_model.specs.Path.{PathV, path_cmp}
use Rattle.tree_model.specs.PathOrder.{paths_total}
use Rattle.tree_model.specs.Tree.{Tree}
use Rattle.tree_model.specs.declared.node.FileVersion.{FileVersion}
use Rattle.tree_model.specs.declared.node.Node.{Node}
use Rattle.tree_model.specs.declared.node.Node.TheVariants as node
use Rattle.tree_model.proofs.ListedLemmas.{same_path-true}
use Rattle.block_chunker.specs.declared.cuts.Cuts.{Cuts}
use Rattle.commit_objects.specs.declared.commit.Commit.{Commit}
use Rattle.folder_side.specs.Folder.{Contents, at}
use Rattle.folder_side.specs.ScanReport.{seen_of}
use Rattle.folder_side.specs.declared.holding.Holding.{Holding}
use Rattle.folder_side.specs.declared.holding.Holding.TheVariants.{Dir, File, Other}
use Rattle.folder_side.specs.declared.scan_report.Seen.{Seen}
use Rattle.folder_side.specs.declared.scan_report.Seen.TheVariants as seen
use Rattle.local_index.specs.declared.index.Index.{Index}
use Rattle.local_index.specs.declared.index.Known.{Known}
use Rattle.local_index.specs.declared.index.Known.TheVariants as known
use Rattle.object_graph.specs.Objects.{AreEntriesOf, commit_in, commit_key, contents_of, entry_below, node_of}
use Rattle.object_graph.specs.Unchanged.{Keeps}
use Rattle.object_graph.specs.declared.entry.Entry.{Entry}
use Rattle.object_graph.specs.declared.entry.Entry.TheVariants as entry
use Rattle.remote_calls.specs.Sends.{Sent}
use Rattle.sync_rules.specs.Checkout.{Step, is_alone}
use Rattle.sync_rules.specs.Named.{asked_head}
use Rattle.sync_rules.specs.Offer.{IsOffer, IsOfferOf, changed_entry, changed_file, entry_of_file, entry_of_holding, offered_file, offered_of, own_of}
use Rattle.sync_rules.specs.OneSync.{KnowsHead, KnowsPushed}
use Rattle.sync_rules.specs.Premises.{Over}
use Rattle.sync_rules.specs.Synced.{AsksWritten, IsConflict, IsOfWritten, IsSynced}
use Rattle.sync_rules.specs.declared.fault.SyncFault.TheVariants as fault
use Rattle.sync_rules.proofs.AgreedLemmas.{AreAlike, alike_held, alike_left, alike_plan}
use Rattle.tree_checkout.specs.Planning.{StandsFor}
use Rattle.tree_push.specs.OfferedEntries.{AreOffered, Entries, IsSeenFolder, KnownPaths, offered_entry}
use Rattle.tree_push.specs.Standing.{offered_commit}
use Rattle.tree_push.proofs.OfferLemmas.{commit_read, same_holding}
use Rattle.sync_daemon.specs.Bringing.{KnowsAs, KnowsOffered, known_of, offered_known, own_at, own_or, seen_own}
use Rattle.sync_daemon.specs.Finishing.{Finishes, spared_of}
use Rattle.sync_daemon.specs.Going.{GoingOver, Refuses, Sync}
use Rattle.sync_daemon.specs.Rounds.{IsPushed, IsSeen, IsSettled}
use Rattle.sync_daemon.specs.declared.round.Settled.{Settled}
use Rattle.sync_daemon.proofs.CheckedOutLemmas.{asked_then_written}
use Rattle.sync_daemon.proofs.FinishLemmas.{none_contained}
use Rattle.sync_daemon.proofs.GoingLemmas.{fails_here}
use Rattle.sync_daemon.proofs.HeadTreeLemmas.{is_tree_of, other_way, tree_for}
use Rattle.sync_daemon.proofs.NewIndexLemmas.{IsOwnAt, index_names, knows_root, knows_sizes, stands_by}
use Rattle.sync_daemon.proofs.ReadingLemmas.{pushed_in}
use Rattle.sync_daemon.proofs.SkippedLemmas.{same_skipped}
use Rattle.sync_daemon.proofs.UnpushedLemmas.{same_unpushed}

-- ---- a table with another value at each path

module _ {X Y : Type 0} (f : PathV → X → Y) where
  abbrev as_value : PathV × X → PathV × Y
  as_value e = (e.0, f e.0 e.1)

  find_values : (q : PathV) (es : List (PathV × X)) → fin.find path_cmp q (map as_value es) ≡ option_map (f q) (fin.find path_cmp q es)
  find_values q [] = refl
  find_values q (e ∷ es) = by (eq_by_cmp path_cmp q e.0) refl (find_values q es)
    where
      by : (b : Bool) → eq_by_cmp path_cmp q e.0 ≡ b → fin.find path_cmp q (map as_value es) ≡ option_map (f q) (fin.find path_cmp q es)
          → cond b (Some (f e.0 e.1)) (fin.find path_cmp q (map as_value es)) ≡ option_map (f q) (cond b (Some e.1) (fin.find path_cmp q es))
      by true same more = ap (λ (p : PathV). Some (f p e.1)) (sym (same_path-true q e.0 same))
      by false apart more = more

  pub table_for : (m : fin.FinMap path_cmp X) → (n : fin.FinMap path_cmp Y) × ((path : PathV) → fin.get n path ≡ option_map (f path) (fin.get m path))
  table_for m = (
    fin.from_entries (map as_value (fin.entries m)),
    λ path. fin.get-from_entries paths_total (map as_value (fin.entries m)) path ∙ find_values path (fin.entries m) ∙ ap (option_map (f path)) (sym (fin.get-entries m path)),
  )

-- ---- what was offered, in the words of an offer

abbrev bytes_of : FileVersion → List ℕ
bytes_of file = file.bytes

offered_bytes : (cuts : Cuts) (moment : ℕ) (user : List ℕ) (was : Option Known) (bytes : List ℕ) → bytes ≡ bytes_of (offered_file cuts moment user was bytes)
offered_bytes cuts moment user None bytes = refl
offered_bytes cuts moment user (Some known.Dir) bytes = refl
offered_bytes cuts moment user (Some (known.File id own size mode mtime modifier)) bytes = by (bytes_eq (own_of cuts bytes) own)
  where
    by : (b : Bool) → bytes ≡ bytes_of (if b then record { mode = mode; mtime = mtime; modifier = modifier; bytes = bytes }
        else changed_file moment user (Some (known.File id own size mode mtime modifier)) bytes)
    by true = refl
    by false = refl

-- the folder visibly holds just what it offers
alike_by : (cuts : Cuts) (moment : ℕ) (user : List ℕ) (was : Option Known) (o : Option Holding) → AreAlike o (option_and_then (offered_of cuts moment user was) o)
alike_by cuts moment user was None = tt
alike_by cuts moment user was (Some Other) = tt
alike_by cuts moment user was (Some Dir) = tt
alike_by cuts moment user was (Some (File bytes)) = offered_bytes cuts moment user was bytes

-- a file is left alone that was pushed so
let_alone : (cuts : Cuts) (moment : ℕ) (user : List ℕ) (was : Option Known) (bytes : List ℕ) → is_alone cuts (Some (File bytes)) was (Some (entry_of_file cuts moment user was bytes)) true ≡ true
let_alone cuts moment user None bytes = (bytes_eq-Decides (own_of cuts bytes) (own_of cuts bytes)).1 refl
let_alone cuts moment user (Some known.Dir) bytes = (bytes_eq-Decides (own_of cuts bytes) (own_of cuts bytes)).1 refl
let_alone cuts moment user (Some (known.File its was size mode mtime modifier)) bytes = by (bytes_eq (own_of cuts bytes) was) refl
  where
    kept : (b : Bool) → bytes_eq was (own_of cuts bytes) ≡ b → b ≡ true → (if b then bytes_eq its its else bytes_eq (own_of cuts bytes) its) ≡ true
    kept true is same = (bytes_eq-Decides its its).1 refl
    kept false is same = absurd (true≢false (sym same))

    changed : (b : Bool) → bytes_eq was (own_of cuts bytes) ≡ b → b ≡ false → (if b then bytes_eq its (own_of cuts bytes) else bytes_eq (own_of cuts bytes) (own_of cuts bytes)) ≡ true
    changed true is apart = absurd (true≢false apart)
    changed false is apart = (bytes_eq-Decides (own_of cuts bytes) (own_of cuts bytes)).1 refl

    by : (b : Bool) → bytes_eq (own_of cuts bytes) was ≡ b
        → is_alone cuts (Some (File bytes)) (Some (known.File its was size mode mtime modifier))
        (Some (if b then entry.File its mode mtime modifier size else changed_entry cuts moment user (Some (known.File its was size mode mtime modifier)) bytes)) true ≡ true
    by true same = kept (bytes_eq was (own_of cuts bytes)) refl ((bytes_eq-Decides was (own_of cuts bytes)).1 (sym (same_from_bytes_eq (own_of cuts bytes) was same)))
    by false apart = changed (bytes_eq was (own_of cuts bytes)) refl (other_way (own_of cuts bytes) was apart)

module _ (s : Sync) (more : List Sent) (settled : Settled) (is_settled : IsSettled s more settled) where
  -- memory was wanting
  pub none_here : Refuses s more fault.NoMemory
  none_here =
      fails_here s more is_settled.stage is_settled.late is_settled.going fault.NoMemory is_settled.few tt (λ c told. (tt, inl (tt, is_settled.going.unbegun)))

module _ (s : Sync) (more : List Sent) (settled : Settled) (is_settled : IsSettled s more settled) (own : settled.pushed ≡ Some settled.head)
    (folder : IsSeenFolder s.index.entries settled.scan.paths) (entries : KnownPaths) (known_is : KnowsOffered settled.moment s.user s.index.entries settled.scan.paths entries) where
  abbrev later : Index
  later = record { lib = s.index.lib; base = Some settled.head; entries = entries }

  pushed : IsPushed s more settled settled.head
  pushed = is_settled.pushed_as settled.head own

  -- the entries that were offered
  abbrev offered : PathV → Seen → Entry
  offered path = offered_entry settled.moment s.user (fin.get s.index.entries path)

  abbrev table : Entries
  table = (table_for offered settled.scan.paths).0

  table_is : AreOffered settled.moment s.user s.index.entries settled.scan.paths table
  table_is = (table_for offered settled.scan.paths).1

  seen_by : (path : PathV) → own_at settled.scan fin.empty path ≡ seen_own (fin.get settled.scan.paths path)
  seen_by path = ap (λ (o : Option (List ℕ)). own_or o (fin.get settled.scan.paths path)) (fin.get-empty path_cmp path)

  knows_as : KnowsAs settled.scan fin.empty table entries
  knows_as path =
      known_is path ∙ by (fin.get settled.scan.paths path)
      ∙ (λ i. option_map (known_of (sym (seen_by path) i)) (sym (table_is path) i))
    where
      by : (o : Option Seen) → option_map (offered_known settled.moment s.user (fin.get s.index.entries path)) o ≡ option_map (known_of (seen_own o)) (option_map (offered path) o)
      by None = refl
      by (Some x) = refl

  conflict_none : (commit : Commit) → IsConflict settled.pushed settled.head commit false
  conflict_none commit = subst (λ (o : Option (List ℕ)). IsConflict o settled.head commit false) (sym own) (inr (refl, inl refl))

  -- ---- over any folder

  knows_head : (objects : Objects) → Keeps pushed.offer.texts objects → KnowsHead objects later (spared_of settled)
  knows_head objects keeps =
      let held = pushed.offer in
      let commit = offered_commit (record { lib = s.lib; secret = s.secret }) held.root pushed.parent s.user settled.moment in
      let are : AreEntriesOf objects held.root table = λ path. table_is path ∙ sym (held.holds folder objects keeps path) in record {
        commit = commit;
        stored = ap (commit_in settled.head) (keeps.kept (commit_key settled.head) held.text held.commit)
            ∙ commit_read (record { lib = s.lib; secret = s.secret }) held.root pushed.parent s.user settled.moment settled.head held.text held.own;
        conflict = conflict_none commit;
        knows = knows_root objects held.root settled.scan fin.empty table are later knows_as;
        sizes = knows_sizes objects held.root settled.scan fin.empty table are later knows_as;
      }

  knows_pushed : KnowsPushed later more (spared_of settled)
  knows_pushed = record { pushed = own; ends = pushed.ends; texts = pushed.offer.texts; are = pushed.offer.are; knows = knows_head }

  -- ---- over a folder that tells what it holds

  module _ (c : Contents) (told : s.told ≡ Some c) where
    abbrev had : List (Key × List ℕ)
    had = (is_settled.offered c told).0

    saw : IsSeen s.cuts c settled.scan
    saw = is_settled.seen c told

    module _ (objects : Objects) (base : Tree) (over : Over objects s.cuts c s.index base had) where
      offer_of : IsOfferOf objects s.cuts c s.index settled.moment s.user (asked_head more None) settled.pushed
      offer_of = (is_settled.offered c told).2 objects base over

      offer : IsOffer objects s.cuts c s.index settled.moment s.user (option_or s.index.base (asked_head more None)) settled.head
      offer = (subst (λ (o : Option (List ℕ)). IsOfferOf objects s.cuts c s.index settled.moment s.user (asked_head more None) o) own offer_of).1

      abbrev root : List ℕ
      root = offer.commit.root

      are : AreEntriesOf objects root table
      are [] = table_is [] ∙ ap (option_map (offered [])) folder.no_root
      are (name ∷ path) =
          table_is (name ∷ path) ∙ ap (option_map (offered (name ∷ path))) (saw.scanned.paths (name ∷ path))
          ∙ same_holding s.cuts settled.moment s.user (fin.get s.index.entries (name ∷ path)) (at c (name ∷ path)) ∙ sym (offer.entries (name ∷ path) (λ e. cc))

      abbrev tree : Tree
      tree = (tree_for objects table).0

      stands_for : StandsFor objects table tree
      stands_for = (tree_for objects table).1

      shows : (path : PathV) → AreAlike (at c path) (fin.get tree path)
      shows [] =
          subst (λ (o : Option Holding). AreAlike o (fin.get tree [])) (sym saw.formed.no_root)
          (subst (λ (n : Option Node). AreAlike None n) (sym (is_tree_of objects root table tree are stands_for [])) tt)
      shows (name ∷ path) =
          subst (λ (n : Option Node). AreAlike (at c (name ∷ path)) n)
          (sym (is_tree_of objects root table tree are stands_for (name ∷ path) ∙ offer.tree (name ∷ path) (λ e. cc)))
          (alike_by s.cuts settled.moment s.user (fin.get s.index.entries (name ∷ path)) (at c (name ∷ path)))

      -- the own id that was seen is that of the bytes
      own_right : (path : PathV) → IsOwnAt objects settled.scan fin.empty table tree stands_for later knows_as s.cuts path (own_at settled.scan fin.empty path)
      own_right path id mode mtime modifier size is =
          seen_by path ∙ ap seen_own (saw.scanned.paths path) ∙ same (at c path) (subst (λ (n : Option Node). AreAlike (at c path) n) there (shows path))
        where
          there : fin.get tree path ≡ Some (node_of objects (entry.File id mode mtime modifier size))
          there = stands_for path ∙ ap (option_map (node_of objects)) is

          same : (h : Option Holding) → AreAlike h (Some (node_of objects (entry.File id mode mtime modifier size))) → seen_own (option_and_then (seen_of s.cuts) h) ≡ own_of s.cuts (contents_of objects id)
          same None alike = absurd alike
          same (Some Other) alike = absurd alike
          same (Some Dir) alike = absurd alike
          same (Some (File bytes)) alike = ap (own_of s.cuts) alike

      abbrev left_there : PathV → Bool
      left_there path = is_alone s.cuts (at c path) (fin.get s.index.entries path) (entry_below objects path root) (is_some settled.pushed)

      left_alone : (path : PathV) (bytes : List ℕ) (file : FileVersion) → at c path ≡ Some (File bytes) → fin.get tree path ≡ Some (node.File file) → left_there path ≡ true
      left_alone [] bytes file here is = absurd (true≢false (sym (ap is_some (sym saw.formed.no_root ∙ here))))
      left_alone (name ∷ path) bytes file here is =
          let was = fin.get s.index.entries (name ∷ path) in
          (λ i. is_alone s.cuts (here i) was ((offer.entries (name ∷ path) (λ e. cc) ∙ ap (option_and_then (entry_of_holding s.cuts settled.moment s.user was)) here) i) (ap is_some own i))
          ∙ let_alone s.cuts settled.moment s.user was bytes

      synced : IsSynced objects s.cuts c c s.index later tree settled.moment s.user more (spared_of settled)
      synced = record {
        named = is_settled.named;
        pushed = offer_of;
        commit = offer.commit;
        stored = offer.stored;
        is_tree = is_tree_of objects root table tree are stands_for;
        left = alike_left c tree shows;
        stands = stands_by objects settled.scan fin.empty table tree stands_for later knows_as s.cuts own_right;
        names = index_names objects settled.scan fin.empty table tree stands_for later knows_as;
        knows = knows_root objects root settled.scan fin.empty table are later knows_as;
        sizes = inr (knows_sizes objects root settled.scan fin.empty table are later knows_as);
        base = refl;
        lib = refl;
        conflict = conflict_none offer.commit;
        steps = [];
        is_plan = alike_plan c tree shows left_there left_alone;
        done = refl;
        spared = λ none based. absurd (true≢false (sym (ap is_some (sym none ∙ own))));
        unfetched = λ same. pushed.ends;
        asked = subst (λ (sends : List Sent). AsksWritten objects root [] sends) (append-nil more)
            (asked_then_written objects root [] more [] is_settled.going.unbegun (All-nil (IsOfWritten objects root [])));
        whole = inr (inr own);
        sized = λ path bytes there. absurd (none_contained (Step.Wrote path bytes) there);
        removed = refl;
        written = refl;
        skipped = saw.scanned.skipped;
        held = alike_held c tree shows;
      }

  pub own_finishes : Finishes s s.told later more (Ok (spared_of settled))
  own_finishes = record {
    orders = is_settled.going.orders;
    ends = (is_settled.going.went, subst (λ (n : ℕ). n ≤ 2) (sym is_settled.going.lates) is_settled.few, is_settled.named);
    leaves = (refl, refl, inr (inr knows_pushed));
    skipped = same_skipped s.told;
    keeps = same_unpushed (record { lib = s.lib; secret = s.secret }) s.user s.shows s.cuts s.told s.index more;
    sends = λ c told. (is_settled.going.over c told).sends;
    over = λ c told.
        let over : GoingOver s c more = is_settled.going.over c told in (
          c,
          told,
          over.uploads,
          over.order,
          (λ head named. absurd (true≢false (ap is_some (sym own ∙ ap pushed_in (sym is_settled.named ∙ named))))),
          had c told,
          (is_settled.offered c told).1,
          λ objects base all. (tree c told objects base all, settled.moment, is_settled.shown, synced c told objects base all),
        );
  }

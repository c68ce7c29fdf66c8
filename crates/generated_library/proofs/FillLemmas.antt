-- What the steps of a filling leave, one after another. The key lemmas are file_put, pushes_by, push_sees and filled_by.
use Rattle.std.proofs.Common.{◌≡◌, ◌≢◌, ◌≤◌, ◌⊎◌, inl, inr, ◌+◌, ℕ, Bool, true, false, cond, List, [], ◌∷◌, ◌++◌, refl, sym, ap, ap₂, ◌∙◌, subst, arith, Option, None, Some, is_some, option_map, Ok, true≢false}
use Rattle.std.specs.Prelude.{codes, length, min, pos}
use Rattle.std.specs.FinMap as map
use Rattle.sha1.specs.Sha1.{sha1}
use Rattle.commit_objects.specs.Made.{made}
use Rattle.commit_objects.specs.declared.commit.Commit.{Commit}
use Rattle.fs_objects.specs.FsObject.{fs_of}
use Rattle.fs_objects.specs.declared.fs_object.FsObject.TheVariants as fs
use Rattle.ids.specs.Key.{Objects}
use Rattle.ids.specs.ObjectId.{nil}
use Rattle.ids.specs.declared.key.Key.{Key}
use Rattle.ids.proofs.KeyOrderLemmas.{key_cmp_total}
use Rattle.object_graph.specs.Objects.{AreEntriesOf, IsTreeOf, block_key, commit_at, commit_in, commit_key, fs_key, node_of}
use Rattle.object_graph.specs.Traversal.{IsComplete, is_in, needs}
use Rattle.object_graph.specs.Unchanged.{AgreeOn, Keeps}
use Rattle.object_graph.proofs.KeyLemmas.{same_key, same_key-true}
use Rattle.library_rules.specs.LibraryState.{IsSound, State, head_of, is_kept, is_stored}
use Rattle.library_rules.specs.MergeCommit.{IsTreeAt, RootTree}
use Rattle.library_rules.proofs.FileLemmas.{same_tree}
use Rattle.library_rules.proofs.HeadTreeLemmas.{head_kept}
use Rattle.library_rules.proofs.HistoryLemmas.{same_commit}
use Rattle.library_rules.proofs.KeepingLemmas.{agrees_grown, keeps_itself, keeps_then, still_complete}
use Rattle.library_state.specs.declared.history.Install.{Install}
use Rattle.tree_merge.proofs.TableLemmas.{get-put}
use Rattle.tree_merge.specs.Sides.{Entries}
use Rattle.tree_model.proofs.ListedLemmas.{same_path}
use Rattle.tree_model.proofs.OneSideLemmas.{same_len}
use Rattle.tree_model.specs.Path.{PathV, path_cmp}
use Rattle.tree_model.specs.Tree.{Tree}
use Rattle.tree_model.specs.declared.node.Node.{Node}
use Rattle.tree_model.specs.declared.node.Node.TheVariants as node
use Rattle.object_graph.specs.declared.entry.Entry.{Entry}
use Rattle.object_graph.specs.declared.entry.Entry.TheVariants as entry
use Rattle.generated_library.specs.Filled.{AreStored, Checks, Collects, HasCommit, HasTree, IsFilled, IsNew, IsOfFile, IsOfFiles, IsOfPushes, IsOver, IsPush, Limits, Pushes, PutsBoth, PutsFile, Stores, Updates, entries_of, entry_by, file_entry, file_id, file_object, file_text, put_entry, update_of, with_entries, with_entry}
use Rattle.generated_library.specs.Directories.{IsOfRoot}
use Rattle.generated_library.specs.Generated.{bytes_made, changed_from, dir_name, file_name, files_from, tree_of, with_file, with_files}
use Rattle.generated_library.specs.Leading.{Adds, Grows}
use Rattle.generated_library.specs.declared.filling.Filled.{Filled}
use Rattle.generated_library.proofs.DirectoriesLemmas.{entries_stay, times_stay}
use Rattle.generated_library.proofs.NeededLemmas.{commit_needed, directory_needed, file_needed}
use Rattle.generated_library.proofs.PathLemmas.{IsListedFile, file_listed}
use Rattle.generated_library.proofs.TreeLemmas.{seen_files, stored_keeps}

-- ---- libraries that grow

pub grows_none : (s : State) → Grows s s
grows_none s = record { keeps = keeps_itself s.objects; kept = refl; idle = λ idle. idle }

pub grows_then : (s m t : State) → Grows s m → Grows m t → Grows s t
grows_then s m t first second = record { keeps = keeps_then first.keeps second.keeps; kept = second.kept ∙ first.kept; idle = λ idle. second.idle (first.idle idle) }

-- ---- what came

pub adds_none : (P : Key → Type 0) (s : State) → Adds P s s
adds_none P s = record { each = λ key there. inl there }

pub adds_same : (P : Key → Type 0) (s t : State) → t.objects ≡ s.objects → Adds P s t
adds_same P s t same = record { each = λ key there. inl (subst (λ (A : Objects). is_stored A key ≡ true) same there) }

pub adds_then : (P Q R : Key → Type 0) (s m t : State) → ((key : Key) → P key → R key) → ((key : Key) → Q key → R key) → Adds P s m → Adds Q m t → Adds R s t
adds_then P Q R s m t early late first second = record { each = λ key there. by key (second.each key there) }
  where
    before : (key : Key) → (is_stored s.objects key ≡ true) ⊎ P key → (is_stored s.objects key ≡ true) ⊎ R key
    before key (inl old) = inl old
    before key (inr own) = inr (early key own)

    by : (key : Key) → (is_stored m.objects key ≡ true) ⊎ Q key → (is_stored s.objects key ≡ true) ⊎ R key
    by key (inl old) = before key (first.each key old)
    by key (inr own) = inr (late key own)

-- ---- a file

pub file_put : (s t : State) (bytes : List ℕ) → (sha1 bytes ≢ nil → fs_of (file_text bytes) ≡ Ok (fs.File (file_object bytes))) → PutsBoth bytes (file_text bytes) s t → PutsFile true bytes s t
file_put s t bytes reads both = (
  grows_then s both.mid t both.block.0 both.file.0,
  λ is. record {
    block = both.file.0.keeps.kept (block_key (sha1 bytes)) bytes both.block.1;
    file = both.file.1;
    reads = reads both.block.2;
    some = (both.block.2, both.file.2);
  },
  adds_then (λ (k : Key). k ≡ block_key (sha1 bytes)) (λ (k : Key). k ≡ fs_key (file_id bytes)) (IsOfFile bytes) s both.mid t (λ key own. inl own) (λ key own. inr own) both.block.3 both.file.3,
)

-- ---- the entry of a file

-- with its directory and its own, the table has one file more
pub entry_put : (moment number size : ℕ) (id bytes given : List ℕ) (entries now : Entries) → id ≡ file_id bytes → size ≡ length bytes → bytes ≡ given
    → now ≡ put_entry number (entry_by moment id size) entries → now ≡ with_entry moment number given entries
entry_put moment number size id bytes given entries now named sized is put =
    put ∙ (ap₂ (λ (i : List ℕ) (n : ℕ). put_entry number (entry_by moment i n) entries) named sized ∙ ap (λ (b : List ℕ). with_entry moment number b entries) is)

-- ---- the paths

-- both have something at the same paths
abbrev SameAt : Entries → Tree → Type 0
SameAt entries tree = (path : PathV) → is_some (map.get tree path) ≡ is_some (map.get entries path)

same_put : (entries : Entries) (tree : Tree) (p : PathV) (e : Entry) (n : Node) → SameAt entries tree → SameAt (map.insert entries p e) (map.insert tree p n)
same_put entries tree p e n same path = ap is_some (get-put tree p n path) ∙ (by (same_path path p) ∙ ap is_some (sym (get-put entries p e path)))
  where
    by : (b : Bool) → is_some (cond b (Some n) (map.get tree path)) ≡ is_some (cond b (Some e) (map.get entries path))
    by true = refl
    by false = same path

same_more : (moment number : ℕ) (files : List (List ℕ)) (entries : Entries) (tree : Tree) → SameAt entries tree → SameAt (with_entries moment number files entries) (with_files moment number files tree)
same_more moment number [] entries tree same = same
same_more moment number (bytes ∷ files) entries tree same =
    same_more moment (number + 1) files (with_entry moment number bytes entries) (with_file moment number bytes tree)
    (same_put (map.insert entries (dir_name number ∷ []) entry.Dir) (map.insert tree (dir_name number ∷ []) node.Dir) (dir_name number ∷ file_name number ∷ []) (file_entry moment bytes)
    (node.File (record { mode = 33188; mtime = pos (min moment 9223372036854775807); modifier = codes "make"; bytes = bytes }))
    (same_put entries tree (dir_name number ∷ []) entry.Dir node.Dir same))

-- the tree has as many paths as there are entries
pub tree_len : (moment : ℕ) (files : List (List ℕ)) → map.len (tree_of moment files) ≡ map.len (entries_of moment files)
tree_len moment files = same_len (tree_of moment files) (entries_of moment files) (same_more moment 0 files map.empty map.empty
    (λ path. ap is_some (map.get-empty {X = Node} path_cmp path) ∙ ap is_some (sym (map.get-empty {X = Entry} path_cmp path))))

-- ---- the objects of directories, put one after another

-- where the others of a table stay, and the one that was taken out is there, all of it stays
pub keeps_one_more : (made left : Objects) (key : Key) (bytes : List ℕ) (objects : Objects) → map.get made key ≡ Some bytes → left ≡ map.remove made key → map.get objects key ≡ Some bytes
    → Keeps left objects → Keeps made objects
keeps_one_more made left key bytes objects was is there keeps = record { kept = λ k held at. by k held at (same_key k key) refl }
  where
    by : (k : Key) (held : List ℕ) → map.get made k ≡ Some held → (b : Bool) → same_key k key ≡ b → map.get objects k ≡ Some held
    by k held at true same =
        let one : k ≡ key = same_key-true k key same in
        ap (map.get objects) one ∙ (there ∙ (sym was ∙ (ap (map.get made) (sym one) ∙ at)))
    by k held at false other =
        keeps.kept k held (ap (λ (m : Objects). map.get m k) is ∙ (map.get-remove key_cmp_total made key k ∙ (ap (λ (b : Bool). cond b None (map.get made k)) other ∙ at)))

-- what is left of them was there
pub removed_within : (left less : Objects) (key : Key) → less ≡ map.remove left key → (k : Key) → is_stored less k ≡ true → is_stored left k ≡ true
removed_within left less key is k there = by (same_key k key) (sym (ap (λ (m : Objects). is_some (map.get m k)) is ∙ ap is_some (map.get-remove key_cmp_total left key k)) ∙ there)
  where
    by : (b : Bool) → is_some (cond b None (map.get left k)) ≡ true → is_stored left k ≡ true
    by true none = absurd (true≢false (sym none))
    by false some = some

-- ---- a push

-- a commit that is stored is read where its bytes stay
commit_stays : (id : List ℕ) (commit : Commit) (A B : Objects) → Keeps A B → commit_at A id ≡ Ok commit → commit_at B id ≡ Ok commit
commit_stays id commit A B keeps read = by (map.get A (commit_key id)) refl
  where
    by : (o : Option (List ℕ)) → map.get A (commit_key id) ≡ o → commit_at B id ≡ Ok commit
    by None none = let clash : commit_in id None ≡ Ok commit = ap (commit_in id) (sym none) ∙ read in cc
    by (Some bytes) there = ap (commit_in id) (keeps.kept (commit_key id) bytes there) ∙ (ap (commit_in id) (sym there) ∙ read)

-- what was put of a push, and the update
pub pushes_by : (is_second : Bool) (parent id : List ℕ) (moment : ℕ) (files : List (List ℕ)) (lib root : List ℕ) (s a b c t : State) → length files ≤ 10000 → head_of s.state.kept ≡ parent
    → Stores files s a → HasTree moment (entries_of moment files) root a b → HasCommit id (made lib root (Some parent) None (codes "make") (codes "make") moment false) b c → Updates id moment c t
    → Pushes id parent moment files s t
pushes_by is_second parent id moment files lib root s a b c t few at (grew, stored, files_came) (grew_dirs, tree, dirs_came) (grew_commit, named, read, some, commit_came) updates = record {
  keeps = keeps_then (keeps_then grew.keeps grew_dirs.keeps) (keeps_then grew_commit.keeps still);
  idle = λ idle. updates.idle (grew_commit.idle (grew_dirs.idle (grew.idle idle)));
  head = updates.head;
  kept = λ other. updates.kept (λ is. other (sym same ∙ is)) ∙ ap (λ (l : List Install). l ++ update_of id moment ∷ []) still_kept;
  push = λ objects keeps. record {
    commit = made lib root (Some parent) None (codes "make") (codes "make") moment false;
    at = commit_stays id (made lib root (Some parent) None (codes "make") (codes "make") moment false) c.objects objects (keeps_then still keeps) read;
    is = refl;
    entries = (tree objects (keeps_then (keeps_then grew_commit.keeps still) keeps)).0;
    tree = tree_there objects keeps;
    times = (tree objects (keeps_then (keeps_then grew_commit.keeps still) keeps)).1;
  };
  stored = stored_keeps a.objects t.objects files (keeps_then grew_dirs.keeps (keeps_then grew_commit.keeps still)) stored;
  new = λ objects keeps complete. needed objects keeps complete;
}
  where
    still_kept : c.state.kept ≡ s.state.kept
    still_kept = grew_commit.kept ∙ (grew_dirs.kept ∙ grew.kept)

    same : head_of c.state.kept ≡ parent
    same = ap head_of still_kept ∙ at

    still : Keeps c.objects t.objects
    still = subst (Keeps c.objects) (sym updates.objects) (keeps_itself c.objects)

    tree_there : (objects : Objects) → Keeps t.objects objects → IsTreeOf objects root (tree_of moment files)
    tree_there objects keeps path =
        let from : Keeps b.objects objects = keeps_then (keeps_then grew_commit.keeps still) keeps in
        let here : AreStored objects files = stored_keeps a.objects objects files (keeps_then grew_dirs.keeps from) stored in
        seen_files objects moment files here path ∙ ap (option_map (node_of objects)) ((tree objects from).0 path)

    few_enough : 0 + length files ≤ 100000
    few_enough = omega (arith, few)

    by_file : (objects : Objects) (commit : Commit) (key : Key) → IsComplete objects id → commit_at objects id ≡ Ok commit → AreEntriesOf objects commit.root (entries_of moment files)
        → IsListedFile objects moment (entries_of moment files) key → is_in (needs objects id) key ≡ true
    by_file objects commit key complete there are file =
        file_needed objects id commit complete there file.path moment file.bytes file.stored (sym (are file.path) ∙ file.at) key file.own

    needed : (objects : Objects) → Keeps t.objects objects → IsComplete objects id → Adds (λ (k : Key). is_in (needs objects id) k ≡ true) s t
    needed objects keeps complete =
        let from : Keeps b.objects objects = keeps_then (keeps_then grew_commit.keeps still) keeps in
        let here : AreStored objects files = stored_keeps a.objects objects files (keeps_then grew_dirs.keeps from) stored in
        let commit : Commit = made lib root (Some parent) None (codes "make") (codes "make") moment false in
        let there : commit_at objects id ≡ Ok commit = commit_stays id commit c.objects objects (keeps_then still keeps) read in
        adds_then (λ (k : Key). is_in (needs objects id) k ≡ true) (λ (k : Key). is_in (needs objects id) k ≡ true) (λ (k : Key). is_in (needs objects id) k ≡ true) s c t (λ key own. own) (λ key own. own)
        (adds_then (λ (k : Key). is_in (needs objects id) k ≡ true) (λ (k : Key). k ≡ commit_key id) (λ (k : Key). is_in (needs objects id) k ≡ true) s b c (λ key own. own)
        (commit_needed objects id commit complete there)
        (adds_then (IsOfFiles files) (IsOfRoot b.objects root) (λ (k : Key). is_in (needs objects id) k ≡ true) s a b
        (λ key own. by_file objects commit key complete there (tree objects from).0 (file_listed objects moment 0 files map.empty few_enough here key own))
        (λ key own. directory_needed objects id commit complete there key own.is_fs own.some (own.reached objects from)) files_came dirs_came) commit_came)
        (adds_same (λ (k : Key). is_in (needs objects id) k ≡ true) c t updates.objects)

-- what comes before an update: the commit that was put is over the head
pub over_by : (parent id : List ℕ) (moment : ℕ) (lib root : List ℕ) (files : List (List ℕ)) (s a b c : State) → head_of s.state.kept ≡ parent → Stores files s a
    → HasTree moment (entries_of moment files) root a b → HasCommit id (made lib root (Some parent) None (codes "make") (codes "make") moment false) b c → IsOver id c
over_by parent id moment lib root files s a b c at (grew, stored, files_came) (grew_dirs, tree, dirs_came) (grew_commit, named, read, some, commit_came) =
    let same : head_of c.state.kept ≡ parent = ap head_of (grew_commit.kept ∙ (grew_dirs.kept ∙ grew.kept)) ∙ at in
    (made lib root (Some parent) None (codes "make") (codes "make") moment false, read, ap Some (sym same))

-- ---- all of it

-- the files were pushed twice, history was given up, and what is left was collected
pub filled_by : (was_head : List ℕ → Type 0) (shows : ℕ → Type 0) (count number moment : ℕ) (first mid head : List ℕ) (filled : Filled) (s a b c d t : State) → shows moment → IsSound d → IsComplete b.objects mid → IsNew first s → Checks s a
    → Pushes mid first moment (files_from count number) a b → was_head mid → Pushes head mid moment (changed_from 0 (files_from count number)) b c → Limits c d → Collects filled.removed d t
    → filled.paths ≡ map.len (tree_of moment (changed_from 0 (files_from count number))) → filled.bytes ≡ bytes_made count number
    → IsFilled was_head shows count number first filled s t
filled_by was_head shows count number moment first mid head filled s a b c d t shown sound complete fresh (grew, idle) one pushed two (grew_on, days, same) collects paths bytes =
    let at : head_of d.state.kept ≡ head = ap head_of grew_on.kept ∙ two.head in
    let here : head_of t.state.kept ≡ head = collects.head ∙ at in
    let kept : is_kept d.state.kept (head_of d.state.kept) ≡ true = head_kept d.state.kept sound.kept.some_kept in
    let whole : IsComplete d.objects (head_of d.state.kept) = sound.kept.complete (head_of d.state.kept) kept in
    let mid_whole : IsComplete d.objects mid =
    still_complete b.objects d.objects mid (agrees_grown b.objects d.objects mid complete (keeps_then two.keeps grew_on.keeps)) complete in
    let came : Adds (λ (k : Key). (is_in (needs d.objects mid) k ≡ true) ⊎ (is_in (needs d.objects head) k ≡ true)) s d =
    all_came mid_whole (subst (λ (id : List ℕ). IsComplete d.objects id) at whole) in
    let before : IsPush d.objects (head_of d.state.kept) mid moment (changed_from 0 (files_from count number)) =
    subst (λ id. IsPush d.objects id mid moment (changed_from 0 (files_from count number))) (sym at) (two.push d.objects grew_on.keeps) in
    record {
      moment = moment;
      shown = shown;
      before = d.objects;
      since = keeps_then grew.keeps (keeps_then one.keeps (keeps_then two.keeps grew_on.keeps));
      mid = mid;
      one = one.push d.objects (keeps_then two.keeps grew_on.keeps);
      pushed = pushed;
      two = subst (λ id. IsPush d.objects id mid moment (changed_from 0 (files_from count number))) (sym collects.head) before;
      complete = (mid_whole, subst (λ (id : List ℕ). IsComplete d.objects id) (sym collects.head) whole);
      new = λ key there. subst (λ (id : List ℕ). IsOfPushes s.objects d.objects mid id key) (sym here) (came.each key there);
      head = subst (λ id. IsPush t.objects id mid moment (changed_from 0 (files_from count number))) (sym collects.head)
          (push_stays d.objects t.objects (head_of d.state.kept) mid moment (changed_from 0 (files_from count number)) whole collects.agree before);
      left = collects.left;
      alone = collects.alone;
      update = λ other. collects.last b.state.kept (update_of head moment) (grew_on.kept ∙ two.kept (λ is. other (is ∙ sym here)))
          ∙ ap (λ (id : List ℕ). update_of id moment ∷ []) (sym here);
      clean = collects.clean;
      days = collects.days ∙ days;
      paths = paths;
      bytes = bytes;
      gone = collects.gone;
      size = collects.size;
      removed = collects.count;
    }
  where
    IsOfOne : Key → Type 0
    IsOfOne k = (is_in (needs d.objects mid) k ≡ true) ⊎ (is_in (needs d.objects head) k ≡ true)

    -- from one library to the next
    all_came : IsComplete d.objects mid → IsComplete d.objects head → Adds IsOfOne s d
    all_came first_whole whole =
        adds_then IsOfOne IsOfOne IsOfOne s c d (λ key own. own) (λ key own. own)
        (adds_then IsOfOne IsOfOne IsOfOne s a c (λ key own. own) (λ key own. own) (adds_same IsOfOne s a idle)
        (adds_then (λ (k : Key). is_in (needs d.objects mid) k ≡ true) (λ (k : Key). is_in (needs d.objects head) k ≡ true) IsOfOne a b c (λ key own. inl own) (λ key own. inr own)
        (one.new d.objects (keeps_then two.keeps grew_on.keeps) first_whole) (two.new d.objects grew_on.keeps whole))) (adds_same IsOfOne c d same)

    push_stays : (A B : Objects) (id parent : List ℕ) (moment : ℕ) (files : List (List ℕ)) → IsComplete A id → AgreeOn (needs A id) A B → IsPush A id parent moment files → IsPush B id parent moment files
    push_stays A B id parent moment files complete agree push =
        let read : commit_at B id ≡ Ok push.commit = same_commit A B id agree ∙ push.at in
        let tree : IsTreeAt A id (tree_of moment files) = subst (λ r. RootTree A r (tree_of moment files)) (sym push.at) push.tree in
        record {
          commit = push.commit;
          at = read;
          is = push.is;
          entries = entries_stay A B id push.commit (entries_of moment files) complete push.at agree push.entries;
          tree = subst (λ r. RootTree B r (tree_of moment files)) read (same_tree A B id complete agree (tree_of moment files) tree);
          times = times_stay A B id push.commit moment complete push.at agree push.times;
        }

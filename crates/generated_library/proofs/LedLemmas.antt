-- What the calls of a filling lead a library to, step by step. The key lemmas are put_led, update_led, files_led, dirs_led, push_led and fill_led.
use Rattle.std.proofs.Common.{◌≡◌, ◌≢◌, ◌≤◌, inl, inr, ◌+◌, ℕ, suc, Bool, true, false, List, [], ◌∷◌, length, refl, sym, ap, ◌∙◌, subst, Option, None, Some, is_some, Ok, true≢false}
use Rattle.std.specs.Prelude.{IfSome, codes, pos}
use Rattle.std.specs.FinMap as map
use Rattle.std.proofs.lemmas.List.Elements.{All-cons, All-nil, All-tail}
use Rattle.sha1.specs.Sha1.{sha1}
use Rattle.commit_objects.specs.Commit.{commit_of}
use Rattle.commit_objects.specs.Made.{made}
use Rattle.commit_objects.specs.Proper.{IsProper}
use Rattle.commit_objects.specs.declared.commit.Commit.{Commit}
use Rattle.fs_objects.specs.FsObject.{fs_of}
use Rattle.fs_objects.specs.declared.fs_object.FsObject.TheVariants as fs
use Rattle.ids.specs.Key.{Objects}
use Rattle.ids.specs.ObjectId.{nil}
use Rattle.ids.specs.declared.key.Key.{Key}
use Rattle.library_rules.specs.Changes.{is_refused}
use Rattle.library_rules.specs.LibraryState.{IsSound, State, head_of, is_stored}
use Rattle.library_rules.proofs.HeadTreeLemmas.{head_kept}
use Rattle.library_rules.proofs.KeepingLemmas.{keeps_itself, keeps_then}
use Rattle.library_rules.proofs.ProperTextLemmas.{complete_not_zeros}
use Rattle.library_state.specs.declared.call.Act.TheVariants as act
use Rattle.library_state.specs.declared.call.Op.TheVariants as op
use Rattle.library_state.specs.declared.reply.Reply.{Reply}
use Rattle.library_state.specs.declared.reply.Reply.TheVariants as reply
use Rattle.object_graph.specs.Objects.{block_key, commit_key, fs_key}
use Rattle.object_graph.specs.Traversal.{IsComplete}
use Rattle.object_graph.specs.Unchanged.{Keeps}
use Rattle.object_store.specs.Shelf.{Contents}
use Rattle.object_store.specs.declared.shelf.Slot.{Slot}
use Rattle.sync_calls.specs.Shown.{Shown}
use Rattle.tree_merge.specs.Sides.{Entries}
use Rattle.generated_library.specs.Directories.{AreOfRoot, IsOfRoot, IsRootOf}
use Rattle.generated_library.specs.Filled.{AreStored, AreThere, Checks, Collects, HasCommit, HasFiles, HasTree, IsBeside, IsFileStored, IsFilled, IsNew, IsOfFile, IsOfFiles, IsOver, IsResting, Limits, Pushes, Puts, PutsAll, PutsBoth, PutsFile, Stores, Updates, entries_of, file_object, file_text, is_put, pushed_bytes, pushed_files}
use Rattle.generated_library.specs.Generated.{after_file, bytes_made, changed_from, file_bytes, files_from, tree_of}
use Rattle.generated_library.specs.Leading.{Adds, Any, Grows, IsAnswered, Leads, WasHead, call_of}
use Rattle.generated_library.specs.declared.filling.Filled.{Filled}
use Rattle.generated_library.proofs.FillLemmas.{adds_none, adds_then, file_put, filled_by, grows_none, grows_then, keeps_one_more, over_by, pushes_by, removed_within}
use Rattle.generated_library.proofs.OwnLemmas.{leads_more, leads_none, leads_seen, leads_then}
use Rattle.generated_library.proofs.PushingLemmas.{file_there, pushed_cons}
use Rattle.generated_library.proofs.RuleLemmas.{check_leaves, commit_put, limit_leaves, put_leaves, update_leaves}
use Rattle.generated_library.proofs.TreeLemmas.{file_keeps}

-- the head is no commit of forty zeros
parent_some : (s : State) (parent : List ℕ) → IsSound s → head_of s.state.kept ≡ parent → parent ≢ nil
parent_some s parent sound is =
    subst (λ id. id ≢ nil) is
    (complete_not_zeros s.objects (head_of s.state.kept) (sound.kept.complete (head_of s.state.kept) (head_kept s.state.kept sound.kept.some_kept)))

-- files that are behind the first
there_behind : (is_second : Bool) (objects : Objects) (bytes : List ℕ) (rest : List (List ℕ)) → AreThere is_second objects (bytes ∷ rest) → AreThere is_second objects rest
there_behind false objects bytes rest there = tt
there_behind true objects bytes rest there = All-tail (IsFileStored objects) bytes rest there

none_stored : (is_second : Bool) (number : ℕ) (objects : Objects) → AreStored objects (pushed_files is_second number [])
none_stored false number objects = All-nil (IsFileStored objects)
none_stored true number objects = All-nil (IsFileStored objects)

-- a commit that is read back as it was written
pub commit_proper : (commit : Commit) (parent : List ℕ) → commit.parent ≡ Some parent → commit.second_parent ≡ None → commit.id ≢ nil → parent ≢ nil → IsProper commit
commit_proper commit parent over alone own some = record {
  id = own;
  parent = subst (λ o. IfSome o (λ id. id ≢ nil)) (sym over) some;
  second_parent = subst (λ o. IfSome o (λ id. id ≢ nil)) (sym alone) tt;
}

-- how a library stands to the one of before as so many files of a push are left
abbrev pub PutSoFar : Bool → List (List ℕ) → (number left x : ℕ) → State → State → Type 0
PutSoFar is_second all number left x s t =
    Grows s t × HasFiles is_second (files_from left x) s
    × ((objects : Objects) → Keeps t.objects objects → AreStored objects (pushed_files is_second number (files_from left x)) → AreStored objects all)
    × ((key : Key) → IsOfFiles (pushed_files is_second number (files_from left x)) key → IsOfFiles all key) × Adds (IsOfFiles all) s t

-- and as these directories are left
abbrev pub MadeSoFar : (made left : Objects) → State → State → Type 0
MadeSoFar made left s t =
    Grows s t × ((objects : Objects) → Keeps t.objects objects → Keeps left objects → Keeps made objects)
    × ((key : Key) → is_stored left key ≡ true → is_stored made key ≡ true) × Adds (λ (k : Key). is_stored made k ≡ true) s t

module _ {S : Type 0} (contents : S → Option Contents) (may_give : S → Slot → Option (List ℕ) → Type 0) (texts faults : S → ℕ) (us vs : List (Shown S)) where
  -- ---- one call

  pub put_led : (secret : Option (List ℕ)) (moment : ℕ) (r : Reply) (key : Key) (bytes : List ℕ) → is_refused r ≡ false
      → Leads contents faults us vs Any (IsAnswered (call_of secret (act.Put key bytes)) moment r) → Leads contents faults us vs Any (Puts key bytes)
  put_led secret moment r key bytes goes leads =
      leads_more contents may_give texts faults us vs Any Any (IsAnswered (call_of secret (act.Put key bytes)) moment r) (Puts key bytes) leads (λ s any. tt)
      (λ s t sound any answered. put_leaves secret moment s t r goes key bytes answered)

  pub check_led : (secret : Option (List ℕ)) (moment : ℕ) (r : Reply) → is_refused r ≡ false
      → Leads contents faults us vs Any (IsAnswered (call_of secret (act.Check op.Upload)) moment r) → Leads contents faults us vs Any Checks
  check_led secret moment r goes leads =
      leads_more contents may_give texts faults us vs Any Any (IsAnswered (call_of secret (act.Check op.Upload)) moment r) Checks leads (λ s any. tt)
      (λ s t sound any answered. check_leaves secret moment s t r goes answered)

  pub limit_led : (secret : Option (List ℕ)) (moment : ℕ) (r : Reply) → is_refused r ≡ false
      → Leads contents faults us vs Any (IsAnswered (call_of secret (act.Limit (pos 0))) moment r) → Leads contents faults us vs Any Limits
  limit_led secret moment r goes leads =
      leads_more contents may_give texts faults us vs Any Any (IsAnswered (call_of secret (act.Limit (pos 0))) moment r) Limits leads (λ s any. tt)
      (λ s t sound any answered. limit_leaves secret moment s t r goes (pos 0) answered)

  pub update_led : (secret : Option (List ℕ)) (moment : ℕ) (r : Reply) (id : List ℕ) → r ≡ reply.Updated id
      → Leads contents faults us vs Any (IsAnswered (call_of secret (act.Update id)) moment r) → Leads contents faults us vs (IsOver id) (Updates id moment)
  update_led secret moment r id is leads =
      leads_more contents may_give texts faults us vs Any (IsOver id) (IsAnswered (call_of secret (act.Update id)) moment r) (Updates id moment) leads (λ s over. tt)
      (λ s t sound over answered.
      let left = update_leaves secret moment s t id over.0 (subst (λ x. IsAnswered (call_of secret (act.Update id)) moment x s t) is answered) sound.kept.some_kept over.1 over.2 in
      record { objects = left.0; head = left.1; kept = left.2; idle = left.4 })

  -- ---- files

  pub files_none : (is_second : Bool) (first : List (List ℕ)) (left x : ℕ) → files_from left x ≡ first → vs ≡ us
      → Leads contents faults us vs (HasFiles is_second first) (PutSoFar is_second (pushed_files is_second 0 first) 0 left x)
  files_none is_second first left x is same =
      leads_none contents may_give texts faults us vs (HasFiles is_second first) (PutSoFar is_second (pushed_files is_second 0 first) 0 left x) same
      (λ s there. (
        grows_none s,
        subst (λ (files : List (List ℕ)). HasFiles is_second files s) (sym is) there,
        λ objects keeps stored. subst (λ (files : List (List ℕ)). AreStored objects (pushed_files is_second 0 files)) is stored,
        λ key own. subst (λ (files : List (List ℕ)). IsOfFiles (pushed_files is_second 0 files) key) is own,
        adds_none (IsOfFiles (pushed_files is_second 0 first)) s,
      ))

  -- all of them
  pub files_all : (is_second : Bool) (first all : List (List ℕ)) (number x : ℕ) → Leads contents faults us vs (HasFiles is_second first) (PutSoFar is_second all number 0 x)
      → Leads contents faults us vs (HasFiles is_second first) (Stores all)
  files_all is_second first all number x leads =
      leads_more contents may_give texts faults us vs (HasFiles is_second first) (HasFiles is_second first) (PutSoFar is_second all number 0 x) (Stores all) leads (λ s there. there)
      (λ s t sound there so. (so.0, so.2 t.objects (keeps_itself t.objects) (none_stored is_second number t.objects), so.4))

  -- ---- directories

  pub dirs_none : (made : Objects) → vs ≡ us → Leads contents faults us vs Any (MadeSoFar made made)
  dirs_none made same = leads_none contents may_give texts faults us vs Any (MadeSoFar made made) same (λ s any. (grows_none s, λ objects keeps all. all, λ key there. there, adds_none (λ (k : Key). is_stored made k ≡ true) s))

  pub dirs_all : (made left : Objects) → ((key : Key) → map.get left key ≡ None) → Leads contents faults us vs Any (MadeSoFar made left)
      → Leads contents faults us vs Any (PutsAll made)
  dirs_all made left empty leads =
      leads_more contents may_give texts faults us vs Any Any (MadeSoFar made left) (PutsAll made) leads (λ s any. tt)
      (λ s t sound any so. (so.0, λ objects keeps. so.1 objects keeps (record { kept = λ key bytes is. absurd (none key bytes (sym (empty key) ∙ is)) }), so.3))
    where
      none : (key : Key) (bytes : List ℕ) → None ≡ Some bytes → ⊥
      none key bytes is = cc

  -- the tree of the root whose directories were put
  pub tree_led : (moment : ℕ) (made : Objects) (entries : Entries) (root : List ℕ) → IsRootOf moment entries made root → AreOfRoot made root
      → Leads contents faults us vs Any (PutsAll made) → Leads contents faults us vs Any (HasTree moment entries root)
  tree_led moment made entries root is below leads =
      leads_more contents may_give texts faults us vs Any Any (PutsAll made) (HasTree moment entries root) leads (λ s any. tt)
      (λ s t sound any so. (
        so.0,
        λ objects keeps. is objects (so.1 objects keeps),
        adds_then (λ (k : Key). is_stored made k ≡ true) (IsOfRoot t.objects root) (IsOfRoot t.objects root) s t t
            (λ key there. let own = below key there in record { is_fs = own.is_fs; some = own.some; reached = λ objects keeps. own.reached objects (so.1 objects keeps) }) (λ key own. own) so.2
            (adds_none (IsOfRoot t.objects root) t),
      ))

  -- a file that isn't put
  pub unput_led : (is_new : Bool) (bytes : List ℕ) → is_new ≡ false → vs ≡ us → Leads contents faults us vs Any (PutsFile is_new bytes)
  unput_led is_new bytes old same =
      leads_none contents may_give texts faults us vs Any (PutsFile is_new bytes) same (λ s any. (grows_none s, λ is. absurd (true≢false (sym is ∙ old)), adds_none (IsOfFile bytes) s))

  -- and one that is
  pub file_led : (is_new : Bool) (bytes text : List ℕ) → text ≡ file_text bytes → (sha1 bytes ≢ nil → fs_of (file_text bytes) ≡ Ok (fs.File (file_object bytes)))
      → Leads contents faults us vs Any (PutsBoth bytes text) → Leads contents faults us vs Any (PutsFile is_new bytes)
  file_led is_new bytes text is reads leads =
      leads_more contents may_give texts faults us vs Any Any (PutsBoth bytes (file_text bytes)) (PutsFile is_new bytes)
      (subst (λ (x : List ℕ). Leads contents faults us vs Any (PutsBoth bytes x)) is leads) (λ s any. tt)
      (λ s t sound any both. let put = file_put s t bytes reads both in (put.0, λ new. put.1 refl, put.2))

  -- a commit that was put
  pub commit_led : (commit : Commit) (bytes : List ℕ) (parent : List ℕ) → (commit.id ≢ nil → parent ≢ nil → commit_of bytes ≡ Ok commit)
      → Leads contents faults us vs Any (Puts (commit_key commit.id) bytes) → Leads contents faults us vs (λ s. parent ≢ nil) (HasCommit commit.id commit)
  commit_led commit bytes parent reads leads =
      leads_more contents may_give texts faults us vs Any (λ s. parent ≢ nil) (Puts (commit_key commit.id) bytes) (HasCommit commit.id commit) leads (λ s some. tt)
      (λ s t sound some puts. (puts.0, refl, commit_put t.objects commit bytes puts.1 (reads puts.2 some), puts.2, puts.3))

module _ {S : Type 0} (contents : S → Option Contents) (may_give : S → Slot → Option (List ℕ) → Type 0) (texts faults : S → ℕ) (us ms vs : List (Shown S)) where
  -- one file more
  pub files_led : (is_second : Bool) (first all : List (List ℕ)) (number left x : ℕ) → Leads contents faults us ms (HasFiles is_second first) (PutSoFar is_second all number (suc left) x)
      → Leads contents faults ms vs Any (PutsFile (is_put is_second number) (pushed_bytes is_second number (file_bytes x)))
      → Leads contents faults us vs (HasFiles is_second first) (PutSoFar is_second all (number + 1) left (after_file x))
  files_led is_second first all number left x leads one =
      leads_then contents may_give texts faults us ms vs (HasFiles is_second first) Any (PutSoFar is_second all number (suc left) x)
      (PutsFile (is_put is_second number) (pushed_bytes is_second number (file_bytes x))) (PutSoFar is_second all (number + 1) left (after_file x)) leads one (λ s m sound there so. tt)
      (λ s m t sound there so puts. (
        grows_then s m t so.0 puts.0,
        there_behind is_second s.objects (file_bytes x) (files_from left (after_file x)) so.1,
        λ objects keeps stored. so.2 objects (keeps_then puts.0.keeps keeps)
            (subst (AreStored objects) (sym (pushed_cons is_second number (file_bytes x) (files_from left (after_file x))))
            (All-cons (IsFileStored objects) (pushed_bytes is_second number (file_bytes x)) (pushed_files is_second (number + 1) (files_from left (after_file x)))
            (file_keeps t.objects objects (pushed_bytes is_second number (file_bytes x)) keeps (file_there is_second number (file_bytes x) (files_from left (after_file x)) s m t so.0 so.1 puts)) stored)),
        λ key own. so.3 key (later key own),
        adds_then (IsOfFiles all) (IsOfFile (pushed_bytes is_second number (file_bytes x))) (IsOfFiles all) s m t (λ key own. own) (λ key own. so.3 key (here key own)) so.4 puts.2,
      ))
    where
      later : (key : Key) → IsOfFiles (pushed_files is_second (number + 1) (files_from left (after_file x))) key → IsOfFiles (pushed_files is_second number (files_from (suc left) x)) key
      later key own = subst (λ (files : List (List ℕ)). IsOfFiles files key) (sym (pushed_cons is_second number (file_bytes x) (files_from left (after_file x)))) (inr own)

      here : (key : Key) → IsOfFile (pushed_bytes is_second number (file_bytes x)) key → IsOfFiles (pushed_files is_second number (files_from (suc left) x)) key
      here key own = subst (λ (files : List (List ℕ)). IsOfFiles files key) (sym (pushed_cons is_second number (file_bytes x) (files_from left (after_file x)))) (inl own)

  -- one directory more
  pub dirs_led : (made left less : Objects) (key : Key) (bytes : List ℕ) → map.get left key ≡ Some bytes → less ≡ map.remove left key → Leads contents faults us ms Any (MadeSoFar made left)
      → Leads contents faults ms vs Any (Puts key bytes) → Leads contents faults us vs Any (MadeSoFar made less)
  dirs_led made left less key bytes was is leads one =
      leads_then contents may_give texts faults us ms vs Any Any (MadeSoFar made left) (Puts key bytes) (MadeSoFar made less) leads one (λ s m sound any so. tt)
      (λ s m t sound any so puts. (
        grows_then s m t so.0 puts.0,
        λ objects keeps others. so.1 objects (keeps_then puts.0.keeps keeps) (keeps_one_more left less key bytes objects was is (keeps.kept key bytes puts.1) others),
        λ k there. so.2 k (removed_within left less key is k there),
        adds_then (λ (k : Key). is_stored made k ≡ true) (λ (k : Key). k ≡ key) (λ (k : Key). is_stored made k ≡ true) s m t (λ k own. own)
            (λ k own. subst (λ (j : Key). is_stored made j ≡ true) (sym own) (so.2 key (ap is_some was))) so.3 puts.3,
      ))

  -- a file's block and its object, each under its own name
  pub both_led : (bytes text block_id file_id given : List ℕ) → block_id ≡ sha1 bytes → file_id ≡ sha1 text → given ≡ bytes → Leads contents faults us ms Any (Puts (block_key block_id) given)
      → Leads contents faults ms vs Any (Puts (fs_key file_id) text) → Leads contents faults us vs Any (PutsBoth bytes text)
  both_led bytes text block_id file_id given named_block named_file is first second =
      leads_then contents may_give texts faults us ms vs Any Any (Puts (block_key (sha1 bytes)) bytes) (Puts (fs_key (sha1 text)) text) (PutsBoth bytes text)
      (subst (λ (b : List ℕ). Leads contents faults us ms Any (Puts (block_key (sha1 bytes)) b)) is (subst (λ (id : List ℕ). Leads contents faults us ms Any (Puts (block_key id) given)) named_block first))
      (subst (λ (id : List ℕ). Leads contents faults ms vs Any (Puts (fs_key id) text)) named_file second) (λ s m sound any puts. tt)
      (λ s m t sound any block file. record { mid = m; block = block; file = file })

-- how a library stands to the one of before a push, as its files are put, its directories, and its commit
record FilesSo (parent : List ℕ) (files : List (List ℕ)) (s a : State) : Type 0 where
  at : head_of s.state.kept ≡ parent
  stored : Stores files s a

record DirsSo (parent : List ℕ) (moment : ℕ) (files : List (List ℕ)) (root : List ℕ) (s b : State) : Type 0 where
  a : State
  so : FilesSo parent files s a
  tree : HasTree moment (entries_of moment files) root a b

record CommitSo (parent id : List ℕ) (moment : ℕ) (files : List (List ℕ)) (lib root : List ℕ) (s c : State) : Type 0 where
  b : State
  so : DirsSo parent moment files root s b
  put : HasCommit id (made lib root (Some parent) None (codes "make") (codes "make") moment false) b c

-- to the one of before a filling, as the files are pushed
record FirstSo (first mid : List ℕ) (moment : ℕ) (files : List (List ℕ)) (s b : State) : Type 0 where
  a : State
  checks : Checks s a
  one : Pushes mid first moment files a b

-- and to the one behind that push, as they are pushed again, history is given up, and what is left is collected
record SecondSo (mid head : List ℕ) (moment : ℕ) (changed : List (List ℕ)) (b c : State) : Type 0 where
  two : Pushes head mid moment changed b c
  complete : IsComplete b.objects mid

record LimitSo (mid head : List ℕ) (moment : ℕ) (changed : List (List ℕ)) (b d : State) : Type 0 where
  c : State
  so : SecondSo mid head moment changed b c
  limits : Limits c d

record RestSo (removed : ℕ) (mid head : List ℕ) (moment : ℕ) (changed : List (List ℕ)) (b t : State) : Type 0 where
  d : State
  sound : IsSound d
  so : LimitSo mid head moment changed b d
  collects : Collects removed d t

-- a library behind a first push, at rest
abbrev IsAgain : List ℕ → List (List ℕ) → State → Type 0
IsAgain mid files b = IsBeside true mid files b × (b.running ≡ None)

module _ {S : Type 0} (contents : S → Option Contents) (may_give : S → Slot → Option (List ℕ) → Type 0) (texts faults : S → ℕ) where
  -- a push
  pub push_led : (us xs ys zs vs : List (Shown S)) (is_second : Bool) (parent id : List ℕ) (moment : ℕ) (first files : List (List ℕ)) (lib root : List ℕ) → length files ≤ 10000
      → Leads contents faults us xs (HasFiles is_second first) (Stores files) → Leads contents faults xs ys Any (HasTree moment (entries_of moment files) root)
      → Leads contents faults ys zs (λ s. parent ≢ nil) (HasCommit id (made lib root (Some parent) None (codes "make") (codes "make") moment false))
      → Leads contents faults zs vs (IsOver id) (Updates id moment) → Leads contents faults us vs (IsBeside is_second parent first) (Pushes id parent moment files)
  push_led us xs ys zs vs is_second parent id moment first files lib root few one two three four =
      let begun : Leads contents faults us xs (IsBeside is_second parent first) (FilesSo parent files) =
      leads_more contents may_give texts faults us xs (HasFiles is_second first) (IsBeside is_second parent first) (Stores files) (FilesSo parent files) one (λ s beside. beside.1)
      (λ s a sound beside so. record { at = beside.0; stored = so }) in
      let dirs : Leads contents faults us ys (IsBeside is_second parent first) (DirsSo parent moment files root) =
      leads_then contents may_give texts faults us xs ys (IsBeside is_second parent first) Any (FilesSo parent files) (HasTree moment (entries_of moment files) root) (DirsSo parent moment files root) begun two
      (λ s a sound beside so. tt) (λ s a b sound beside so tree. record { a = a; so = so; tree = tree }) in
      let put : Leads contents faults us zs (IsBeside is_second parent first) (CommitSo parent id moment files lib root) =
      leads_then contents may_give texts faults us ys zs (IsBeside is_second parent first) (λ s. parent ≢ nil) (DirsSo parent moment files root)
      (HasCommit id (made lib root (Some parent) None (codes "make") (codes "make") moment false)) (CommitSo parent id moment files lib root) dirs three
      (λ s b sound beside so. parent_some s parent sound beside.0) (λ s b c sound beside so commit. record { b = b; so = so; put = commit }) in
      leads_then contents may_give texts faults us zs vs (IsBeside is_second parent first) (IsOver id) (CommitSo parent id moment files lib root) (Updates id moment) (Pushes id parent moment files) put four
      (λ s c sound beside so. over_by parent id moment lib root files s so.so.a so.b c so.so.so.at so.so.so.stored so.so.tree so.put)
      (λ s c t sound beside so updates. pushes_by is_second parent id moment files lib root s so.so.a so.b c t few so.so.so.at so.so.so.stored so.so.tree so.put updates)

  -- all of it
  pub fill_led : (us xs ys zs ws vs : List (Shown S)) (shows : ℕ → Type 0) (count number moment : ℕ) (first mid head : List ℕ) (filled : Filled) → shows moment
      → Leads contents faults us xs Any Checks → Leads contents faults xs ys (IsBeside false first (files_from count number)) (Pushes mid first moment (files_from count number))
      → Leads contents faults ys zs (IsBeside true mid (files_from count number)) (Pushes head mid moment (changed_from 0 (files_from count number)))
      → Leads contents faults zs ws Any Limits → Leads contents faults ws vs IsResting (Collects filled.removed)
      → filled.paths ≡ map.len (tree_of moment (changed_from 0 (files_from count number))) → filled.bytes ≡ bytes_made count number
      → Leads contents faults us vs (IsNew first) (λ s t. IsFilled (WasHead us vs) shows count number first filled s t)
  fill_led us xs ys zs ws vs shows count number moment first mid head filled shown check one two limit collect paths bytes =
      let files : List (List ℕ) = files_from count number in
      let changed : List (List ℕ) = changed_from 0 files in
      let checked : Leads contents faults us xs (IsNew first) Checks =
      leads_more contents may_give texts faults us xs Any (IsNew first) Checks Checks check (λ s new. tt) (λ s a sound new checks. checks) in
      let pushed : Leads contents faults us ys (IsNew first) (FirstSo first mid moment files) =
      leads_then contents may_give texts faults us xs ys (IsNew first) (IsBeside false first files) Checks (Pushes mid first moment files) (FirstSo first mid moment files) checked one
      (λ s a sound new checks. (ap head_of checks.0.kept ∙ new.1, tt)) (λ s a b sound new checks pushes. record { a = a; checks = checks; one = pushes }) in
      let again : Leads contents faults ys zs (IsAgain mid files) (SecondSo mid head moment changed) =
      leads_more contents may_give texts faults ys zs (IsBeside true mid files) (IsAgain mid files) (Pushes head mid moment changed) (SecondSo mid head moment changed) two
      (λ b kind. kind.0) (λ b c sound kind pushes. record {
        two = pushes;
        complete = subst (λ (id : List ℕ). IsComplete b.objects id) kind.0.0 (sound.kept.complete (head_of b.state.kept) (head_kept b.state.kept sound.kept.some_kept));
      }) in
      let limited : Leads contents faults ys ws (IsAgain mid files) (LimitSo mid head moment changed) =
      leads_then contents may_give texts faults ys zs ws (IsAgain mid files) Any (SecondSo mid head moment changed) Limits (LimitSo mid head moment changed) again limit
      (λ b c sound kind so. tt) (λ b c d sound kind so limits. record { c = c; so = so; limits = limits }) in
      let collected : Leads contents faults ys vs (IsAgain mid files) (RestSo filled.removed mid head moment changed) =
      leads_then contents may_give texts faults ys ws vs (IsAgain mid files) IsResting (LimitSo mid head moment changed) (Collects filled.removed) (RestSo filled.removed mid head moment changed)
      limited collect (λ b d sound kind so. (so.limits.0.idle (so.so.two.idle kind.1), so.limits.1))
      (λ b d t sound kind so collects. record { d = d; sound = sound; so = so; collects = collects }) in
      leads_seen contents may_give texts faults us ys vs (IsNew first) (IsAgain mid files) (FirstSo first mid moment files) (RestSo filled.removed mid head moment changed)
      (λ s t. IsFilled (WasHead us vs) shows count number first filled s t) pushed collected
      (λ s b sound new so. ((so.one.head, so.one.stored), so.one.idle (so.checks.0.idle new.0)))
      (λ s b t new so rest seen. filled_by (WasHead us vs) shows count number moment first mid head filled s so.a b rest.so.c rest.d t shown rest.sound rest.so.so.complete new so.checks so.one
      (subst (WasHead us vs) so.one.head seen) rest.so.so.two rest.so.limits rest.collects paths bytes)

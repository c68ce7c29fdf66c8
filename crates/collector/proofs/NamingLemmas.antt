-- What an object names, as it is read. The key lemmas are names_named, can_be_read, block_there,
-- block_gone, names_unread, names_by_bytes, commit_names, fs_names, reads_bytes, undamaged, entries_next and blocks_next.
use Rattle.std.proofs.Common.{◌≡◌, ℕ, ◌+◌, ◌<◌, Bool, true, false, is_some, List, [], ◌∷◌, ◌++◌, length, take, get_or, Option, None, Some, option_map, Result, Ok, Err, IsTrue, refl, sym, ap, ◌∙◌, subst, true≢false, append-nil, append_assoc}
use Rattle.std.specs.Prelude.{IfErr}
use Rattle.std.specs.FinMap as map
use Rattle.std.proofs.lemmas.List.{take_more}
use Rattle.ids.specs.Key.{Objects}
use Rattle.ids.specs.declared.key.Key.{Key}
use Rattle.ids.specs.declared.key.Kind.{Kind}
use Rattle.ids.specs.declared.key.Kind.TheVariants as kind
use Rattle.fs_objects.specs.declared.dirent.Dirent.{Dirent}
use Rattle.fs_objects.specs.declared.fs_object.FsObject.{FsObject}
use Rattle.commit_objects.specs.declared.commit.Commit.{Commit}
use Rattle.object_graph.specs.Objects.{block_key, commit_at, commit_in, commit_key, fs_in, fs_key}
use Rattle.object_graph.specs.Reached.{block_keys, entry_keys, named, named_by_commit, named_by_fs, named_in, named_under, own_keys}
use Rattle.object_graph.specs.Traversal.{IsComplete, is_in, needs, walk_commit}
use Rattle.object_graph.specs.declared.fault.TreeFault.{TreeFault}
use Rattle.object_graph.proofs.CommitLemmas.{commit_root}
use Rattle.object_graph.proofs.KeyLemmas.{in_distinct}
use Rattle.object_graph.proofs.ReadableLemmas.{commit_readable}
use Rattle.object_graph.proofs.StoredLemmas.{commit_stored}
use Rattle.object_store.specs.Shelf.{Contents}
use Rattle.object_store.specs.StoreView.{Index, StoreView}
use Rattle.object_store.specs.declared.error.StoreFault.TheVariants as store
use Rattle.object_store.specs.declared.shelf.Slot.{Slot}
use Rattle.tree_walk.specs.Reading.{AnswersRead, CausedBy, IsCause, IsDamageAt, Reads, is_counted, stored_at, stored_in}
use Rattle.tree_walk.specs.declared.fault.WalkFault.{WalkFault}
use Rattle.tree_walk.specs.declared.fault.WalkFault.TheVariants as walk
use Rattle.tree_walk.proofs.StepsLemmas.{due_anywhere}
use Rattle.ids.specs.FaultCount.{FailsBy}
use Rattle.collector.specs.Naming.{is_of_bytes, names_at, names_by, names_in, names_of, names_read, root_read}

abbrev pub key_of : Kind → List ℕ → Key
key_of k id = record { kind = k; id = id }

same_from_ok : (x y : List Key) → ◌≡◌ {A = Result (List Key) TreeFault} (Ok x) (Ok y) → x ≡ y
same_from_ok x y e = cc

-- ---- what is read is what is named

root_named : (r : Result Commit TreeFault) (keys : List Key) → root_read r ≡ Ok keys → named_by_commit r ≡ keys
root_named (Ok commit) keys e = same_from_ok (own_keys commit.root) keys e
root_named (Err fault) keys e = cc

fs_named : (r : Result FsObject TreeFault) (keys : List Key) → names_read r ≡ Ok keys → named_by_fs r ≡ keys
fs_named (Ok object) keys e = same_from_ok (named_in object) keys e
fs_named (Err fault) keys e = cc

commit_named : (id : List ℕ) (o : Option (List ℕ)) (keys : List Key) → names_in (commit_key id) o ≡ Ok keys → named_by_commit (commit_in id o) ≡ keys
commit_named id None keys e = cc
commit_named id (Some bytes) keys e = root_named (commit_in id (Some bytes)) keys e

object_named : (id : List ℕ) (o : Option (List ℕ)) (keys : List Key) → names_in (fs_key id) o ≡ Ok keys → named_by_fs (fs_in (fs_key id) o) ≡ keys
object_named id None keys e = cc
object_named id (Some bytes) keys e = fs_named (fs_in (fs_key id) (Some bytes)) keys e

block_named : (id : List ℕ) (o : Option (List ℕ)) (keys : List Key) → names_in (block_key id) o ≡ Ok keys → [] ≡ keys
block_named id None keys e = cc
block_named id (Some bytes) keys e = same_from_ok [] keys e

named_as : (objects : Objects) (k : Kind) (id : List ℕ) (keys : List Key) → names_at objects (record { kind = k; id = id }) ≡ Ok keys → named_under objects k id ≡ keys
named_as objects kind.Commit id keys reads = commit_named id (map.get objects (commit_key id)) keys reads
named_as objects kind.Fs id keys reads = object_named id (map.get objects (fs_key id)) keys reads
named_as objects kind.Block id keys reads = block_named id (map.get objects (block_key id)) keys reads

-- what is read of an object is what it names
pub names_named : (objects : Objects) (key : Key) (keys : List Key) → names_at objects key ≡ Ok keys → named objects key ≡ keys
names_named objects key keys reads = named_as objects key.kind key.id keys reads

-- ---- what a complete commit needs can be read

root_reads : (r : Result Commit TreeFault) (commit : Commit) → r ≡ Ok commit → root_read r ≡ Ok (named_by_commit r)
root_reads (Ok other) commit e = refl
root_reads (Err fault) commit e = cc

fs_reads : (r : Result FsObject TreeFault) (object : FsObject) → r ≡ Ok object → names_read r ≡ Ok (named_by_fs r)
fs_reads (Ok other) object e = refl
fs_reads (Err fault) object e = cc

commit_reads : (id : List ℕ) (o : Option (List ℕ)) (commit : Commit) → commit_in id o ≡ Ok commit → names_in (commit_key id) o ≡ Ok (named_by_commit (commit_in id o))
commit_reads id None commit e = cc
commit_reads id (Some bytes) commit e = root_reads (commit_in id (Some bytes)) commit e

object_reads : (id : List ℕ) (o : Option (List ℕ)) (object : FsObject) → fs_in (fs_key id) o ≡ Ok object → names_in (fs_key id) o ≡ Ok (named_by_fs (fs_in (fs_key id) o))
object_reads id None object e = cc
object_reads id (Some bytes) object e = fs_reads (fs_in (fs_key id) (Some bytes)) object e

block_reads : (id : List ℕ) (o : Option (List ℕ)) → is_some o ≡ true → names_in (block_key id) o ≡ Ok []
block_reads id None e = cc
block_reads id (Some bytes) e = refl

module _ (objects : Objects) (commit : List ℕ) (complete : IsComplete objects commit) where
  visited : (key : Key) → is_in (needs objects commit) key ≡ true → is_in (walk_commit objects commit).visits key ≡ true
  visited key needed = sym (in_distinct (walk_commit objects commit).visits key) ∙ needed

  -- the commit is itself the only one that it needs
  own_reads : (id : List ℕ) → id ≡ commit → names_at objects (commit_key id) ≡ Ok (named objects (commit_key id))
  own_reads id same =
      let root = commit_root objects commit complete in
      commit_reads id (map.get objects (commit_key id)) root.0 (ap (λ (i : List ℕ). commit_at objects i) same ∙ root.1)

  reads_as : (k : Kind) (id : List ℕ) → is_in (needs objects commit) (record { kind = k; id = id }) ≡ true
      → names_at objects (record { kind = k; id = id }) ≡ Ok (named_under objects k id)
  reads_as kind.Commit id needed = own_reads id ((commit_readable objects commit complete).each (commit_key id) (visited (commit_key id) needed))
  reads_as kind.Fs id needed =
      let read = (commit_readable objects commit complete).each (fs_key id) (visited (fs_key id) needed) in
      object_reads id (map.get objects (fs_key id)) read.0 read.1
  reads_as kind.Block id needed = block_reads id (map.get objects (block_key id)) ((commit_stored objects commit complete).stored (block_key id) (visited (block_key id) needed))

-- what a complete commit needs can be read
pub can_be_read : (objects : Objects) (commit : List ℕ) (key : Key) → IsComplete objects commit → is_in (needs objects commit) key ≡ true
    → names_at objects key ≡ Ok (named objects key)
can_be_read objects commit key complete needed = reads_as objects commit complete key.kind key.id needed

-- ---- reading

-- a block that is stored, and one that isn't
pub block_there : (objects : Objects) (key : Key) (names : List Key) (size : ℕ) → key.kind ≡ kind.Block → Some size ≡ option_map length (map.get objects key)
    → names ≡ [] → AnswersRead objects (names_at objects key) (Ok names)
block_there objects key names size is there none = by (map.get objects key) there
  where
    by : (o : Option (List ℕ)) → Some size ≡ option_map length o → AnswersRead objects (names_in key o) (Ok names)
    by None e = cc
    by (Some bytes) e = subst (λ (k : Kind). AnswersRead objects (names_by k key.id bytes) (Ok names)) (sym is) none

pub block_gone : (objects : Objects) (key : Key) → None ≡ option_map length (map.get objects key) → AnswersRead {T = List Key} objects (names_at objects key) (Err (walk.Incomplete key))
block_gone objects key gone = by (map.get objects key) gone
  where
    by : (o : Option (List ℕ)) → None ≡ option_map length o → AnswersRead {T = List Key} objects (names_in key o) (Err (walk.Incomplete key))
    by None e = refl
    by (Some bytes) e = cc

-- where bytes can't be read, neither can what they name
pub names_unread : (objects : Objects) (key : Key) (fault : WalkFault) → AnswersRead {T = List ℕ} objects (stored_at objects key) (Err fault)
    → AnswersRead {T = List Key} objects (names_at objects key) (Err fault)
names_unread objects key fault due = by (map.get objects key) due
  where
    fails : (r : Result (List Key) TreeFault) → AnswersRead {T = List ℕ} objects (Ok []) (Err fault) → AnswersRead {T = List Key} objects r (Err fault)
    fails (Ok names) is = is
    fails (Err why) is = due_anywhere objects (Some why) fault is

    by : (o : Option (List ℕ)) → AnswersRead {T = List ℕ} objects (stored_in key o) (Err fault) → AnswersRead {T = List Key} objects (names_in key o) (Err fault)
    by None is = is
    by (Some bytes) is = fails (names_of key bytes) is

same_bytes : (x y : List ℕ) → ◌≡◌ {A = Result (List ℕ) TreeFault} (Ok x) (Ok y) → x ≡ y
same_bytes x y e = cc

-- what the bytes name that were read is what the object names
pub names_by_bytes : (objects : Objects) (key : Key) (bytes : List ℕ) (r : Result (List Key) WalkFault) → stored_at objects key ≡ Ok bytes
    → AnswersRead objects (names_of key bytes) r → AnswersRead objects (names_at objects key) r
names_by_bytes objects key bytes r is due = by (map.get objects key) is
  where
    by : (o : Option (List ℕ)) → stored_in key o ≡ Ok bytes → AnswersRead objects (names_in key o) r
    by None e = cc
    by (Some other) e = subst (λ (b : List ℕ). AnswersRead objects (names_of key b) r) (sym (same_bytes other bytes e)) due

-- bytes of a kind, by the kind
pub names_as : (objects : Objects) (key : Key) (k : Kind) (bytes : List ℕ) (r : Result (List Key) WalkFault) → key.kind ≡ k
    → AnswersRead objects (names_by k key.id bytes) r → AnswersRead objects (names_of key bytes) r
names_as objects key k bytes r is due = subst (λ (k : Kind). AnswersRead objects (names_by k key.id bytes) r) (sym is) due

pub as_fs : (key : Key) → key.kind ≡ kind.Fs → key ≡ fs_key key.id
as_fs key is = ap (λ (k : Kind). key_of k key.id) is

-- a root that was read
pub commit_names : (objects : Objects) (r : Result Commit TreeFault) (commit : Commit) (names : List Key) → r ≡ Ok commit → names ≡ own_keys commit.root
    → AnswersRead objects (root_read r) (Ok names)
commit_names objects r commit names is named = subst (λ (r : Result Commit TreeFault). AnswersRead objects (root_read r) (Ok names)) (sym is) named

-- a file or directory that was read, and one that wasn't
pub fs_names : (objects : Objects) (key : Key) (bytes : List ℕ) (object : FsObject) (names : List Key) → key.kind ≡ kind.Fs
    → AnswersRead objects (fs_in key (Some bytes)) (Ok object) → names ≡ named_in object → AnswersRead objects (names_of key bytes) (Ok names)
fs_names objects key bytes object names is read named =
    names_as objects key kind.Fs bytes (Ok names) is
    (by (fs_in (fs_key key.id) (Some bytes)) (subst (λ (k : Key). AnswersRead objects (fs_in k (Some bytes)) (Ok object)) (as_fs key is) read))
  where
    by : (r : Result FsObject TreeFault) → AnswersRead objects r (Ok object) → AnswersRead objects (names_read r) (Ok names)
    by (Ok other) e = named ∙ ap named_in e
    by (Err why) e = absurd e

pub fs_unnamed : (objects : Objects) (key : Key) (bytes : List ℕ) (fault : WalkFault) → key.kind ≡ kind.Fs
    → AnswersRead {T = FsObject} objects (fs_in key (Some bytes)) (Err fault) → AnswersRead {T = List Key} objects (names_of key bytes) (Err fault)
fs_unnamed objects key bytes fault is read =
    names_as objects key kind.Fs bytes (Err fault) is
    (by (fs_in (fs_key key.id) (Some bytes)) (subst (λ (k : Key). AnswersRead {T = FsObject} objects (fs_in k (Some bytes)) (Err fault)) (as_fs key is) read))
  where
    by : (r : Result FsObject TreeFault) → AnswersRead {T = FsObject} objects r (Err fault) → AnswersRead {T = List Key} objects (names_read r) (Err fault)
    by (Ok other) e = e
    by (Err why) e = e

-- ---- a fault of bytes that are at hand is no failure of the shelf, and has its cause

bytes_uncounted : (fault : WalkFault) → IsTrue (is_of_bytes fault) → is_counted fault ≡ false
bytes_uncounted (walk.Unreadable key) is = refl
bytes_uncounted (walk.Store (store.Taken id)) is = refl
bytes_uncounted (walk.Store (store.Wrong id)) is = refl
bytes_uncounted (walk.Store (store.Damaged want got)) is = refl
bytes_uncounted (walk.Store store.Shelf) is = cc
bytes_uncounted (walk.Store store.NoMemory) is = refl
bytes_uncounted (walk.Incomplete key) is = refl
bytes_uncounted (walk.WrongKind id) is = refl
bytes_uncounted (walk.WrongSize id) is = refl
bytes_uncounted (walk.TooDeep path) is = refl
bytes_uncounted (walk.TooMany paths) is = refl

bytes_cause : (index : Index) (may_give : Slot → Option (List ℕ) → Type 0) (fault : WalkFault) → IsTrue (is_of_bytes fault) → IsCause index may_give fault
bytes_cause index may_give (walk.Unreadable key) is = tt
bytes_cause index may_give (walk.Store (store.Taken id)) is = absurd (true≢false (sym is))
bytes_cause index may_give (walk.Store (store.Wrong id)) is = absurd (true≢false (sym is))
bytes_cause index may_give (walk.Store (store.Damaged want got)) is = absurd (true≢false (sym is))
bytes_cause index may_give (walk.Store store.Shelf) is = tt
bytes_cause index may_give (walk.Store store.NoMemory) is = tt
bytes_cause index may_give (walk.Incomplete key) is = absurd (true≢false (sym is))
bytes_cause index may_give (walk.WrongKind id) is = tt
bytes_cause index may_give (walk.WrongSize id) is = tt
bytes_cause index may_give (walk.TooDeep path) is = tt
bytes_cause index may_give (walk.TooMany paths) is = tt

module _ {S : Type 0} {contents : S → Option Contents} {may_give : S → Slot → Option (List ℕ) → Type 0} {texts faults : S → ℕ} where
  -- what is made of bytes that were read, or can't be
  pub reads_bytes : {T U : Type 0} {old new : StoreView S} (value : T) (result : Result U WalkFault) → Reads contents may_give texts faults old new (Ok value)
      → IfErr result (λ fault. IsTrue (is_of_bytes fault)) → Reads contents may_give texts faults old new result
  reads_bytes {U = U} {old = old} {new = new} value result reads free = record {
    kept = reads.kept;
    shelf = reads.shelf;
    cause = cause result free;
    count = count result free;
  }
    where
      cause : (r : Result U WalkFault) → IfErr r (λ fault. IsTrue (is_of_bytes fault)) → CausedBy new.index (may_give new.shelf) r
      cause (Ok given) is = tt
      cause (Err fault) is = bytes_cause new.index (may_give new.shelf) fault is

      uncounted : (fault : WalkFault) (b : Bool) → b ≡ false → is_counted fault ≡ b → FailsBy {T = U} is_counted (faults old.shelf) (faults new.shelf) (Err fault)
      uncounted fault b none is = rw (is ∙ none) reads.count

      count : (r : Result U WalkFault) → IfErr r (λ fault. IsTrue (is_of_bytes fault)) → FailsBy is_counted (faults old.shelf) (faults new.shelf) r
      count (Ok given) is = reads.count
      count (Err fault) is = uncounted fault (is_counted fault) (bytes_uncounted fault is) refl

-- a fault of bytes that are at hand isn't damage
bytes_undamaged : (objects : Objects) (key : Key) (fault : WalkFault) → IsTrue (is_of_bytes fault) → IsDamageAt objects key fault
bytes_undamaged objects key (walk.Store (store.Damaged want got)) is = cc
bytes_undamaged objects key other is = tt

pub undamaged : {T : Type 0} (objects : Objects) (key : Key) (r : Result T WalkFault) → IfErr r (λ fault. IsTrue (is_of_bytes fault)) → IfErr r (IsDamageAt objects key)
undamaged objects key (Ok given) is = tt
undamaged objects key (Err fault) is = bytes_undamaged objects key fault is

-- ---- the loops: the names so far are those of a front

entry_keys-push : (entries : List Dirent) (e : Dirent) → entry_keys (entries ++ e ∷ []) ≡ entry_keys entries ++ own_keys e.id
entry_keys-push [] e = append-nil (own_keys e.id)
entry_keys-push (x ∷ entries) e =
    ap (λ (ks : List Key). own_keys x.id ++ ks) (entry_keys-push entries e) ∙ sym (append_assoc (own_keys x.id) (entry_keys entries) (own_keys e.id))

pub entries_next : (names : List Key) (entries : List Dirent) (i : ℕ) (e : Dirent) → i < length entries → e ≡ get_or entries i e
    → names ≡ entry_keys (take i entries) → names ++ own_keys e.id ≡ entry_keys (take (i + 1) entries)
entries_next names entries i e more is so_far =
    ap (λ (ks : List Key). ks ++ own_keys e.id) so_far ∙ sym (entry_keys-push (take i entries) e)
    ∙ ap entry_keys (ap (λ (d : Dirent). take i entries ++ d ∷ []) is ∙ sym (take_more entries i e more))

block_keys-push : (ids : List (List ℕ)) (id : List ℕ) → block_keys (ids ++ id ∷ []) ≡ block_keys ids ++ block_key id ∷ []
block_keys-push [] id = refl
block_keys-push (x ∷ ids) id = ap (λ (ks : List Key). block_key x ∷ ks) (block_keys-push ids id)

pub blocks_next : (names : List Key) (ids : List (List ℕ)) (i : ℕ) (id : List ℕ) → i < length ids → id ≡ get_or ids i id
    → names ≡ block_keys (take i ids) → names ++ block_key id ∷ [] ≡ block_keys (take (i + 1) ids)
blocks_next names ids i id more is so_far =
    ap (λ (ks : List Key). ks ++ block_key id ∷ []) so_far ∙ sym (block_keys-push (take i ids) id)
    ∙ ap block_keys (ap (λ (d : List ℕ). take i ids ++ d ∷ []) is ∙ sym (take_more ids i id more))

-- What a store in memory keeps and gives. The key lemmas are kept_ok, kept_err, read_found and read_none.
use Rattle.std.proofs.Common.{◌≡◌, ◌≢◌, ◌&&◌, Bool, true, false, not, cond, if◌then◌else◌, IsTrue, ℕ, List, Option, None, Some, Result, Ok, Err, refl, sym, ap, subst, ◌∙◌}
use Rattle.std.specs.Prelude.{IfOk}
use Rattle.std.specs.Cmp.Lexicographic.{bytes_decides}
use Rattle.std.specs.FinMap as map
use Rattle.std.specs.Ordering.{eq_by_cmp}
use Rattle.sha1.specs.Sha1.{sha1}
use Rattle.ids.specs.Key.{Objects, key_cmp}
use Rattle.ids.specs.declared.key.Key.{Key}
use Rattle.ids.proofs.BasicLemmas.{same_from_some}
use Rattle.ids.proofs.KeyOrderLemmas.{key_cmp_total}
use Rattle.fs_objects.specs.declared.fs_object.FsObject.{FsObject}
use Rattle.object_graph.specs.Objects.{fs_key}
use Rattle.object_graph.specs.Unchanged.{Keeps}
use Rattle.object_graph.specs.declared.fault.TreeFault.{TreeFault}
use Rattle.object_store.specs.Store.{first_refusal, has_other_name, put_refusal, same_bytes, stored_refusal, name_refusal}
use Rattle.object_store.specs.declared.error.StoreFault.{StoreFault}
use Rattle.object_store.specs.declared.error.StoreFault.TheVariants as store
use Rattle.object_store.proofs.MapLemmas.{tied_key}
use Rattle.tree_walk.specs.Reading.{AnswersRead}
use Rattle.tree_walk.specs.declared.fault.WalkFault.{WalkFault}
use Rattle.tree_walk.specs.declared.fault.WalkFault.TheVariants as walk
use Rattle.tree_fetch.specs.Levels.{FindsObject, KeepsObject, put_fault, unread_of}

-- ---- to keep an object

later_none : (a b : Option StoreFault) → first_refusal a b ≡ None → b ≡ None
later_none None b e = e
later_none (Some x) b e = cc

-- what is stored under a key at which a put is not refused are these bytes
stored_same : (key : Key) (bytes stored : List ℕ) → stored_refusal key bytes (Some stored) ≡ None → stored ≡ bytes
stored_same key bytes stored = by (has_other_name key stored) (same_bytes stored bytes) refl
  where
    by : (b c : Bool) → same_bytes stored bytes ≡ c
        → (if b then Some (store.Damaged key.id (Some (sha1 stored))) else (if c then None else Some (store.Taken key.id))) ≡ None → stored ≡ bytes
    by true c e is = cc
    by false true e is = (bytes_decides stored bytes).0 e
    by false false e is = cc

own_name : (id bytes : List ℕ) → (IsTrue (has_other_name (fs_key id) bytes) → ⊥) → sha1 bytes ≡ id
own_name id bytes = by (same_bytes (sha1 bytes) id) refl
  where
    by : (b : Bool) → same_bytes (sha1 bytes) id ≡ b → (IsTrue (true && not b) → ⊥) → sha1 bytes ≡ id
    by true e other = (bytes_decides (sha1 bytes) id).0 e
    by false e other = absurd (other refl)

other_name : (id bytes : List ℕ) → IsTrue (has_other_name (fs_key id) bytes) → sha1 bytes ≢ id
other_name id bytes = by (same_bytes (sha1 bytes) id) refl
  where
    by : (b : Bool) → same_bytes (sha1 bytes) id ≡ b → IsTrue (true && not b) → sha1 bytes ≢ id
    by true e other same = cc
    by false e other same = let is : same_bytes (sha1 bytes) id ≡ true = (bytes_decides (sha1 bytes) id).1 same in cc

keeps_put : (old : Objects) (key : Key) (bytes : List ℕ) → put_refusal old key bytes ≡ None → Keeps old (map.insert old key bytes)
keeps_put old key bytes none = record { kept = λ at given here. map.get-insert key_cmp_total old key bytes at ∙ by at given here (eq_by_cmp key_cmp at key) refl }
  where
    stored : (given : List ℕ) (o : Option (List ℕ)) → o ≡ Some given → stored_refusal key bytes o ≡ None → given ≡ bytes
    stored given o here is = stored_same key bytes given (subst (λ (x : Option (List ℕ)). stored_refusal key bytes x ≡ None) here is)

    by : (at : Key) (given : List ℕ) → map.get old at ≡ Some given → (b : Bool) → eq_by_cmp key_cmp at key ≡ b → cond b (Some bytes) (map.get old at) ≡ Some given
    by at given here true tied =
        let same : at ≡ key = tied_key at key tied in
        ap Some (sym (stored given (map.get old key) (ap (map.get old) (sym same) ∙ here)
        (later_none (name_refusal key bytes) (stored_refusal key bytes (map.get old key)) none)))
    by at given here false apart = here

kept_at : (id bytes : List ℕ) (old new : Objects) → Some new ≡ Some (map.insert old (fs_key id) bytes) → (IsTrue (has_other_name (fs_key id) bytes) → ⊥)
    → put_refusal old (fs_key id) bytes ≡ None → KeepsObject id bytes old new (Ok tt)
kept_at id bytes old new is named free =
    let put : new ≡ map.insert old (fs_key id) bytes = same_from_some _ _ is in
    (own_name id bytes named, put, subst (Keeps old) (sym put) (keeps_put old (fs_key id) bytes free))

pub kept_ok : (id bytes : List ℕ) (old new : Objects) (key : Key) → key ≡ fs_key id → Some new ≡ Some (map.insert old key bytes) → (IsTrue (has_other_name key bytes) → ⊥)
    → put_refusal old key bytes ≡ None → KeepsObject id bytes old new (Ok tt)
kept_ok id bytes old new key same is named free =
    kept_at id bytes old new (subst (λ k. Some new ≡ Some (map.insert old k bytes)) same is) (λ other. named (subst (λ k. IsTrue (has_other_name k bytes)) (sym same) other))
    (subst (λ k. put_refusal old k bytes ≡ None) same free)

pub kept_err : (id bytes : List ℕ) (old new : Objects) (key : Key) → key ≡ fs_key id → (f : StoreFault)
    → ((got : List ℕ) → f ≡ store.Wrong got → (got ≡ sha1 bytes) × IsTrue (has_other_name key bytes)) → KeepsObject id bytes old new (Err (put_fault id f))
kept_err id bytes old new key same (store.Taken other) wrong = tt
kept_err id bytes old new key same (store.Wrong got) wrong = let cause = wrong got refl in (refl, cause.0, other_name id bytes (subst (λ k. IsTrue (has_other_name k bytes)) same cause.1))
kept_err id bytes old new key same (store.Damaged want got) wrong = tt
kept_err id bytes old new key same store.Shelf wrong = tt
kept_err id bytes old new key same store.NoMemory wrong = tt

-- ---- to read one

pub read_none : (objects : Objects) (due : Result FsObject TreeFault) (fault : WalkFault) → AnswersRead objects due (Err fault) → IfOk (unread_of fault) (FindsObject due)
read_none objects (Err why) (walk.Store f) is = tt
read_none objects (Err why) (walk.Incomplete key) is = (why, refl)
read_none objects (Err why) (walk.Unreadable key) is = (why, refl)
read_none objects (Err why) (walk.WrongKind id) is = (why, refl)
read_none objects (Err why) (walk.WrongSize id) is = (why, refl)
read_none objects (Err why) (walk.TooDeep path) is = (why, refl)
read_none objects (Err why) (walk.TooMany count) is = (why, refl)
read_none objects (Ok object) (walk.Store f) is = tt
read_none objects (Ok object) (walk.Incomplete key) is = cc
read_none objects (Ok object) (walk.Unreadable key) is = cc
read_none objects (Ok object) (walk.WrongKind id) is = cc
read_none objects (Ok object) (walk.WrongSize id) is = cc
read_none objects (Ok object) (walk.TooDeep path) is = cc
read_none objects (Ok object) (walk.TooMany count) is = cc

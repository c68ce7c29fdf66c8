-- Objects that are made, each under its own name. The key lemmas are made_kept, made_told, made_named and lists_written.
use Rattle.std.proofs.Common.{◌≡◌, ◌≢◌, ℕ, Bool, true, false, cond, if◌then◌else◌, List, [], refl, sym, ap, ◌∙◌, subst, Option, Some, None, is_some, Result, Ok, Err, ◌⊎◌, inl, inr}
use Rattle.std.specs.FinMap as map
use Rattle.std.specs.List.{IsDistinct}
use Rattle.std.specs.Cmp.Lexicographic.{bytes_decides}
use Rattle.std.specs.Str.{bytes_eq}
use Rattle.ids.specs.Key.{Objects}
use Rattle.ids.specs.ObjectId.{nil}
use Rattle.ids.specs.declared.key.Key.{Key}
use Rattle.ids.proofs.KeyOrderLemmas.{key_cmp_total}
use Rattle.fs_objects.specs.Directory.{names_of}
use Rattle.fs_objects.specs.FsObject.{fs_of}
use Rattle.fs_objects.specs.Proper.{IsProper}
use Rattle.fs_objects.specs.Spelling.{as_written}
use Rattle.fs_objects.specs.declared.dirent.Dirent.{Dirent}
use Rattle.fs_objects.specs.declared.fs_object.FsObject.TheVariants as fs
use Rattle.object_graph.specs.Objects.{fs_key, fs_in, as_read, is_nil, entries_of, entry_named}
use Rattle.object_graph.specs.Unchanged.{Keeps}
use Rattle.tree_merge.specs.declared.tree_builder.BuildFault.{BuildFault}
use Rattle.tree_merge.specs.declared.tree_builder.BuildFault.TheVariants.{Taken, NoMemory}
use Rattle.tree_merge.specs.TreeBuilding.{AreNamed, IsCausedInBuild, IsCollision, IsOwnName, HasMade, IsMade, IsRefused, IsRefusedList, Lists}
use Rattle.object_graph.proofs.KeyLemmas.{same_key-true, same_key-itself, same_key}
use Rattle.tree_merge.proofs.DirentLemmas.{written_listing, distinct_none}

get-made : (made : Objects) (key : Key) (bytes : List ℕ) (k : Key) → map.get (map.insert made key bytes) k ≡ cond (same_key k key) (Some bytes) (map.get made k)
get-made made key bytes k = map.get-insert key_cmp_total made key bytes k

module _ (old new : Objects) (key : Key) (bytes : List ℕ) (is : new ≡ map.insert old key bytes) where
  at : (k : Key) → map.get new k ≡ cond (same_key k key) (Some bytes) (map.get old k)
  at k = ap (λ (m : Objects). map.get m k) is ∙ get-made old key bytes k

  -- a new object leaves the others
  pub made_kept : map.get old key ≡ None → Keeps old new
  made_kept none = record { kept = λ k b there. at k ∙ kept_at k b there }
    where
      kept_at : (k : Key) (b : List ℕ) → map.get old k ≡ Some b → cond (same_key k key) (Some bytes) (map.get old k) ≡ Some b
      kept_at k b there = by (same_key k key) refl
        where
          by : (c : Bool) → same_key k key ≡ c → cond c (Some bytes) (map.get old k) ≡ Some b
          by true tie = let both : None ≡ Some b = sym none ∙ ap (map.get old) (sym (same_key-true k key tie)) ∙ there in cc
          by false apart = there

  pub made_here : map.get new key ≡ Some bytes
  made_here = at key ∙ ap (λ (c : Bool). cond c (Some bytes) (map.get old key)) (same_key-itself key)

  pub made_told : (id : List ℕ) → key ≡ fs_key id → (i : List ℕ) → HasMade new i → (HasMade old i) ⊎ (i ≡ id)
  made_told id own i there = by (same_key (fs_key i) key) refl (ap is_some (sym (at (fs_key i))) ∙ there)
    where
      by : (c : Bool) → same_key (fs_key i) key ≡ c → is_some (cond c (Some bytes) (map.get old (fs_key i))) ≡ true → (HasMade old i) ⊎ (i ≡ id)
      by true tie h = inr (ap (λ (k : Key). k.id) (same_key-true (fs_key i) key tie ∙ own))
      by false apart h = inl h

  pub made_named : IsOwnName key bytes → AreNamed old → AreNamed new
  made_named own named k b there = by (same_key k key) refl (sym (at k) ∙ there)
    where
      by : (c : Bool) → same_key k key ≡ c → cond c (Some bytes) (map.get old k) ≡ Some b → IsOwnName k b
      by true tie h =
          let same : bytes ≡ b = cc in
          let is : k ≡ key = same_key-true k key tie in
          subst (λ (c : List ℕ). IsOwnName k c) same (subst (λ (j : Key). IsOwnName j bytes) (sym is) own)
      by false apart h = named k b h

pub not_nil : (id : List ℕ) → id ≢ nil → is_nil id ≡ false
not_nil id some = by (is_nil id) refl
  where
    by : (b : Bool) → is_nil id ≡ b → is_nil id ≡ false
    by true is = absurd (some ((bytes_decides id nil).0 is))
    by false is = is

-- a directory whose text was made has its entries
pub lists_written : (made : Objects) (id bytes : List ℕ) (entries : List Dirent) → entries ≢ [] → IsMade made id bytes
    → (IsProper (fs.Dir entries) → fs_of bytes ≡ Ok (as_written (fs.Dir entries))) → IsDistinct bytes_eq (names_of entries) → Lists made id entries
lists_written made id bytes entries some is_made reads distinct = record {
  names = λ proper objects keeps n.
      ap (λ (b : Bool). entry_named n (if b then [] else entries_of (fs_in (fs_key id) (map.get objects (fs_key id))))) (not_nil id is_made.some)
      ∙ ap (λ (o : Option (List ℕ)). entry_named n (entries_of (fs_in (fs_key id) o))) (keeps.kept (fs_key id) bytes is_made.there)
      ∙ ap (λ (r : Result _ _). entry_named n (entries_of (as_read (fs_key id) r))) (reads proper)
      ∙ written_listing entries distinct n;
  distinct = distinct;
  written = inr (record { some = some; bytes = bytes; there = is_made.there; reads = reads });
}

-- forty zeros are the directory of no entries
pub lists_nothing : (made : Objects) → Lists made nil []
lists_nothing made = record { names = λ proper objects keeps n. refl; distinct = distinct_none; written = inl refl }

pub lists_empty : (made : Objects) (entries : List Dirent) → entries ≡ [] → Lists made nil entries
lists_empty made entries is = subst (Lists made nil) (sym is) (lists_nothing made)

-- a text that can't be made is that of a directory that can't
pub refused_list : (made : Objects) (bytes id : List ℕ) (entries : List Dirent) → entries ≢ [] → IsRefused made bytes id
    → (IsProper (fs.Dir entries) → fs_of bytes ≡ Ok (as_written (fs.Dir entries))) → IsDistinct bytes_eq (names_of entries) → IsRefusedList made entries id
refused_list made bytes id entries some refused reads distinct = record { some = some; bytes = bytes; reads = reads; distinct = distinct; refused = refused }

pub kept_itself : (made : Objects) → Keeps made made
kept_itself made = record { kept = λ k b there. there }

pub kept_then : (a b c : Objects) → Keeps a b → Keeps b c → Keeps a c
kept_then a b c one two = record { kept = λ k bytes there. two.kept k bytes (one.kept k bytes there) }

-- the id of a refusal
pub taken_told : {T : Type 0} (r : Result T BuildFault) (p q : List ℕ) → r ≡ Err (Taken p) → r ≡ Err (Taken q) → q ≡ p
taken_told r p q e f = cc

-- the fault of a refusal
pub fault_told : {T : Type 0} (f g : BuildFault) → (let r : Result T BuildFault = Err f in r) ≡ Err g → f ≡ g
fault_told f g e = cc

-- a refusal as taken is for two things of one name
pub collides : (made : Objects) (bytes id : List ℕ) → AreNamed made → IsRefused made bytes id → IsCollision id
collides made bytes id named refused = record {
  bytes = bytes;
  own = refused.own;
  clash = elim refused.clash [ inl none ↦ inl none | inr other ↦ inr (other.0, other.1, (named (fs_key id) other.0 other.2).is_sha1) ];
}

pub build_caused : (made : Objects) (entries : List Dirent) → AreNamed made → (fault : BuildFault) → ((id : List ℕ) → fault ≡ Taken id → IsRefusedList made entries id) → IsCausedInBuild fault
build_caused made entries named (Taken id) refused = let list = refused id refl in collides made list.bytes id named list.refused
build_caused made entries named NoMemory refused = tt

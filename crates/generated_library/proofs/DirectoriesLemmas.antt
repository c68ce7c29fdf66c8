-- A root whose directories got another time stands for the same entries. The key lemmas are timed_root, text_timed, placed_by, taken_clash,
-- timed_more, timed_of, entries_stay and times_stay.
use Rattle.std.proofs.Common.{◌≡◌, ◌≢◌, ◌⊎◌, inl, inr, ℕ, Bool, not, true, false, if◌then◌else◌, cond, List, [], ◌∷◌, ◌++◌, append_assoc, length, arith, reverse, refl, sym, ap, ap₂, ◌∙◌, subst, Option, None, Some, option_map, option_and_then, is_some, Result, Ok, Err, true≢false}
use Rattle.std.specs.Prelude.{◌↔◌, ℤ, All, IfErr, IfOk, IsSome, IsTrue, map as list_map}
use Rattle.std.specs.FinMap as map
use Rattle.std.specs.List.{IsDistinct}
use Rattle.std.specs.Str.{bytes_eq}
use Rattle.std.specs.Cmp.Lexicographic.{bytes_decides}
use Rattle.std.specs.Ordering.{eq_by_cmp}
use Rattle.std.proofs.lemmas.Bool.{false≢true}
use Rattle.std.proofs.lemmas.List.{map_push, reverse-append}
use Rattle.std.proofs.lemmas.List.Elements.{All-cons, All-head, All-nil, All-tail}
use Rattle.sha1.specs.Sha1.{sha1}
use Rattle.commit_objects.specs.declared.commit.Commit.{Commit}
use Rattle.fs_objects.specs.Directory.{names_of}
use Rattle.fs_objects.specs.FsObject.{fs_of}
use Rattle.fs_objects.specs.Mode.{is_directory_mode, is_file_mode}
use Rattle.fs_objects.specs.Proper.{IsProperEntry}
use Rattle.fs_objects.specs.Spelling.{in_written_order}
use Rattle.fs_objects.specs.declared.dirent.Dirent.{Dirent}
use Rattle.fs_objects.specs.declared.fault.BadFs.{BadFs}
use Rattle.fs_objects.specs.declared.fs_object.FsObject.{FsObject}
use Rattle.fs_objects.specs.declared.fs_object.FsObject.TheVariants as fs
use Rattle.ids.specs.Key.{Objects}
use Rattle.ids.specs.ObjectId.{nil}
use Rattle.ids.specs.declared.key.Key.{Key}
use Rattle.ids.specs.declared.key.Kind.{Kind}
use Rattle.ids.proofs.KeyOrderLemmas.{key_cmp_total}
use Rattle.library_rules.specs.LibraryState.{is_stored}
use Rattle.library_rules.proofs.KeepingLemmas.{keeps_itself}
use Rattle.object_graph.specs.Objects.{AreEntriesOf, as_read, commit_at, commit_key, directory_in, dirents_at, entries_of, entry_in, entry_named, entry_of, fs_in, fs_key, is_nil, name_cmp}
use Rattle.object_graph.specs.Traversal.{IsComplete, Walk, needs, start, visited, walk_below, walk_object, walk_root}
use Rattle.object_graph.specs.Unchanged.{AgreeOn, Keeps}
use Rattle.object_graph.specs.declared.entry.Entry.TheVariants as entry
use Rattle.object_graph.proofs.BelowLemmas.{Ran}
use Rattle.object_graph.proofs.CommitLemmas.{root_ran}
use Rattle.object_graph.proofs.KeyLemmas.{same_key, same_key-itself, same_key-true}
use Rattle.object_graph.proofs.LocalityLemmas.{agree_needs}
use Rattle.object_graph.proofs.SameBelowLemmas.{ran_root, same_dirents, same_entry as same_found}
use Rattle.tree_model.specs.Path.{PathV}
use Rattle.tree_model.specs.declared.limits.TheConstants.{MAX_NAMES}
use Rattle.tree_merge.specs.Sides.{Entries}
use Rattle.tree_merge.specs.TreeBuilding.{AreDirectories, AreNamed, HasMade, IsClash, IsDirectoryOf, IsDirectoryText, IsNilOrMade, IsNilWhereEmpty, IsRefused, directory_id_in}
use Rattle.tree_merge.specs.declared.tree_builder.BuildFault.{BuildFault}
use Rattle.tree_merge.specs.declared.tree_builder.BuildFault.TheVariants.{NoMemory, Taken}
use Rattle.tree_merge.proofs.BuildingLemmas.{no_directory}
use Rattle.tree_merge.proofs.DirentLemmas.{same_name-itself, written_listing}
use Rattle.tree_merge.proofs.LevelLemmas.{nil_dirents}
use Rattle.tree_merge.proofs.MadeLemmas.{not_nil}
use Rattle.generated_library.specs.Directories.{AreOfRoot, HasTimes, IsFlat, IsListedAs, IsOfRoot, IsPlaced, IsReplaced, IsRootOf, IsRootRefused, IsTakenFor, IsTextAt, IsTimed, entry_at, is_other}
use Rattle.generated_library.specs.Generated.{time_of}

none_some : (e : Dirent) → None ≡ Some e → ⊥
none_some e is = cc

none_id : (id : List ℕ) → None ≡ Some id → ⊥
none_id id is = cc

-- ---- entries of another time

-- an entry of this time, where it is told whether it is a directory's
abbrev told_at : ℤ → Dirent → Bool → Dirent
told_at time e b = if b then record e { mode = 16384; mtime = time } else e

-- what neither changes is the same
same_at : {A : Type 0} (part : Dirent → A) (time : ℤ) (e : Dirent) → part (record e { mode = 16384; mtime = time }) ≡ part e → part (entry_at time e) ≡ part e
same_at part time e same = by (is_directory_mode e.mode)
  where
    by : (b : Bool) → part (told_at time e b) ≡ part e
    by true = same
    by false = refl

name_at : (time : ℤ) (e : Dirent) → (entry_at time e).name ≡ e.name
name_at time e = same_at (λ (x : Dirent). x.name) time e refl

id_at : (time : ℤ) (e : Dirent) → (entry_at time e).id ≡ e.id
id_at time e = same_at (λ (x : Dirent). x.id) time e refl

kind_at : (time : ℤ) (e : Dirent) → is_directory_mode (entry_at time e).mode ≡ is_directory_mode e.mode
kind_at time e = by (is_directory_mode e.mode) refl
  where
    by : (b : Bool) → is_directory_mode e.mode ≡ b → is_directory_mode (told_at time e b).mode ≡ is_directory_mode e.mode
    by true is = sym is
    by false is = refl

same_entry : (time : ℤ) (e : Dirent) → entry_of (entry_at time e) ≡ entry_of e
same_entry time e = by (is_directory_mode e.mode) refl
  where
    by : (b : Bool) → is_directory_mode e.mode ≡ b → entry_of (told_at time e b) ≡ entry_of e
    by true is = sym (ap (λ (c : Bool). if c then entry.Dir else entry.File e.id e.mode e.mtime e.modifier e.size) is)
    by false is = refl

same_directory : (time : ℤ) (o : Option Dirent) → directory_in (option_map (entry_at time) o) ≡ directory_in o
same_directory time None = refl
same_directory time (Some e) = by (is_directory_mode e.mode) refl
  where
    by : (b : Bool) → is_directory_mode e.mode ≡ b → directory_in (Some (told_at time e b)) ≡ directory_in (Some e)
    by true is = sym (ap (λ (c : Bool). if c then Some e.id else None) is)
    by false is = refl

same_told : (time : ℤ) (o : Option Dirent) → option_map entry_of (option_map (entry_at time) o) ≡ option_map entry_of o
same_told time None = refl
same_told time (Some e) = ap Some (same_entry time e)

proper_at : (time : ℤ) (e : Dirent) → IsProperEntry e → IsProperEntry (entry_at time e)
proper_at time e proper = by (is_directory_mode e.mode) refl
  where
    by : (b : Bool) → is_directory_mode e.mode ≡ b → IsProperEntry (told_at time e b)
    by true is = record { known = refl; plain = λ other. proper.plain (no_file is) }
      where
        no_file : is_directory_mode e.mode ≡ true → is_file_mode e.mode ≡ false
        no_file is = not_both (is_file_mode e.mode) refl
          where
            not_both : (f : Bool) → is_file_mode e.mode ≡ f → is_file_mode e.mode ≡ false
            not_both true file = absurd (true≢false (sym is ∙ no_directory e.mode file))
            not_both false none = none
    by false is = proper

pub names_at : (time : ℤ) (es : List Dirent) → names_of (list_map (entry_at time) es) ≡ names_of es
names_at time [] = refl
names_at time (e ∷ es) = ap₂ (λ (n : List ℕ) (ns : List (List ℕ)). n ∷ ns) (name_at time e) (names_at time es)

all_proper : (time : ℤ) (es : List Dirent) → All IsProperEntry es → All IsProperEntry (list_map (entry_at time) es)
all_proper time [] proper = All-nil IsProperEntry
all_proper time (e ∷ es) proper =
    All-cons IsProperEntry (entry_at time e) (list_map (entry_at time) es) (proper_at time e (All-head IsProperEntry e es proper)) (all_proper time es (All-tail IsProperEntry e es proper))

named_at : (time : ℤ) (name : List ℕ) (es : List Dirent) → entry_named name (list_map (entry_at time) es) ≡ option_map (entry_at time) (entry_named name es)
named_at time name [] = refl
named_at time name (e ∷ es) =
    ap₂ (λ (n : List ℕ) (o : Option Dirent). if eq_by_cmp name_cmp name n then Some (entry_at time e) else o) (name_at time e) (named_at time name es)
    ∙ by (eq_by_cmp name_cmp name e.name)
  where
    by : (b : Bool) → (if b then Some (entry_at time e) else option_map (entry_at time) (entry_named name es)) ≡ option_map (entry_at time) (if b then Some e else entry_named name es)
    by true = refl
    by false = refl

pub distinct_at : (time : ℤ) (dirents timed : List Dirent) → timed ≡ list_map (entry_at time) dirents → IsDistinct bytes_eq (names_of dirents) → IsDistinct bytes_eq (names_of timed)
distinct_at time dirents timed is distinct = subst (λ (es : List Dirent). IsDistinct bytes_eq (names_of es)) (sym is) (subst (IsDistinct bytes_eq) (sym (names_at time dirents)) distinct)

-- a directory that was written with them
pub text_timed : (time : ℤ) (dirents timed : List Dirent) (bytes : List ℕ) → timed ≡ list_map (entry_at time) dirents → IsDistinct bytes_eq (names_of dirents) → All IsProperEntry dirents
    → (All IsProperEntry timed → fs_of bytes ≡ Ok (fs.Dir (in_written_order timed))) → IsTextAt time dirents bytes
text_timed time dirents timed bytes is distinct proper reads = record {
  listed = in_written_order timed;
  reads = reads (subst (λ (es : List Dirent). All IsProperEntry es) (sym is) (all_proper time dirents proper));
  told = λ name. written_listing timed (distinct_at time dirents timed is distinct) name
      ∙ (ap (entry_named name) is ∙ named_at time name dirents);
}

-- what was read is one directory
pub read_once : (r : Result FsObject BadFs) (object : FsObject) (directory dirents : List Dirent) → r ≡ Ok object → object ≡ fs.Dir directory → r ≡ Ok (fs.Dir dirents) → directory ≡ dirents
read_once r object directory dirents read is reads = cc

-- one more of those that are left, from the last one on
pub timed_more : (f : Dirent → Dirent) (left less timed more all : List Dirent) (e now : Dirent) → left ≡ less ++ e ∷ [] → now ≡ f e → more ≡ timed ++ now ∷ []
    → list_map f left ++ reverse timed ≡ all → list_map f less ++ reverse more ≡ all
timed_more f left less timed more all e now was is put so =
    ap (λ (es : List Dirent). list_map f less ++ reverse es) put
    ∙ (ap (λ (es : List Dirent). list_map f less ++ es) (reverse-append timed (now ∷ []))
    ∙ (ap (λ (x : Dirent). list_map f less ++ (x ∷ reverse timed)) is
    ∙ (sym (append_assoc (list_map f less) (f e ∷ []) (reverse timed))
    ∙ (ap (λ (es : List Dirent). es ++ reverse timed) (sym (map_push f less e) ∙ ap (list_map f) (sym was))
    ∙ so))))

pub timed_all : (f : Dirent → Dirent) (left timed turned all : List Dirent) → length left ≡ 0 → turned ≡ reverse timed → list_map f left ++ reverse timed ≡ all → turned ≡ all
timed_all f [] timed turned all none is so = is ∙ so
timed_all f (e ∷ left) timed turned all some is so = absurd (omega (arith, some))

-- ---- an object that was placed under its own name

pub some_id : (b : Bool) (id : List ℕ) → IsTrue b ↔ (id ≡ nil) → b ≡ false → id ≢ nil
some_id b id told none zeros = true≢false (sym (told.1 zeros) ∙ none)

pub placed_by : (bytes : List ℕ) (old new : Objects) (id : List ℕ) (other : Bool) → id ≡ sha1 bytes → id ≢ nil → other ≡ is_other bytes (map.get old (fs_key id)) → other ≡ false
    → new ≡ map.insert old (fs_key id) bytes → IsPlaced bytes old new id
placed_by bytes old new id other own some told none put =
    record { own = own; some = some; alone = λ held there. same held (ap (is_other bytes) (sym there) ∙ (sym told ∙ none)); is = put }
  where
    same : (held : List ℕ) → not (bytes_eq held bytes) ≡ false → held ≡ bytes
    same held one = by (bytes_eq held bytes) refl one
      where
        by : (b : Bool) → bytes_eq held bytes ≡ b → not b ≡ false → held ≡ bytes
        by true equal one = (bytes_decides held bytes).0 equal
        by false apart one = absurd (true≢false one)

pub refused_other : (bytes : List ℕ) (old : Objects) (id : List ℕ) (other : Bool) → id ≡ sha1 bytes → other ≡ is_other bytes (map.get old (fs_key id)) → other ≡ true → IsRefused old bytes id
refused_other bytes old id other own told found = record { own = own; clash = inr (by (map.get old (fs_key id)) refl (sym told ∙ found)) }
  where
    by : (o : Option (List ℕ)) → map.get old (fs_key id) ≡ o → is_other bytes o ≡ true → (held : List ℕ) × (held ≢ bytes) × (map.get old (fs_key id) ≡ Some held)
    by None at none = absurd (false≢true none)
    by (Some held) at apart = (held, differs, at)
      where
        differs : held ≢ bytes
        differs same = true≢false (sym apart ∙ ap not ((bytes_decides held bytes).1 same))

-- what was placed stands in the place of the root
pub all_replaced : (time : ℤ) (old less new : Objects) (root bytes : List ℕ) (dirents : List Dirent) (r : Result (List ℕ) BuildFault) → root ≢ nil → IsListedAs old root dirents → IsTextAt time dirents bytes
    → less ≡ map.remove old (fs_key root) → IfOk r (IsPlaced bytes less new) → IfOk r (IsTimed time old root new)
all_replaced time old less new root bytes dirents (Ok id) some was text is placed =
    inr (record { some = some; dirents = dirents; was = was; bytes = bytes; text = text; placed = subst (λ (m : Objects). IsPlaced bytes m new id) is placed })
all_replaced time old less new root bytes dirents (Err fault) some was text is placed = tt

pub all_refused : (time : ℤ) (old less : Objects) (root bytes : List ℕ) (dirents : List Dirent) (r : Result (List ℕ) BuildFault) → IsListedAs old root dirents → IsTextAt time dirents bytes
    → less ≡ map.remove old (fs_key root) → IfErr r (IsTakenFor (IsRefused less bytes)) → IfErr r (IsTakenFor (IsRootRefused time old root))
all_refused time old less root bytes dirents (Ok id) was text is refused = tt
all_refused time old less root bytes dirents (Err (Taken id)) was text is refused =
    record { dirents = dirents; was = was; bytes = bytes; text = text; refused = subst (λ (m : Objects). IsRefused m bytes id) is refused }
all_refused time old less root bytes dirents (Err NoMemory) was text is refused = tt

-- what is stored of a root that lists entries
pub listed_text : (made : Objects) (root before given : List ℕ) (dirents : List Dirent) → IsListedAs made root dirents → Some before ≡ map.get made (fs_key root) → given ≡ before → fs_of given ≡ Ok (fs.Dir dirents)
listed_text made root before given dirents listed is same =
    let one : before ≡ listed.bytes = some_same before listed.bytes (is ∙ listed.there) in
    ap fs_of (same ∙ one) ∙ listed.reads
  where
    some_same : (a b : List ℕ) → Some a ≡ Some b → a ≡ b
    some_same a b is = cc

pub unlisted : (made : Objects) (root : List ℕ) (dirents : List Dirent) → IsListedAs made root dirents → map.get made (fs_key root) ≡ None → ⊥
unlisted made root dirents listed none = let clash : None ≡ Some listed.bytes = sym none ∙ listed.there in cc

-- a root that was made lists entries
pub root_listed : (entries : Entries) (made : Objects) (root : List ℕ) → AreDirectories entries made → IsNilOrMade made root → root ≢ nil → (dirents : List Dirent) × IsListedAs made root dirents
root_listed entries made root dirs (inl zeros) some = absurd (some zeros)
root_listed entries made root dirs (inr there) some = by (map.get made (fs_key root)) refl there
  where
    by : (o : Option (List ℕ)) → map.get made (fs_key root) ≡ o → IsSome o → (dirents : List Dirent) × IsListedAs made root dirents
    by None none is = absurd (false≢true is)
    by (Some bytes) at is = let text = dirs.texts (fs_key root) bytes at in (text.dirents, record { bytes = bytes; there = at; reads = text.reads })

-- the text of the same directory with another time
text_of_one : (entries : Entries) (time : ℤ) (bytes text : List ℕ) (dirents : List Dirent) → IsDirectoryText entries bytes → fs_of bytes ≡ Ok (fs.Dir dirents) → IsTextAt time dirents text
    → IsDirectoryText entries text
text_of_one entries time bytes text dirents was reads so = record {
  path = was.path;
  is_dir = was.is_dir;
  dirents = so.listed;
  reads = so.reads;
  some = λ none. was.some (nothing_named was.dirents (λ name. empty (entry_named name was.dirents) (sym (here name) ∙ ap (entry_named name) none)));
  told = λ name. ap (option_map entry_of) (here name) ∙ (same_told time (entry_named name was.dirents) ∙ was.told name);
  zeros = λ name e found is. zeros name e (entry_named name was.dirents) refl (sym (here name) ∙ found) is;
}
  where
    one : dirents ≡ was.dirents
    one = read_once (fs_of bytes) (fs.Dir dirents) dirents was.dirents reads refl was.reads

    here : (name : List ℕ) → entry_named name so.listed ≡ option_map (entry_at time) (entry_named name was.dirents)
    here name = so.told name ∙ ap (λ (es : List Dirent). option_map (entry_at time) (entry_named name es)) one

    empty : (o : Option Dirent) → option_map (entry_at time) o ≡ None → o ≡ None
    empty None is = refl
    empty (Some e) is = let clash : None ≡ Some (entry_at time e) = sym is in cc

    nothing_named : (es : List Dirent) → ((name : List ℕ) → entry_named name es ≡ None) → es ≡ []
    nothing_named [] none = refl
    nothing_named (e ∷ es) none =
        let clash : None ≡ Some e = sym (none e.name) ∙ ap (λ (b : Bool). if b then Some e else entry_named e.name es) (same_name-itself e.name) in cc

    zeros : (name : List ℕ) (e : Dirent) (o : Option Dirent) → entry_named name was.dirents ≡ o → option_map (entry_at time) o ≡ Some e → is_directory_mode e.mode ≡ true
        → IsNilWhereEmpty entries (was.path ++ name ∷ []) e.id
    zeros name e None found told is = absurd (none_some e told)
    zeros name e (Some d) found told is =
        let same : entry_at time d ≡ e = cc in
        subst (λ (i : List ℕ). IsNilWhereEmpty entries (was.path ++ name ∷ []) i) (sym (id_at time d) ∙ ap (λ (x : Dirent). x.id) same)
        (was.zeros name d found (sym (kind_at time d) ∙ (ap (λ (x : Dirent). is_directory_mode x.mode) same ∙ is)))

-- a root that can't be made clashes with a directory of the tree
pub refused_clash : (entries : Entries) (time : ℤ) (made : Objects) (root id : List ℕ) → AreDirectories entries made → AreNamed made → IsRootRefused time made root id → IsClash entries id
refused_clash entries time made root id dirs named refusal = record {
  bytes = refusal.bytes;
  own = refusal.refused.own;
  text = text_of_one entries time refusal.was.bytes refusal.bytes refusal.dirents (dirs.texts (fs_key root) refusal.was.bytes refusal.was.there) refusal.was.reads refusal.text;
  clash = by refusal.refused.clash;
}
  where
    still : (other : List ℕ) (b : Bool) → cond b None (map.get made (fs_key id)) ≡ Some other → map.get made (fs_key id) ≡ Some other
    still other true is = let clash : None ≡ Some other = is in cc
    still other false is = is

    by : (id ≡ nil) ⊎ ((other : List ℕ) × (other ≢ refusal.bytes) × (map.get (map.remove made (fs_key root)) (fs_key id) ≡ Some other))
        → (id ≡ nil) ⊎ ((other : List ℕ) × (other ≢ refusal.bytes) × (id ≡ sha1 other) × IsDirectoryText entries other)
    by (inl zeros) = inl zeros
    by (inr (other, apart, there)) =
        let at : map.get made (fs_key id) ≡ Some other = still other (same_key (fs_key id) (fs_key root)) (sym (map.get-remove key_cmp_total made (fs_key root) (fs_key id)) ∙ there) in
        inr (other, apart, (named (fs_key id) other at).is_sha1, dirs.texts (fs_key id) other at)

pub taken_clash : (entries : Entries) (time : ℤ) (made : Objects) (root : List ℕ) → AreDirectories entries made → AreNamed made → (fault : BuildFault) → IsTakenFor (IsRootRefused time made root) fault
    → IsTakenFor (IsClash entries) fault
taken_clash entries time made root dirs named (Taken id) refusal = refused_clash entries time made root id dirs named refusal
taken_clash entries time made root dirs named NoMemory refusal = tt

-- what the builder refuses
pub taken_built : (entries : Entries) (fault : BuildFault) → ((id : List ℕ) → fault ≡ Taken id → IsClash entries id) → IsTakenFor (IsClash entries) fault
taken_built entries (Taken id) clash = clash id refl
taken_built entries NoMemory clash = tt

-- ---- the root

-- among the objects with the root of before
module _ (moment : ℕ) (entries : Entries) (made new : Objects) (root id : List ℕ) (flat : IsFlat entries)
    (value : (objects : Objects) → Keeps made objects → AreEntriesOf objects root entries) where
  -- it has none
  zeros_root : root ≡ nil → id ≡ nil → new ≡ made → IsRootOf moment entries new id
  zeros_root zeros none same objects keeps = (
    subst (λ (i : List ℕ). AreEntriesOf objects i entries) (zeros ∙ sym none) (value objects (subst (λ (m : Objects). Keeps m objects) same keeps)),
    λ name e found is. absurd (none_some e (sym (ap (entry_named name) (nil_dirents objects id none)) ∙ found)),
  )

  module _ (so : IsReplaced (time_of moment) made root new id) (objects : Objects) (keeps : Keeps new objects) where
    abbrev before : Objects
    before = map.insert objects (fs_key root) so.was.bytes

    before_at : (k : Key) → map.get before k ≡ cond (same_key k (fs_key root)) (Some so.was.bytes) (map.get objects k)
    before_at k = map.get-insert key_cmp_total objects (fs_key root) so.was.bytes k

    new_at : (k : Key) → map.get new k ≡ cond (same_key k (fs_key id)) (Some so.bytes) (cond (same_key k (fs_key root)) None (map.get made k))
    new_at k =
        ap (λ (m : Objects). map.get m k) so.placed.is
        ∙ (map.get-insert key_cmp_total (map.remove made (fs_key root)) (fs_key id) so.bytes k
        ∙ ap (cond (same_key k (fs_key id)) (Some so.bytes)) (map.get-remove key_cmp_total made (fs_key root) k))

    before_keeps : Keeps made before
    before_keeps = record { kept = λ k held at. by k held at (same_key k (fs_key root)) refl }
      where
        alone : (k : Key) (held : List ℕ) → map.get made k ≡ Some held → same_key k (fs_key root) ≡ false → k ≡ fs_key id → held ≡ so.bytes
        alone k held at other is =
            so.placed.alone held
            (ap (map.get (map.remove made (fs_key root))) (sym is)
            ∙ (map.get-remove key_cmp_total made (fs_key root) k ∙ (ap (λ (b : Bool). cond b None (map.get made k)) other ∙ at)))

        now : (k : Key) (held : List ℕ) → map.get made k ≡ Some held → same_key k (fs_key root) ≡ false → (b : Bool) → same_key k (fs_key id) ≡ b → map.get new k ≡ Some held
        now k held at other true is =
            new_at k ∙ (ap (λ (b : Bool). cond b (Some so.bytes) (cond (same_key k (fs_key root)) None (map.get made k))) is ∙ ap Some (sym (alone k held at other (same_key-true k (fs_key id) is))))
        now k held at other false is =
            new_at k ∙ (ap (λ (b : Bool). cond b (Some so.bytes) (cond (same_key k (fs_key root)) None (map.get made k))) is
            ∙ (ap (λ (b : Bool). cond b None (map.get made k)) other ∙ at))

        by : (k : Key) (held : List ℕ) → map.get made k ≡ Some held → (b : Bool) → same_key k (fs_key root) ≡ b → map.get before k ≡ Some held
        by k held at true is =
            let one : k ≡ fs_key root = same_key-true k (fs_key root) is in
            before_at k ∙ (ap (λ (b : Bool). cond b (Some so.was.bytes) (map.get objects k)) is ∙ (sym so.was.there ∙ (ap (map.get made) (sym one) ∙ at)))
        by k held at false is =
            before_at k ∙ (ap (λ (b : Bool). cond b (Some so.was.bytes) (map.get objects k)) is ∙ keeps.kept k held (now k held at is (same_key k (fs_key id)) refl))

    -- what an object lists that is stored
    listed_at : (A : Objects) (i bytes : List ℕ) (dirents : List Dirent) → i ≢ nil → map.get A (fs_key i) ≡ Some bytes → fs_of bytes ≡ Ok (fs.Dir dirents) → dirents_at A i ≡ dirents
    listed_at A i bytes dirents some there reads =
        ap (λ (b : Bool). if b then [] else entries_of (fs_in (fs_key i) (map.get A (fs_key i)))) (not_nil i some)
        ∙ (ap (λ (o : Option (List ℕ)). entries_of (fs_in (fs_key i) o)) there ∙ ap (λ (r : Result _ _). entries_of (as_read (fs_key i) r)) reads)

    listed_before : dirents_at before root ≡ so.dirents
    listed_before =
        listed_at before root so.was.bytes so.dirents so.some
        (before_at (fs_key root) ∙ ap (λ (b : Bool). cond b (Some so.was.bytes) (map.get objects (fs_key root))) (same_key-itself (fs_key root))) so.was.reads

    listed_now : dirents_at objects id ≡ so.text.listed
    listed_now =
        listed_at objects id so.bytes so.text.listed so.placed.some
        (keeps.kept (fs_key id) so.bytes
        (new_at (fs_key id) ∙ ap (λ (b : Bool). cond b (Some so.bytes) (cond (same_key (fs_key id) (fs_key root)) None (map.get made (fs_key id)))) (same_key-itself (fs_key id))))
        so.text.reads

    -- the entries, as the root of before tells them
    told : (path : PathV) → map.get entries path ≡ entry_in before so.dirents path
    told path = value before before_keeps path ∙ ap (λ (es : List Dirent). entry_in before es path) listed_before

    -- a directory is told as one
    is_directory : (o : Option Dirent) (i : List ℕ) → directory_in o ≡ Some i → option_map entry_of o ≡ Some entry.Dir
    is_directory None i is = let clash : None ≡ Some i = is in cc
    is_directory (Some e) i is = by (is_directory_mode e.mode) is
      where
        by : (b : Bool) → (if b then Some e.id else None) ≡ Some i → Some (if b then entry.Dir else entry.File e.id e.mode e.mtime e.modifier e.size) ≡ Some entry.Dir
        by true is = refl
        by false is = let clash : None ≡ Some i = is in cc

    -- below a directory
    goes_on : (name next : List ℕ) (path : PathV) (i : List ℕ) → directory_in (entry_named name so.dirents) ≡ Some i
        → entry_in before so.dirents (name ∷ next ∷ path) ≡ entry_in before (dirents_at before i) (next ∷ path)
    goes_on name next path i is = ap (option_and_then (λ i. entry_in before (dirents_at before i) (next ∷ path))) is

    -- which lists none
    none_below : (name next : List ℕ) (i : List ℕ) → directory_in (entry_named name so.dirents) ≡ Some i → (o : Option Dirent) → entry_named next (dirents_at before i) ≡ o → directory_in o ≡ None
    none_below name next i is o found = by (directory_in o) refl
      where
        by : (d : Option (List ℕ)) → directory_in o ≡ d → directory_in o ≡ None
        by None none = none
        by (Some j) there =
            absurd ((flat.at (name ∷ next ∷ []) entry.Dir (told (name ∷ next ∷ []) ∙ (goes_on name next [] i is ∙ (ap (option_map entry_of) found ∙ is_directory o j there)))).1)

    -- so the root isn't below itself
    other_below : (name i : List ℕ) → directory_in (entry_named name so.dirents) ≡ Some i → i ≢ root
    other_below name i is same =
        let listed : dirents_at before i ≡ so.dirents = ap (dirents_at before) same ∙ listed_before in
        let none : directory_in (entry_named name so.dirents) ≡ None = none_below name name i is (entry_named name so.dirents) (ap (entry_named name) listed) in
        let clash : None ≡ Some i = sym none ∙ is in cc

    same_below : (i : List ℕ) → i ≢ root → dirents_at before i ≡ dirents_at objects i
    same_below i other = ap (λ (o : Option (List ℕ)). if is_nil i then [] else entries_of (fs_in (fs_key i) o)) (before_at (fs_key i) ∙ by (same_key (fs_key i) (fs_key root)) refl)
      where
        by : (b : Bool) → same_key (fs_key i) (fs_key root) ≡ b → cond b (Some so.was.bytes) (map.get objects (fs_key i)) ≡ map.get objects (fs_key i)
        by true is = absurd (other (ap (λ (k : Key). k.id) (same_key-true (fs_key i) (fs_key root) is)))
        by false is = refl

    deeper : (name next : List ℕ) (path : PathV) (i : List ℕ) → directory_in (entry_named name so.dirents) ≡ Some i
        → entry_in before (dirents_at before i) (next ∷ path) ≡ entry_in objects (dirents_at objects i) (next ∷ path)
    deeper name next [] i is = ap (λ (es : List Dirent). option_map entry_of (entry_named next es)) (same_below i (other_below name i is))
    deeper name next (third ∷ path) i is =
        let none = none_below name next i is (entry_named next (dirents_at before i)) refl in
        let here : directory_in (entry_named next (dirents_at objects i)) ≡ None = ap (λ (es : List Dirent). directory_in (entry_named next es)) (sym (same_below i (other_below name i is))) ∙ none in
        ap (option_and_then (λ j. entry_in before (dirents_at before j) (third ∷ path))) none
        ∙ sym (ap (option_and_then (λ j. entry_in objects (dirents_at objects j) (third ∷ path))) here)

    entries_now : (path : PathV) → entry_in before so.dirents path ≡ entry_in objects so.text.listed path
    entries_now [] = refl
    entries_now (name ∷ []) = sym (ap (option_map entry_of) (so.text.told name) ∙ same_told (time_of moment) (entry_named name so.dirents))
    entries_now (name ∷ next ∷ path) =
        by (directory_in (entry_named name so.dirents)) refl
        ∙ sym (ap (λ (o : Option Dirent). option_and_then (λ i. entry_in objects (dirents_at objects i) (next ∷ path)) (directory_in o)) (so.text.told name)
        ∙ ap (option_and_then (λ i. entry_in objects (dirents_at objects i) (next ∷ path))) (same_directory (time_of moment) (entry_named name so.dirents)))
      where
        by : (d : Option (List ℕ)) → directory_in (entry_named name so.dirents) ≡ d
            → option_and_then (λ i. entry_in before (dirents_at before i) (next ∷ path)) (directory_in (entry_named name so.dirents))
            ≡ option_and_then (λ i. entry_in objects (dirents_at objects i) (next ∷ path)) (directory_in (entry_named name so.dirents))
        by None is =
            ap (option_and_then (λ i. entry_in before (dirents_at before i) (next ∷ path))) is ∙ sym (ap (option_and_then (λ i. entry_in objects (dirents_at objects i) (next ∷ path))) is)
        by (Some i) is =
            ap (option_and_then (λ i. entry_in before (dirents_at before i) (next ∷ path))) is
            ∙ (deeper name next path i is ∙ sym (ap (option_and_then (λ i. entry_in objects (dirents_at objects i) (next ∷ path))) is))

    -- a directory below the root of before is below this one
    below_now : (q : PathV) (i : List ℕ) → directory_id_in before so.dirents q ≡ Some i → directory_id_in objects so.text.listed q ≡ Some i
    below_now [] i is = is
    below_now (name ∷ []) i is = ap directory_in (so.text.told name) ∙ (same_directory (time_of moment) (entry_named name so.dirents) ∙ is)
    below_now (name ∷ next ∷ q) i is = absurd (nowhere (directory_in (entry_named name so.dirents)) refl is)
      where
        nothing : (path : PathV) (j : List ℕ) → directory_in (entry_named name so.dirents) ≡ Some j → directory_id_in before (dirents_at before j) (next ∷ path) ≡ None
        nothing [] j there = none_below name next j there (entry_named next (dirents_at before j)) refl
        nothing (third ∷ path) j there =
            ap (option_and_then (λ k. directory_id_in before (dirents_at before k) (third ∷ path))) (none_below name next j there (entry_named next (dirents_at before j)) refl)

        nowhere : (o : Option (List ℕ)) → directory_in (entry_named name so.dirents) ≡ o → option_and_then (λ j. directory_id_in before (dirents_at before j) (next ∷ q)) o ≡ Some i → ⊥
        nowhere None there none = none_id i none
        nowhere (Some j) there own = none_id i (sym (nothing q j there) ∙ own)

    -- and so is the key of each
    of_root_now : (key : Key) → key ≡ fs_key key.id → same_key key (fs_key root) ≡ false → IsDirectoryOf before root key.id → IsDirectoryOf objects id key.id
    of_root_now key is other (inl top) =
        absurd (true≢false (sym (ap (λ (k : Key). same_key k (fs_key root)) (is ∙ ap fs_key top) ∙ same_key-itself (fs_key root)) ∙ other))
    of_root_now key is other (inr (q, at)) =
        let was : directory_id_in before so.dirents q ≡ Some key.id = sym (ap (λ (es : List Dirent). directory_id_in before es q) listed_before) ∙ at in
        inr (q, ap (λ (es : List Dirent). directory_id_in objects es q) listed_now ∙ below_now q key.id was)

    times_now : HasTimes objects id moment
    times_now name e found is = by (entry_named name so.dirents) (sym (so.text.told name) ∙ (ap (entry_named name) (sym listed_now) ∙ found))
      where
        at : (d : Dirent) (b : Bool) → is_directory_mode d.mode ≡ b → told_at (time_of moment) d b ≡ e → (e.mode ≡ 16384) × (e.mtime ≡ time_of moment)
        at d true mode same = (sym (ap (λ (x : Dirent). x.mode) same), sym (ap (λ (x : Dirent). x.mtime) same))
        at d false mode same = absurd (true≢false (sym is ∙ (ap (λ (x : Dirent). is_directory_mode x.mode) (sym same) ∙ mode)))

        by : (o : Option Dirent) → option_map (entry_at (time_of moment)) o ≡ Some e → (e.mode ≡ 16384) × (e.mtime ≡ time_of moment)
        by None none = absurd (none_some e none)
        by (Some d) told = let same : entry_at (time_of moment) d ≡ e = cc in at d (is_directory_mode d.mode) refl same

    replaced_root : AreEntriesOf objects id entries × HasTimes objects id moment
    replaced_root = (λ path. told path ∙ (entries_now path ∙ ap (λ (es : List Dirent). entry_in objects es path) (sym listed_now)), times_now)

  pub timed_root : IsTimed (time_of moment) made root new id → IsRootOf moment entries new id
  timed_root (inl (zeros, none, same)) = zeros_root zeros none same
  timed_root (inr so) = λ objects keeps. replaced_root so objects keeps

  -- each key of what was made is the root's, or that of a directory below it
  module _ (named : AreNamed made) (needed : (i : List ℕ) → HasMade made i → (objects : Objects) → Keeps made objects → IsDirectoryOf objects root i) where
    of_name : (key : Key) (o : Option (List ℕ)) → map.get made key ≡ o → is_some o ≡ true → (key ≡ fs_key key.id) × (key.id ≢ nil)
    of_name key None at is = absurd (false≢true is)
    of_name key (Some bytes) at is =
        let own = named key bytes at in
        let same : key ≡ fs_key key.id = ap (λ (k : Kind). record { kind = k; id = key.id }) own.is_fs in
        (same, own.some)

    made_of : AreOfRoot made root
    made_of key there =
        let own = of_name key (map.get made key) refl there in
        record { is_fs = own.0; some = own.1; reached = needed key.id (subst (λ (k : Key). is_stored made k ≡ true) own.0 there) }

    replaced_of : IsReplaced (time_of moment) made root new id → AreOfRoot new id
    replaced_of so key there = by (same_key key (fs_key id)) refl (same_key key (fs_key root)) refl (sym (ap is_some (new_at so new (keeps_itself new) key)) ∙ there)
      where
        by : (own : Bool) → same_key key (fs_key id) ≡ own → (top : Bool) → same_key key (fs_key root) ≡ top
            → is_some (cond own (Some so.bytes) (cond top None (map.get made key))) ≡ true → IsOfRoot new id key
        by true own top is stored =
            let same : key ≡ fs_key id = same_key-true key (fs_key id) own in
            subst (IsOfRoot new id) (sym same) (record { is_fs = refl; some = so.placed.some; reached = λ objects keeps. inl refl })
        by false own true is stored = absurd (false≢true stored)
        by false own false is stored =
            let was = made_of key stored in
            record { is_fs = was.is_fs; some = was.some; reached = λ objects keeps. of_root_now so objects keeps key was.is_fs is (was.reached (before so objects keeps) (before_keeps so objects keeps)) }

    pub timed_of : IsTimed (time_of moment) made root new id → AreOfRoot new id
    timed_of (inl (zeros, none, same)) =
        let one : root ≡ id = zeros ∙ sym none in
        subst (λ (m : Objects). AreOfRoot m id) (sym same) (subst (AreOfRoot made) one made_of)
    timed_of (inr so) = replaced_of so

-- ---- what a commit lists stays where what it needs does

-- the traversal of a complete commit reaches its root, and what it met there is alike in both
record RootAlike (A B : Objects) (commit : Commit) : Type 0 where
  visits : List Key
  ran : Ran (walk_object true A (walk_below true A MAX_NAMES) true [] commit.root) visits
  agree : AgreeOn visits A B

root_alike : (A B : Objects) (id : List ℕ) (commit : Commit) → IsComplete A id → commit_at A id ≡ Ok commit → AgreeOn (needs A id) A B → RootAlike A B commit
root_alike A B id commit complete read agree =
    let own = root_ran A id complete in
    let one : own.commit ≡ commit = cc (own.read, read) in
    subst (RootAlike A B) one (record {
      visits = (walk_root true A own.commit.root (visited (commit_key id) start)).visits;
      ran = ran_root true A own.commit.root (visited (commit_key id) start) own.none;
      agree = subst (λ (w : Walk). AgreeOn w.visits A B) own.is (agree_needs A B id agree);
    })

pub entries_stay : (A B : Objects) (id : List ℕ) (commit : Commit) (entries : Entries) → IsComplete A id → commit_at A id ≡ Ok commit → AgreeOn (needs A id) A B
    → AreEntriesOf A commit.root entries → AreEntriesOf B commit.root entries
entries_stay A B id commit entries complete read agree are path =
    let alike = root_alike A B id commit complete read agree in
    are path ∙ sym (same_found true A B path MAX_NAMES [] commit.root alike.visits alike.ran alike.agree)

pub times_stay : (A B : Objects) (id : List ℕ) (commit : Commit) (moment : ℕ) → IsComplete A id → commit_at A id ≡ Ok commit → AgreeOn (needs A id) A B → HasTimes A commit.root moment
    → HasTimes B commit.root moment
times_stay A B id commit moment complete read agree times name e found is =
    let alike = root_alike A B id commit complete read agree in
    times name e (sym (ap (entry_named name) (same_dirents true A B MAX_NAMES [] commit.root alike.visits alike.ran alike.agree)) ∙ found) is

-- The objects that are made are directories of the tree, of which some are kept by their ids. The key lemmas are dirs_start, dirs_more, dirs_all and clash_here.
use Rattle.std.proofs.Common.{◌≡◌, ◌≢◌, ℕ, Bool, true, false, if◌then◌else◌, List, [], ◌∷◌, ◌++◌, refl, sym, ap, ap₂, ◌∙◌, subst, All, Option, Some, None, is_some, IsSome, option_map, Result, Ok, Less, ◌⊎◌, inl, inr, true≢false}
use Rattle.std.specs.FinMap as map
use Rattle.std.specs.List.{IsDistinct}
use Rattle.std.specs.Str.{bytes_eq}
use Rattle.ids.specs.Key.{Objects, key_cmp}
use Rattle.ids.specs.ObjectId.{nil}
use Rattle.ids.specs.declared.key.Key.{Key}
use Rattle.tree_model.specs.Path.{PathV, path_cmp}
use Rattle.tree_model.proofs.ListedLemmas.{same_path, same_path-true}
use Rattle.fs_objects.specs.Directory.{names_of}
use Rattle.fs_objects.specs.FsObject.{fs_of}
use Rattle.fs_objects.specs.Mode.{is_file_mode, is_directory_mode}
use Rattle.fs_objects.specs.Proper.{IsProperEntry}
use Rattle.fs_objects.specs.Spelling.{in_written_order}
use Rattle.fs_objects.specs.declared.dirent.Dirent.{Dirent}
use Rattle.fs_objects.specs.declared.fault.BadFs.{BadFs}
use Rattle.fs_objects.specs.declared.fs_object.FsObject.{FsObject}
use Rattle.fs_objects.specs.declared.fs_object.FsObject.TheVariants as fs
use Rattle.object_graph.specs.Objects.{fs_key, entry_named, entry_of}
use Rattle.object_graph.specs.Unchanged.{Keeps}
use Rattle.object_graph.specs.declared.entry.Entry.{Entry}
use Rattle.object_graph.specs.declared.entry.Entry.TheVariants.{Dir, File}
use Rattle.tree_merge.specs.Sides.{Entries}
use Rattle.tree_merge.specs.TreeBuilding.{Given, AreDirectoriesOver, AreNamed, HasMade, IsClash, IsDirectoryText, IsEntryListed, IsNilMadeOrKept, IsNilOrMade, IsNilWhereEmpty, IsOwnListed, IsOwnName, IsRefusedList, IsShownPart, IsWritten, Lists}
use Rattle.tree_merge.proofs.BuiltSoFarLemmas.{BuiltSo}
use Rattle.tree_merge.proofs.BuildingLemmas.{entry_name, no_directory}
use Rattle.object_graph.proofs.EntryLemmas.{named_name}
use Rattle.tree_merge.proofs.DirentLemmas.{same_name, written_listing}
use Rattle.tree_merge.proofs.EmptyDirectoryLemmas.{nil_where_empty, some_written}
use Rattle.tree_merge.proofs.MadeLemmas.{kept_itself}

-- ---- ids of what was made

has_more : (M M2 : Objects) (i : List ℕ) → Keeps M M2 → HasMade M i → HasMade M2 i
has_more M M2 i keeps has = by (map.get M (fs_key i)) refl has
  where
    by : (o : Option (List ℕ)) → map.get M (fs_key i) ≡ o → IsSome o → HasMade M2 i
    by None is some = cc some
    by (Some bytes) is some = ap is_some (keeps.kept (fs_key i) bytes is)

nil_or_more : (K : PathV → Option (List ℕ)) (M M2 : Objects) (i : List ℕ) → Keeps M M2 → IsNilMadeOrKept K M i → IsNilMadeOrKept K M2 i
nil_or_more K M M2 i keeps (inl (inl is)) = inl (inl is)
nil_or_more K M M2 i keeps (inl (inr has)) = inl (inr (has_more M M2 i keeps has))
nil_or_more K M M2 i keeps (inr kept) = inr kept

same_made : (M : Objects) (key : Key) (bytes other : List ℕ) → map.get M key ≡ Some bytes → map.get M key ≡ Some other → bytes ≡ other
same_made M key bytes other is also = let both : Some bytes ≡ Some other = sym is ∙ also in cc

of_key : (key : Key) (bytes : List ℕ) → IsOwnName key bytes → key ≡ fs_key key.id
of_key key bytes own = ap (λ k. record { kind = k; id = key.id }) own.is_fs

-- an object that is new
record IsFresh (K : PathV → Option (List ℕ)) (W : Entries) (M : Objects) (i : List ℕ) : Type 0 where
  bytes : List ℕ
  there : map.get M (fs_key i) ≡ Some bytes
  text : IsDirectoryText W bytes
  below : (dirents : List Dirent) → fs_of bytes ≡ Ok (fs.Dir dirents) → (name : List ℕ) (e : Dirent) → entry_named name dirents ≡ Some e → is_directory_mode e.mode ≡ true → IsNilMadeOrKept K M e.id

-- what is said of the bytes of each object
abbrev IsGood : (PathV → Option (List ℕ)) → Entries → Objects → List ℕ → Type 0
IsGood K W M bytes =
    IsDirectoryText W bytes × ((dirents : List Dirent) → fs_of bytes ≡ Ok (fs.Dir dirents) → (name : List ℕ) (e : Dirent) → entry_named name dirents ≡ Some e
    → is_directory_mode e.mode ≡ true → IsNilMadeOrKept K M e.id)

module _ (K : PathV → Option (List ℕ)) (W : Entries) (M M2 : Objects) (dirs : AreDirectoriesOver K W M) (keeps : Keeps M M2) (named : AreNamed M2) (told : (i : List ℕ) → HasMade M2 i → (HasMade M i) ⊎ IsFresh K W M2 i) where
  good_old : (key : Key) (bytes : List ℕ) → map.get M2 key ≡ Some bytes → (o : Option (List ℕ)) → map.get M key ≡ o → IsSome o → IsGood K W M2 bytes
  good_old key bytes there None is some = cc some
  good_old key bytes there (Some other) is some =
      subst (IsGood K W M2) (same_made M2 key other bytes (keeps.kept key other is) there)
      (dirs.texts key other is, λ dirents reads name e found dir. nil_or_more K M M2 e.id keeps (dirs.below key other is dirents reads name e found dir))

  good_now : (key : Key) (bytes : List ℕ) → map.get M2 key ≡ Some bytes → IsGood K W M2 bytes
  good_now key bytes there =
      let own : key ≡ fs_key key.id = of_key key bytes (named key bytes there) in
      let here : map.get M2 (fs_key key.id) ≡ Some bytes = ap (map.get M2) (sym own) ∙ there in
      elim (told key.id (ap is_some here)) [
        | inl has ↦ good_old (fs_key key.id) bytes here (map.get M (fs_key key.id)) refl has
        | inr fresh ↦ subst (IsGood K W M2) (same_made M2 (fs_key key.id) fresh.bytes bytes fresh.there here) (fresh.text, fresh.below)
      ]

  dirs_grown : AreDirectoriesOver K W M2
  dirs_grown = record { texts = λ key bytes there. (good_now key bytes there).0; below = λ key bytes there. (good_now key bytes there).1 }

-- ---- the invariant

pub record DirsSo (K : PathV → Option (List ℕ)) (W : Entries) (H : PathV → List Dirent) (M : Objects) : Type 0 where
  pub made : AreDirectoriesOver K W M
  pub held : (d : PathV) (n : List ℕ) (e : Dirent) → entry_named n (H d) ≡ Some e → is_directory_mode e.mode ≡ true → IsNilMadeOrKept K M e.id
  pub zeros : (d : PathV) (n : List ℕ) (e : Dirent) → entry_named n (H d) ≡ Some e → is_directory_mode e.mode ≡ true → IsNilWhereEmpty W (d ++ n ∷ []) e.id

pub dirs_start : (K : PathV → Option (List ℕ)) (W : Entries) (H : PathV → List Dirent) (M : Objects) → ((d : PathV) → H d ≡ []) → M ≡ map.empty → DirsSo K W H M
dirs_start K W H M none empty = record {
  made = record { texts = λ key bytes there. absurd (nothing key bytes there); below = λ key bytes there. absurd (nothing key bytes there) };
  held = λ d n e is dir. absurd (no_entry d n e is);
  zeros = λ d n e is dir. absurd (no_entry d n e is);
}
  where
    nothing : (key : Key) (bytes : List ℕ) → map.get M key ≡ Some bytes → ⊥
    nothing key bytes there = let both : None ≡ Some bytes = sym (ap (λ (m : Objects). map.get m key) empty ∙ map.get-empty key_cmp key) ∙ there in cc

    no_entry : (d : PathV) (n : List ℕ) (e : Dirent) → entry_named n (H d) ≡ Some e → ⊥
    no_entry d n e is = let both : None ≡ Some e = sym (ap (entry_named n) (none d)) ∙ is in cc

-- the text of what a directory holds, all of whose entries are listed
pub text_here : (stored : Given) (K : PathV → Option (List ℕ)) (W N R : Entries) (H : PathV → List Dirent) (M : Objects) → BuiltSo stored K W N R H M → DirsSo K W H M → (path : PathV) → (path ≡ []) ⊎ IsSome (map.get R path) → (path ≡ []) ⊎ (map.get W path ≡ Some Dir) → K path ≡ None
    → ((name : List ℕ) → map.get R (path ++ name ∷ []) ≡ None) → IsDistinct bytes_eq (names_of (H path)) → H path ≢ [] → (bytes : List ℕ)
    → (All IsProperEntry (H path) → fs_of bytes ≡ Ok (fs.Dir (in_written_order (H path)))) → IsDirectoryText W bytes
text_here stored K W N R H M so dirs path waits is_dir is_open gone distinct some bytes reads = record {
  path = path;
  is_dir = is_dir;
  dirents = in_written_order (H path);
  reads = reads (so.proper path);
  some = some_written (H path) distinct some;
  told = λ name. ap (option_map entry_of) (written_listing (H path) distinct name) ∙ so.done M (kept_itself M) path name [] (inl refl) waits is_open (gone name);
  zeros = λ name e found dir. dirs.zeros path name e (sym (written_listing (H path) distinct name) ∙ found) dir;
}

-- and what it lists
below_here : (K : PathV → Option (List ℕ)) (H : PathV → List Dirent) (M M2 : Objects) → Keeps M M2 → ((d : PathV) (n : List ℕ) (e : Dirent) → entry_named n (H d) ≡ Some e → is_directory_mode e.mode ≡ true → IsNilMadeOrKept K M e.id)
    → (path : PathV) → IsDistinct bytes_eq (names_of (H path)) → (bytes : List ℕ) → fs_of bytes ≡ Ok (fs.Dir (in_written_order (H path)))
    → (dirents : List Dirent) → fs_of bytes ≡ Ok (fs.Dir dirents) → (name : List ℕ) (e : Dirent) → entry_named name dirents ≡ Some e → is_directory_mode e.mode ≡ true → IsNilMadeOrKept K M2 e.id
below_here K H M M2 keeps held path distinct bytes reads dirents also name e found dir =
    nil_or_more K M M2 e.id keeps
    (held path name e (sym (written_listing (H path) distinct name) ∙ ap (entry_named name) (one (in_written_order (H path)) dirents (sym reads ∙ also)) ∙ found) dir)
  where
    one : (es more : List Dirent) → (let r : Result FsObject BadFs = Ok (fs.Dir es) in r) ≡ Ok (fs.Dir more) → es ≡ more
    one es more e = cc

-- a directory that is made is new, or was made before
fresh_here : (stored : Given) (K : PathV → Option (List ℕ)) (W N R : Entries) (H : PathV → List Dirent) (M M2 : Objects) → BuiltSo stored K W N R H M → DirsSo K W H M → (path : PathV) → (path ≡ []) ⊎ IsSome (map.get R path) → (path ≡ []) ⊎ (map.get W path ≡ Some Dir) → K path ≡ None
    → ((name : List ℕ) → map.get R (path ++ name ∷ []) ≡ None) → Keeps M M2 → AreNamed M2 → (i : List ℕ) → Lists M2 i (H path) → HasMade M2 i → IsFresh K W M2 i
fresh_here stored K W N R H M M2 so dirs path waits is_dir is_open gone keeps named i lists has = by (map.get M2 (fs_key i)) refl has lists.written
  where
    by : (o : Option (List ℕ)) → map.get M2 (fs_key i) ≡ o → IsSome o → (i ≡ nil) ⊎ IsWritten M2 i (H path) → IsFresh K W M2 i
    by None there some written = cc some
    by (Some bytes) there some (inl zeros) = absurd ((named (fs_key i) bytes there).some zeros)
    by (Some bytes) there some (inr written) = record {
      bytes = written.bytes;
      there = written.there;
      text = text_here stored K W N R H M so dirs path waits is_dir is_open gone lists.distinct written.some written.bytes written.reads;
      below = below_here K H M M2 keeps dirs.held path lists.distinct written.bytes (written.reads (so.proper path));
    }

nil_or_written : (M : Objects) (i : List ℕ) (es : List Dirent) → Lists M i es → IsNilOrMade M i
nil_or_written M i es lists = by lists.written
  where
    by : (i ≡ nil) ⊎ IsWritten M i es → IsNilOrMade M i
    by (inl zeros) = inl zeros
    by (inr written) = inr (ap is_some written.there)

-- ---- one entry more

named_pushed : (es : List Dirent) (e f : Dirent) (n : List ℕ) → entry_named n (es ++ e ∷ []) ≡ Some f → (entry_named n es ≡ Some f) ⊎ (e ≡ f)
named_pushed [] e f n = by (same_name n e.name)
  where
    by : (b : Bool) → (if b then Some e else None) ≡ Some f → (None ≡ Some f) ⊎ (e ≡ f)
    by true is = inr cc
    by false is = inl is
named_pushed (x ∷ es) e f n = by (same_name n x.name) (named_pushed es e f n)
  where
    by : (b : Bool) → (entry_named n (es ++ e ∷ []) ≡ Some f → (entry_named n es ≡ Some f) ⊎ (e ≡ f))
        → (if b then Some x else entry_named n (es ++ e ∷ [])) ≡ Some f → ((if b then Some x else entry_named n es) ≡ Some f) ⊎ (e ≡ f)
    by true more is = inl is
    by false more is = more is

module _ (stored : Given) (K : PathV → Option (List ℕ)) (W N R : Entries) (H H2 : PathV → List Dirent) (M M2 : Objects) (path d : PathV) (n : List ℕ) (x : Entry) (e : Dirent)
    (part : IsShownPart stored K W N) (so : BuiltSo stored K W N R H M) (dirs : DirsSo K W H M) (split : path ≡ d ++ n ∷ []) (there : map.get R path ≡ Some x)
    (behind : (q : PathV) → path_cmp path q ≡ Less → map.get R q ≡ None) (children : (name : List ℕ) → path_cmp path (path ++ name ∷ []) ≡ Less)
    (made : IsEntryListed M2 n (K path) x (H path) e) (keeps : Keeps M M2) (named : AreNamed M2) (told : (id : List ℕ) → HasMade M2 id → (HasMade M id) ⊎ IsOwnListed (K path) x e id)
    (listed : (q : PathV) → H2 q ≡ (if same_path q d then (if same_path q path then [] else H q) ++ e ∷ [] else (if same_path q path then [] else H q))) where
  whole_there : map.get W path ≡ Some x
  whole_there = let given = sym (so.still path (ap is_some there)) ∙ there in sym (part.shown path (ap is_some given)) ∙ given

  own_id : is_directory_mode e.mode ≡ true → IsNilMadeOrKept K M2 e.id
  own_id dir = by (K path) refl x made whole_there
    where
      by : (o : Option (List ℕ)) → K path ≡ o → (y : Entry) → IsEntryListed M2 n o y (H path) e → map.get W path ≡ Some y → IsNilMadeOrKept K M2 e.id
      by None kept_is Dir h is = inl (nil_or_written M2 e.id (H path) h.lists)
      by (Some own) kept_is Dir h is = inr (path, kept_is ∙ ap (λ (f : Dirent). Some f.id) (sym h))
      by o kept_is (File id mode mtime modifier size) h is = absurd (true≢false (sym dir ∙ ap (λ (f : Dirent). is_directory_mode f.mode) h ∙ no_directory mode file))
        where
          file : is_file_mode mode ≡ true
          file = part.sound.modes path (record { id = id; mode = mode; mtime = mtime; modifier = modifier; size = size }) is

  own_zeros : is_directory_mode e.mode ≡ true → IsNilWhereEmpty W path e.id
  own_zeros dir = by (K path) refl x made whole_there
    where
      by : (o : Option (List ℕ)) → K path ≡ o → (y : Entry) → IsEntryListed M2 n o y (H path) e → map.get W path ≡ Some y → IsNilWhereEmpty W path e.id
      by (Some own) kept_is Dir h is = subst (IsNilWhereEmpty W path) (ap (λ (f : Dirent). f.id) (sym h)) (part.some path own kept_is)
      by None kept_is Dir h is =
          nil_where_empty W M2 path e.id (H path) (so.proper path) h.lists
          (λ name. so.done M (kept_itself M) path name [] (inl refl) (inr (ap is_some there)) kept_is (behind (path ++ name ∷ []) (children name)))
      by o kept_is (File id mode mtime modifier size) h is = absurd (true≢false (sym dir ∙ ap (λ (f : Dirent). is_directory_mode f.mode) h ∙ no_directory mode file))
        where
          file : is_file_mode mode ≡ true
          file = part.sound.modes path (record { id = id; mode = mode; mtime = mtime; modifier = modifier; size = size }) is

  told_more : (i : List ℕ) → HasMade M2 i → (HasMade M i) ⊎ IsFresh K W M2 i
  told_more i has = elim (told i has) [ inl old ↦ inl old | inr own ↦ inr (by (K path) refl x made whole_there own) ]
    where
      by : (o : Option (List ℕ)) → K path ≡ o → (y : Entry) → IsEntryListed M2 n o y (H path) e → map.get W path ≡ Some y → IsOwnListed o y e i → IsFresh K W M2 i
      by (Some own_id) kept_is y h is own = absurd own
      by None kept_is Dir h is own =
          fresh_here stored K W N R H M M2 so dirs path (inr (ap is_some there)) (inr is) kept_is (λ name. behind (path ++ name ∷ []) (children name)) keeps named i
          (subst (λ (j : List ℕ). Lists M2 j (H path)) (sym own) h.lists) has
      by None kept_is (File id mode mtime modifier size) h is own = absurd own

  held_more : (q : PathV) (k : List ℕ) (f : Dirent) → entry_named k (H2 q) ≡ Some f → is_directory_mode f.mode ≡ true → IsNilMadeOrKept K M2 f.id
  held_more q k f found dir = by (same_path q d) (same_path q path) (ap (entry_named k) (sym (listed q)) ∙ found)
    where
      pushed : (es : List Dirent) → (entry_named k es ≡ Some f → IsNilMadeOrKept K M2 f.id) → entry_named k (es ++ e ∷ []) ≡ Some f → IsNilMadeOrKept K M2 f.id
      pushed es old is =
          elim (named_pushed es e f k is) [
            | inl before ↦ old before
            | inr same ↦ subst (λ (y : Dirent). IsNilMadeOrKept K M2 y.id) same (own_id (ap (λ (y : Dirent). is_directory_mode y.mode) same ∙ dir))
          ]

      old : entry_named k (H q) ≡ Some f → IsNilMadeOrKept K M2 f.id
      old is = nil_or_more K M M2 f.id keeps (dirs.held q k f is dir)

      nothing : None ≡ Some f → IsNilMadeOrKept K M2 f.id
      nothing is = cc

      by : (b c : Bool) → entry_named k (if b then (if c then [] else H q) ++ e ∷ [] else (if c then [] else H q)) ≡ Some f → IsNilMadeOrKept K M2 f.id
      by true true is = pushed [] nothing is
      by true false is = pushed (H q) old is
      by false true is = nothing is
      by false false is = old is

  -- the new entry, found by a name, has its own name
  zeros_new : (q : PathV) (es : List Dirent) (k : List ℕ) (f : Dirent) → q ≡ d → entry_named k es ≡ Some f → e ≡ f → is_directory_mode f.mode ≡ true → IsNilWhereEmpty W (q ++ k ∷ []) f.id
  zeros_new q es k f at found same dir =
      let name : k ≡ n = named_name k es f found ∙ ap (λ (y : Dirent). y.name) (sym same) ∙ entry_name M2 n (K path) x (H path) e made in
      let place : path ≡ q ++ k ∷ [] = split ∙ ap₂ (λ (p : PathV) (m : List ℕ). p ++ m ∷ []) (sym at) (sym name) in
      subst (λ (p : PathV). IsNilWhereEmpty W p f.id) place
      (subst (λ (y : Dirent). IsNilWhereEmpty W path y.id) same (own_zeros (ap (λ (y : Dirent). is_directory_mode y.mode) same ∙ dir)))

  zeros_more : (q : PathV) (k : List ℕ) (f : Dirent) → entry_named k (H2 q) ≡ Some f → is_directory_mode f.mode ≡ true → IsNilWhereEmpty W (q ++ k ∷ []) f.id
  zeros_more q k f found dir = by (same_path q d) (same_path q path) refl (ap (entry_named k) (sym (listed q)) ∙ found)
    where
      pushed : (es : List Dirent) → same_path q d ≡ true → (entry_named k es ≡ Some f → IsNilWhereEmpty W (q ++ k ∷ []) f.id) → entry_named k (es ++ e ∷ []) ≡ Some f → IsNilWhereEmpty W (q ++ k ∷ []) f.id
      pushed es tie old is =
          elim (named_pushed es e f k is) [ inl before ↦ old before | inr same ↦ zeros_new q (es ++ e ∷ []) k f (same_path-true q d tie) is same dir ]

      old : entry_named k (H q) ≡ Some f → IsNilWhereEmpty W (q ++ k ∷ []) f.id
      old is = dirs.zeros q k f is dir

      nothing : None ≡ Some f → IsNilWhereEmpty W (q ++ k ∷ []) f.id
      nothing is = absurd (no_entry f is)
        where
          no_entry : (g : Dirent) → None ≡ Some g → ⊥
          no_entry g is = cc

      by : (b c : Bool) → same_path q d ≡ b → entry_named k (if b then (if c then [] else H q) ++ e ∷ [] else (if c then [] else H q)) ≡ Some f → IsNilWhereEmpty W (q ++ k ∷ []) f.id
      by true true tie is = pushed [] tie nothing is
      by true false tie is = pushed (H q) tie old is
      by false true tie is = nothing is
      by false false tie is = old is

  pub dirs_more : DirsSo K W H2 M2
  dirs_more = record { made = dirs_grown K W M M2 dirs.made keeps named told_more; held = held_more; zeros = zeros_more }

-- ---- at the end

pub dirs_all : (stored : Given) (K : PathV → Option (List ℕ)) (W N R : Entries) (H : PathV → List Dirent) (M M2 : Objects) (root : List ℕ) → IsShownPart stored K W N → BuiltSo stored K W N R H M → DirsSo K W H M → ((q : PathV) → map.get R q ≡ None) → Keeps M M2 → AreNamed M2
    → Lists M2 root (H []) → ((id : List ℕ) → HasMade M2 id → (HasMade M id) ⊎ (id ≡ root)) → AreDirectoriesOver K W M2 × IsNilOrMade M2 root
dirs_all stored K W N R H M M2 root part so dirs none keeps named lists told = (
  dirs_grown K W M M2 dirs.made keeps named told_more,
  nil_or_written M2 root (H []) lists,
)
  where
    told_more : (i : List ℕ) → HasMade M2 i → (HasMade M i) ⊎ IsFresh K W M2 i
    told_more i has =
        elim (told i has) [
          | inl old ↦ inl old
          | inr own ↦ inr (fresh_here stored K W N R H M M2 so dirs [] (inl refl) (inl refl) part.top (λ name. none (name ∷ [])) keeps named i (subst (λ (j : List ℕ). Lists M2 j (H [])) (sym own) lists) has)
        ]

pub root_nil : (stored : Given) (K : PathV → Option (List ℕ)) (W N R : Entries) (H : PathV → List Dirent) (M M2 : Objects) (root : List ℕ) → IsShownPart stored K W N → BuiltSo stored K W N R H M → ((q : PathV) → map.get R q ≡ None)
    → Lists M2 root (H []) → IsNilWhereEmpty W [] root
root_nil stored K W N R H M M2 root part so none lists =
    nil_where_empty W M2 [] root (H []) (so.proper []) lists (λ name. so.done M (kept_itself M) [] name [] (inl refl) (inl refl) part.top (none (name ∷ [])))

-- ---- a directory that can't be made

pub clash_here : (stored : Given) (K : PathV → Option (List ℕ)) (W N R : Entries) (H : PathV → List Dirent) (M : Objects) (path : PathV) (id : List ℕ) → BuiltSo stored K W N R H M → DirsSo K W H M → AreNamed M
    → (path ≡ []) ⊎ IsSome (map.get R path) → (path ≡ []) ⊎ (map.get W path ≡ Some Dir) → K path ≡ None → ((name : List ℕ) → map.get R (path ++ name ∷ []) ≡ None)
    → IsRefusedList M (H path) id → IsClash W id
clash_here stored K W N R H M path id so dirs named waits is_dir is_open gone refused = record {
  bytes = refused.bytes;
  own = refused.refused.own;
  text = text_here stored K W N R H M so dirs path waits is_dir is_open gone refused.distinct refused.some refused.bytes refused.reads;
  clash =
      elim refused.refused.clash [
        | inl zeros ↦ inl zeros
        | inr other ↦ inr (other.0, other.1, (named (fs_key id) other.0 other.2).is_sha1, dirs.made.texts (fs_key id) other.0 other.2)
      ];
}

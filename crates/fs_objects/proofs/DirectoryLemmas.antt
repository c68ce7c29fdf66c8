-- One step of reading entries: what an entry adds to the earlier ones and to their names.
-- The key lemmas are entries_after-ok, entries_after-err and IsDistinct-names_push.
use Rattle.std.proofs.Common.{◌≡◌, ℕ, List, [], ◌∷◌, ◌++◌, ◌||◌, length, Bool, true, false, not, Result, Ok, Err, refl, ap, ◌∙◌}
use Rattle.std.specs.List.{IsDistinct}
use Rattle.std.specs.Str.{bytes_eq}
use Rattle.std.proofs.lemmas.List.Folds.{list_any-append}
use Rattle.std.proofs.lemmas.Cmp.{nat_list_eq_equiv}
use Rattle.std.proofs.lemmas.List.{map-append}
use Rattle.std.proofs.lemmas.Map.Keys.{IsDistinct-push}
use Rattle.serde_json.specs.Data.{Data}
use Rattle.json_words.specs.Check.{◌>>=◌, holds}
use Rattle.fs_objects.specs.Directory.{Head, Details, names_of, is_taken, head_of, details_of, entry_from, entry_of, entries_after}
use Rattle.fs_objects.specs.declared.dirent.Dirent.{Dirent}
use Rattle.fs_objects.specs.declared.fault.BadFs.{BadFs}
use Rattle.fs_objects.specs.declared.fault.BadFs.TheVariants.{Twice}

-- ---- one entry

-- a head that fails is the answer
pub entry_of-bad_head : (earlier : List Dirent) (d : Data) (bad : BadFs) → head_of (length earlier) d ≡ Err bad → entry_of earlier d ≡ Err bad
unfolding entry_of
entry_of-bad_head earlier d bad is = rw is

-- a name that is taken is the answer
pub entry_of-twice : (earlier : List Dirent) (d : Data) (head : Head) → head_of (length earlier) d ≡ Ok head → is_taken (names_of earlier) head.name ≡ true → entry_of earlier d ≡ Err (Twice (length earlier))
unfolding entry_of
entry_of-twice earlier d head is taken = rw (is, taken)

-- else the rest of the entry is
pub entry_of-new : (earlier : List Dirent) (d : Data) (head : Head) → head_of (length earlier) d ≡ Ok head → is_taken (names_of earlier) head.name ≡ false → entry_of earlier d ≡ entry_from head d
unfolding entry_of
entry_of-new earlier d head is new = rw (is, new)

pub entries_after-ok : (earlier : List Dirent) (d : Data) (ds : List Data) (entry : Dirent) → entry_of earlier d ≡ Ok entry → entries_after earlier (d ∷ ds) ≡ entries_after (earlier ++ entry ∷ []) ds
entries_after-ok earlier d ds entry is = ap (λ r. r >>= (λ e. entries_after (earlier ++ e ∷ []) ds)) is

pub entries_after-err : (earlier : List Dirent) (d : Data) (ds : List Data) (bad : BadFs) → entry_of earlier d ≡ Err bad → entries_after earlier (d ∷ ds) ≡ Err bad
entries_after-err earlier d ds bad is = ap (λ r. r >>= (λ e. entries_after (earlier ++ e ∷ []) ds)) is

-- ---- the names of the entries

-- which names are taken after one entry more
pub is_taken-push : (earlier : List Dirent) (entry : Dirent) (name : List ℕ) → is_taken (names_of (earlier ++ entry ∷ [])) name ≡ (is_taken (names_of earlier) name || (bytes_eq name entry.name || false))
is_taken-push earlier entry name =
    ap (λ names. is_taken names name) (map-append (λ (e : Dirent). e.name) earlier (entry ∷ [])) ∙ list_any-append (bytes_eq name) (names_of earlier) (entry.name ∷ [])

-- the names stay distinct
pub IsDistinct-names_push : (earlier : List Dirent) (entry : Dirent) → IsDistinct bytes_eq (names_of earlier) → is_taken (names_of earlier) entry.name ≡ false → IsDistinct bytes_eq (names_of (earlier ++ entry ∷ []))
IsDistinct-names_push earlier entry distinct new =
    rw (map-append (λ (e : Dirent). e.name) earlier (entry ∷ [])) (IsDistinct-push nat_list_eq_equiv (names_of earlier) entry.name distinct new)

name_kept : (head : Head) (details : Result Details BadFs) (entry : Dirent)
    → (details >>= (λ found. Ok (record { name = head.name; id = head.id; mode = head.mode; mtime = head.mtime; modifier = found.modifier; size = found.size }))) ≡ Ok entry
    → entry.name ≡ head.name
name_kept head (Ok found) entry is = cc
name_kept head (Err bad) entry is = cc

-- an entry has the name that was read
pub entry_from-name : (head : Head) (d : Data) (entry : Dirent) → entry_from head d ≡ Ok entry → entry.name ≡ head.name
unfolding entry_from
entry_from-name head d entry is = name_kept head (details_of head.mode d) entry is

-- ---- an entry's name is new

taken_at : (earlier : List Dirent) (d : Data) (entry : Dirent) (head : Head) (taken : Bool) → is_taken (names_of earlier) head.name ≡ taken
    → (holds (not taken) (Twice (length earlier)) >>= (λ new. entry_from head d)) ≡ Ok entry → is_taken (names_of earlier) entry.name ≡ false
taken_at earlier d entry head true is whole = absurd (cc)
taken_at earlier d entry head false is whole = ap (is_taken (names_of earlier)) (entry_from-name head d entry whole) ∙ is

taken_after : (earlier : List Dirent) (d : Data) (entry : Dirent) (head : Result Head BadFs)
    → (head >>= (λ h. holds (not (is_taken (names_of earlier) h.name)) (Twice (length earlier)) >>= (λ new. entry_from h d))) ≡ Ok entry → is_taken (names_of earlier) entry.name ≡ false
taken_after earlier d entry (Ok head) whole = taken_at earlier d entry head (is_taken (names_of earlier) head.name) refl whole
taken_after earlier d entry (Err bad) whole = absurd (cc)

pub entry_of-taken : (earlier : List Dirent) (d : Data) (entry : Dirent) → entry_of earlier d ≡ Ok entry → is_taken (names_of earlier) entry.name ≡ false
unfolding entry_of
entry_of-taken earlier d entry whole = taken_after earlier d entry (head_of (length earlier) d) whole

-- ---- tests

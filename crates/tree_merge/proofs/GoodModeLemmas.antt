-- The entries of a directory object have modes of files or of directories. The key lemma is good_modes.
use Rattle.std.proofs.Common.{◌≡◌, ◌||◌, ◌-◌, ◌^◌, ℕ, Bool, true, false, if◌then◌else◌, List, refl, subst, Ok, Err}
use Rattle.std.specs.List.{AllByRecursion}
use Rattle.serde_json.specs.Data.{Data}
use Rattle.json_words.specs.Fields.{number_between}
use Rattle.json_words.proofs.CheckLemmas.{went_on}
use Rattle.fs_objects.specs.Mode.{is_file_mode, is_directory_mode}
use Rattle.fs_objects.specs.Directory.{known_mode, mode_of}
use Rattle.fs_objects.specs.FsKey.{key_text, at_key}
use Rattle.fs_objects.specs.FsObject.{fs_of}
use Rattle.fs_objects.specs.declared.dirent.Dirent.{Dirent}
use Rattle.fs_objects.specs.declared.fault.BadFs.TheVariants.{WrongType}
use Rattle.fs_objects.specs.declared.fault.FsKey.TheVariants.{KMode}
use Rattle.fs_objects.specs.declared.fs_object.FsObject.TheVariants.{Dir}
use Rattle.object_graph.proofs.EntryReadingLemmas.{entry_read, entries_read}

abbrev pub has_known_mode : ℕ → Bool
has_known_mode mode = is_file_mode mode || is_directory_mode mode

abbrev pub Known : Dirent → Type 0
Known e = has_known_mode e.mode ≡ true

mode_known : (n mode : ℕ) → known_mode n ≡ Ok mode → has_known_mode mode ≡ true
unfolding known_mode
mode_known n mode is = by (has_known_mode n) refl is
  where
    by : (b : Bool) → has_known_mode n ≡ b → (if b then Ok n else Err (WrongType KMode)) ≡ Ok mode → has_known_mode mode ≡ true
    by true here is = let one : n ≡ mode = cc in subst (λ m. has_known_mode m ≡ true) one here
    by false here is = cc

mode_read : (d : Data) (mode : ℕ) → mode_of d ≡ Ok mode → has_known_mode mode ≡ true
unfolding mode_of
mode_read d mode is =
    let number = went_on (at_key KMode (number_between 0 (2 ^ 32 - 1) (key_text KMode) d)) _ mode is in
    mode_known number.value mode number.goes

-- the modes of what is read are known
pub good_modes : (bytes : List ℕ) (entries : List Dirent) → fs_of bytes ≡ Ok (Dir entries) → AllByRecursion Known entries
good_modes = entries_read Known (λ earlier d e is. mode_read d e.mode (entry_read earlier d e is).0)

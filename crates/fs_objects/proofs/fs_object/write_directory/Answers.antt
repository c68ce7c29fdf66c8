-- What is written is the value of the directory in written order, and is read as its entries in that order.
use Rattle.std.proofs.Common.{◌≡◌, ◌≤◌, ℕ, List, All, map, false, Some, Ok, sym, ap, subst, ◌∙◌}
use Rattle.std.proofs.lemmas.List.Sorted.{All-permutation}
use Rattle.std.proofs.lemmas.Result.{IfOk-weaker}
use Rattle.std.specs.List.{IsDistinct}
use Rattle.std.specs.Str.{bytes_eq}
use Rattle.serde_json.specs.Data.{Data, depth}
use Rattle.serde_json.specs.View.{view}
use Rattle.serde_json.specs.Written.{compact_text, has_float}
use Rattle.json_words.specs.JsonText.{json_of}
use Rattle.fs_objects.specs.Directory.{names_of}
use Rattle.fs_objects.specs.FsObject.{fs_of}
use Rattle.fs_objects.specs.Proper.{IsProperEntry}
use Rattle.fs_objects.specs.Spelling.{entry_data, directory_with, in_written_order}
use Rattle.fs_objects.specs.Typed.{IsTyped}
use Rattle.fs_objects.specs.declared.dirent.Dirent.{Dirent}
use Rattle.fs_objects.specs.declared.fs_object.FsObject.TheVariants.{Dir}
use Rattle.fs_objects.proofs.DirectoryReadBackLemmas.{object_in-directory_data, is_object-directory_with}
use Rattle.fs_objects.proofs.FileReadBackLemmas.{fs_of-known}
use Rattle.fs_objects.proofs.OrderLemmas.{in_written_order-permutes, IsDistinct-in_written_order}
use Rattle.fs_objects.proofs.TextLemmas.{has_float-directory_with, depth-directory_with}
use Rattle.fs_objects.proofs.fs_object.write_directory.Goals as goal

abbrev HasDistinctNames : List Dirent → Type 0
HasDistinctNames entries = IsDistinct bytes_eq (names_of entries)

pub returns-in_err-value-clause-stays : goal.returns-in_err-value-clause-stays
returns-in_err-value-clause-stays c =
    in_written_order-permutes c.args.directory.now (subst HasDistinctNames c.directory.view_is c.directory.invariant)

pub returns-clause-stays : goal.returns-clause-stays
returns-clause-stays c =
    in_written_order-permutes c.args.directory.now (subst HasDistinctNames c.directory.view_is c.directory.invariant)

pub returns-clause-value : goal.returns-clause-value
returns-clause-value c =
    let written = in_written_order c.args.directory.now in
    let d = view c.in_ok-value.value in
    let same = c.slice.ensures.value ∙ c.directory.view_is in
    let is = c.in_ok-value.ensures.value ∙ ap (λ entries. directory_with (map entry_data (in_written_order entries))) same in
    let P : List ℕ → Type 0 = λ text. has_float d ≡ false → text ≡ compact_text d in
    let Q : List ℕ → Type 0 = λ text. text ≡ compact_text (directory_with (map entry_data written)) in
    IfOk-weaker c.write.result P Q (λ text h. h (ap has_float is ∙ has_float-directory_with written) ∙ ap compact_text is) c.write.ensures.value

pub returns-clause-reads_back : goal.returns-clause-reads_back
returns-clause-reads_back c =
    let entries = c.args.directory.now in
    let written = in_written_order entries in
    let d = view c.in_ok-value.value in
    let same = c.slice.ensures.value ∙ c.directory.view_is in
    let is = c.in_ok-value.ensures.value ∙ ap (λ es. directory_with (map entry_data (in_written_order es))) same in
    let distinct = subst HasDistinctNames c.directory.view_is c.directory.invariant in
    let order = in_written_order-permutes entries distinct in
    let IsShallow : Data → Type 0 = λ v. depth v ≤ 127 in
    let AreTyped : List Dirent → Type 0 = λ es. All IsTyped es in
    let typed = All-permutation IsTyped entries written order (subst AreTyped same c.in_ok-value.ensures.typed) in
    let P : List ℕ → Type 0 = λ text. depth d ≤ 127 → json_of text ≡ Some d in
    let Q : List ℕ → Type 0 = λ text. All IsProperEntry entries → fs_of text ≡ Ok (Dir written) in
    IfOk-weaker c.write.result P Q
    (λ text h proper.
    fs_of-known text (directory_with (map entry_data written)) (h (subst IsShallow (sym is) (depth-directory_with written)) ∙ ap Some is) (is_object-directory_with (map entry_data written))
    ∙ object_in-directory_data written typed (All-permutation IsProperEntry entries written order proper) (IsDistinct-in_written_order entries distinct))
    c.write.ensures.reads_back

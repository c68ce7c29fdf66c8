-- What is written is the file's value, and is read as the file.
use Rattle.std.proofs.Common.{◌≡◌, ◌≢◌, ◌≤◌, ℕ, List, All, map, false, Some, Ok, sym, ap, subst, ◌∙◌}
use Rattle.std.proofs.lemmas.Result.{IfOk-weaker}
use Rattle.ids.specs.ObjectId.{nil}
use Rattle.serde_json.specs.Data.{Data, depth}
use Rattle.serde_json.specs.View.{view}
use Rattle.serde_json.specs.Written.{compact_text, has_float}
use Rattle.json_words.specs.JsonText.{json_of}
use Rattle.fs_objects.specs.FsObject.{fs_of}
use Rattle.json_words.specs.IdText.{id_data, IsId}
use Rattle.fs_objects.specs.Spelling.{file_with, file_data}
use Rattle.fs_objects.specs.declared.fs_object.FsObject.TheVariants.{File}
use Rattle.fs_objects.proofs.FileReadBackLemmas.{fs_of-known, object_in-file_data, is_object-file_data}
use Rattle.fs_objects.proofs.TextLemmas.{has_float-file_data, depth-file_data}
use Rattle.fs_objects.proofs.fs_object.write_file.Goals as goal

pub returns-clause-value : goal.returns-clause-value
returns-clause-value c =
    let file = c.args.file.now in
    let d = view c.in_ok-value.value in
    let is = c.in_ok-value.ensures.value ∙ ap (λ blocks. file_with (map id_data blocks) file.size) c.slice.ensures.value in
    let P : List ℕ → Type 0 = λ text. has_float d ≡ false → text ≡ compact_text d in
    let Q : List ℕ → Type 0 = λ text. text ≡ compact_text (file_data file) in
    IfOk-weaker c.write.result P Q (λ text h. h (ap has_float is ∙ has_float-file_data file) ∙ ap compact_text is) c.write.ensures.value

pub returns-clause-reads_back : goal.returns-clause-reads_back
returns-clause-reads_back c =
    let file = c.args.file.now in
    let d = view c.in_ok-value.value in
    let is = c.in_ok-value.ensures.value ∙ ap (λ blocks. file_with (map id_data blocks) file.size) c.slice.ensures.value in
    let IsShallow : Data → Type 0 = λ v. depth v ≤ 127 in
    let AreIds : List (List ℕ) → Type 0 = λ ids. All IsId ids in
    let typed = subst AreIds c.slice.ensures.value c.in_ok-value.ensures.typed in
    let P : List ℕ → Type 0 = λ text. depth d ≤ 127 → json_of text ≡ Some d in
    let Q : List ℕ → Type 0 = λ text. All (λ id. id ≢ nil) file.blocks → fs_of text ≡ Ok (File file) in
    IfOk-weaker c.write.result P Q
    (λ text h other. fs_of-known text (file_data file) (h (subst IsShallow (sym is) (depth-file_data file)) ∙ ap Some is) (is_object-file_data file) ∙ object_in-file_data file typed other)
    c.write.ensures.reads_back

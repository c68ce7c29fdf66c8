use Rattle.std.proofs.Common.{◌≡◌, ◌≤◌, ◌∙◌, ℕ, List, false, Some, Ok, sym, ap, subst}
use Rattle.std.proofs.lemmas.Result.{IfOk-weaker}
use Rattle.serde_json.specs.Data.{Data, depth}
use Rattle.serde_json.specs.View.{view}
use Rattle.serde_json.specs.Written.{compact_text, has_float}
use Rattle.json_words.specs.JsonText.{json_of}
use Rattle.local_index.specs.IndexText.{index_of}
use Rattle.local_index.specs.IndexSpelling.{index_data, text_of, IsProper}
use Rattle.local_index.proofs.IndexReadBackLemmas.{index_in-data, index_of-known, is_object-index_data}
use Rattle.local_index.proofs.TextLemmas.{has_float-index_data, depth-index_data}
use Rattle.local_index.proofs.index.Index.write.Goals as goal

pub returns-clause-value : goal.returns-clause-value
returns-clause-value c =
    let d = view c.in_ok-value.value in
    let is = c.in_ok-value.ensures.value in
    let P : List ℕ → Type 0 = λ text. has_float d ≡ false → text ≡ compact_text d in
    let Q : List ℕ → Type 0 = λ text. text ≡ text_of c.args.self.now in
    IfOk-weaker c.write.result P Q (λ text h. h (ap has_float is ∙ has_float-index_data c.args.self.now) ∙ ap compact_text is) c.write.ensures.value

pub returns-clause-reads_back : goal.returns-clause-reads_back
returns-clause-reads_back c =
    let index = c.args.self.now in
    let d = view c.in_ok-value.value in
    let is = c.in_ok-value.ensures.value in
    let IsShallow : Data → Type 0 = λ v. depth v ≤ 127 in
    let P : List ℕ → Type 0 = λ text. depth d ≤ 127 → json_of text ≡ Some d in
    let Q : List ℕ → Type 0 = λ text. IsProper index → index_of text ≡ Ok index in
    IfOk-weaker c.write.result P Q
    (λ text h proper.
    index_of-known text (index_data index) (h (subst IsShallow (sym is) (depth-index_data index)) ∙ ap Some is) (is_object-index_data index)
    ∙ index_in-data index proper c.in_ok-value.ensures.typed c.in_ok-value.ensures.library c.in_ok-value.ensures.commit)
    c.write.ensures.reads_back

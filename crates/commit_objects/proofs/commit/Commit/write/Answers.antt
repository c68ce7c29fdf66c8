-- What is written is the commit's value, and is read as the commit.
use Rattle.std.proofs.Common.{◌≡◌, ◌≤◌, ℕ, List, false, Some, Ok, sym, ap, subst, ◌∙◌}
use Rattle.std.proofs.lemmas.Result.{IfOk-weaker}
use Rattle.serde_json.specs.Data.{Data, depth}
use Rattle.serde_json.specs.View.{view}
use Rattle.serde_json.specs.Written.{compact_text, has_float}
use Rattle.json_words.specs.JsonText.{json_of}
use Rattle.commit_objects.specs.Commit.{commit_of}
use Rattle.commit_objects.specs.Proper.{IsProper}
use Rattle.commit_objects.specs.Spelling.{data_of}
use Rattle.commit_objects.proofs.ReadBackLemmas.{commit_of-data_of}
use Rattle.commit_objects.proofs.TextLemmas.{has_float-data_of, depth-data_of}
use Rattle.commit_objects.proofs.commit.Commit.write.Goals as goal

pub returns-clause-value : goal.returns-clause-value
returns-clause-value c =
    let commit = c.args.self.now in
    let d = view c.in_ok-value.value in
    let is = c.in_ok-value.ensures.value in
    let P : List ℕ → Type 0 = λ text. has_float d ≡ false → text ≡ compact_text d in
    let Q : List ℕ → Type 0 = λ text. text ≡ compact_text (data_of commit) in
    IfOk-weaker c.write.result P Q (λ text h. h (ap has_float is ∙ has_float-data_of commit) ∙ ap compact_text is) c.write.ensures.value

pub returns-clause-reads_back : goal.returns-clause-reads_back
returns-clause-reads_back c =
    let commit = c.args.self.now in
    let d = view c.in_ok-value.value in
    let is = c.in_ok-value.ensures.value in
    let IsShallow : Data → Type 0 = λ v. depth v ≤ 127 in
    let P : List ℕ → Type 0 = λ text. depth d ≤ 127 → json_of text ≡ Some d in
    let Q : List ℕ → Type 0 = λ text. IsProper commit → commit_of text ≡ Ok commit in
    IfOk-weaker c.write.result P Q
    (λ text h proper. commit_of-data_of text commit (h (subst IsShallow (sym is) (depth-data_of commit)) ∙ ap Some is) c.in_ok-value.ensures.typed proper)
    c.write.ensures.reads_back

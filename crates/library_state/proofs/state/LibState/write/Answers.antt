-- What is written is the state's value, and is read as the state.
use Rattle.std.proofs.Common.{◌≡◌, ◌≤◌, ℕ, List, false, Some, Ok, sym, ap, subst, ◌∙◌}
use Rattle.std.proofs.lemmas.Result.{IfOk-weaker}
use Rattle.serde_json.specs.Data.{Data, depth}
use Rattle.serde_json.specs.View.{view}
use Rattle.serde_json.specs.Written.{compact_text, has_float}
use Rattle.json_words.specs.JsonText.{json_of}
use Rattle.library_state.specs.StateText.{state_of}
use Rattle.library_state.specs.ProperState.{IsProper}
use Rattle.library_state.specs.StateSpelling.{state_data}
use Rattle.library_state.proofs.StateReadBackLemmas.{state_of-state_data}
use Rattle.library_state.proofs.StateTextLemmas.{has_float-state_data, depth-state_data}
use Rattle.library_state.proofs.state.LibState.write.Goals as goal

pub returns-clause-value : goal.returns-clause-value
returns-clause-value c =
    let state = c.args.self.now in
    let d = view c.in_ok-value.value in
    let is = c.in_ok-value.ensures.value in
    let P : List ℕ → Type 0 = λ text. has_float d ≡ false → text ≡ compact_text d in
    let Q : List ℕ → Type 0 = λ text. text ≡ compact_text (state_data state) in
    IfOk-weaker c.write.result P Q (λ text h. h (ap has_float is ∙ has_float-state_data state) ∙ ap compact_text is) c.write.ensures.value

pub returns-clause-reads_back : goal.returns-clause-reads_back
returns-clause-reads_back c =
    let state = c.args.self.now in
    let d = view c.in_ok-value.value in
    let is = c.in_ok-value.ensures.value in
    let IsShallow : Data → Type 0 = λ v. depth v ≤ 127 in
    let P : List ℕ → Type 0 = λ text. depth d ≤ 127 → json_of text ≡ Some d in
    let Q : List ℕ → Type 0 = λ text. IsProper state → state_of text ≡ Ok state in
    IfOk-weaker c.write.result P Q
    (λ text h proper. state_of-state_data text state (h (subst IsShallow (sym is) (depth-state_data state)) ∙ ap Some is) c.in_ok-value.ensures.typed proper)
    c.write.ensures.reads_back

-- What is written of a state has no float, and nests two levels at most.
use Rattle.std.proofs.Common.{◌≡◌, ◌≤◌, List, [], ◌∷◌, map, false, refl, arith}
use Rattle.json_words.proofs.FoundLemmas.{is_float-of_integer}
use Rattle.serde_json.specs.Data.{depth, items_depth}
use Rattle.serde_json.specs.View.{items_of}
use Rattle.serde_json.specs.Written.{has_float, items_have_float}
use Rattle.library_state.specs.StateSpelling.{install_with, install_data, token_with, token_data, state_with, state_data}
use Rattle.library_state.specs.declared.history.Install.{Install}
use Rattle.library_state.specs.declared.state.LibState.{LibState}
use Rattle.library_state.specs.declared.token.Token.{Token}

no_float_installs : (installs : List Install) → items_have_float (items_of (map install_data installs)) ≡ false
unfolding install_with
no_float_installs [] = refl
no_float_installs (install ∷ installs) = no_float_installs installs

shallow_installs : (installs : List Install) → items_depth (items_of (map install_data installs)) ≤ 1
unfolding install_with
shallow_installs [] = omega arith
shallow_installs (install ∷ installs) = let rest = shallow_installs installs in omega arith

no_float_tokens : (tokens : List Token) → items_have_float (items_of (map token_data tokens)) ≡ false
unfolding token_with
no_float_tokens [] = refl
no_float_tokens (token ∷ tokens) = no_float_tokens tokens

shallow_tokens : (tokens : List Token) → items_depth (items_of (map token_data tokens)) ≤ 1
unfolding token_with
shallow_tokens [] = omega arith
shallow_tokens (token ∷ tokens) = let rest = shallow_tokens tokens in omega arith

pub has_float-state_data : (state : LibState) → has_float (state_data state) ≡ false
unfolding state_with
has_float-state_data state = rw (is_float-of_integer state.days, no_float_installs state.kept, no_float_tokens state.tokens)

pub depth-state_data : (state : LibState) → depth (state_data state) ≤ 127
unfolding state_with
depth-state_data state = let kept = shallow_installs state.kept in let tokens = shallow_tokens state.tokens in omega arith

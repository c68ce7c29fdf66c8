-- The values so far are those of the tokens so far.
use Rattle.std.proofs.Common.{◌≡◌, All, map, take}
use Rattle.serde_json.specs.View.{view}
use Rattle.library_state.specs.StateSpelling.{token_data}
use Rattle.library_state.specs.TypedState.{IsTypedToken}
use Rattle.library_state.proofs.state_writing.token_values.Given as goal

abbrev pub invariant-loop-token : goal.invariant-loop-token
invariant-loop-token l = record {
  value : map view l.values.items ≡ map token_data (take l.token-index l.tokens);
  typed : All IsTypedToken (take l.token-index l.tokens);
}

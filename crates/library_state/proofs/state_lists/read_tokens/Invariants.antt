-- What is left to read, after the tokens so far, gives the whole answer; those so far are proper.
use Rattle.std.proofs.Common.{◌≡◌, All, [], map, drop, length}
use Rattle.std.specs.List.{IsDistinct}
use Rattle.std.specs.Str.{bytes_eq}
use Rattle.serde_json.specs.View.{view}
use Rattle.library_state.specs.ProperState.{IsProperToken}
use Rattle.library_state.specs.StateText.{tokens_after}
use Rattle.library_state.specs.Tokens.{secrets_of}
use Rattle.library_state.proofs.state_lists.read_tokens.Given as goal

abbrev pub invariant-loop-item : goal.invariant-loop-item
invariant-loop-item l = record {
  ahead : tokens_after l.collection l.tokens (map view (drop l.item-index l.items)) ≡ tokens_after l.collection [] (map view l.items);
  count : length l.tokens ≡ l.item-index;
  each : All (IsProperToken l.collection) l.tokens;
  distinct : IsDistinct bytes_eq (secrets_of l.tokens);
}

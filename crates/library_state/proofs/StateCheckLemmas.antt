-- The checks of a state text, where each passes but perhaps the last. The key lemma is state_in-found.
use Rattle.std.proofs.Common.{◌≡◌, ℤ, pos, negsuc, ◌≤◌, true, false, w64, FitsSigned, Ok, Err, arith}
use Rattle.std.proofs.lemmas.Bool.Decides.{nat_tests}
use Rattle.std.proofs.lemmas.Int.{ints}
use Rattle.serde_json.specs.Data.{Data}
use Rattle.json_words.specs.Fields.{has_only}
use Rattle.library_state.specs.StateText.{right_version, collection_in, is_day_count, days_in, kept_in, library_in, name_in, opening_in, tokens_in, state_keys, state_in}
use Rattle.library_state.specs.declared.state.LibState.{LibState}
use Rattle.library_state.specs.declared.state_fault.StateKey.TheVariants.{Extra}

-- each check up to the last gives what the state has
pub record Passes (d : Data) (state : LibState) : Type 0 where
  pub version : right_version d ≡ Ok tt
  pub collection : collection_in d ≡ Ok state.collection
  pub days : days_in d ≡ Ok state.days
  pub kept : kept_in d ≡ Ok state.kept
  pub lib : library_in d ≡ Ok state.lib
  pub name : name_in d ≡ Ok state.name
  pub opening : opening_in d ≡ Ok state.opening
  pub tokens : tokens_in state.collection d ≡ Ok state.tokens

pub state_in-found : (d : Data) (state : LibState) → Passes d state → has_only state_keys d ≡ true → state_in d ≡ Ok state
unfolding state_in
state_in-found d state passes known = rw (passes.version, passes.collection, passes.days, passes.kept, passes.lib, passes.name, passes.opening, passes.tokens, known)

pub state_in-extra : (d : Data) (state : LibState) → Passes d state → has_only state_keys d ≡ false → state_in d ≡ Err Extra
unfolding state_in
state_in-extra d state passes other = rw (passes.version, passes.collection, passes.days, passes.kept, passes.lib, passes.name, passes.opening, passes.tokens, other)

-- a number of days fits 64 bits
pub day_count-fits : (days : ℤ) → is_day_count days ≡ true → FitsSigned w64 days
day_count-fits (pos n) counts = let small : n ≤ 36500 = grind (arith, nat_tests) in omega (arith, ints)
day_count-fits (negsuc n) counts = let small : n ≤ 0 = grind (arith, nat_tests) in omega (arith, ints)

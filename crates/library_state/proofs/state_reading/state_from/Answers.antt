-- Each check passed but perhaps the last.
use Rattle.std.proofs.Common.{Ok, w64, FitsSigned, sym, ap, ◌∙◌}
use Rattle.std.proofs.lemmas.Int.{to_z-of_z}
use Rattle.serde_json.specs.View.{view}
use Rattle.library_state.specs.declared.state.LibState.{LibState}
use Rattle.library_state.proofs.StateCheckLemmas.{Passes, state_in-found, state_in-extra, day_count-fits}
use Rattle.library_state.proofs.state_reading.state_from.Goals as goal

pub returns-then-not-has_only-clause-value : goal.returns-then-not-has_only-clause-value
returns-then-not-has_only-clause-value c =
    let d = view c.args.value.now in
    let state : LibState = record {
      lib = c.in_ok-lib.lib;
      name = c.in_ok-name.name.now;
      kept = c.in_ok-kept.kept;
      days = c.in_ok-days.days;
      collection = c.in_ok-collection.collection;
      opening = c.in_ok-opening.opening;
      tokens = c.in_ok-tokens.tokens;
    } in
    let passes : Passes d state = record {
      version = sym c.in_ok-right_version.ensures.value;
      collection = sym c.in_ok-collection.ensures.value;
      days = sym c.in_ok-days.ensures.value;
      kept = c.in_ok-kept.ensures.value;
      lib = sym c.in_ok-lib.ensures.value;
      name = sym c.in_ok-name.ensures.value;
      opening = sym c.in_ok-opening.ensures.value;
      tokens = c.in_ok-tokens.ensures.value;
    } in
    state_in-extra d state passes (sym c.has_only.ensures.value ∙ c.if-not-has_only.true)

pub returns-clause-value : goal.returns-clause-value
returns-clause-value c =
    let d = view c.args.value.now in
    let state : LibState = record {
      lib = c.in_ok-lib.lib;
      name = c.in_ok-name-2.name;
      kept = c.in_ok-kept.kept;
      days = c.in_ok-days.days;
      collection = c.in_ok-collection.collection;
      opening = c.in_ok-opening.opening;
      tokens = c.in_ok-tokens.tokens;
    } in
    let passes : Passes d state = record {
      version = sym c.in_ok-right_version.ensures.value;
      collection = sym c.in_ok-collection.ensures.value;
      days = sym c.in_ok-days.ensures.value;
      kept = c.in_ok-kept.ensures.value;
      lib = sym c.in_ok-lib.ensures.value;
      name = sym c.in_ok-name.ensures.value ∙ ap Ok (sym c.in_ok-name-2.ensures.value);
      opening = sym c.in_ok-opening.ensures.value;
      tokens = c.in_ok-tokens.ensures.value;
    } in
    let fits : FitsSigned w64 c.in_ok-days.days = day_count-fits c.in_ok-days.days c.in_ok-days.ensures.bound in
    let found = state_in-found d state passes (sym c.has_only.ensures.value ∙ c.if-not-has_only.false) in
    rw to_z-of_z found

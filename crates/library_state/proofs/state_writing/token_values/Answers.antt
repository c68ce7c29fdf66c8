-- One token more is in the list.
use Rattle.std.proofs.Common.{◌∷◌, ◌++◌, [], All, List, map, take, arith, sym, ap, subst, ◌∙◌}
use Rattle.std.proofs.lemmas.List.{take_all, take_more, map-append}
use Rattle.std.proofs.lemmas.List.Elements.{All-push}
use Rattle.serde_json.specs.View.{view}
use Rattle.library_state.specs.StateSpelling.{token_data}
use Rattle.library_state.specs.TypedState.{IsTypedToken}
use Rattle.library_state.specs.declared.token.Token.{Token}
use Rattle.library_state.proofs.state_writing.token_values.Goals as goal

pub loop-token-preserved : goal.loop-token-preserved
loop-token-preserved c =
    let before = take c.loop-token.token-index c.args.tokens.now in
    let token = c.token-item.result in
    let taken = take_more c.args.tokens.now c.loop-token.token-index token c.loop-token-test.true ∙ ap (λ x. before ++ x ∷ []) (sym c.token-item.is) in
    record {
      value =
          ap (map view) c.in_ok-push.ensures.items
          ∙ map-append view c.loop-token.values.items (c.in_ok-value.value ∷ [])
          ∙ ap (λ values. values ++ view c.in_ok-value.value ∷ []) c.loop-token.invariant.value
          ∙ ap (λ value. map token_data before ++ value ∷ []) c.in_ok-value.ensures.value
          ∙ sym (ap (map token_data) taken ∙ map-append token_data before (token ∷ []));
      typed = let P : List Token → Type 0 = λ tokens. All IsTypedToken tokens in
          subst P (sym taken) (All-push IsTypedToken before token c.loop-token.invariant.typed c.in_ok-value.ensures.typed);
    }

pub returns-clause-typed : goal.returns-clause-typed
returns-clause-typed c =
    let P : List Token → Type 0 = λ tokens. All IsTypedToken tokens in
    subst P (take_all c.loop-token.token-index c.args.tokens.now (omega arith)) c.loop-token.invariant.typed

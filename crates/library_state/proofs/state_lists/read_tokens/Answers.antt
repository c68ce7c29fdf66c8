-- Each way out is what is answered of the token at its place, beside those before it.
use Rattle.std.proofs.Common.{◌+◌, All, List, map, length, drop, arith, sym, ap, subst, ◌∙◌}
use Rattle.std.proofs.lemmas.List.{length-append}
use Rattle.std.proofs.lemmas.List.Elements.{All-push}
use Rattle.std.specs.List.{IsDistinct}
use Rattle.serde_json.specs.View.{view}
use Rattle.json_words.proofs.AnswerLemmas.{ReadsAs-handed_on}
use Rattle.library_state.specs.StateText.{token_of, tokens_after}
use Rattle.library_state.specs.ProperState.{IsProperToken}
use Rattle.library_state.specs.Tokens.{is_taken}
use Rattle.library_state.specs.declared.token.Token.{Token}
use Rattle.library_state.proofs.TokenLemmas.{tokens_after-ok, tokens_after-err, tokens_after-next, IsDistinct-secrets_push}
use Rattle.library_state.proofs.state_lists.read_tokens.Goals as goal

pub loop-item-init : goal.loop-item-init
unfolding IsDistinct
loop-item-init c = record {
  ahead = ap (λ tokens. tokens_after c.args.collection tokens (map view c.args.items.now)) c.new-tokens.ensures.value;
  count = ap length c.new-tokens.ensures.value;
  each = let P : List Token → Type 0 = λ tokens. All (IsProperToken c.args.collection) tokens in
      subst P (sym c.new-tokens.ensures.value) (λ k d below. absurd (omega arith));
  distinct = rw c.new-tokens.ensures.value tt;
}

pub returns-in-Err : goal.returns-in-Err
returns-in-Err c =
    let done = c.loop-item.tokens in
    let d = view c.item-item.result in
    let rest = map view (drop (c.loop-item.item-index + 1) c.args.items.now) in
    let next = tokens_after-next c.args.collection done c.args.items.now c.loop-item.item-index c.item-item.result c.loop-item-test.true c.item-item.is in
    let others = ap (λ tokens. token_of c.args.collection tokens d) c.slice.ensures.value in
    record {
      value =
          ReadsAs-handed_on c.in-Err.fault _ _
          (λ bad is. sym c.loop-item.invariant.ahead ∙ next ∙ tokens_after-err c.args.collection done d rest bad (sym others ∙ is)) c.in-Err.ensures.value;
      proper = tt;
    }

pub loop-item-preserved : goal.loop-item-preserved
loop-item-preserved c =
    let done = c.loop-item.tokens in
    let token = c.in-Ok.token in
    let d = view c.item-item.result in
    let rest = map view (drop (c.loop-item.item-index + 1) c.args.items.now) in
    let next = tokens_after-next c.args.collection done c.args.items.now c.loop-item.item-index c.item-item.result c.loop-item-test.true c.item-item.is in
    let others = ap (λ tokens. token_of c.args.collection tokens d) c.slice.ensures.value in
    let new = sym (ap (λ tokens. is_taken tokens token.secret) c.slice.ensures.value) ∙ c.in-Ok.ensures.new in
    let pushed = c.in-Ok-push.ensures.ok in
    record {
      ahead =
          ap (λ tokens. tokens_after c.args.collection tokens rest) pushed
          ∙ sym (next ∙ tokens_after-ok c.args.collection done d rest token (sym others ∙ c.in-Ok.ensures.value))
          ∙ c.loop-item.invariant.ahead;
      count = ap length pushed ∙ length-append done _ ∙ ap (λ n. n + 1) c.loop-item.invariant.count;
      each = let P : List Token → Type 0 = λ tokens. All (IsProperToken c.args.collection) tokens in
          subst P (sym pushed) (All-push (IsProperToken c.args.collection) done token c.loop-item.invariant.each c.in-Ok.ensures.proper);
      distinct = rw pushed (IsDistinct-secrets_push done token c.loop-item.invariant.distinct new);
    }

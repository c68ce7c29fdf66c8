use Rattle.std.proofs.Common.{List, ap, ◌∙◌}
use Rattle.library_rules.specs.Calls.{token_of}
use Rattle.library_state.specs.declared.token.Token.{Token}
use Rattle.depot.specs.CollectionTurns.{permits_collection}
use Rattle.depot.specs.DepotView.{DepotView}
use Rattle.depot.proofs.depot.Depot.may_collect.Goals as goal

pub returns : goal.returns
returns g c = record {
  value =
      c.is_of_owner.ensures.value ∙ ap (λ (tokens : List Token). permits_collection (token_of tokens c.args.secret.now)) c.slice.ensures.value
      ∙ ap (λ (d : DepotView g.row.S.Denot). permits_collection (token_of d.state.tokens c.args.secret.now)) c.self.view_is;
}

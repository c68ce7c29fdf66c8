-- What the call is due is what an update of its token is due.
use Rattle.std.proofs.Common.{◌∙◌, ◌≡◌, ap, refl, sym, subst, true, Some}
use Rattle.std.specs.Prelude.{List, slice_index_or}
use Rattle.library_rules.specs.Calls.{token_of}
use Rattle.library_state.specs.declared.token.Token.{Token}
use Rattle.depot.specs.Answering.{permits}
use Rattle.depot.specs.DepotView.{library}
use Rattle.depot.specs.UpdatePlan.{PlansSo}
use Rattle.depot.proofs.PlaceLemmas.{token_asked}
use Rattle.depot.proofs.UpdatePlanLemmas.{decided_of, decides_call, due_of}
use Rattle.depot.proofs.update_plan.plan_of.Goals as goal

pub returns-clause-value : goal.returns-clause-value
returns-clause-value g c = λ objects count told call asks updates.
    let d : Token = c.index-slice-place.result in
    let found : token_of c.args.state.now.tokens call.secret ≡ Some d
    = token_asked call.secret call.act c.args.state.now.tokens c.args.place d asks ∙ ap (λ (tokens : List Token). Some (slice_index_or tokens c.args.place d)) (sym c.slice.ensures.value) ∙ ap Some (sym c.index-slice-place.is) in
    subst (λ due_now. PlansSo (library c.args.state.now count objects) c.args.moment c.args.pushed due_now c.plan_update.result)
    (sym (due_of call c.args.pushed call.secret d refl updates (library c.args.state.now count objects) found
    (subst (λ a. permits (token_of c.args.state.now.tokens call.secret) a ≡ true) updates asks.right)))
    (c.plan_update.ensures.value objects count told)

pub returns-clause-any : goal.returns-clause-any
returns-clause-any g c = λ call asks updates.
    let d : Token = c.index-slice-place.result in
    let found : token_of c.args.state.now.tokens call.secret ≡ Some d
    = token_asked call.secret call.act c.args.state.now.tokens c.args.place d asks ∙ ap (λ (tokens : List Token). Some (slice_index_or tokens c.args.place d)) (sym c.slice.ensures.value) ∙ ap Some (sym c.index-slice-place.is) in
    decides_call c.args.state.now call d c.args.pushed c.plan_update.new.store.index (g.S.Shelf.may_give c.plan_update.new.store.shelf)
    (decided_of call c.args.pushed call.secret d refl updates c.args.state.now found
    (subst (λ a. permits (token_of c.args.state.now.tokens call.secret) a ≡ true) updates asks.right))
    c.plan_update.result c.plan_update.ensures.any

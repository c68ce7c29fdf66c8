-- Want of memory is told of one id alone.
use Rattle.std.proofs.Common.{◌≡◌, ◌++◌, [], ◌∷◌, length, nat_lt, sym, subst, Ok}
use Rattle.http_front.specs.declared.order.What.TheVariants as what
use Rattle.http_client.specs.OrderOutcome.{CanHave}
use Rattle.std.proofs.lemmas.Bool.Decides.{Decides-ltb}
use Rattle.tree_fetch.specs.Asking.{GetsRows, order_of}
use Rattle.tree_fetch.proofs.SendLemmas.{list_refused, one_left}
use Rattle.tree_fetch.proofs.list.ask_list.Goals as goal

pub returns-in-Err-rows_told-clause-value : goal.returns-in-Err-rows_told-clause-value
returns-in-Err-rows_told-clause-value g c =
    subst (GetsRows c.args.asker.now (g.R.Remote.sends c.args.remote.now) (g.R.Remote.sends c.ask.new.remote) c.args.ids.now) (sym c.refused_of.ensures.value)
    (list_refused c.args.asker.now (g.R.Remote.sends c.args.remote.now) (g.R.Remote.sends c.ask.new.remote) c.args.ids.now (nat_lt 1 (length c.args.ids.now)) c.in-Ok-ask.outcome c.in-Err-rows_told.why
    (Decides-ltb 1 (length c.args.ids.now)).0 (one_left (length c.args.ids.now) c.requires.some)
    (subst (λ asked. g.R.Remote.sends c.ask.new.remote ≡ g.R.Remote.sends c.args.remote.now ++ (order_of c.args.asker.now (what.GetFs asked), Ok c.in-Ok-ask.outcome) ∷ []) c.in-Ok.ensures.value
    c.in-Ok-ask.ensures.value.0)
    (subst (λ asked. CanHave (what.GetFs asked) c.in-Ok-ask.outcome) c.in-Ok.ensures.value c.in-Ok-ask.ensures.value.1) c.in-Err-rows_told.ensures.value)

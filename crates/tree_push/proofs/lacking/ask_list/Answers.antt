-- What the reply tells is noted.
use Rattle.std.proofs.Common.{◌≤◌, ℕ, List, [], map, Ok, Err, length, subst, sym}
use Rattle.http_front.specs.declared.order.What.TheVariants as what
use Rattle.sync_rules.specs.Orders.{most_asked}
use Rattle.tree_push.specs.Asking.{AsksAmong, Stopped, Went, key_of}
use Rattle.tree_push.specs.Lacking.{AsksNoting}
use Rattle.tree_push.specs.SentOnce.{SendsFront}
use Rattle.tree_push.proofs.LackingLemmas.{asked_failed, asked_noting}
use Rattle.tree_push.proofs.SentOnceLemmas.{front_none, order_front}
use Rattle.tree_push.proofs.lacking.ask_list.Goals as goal

pub returns-in-Ok-ask-clause-value : goal.returns-in-Ok-ask-clause-value
returns-in-Ok-ask-clause-value g c =
    subst
    (λ (ids : List (List ℕ)). Went c.args.library.now (AsksAmong c.args.kind ids) (AsksNoting c.args.library.now c.args.kind ids c.args.lacking.now c.note.new.lacking) (g.R.Remote.sends c.args.remote.now) (g.R.Remote.sends c.ask.new.remote) c.note.result)
    c.in-Ok.ensures.value
    (asked_noting c.args.library.now c.args.kind c.in-Ok.asked _ _ c.args.lacking.now c.note.new.lacking c.requires.listed (subst (λ (ids : List (List ℕ)). length ids ≤ most_asked) (sym c.in-Ok.ensures.value) c.requires.few)
    c.in-Ok-ask.reply c.note.result c.in-Ok-ask.ensures.value c.note.ensures.value)

pub returns-in-Err-ask-clause-value : goal.returns-in-Err-ask-clause-value
returns-in-Err-ask-clause-value g c =
    subst (λ (ids : List (List ℕ)). Stopped c.args.library.now (AsksAmong c.args.kind ids) c.in-Err-ask.fault (g.R.Remote.sends c.args.remote.now) (g.R.Remote.sends c.ask.new.remote)) c.in-Ok.ensures.value
    (asked_failed c.args.library.now c.args.kind c.in-Ok.asked _ _ c.args.lacking.now c.args.lacking.now c.requires.listed (subst (λ (ids : List (List ℕ)). length ids ≤ most_asked) (sym c.in-Ok.ensures.value) c.requires.few)
    c.in-Err-ask.fault c.in-Err-ask.ensures.value)

pub returns-in-Err-clause-once : goal.returns-in-Err-clause-once
returns-in-Err-clause-once g c = front_none (map (key_of c.args.kind) c.args.ids.now) [] (g.R.Remote.sends c.args.remote.now)

pub returns-in-Ok-ask-clause-once : goal.returns-in-Ok-ask-clause-once
returns-in-Ok-ask-clause-once g c =
    subst (λ (ids : List (List ℕ)). SendsFront (map (key_of c.args.kind) ids) [] (g.R.Remote.sends c.args.remote.now) (g.R.Remote.sends c.ask.new.remote)) c.in-Ok.ensures.value
    (order_front c.args.library.now (what.Missing c.args.kind c.in-Ok.asked) _ _ (Ok c.in-Ok-ask.reply) c.in-Ok-ask.ensures.value)

pub returns-in-Err-ask-clause-once : goal.returns-in-Err-ask-clause-once
returns-in-Err-ask-clause-once g c =
    subst (λ (ids : List (List ℕ)). SendsFront (map (key_of c.args.kind) ids) [] (g.R.Remote.sends c.args.remote.now) (g.R.Remote.sends c.ask.new.remote)) c.in-Ok.ensures.value
    (order_front c.args.library.now (what.Missing c.args.kind c.in-Ok.asked) _ _ (Err c.in-Err-ask.fault) c.in-Err-ask.ensures.value)

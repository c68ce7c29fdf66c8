-- One holder more stands in the list, and at the end all do.
use Rattle.std.proofs.Common.{ap, ◌∙◌}
use Rattle.std.specs.List.{slice_get}
use Rattle.sync_calls.specs.Door.{holders_of}
use Rattle.sync_calls.proofs.DoorLemmas.{holder_more, holders_all}
use Rattle.sync_calls.proofs.door.holders_of.Goals as goal

pub loop-holder-preserved : goal.loop-holder-preserved
loop-holder-preserved g c =
    holder_more (holders_of c.args.depot.now.state.tokens) _ _ _ _ c.in-Some.holder c.loop-holder.invariant
    (c.in-Some.ensures ∙ ap (λ n. slice_get (holders_of c.args.depot.now.state.tokens) n) c.len.ensures) c.in_ok-push.ensures.items c.in_ok-push.ensures.len

pub returns : goal.returns
returns g c =
    c.from_vec.ensures.value
    ∙ holders_all (holders_of c.args.depot.now.state.tokens) c.loop-holder.holders.items _ c.loop-holder.invariant
    (λ h e. c.in_default.not-Some h (c.holder_at.ensures ∙ (ap (λ n. slice_get (holders_of c.args.depot.now.state.tokens) n) c.len.ensures ∙ e)))

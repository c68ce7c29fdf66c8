-- The block, and then the object.
use Rattle.std.proofs.Common.{ap, ◌∙◌}
use Rattle.sha1.specs.Sha1.{sha1}
use Rattle.sync_calls.specs.Hall.{shown_by}
use Rattle.generated_library.proofs.LedLemmas.{both_led}
use Rattle.generated_library.proofs.StoppingLemmas.{stopped}
use Rattle.generated_library.proofs.pushing.put_both.Goals as goal

pub returns-clause-leads : goal.returns-clause-leads
returns-clause-leads g c =
    both_led g.S.Shelf.contents g.S.Shelf.may_give g.S.Shelf.texts g.S.Shelf.faults (shown_by c.args.pass.now) (shown_by c.put.new.pass) (shown_by c.put-2.new.pass) c.args.bytes.items c.args.text c.of.result c.of-2.result c.from_vec.result
    (c.of.ensures.value ∙ ap sha1 c.as_slice.ensures.value) (c.of-2.ensures.value ∙ ap sha1 c.slice.ensures.value) c.from_vec.ensures.value c.in_ok-put.ensures.leads c.in_ok-put-2.ensures.leads

pub returns-in_err-put-clause-stops : goal.returns-in_err-put-clause-stops
returns-in_err-put-clause-stops g c =
    stopped g.S.Shelf.contents g.S.Shelf.may_give g.S.Shelf.texts g.S.Shelf.faults c.args.asker.now.lib c.args.asker.now.secret c.args.asker.now.moment c.put.new.pass c.in_err-put.field-0.0 c.from_residual.result c.from_residual.ensures.1 c.in_err-put.ensures.stops

pub returns-in_err-put-2-clause-stops : goal.returns-in_err-put-2-clause-stops
returns-in_err-put-2-clause-stops g c =
    stopped g.S.Shelf.contents g.S.Shelf.may_give g.S.Shelf.texts g.S.Shelf.faults c.args.asker.now.lib c.args.asker.now.secret c.args.asker.now.moment c.put-2.new.pass c.in_err-put-2.field-0.0 c.from_residual-in_err-put-2.result c.from_residual-in_err-put-2.ensures.1 c.in_err-put-2.ensures.stops

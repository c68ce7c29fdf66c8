-- As the marks tell it, and a turn more is counted where some were marked.
use Rattle.depot.proofs.TakesTurnLemmas.{fails_some, marks_some, pending_before}
use Rattle.depot.proofs.depot.Parts.mark_some.Goals as goal

pub mark-requires : goal.mark-requires
mark-requires g c = record { some = c.requires.some.0 }

pub returns-in-Ok-clause-value : goal.returns-in-Ok-clause-value
returns-in-Ok-clause-value g c =
    marks_some g.S.Shelf.contents g.S.Shelf.may_give g.S.Shelf.texts g.S.Shelf.faults c.args.self.now.store c.mark.new.store c.running.inside.marks c.mark.new.self c.running.inside.fresh c.running.inside.stored
    c.running.inside.turned.count c.args.running.now c.running.view_is c.args.at_most c.in-Ok.count c.count_turn.new.self c.count_turn.ensures.value
    (pending_before c.running.inside.marks c.running.inside.fresh c.running.inside.stored c.running.inside.turned.count c.args.running.now c.running.view_is c.requires.some.1)
    c.in-Ok.ensures.stays (λ objects told. c.in-Ok.ensures.value objects told) c.in-Ok.ensures.told c.in-Ok.ensures.left c.in-Ok.ensures.good c.in-Ok.ensures.opened

pub returns-in-Err-clause-value : goal.returns-in-Err-clause-value
returns-in-Err-clause-value g c =
    fails_some g.S.Shelf.contents g.S.Shelf.may_give g.S.Shelf.texts g.S.Shelf.faults c.args.self.now.store c.mark.new.store c.running.inside.marks c.mark.new.self c.running.inside.fresh c.running.inside.stored
    c.running.inside.turned.count c.args.running.now c.running.view_is c.args.at_most c.in-Err.fault c.walk_refusal.result c.new.result c.walk_refusal.ensures.value c.new.ensures.value
    c.in-Err.ensures.stays (λ objects told exact. c.in-Err.ensures.cause objects told exact)
    (λ objects told exact complete. c.in-Err.ensures.damaged objects told exact complete) (λ objects told. c.in-Err.ensures.err objects told) c.in-Err.ensures.left c.in-Err.ensures.good

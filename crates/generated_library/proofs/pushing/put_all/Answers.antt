-- One object more is stored, and is left no more.
use Rattle.std.proofs.Common.{refl, sym, ◌∙◌}
use Rattle.sync_calls.specs.Hall.{shown_by}
use Rattle.tree_merge.proofs.UnstoredLemmas.{removed_len}
use Rattle.generated_library.proofs.LedLemmas.{dirs_all, dirs_led, dirs_none}
use Rattle.generated_library.proofs.pushing.put_all.Goals as goal

pub loop-key-init : goal.loop-key-init
loop-key-init g c = record {
  ready = c.requires.ready;
  size = (refl, refl);
  leads = dirs_none g.S.Shelf.contents g.S.Shelf.may_give g.S.Shelf.texts g.S.Shelf.faults (shown_by c.args.pass.now) (shown_by c.args.pass.now) c.args.made refl;
}

pub loop-key-smaller : goal.loop-key-smaller
loop-key-smaller g c = removed_len c.loop-key.made c.remove.new.self c.in-Some.key c.in-Some-remove.bytes c.remove.ensures.stays (sym c.in-Some-remove.ensures.value)

pub loop-key-preserved : goal.loop-key-preserved
loop-key-preserved g c =
    let inv = c.loop-key.invariant in
    record {
      ready = c.in-Ok.ensures.ready;
      size = (c.in-Ok.ensures.size.0 ∙ inv.size.0, c.in-Ok.ensures.size.1 ∙ inv.size.1);
      leads = dirs_led g.S.Shelf.contents g.S.Shelf.may_give g.S.Shelf.texts g.S.Shelf.faults (shown_by c.args.pass.now) (shown_by c.loop-key.pass) (shown_by c.put.new.pass)
          c.args.made c.loop-key.made c.remove.new.self c.in-Some.key c.in-Some-remove.bytes (sym c.in-Some-remove.ensures.value) c.remove.ensures.stays inv.leads c.in-Ok.ensures.leads;
    }

pub returns-clause-leads : goal.returns-clause-leads
returns-clause-leads g c =
    dirs_all g.S.Shelf.contents g.S.Shelf.may_give g.S.Shelf.texts g.S.Shelf.faults (shown_by c.args.pass.now) (shown_by c.loop-key.pass) c.args.made c.loop-key.made
    (λ key. c.in_default.ensures.value key tt) c.loop-key.invariant.leads

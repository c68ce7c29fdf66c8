-- The slot is settled first; then candidates leave, and what is known is kept of what is marked.
use Rattle.std.proofs.Common.{ap, inl, inr, is_some, refl, sym, ◌∙◌}
use Rattle.std.specs.FinMap as map
use Rattle.object_store.specs.StoreView.{Index, status_of}
use Rattle.depot.specs.DepotView.{CollectionView}
use Rattle.depot.specs.NextState.{with_begin}
use Rattle.depot.proofs.KnownLemmas.{kept_met}
use Rattle.depot.proofs.SweepPartLemmas.{settle_kept, settle_left, settled_slot, stops_early, sweep_gives, swept_stopped, swept_turned, text_gives}
use Rattle.depot.proofs.depot.Parts.sweep_some.Goals as goal

pub sweep-removed-requires : goal.sweep-removed-requires
sweep-removed-requires g c = record {
  some = c.requires.some.0;
  stored = λ key there.
      ap (λ (i : Index). is_some (map.get i key)) c.in-Ok.ensures.held ∙ c.requires.stored key (ap (λ (a : CollectionView). is_some (map.get a.marks.candidates key)) (sym c.running.view_is) ∙ there);
}

-- ---- the slot couldn't be settled

pub returns-in-Err-clause-value : goal.returns-in-Err-clause-value
returns-in-Err-clause-value g c =
    stops_early g.S.Shelf.contents g.S.Shelf.may_give g.S.Shelf.texts g.S.Shelf.faults c.args.self.now.store c.settle.new.self.store c.args.running.now c.args.at_most c.args.self.now.unsettled c.args.self.now.state (status_of g.S.Shelf.contents c.args.self.now.store)
    (status_of g.S.Shelf.contents c.settle.new.self.store) c.in-Err.fault c.store_refusal.result c.new.result c.store_refusal.ensures.value c.new.ensures.value c.in-Err.ensures.value c.in-Err.ensures.held
    c.in-Err.ensures.stays c.in-Err.ensures.lying c.in-Err.ensures.faults

pub returns-in-Err-clause-text : goal.returns-in-Err-clause-text
returns-in-Err-clause-text g c = λ moment.
    inr (inr (
      c.in-Err.fault,
      c.store_refusal.ensures.value,
      c.new.ensures.value,
      settle_left c.args.self.now.unsettled c.args.self.now.state (with_begin moment c.args.self.now.state) (status_of g.S.Shelf.contents c.args.self.now.store)
          c.settle.new.self.unsettled (status_of g.S.Shelf.contents c.settle.new.self.store) c.in-Err.fault c.in-Err.ensures.err c.in-Err.ensures.value,
    ))

pub returns-in-Err-clause-settled : goal.returns-in-Err-clause-settled
returns-in-Err-clause-settled g c =
    settle_kept c.args.self.now.unsettled c.args.self.now.state (status_of g.S.Shelf.contents c.args.self.now.store) c.settle.new.self.unsettled (status_of g.S.Shelf.contents c.settle.new.self.store) c.in-Err.fault c.new.result c.new.ensures.value
    c.in-Err.ensures.err c.in-Err.ensures.value

pub returns-in-Err-clause-gives : goal.returns-in-Err-clause-gives
returns-in-Err-clause-gives g c =
    text_gives c.args.self.now.state.lib c.new.result (g.S.Shelf.may_give c.args.self.now.store.shelf) (g.S.Shelf.may_give c.settle.new.self.store.shelf) c.in-Err.ensures.gives

pub returns-in-Err-clause-known : goal.returns-in-Err-clause-known
returns-in-Err-clause-known g c = inl (refl, c.new.ensures.value)

-- ---- a fault ended the sweep

pub returns-in-Some-clause-value : goal.returns-in-Some-clause-value
returns-in-Some-clause-value g c =
    swept_stopped g.S.Shelf.contents g.S.Shelf.may_give g.S.Shelf.texts g.S.Shelf.faults c.args.self.now.store c.settle.new.self.store c.sweep-removed.new.store c.running.inside.marks c.sweep-removed.new.self c.running.inside.fresh c.running.inside.stored c.running.inside.turned.count c.args.running.now c.running.view_is
    c.sweep-removed.result.removed c.in-Ok.ensures.held c.in-Ok.ensures.stays c.in-Ok.ensures.lying c.in-Ok.ensures.faults c.sweep-removed.ensures.value c.sweep-removed.ensures.stays c.args.at_most c.sweep-removed.result.fault
    c.in-Some.fault c.store_refusal-in-Some.result c.in-Some.is c.store_refusal-in-Some.ensures.value c.sweep-removed.ensures.few c.sweep-removed.ensures.free c.sweep-removed.ensures.lying c.sweep-removed.ensures.faults

pub returns-in-Some-clause-text : goal.returns-in-Some-clause-text
returns-in-Some-clause-text g c = λ moment.
    inr (inl (
      c.in-Ok.ensures.ok,
      c.sweep-removed.ensures.unwritten ∙ settled_slot c.args.self.now.unsettled c.args.self.now.state (status_of g.S.Shelf.contents c.args.self.now.store) (status_of g.S.Shelf.contents c.settle.new.self.store) c.in-Ok.ensures.value,
      λ was. c.sweep-removed.ensures.texts ∙ c.in-Ok.ensures.written was,
    ))

pub returns-in-Some-clause-settled : goal.returns-in-Some-clause-settled
returns-in-Some-clause-settled g c =
    inl (c.in-Ok.ensures.ok, c.sweep-removed.ensures.unwritten ∙ settled_slot c.args.self.now.unsettled c.args.self.now.state (status_of g.S.Shelf.contents c.args.self.now.store) (status_of g.S.Shelf.contents c.settle.new.self.store) c.in-Ok.ensures.value)

pub returns-in-Some-clause-gives : goal.returns-in-Some-clause-gives
returns-in-Some-clause-gives g c =
    sweep_gives c.args.self.now.state.lib c.sweep-removed.result.removed (g.S.Shelf.may_give c.args.self.now.store.shelf) (g.S.Shelf.may_give c.settle.new.self.store.shelf) (g.S.Shelf.may_give c.sweep-removed.new.store.shelf) c.in-Ok.ensures.gives
    c.sweep-removed.ensures.gives

pub returns-in-Some-clause-known : goal.returns-in-Some-clause-known
returns-in-Some-clause-known g c =
    inr (kept_met c.running.inside.marks c.args.running.now.marks c.commits.result.now c.met.result.now c.args.known.now c.keep.new.self (ap (λ (a : CollectionView). a.marks) c.running.view_is)
    c.commits.ensures.value c.met.ensures.value c.keep.ensures.value)

-- ---- some left

pub returns-in-None-clause-value : goal.returns-in-None-clause-value
returns-in-None-clause-value g c =
    swept_turned g.S.Shelf.contents g.S.Shelf.may_give g.S.Shelf.texts g.S.Shelf.faults c.args.self.now.store c.settle.new.self.store c.sweep-removed.new.store c.running.inside.marks c.sweep-removed.new.self c.running.inside.fresh c.running.inside.stored c.running.inside.turned.count c.args.running.now c.running.view_is
    c.sweep-removed.result.removed c.in-Ok.ensures.held c.in-Ok.ensures.stays c.in-Ok.ensures.lying c.in-Ok.ensures.faults c.sweep-removed.ensures.value c.sweep-removed.ensures.stays c.args.at_most c.sweep-removed.result.fault
    c.count_turn.new.self c.in-None.is c.count_turn.ensures.value (ap (λ (a : CollectionView). a.marks.pending) c.running.view_is ∙ c.requires.some.1) c.sweep-removed.ensures.size c.sweep-removed.ensures.lying
    c.sweep-removed.ensures.faults

pub returns-in-None-clause-text : goal.returns-in-None-clause-text
returns-in-None-clause-text g c = λ moment. (
  c.in-Ok.ensures.ok,
  c.sweep-removed.ensures.unwritten ∙ settled_slot c.args.self.now.unsettled c.args.self.now.state (status_of g.S.Shelf.contents c.args.self.now.store) (status_of g.S.Shelf.contents c.settle.new.self.store) c.in-Ok.ensures.value,
  λ was. c.sweep-removed.ensures.texts ∙ c.in-Ok.ensures.written was,
)

pub returns-in-None-clause-settled : goal.returns-in-None-clause-settled
returns-in-None-clause-settled g c =
    inl (c.in-Ok.ensures.ok, c.sweep-removed.ensures.unwritten ∙ settled_slot c.args.self.now.unsettled c.args.self.now.state (status_of g.S.Shelf.contents c.args.self.now.store) (status_of g.S.Shelf.contents c.settle.new.self.store) c.in-Ok.ensures.value)

pub returns-in-None-clause-gives : goal.returns-in-None-clause-gives
returns-in-None-clause-gives g c =
    sweep_gives c.args.self.now.state.lib c.sweep-removed.result.removed (g.S.Shelf.may_give c.args.self.now.store.shelf) (g.S.Shelf.may_give c.settle.new.self.store.shelf) (g.S.Shelf.may_give c.sweep-removed.new.store.shelf) c.in-Ok.ensures.gives
    c.sweep-removed.ensures.gives

pub returns-in-None-clause-known : goal.returns-in-None-clause-known
returns-in-None-clause-known g c =
    inr (kept_met c.running.inside.marks c.args.running.now.marks c.commits.result.now c.met.result.now c.args.known.now c.keep.new.self (ap (λ (a : CollectionView). a.marks) c.running.view_is)
    c.commits.ensures.value c.met.ensures.value c.keep.ensures.value)

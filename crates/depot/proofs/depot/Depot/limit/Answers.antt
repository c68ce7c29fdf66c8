-- The days are set, or the answer is that they can't be.
use Rattle.std.proofs.Common.{ℤ, ap, inl, refl, sym, ◌∙◌, subst, to_z-of_z, ◌≡◌}
use Rattle.library_rules.proofs.BesideStepLemmas.{told_keys}
use Rattle.library_state.specs.declared.call.Act.TheVariants as act
use Rattle.library_state.specs.declared.refusal.Refusal.TheVariants as refusal
use Rattle.library_state.specs.declared.reply.Reply.{Reply}
use Rattle.library_state.specs.declared.reply.Reply.TheVariants as reply
use Rattle.depot.specs.Answering.{Serves, ServesAct}
use Rattle.depot.specs.DepotView.{DepotView, depot_of}
use Rattle.depot.specs.FreshKeys.{told_there}
use Rattle.depot.specs.Giving.{GivesBy, IsOwnText}
use Rattle.depot.specs.Refusals.{answer_of}
use Rattle.depot.proofs.ActLemmas.{days_serve, limit_good, limit_serves}
use Rattle.depot.proofs.BesideLemmas.{good_rest}
use Rattle.depot.proofs.FitsLemmas.{fits_same}
use Rattle.depot.proofs.KeptLemmas.{good_same, kept_by, kept_same, serves_same}
use Rattle.depot.proofs.depot.Depot.limit.Goals as goal

pub returns-then-not-is_day_count : goal.returns-then-not-is_day_count
returns-then-not-is_day_count g c = record {
  value = λ call moment right asks.
      subst (λ (z : ℤ). Serves g.S.Shelf.contents g.S.Shelf.may_give g.S.Shelf.texts g.S.Shelf.faults c.args.self.now call moment (reply.Refused (refusal.BadDays z)) c.args.self.now)
      (sym (to_z-of_z c.ranges.days))
      (days_serve g.S.Shelf.contents g.S.Shelf.may_give g.S.Shelf.texts g.S.Shelf.faults c.args.self.now call moment right c.args.days asks
      (sym (simp (to_z-of_z, c.ranges.days) at c.is_day_count.ensures.value) ∙ c.if-not-is_day_count.true));
  gives = λ slot given is. inl is;
  held = refl;
}

pub invariant_of-self : goal.invariant_of-self
invariant_of-self g c =
    let old : DepotView g.row.S.Denot = depot_of c.self.inside.parts.store c.self.inside.parts.state c.self.inside.parts.unsettled c.self.inside.running in
    let new : DepotView g.row.S.Denot = depot_of c.set_days-set.new.self.store c.set_days-set.new.self.state c.set_days-set.new.self.unsettled c.self.inside.running in
    kept_same g.S.Shelf.contents g.S.Shelf.faults old new c.set_days-set.ensures.held c.set_days-set.ensures.stays c.self.inside.known c.self.inside.known c.self.inside.running c.self.invariant
    (good_same g.S.Shelf.contents g.S.Shelf.faults old new c.set_days-set.ensures.held c.set_days-set.ensures.stays c.self.invariant.good refl
    (limit_good g.S.Shelf.contents g.S.Shelf.texts g.S.Shelf.faults old (good_rest g.S.Shelf.contents g.S.Shelf.faults old c.self.invariant.good) c.args.days
    (sym (simp (to_z-of_z, c.ranges.days) at c.is_day_count.ensures.value) ∙ c.if-not-is_day_count.false)
    c.set_days-set.new.self.store c.set_days-set.new.self.state c.set_days-set.new.self.unsettled c.set_days-set.result
    (simp (to_z-of_z, c.ranges.days) at c.set_days-set.ensures.ok) c.set_days-set.ensures.err (simp (to_z-of_z, c.ranges.days) at c.set_days-set.ensures.text) c.set_days-set.ensures.stays))
    (fits_same g.S.Shelf.contents c.self.inside.parts.store c.set_days-set.new.self.store c.self.inside.known c.set_days-set.ensures.stays c.self.invariant.fits)
    (kept_by c.set_days-set.result c.self.inside.parts.state (record c.self.inside.parts.state { days = c.args.days }) c.set_days-set.new.self.state refl
    (simp (to_z-of_z, c.ranges.days) at c.set_days-set.ensures.ok) c.set_days-set.ensures.err) refl

pub returns : goal.returns
returns g c =
    let old : DepotView g.row.S.Denot = depot_of c.self.inside.parts.store c.self.inside.parts.state c.self.inside.parts.unsettled c.self.inside.running in
    let new : DepotView g.row.S.Denot = depot_of c.set_days-set.new.self.store c.set_days-set.new.self.state c.set_days-set.new.self.unsettled c.self.inside.running in
    let said : Reply = answer_of reply.Limited c.set_days-set.result in
    record {
      value = subst (λ (before : DepotView g.row.S.Denot). ServesAct g.S.Shelf.contents g.S.Shelf.may_give g.S.Shelf.texts g.S.Shelf.faults before (act.Limit c.args.days) c.answer_of.result new)
          c.self.view_is
          (λ call moment right asks. subst (λ r. Serves g.S.Shelf.contents g.S.Shelf.may_give g.S.Shelf.texts g.S.Shelf.faults old call moment r new) (sym c.answer_of.ensures.value)
          (serves_same g.S.Shelf.contents g.S.Shelf.faults old new c.set_days-set.ensures.held c.set_days-set.ensures.stays g.S.Shelf.may_give g.S.Shelf.texts call moment said refl refl
          (ap (λ a. told_there old.store.index a said) asks) (λ now. ap (λ a. told_keys now a said) asks)
          (limit_serves g.S.Shelf.contents g.S.Shelf.may_give g.S.Shelf.texts g.S.Shelf.faults old call moment right c.args.days asks
          (sym (simp (to_z-of_z, c.ranges.days) at c.is_day_count.ensures.value) ∙ c.if-not-is_day_count.false)
          c.set_days-set.new.self.store c.set_days-set.new.self.state c.set_days-set.new.self.unsettled c.set_days-set.ensures.stays c.set_days-set.ensures.lying c.set_days-set.result
          (simp (to_z-of_z, c.ranges.days) at c.set_days-set.ensures.ok) c.set_days-set.ensures.err (simp (to_z-of_z, c.ranges.days) at c.set_days-set.ensures.text) c.set_days-set.ensures.faults)));
      gives = subst (λ (before : DepotView g.row.S.Denot). GivesBy (IsOwnText before.state.lib) (g.S.Shelf.may_give before.store.shelf) (g.S.Shelf.may_give c.set_days-set.new.self.store.shelf)) c.self.view_is c.set_days-set.ensures.gives;
      held = subst (λ (before : DepotView g.row.S.Denot). new.store.index ≡ before.store.index) c.self.view_is c.set_days-set.ensures.held;
    }

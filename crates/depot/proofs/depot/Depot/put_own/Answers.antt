-- An object that is no block is lent.
use Rattle.std.proofs.Common.{ℕ, List, ap, subst, sym, ◌∙◌}
use Rattle.library_state.specs.declared.call.Act.TheVariants as act
use Rattle.depot.specs.Giving.{GivesBy, IsPut}
use Rattle.depot.proofs.depot.Depot.put_own.Goals as goal

pub returns-in_default : goal.returns-in_default
returns-in_default g c = record {
  value = λ call moment right asks. c.put-reply.ensures.value call moment right (asks ∙ ap (act.Put c.args.key.now) (sym c.slice.ensures.value));
  gives = subst (λ (bytes : List ℕ). GivesBy (IsPut c.args.key.now bytes) (g.S.Shelf.may_give c.args.self.now.store.shelf) (g.S.Shelf.may_give c.put-reply.new.self.store.shelf)) c.slice.ensures.value
      c.put-reply.ensures.gives;
  held = c.put-reply.ensures.held;
}

-- What both passes know, one pass knows.
use Rattle.std.proofs.Common.{refl, sym, ◌∙◌, ap, subst}
use Rattle.turnstile.specs.Lists.{IsOnce}
use Rattle.turnstile.specs.PassView.{view_of}
use Rattle.turnstile.specs.Steps.{both_of}
use Rattle.sync_calls.specs.Shown.{Knows, LibraryView, shown_in, shown_of}
use Rattle.sync_calls.proofs.JoinedLemmas.{knows_joined}
use Rattle.sync_calls.proofs.joining.join_at.Goals as goal

pub returns-clause-ready : goal.returns-clause-ready
returns-clause-ready g c =
    record {
      ready = c.join.ensures.ready;
      knows = subst (λ (v : LibraryView g.row.S.Denot). Knows g.S.Shelf.contents g.S.Shelf.may_give g.S.Shelf.texts g.S.Shelf.faults (shown_in v)) (sym c.join.ensures.view)
          (knows_joined g.S.Shelf.contents g.S.Shelf.may_give g.S.Shelf.texts g.S.Shelf.faults (shown_of c.args.into.now) (shown_of c.args.from) (shown_in (both_of (view_of c.args.into.now) (view_of c.args.from)))
          c.args.room.now.start.value c.requires.ready.begins c.requires.second.begins c.requires.ready.knows c.requires.second.knows c.requires.ready.begins refl refl
          (subst (λ (v : LibraryView g.row.S.Denot). IsOnce v.book) c.join.ensures.view c.join.ensures.once));
      begins = ap (λ (v : LibraryView g.row.S.Denot). v.start) c.join.ensures.view ∙ c.requires.ready.begins;
      opens = c.requires.ready.opens;
      share = ap (λ (v : LibraryView g.row.S.Denot). v.parts) c.join.ensures.view;
      among = ap (λ (v : LibraryView g.row.S.Denot). v.passes) c.join.ensures.view;
      first = ap (λ (v : LibraryView g.row.S.Denot). v.first) c.join.ensures.view ∙ c.requires.ready.first;
    }

-- What was opened is filled where it is new, and comes back.
use Rattle.std.proofs.Common.{◌∙◌, ℕ, ap, subst}
use Rattle.ids.specs.FaultCount.{Rose}
use Rattle.server_words.specs.Spelling.{location_text}
use Rattle.server_words.specs.declared.line.Line.TheVariants as line
use Rattle.library_server.specs.Filling.{not_opened, opened, stored_by}
use Rattle.library_server.specs.Lines.{is_storage_fault}
use Rattle.library_server.specs.WholeRuns.{is_storage_line}
use Rattle.library_server.proofs.PortLemmas.{unserved_whole}
use Rattle.library_server.proofs.StandingLemmas.{comes_back, others_back, rose_given}
use Rattle.library_server.proofs.StoppedLemmas.{comes_rose, comes_whole}
use Rattle.library_server.proofs.filling.make_files.Goals as goal

pub returns-in-Err-clause-makes : goal.returns-in-Err-clause-makes
returns-in-Err-clause-makes g c =
    not_opened c.in-Err.why (record { told = c.in-Err.ensures.shown; cause = c.in-Err.ensures.cause; count = c.in-Err.ensures.faults; back = c.in-Err.ensures.back }) (ap line.Fault c.fault_of_unserved.ensures.value)

pub returns-in-Err-clause-steady : goal.returns-in-Err-clause-steady
returns-in-Err-clause-steady g c = λ steady standing there whole.
    ap is_storage_fault c.fault_of_unserved.ensures.value ∙ unserved_whole c.in-Err.why (c.in-Err.ensures.steady steady standing there whole)

pub returns-clause-makes : goal.returns-clause-makes
returns-clause-makes g c =
    let comes = c.fill_opened-filled.ensures c.give_counted-left.result c.give_counted-left.ensures.left in
    opened c.in-Ok.opened.0 c.fill_opened-filled.result.1 c.in-Ok.opened.1 (stored_by c.fill_opened-filled.result.0 c.give_counted-left.result) c.fill_opened-filled.result.0
    (record {
      brought = record {
        state = c.in-Ok.ensures.any;
        told = c.in-Ok.ensures.shown;
        laid = c.in-Ok.ensures.gives;
        none = c.in-Ok.ensures.lying;
        settled = c.in-Ok.ensures.settled;
        good = c.in-Ok.ensures.good;
      };
      size = c.in-Ok.ensures.size;
    })
    comes
    (comes_back _ _ _ _ _ _ c.in-Ok.ensures.back (rw c.folder_word.ensures.value at c.give_counted-left.ensures.ok))
    c.give_counted-left.ensures.good
    (λ counted.
    let rose = comes_rose g.G.S.Shelf.contents g.G.S.Shelf.may_give g.G.S.Shelf.texts g.G.S.Shelf.faults (g.C.Clock.shows c.args.clock.now) c.args.files.count c.args.files.number
    c.in-Ok.opened.0 c.fill_opened-filled.result.1 c.in-Ok.opened.1 (stored_by c.fill_opened-filled.result.0 c.give_counted-left.result) c.fill_opened-filled.result.0 comes counted in
    subst (λ (n : ℕ). Rose n (g.G.Ground.faults c.give_counted-left.new.libraries)) c.in-Ok.ensures.count
    (rose_given rose.0 (g.G.S.Shelf.faults c.fill_opened-filled.result.1.store.shelf) (g.G.Ground.faults c.start_counted.new.libraries) (g.G.Ground.faults c.give_counted-left.new.libraries) rose.1 c.give_counted-left.ensures.faults))
    c.line_of.ensures.value

pub returns-clause-steady : goal.returns-clause-steady
returns-clause-steady g c = λ steady standing there whole.
    ap is_storage_line c.line_of.ensures.value
    ∙ comes_whole g.G.S.Shelf.contents g.G.S.Shelf.may_give g.G.S.Shelf.texts g.G.S.Shelf.faults (g.C.Clock.shows c.args.clock.now) c.args.files.count c.args.files.number
    c.in-Ok.opened.0 c.fill_opened-filled.result.1 c.in-Ok.opened.1 (stored_by c.fill_opened-filled.result.0 c.give_counted-left.result) c.fill_opened-filled.result.0 steady (c.in-Ok.ensures.steady steady standing there whole)
    (c.fill_opened-filled.ensures c.give_counted-left.result c.give_counted-left.ensures.left)

pub returns-clause-others : goal.returns-clause-others
returns-clause-others g c =
    others_back (location_text c.args.location.now) c.args.lib c.in-Ok.ensures.others (rw c.folder_word.ensures.value at c.give_counted-left.ensures.gives)

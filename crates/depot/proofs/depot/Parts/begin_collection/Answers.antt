-- What is made before the first write, and then the text is written.
use Rattle.std.proofs.Common.{◌≡◌, List, ap, subst, sym, Ok, Err, ◌∙◌}
use Rattle.library_state.specs.StateSpelling.{text_of}
use Rattle.library_state.specs.declared.history.Install.{Install}
use Rattle.library_state.specs.declared.state.LibState.{LibState}
use Rattle.library_rules.specs.LibraryState.{kept_commits}
use Rattle.object_store.specs.StoreView.{status_of}
use Rattle.depot.specs.Giving.{GivesBy, IsOwnText}
use Rattle.depot.specs.NextState.{with_begin}
use Rattle.depot.specs.Writing.{ReadsBack, RewritesSo}
use Rattle.depot.proofs.BeginTurnLemmas.{begins_over, begins_so, begun_state}
use Rattle.depot.proofs.depot.Parts.begin_collection.Goals as goal

-- the commits are those of the history that was cut, whose text was prepared
pub returns-clause-value : goal.returns-clause-value
returns-clause-value g c =
    begins_so c.args.self.now.store.index c.write_installed.new.self.store.index (with_begin c.args.moment c.args.self.now.state).kept c.in-Ok-commits_of.commits c.in-Ok-begin.marks c.count.result
    c.begin-2.result c.in-Ok-begin.ensures.value c.in-Ok-begin.ensures.good
    (c.in-Ok-commits_of.ensures.value ∙ ap kept_commits (c.slice.ensures.value ∙ c.in-Ok.ensures.value)) c.count.ensures.value c.in-Ok-write_installed.ensures.held c.begin-2.ensures.value

pub returns-clause-shown : goal.returns-clause-shown
returns-clause-shown g c = λ objects told.
    begins_over objects c.in-Ok-begin.marks c.count.result c.begin-2.result (c.count.ensures.found objects (c.in-Ok-write_installed.ensures.stays ∙ told))
    (c.in-Ok-begin.ensures.shown objects told) c.begin-2.ensures.value

pub returns-clause-ok : goal.returns-clause-ok
returns-clause-ok g c =
    let next : LibState = with_begin c.args.moment c.args.self.now.state in
    let text : c.slice-2.result.now ≡ text_of next
    = c.slice-2.ensures.value ∙ c.in-Ok-text_of_begin.ensures.value
    ∙ ap (λ (kept : List Install). text_of (record c.args.self.now.state { kept = kept; collection = next.collection })) c.in-Ok.ensures.value in
    let reads : ReadsBack next
    = subst (λ (kept : List Install). ReadsBack (record c.args.self.now.state { kept = kept; collection = next.collection })) c.in-Ok.ensures.value c.in-Ok-text_of_begin.ensures.reads in
    let rewrites = subst (λ (st : LibState). RewritesSo c.args.self.now.unsettled st next (status_of g.S.Shelf.contents c.args.self.now.store) c.write_installed.new.self.unsettled
    (status_of g.S.Shelf.contents c.write_installed.new.self.store) (Ok tt)) c.text_of_begin.ensures.state (c.in-Ok-write_installed.ensures.value next text reads) in (
      begun_state c.args.moment c.args.self.now.state c.write_installed.new.self.state c.text_of_begin.new.kept (c.in-Ok-write_installed.ensures.state ∙ c.text_of_begin.ensures.state)
          (c.text_of_begin.ensures.stays ∙ c.in-Ok.ensures.value),
      rewrites.0,
      rewrites.1,
    )

pub returns-in-Err-write_installed-clause-err : goal.returns-in-Err-write_installed-clause-err
returns-in-Err-write_installed-clause-err g c = c.in-Err-write_installed.ensures.state ∙ c.text_of_begin.ensures.state

pub returns-in-Err-write_installed-clause-text : goal.returns-in-Err-write_installed-clause-text
returns-in-Err-write_installed-clause-text g c =
    let next : LibState = with_begin c.args.moment c.args.self.now.state in
    let text : c.slice-2.result.now ≡ text_of next
    = c.slice-2.ensures.value ∙ c.in-Ok-text_of_begin.ensures.value
    ∙ ap (λ (kept : List Install). text_of (record c.args.self.now.state { kept = kept; collection = next.collection })) c.in-Ok.ensures.value in
    let reads : ReadsBack next
    = subst (λ (kept : List Install). ReadsBack (record c.args.self.now.state { kept = kept; collection = next.collection })) c.in-Ok.ensures.value c.in-Ok-text_of_begin.ensures.reads in
    subst (λ (st : LibState). RewritesSo c.args.self.now.unsettled st next (status_of g.S.Shelf.contents c.args.self.now.store) c.write_installed.new.self.unsettled
    (status_of g.S.Shelf.contents c.write_installed.new.self.store) (Err c.in-Err-write_installed.fault)) c.text_of_begin.ensures.state (c.in-Err-write_installed.ensures.value next text reads)

pub returns-in-Err-write_installed-clause-gives : goal.returns-in-Err-write_installed-clause-gives
returns-in-Err-write_installed-clause-gives g c =
    let next : LibState = with_begin c.args.moment c.args.self.now.state in
    let text : c.slice-2.result.now ≡ text_of next
    = c.slice-2.ensures.value ∙ c.in-Ok-text_of_begin.ensures.value
    ∙ ap (λ (kept : List Install). text_of (record c.args.self.now.state { kept = kept; collection = next.collection })) c.in-Ok.ensures.value in
    subst (λ (st : LibState). GivesBy (IsOwnText st.lib) (g.S.Shelf.may_give c.args.self.now.store.shelf) (g.S.Shelf.may_give c.write_installed.new.self.store.shelf)) c.text_of_begin.ensures.state
    (c.in-Err-write_installed.ensures.gives next text (ap (λ (st : LibState). st.lib) (sym c.text_of_begin.ensures.state)))

pub returns-clause-gives : goal.returns-clause-gives
returns-clause-gives g c =
    let next : LibState = with_begin c.args.moment c.args.self.now.state in
    let text : c.slice-2.result.now ≡ text_of next
    = c.slice-2.ensures.value ∙ c.in-Ok-text_of_begin.ensures.value
    ∙ ap (λ (kept : List Install). text_of (record c.args.self.now.state { kept = kept; collection = next.collection })) c.in-Ok.ensures.value in
    subst (λ (st : LibState). GivesBy (IsOwnText st.lib) (g.S.Shelf.may_give c.args.self.now.store.shelf) (g.S.Shelf.may_give c.write_installed.new.self.store.shelf)) c.text_of_begin.ensures.state
    (c.in-Ok-write_installed.ensures.gives next text (ap (λ (st : LibState). st.lib) (sym c.text_of_begin.ensures.state)))

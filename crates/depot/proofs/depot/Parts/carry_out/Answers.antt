-- The text that was prepared is that of the state with the head update.
use Rattle.std.proofs.Common.{◌≡◌, ◌∙◌, ◌++◌, ◌∷◌, [], Err, ap, inl, inr, refl, subst, sym}
use Rattle.std.specs.Prelude.{⊤}
use Rattle.object_store.specs.Store.{CountsShelf}
use Rattle.library_rules.specs.Changes.{keys_added}
use Rattle.library_state.specs.StateSpelling.{text_of}
use Rattle.library_state.specs.declared.state.LibState.{LibState}
use Rattle.object_store.specs.StoreView.{status_of}
use Rattle.depot.specs.Answering.{with_install}
use Rattle.depot.specs.UpdateInstall.{held_in, stopped}
use Rattle.depot.specs.Held.{HoldsMore, KnowsAll}
use Rattle.depot.specs.Plan.{objects_in}
use Rattle.depot.specs.Writing.{ReadsBack}
use Rattle.depot.proofs.UpdateInstallLemmas.{carried_out, left_unsure}
use Rattle.depot.specs.Giving.{GivesBy, IsOwnText}
use Rattle.depot.proofs.GivingLemmas.{then_by, wider_by}
use Rattle.depot.proofs.depot.Parts.carry_out.Goals as goal

pub returns-in-Err-write_installed-clause-value : goal.returns-in-Err-write_installed-clause-value
returns-in-Err-write_installed-clause-value g c =
    let next : LibState = with_install c.args.install.head c.args.install.pushed c.args.install.at c.args.self.now.state in
    let text : c.slice-2.result.now ≡ text_of next
    = c.slice-2.ensures.value ∙ c.in-Ok-text_with.ensures.value
    ∙ ap (λ kept. text_of (record c.args.self.now.state { kept = kept })) (c.in-Ok.ensures.value ∙ ap (λ kept. kept ++ c.args.install ∷ []) c.slice.ensures.value) in
    let reads : ReadsBack next
    = subst (λ kept. ReadsBack (record c.args.self.now.state { kept = kept })) (c.in-Ok.ensures.value ∙ ap (λ kept. kept ++ c.args.install ∷ []) c.slice.ensures.value) c.in-Ok-text_with.ensures.reads_back in
    left_unsure c.in-Err-write_installed.fault c.args.self.now.unsettled c.write_installed.new.self.unsettled c.args.self.now.state c.text_with.new.state next (objects_in c.args.plan.now)
    (held_in g.S.Shelf.contents g.S.Shelf.texts c.args.self.now.store) (held_in g.S.Shelf.contents g.S.Shelf.texts c.write_installed.new.self.store) (status_of g.S.Shelf.contents c.put_plan.new.store)
    c.in-Err-write_installed.ensures.free (c.in-Err-write_installed.ensures.stays ∙ c.in-Ok-put_plan.ensures.value.objects) c.in-Ok-text_with.ensures.state c.in-Ok-put_plan.ensures.value.slot
    (c.in-Err-write_installed.ensures.value next text reads)

pub returns-clause-value : goal.returns-clause-value
returns-clause-value g c =
    let next : LibState = with_install c.args.install.head c.args.install.pushed c.args.install.at c.args.self.now.state in
    let text : c.slice-2.result.now ≡ text_of next
    = c.slice-2.ensures.value ∙ c.in-Ok-text_with.ensures.value
    ∙ ap (λ kept. text_of (record c.args.self.now.state { kept = kept })) (c.in-Ok.ensures.value ∙ ap (λ kept. kept ++ c.args.install ∷ []) c.slice.ensures.value) in
    let reads : ReadsBack next
    = subst (λ kept. ReadsBack (record c.args.self.now.state { kept = kept })) (c.in-Ok.ensures.value ∙ ap (λ kept. kept ++ c.args.install ∷ []) c.slice.ensures.value) c.in-Ok-text_with.ensures.reads_back in
    carried_out c.args.self.now.unsettled c.write_installed.new.self.unsettled c.args.self.now.state c.text_with.new.state next (objects_in c.args.plan.now)
    (held_in g.S.Shelf.contents g.S.Shelf.texts c.args.self.now.store) (held_in g.S.Shelf.contents g.S.Shelf.texts c.write_installed.new.self.store) (status_of g.S.Shelf.contents c.put_plan.new.store)
    (c.in-Ok-write_installed.ensures.stays ∙ c.in-Ok-put_plan.ensures.value.objects) c.in-Ok-text_with.ensures.state c.in-Ok-put_plan.ensures.value.slot
    (c.in-Ok-write_installed.ensures.value next text reads)

pub returns-in-Err-write_installed-clause-lying : goal.returns-in-Err-write_installed-clause-lying
returns-in-Err-write_installed-clause-lying g c free key stray = c.in-Ok-put_plan.ensures.value.lying key (c.in-Err-write_installed.ensures.lying key stray)

pub returns-clause-lying : goal.returns-clause-lying
returns-clause-lying g c key stray = c.in-Ok-put_plan.ensures.value.lying key (c.in-Ok-write_installed.ensures.lying key stray)

pub returns-in-Err-put_plan-clause-gives : goal.returns-in-Err-put_plan-clause-gives
returns-in-Err-put_plan-clause-gives g c = wider_by (λ slot given is. inl is) c.in-Err-put_plan.ensures.value.gives

pub returns-in-Err-write_installed-clause-gives : goal.returns-in-Err-write_installed-clause-gives
returns-in-Err-write_installed-clause-gives g c =
    let next : LibState = with_install c.args.install.head c.args.install.pushed c.args.install.at c.args.self.now.state in
    let text : c.slice-2.result.now ≡ text_of next
    = c.slice-2.ensures.value ∙ c.in-Ok-text_with.ensures.value
    ∙ ap (λ kept. text_of (record c.args.self.now.state { kept = kept })) (c.in-Ok.ensures.value ∙ ap (λ kept. kept ++ c.args.install ∷ []) c.slice.ensures.value) in
    then_by (wider_by (λ slot given is. inl is) c.in-Ok-put_plan.ensures.value.gives)
    (wider_by (λ slot given is. inr is)
    (subst (λ (st : LibState). GivesBy (IsOwnText st.lib) (g.S.Shelf.may_give c.put_plan.new.store.shelf) (g.S.Shelf.may_give c.write_installed.new.self.store.shelf)) c.in-Ok-text_with.ensures.state
    (c.in-Err-write_installed.ensures.gives next text (ap (λ (st : LibState). st.lib) (sym c.in-Ok-text_with.ensures.state)))))

pub returns-clause-gives : goal.returns-clause-gives
returns-clause-gives g c =
    let next : LibState = with_install c.args.install.head c.args.install.pushed c.args.install.at c.args.self.now.state in
    let text : c.slice-2.result.now ≡ text_of next
    = c.slice-2.ensures.value ∙ c.in-Ok-text_with.ensures.value
    ∙ ap (λ kept. text_of (record c.args.self.now.state { kept = kept })) (c.in-Ok.ensures.value ∙ ap (λ kept. kept ++ c.args.install ∷ []) c.slice.ensures.value) in
    then_by (wider_by (λ slot given is. inl is) c.in-Ok-put_plan.ensures.value.gives)
    (wider_by (λ slot given is. inr is)
    (subst (λ (st : LibState). GivesBy (IsOwnText st.lib) (g.S.Shelf.may_give c.put_plan.new.store.shelf) (g.S.Shelf.may_give c.write_installed.new.self.store.shelf)) c.in-Ok-text_with.ensures.state
    (c.in-Ok-write_installed.ensures.gives next text (ap (λ (st : LibState). st.lib) (sym c.in-Ok-text_with.ensures.state)))))

pub returns-in-Err-put_plan-clause-value : goal.returns-in-Err-put_plan-clause-value
returns-in-Err-put_plan-clause-value g c =
    stopped c.in-Err-put_plan.ensures.value.objects refl c.in-Err-put_plan.ensures.value.slot c.in-Err-put_plan.ensures.value.written

pub returns-in-Err-put_plan-clause-free : goal.returns-in-Err-put_plan-clause-free
returns-in-Err-put_plan-clause-free g c = c.in-Err-put_plan.ensures.value.free

pub returns-in-Err-put_plan-clause-cause : goal.returns-in-Err-put_plan-clause-cause
returns-in-Err-put_plan-clause-cause g c = c.in-Err-put_plan.ensures.value.cause

pub returns-in-Err-put_plan-clause-lying : goal.returns-in-Err-put_plan-clause-lying
returns-in-Err-put_plan-clause-lying g c = c.in-Err-put_plan.ensures.value.lying

pub returns-in-Err-put_plan-clause-faults : goal.returns-in-Err-put_plan-clause-faults
returns-in-Err-put_plan-clause-faults g c = c.in-Err-put_plan.ensures.value.count

pub returns-in-Err-write_installed-clause-faults : goal.returns-in-Err-write_installed-clause-faults
returns-in-Err-write_installed-clause-faults g c =
    subst (λ n. CountsShelf {T = ⊤} n (g.S.Shelf.faults c.write_installed.new.self.store.shelf) (Err c.in-Err-write_installed.fault)) c.in-Ok-put_plan.ensures.value.count
    c.in-Err-write_installed.ensures.faults

pub returns-clause-faults : goal.returns-clause-faults
returns-clause-faults g c = c.in-Ok-write_installed.ensures.faults ∙ c.in-Ok-put_plan.ensures.value.count

pub returns-in-Err-put_plan-clause-held : goal.returns-in-Err-put_plan-clause-held
returns-in-Err-put_plan-clause-held g c = c.in-Err-put_plan.ensures.value.held

pub returns-in-Err-write_installed-clause-held : goal.returns-in-Err-write_installed-clause-held
returns-in-Err-write_installed-clause-held g c =
    subst (HoldsMore (keys_added (objects_in c.args.plan.now)) c.args.self.now.store.index) (sym c.in-Err-write_installed.ensures.held) c.in-Ok-put_plan.ensures.value.held

pub returns-clause-held : goal.returns-clause-held
returns-clause-held g c = subst (HoldsMore (keys_added (objects_in c.args.plan.now)) c.args.self.now.store.index) (sym c.in-Ok-write_installed.ensures.held) c.in-Ok-put_plan.ensures.value.held

pub returns-clause-known : goal.returns-clause-known
returns-clause-known g c = subst (KnowsAll (keys_added (objects_in c.args.plan.now))) (sym c.in-Ok-write_installed.ensures.held) c.in-Ok-put_plan.ensures.value.known

-- The text is the state's, and is read as it.
use Rattle.std.proofs.Common.{◌∙◌, ap, refl, sym}
use Rattle.library_state.specs.StateText.{state_of}
use Rattle.depot.proofs.GivingLemmas.{text_by}
use Rattle.depot.proofs.depot.Parts.write_next.Goals as goal

pub returns-clause-value : goal.returns-clause-value
returns-clause-value g c =
    c.note_text.ensures.value c.args.self.now.state (c.slice.ensures.value ∙ c.in-Ok.ensures.value)
    (λ proper. ap state_of (sym c.in-Ok.ensures.value) ∙ c.in-Ok.ensures.reads_back proper)

pub returns-clause-gives : goal.returns-clause-gives
returns-clause-gives g c = text_by c.args.self.now.state c.args.self.now.state.lib c.slice.result.now (c.slice.ensures.value ∙ c.in-Ok.ensures.value) refl c.note_text.ensures.gives

-- Both writes change no object.
use Rattle.depot.proofs.GivingLemmas.{text_by, then_by}
use Rattle.depot.proofs.depot.Parts.write_installed.Goals as goal

pub returns-clause-lying : goal.returns-clause-lying
returns-clause-lying g c key stray = c.in-Ok.ensures.lying key (c.note_text.ensures.lying key stray)

pub returns-clause-gives : goal.returns-clause-gives
returns-clause-gives g c = λ next text own. then_by c.in-Ok.ensures.gives (text_by next c.args.self.now.state.lib c.args.text.now text own c.note_text.ensures.gives)

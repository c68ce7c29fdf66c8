use Rattle.std.proofs.Common.{inr, refl}
use Rattle.folder_texts.specs.FolderTexts.{text_at}
use Rattle.client_desk.specs.KeptTexts.{jobs_found, jobs_name}
use Rattle.client_desk.proofs.ListLemmas.{list_refused, list_told}
use Rattle.client_desk.proofs.commands.list.Goals as goal

pub returns-in-Err-clause-value : goal.returns-in-Err-clause-value
returns-in-Err-clause-value g c = λ c' t. list_refused (jobs_found (text_at c' jobs_name)) c.in-Err.fault (c.in-Err.ensures.value c' t)

pub returns-in-Ok-listed_lines-clause-value : goal.returns-in-Ok-listed_lines-clause-value
returns-in-Ok-listed_lines-clause-value g c = λ c' t.
    list_told (jobs_found (text_at c' jobs_name)) c.in-Ok.jobs c.slice.result.now c.in-Ok-listed_lines.lines (c.in-Ok.ensures.value c' t) c.slice.ensures.value c.in-Ok-listed_lines.ensures.value

pub returns-clause-value : goal.returns-clause-value
returns-clause-value g c = λ c' t. inr refl

pub returns-clause-may : goal.returns-clause-may
returns-clause-may g c = inr (inr refl)

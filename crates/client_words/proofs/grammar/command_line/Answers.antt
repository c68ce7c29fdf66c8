-- The line is made command by command.
use Rattle.std.proofs.Common.{◌∙◌, ap₂}
use Rattle.std.proofs.lemmas.Result.{IfOk-weaker}
use Rattle.client_words.proofs.MatchLemmas.{line_made, with_command}
use Rattle.client_words.proofs.grammar.command_line.Goals as goal

pub returns : goal.returns
returns c =
    let one = c.in_ok-line.ensures.value ∙ ap₂ with_command c.bare_command-line.ensures.value c.in_ok-plain_command.ensures.value in
    let two = c.in_ok-line-2.ensures.value ∙ ap₂ with_command one c.in_ok-plain_command-2.ensures.value in
    let three = c.in_ok-line-3.ensures.value ∙ ap₂ with_command two c.in_ok-plain_command-3.ensures.value in
    let four = c.in_ok-line-4.ensures.value ∙ ap₂ with_command three c.in_ok-job_command.ensures.value in
    let five = c.in_ok-line-5.ensures.value ∙ ap₂ with_command four c.in_ok-job_command-2.ensures.value in
    let six = c.in_ok-line-6.ensures.value ∙ ap₂ with_command five c.in_ok-longer_command.ensures.value in
    let last = c.with_command-7 in
    record { value = IfOk-weaker last.result _ _ (λ made h. h ∙ ap₂ with_command six c.in_ok-longer_command-2.ensures.value ∙ line_made) last.ensures.value }

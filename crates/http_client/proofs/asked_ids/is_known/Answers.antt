use Rattle.std.proofs.Common.{◌∙◌, ap, is_some}
use Rattle.std.specs.FinMap as map
use Rattle.http_client.proofs.asked_ids.is_known.Goals as goal

pub returns : goal.returns
returns c = record { value = λ asked knows. c.has.ensures.value ∙ ap (λ key. is_some (map.get c.args.known.now key)) c.block_key.ensures.value ∙ knows c.args.id.now }

use Rattle.std.proofs.Common.{ℕ, take, ap, ◌∙◌}
use Rattle.std.proofs.lemmas.List.{take_min}
use Rattle.http_client.proofs.response.front_of.Goals as goal

pub returns : goal.returns
returns c = record {
  value = c.split_at.ensures.front ∙ ap (λ (n : ℕ). take n c.args.buffer.now) c.min.ensures ∙ take_min 16384 c.args.buffer.now;
}

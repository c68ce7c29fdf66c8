-- The one block is the one chunk.
use Rattle.std.proofs.Common.{◌≡◌, ◌∙◌, IfOk, List, ℕ, subst, sym}
use Rattle.tree_checkout.proofs.writing.file_own.Goals as goal

pub returns-then-is_one : goal.returns-then-is_one
returns-then-is_one c = record {
  value = subst (λ (id : List ℕ). IfOk c.own_id.result (λ own. own ≡ id)) (c.requires.one (sym c.is_one.ensures.value ∙ c.if-is_one.true)) c.own_id.ensures.value;
}

-- A list gives its pairs, and all are taken.
use Rattle.std.proofs.Common.{◌∙◌, List, subst}
use Rattle.std.proofs.IntoIterSteps.{All-taken}
use Rattle.std.proofs.lemmas.Result.{IfOk-weaker}
use Rattle.std.specs.BTreeMap as tree
use Rattle.std.specs.Prelude.{⊤}
use Rattle.ids.specs.Key.{key_cmp}
use Rattle.ids.specs.declared.key.Key.{Key}
use Rattle.ids.proofs.key_table.built.Goals as goal

pub from_iter-requires : goal.from_iter-requires
from_iter-requires c it gives = (tt, tt, λ xs t taken. tt)

pub returns : goal.returns
returns c = record {
  value = IfOk-weaker c.from_iter.result _ _ (λ made ran.
      subst (λ (pairs : List (Key × ⊤)). tree.IsFromIterResult key_cmp pairs made)
      (All-taken ran.0 ran.1 ((ran.3.2 tt).0, (ran.3.0, ran.3.1, (ran.3.2 tt).1)) ∙ ran.2.0) ran.4) c.from_iter.ensures.ran;
}

use Rattle.std.proofs.Common.{sym, subst, ◌∙◌, ℕ, ◌<◌, ◌^◌}
use Rattle.std.specs.Str.Parse.{ParsesUnsigned}
use Rattle.server_words.proofs.NumberLemmas.{differ_by, parsed_other, parsed_same, same_by, unparsed}
use Rattle.server_words.proofs.number.number_of.Goals as goal

pub returns-in-Err : goal.returns-in-Err
returns-in-Err c = record { value = sym (unparsed c.args.text.now c.in-Err.field-0 (subst (λ r. ParsesUnsigned 64 10 c.args.text.now r) c.in-Err.is c.parse.ensures.value.0)) }

pub returns-then-ne : goal.returns-then-ne
returns-then-ne c =
    let differ = differ_by c.format.result.now c.args.text.now (sym c.ne.ensures ∙ c.if-ne.true) in
    record {
      value = sym (parsed_other c.args.text.now c.in-Ok.number c.parse.result c.in-Ok.is c.parse.ensures.value.0
          (λ same. differ (c.format.ensures.text ∙ sym same)));
    }

pub returns : goal.returns
returns c =
    let told = subst (λ r. ParsesUnsigned 64 10 c.args.text.now r) c.in-Ok.is c.parse.ensures.value.0 in
    let same = same_by c.format.result.now c.args.text.now (sym c.ne.ensures ∙ c.if-ne.false) in
    record { value = sym (parsed_same c.args.text.now c.in-Ok.number (subst (λ (n : ℕ). n < 2 ^ 64) (sym told.1) told.0.1) (sym same ∙ c.format.ensures.text)) }

use Rattle.std.proofs.Common.{inl, refl, sym, ◌∙◌}
use Rattle.local_index.specs.IndexText.{index_of}
use Rattle.client_desk.proofs.KeptLemmas.{index_fault, index_may, index_other, index_same, index_uncounted, library_same}
use Rattle.client_desk.proofs.kept_texts.read_index.Goals as goal

pub returns-in-Err-clause-value : goal.returns-in-Err-clause-value
returns-in-Err-clause-value c =
    index_fault c.args.lib.now (index_of c.args.text.now) c.in-Err.fault c.fault_of_index.result c.in-Err.ensures.value c.fault_of_index.ensures.value

pub returns-in-Err-clause-may : goal.returns-in-Err-clause-may
returns-in-Err-clause-may c = index_may c.in-Err.fault c.fault_of_index.result c.fault_of_index.ensures.value

pub returns-in-Err-clause-faults : goal.returns-in-Err-clause-faults
returns-in-Err-clause-faults c = index_uncounted c.in-Err.fault c.fault_of_index.result c.fault_of_index.ensures.value

pub returns-then-is_of-clause-value : goal.returns-then-is_of-clause-value
returns-then-is_of-clause-value c = index_same c.args.lib.now c.in-Ok.index (index_of c.args.text.now) c.in-Ok.ensures.value (sym c.is_of.ensures.value ∙ c.if-is_of.true)

pub returns-then-is_of-clause-library : goal.returns-then-is_of-clause-library
returns-then-is_of-clause-library c = library_same c.in-Ok.index.lib c.args.lib.now (sym c.is_of.ensures.value ∙ c.if-is_of.true)

pub returns-clause-value : goal.returns-clause-value
returns-clause-value c = index_other c.args.lib.now c.in-Ok.index (index_of c.args.text.now) c.in-Ok.ensures.value (sym c.is_of.ensures.value ∙ c.if-is_of.false)

pub returns-clause-may : goal.returns-clause-may
returns-clause-may c = inl refl

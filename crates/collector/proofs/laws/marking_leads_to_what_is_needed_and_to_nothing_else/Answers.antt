use Rattle.collector.proofs.LeadingLemmas.{begins, begins_exact, exact_many, exact_up_to, leads_many, leads_up_to}
use Rattle.collector.proofs.laws.marking_leads_to_what_is_needed_and_to_nothing_else.Goals as goal

pub returns-clause-ok : goal.returns-clause-ok
returns-clause-ok c = λ objects index commits marks first. (begins objects index commits marks first, begins_exact objects index commits marks first)

pub returns-clause-value : goal.returns-clause-value
returns-clause-value c = λ objects old new count marks leads exact. (leads_many objects old new count marks leads, exact_many objects old new count marks exact)

pub returns-clause-err : goal.returns-clause-err
returns-clause-err c = λ objects old new marks leads exact. (leads_up_to objects old new marks leads, exact_up_to objects old new marks exact)

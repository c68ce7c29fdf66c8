use Rattle.std.proofs.Common.{inl, inr, IfSome, refl, sym, ap, subst, ◌∙◌}
use Rattle.client_words.specs.JobWriting.{AreJobs}
use Rattle.client_desk.specs.KeptTexts.{jobs_read}
use Rattle.client_desk.proofs.kept_texts.read_list.Goals as goal

pub returns-in-Err-clause-value : goal.returns-in-Err-clause-value
returns-in-Err-clause-value c = inr refl

pub returns-in-Err-clause-may : goal.returns-in-Err-clause-may
returns-in-Err-clause-may c = inr refl

pub returns-in-Some-clause-value : goal.returns-in-Some-clause-value
returns-in-Some-clause-value c = ap jobs_read (sym c.in-Ok.ensures.value ∙ c.in-Some.is)

pub returns-in-Some-clause-proper : goal.returns-in-Some-clause-proper
returns-in-Some-clause-proper c = subst (λ found. IfSome found AreJobs) c.in-Some.is c.in-Ok.ensures.proper

pub returns-in-None-clause-value : goal.returns-in-None-clause-value
returns-in-None-clause-value c = inl (ap jobs_read (sym c.in-Ok.ensures.value ∙ c.in-None.is))

pub returns-in-None-clause-may : goal.returns-in-None-clause-may
returns-in-None-clause-may c = inl refl

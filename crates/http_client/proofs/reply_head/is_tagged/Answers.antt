use Rattle.std.proofs.Common.{sym, ◌∙◌}
use Rattle.std.proofs.lemmas.Bool.{false≢true, true≢false}
use Rattle.http_front.specs.Fields.{fields_at}
use Rattle.http_client.proofs.StatusLemmas.{not_tagged, tagged_by, tagged_if_none_due}
use Rattle.http_client.proofs.reply_head.is_tagged.Goals as goal

pub returns-then-not-tag_due-clause-found : goal.returns-then-not-tag_due-clause-found
returns-then-not-tag_due-clause-found c = λ t. tagged_if_none_due (fields_at c.args.front.now c.args.headers.now) _ (sym c.tag_due.ensures.value ∙ c.if-not-tag_due.true)

pub returns-then-not-tag_due-clause-absent : goal.returns-then-not-tag_due-clause-absent
returns-then-not-tag_due-clause-absent c = λ e. absurd (true≢false e)

pub returns-in-Some-clause-found : goal.returns-in-Some-clause-found
returns-in-Some-clause-found c = λ t. tagged_by (fields_at c.args.front.now c.args.headers.now) _ c.in-Some.field-0 (sym c.tag_due.ensures.value ∙ c.if-not-tag_due.false) c.in-Some.ensures.value

pub returns-in-Some-clause-absent : goal.returns-in-Some-clause-absent
returns-in-Some-clause-absent c = λ e. absurd (true≢false e)

pub returns-in-None-clause-found : goal.returns-in-None-clause-found
returns-in-None-clause-found c = λ t. absurd (false≢true t)

pub returns-in-None-clause-absent : goal.returns-in-None-clause-absent
returns-in-None-clause-absent c = λ e. not_tagged (fields_at c.args.front.now c.args.headers.now) _ (sym c.tag_due.ensures.value ∙ c.if-not-tag_due.false) c.in-None.ensures.value

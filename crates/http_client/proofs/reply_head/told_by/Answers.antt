use Rattle.std.proofs.Common.{sym, ◌∙◌}
use Rattle.http_front.specs.Fields.{fields_at}
use Rattle.http_client.proofs.StatusLemmas.{right_by, wrong_number, wrong_size, wrong_tag}
use Rattle.http_client.proofs.reply_head.told_by.Goals as goal

pub returns-in_default : goal.returns-in_default
returns-in_default c = record { value = wrong_number c.args.order.now c.args.code (fields_at c.args.front.now c.args.headers.now) (sym c.status_of.ensures.value ∙ c.in_default.is) }

pub returns-in_default-size_in : goal.returns-in_default-size_in
returns-in_default-size_in c = record {
  value = wrong_size c.args.order.now c.args.code (fields_at c.args.front.now c.args.headers.now) c.in-Some.status
      (sym c.status_of.ensures.value ∙ c.in-Some.is) (sym c.size_in.ensures.value ∙ c.in_default-size_in.is);
}

pub returns-then-is_tagged : goal.returns-then-is_tagged
returns-then-is_tagged c = record {
  value = right_by c.args.order.now c.args.code (fields_at c.args.front.now c.args.headers.now) c.in-Some.status c.in-Some-size_in.size
      (sym c.status_of.ensures.value ∙ c.in-Some.is) (sym c.size_in.ensures.value ∙ c.in-Some-size_in.is) (c.is_tagged.ensures.found c.if-is_tagged.true);
}

pub returns-else-is_tagged : goal.returns-else-is_tagged
returns-else-is_tagged c = record {
  value = wrong_tag c.args.order.now c.args.code (fields_at c.args.front.now c.args.headers.now) c.in-Some.status
      (sym c.status_of.ensures.value ∙ c.in-Some.is) (c.is_tagged.ensures.absent c.if-is_tagged.false);
}

-- What is open is so by a new look, or still.
use Rattle.std.proofs.Common.{sym, subst}
use Rattle.http_front.specs.declared.head.Next.{Next}
use Rattle.http_front.specs.NextHead.{IsNext}
use Rattle.worker_server.proofs.BlankLemmas.{open_blank}
use Rattle.worker_server.proofs.LookLemmas.{look_at_all, look_kept, quiet_by, scanned_within}
use Rattle.worker_server.proofs.reading.look_for_head.Goals as goal

pub is_due-requires : goal.is_due-requires
is_due-requires c = record {
  bound = scanned_within c.args.seen c.args.known c.args.front.now c.requires.known;
  within = c.requires.known.within;
}

pub returns-then-not-is_due : goal.returns-then-not-is_due
returns-then-not-is_due c =
    let scanned = c.requires.known in
    record {
      value =
          look_kept c.args.seen c.args.known c.args.front.now scanned
          (quiet_by c.args.seen c.args.known c.args.front.now (scanned_within c.args.seen c.args.known c.args.front.now scanned) (sym c.if-not-is_due.ensures.value));
    }

pub returns-in-Ok-Need : goal.returns-in-Ok-Need
returns-in-Ok-Need c =
    let need = subst (λ (z : Next). IsNext c.args.front.now z) c.in-Ok-Need.field-0-is c.in-Ok-Need.ensures.value in
    record { value = look_at_all c.args.front.now need.0 need.1 need.2 }

pub returns-then-is_open_blank : goal.returns-then-is_open_blank
returns-then-is_open_blank c = record { value = open_blank c.args.blank c.args.front.now c.requires.part (sym c.if-is_open_blank.ensures.value) }

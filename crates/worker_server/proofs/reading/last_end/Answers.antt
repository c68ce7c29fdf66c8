-- The last look is at all that is left.
use Rattle.std.proofs.Common.{◌≡◌, ℕ, List, [], length, nat_le, refl, sym, subst, append-nil}
use Rattle.http_front.specs.Limits.{head_limit}
use Rattle.http_front.specs.RequestStream.{IsRefused, front_of}
use Rattle.http_front.specs.declared.head.Next.{Next}
use Rattle.http_front.specs.declared.head.Next.TheVariants as next
use Rattle.http_front.specs.NextHead.{IsNext}
use Rattle.http_front.proofs.StreamLemmas.{bad_status, refused_on}
use Rattle.worker_server.specs.RequestSteps.{IsEnd}
use Rattle.worker_server.specs.declared.reading.End.{End}
use Rattle.worker_server.proofs.LookLemmas.{none_told}
use Rattle.worker_server.proofs.ReadingLemmas.{open_end}
use Rattle.worker_server.proofs.reading.last_end.Goals as goal

-- what was told of the front is so of the buffer
told_of : (front buffer : List ℕ) (told is : Next) → front ≡ buffer → told ≡ is → IsNext front told → IsNext buffer is
told_of front buffer told is same e h = subst (λ (z : List ℕ). IsNext z is) same (subst (λ (z : Next). IsNext front z) e h)

pub returns-in-Ok-Need-clause-value : goal.returns-in-Ok-Need-clause-value
returns-in-Ok-Need-clause-value c =
    let need = told_of _ _ _ next.Need c.front.ensures c.in-Ok-Need.field-0-is c.in-Ok-Need.ensures.value in
    subst (λ (z : End). IsEnd c.args.buffer.now z) (sym c.end_at.ensures.value) (open_end c.args.buffer.now c.args.buffer.now refl need.0 need.1 need.2)

pub unreachable-requires : goal.unreachable-requires
unreachable-requires c =
    let told = told_of _ _ _ (next.Head c.in-Ok-Head.field-0-0) c.front.ensures c.in-Ok-Head.field-0-is c.in-Ok-Head.ensures.value in
    absurd (none_told c.args.buffer.now _ told.0 c.requires.none told.1)

pub returns-in-Ok-Bad-clause-value : goal.returns-in-Ok-Bad-clause-value
returns-in-Ok-Bad-clause-value c =
    let bad = told_of _ _ _ (next.Bad c.in-Ok-Bad.status) c.front.ensures c.in-Ok-Bad.field-0-is c.in-Ok-Bad.ensures.value in
    subst (λ (z : List ℕ). IsRefused z c.in-Ok-Bad.status) (append-nil c.args.buffer.now) (refused_on c.args.buffer.now [] c.in-Ok-Bad.status bad)

pub returns-in-Ok-Bad-clause-status : goal.returns-in-Ok-Bad-clause-status
returns-in-Ok-Bad-clause-status c =
    let bad = told_of _ _ _ (next.Bad c.in-Ok-Bad.status) c.front.ensures c.in-Ok-Bad.field-0-is c.in-Ok-Bad.ensures.value in
    bad_status (front_of c.args.buffer.now) (nat_le head_limit (length c.args.buffer.now)) c.in-Ok-Bad.status bad

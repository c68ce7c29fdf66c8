use Rattle.std.proofs.Common.{◌≡◌, ◌<◌, ◌^◌, ◌∷◌, [], decimal, append_assoc, arith}
use Rattle.conflict_names.specs.Naming.{number_text}
use Rattle.conflict_names.proofs.NumeralLemmas.{number_text-many}
use Rattle.conflict_names.proofs.naming.push_number.Goals as goal

pub returns : goal.returns
returns c =
    let fits : c.args.k < 2 ^ 64 = omega arith in
    let text : number_text c.args.k ≡ 45 ∷ decimal c.args.k = number_text-many c.args.k c.if-k-lt2.false fits in
    let two = append_assoc c.args.made.now.items (45 ∷ []) (decimal c.args.k) in
    record { ok = cc (text, two, c.in_ok-extend_from_slice.ensures.items, c.in_ok-push.ensures.items, c.format.ensures.text, c.as_bytes.ensures.value) }

use Rattle.std.proofs.Common.{◌≡◌, ◌+◌, ◌-◌, ◌<◌, ◌++◌, ℕ, false, true, length, take, drop, sym, subst, arith}
use Rattle.std.proofs.lemmas.List.{length-take-le}
use Rattle.std.proofs.lemmas.List.Elements.{All-from_get_or}
use Rattle.std.specs.Int.{to_be_bytes, w32}
use Rattle.hex.specs.Hex.{encode_lower}
use Rattle.http_front.proofs.RowLemmas.{no_row_digits, no_row_short, no_row_size, whole_row}
use Rattle.http_front.proofs.row.front_row.Goals as goal

pub returns-then-rest-lt-FRONT-clause-none : goal.returns-then-rest-lt-FRONT-clause-none
returns-then-rest-lt-FRONT-clause-none c = no_row_short c.args.rest.now c.if-rest-lt-FRONT.true

pub slice_bounds-id_in_digits-end : goal.slice_bounds-id_in_digits-end
slice_bounds-id_in_digits-end c = let long = c.if-rest-lt-FRONT.false in sym (length-take-le 40 c.args.rest.now (omega (arith, long)))

pub returns-in-None-clause-none : goal.returns-in-None-clause-none
returns-in-None-clause-none c = no_row_digits c.args.rest.now (λ is. let bad : false ≡ true = c.in-None.ensures.form.1 is in let no : ⊥ = cc in no)

pub returns-then-size-rest-clause-none : goal.returns-then-size-rest-clause-none
returns-then-size-rest-clause-none c = no_row_size c.args.rest.now c.from_be_bytes-size.result c.from_be_bytes-size.ensures c.if-size-rest.true

pub returns-clause-whole : goal.returns-clause-whole
returns-clause-whole c =
    let rest = c.args.rest.now in
    let size = c.from_be_bytes-size.result in
    let same : size ≡ 44 + size - 44 = omega arith in
    let bytes = All-from_get_or (λ byte. byte < 256) rest 0 (λ k below. let small = c.type_inv.rest k in omega (arith, small)) in
    let P : ℕ → Type 0 = λ n. rest ≡ encode_lower c.in-Some.id ++ (to_be_bytes w32 (length (take n (drop 44 rest))) ++ (take n (drop 44 rest) ++ drop (44 + length (take n (drop 44 rest))) rest)) in
    subst P same (whole_row rest c.in-Some.id size bytes c.if-rest-lt-FRONT.false c.if-size-rest.false c.in-Some.ensures.value c.from_be_bytes-size.ensures)

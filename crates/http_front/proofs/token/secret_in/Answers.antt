-- A text that isn't read is no secret's.
use Rattle.std.proofs.Common.{◌≡◌, true, false, refl}
use Rattle.http_front.proofs.TokenLemmas.{secret_form, secret_read}
use Rattle.http_front.proofs.token.secret_in.Goals as goal

pub returns-in-Err : goal.returns-in-Err
returns-in-Err c secret is same =
    let bad : false ≡ true = c.in-Err.ensures.form.1 (secret_form c.args.text.now secret is same) in
    let no : ⊥ = cc in
    absurd no

pub returns-in-Ok : goal.returns-in-Ok
returns-in-Ok c = (secret_read c.args.text.now c.in-Ok.secret (c.in-Ok.ensures.form.0 refl) c.in-Ok.ensures.decoded, c.in-Ok.ensures.value)

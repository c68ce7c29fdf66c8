-- When an order is given once more. The key lemmas are never_kept, answered_once and given_again.
use Rattle.std.proofs.Common.{◌≡◌, Bool, true, false, ◌&&◌, Option, Err, refl, sym, ap, ap₂, ◌∙◌}
use Rattle.remote_calls.specs.Exchange.{OpenView}
use Rattle.remote_calls.specs.HttpRemote.{ends_unanswered, gives_again, keeps_open}
use Rattle.remote_calls.specs.declared.error.RemoteFault.{RemoteFault}

-- no link was kept that might be given more
pub never_kept : (kept after : Option OpenView) (f : RemoteFault) (was : Bool) → was ≡ keeps_open kept → was ≡ false → gives_again kept (Err f) after ≡ false
never_kept kept after f was told none = ap (λ (b : Bool). b && ends_unanswered f after) (sym told ∙ none)

and_false : (b : Bool) → (b && false) ≡ false
and_false true = refl
and_false false = refl

-- or a byte of the reply came
pub answered_once : (kept after : Option OpenView) (f : RemoteFault) (told : Bool) → told ≡ ends_unanswered f after → told ≡ false → gives_again kept (Err f) after ≡ false
answered_once kept after f told is byte = ap (λ (b : Bool). keeps_open kept && b) (sym is ∙ byte) ∙ and_false (keeps_open kept)

-- or both: a link was kept, and none came
pub given_again : (kept after : Option OpenView) (f : RemoteFault) (was told : Bool) → was ≡ keeps_open kept → was ≡ true → told ≡ ends_unanswered f after → told ≡ true
    → gives_again kept (Err f) after ≡ true
given_again kept after f was told was_is kept_open told_is none = ap₂ (λ (a : Bool) (b : Bool). a && b) (sym was_is ∙ kept_open) (sym told_is ∙ none)

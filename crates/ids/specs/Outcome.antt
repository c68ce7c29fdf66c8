-- Words for a refusal that comes exactly where its cause holds. Our own. Read Exactly first.
-- In each of them `is_free` tells the errors that may come in any refusal's place: want of memory, and a counted
-- failure of the outside.
use Rattle.std.specs.Prelude.{◌≡◌, ◌⊎◌, Bool, IsTrue, Option, None, Some, Result, Ok, Err}

-- the error e comes only where P holds, and where P holds nothing comes but e or a free error
abbrev pub Exactly : {T E : Type 0} → (E → Bool) → Result T E → E → Type 0 → Type 0
Exactly is_free (Ok x) e P = ¬ P
Exactly is_free (Err f) e P = (f ≡ e → P) × (P → (f ≡ e) ⊎ IsTrue (is_free f))

-- the same of a kind of errors, which carry a value: those come only where P holds and with the value a
abbrev pub ExactlyWith : {T E A : Type 0} → (E → Bool) → Result T E → (A → E) → A → Type 0 → Type 0
ExactlyWith is_free (Ok x) make a P = ¬ P
ExactlyWith {A = A} is_free (Err f) make a P = ((b : A) → f ≡ make b → (b ≡ a) × P) × (P → (f ≡ make a) ⊎ IsTrue (is_free f))

-- the answer is the refusal that is due, and none where none is due, unless a free error came
abbrev pub RefusesAs : {T E : Type 0} → (E → Bool) → Result T E → Option E → Type 0
RefusesAs is_free (Ok x) due = due ≡ None
RefusesAs is_free (Err f) due = (due ≡ Some f) ⊎ IsTrue (is_free f)

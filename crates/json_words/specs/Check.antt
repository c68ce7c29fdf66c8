-- Checks of which the first that fails is answered, as `?` does. Our own. Read >>= first.
use Rattle.std.specs.Prelude.{Bool, true, false, List, [], ◌∷◌, Option, Some, None, Result, Ok, Err, ⊤}

-- the next step, where the first gave a value
infixl 10 ◌>>=◌
abbrev pub ◌>>=◌ : {A B E : Type 0} → Result A E → (A → Result B E) → Result B E
Ok a >>= next = next a
Err fault >>= next = Err fault

-- the value, under a function
abbrev pub result_map : {A B E : Type 0} → (A → B) → Result A E → Result B E
result_map f (Ok a) = Ok (f a)
result_map f (Err fault) = Err fault

-- a test that must be passed, or else the fault
abbrev pub holds : {E : Type 0} → Bool → E → Result ⊤ E
holds true fault = Ok tt
holds false fault = Err fault

-- the value, or else the fault where there is none
abbrev pub ok_or : {A E : Type 0} → Option A → E → Result A E
ok_or (Some a) fault = Ok a
ok_or None fault = Err fault

-- every item, checked in order
abbrev pub each : {A B E : Type 0} → (A → Result B E) → List A → Result (List B) E
each check [] = Ok []
each check (x ∷ xs) = check x >>= (λ y. each check xs >>= (λ ys. Ok (y ∷ ys)))

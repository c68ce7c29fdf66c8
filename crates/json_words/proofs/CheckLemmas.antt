-- What a step that gave a value had before it. Read WentOn first.
use Rattle.std.proofs.Common.{◌≡◌, Result, Ok, Err, refl}
use Rattle.json_words.specs.Check.{◌>>=◌}

-- the first step gave a value, and the next one made the answer of it
pub record WentOn {A B E : Type 0} (first : Result A E) (next : A → Result B E) (y : B) : Type 0 where
  pub value : A
  pub gave : first ≡ Ok value
  pub goes : next value ≡ Ok y

pub went_on : {A B E : Type 0} (first : Result A E) (next : A → Result B E) (y : B) → (first >>= next) ≡ Ok y → WentOn first next y
went_on (Ok a) next y is = record { value = a; gave = refl; goes = is }
went_on (Err e) next y is = cc

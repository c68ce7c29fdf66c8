-- The beginning of a head that ends within its target. A target's text is UTF-8, and so is tested only
-- where the target ends; here it is tested before. Read first: MayBecomeHead, at the end.
use Rattle.std.specs.Prelude.{ℕ, ◌≡◌, ◌⊎◌, None, IsSome, List, [], ◌∷◌, ◌++◌, Bool, ◌==◌, drop, if◌then◌else◌, IsUtf8}
use Rattle.std.specs.Str.{IsValidUpTo}
use Rattle.std.specs.Str.Lossy.{utf8_error_len}
use Rattle.std.specs.List.{list_any}
use Rattle.httparse.specs.Grammar.{LineEnd, RequestHead, ReadsRequest, IsToken, AllPass, is_uri_byte, print_blank}

-- the bytes end within a character, all whose bytes so far are its
pub record EndsInCharacter (bytes : List ℕ) : Type 0 where
  pub valid : ℕ
  pub up_to : IsValidUpTo bytes valid
  pub fault : utf8_error_len (drop valid bytes) ≡ None

-- the bytes are a text, or end within a character
abbrev pub IsTextFront : List ℕ → Type 0
IsTextFront bytes = IsUtf8 bytes ⊎ EndsInCharacter bytes

-- some byte can be of no character
pub record IsBroken (bytes : List ℕ) : Type 0 where
  pub valid : ℕ
  pub up_to : IsValidUpTo bytes valid
  pub fault : IsSome (utf8_error_len (drop valid bytes))

-- what follows the first space
abbrev pub after_space : List ℕ → List ℕ
after_space [] = []
after_space (byte ∷ bytes) = if byte == 32 then bytes else after_space bytes

abbrev pub has_space : List ℕ → Bool
has_space bytes = list_any (λ b. b == 32) bytes

-- the bytes end within a target, which is a text so far
pub record EndsInTextTarget (bytes : List ℕ) : Type 0 where
  pub blank : List LineEnd
  pub method : List ℕ
  pub target : List ℕ
  pub token : IsToken method
  pub uri : AllPass is_uri_byte target
  pub text : IsTextFront target
  pub is : bytes ≡ print_blank blank ++ method ++ 32 ∷ target

-- some bytes can follow that make the bytes a head, or the target is still being read
abbrev pub MayBecomeHead : List ℕ → Type 0
MayBecomeHead bytes =
    ((more : List ℕ) × (head : RequestHead) × ReadsRequest (bytes ++ more) head []) ⊎ EndsInTextTarget bytes

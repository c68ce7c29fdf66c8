-- A piece that is given in two parts. The key lemmas are Gives-after and GivesFront-first.
use Rattle.std.proofs.Common.{◌≡◌, ℕ, ◌==◌, true, List, [], ◌∷◌, ◌++◌, length, Option, Result, Ok, Err, sym, ap, subst, ◌∙◌, arith, append_assoc}
use Rattle.std.proofs.lemmas.Bool.{eqb-true}
use Rattle.std.specs.Prelude.{⊤}
use Rattle.std.specs.Io.KnownBytes.{append_known}
use Rattle.http_front.specs.Link.{CountsFaults, Gives, GivesFront}
use Rattle.http_front.specs.declared.link.LinkFailed.{LinkFailed}
use Rattle.worker_server.proofs.ReadingLemmas.{GivesFront-after, append_known-more, append_known-nil}

-- the first part was given in part alone
pub GivesFront-first : (given now : Option (List ℕ)) (first bytes : List ℕ) → GivesFront given now first → GivesFront given now (first ++ bytes)
GivesFront-first given now first bytes gives = record {
  front = gives.front;
  rest = gives.rest ++ bytes;
  cut = ap (λ b. b ++ bytes) gives.cut ∙ append_assoc gives.front gives.rest bytes;
  given = gives.given;
}

-- the first part was given, and then the second, whole or in part
pub Gives-after : (given mid now : Option (List ℕ)) (first bytes : List ℕ) (result : Result ⊤ LinkFailed) → mid ≡ append_known given first
    → Gives mid now bytes result → Gives given now (first ++ bytes) result
Gives-after given mid now first bytes (Ok done) is gave =
    gave ∙ ap (λ (known : Option (List ℕ)). append_known known bytes) is ∙ append_known-more given first bytes
Gives-after given mid now first bytes (Err failed) is gave =
    GivesFront-after given now first bytes (subst (λ (known : Option (List ℕ)). GivesFront known now bytes) is gave)

pub CountsFaults-after : (before mid now : ℕ) (result : Result ⊤ LinkFailed) → mid ≡ before → CountsFaults mid now result → CountsFaults before now result
CountsFaults-after before mid now result same counts = subst (λ (count : ℕ). CountsFaults count now result) same counts

-- a part without bytes is given by no call
pub nothing_given : (given : Option (List ℕ)) (bytes : List ℕ) → (length bytes == 0) ≡ true → given ≡ append_known given bytes
nothing_given given [] none = sym (append_known-nil given)
nothing_given given (byte ∷ bytes) none =
    let zero_long : length (byte ∷ bytes) ≡ 0 = eqb-true (length (byte ∷ bytes)) 0 none in absurd (omega (arith, zero_long))

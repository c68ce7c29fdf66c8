-- What a dial was asked for through a remote: this port of this host alone. The key lemmas are dialled_none, dialled_one, dialled_then and
-- dialled_first.
use Rattle.std.proofs.Common.{◌≡◌, ℕ, List, [], ◌∷◌, ◌++◌, refl, sym, ap, ◌∙◌, append_assoc, append-nil}
use Rattle.std.specs.List.{AllByRecursion}
use Rattle.http_front.specs.Dial.{DialsOnly}
use Rattle.remote_calls.specs.HttpRemote.{first_dialled}

-- nothing more was asked for
pub dialled_none : (host : List ℕ) (port : ℕ) (before now : List (List ℕ × ℕ)) → now ≡ before → DialsOnly host port before now
dialled_none host port before now same = ([], same ∙ sym (append-nil before), tt)

-- it was, once
pub dialled_one : (host : List ℕ) (port : ℕ) (before now : List (List ℕ × ℕ)) → now ≡ before ++ (host, port) ∷ [] → DialsOnly host port before now
dialled_one host port before now is = ((host, port) ∷ [], is, (refl, tt))

all_both : {A : Type 0} (P : A → Type 0) (xs ys : List A) → AllByRecursion P xs → AllByRecursion P ys → AllByRecursion P (xs ++ ys)
all_both P [] ys first second = second
all_both P (x ∷ xs) ys first second = (first.0, all_both P xs ys first.1 second)

-- one call after another
pub dialled_then : (host : List ℕ) (port : ℕ) (before mid now : List (List ℕ × ℕ)) → DialsOnly host port before mid → DialsOnly host port mid now → DialsOnly host port before now
dialled_then host port before mid now first second = (
  first.0 ++ second.0,
  second.1 ∙ ap (λ (l : List (List ℕ × ℕ)). l ++ second.0) first.1 ∙ append_assoc before first.0 second.0,
  all_both (λ (asked : List ℕ × ℕ). asked ≡ (host, port)) first.0 second.0 first.2 second.2,
)

-- of a dial as it was handed in
pub dialled_first : {D : Type 0} (dialled : D → List (List ℕ × ℕ)) (host : List ℕ) (port : ℕ) (dial : D) (made : List (D × ℕ)) → made ≡ (dial, 0) ∷ []
    → DialsOnly host port (first_dialled dialled made) (dialled dial)
dialled_first {D} dialled host port dial made is = dialled_none host port (first_dialled dialled made) (dialled dial) (sym (ap (λ (m : List (D × ℕ)). first_dialled dialled m) is))

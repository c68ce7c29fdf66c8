-- The name of a host, by its bytes. The key lemma is host_is.
use Rattle.std.proofs.Common.{◌≡◌, ℕ, ◌≤◌, Bool, List, length, IsTrue, sym, ap, subst, ◌∙◌}
use Rattle.std.specs.List.{list_all}
use Rattle.std.proofs.lemmas.List.Sums.{AllPass-from_list_all, list_all-from_AllPass}
use Rattle.http_client.specs.RequestText.{IsHost, is_host_byte}

pub host_is : (host bytes : List ℕ) (told : Bool) → bytes ≡ host → 1 ≤ length bytes → length bytes ≤ 255 → told ≡ list_all is_host_byte bytes
    → (IsTrue told → IsHost host) × (IsHost host → IsTrue told)
host_is host bytes told same some short is = (
  λ t. subst IsHost same (record { some = some; short = short; allowed = AllPass-from_list_all is_host_byte bytes (sym is ∙ t) }),
  λ h. is ∙ ap (list_all is_host_byte) same ∙ list_all-from_AllPass is_host_byte host h.allowed,
)

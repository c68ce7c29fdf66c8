-- What the tests of the code tell of a server's address, in the words of specs/Address.antt.
use Rattle.std.proofs.Common.{◌≡◌, ◌∙◌, ◌++◌, ℕ, Bool, true, false, List, length, take, drop, Option, Some, None, IsTrue, refl, sym, ap, cond}
use Rattle.std.specs.Prelude.{MatchOption, option_map}
use Rattle.std.specs.Borrow.{Bor}
use Rattle.std.specs.Str.{bytes_eq}
use Rattle.std.specs.Str.Pattern.{FindsTextPrefix, StripsPrefix}
use Rattle.std.proofs.Math.Seq.{take-append_seam, drop-append_seam}
use Rattle.std.proofs.lemmas.Bool.{and_from, and_parts, false_from_ne_true, false≢true, le-leb, leb-true}
use Rattle.std.proofs.lemmas.List.{take-append-drop}
use Rattle.std.proofs.lemmas.List.Sums.{AllPass-from_list_all, list_all-from_AllPass}
use Rattle.std.proofs.lemmas.Slice.Eq.{bytes_eq-Decides}
use Rattle.ids.proofs.BasicLemmas.{apart_from_bytes_eq}
use Rattle.http_client.specs.RequestText.{IsHost, is_host_byte}
use Rattle.client_words.specs.Address.{after, host_of, is_host}

-- the test of a host is that of http_client
pub is_host_told : (told : Bool) (host : List ℕ) → (IsTrue told → IsHost host) × (IsHost host → IsTrue told) → told ≡ is_host host
is_host_told true host both =
    let is : IsHost host = both.0 refl in
    sym (and_from _ _ (le-leb _ _ is.some) (and_from _ _ (le-leb _ _ is.short) (list_all-from_AllPass is_host_byte host is.allowed)))
is_host_told false host both = sym (false_from_ne_true (is_host host) (λ passes.
    let parts = and_parts _ _ passes in
    let rest = and_parts _ _ parts.1 in
    false≢true (both.1 (record {
      some = leb-true _ _ parts.0;
      short = leb-true _ _ rest.0;
      allowed = AllPass-from_list_all is_host_byte host rest.1;
    }))))

-- the name of a host, by what the test tells of a copy
pub host_told : (text kept : List ℕ) (told : Bool) → kept ≡ text → (IsTrue told → IsHost kept) × (IsHost kept → IsTrue told)
    → cond told (Some kept) None ≡ host_of text
host_told text kept told same both = ap (λ (b : Bool). cond b (Some kept) None) (is_host_told told kept both) ∙ ap host_of same

-- a text that is a front and a rest
after_joined : (front rest : List ℕ) → after front (front ++ rest) ≡ Some rest
after_joined front rest =
    ap (λ (b : Bool). cond b (Some (drop (length front) (front ++ rest))) None)
    (ap (λ (t : List ℕ). bytes_eq t front) (take-append_seam front rest) ∙ (bytes_eq-Decides front front).1 refl)
    ∙ ap (λ (t : List ℕ). Some t) (drop-append_seam front rest)

after_none : (front text : List ℕ) → ((rest : List ℕ) → text ≡ front ++ rest → ⊥) → after front text ≡ None
after_none front text lacks =
    ap (λ (b : Bool). cond b (Some (drop (length front) text)) None)
    (apart_from_bytes_eq (take (length front) text) front
    (λ same. lacks (drop (length front) text) (sym (take-append-drop (length front) text) ∙ ap (λ (t : List ℕ). t ++ drop (length front) text) same)))

-- what `strip_prefix` tells
pub after_front : (front text : List ℕ) (r : Option (Bor (List ℕ)))
    → MatchOption r (FindsTextPrefix front text None) (λ x. StripsPrefix (FindsTextPrefix front) text x.now)
    → option_map (λ s. s.now) r ≡ after front text
after_front front text None lacks = sym (after_none front text lacks)
after_front front text (Some x) is =
    sym (ap (after front) is.1.1 ∙ after_joined front (drop is.0 text) ∙ ap (λ (t : List ℕ). Some t) (sym is.2))

-- Empty lines alone: no head stands there, and one may follow. The key lemmas are blank_first, blank_longer, blank_line and
-- open_blank.
use Rattle.std.proofs.Common.{◌≡◌, ◌≢◌, ◌==◌, ℕ, ◌+◌, ◌*◌, ◌≤◌, Bool, true, false, cond, nat_lt, List, [], ◌∷◌, ◌++◌, length, drop, take, inl, inr, refl, sym, ap, subst, ◌∙◌, arith, append_assoc, append-nil, length-append, All}
use Rattle.std.proofs.lemmas.Bool.{and_parts, eqb-true, ltb-true}
use Rattle.std.proofs.lemmas.Grind.{flat_map-append}
use Rattle.std.proofs.lemmas.List.{drop_at, drop_all, nil_from_length, take_all}
use Rattle.std.proofs.lemmas.List.Elements.{All-nil}
use Rattle.std.proofs.lemmas.Str.{IsUtf8-nil}
use Rattle.httparse.specs.Grammar.{LineEnd, HasNoRequest, print_blank, print_end, print_version, print_section}
use Rattle.httparse.proofs.GrammarLemmas.{print_request-append}
use Rattle.httparse.proofs.OpenLemmas.{BlankLines_after, line_blank, request_may_from_line, some_newline}
use Rattle.http_front.specs.Limits.{head_limit}
use Rattle.http_front.specs.TargetFront.{IsTextFront, MayBecomeHead, after_space}
use Rattle.http_front.proofs.TargetFrontLemmas.{NoSpace, no_space-blank, still_may}
use Rattle.worker_server.specs.RequestSteps.{BeginsBlank, IsEndSize, IsOpenBy, is_open_blank}

-- ---- how many bytes are empty lines

-- none so far
pub blank_first : (bytes : List ℕ) → BeginsBlank 0 bytes
blank_first bytes = record { ends = []; more = bytes; is = refl; size = refl }

-- as many where more bytes came
pub blank_longer : (blank : ℕ) (bytes piece : List ℕ) → BeginsBlank blank bytes → BeginsBlank blank (bytes ++ piece)
blank_longer blank bytes piece begins = record {
  ends = begins.ends;
  more = begins.more ++ piece;
  is = ap (λ b. b ++ piece) begins.is ∙ append_assoc (print_blank begins.ends) begins.more piece;
  size = begins.size;
}

pub blank_within : (blank : ℕ) (bytes : List ℕ) → BeginsBlank blank bytes → blank ≤ length bytes
blank_within blank bytes begins =
    let whole : length bytes ≡ length (print_blank begins.ends) + length begins.more = ap length begins.is ∙ length-append (print_blank begins.ends) begins.more in
    omega (arith, whole, begins.size)

-- a line more, where one ends there
pub blank_line : (blank size : ℕ) (bytes : List ℕ) → BeginsBlank blank bytes → IsEndSize (drop blank bytes) size → BeginsBlank (blank + size) bytes
blank_line blank size bytes begins (inl none) = subst (λ n. BeginsBlank n bytes) (same blank size none) begins
  where
    same : (n m : ℕ) → m ≡ 0 → n ≡ n + m
    same n m is = omega (arith, is)
blank_line blank size bytes begins (inr (end, more, is, size_is)) =
    let front = print_blank begins.ends in
    let rest : drop blank bytes ≡ begins.more = ap (drop blank) begins.is ∙ drop_at front begins.more blank (sym begins.size) in
    let line : begins.more ≡ print_end end ++ more = sym rest ∙ is in
    let whole : print_blank (begins.ends ++ end ∷ []) ≡ front ++ print_end end =
    flat_map-append print_end begins.ends (end ∷ []) ∙ ap (λ b. front ++ b) (append-nil (print_end end)) in
    let at : bytes ≡ (front ++ print_end end) ++ more = begins.is ∙ ap (λ b. front ++ b) line ∙ sym (append_assoc front (print_end end) more) in
    let long : length (front ++ print_end end) ≡ length front + length (print_end end) = length-append front (print_end end) in
    record {
      ends = begins.ends ++ end ∷ [];
      more = more;
      is = at ∙ ap (λ b. b ++ more) (sym whole);
      size = (λ i. begins.size i + size_is i) ∙ sym long ∙ ap length (sym whole);
    }

-- ---- nothing else is there

-- no more than those
nothing_more : (blank : ℕ) (bytes : List ℕ) (begins : BeginsBlank blank bytes) → blank ≡ length bytes → bytes ≡ print_blank begins.ends
nothing_more blank bytes begins all =
    let front = print_blank begins.ends in
    let whole : length bytes ≡ length front + length begins.more = ap length begins.is ∙ length-append front begins.more in
    let none : begins.more ≡ [] = nil_from_length begins.more (omega (arith, whole, begins.size, all)) in
    begins.is ∙ ap (λ m. front ++ m) none ∙ append-nil front

space_within : (front rest : List ℕ) → NoSpace (front ++ 32 ∷ rest) → ⊥
space_within [] rest none = none.0 refl
space_within (byte ∷ front) rest none = space_within front rest none.1

-- no head stands there
blank_has_none : (ends : List LineEnd) → HasNoRequest (print_blank ends)
blank_has_none ends head rest reads =
    let tail = head.target ++ (32 ∷ (print_version head.minor ++ (print_end head.line_end ++ (print_section head.fields head.last ++ rest)))) in
    let spaced : print_blank ends ≡ (print_blank head.blank ++ head.method) ++ 32 ∷ tail =
    reads.1 ∙ print_request-append head rest ∙ sym (append_assoc (print_blank head.blank) head.method (32 ∷ tail)) in
    space_within (print_blank head.blank ++ head.method) tail (subst NoSpace spaced (no_space-blank ends))

nothing_after : (bytes : List ℕ) → NoSpace bytes → after_space bytes ≡ []
nothing_after [] none = refl
nothing_after (b ∷ bytes) none = by_first (nothing_after bytes none.1) (b == 32) refl
  where
    by_first : after_space bytes ≡ [] → (t : Bool) → (b == 32) ≡ t → cond t bytes (after_space bytes) ≡ []
    by_first later true is = absurd (none.0 (eqb-true b 32 is))
    by_first later false is = later

-- and one may follow
blank_may : (ends : List LineEnd) → MayBecomeHead (print_blank ends)
blank_may ends =
    let bytes = print_blank ends in
    let none : after_space bytes ≡ [] = nothing_after bytes (no_space-blank ends) in
    still_may bytes (inr (subst IsTextFront (sym none) (inl IsUtf8-nil)))
    (request_may_from_line (inl (line_blank (BlankLines_after ends {text = bytes} {middle = []} (sym (append-nil bytes)) some_newline))))

-- all of it was looked at
pub open_blank : (blank : ℕ) (bytes : List ℕ) → BeginsBlank blank bytes → is_open_blank blank bytes ≡ true → IsOpenBy (length bytes) bytes
open_blank blank bytes begins is =
    let parts = and_parts (blank == length bytes) (nat_lt (length bytes) head_limit) is in
    let alone : bytes ≡ print_blank begins.ends = nothing_more blank bytes begins (eqb-true blank (length bytes) parts.0) in
    let whole : take (length bytes) bytes ≡ bytes = take_all (length bytes) bytes (same (length bytes)) in
    record {
      within = same (length bytes);
      short = ltb-true (length bytes) head_limit parts.1;
      none = subst HasNoRequest (sym alone) (blank_has_none begins.ends);
      looked = record {
        half = twice (length bytes);
        lines = subst (All (λ byte. byte ≢ 10)) (sym (drop_all (length bytes) bytes (same (length bytes)))) (All-nil (λ byte. byte ≢ 10));
        may = subst MayBecomeHead (sym alone ∙ sym whole) (blank_may begins.ends);
      };
    }
  where
    same : (n : ℕ) → n ≤ n
    same n = omega arith

    twice : (n : ℕ) → n ≤ 2 * n
    twice n = omega arith

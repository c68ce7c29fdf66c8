-- A front that ends within a target: the target is what follows its only space. The lemmas to cite are
-- broken_overflows and still_may.
use Rattle.std.proofs.Common.{◌≡◌, ◌≢◌, ◌⊎◌, ℕ, ◌==◌, ◌||◌, Bool, true, false, cond, List, [], ◌∷◌, ◌++◌, refl, sym, ap, subst, ◌∙◌, arith, inl, inr, append_assoc, IsUtf8, IsTrue}
use Rattle.std.specs.Prelude.{⊤}
use Rattle.std.proofs.lemmas.Bool.{eqb-true}
use Rattle.std.proofs.lemmas.List.Elements.{All-head, All-tail}
use Rattle.httparse.specs.Grammar.{LineEnd, crlf, lf, RequestHead, ReadsRequest, MayBecomeRequest, AllPass, is_token_byte, is_uri_byte, print_blank, print_end, print_version, print_section}
use Rattle.httparse.specs.Spans.{RequestOverflows}
use Rattle.httparse.proofs.GrammarLemmas.{print_request-append}
use Rattle.http_front.specs.TargetFront.{IsBroken, IsTextFront, MayBecomeHead, after_space, has_space}
use Rattle.http_front.proofs.BrokenTextLemmas.{broken_never}

-- no byte is a space
abbrev pub NoSpace : List ℕ → Type 0
NoSpace [] = ⊤
NoSpace (byte ∷ bytes) = (byte ≢ 32) × NoSpace bytes

no_space-append : (a b : List ℕ) → NoSpace a → NoSpace b → NoSpace (a ++ b)
no_space-append [] b first second = second
no_space-append (x ∷ a) b first second = (first.0, no_space-append a b first.1 second)

no_space-end : (end : LineEnd) → NoSpace (print_end end)
no_space-end crlf = (λ e. omega (arith, e), (λ e. omega (arith, e), tt))
no_space-end lf = (λ e. omega (arith, e), tt)

pub no_space-blank : (ends : List LineEnd) → NoSpace (print_blank ends)
no_space-blank [] = tt
no_space-blank (end ∷ ends) = no_space-append (print_end end) (print_blank ends) (no_space-end end) (no_space-blank ends)

space_is_no_token : is_token_byte 32 ≡ false
unfolding is_token_byte
space_is_no_token = refl

no_space-token : (bytes : List ℕ) → AllPass is_token_byte bytes → NoSpace bytes
no_space-token [] pass = tt
no_space-token (b ∷ bytes) pass =
    (λ space. not_token (All-head (λ x. IsTrue (is_token_byte x)) b bytes pass) space, no_space-token bytes (All-tail (λ x. IsTrue (is_token_byte x)) b bytes pass))
  where
    not_token : IsTrue (is_token_byte b) → b ≡ 32 → ⊥
    not_token token space = absurd (cc (token, ap is_token_byte space, space_is_no_token))

space_is_no_uri : is_uri_byte 32 ≡ false
space_is_no_uri = refl

no_space-uri : (bytes : List ℕ) → AllPass is_uri_byte bytes → NoSpace bytes
no_space-uri [] pass = tt
no_space-uri (b ∷ bytes) pass =
    (λ space. not_uri (All-head (λ x. IsTrue (is_uri_byte x)) b bytes pass) space, no_space-uri bytes (All-tail (λ x. IsTrue (is_uri_byte x)) b bytes pass))
  where
    not_uri : IsTrue (is_uri_byte b) → b ≡ 32 → ⊥
    not_uri uri space = absurd (cc (uri, ap is_uri_byte space, space_is_no_uri))

space_passes : (b : ℕ) → b ≡ 32 → (b == 32) ≡ false → ⊥
space_passes b space is = absurd (cc (ap (λ x. x == 32) space, is))

-- the test says so
no_space-tested : (bytes : List ℕ) → has_space bytes ≡ false → NoSpace bytes
no_space-tested [] none = tt
no_space-tested (b ∷ bytes) none = by_first (no_space-tested bytes) (b == 32) refl none
  where
    by_first : (has_space bytes ≡ false → NoSpace bytes) → (t : Bool) → (b == 32) ≡ t → (t || has_space bytes) ≡ false → NoSpace (b ∷ bytes)
    by_first later true is none = absurd (cc none)
    by_first later false is none = (λ space. space_passes b space is, later none)

tested_no_space : (bytes : List ℕ) → NoSpace bytes → has_space bytes ≡ false
tested_no_space [] none = refl
tested_no_space (b ∷ bytes) none = by_first (tested_no_space bytes none.1) (b == 32) refl
  where
    by_first : has_space bytes ≡ false → (t : Bool) → (b == 32) ≡ t → (t || has_space bytes) ≡ false
    by_first later true is = absurd (none.0 (eqb-true b 32 is))
    by_first later false is = later

tails : (x y : ℕ) (p q : List ℕ) → x ∷ p ≡ y ∷ q → p ≡ q
tails x y p q same = cc

-- two lists that agree have their first space at one place
same_after : (a b u v : List ℕ) → NoSpace a → NoSpace b → a ++ 32 ∷ u ≡ b ++ 32 ∷ v → u ≡ v
same_after [] [] u v na nb same = cc
same_after [] (y ∷ b) u v na nb same = absurd (nb.0 (cc))
same_after (x ∷ a) [] u v na nb same = absurd (na.0 (cc))
same_after (x ∷ a) (y ∷ b) u v na nb same = same_after a b u v na.1 nb.1 (tails x y (a ++ 32 ∷ u) (b ++ 32 ∷ v) same)

-- a list without a space is a front of what stands before a space
within : (s more target tail : List ℕ) → NoSpace s → s ++ more ≡ target ++ 32 ∷ tail → (t : List ℕ) × (target ≡ s ++ t)
within [] more target tail none same = (target, refl)
within (x ∷ s) more [] tail none same = absurd (none.0 (cc))
within (x ∷ s) more (y ∷ target) tail none same =
    let rest = within s more target tail none.1 (tails x y (s ++ more) (target ++ 32 ∷ tail) same) in
    let first : y ≡ x = cc in
    (rest.0, λ i. first i ∷ rest.1 i)

after_space_is : (front target : List ℕ) → NoSpace front → after_space (front ++ 32 ∷ target) ≡ target
after_space_is [] target none = refl
after_space_is (b ∷ front) target none = by_first (after_space_is front target none.1) (b == 32) refl
  where
    by_first : after_space (front ++ 32 ∷ target) ≡ target → (t : Bool) → (b == 32) ≡ t
        → cond t (front ++ 32 ∷ target) (after_space (front ++ 32 ∷ target)) ≡ target
    by_first later true is = absurd (none.0 (eqb-true b 32 is))
    by_first later false is = later

-- the bytes before the first space, and it; or nothing follows
pub record CutAtSpace (bytes : List ℕ) : Type 0 where
  pub front : List ℕ
  pub none : NoSpace front
  pub is : bytes ≡ front ++ 32 ∷ after_space bytes

cut_at_space : (bytes : List ℕ) → CutAtSpace bytes ⊎ (after_space bytes ≡ [])
cut_at_space [] = inr refl
cut_at_space (b ∷ bytes) = by_first (cut_at_space bytes) (b == 32) refl
  where
    by_first : CutAtSpace bytes ⊎ (after_space bytes ≡ []) → (t : Bool) → (b == 32) ≡ t
        → CutAtSpace (b ∷ bytes) ⊎ (after_space (b ∷ bytes) ≡ [])
    by_first later true is =
        let whole : after_space (b ∷ bytes) ≡ bytes = ap (λ t. cond t bytes (after_space bytes)) is in
        inl (record { front = []; none = tt; is = λ i. eqb-true b 32 is i ∷ sym whole i })
    by_first (inr empty) false is =
        let later : after_space (b ∷ bytes) ≡ after_space bytes = ap (λ t. cond t bytes (after_space bytes)) is in
        inr (later ∙ empty)
    by_first (inl cut) false is =
        let later : after_space (b ∷ bytes) ≡ after_space bytes = ap (λ t. cond t bytes (after_space bytes)) is in
        inl (record {
          front = b ∷ cut.front;
          none = (λ space. space_passes b space is, cut.none);
          is = ap (λ r. b ∷ r) (cut.is ∙ ap (λ a. cut.front ++ 32 ∷ a) (sym later));
        })

nothing_breaks : IsBroken [] → ⊥
nothing_breaks broken = omega (arith, broken.up_to.short)

no_head : (front : List ℕ) → has_space (after_space front) ≡ false → IsBroken (after_space front) → (more : List ℕ) (head : RequestHead)
    (rest : List ℕ) → ReadsRequest (front ++ more) head rest → CutAtSpace front ⊎ (after_space front ≡ []) → ⊥
no_head front alone broken more head rest reads (inr empty) = nothing_breaks (subst IsBroken empty broken)
no_head front alone broken more head rest reads (inl cut) =
    let target = after_space front in
    let before = print_blank head.blank ++ head.method in
    let tail = print_version head.minor ++ (print_end head.line_end ++ (print_section head.fields head.last ++ rest)) in
    let none = no_space-append (print_blank head.blank) head.method (no_space-blank head.blank) (no_space-token head.method reads.0.method.1) in
    let read : cut.front ++ 32 ∷ (target ++ more) ≡ before ++ 32 ∷ (head.target ++ 32 ∷ tail) =
    sym (append_assoc cut.front (32 ∷ target) more) ∙ ap (λ f. f ++ more) (sym cut.is) ∙ reads.1
    ∙ print_request-append head rest ∙ sym (append_assoc (print_blank head.blank) head.method (32 ∷ (head.target ++ 32 ∷ tail))) in
    let same = same_after cut.front before (target ++ more) (head.target ++ 32 ∷ tail) cut.none none read in
    let grows = within target more head.target tail (no_space-tested target alone) same in
    broken_never target grows.0 broken (subst IsUtf8 grows.1 reads.0.target_text)

-- where a target is broken no head follows, so none of few fields
pub broken_overflows : (front : List ℕ) → has_space (after_space front) ≡ false → IsBroken (after_space front) → RequestOverflows 64 front
broken_overflows front alone broken = λ more head rest reads. absurd (no_head front alone broken more head rest reads (cut_at_space front))

-- where none is broken a head may still come
pub still_may : (front : List ℕ) → (has_space (after_space front) ≡ true) ⊎ IsTextFront (after_space front) → MayBecomeRequest front
    → MayBecomeHead front
still_may front whole (inl becomes) = inl becomes
still_may front whole (inr (blank, method, target, token, uri, is)) =
    let before = print_blank blank ++ method in
    let none = no_space-append (print_blank blank) method (no_space-blank blank) (no_space-token method token.1) in
    let follows : after_space front ≡ target = ap after_space is ∙ after_space_is before target none in
    let alone : has_space (after_space front) ≡ false = ap has_space follows ∙ tested_no_space target (no_space-uri target uri) in
    inr (record { blank = blank; method = method; target = target; token = token; uri = uri; text = subst IsTextFront follows (is_text whole alone); is = is })
  where
    is_text : (has_space (after_space front) ≡ true) ⊎ IsTextFront (after_space front) → has_space (after_space front) ≡ false → IsTextFront (after_space front)
    is_text (inl spaced) alone = absurd (cc (spaced, alone))
    is_text (inr text) alone = text

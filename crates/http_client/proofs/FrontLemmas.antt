-- Where bytes begin a head of HTTP/1.1, and where they never do. The lemmas that callers want are no_head_found,
-- newest_may, old_never, never_over, never_other, no_head_before, may_begin and never_some.
use Rattle.std.proofs.Common.{◌≡◌, ℕ, zero, suc, ◌+◌, ◌<◌, ◌==◌, ◌||◌, cond, Bool, true, false, not, IsTrue, List, [], ◌∷◌, ◌++◌, length, take, drop, refl, sym, ap, ◌∙◌, subst, arith, lit≤, append_assoc, append-nil, take-append-drop, get_or, inl, inr, ◌⊎◌, Result, Ok, Err, None, codes}
use Rattle.std.proofs.lemmas.Bool.{eqb-true, false≢true, true≢false}
use Rattle.std.proofs.lemmas.List.Elements.{All-nil, All-cons}
use Rattle.std.specs.Char.{is_ascii_digit}
use Rattle.httparse.specs.Grammar.{AllPass, LineEnd, crlf, lf, MayBecomeResponse, ReadsResponse, ResponseHead, print_blank, print_end, print_reason, print_response, print_section, print_version}
use Rattle.httparse.specs.Outcome.{IfComplete}
use Rattle.httparse.specs.Spans.{FindsResponse, ResponseOverflows}
use Rattle.httparse.specs.declared.Error.{Error}
use Rattle.httparse.specs.declared.Status.{Status}
use Rattle.httparse.specs.declared.Status.TheVariants.{Complete, Partial}
use Rattle.httparse.specs.declared.spans.HeaderSpan.{HeaderSpan}
use Rattle.httparse.specs.declared.spans.ResponseSpans.{ResponseSpans}
use Rattle.httparse.proofs.GrammarLemmas.{ReadsResponse-append, print_response-append, response_prefix_free}
use Rattle.http_client.specs.HeadReading.{after_blank, begins_zero, is_old}
use Rattle.http_client.specs.ReplyHead.{HasNoHead, IsHeadAt, MayBecomeHead, NeverHasHead}

pub from_not : (b : Bool) → IsTrue (not b) → b ≡ false
from_not true t = absurd (false≢true t)
from_not false t = refl

-- ---- where the parser finds none

pub no_head_found : (front : List ℕ) (headers : List HeaderSpan) (r : Result (Status ResponseSpans) Error)
    → FindsResponse front 64 headers r → IfComplete r (λ spans. spans.version ≡ 1 → ⊥) → HasNoHead front
no_head_found front headers (Ok (Complete spans)) finds other head rest is =
    other ((finds head rest is.reads is.few).version ∙ is.newest)
no_head_found front headers (Ok Partial) finds other head rest is = finds head rest is.reads is.few
no_head_found front headers (Err e) finds other head rest is = finds head rest is.reads is.few

-- every head that goes on so has too many fields
pub never_over : (front : List ℕ) → ResponseOverflows 64 front → NeverHasHead front
never_over front over more head rest is =
    let many : 64 < length head.fields = over more head rest is.reads in
    omega (arith, many, is.few)

-- another head stands there
pub never_other : (front : List ℕ) (head : ResponseHead) (rest : List ℕ) → ReadsResponse front head rest → HasNoHead front
    → NeverHasHead front
never_other front head rest reads none more other after is =
    let same : head ≡ other = (response_prefix_free front more head other rest after reads is.reads).0 in
    none other rest (record {
      reads = subst (λ (h : ResponseHead). ReadsResponse front h rest) same reads;
      newest = is.newest;
      few = is.few;
    })

-- what holds of all bytes holds of a beginning
pub no_head_before : (front : List ℕ) (k : ℕ) → HasNoHead front → HasNoHead (take k front)
no_head_before front k none head rest is =
    none head (rest ++ drop k front) (record {
      reads = subst (λ (bytes : List ℕ). ReadsResponse bytes head (rest ++ drop k front)) (take-append-drop k front)
          (ReadsResponse-append (take k front) head rest (drop k front) is.reads);
      newest = is.newest;
      few = is.few;
    })

-- ---- no bytes begin a head

abbrev least_head : ResponseHead
least_head = record {
  blank = [];
  minor = 1;
  digits = codes "200";
  reason = None;
  line_end = lf;
  fields = [];
  last = lf;
}

least_digits : AllPass is_ascii_digit (codes "200")
least_digits =
    let P : ℕ → Type 0 = λ b. is_ascii_digit b ≡ true in
    All-cons P 50 (48 ∷ 48 ∷ []) refl (All-cons P 48 (48 ∷ []) refl (All-cons P 48 [] refl (All-nil P)))

least_is : IsHeadAt (print_response least_head) least_head []
least_is = record {
  reads = (
    record { minor = lit≤ tt; digits = (refl, least_digits); reason = All-nil _; fields = All-nil _ },
    sym (append-nil (print_response least_head)),
  );
  newest = refl;
  few = lit≤ tt;
}

pub may_begin : MayBecomeHead []
may_begin = record { more = print_response least_head; head = least_head; reads = least_is.reads; newest = refl }

pub never_some : (front : List ℕ) → NeverHasHead front → 0 < length front
never_some [] never = absurd (never (print_response least_head) least_head [] least_is)
never_some (byte ∷ front) never = omega arith

-- ---- the version of a head that may come

blank_passed : (ends : List LineEnd) (rest : List ℕ) → after_blank (print_blank ends ++ rest) ≡ after_blank rest
blank_passed [] rest = refl
blank_passed (crlf ∷ ends) rest = blank_passed ends rest
blank_passed (lf ∷ ends) rest = blank_passed ends rest

-- what a head prints from its version on
abbrev behind_version : ResponseHead → List ℕ → List ℕ
behind_version h rest =
    32 ∷ (h.digits ++ (print_reason h.reason ++ (print_end h.line_end ++ (print_section h.fields h.last ++ rest))))

after_blank_of : (h : ResponseHead) (bytes rest : List ℕ) → bytes ≡ print_response h ++ rest
    → after_blank bytes ≡ codes "HTTP/1." ++ ((48 + h.minor) ∷ behind_version h rest)
after_blank_of h bytes rest is =
    ap after_blank (is ∙ print_response-append h rest) ∙ blank_passed h.blank (print_version h.minor ++ behind_version h rest)

-- more bytes stand behind what follows the ends of lines, where something does
after_blank_more : (bytes more : List ℕ) (byte : ℕ) (rest : List ℕ) → after_blank bytes ≡ byte ∷ rest
    → after_blank (bytes ++ more) ≡ byte ∷ (rest ++ more)
after_blank_more [] more byte rest is = let bad : ⊥ = cc in absurd bad
after_blank_more (b ∷ bytes) more byte rest is =
    by_end (b == 13 || b == 10) (λ later. after_blank_more bytes more byte rest later) is
  where
    by_end : (ends : Bool) → (after_blank bytes ≡ byte ∷ rest → after_blank (bytes ++ more) ≡ byte ∷ (rest ++ more))
        → cond ends (after_blank bytes) (b ∷ bytes) ≡ byte ∷ rest
        → cond ends (after_blank (bytes ++ more)) (b ∷ (bytes ++ more)) ≡ byte ∷ (rest ++ more)
    by_end true later e = later e
    by_end false later e = ap (λ (xs : List ℕ). xs ++ more) e

-- a first byte that is a zero digit
zero_first : (bytes : List ℕ) → begins_zero bytes ≡ true → (rest : List ℕ) × (bytes ≡ 48 ∷ rest)
zero_first [] is = let bad : ⊥ = cc in absurd bad
zero_first (byte ∷ bytes) is = (bytes, ap (λ b. b ∷ bytes) (eqb-true byte 48 is))

drop_more_behind : (n : ℕ) (bytes more : List ℕ) (byte : ℕ) (rest : List ℕ) → drop n bytes ≡ byte ∷ rest
    → drop n (bytes ++ more) ≡ byte ∷ (rest ++ more)
drop_more_behind zero bytes more byte rest is = ap (λ (xs : List ℕ). xs ++ more) is
drop_more_behind (suc n) [] more byte rest is = let bad : ⊥ = cc in absurd bad
drop_more_behind (suc n) (b ∷ bytes) more byte rest is = drop_more_behind n bytes more byte rest is

old_stays : (bytes behind more rest : List ℕ) → behind ≡ after_blank bytes → drop 7 behind ≡ 48 ∷ rest
    → drop 7 (after_blank (bytes ++ more)) ≡ 48 ∷ (rest ++ more)
old_stays bytes [] more rest here is = let bad : ⊥ = cc in absurd bad
old_stays bytes (b ∷ behind) more rest here is =
    ap (drop 7) (after_blank_more bytes more b behind (sym here)) ∙ drop_more_behind 7 (b ∷ behind) more 48 rest is

first_same : (a b : ℕ) (xs ys : List ℕ) → a ∷ xs ≡ b ∷ ys → a ≡ b
first_same a b xs ys same = ap (λ (zs : List ℕ). get_or zs 0 0) same

pub old_never : (front : List ℕ) → is_old front ≡ true → NeverHasHead front
old_never front old more head rest is =
    let zero_there = zero_first (drop 7 (after_blank front)) old in
    let seen = old_stays front (after_blank front) more zero_there.0 refl zero_there.1 in
    let told = ap (drop 7) (after_blank_of head (front ++ more) rest is.reads.1) in
    let same : 48 ≡ 48 + head.minor = first_same 48 (48 + head.minor) (zero_there.0 ++ more) (behind_version head rest) (sym seen ∙ told) in
    omega (arith, same, is.newest)

-- ---- one list in front of another

pub record EndsBefore (xs ys cs bs : List ℕ) : Type 0 where
  pub middle : List ℕ
  pub front : cs ≡ xs ++ middle
  pub back : ys ≡ middle ++ bs

pub record EndsBehind (xs ys cs bs : List ℕ) : Type 0 where
  pub byte : ℕ
  pub middle : List ℕ
  pub front : xs ≡ cs ++ byte ∷ middle
  pub back : bs ≡ byte ∷ (middle ++ ys)

pub cut_twice : (xs ys cs bs : List ℕ) → xs ++ ys ≡ cs ++ bs → EndsBefore xs ys cs bs ⊎ EndsBehind xs ys cs bs
cut_twice [] ys cs bs same = inl (record { middle = cs; front = refl; back = same })
cut_twice (x ∷ xs) ys [] bs same = inr (record { byte = x; middle = xs; front = refl; back = sym same })
cut_twice (x ∷ xs) ys (a ∷ cs) bs same =
    let first : x ≡ a = first_same x a (xs ++ ys) (cs ++ bs) same in
    let rest : xs ++ ys ≡ cs ++ bs = ap (drop 1) same in
    elim (cut_twice xs ys cs bs rest) [
      | inl h ↦ inl (record { middle = h.middle; front = cc (first, h.front); back = h.back })
      | inr h ↦ inr (record { byte = h.byte; middle = h.middle; front = cc (first, h.front); back = h.back })
    ]

-- ---- a head that may come is of HTTP/1.1, or tells by its version that it is not

abbrev up_to_version : ResponseHead → List ℕ
up_to_version h = print_blank h.blank ++ codes "HTTP/1."

printed : (h : ResponseHead) → print_response h ++ [] ≡ up_to_version h ++ ((48 + h.minor) ∷ behind_version h [])
printed h =
    print_response-append h [] ∙ sym (append_assoc (print_blank h.blank) (codes "HTTP/1.") ((48 + h.minor) ∷ behind_version h []))

-- the same head, of HTTP/1.1
abbrev renewed : ResponseHead → ResponseHead
renewed h = record h { minor = 1 }

renewed_reads : (front more : List ℕ) (h : ResponseHead) → ReadsResponse (front ++ more) h []
    → (ends : EndsBefore front more (up_to_version h) ((48 + h.minor) ∷ behind_version h []))
    → ReadsResponse (front ++ (ends.middle ++ 49 ∷ behind_version h [])) (renewed h) []
renewed_reads front more h reads ends = (
  record { minor = lit≤ tt; digits = reads.0.digits; reason = reads.0.reason; fields = reads.0.fields },
  sym (append_assoc front ends.middle (49 ∷ behind_version h []))
      ∙ ap (λ (bytes : List ℕ). bytes ++ 49 ∷ behind_version h []) (sym ends.front)
      ∙ sym (printed (renewed h)),
)

old_there : (front : List ℕ) (h : ResponseHead) (rest : List ℕ) → front ≡ up_to_version h ++ 48 ∷ rest → is_old front ≡ true
old_there front h rest is =
    ap is_old (is ∙ append_assoc (print_blank h.blank) (codes "HTTP/1.") (48 ∷ rest))
    ∙ ap (λ (bytes : List ℕ). begins_zero (drop 7 bytes)) (blank_passed h.blank (codes "HTTP/1." ++ 48 ∷ rest))

newest_by : (minor : ℕ) (front more : List ℕ) (h : ResponseHead) → h.minor ≡ minor → ReadsResponse (front ++ more) h []
    → is_old front ≡ false → MayBecomeHead front
newest_by zero front more h is reads old =
    elim (cut_twice front more (up_to_version h) ((48 + h.minor) ∷ behind_version h []) (reads.1 ∙ printed h)) [
      | inl ends ↦ record {
        more = ends.middle ++ 49 ∷ behind_version h [];
        head = renewed h;
        reads = renewed_reads front more h reads ends;
        newest = refl;
      }
      | inr ends ↦
          let byte : ends.byte ≡ 48 = sym (first_same (48 + h.minor) ends.byte (behind_version h []) (ends.middle ++ more) ends.back) ∙ ap (λ n. 48 + n) is in
          let there = old_there front h ends.middle (ends.front ∙ ap (λ b. up_to_version h ++ b ∷ ends.middle) byte) in
          absurd (true≢false (sym there ∙ old))
    ]
newest_by (suc zero) front more h is reads old = record { more = more; head = h; reads = reads; newest = is }
newest_by (suc (suc minor)) front more h is reads old =
    let small = reads.0.minor in
    absurd (omega (arith, small, is))

pub newest_may : (front : List ℕ) → MayBecomeResponse front → is_old front ≡ false → MayBecomeHead front
newest_may front may old = newest_by may.1.minor front may.0 may.1 refl may.2 old

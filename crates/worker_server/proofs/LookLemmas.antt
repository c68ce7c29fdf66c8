-- How the bytes are looked at in which a head is looked for. The key lemmas are look_at_all, quiet_by, look_kept,
-- look_later, none_told and none_at_end.
use Rattle.std.proofs.Common.{◌≡◌, ◌≢◌, ◌==◌, ◌||◌, ℕ, ◌+◌, ◌-◌, ◌*◌, ◌<◌, ◌≤◌, false, nat_le, nat_lt, List, [], ◌∷◌, ◌++◌, length, take, drop, refl, sym, ap, subst, ◌∙◌, arith, append_assoc, length-append, All}
use Rattle.std.proofs.lemmas.Bool.{leb-false, or_parts}
use Rattle.std.proofs.lemmas.Bool.Decides.{nat_tests}
use Rattle.std.proofs.lemmas.List.{drop-append-le, drop_all, length-take-le, take-append-drop, take-append-le, take_all, take_at}
use Rattle.std.proofs.lemmas.List.Elements.{All-append, All-cons, All-nil}
use Rattle.std.specs.List.{list_any}
use Rattle.httparse.specs.Grammar.{HasNoRequest, RequestHead}
use Rattle.http_front.specs.declared.head.Head.{Head}
use Rattle.http_front.specs.Limits.{head_limit}
use Rattle.http_front.specs.NextHead.{IsHeadOf}
use Rattle.http_front.specs.RequestStream.{front_of}
use Rattle.http_front.specs.TargetFront.{MayBecomeHead}
use Rattle.http_front.proofs.LineLemmas.{none_by_lines}
use Rattle.worker_server.specs.RequestSteps.{IsOpenBy, IsQuiet, IsScanned, is_due}
use Rattle.worker_server.proofs.ReadingLemmas.{same_grown}

abbrev IsInLine : ℕ → Type 0
IsInLine byte = byte ≢ 10

same : (n : ℕ) → n ≤ n
same n = omega arith

twice : (n : ℕ) → n ≤ 2 * n
twice n = omega arith

below : (n m : ℕ) → n < m → n ≤ m
below n m lt = omega (arith, lt)

-- all of it was looked at
pub look_at_all : (buffer : List ℕ) → nat_le head_limit (length buffer) ≡ false → HasNoRequest (front_of buffer) → MayBecomeHead (front_of buffer)
    → IsOpenBy (length buffer) buffer
look_at_all buffer fits none may =
    let short : length buffer < head_limit = leb-false head_limit (length buffer) fits in
    let whole = take_all head_limit buffer (below (length buffer) head_limit short) in
    record {
      within = same (length buffer);
      short = short;
      none = subst HasNoRequest whole none;
      looked = record {
        half = twice (length buffer);
        lines = subst (All IsInLine) (sym (drop_all (length buffer) buffer (same (length buffer)))) (All-nil IsInLine);
        may = subst MayBecomeHead (whole ∙ sym (take_all (length buffer) buffer (same (length buffer)))) may;
      };
    }

-- what follows the first bytes, of which some more are set apart
tail_split : (seen known : ℕ) (buffer : List ℕ) → seen ≤ known → known ≤ length buffer → drop seen buffer ≡ drop seen (take known buffer) ++ drop known buffer
tail_split seen known buffer behind within =
    ap (drop seen) (sym (take-append-drop known buffer))
    ∙ drop-append-le seen (take known buffer) (drop known buffer) (subst (λ n. seen ≤ n) (sym (length-take-le known buffer within)) behind)

pub scanned_within : (seen known : ℕ) (buffer : List ℕ) → IsScanned seen known buffer → seen ≤ length buffer
scanned_within seen known buffer scanned = up_to seen known (length buffer) scanned.behind scanned.within
  where
    up_to : (a b c : ℕ) → a ≤ b → b ≤ c → a ≤ c
    up_to a b c first second = omega (arith, first, second)

-- no further look was due
pub look_kept : (seen known : ℕ) (buffer : List ℕ) → IsScanned seen known buffer → IsQuiet seen known buffer → IsOpenBy seen buffer
look_kept seen known buffer scanned quiet =
    let lines = subst (All IsInLine) (sym (tail_split seen known buffer scanned.behind scanned.within))
    (All-append IsInLine (drop seen (take known buffer)) (drop known buffer) scanned.lines quiet.lines) in
    record {
      within = scanned_within seen known buffer scanned;
      short = quiet.short;
      none = none_by_lines seen buffer (scanned.none quiet.some) lines;
      looked = record { half = quiet.half; lines = lines; may = scanned.may quiet.some };
    }

no_feed : (bytes : List ℕ) → list_any (λ byte. byte == 10) bytes ≡ false → All IsInLine bytes
no_feed [] none = All-nil IsInLine
no_feed (byte ∷ bytes) none =
    let parts = or_parts (byte == 10) (list_any (λ b. b == 10) bytes) none in
    All-cons IsInLine byte bytes (other byte parts.0) (no_feed bytes parts.1)
  where
    other : (b : ℕ) → (b == 10) ≡ false → b ≢ 10
    other b unlike alike = absurd (grind (arith, nat_tests, unlike, alike))

-- no look is due
pub quiet_by : (seen known : ℕ) (buffer : List ℕ) → seen ≤ length buffer → is_due seen known buffer ≡ false → IsQuiet seen known buffer
quiet_by seen known buffer within none =
    let first = or_parts (seen == 0) (nat_lt seen (length buffer - seen) || (nat_le head_limit (length buffer) || list_any (λ byte. byte == 10) (drop known buffer))) none in
    let second = or_parts (nat_lt seen (length buffer - seen)) (nat_le head_limit (length buffer) || list_any (λ byte. byte == 10) (drop known buffer)) first.1 in
    let third = or_parts (nat_le head_limit (length buffer)) (list_any (λ byte. byte == 10) (drop known buffer)) second.1 in
    record {
      some = not_zero seen first.0;
      half = by_half seen (length buffer) within second.0;
      short = leb-false head_limit (length buffer) third.0;
      lines = no_feed (drop known buffer) third.1;
    }
  where
    not_zero : (n : ℕ) → (n == 0) ≡ false → n ≢ 0
    not_zero n unlike alike = absurd (grind (arith, nat_tests, unlike, alike))

    by_half : (n all : ℕ) → n ≤ all → nat_lt n (all - n) ≡ false → all ≤ 2 * n
    by_half n all behind unlike = grind (arith, nat_tests, behind, unlike)

-- nothing was looked at
pub look_first : (buffer : List ℕ) → IsScanned 0 0 buffer
look_first buffer = record {
  behind = omega arith;
  within = omega arith;
  none = λ some. absurd (some refl);
  may = λ some. absurd (some refl);
  lines = All-nil IsInLine;
}

-- no head stands in the first bytes either
none_before : (seen : ℕ) (buffer : List ℕ) → HasNoRequest buffer → HasNoRequest (take seen buffer)
none_before seen buffer none head rest reads =
    none head (rest ++ drop seen buffer) (reads.0, sym (take-append-drop seen buffer) ∙ ap (λ b. b ++ drop seen buffer) reads.1 ∙ append_assoc _ rest (drop seen buffer))

-- no head is told of a buffer in which none stands
pub none_told : (buffer : List ℕ) (head : Head) (request : RequestHead) → HasNoRequest buffer → IsHeadOf (front_of buffer) head request → ⊥
none_told buffer head request none is = (none_before 16384 buffer none) request _ is.reads

-- nothing came at the end of the input, and no head stands there still
pub none_at_end : (buffer now piece : List ℕ) (n : ℕ) → HasNoRequest buffer → now ≡ buffer ++ piece → length now ≡ length buffer + n → n ≡ 0 → HasNoRequest now
none_at_end buffer now piece n none grown size zero = subst HasNoRequest (sym (same_grown buffer now piece grown (size ∙ ap (λ k. length buffer + k) zero))) none

-- more bytes came
pub look_later : (seen : ℕ) (buffer piece : List ℕ) → IsOpenBy seen buffer → IsScanned seen (length buffer) (buffer ++ piece)
look_later seen buffer piece before =
    let front : take seen (buffer ++ piece) ≡ take seen buffer = take-append-le seen buffer piece before.within in
    record {
      behind = before.within;
      within = subst (λ n. length buffer ≤ n) (sym (length-append buffer piece)) (grows (length buffer) (length piece));
      none = λ some. subst HasNoRequest (sym front) (none_before seen buffer before.none);
      may = λ some. subst MayBecomeHead (sym front) before.looked.may;
      lines = subst (λ b. All IsInLine (drop seen b)) (sym (take_at buffer piece (length buffer) refl)) before.looked.lines;
    }
  where
    grows : (n m : ℕ) → n ≤ n + m
    grows n m = omega arith

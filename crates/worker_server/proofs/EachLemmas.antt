-- Calls asked one after another: one more of them, and the last.
use Rattle.std.proofs.Common.{◌≡◌, ◌+◌, ◌==◌, ◌<◌, ◌≤◌, nat_le, Bool, true, false, drop, List, [], ◌∷◌, ◌++◌, length, Option, ℕ, inl, inr, refl, sym, ap, subst, ◌∙◌, reverse, append-nil, arith}
use Rattle.std.proofs.lemmas.Bool.{eqb-true, leb-false, leb-true}
use Rattle.std.proofs.lemmas.List.{reverse-append}
use Rattle.std.proofs.lemmas.List.Elements.{All-cons, All-nil}
use Rattle.std.proofs.lemmas.List.Sums.{sum_by-cons, sum_by_push}
use Rattle.library_state.specs.declared.call.Call.{Call}
use Rattle.library_state.specs.declared.refusal.Refusal.TheVariants.{NoMemory}
use Rattle.library_state.specs.declared.reply.Reply.{Reply}
use Rattle.library_state.specs.declared.reply.Reply.TheVariants as reply
use Rattle.http_front.specs.Limits.{row_limit}
use Rattle.http_front.specs.Rows.{FitRows, row_with}
use Rattle.http_front.specs.declared.outcome.Outcome.{Outcome}
use Rattle.http_front.specs.declared.outcome.Outcome.TheVariants.{Packed, Refused}
use Rattle.http_front.specs.declared.row.Row.{Row}
use Rattle.worker_server.specs.Calls.{FirstSo, FitReply, GetsEach, HostRules, PutsEach, call_of, get_of, is_got, is_stored, most_packed, packed_size, put_of, told_of}
use Rattle.worker_server.specs.declared.host.Answer.{Answer}

-- ---- what is left, taken from the end of its reverse

pub one_taken : (left after : List Row) (row : Row) → left ≡ after ++ row ∷ [] → reverse left ≡ row ∷ reverse after
one_taken left after row is = ap reverse is ∙ reverse-append after (row ∷ [])

pub nothing_left : (left : List Row) → left ≡ [] → reverse left ≡ []
nothing_left left is = ap reverse is

-- a reply that gives no bytes
pub not_got : (r : Reply) → ((bytes : List ℕ) → r ≡ reply.Got bytes → ⊥) → is_got r ≡ false
not_got (reply.Got bytes) none = absurd (none bytes refl)
not_got reply.Checked none = refl
not_got (reply.HeadIs id) none = refl
not_got (reply.Stored is_new) none = refl
not_got (reply.Absent ids) none = refl
not_got (reply.Updated id) none = refl
not_got reply.Limited none = refl
not_got (reply.Listed ids) none = refl
not_got (reply.Refused refusal) none = refl

-- what was given is no want of memory
pub got_no_want : (r : Reply) (bytes : List ℕ) → r ≡ reply.Got bytes → r ≡ reply.Refused NoMemory → ⊥
got_no_want r bytes got want = cc (got, want)

-- what is asked for first stands in front of those that follow
pub first_of : (ids : List (List ℕ)) (id : List ℕ) (count i : ℕ) (is_empty : Bool) → is_empty ≡ (count == 0) → count ≡ i → drop i ids ≡ id ∷ drop (i + 1) ids
    → is_empty ≡ true → ids ≡ id ∷ drop 1 ids
first_of ids id count i is_empty is same left begun =
    let zero : i ≡ 0 = sym same ∙ eqb-true count 0 (sym is ∙ begun) in
    subst (λ n. drop n ids ≡ id ∷ drop (n + 1) ids) zero left

-- ---- packed rows

abbrev packed_of : Outcome → List Row
packed_of (Packed rows) = rows
packed_of _ = []

packed_same : (rows given : List Row) → Packed rows ≡ Packed given → rows ≡ given
packed_same rows given e = ap packed_of e

-- one row more has its own bytes more
pub packed_more : (rows : List Row) (id bytes : List ℕ) → packed_size (rows ++ row_with id bytes ∷ []) ≡ packed_size rows + length bytes
packed_more rows id bytes = sum_by_push (λ row. length row.bytes) rows (row_with id bytes)

-- so many are packed then
pub packed_now : (rows : List Row) (id bytes slice : List ℕ) (packed : ℕ) → packed ≡ packed_size rows → slice ≡ bytes
    → packed + length slice ≡ packed_size (rows ++ row_with id bytes ∷ [])
packed_now rows id bytes slice packed is same = (λ i. is i + length (same i)) ∙ sym (packed_more rows id bytes)

pub packed_fit : (rows : List Row) (id bytes slice : List ℕ) (packed : ℕ) → packed ≡ packed_size rows → slice ≡ bytes
    → true ≡ nat_le (packed + length slice) most_packed → FitReply (rows ++ row_with id bytes ∷ [])
packed_fit rows id bytes slice packed is same fits =
    subst (λ n. n ≤ most_packed) (packed_now rows id bytes slice packed is same) (leb-true (packed + length slice) most_packed (sym fits))

pub packed_over : (rows : List Row) (id bytes slice : List ℕ) (packed : ℕ) → packed ≡ packed_size rows → slice ≡ bytes
    → false ≡ nat_le (packed + length slice) most_packed → most_packed < packed_size (rows ++ row_with id bytes ∷ [])
packed_over rows id bytes slice packed is same over =
    subst (λ n. most_packed < n) (packed_now rows id bytes slice packed is same) (leb-false (packed + length slice) most_packed (sym over))

-- each of those that fit is short
pub each_has_text : (rows : List Row) → FitReply rows → FitRows rows
each_has_text [] fits = All-nil (λ row. length row.bytes < row_limit)
each_has_text (row ∷ rows) fits =
    let whole : packed_size (row ∷ rows) ≡ length row.bytes + packed_size rows = sum_by-cons (λ row. length row.bytes) row rows in
    let parts = within (length row.bytes) (packed_size rows) (subst (λ n. n ≤ most_packed) whole fits) in
    All-cons (λ row. length row.bytes < row_limit) row rows parts.0 (each_has_text rows parts.1)
  where
    within : (size more : ℕ) → size + more ≤ most_packed → (size < row_limit) × (more ≤ most_packed)
    within size more fits = (omega (arith, fits), omega (arith, fits))

-- ---- calls

module _ {V Operation : Type 0} (asks : V → List ℕ → Call → Answer → List Operation → V → Type 0) where
  pub PutsEach-stored : (lib : List ℕ) (secret : Option (List ℕ)) (u mid v : V) (row : Row) (rows : List Row) (answer : Answer) (first more : List Operation) (o : Outcome)
      → asks u lib (call_of secret (put_of row)) answer first mid → is_stored answer.reply ≡ true → PutsEach asks lib secret mid rows o more v
      → PutsEach asks lib secret u (row ∷ rows) o (first ++ more) v
  PutsEach-stored lib secret u mid v row rows answer first more o asked stored rest = (answer, mid, first, more, asked, refl, inl (stored, rest))

  pub PutsEach-refused : (lib : List ℕ) (secret : Option (List ℕ)) (u mid : V) (row : Row) (rows : List Row) (answer : Answer) (first : List Operation)
      → asks u lib (call_of secret (put_of row)) answer first mid → is_stored answer.reply ≡ false → PutsEach asks lib secret u (row ∷ rows) (told_of answer) first mid
  PutsEach-refused lib secret u mid row rows answer first asked refused = (answer, mid, first, [], asked, sym (append-nil first), inr (refused, refl, refl, refl))

module _ {V Operation : Type 0} (rules : HostRules V Operation) where
  -- the first was asked for with all of them
  pub told_first : (given : List Row) (u mid : V) (lib : List ℕ) (secret : Option (List ℕ)) (ids left : List (List ℕ)) (answer : Answer) (first : List Operation) (count i : ℕ) (is_empty : Bool)
      → is_empty ≡ (count == 0) → count ≡ i → count ≡ length given → drop i ids ≡ left
      → (is_empty ≡ true → rules.spares u lib secret ids most_packed answer first mid) → FirstSo rules given u lib secret left answer first mid
  told_first [] u mid lib secret ids left answer first count i is_empty is same size at told =
      let zero : i ≡ 0 = sym same ∙ size in
      let all : ids ≡ left = subst (λ (n : ℕ). drop n ids ≡ left) zero at in
      subst (λ (xs : List (List ℕ)). rules.spares u lib secret xs most_packed answer first mid) all (told (is ∙ ap (λ (n : ℕ). n == 0) size))
  told_first (row ∷ rows) u mid lib secret ids left answer first count i is_empty is same size at told = tt

  pub GetsEach-given : (lib : List ℕ) (secret : Option (List ℕ)) (u mid v : V) (id : List ℕ) (ids : List (List ℕ)) (given : List Row) (answer : Answer) (first more : List Operation) (o : Outcome) (bytes : List ℕ)
      → rules.asks u lib (call_of secret (get_of id)) answer first mid → FirstSo rules given u lib secret (id ∷ ids) answer first mid → answer.reply ≡ reply.Got bytes → FitReply (given ++ row_with id bytes ∷ [])
      → GetsEach rules lib secret mid ids (given ++ row_with id bytes ∷ []) o more v
      → GetsEach rules lib secret u (id ∷ ids) given o (first ++ more) v
  GetsEach-given lib secret u mid v id ids given answer first more o bytes asked told got fits rest = (answer, mid, first, more, asked, told, refl, inl (bytes, got, fits, rest))

  pub GetsEach-over : (lib : List ℕ) (secret : Option (List ℕ)) (u mid : V) (id : List ℕ) (ids : List (List ℕ)) (given : List Row) (answer : Answer) (first : List Operation) (bytes : List ℕ)
      → rules.asks u lib (call_of secret (get_of id)) answer first mid → FirstSo rules given u lib secret (id ∷ ids) answer first mid → answer.reply ≡ reply.Got bytes → most_packed < packed_size (given ++ row_with id bytes ∷ [])
      → GetsEach rules lib secret u (id ∷ ids) given (Refused NoMemory) first mid
  GetsEach-over lib secret u mid id ids given answer first bytes asked told got over = (answer, mid, first, [], asked, told, sym (append-nil first), inr (inl (bytes, got, over, refl, refl, refl)))

  pub GetsEach-refused : (lib : List ℕ) (secret : Option (List ℕ)) (u mid : V) (id : List ℕ) (ids : List (List ℕ)) (given : List Row) (answer : Answer) (first : List Operation)
      → rules.asks u lib (call_of secret (get_of id)) answer first mid → FirstSo rules given u lib secret (id ∷ ids) answer first mid → is_got answer.reply ≡ false → GetsEach rules lib secret u (id ∷ ids) given (told_of answer) first mid
  GetsEach-refused lib secret u mid id ids given answer first asked told refused = (answer, mid, first, [], asked, told, sym (append-nil first), inr (inr (refused, refl, refl, refl)))

  -- what is packed fits, where what was given before does
  pub GetsEach-fits : (lib : List ℕ) (secret : Option (List ℕ)) (u v : V) (ids : List (List ℕ)) (given rows : List Row) (operations : List Operation)
      → FitReply given → GetsEach rules lib secret u ids given (Packed rows) operations v → FitReply rows
  GetsEach-fits lib secret u v [] given rows operations fits h = subst FitReply (sym (packed_same rows given h.0)) fits
  GetsEach-fits lib secret u v (id ∷ ids) given rows operations fits h =
      elim h.7 [
        | inl on ↦ GetsEach-fits lib secret h.1 v ids (given ++ row_with id on.0 ∷ []) rows h.3 on.2 on.3
        | inr end ↦ elim end [
          | inl over ↦ absurd (cc over.3)
          | inr refused ↦ absurd (cc refused.1)
        ]
      ]

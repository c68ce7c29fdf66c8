-- The hash of a window with one byte more, and of a window that moves on by a byte.
-- The key lemmas are window_hash-push and window_hash-roll.
use Rattle.std.proofs.Common.{◌≡◌, ℕ, ◌+◌, ◌-◌, ◌*◌, ◌%◌, ◌^◌, ◌<◌, ◌≤◌, List, [], ◌∷◌, ◌++◌, length, take, drop, get_or, max, min, sym, ap, ◌∙◌, arith, ◌⊎◌, ⊎_elim, inl, inr, lit<, refl}
use Rattle.std.proofs.lemmas.List.{length-take-le, length_push, take_more, drop_more, drop-append-le, length-take, length-drop, drop_all, get_or-take}
use Rattle.std.proofs.Math.Nat.{mod-add-mod, add-mod-mod, add-mul-mod_self_left, mod-eq_of_lt}
use Rattle.std.proofs.lemmas.Bool.{cases_lt}
use Rattle.std.proofs.lemmas.Nat.{mod_below, mul-mod_first, pow-add}
use Rattle.block_chunker.specs.ChunkBoundaries.{multiplier, window_sum, window_hash, window}
use Rattle.block_chunker.specs.RollingHash.{ones, chunk_hash}

grown_sum : (x p m s t b : ℕ) → t ≡ s * m + (b + 1) → (x + 1) * (p * m) + t ≡ ((x + 1) * p + s) * m + (b + 1)
grown_sum x p m s t b e = omega arith

-- one byte more
pub window_sum-push : (bytes : List ℕ) (b : ℕ) → window_sum (bytes ++ b ∷ []) ≡ window_sum bytes * multiplier + (b + 1)
window_sum-push [] b = omega arith
window_sum-push (x ∷ bytes) b =
    let longer : multiplier ^ length (bytes ++ b ∷ []) ≡ multiplier ^ length bytes * multiplier = ap (λ n. multiplier ^ n) (length_push bytes b) ∙ pow-add multiplier (length bytes) 1 in
    ap (λ n. (x + 1) * n + window_sum (bytes ++ b ∷ [])) longer ∙ grown_sum x (multiplier ^ length bytes) multiplier (window_sum bytes) (window_sum (bytes ++ b ∷ [])) b (window_sum-push bytes b)

mod_step : (s m c p : ℕ) → ((s % p) * m + c) % p ≡ (s * m + c) % p
mod_step s m c p = sym (mod-add-mod ((s % p) * m) p c) ∙ ap (λ x. (x + c) % p) (mul-mod_first s m p) ∙ mod-add-mod (s * m) p c

-- the same, of the hash
pub window_hash-push : (bytes : List ℕ) (b : ℕ) → window_hash (bytes ++ b ∷ []) ≡ (window_hash bytes * multiplier + (b + 1)) % 2 ^ 64
unfolding window_hash
window_hash-push bytes b = ap (λ n. n % 2 ^ 64) (window_sum-push bytes b) ∙ sym (mod_step (window_sum bytes) multiplier (b + 1) (2 ^ 64))

turned : (a x q : ℕ) → ((a + x) % (q + 1) + x * q) % (q + 1) ≡ a % (q + 1)
turned a x q =
    let whole : a + x + x * q ≡ a + (q + 1) * x = omega arith in
    mod-add-mod (a + x) (q + 1) (x * q) ∙ ap (λ n. n % (q + 1)) whole ∙ add-mul-mod_self_left a (q + 1) x

-- what is added on both sides falls out
mod-add_cancel : (a b x q : ℕ) → (a + x) % (q + 1) ≡ (b + x) % (q + 1) → a % (q + 1) ≡ b % (q + 1)
mod-add_cancel a b x q e = sym (turned a x q) ∙ ap (λ n. (n + x * q) % (q + 1)) e ∙ turned b x q

left_behind : (o p m s b : ℕ) → (o * p + s) * m + b ≡ s * m + b + o * (p * m)
left_behind o p m s b = omega arith

-- a hash that rolled on to the next window
pub window_hash-roll : (old : ℕ) (bytes : List ℕ) (b hash next : ℕ) → length bytes ≡ 47 → next < 2 ^ 64 → hash ≡ window_hash (old ∷ bytes) → (next + (old + 1) * multiplier ^ 48) % 2 ^ 64 ≡ (hash * multiplier + (b + 1)) % 2 ^ 64 → next ≡ window_hash (bytes ++ b ∷ [])
unfolding window_hash
window_hash-roll old bytes b hash next long small is h =
    let s = window_sum bytes in
    let gone = (old + 1) * multiplier ^ 48 in
    let had : window_sum (old ∷ bytes) ≡ (old + 1) * multiplier ^ 47 + s = ap (λ n. (old + 1) * multiplier ^ n + s) long in
    let rest : window_sum (old ∷ bytes) * multiplier + (b + 1) ≡ window_sum (bytes ++ b ∷ []) + gone =
    ap (λ n. n * multiplier + (b + 1)) had ∙ left_behind (old + 1) (multiplier ^ 47) multiplier s (b + 1) ∙ ap (λ n. n + gone) (sym (window_sum-push bytes b)) in
    let both : (next + gone) % 2 ^ 64 ≡ (window_sum (bytes ++ b ∷ []) + gone) % 2 ^ 64 =
    h ∙ ap (λ n. (n * multiplier + (b + 1)) % 2 ^ 64) is ∙ mod_step (window_sum (old ∷ bytes)) multiplier (b + 1) (2 ^ 64) ∙ ap (λ n. n % 2 ^ 64) rest in
    sym (mod-eq_of_lt small) ∙ mod-add_cancel next (window_sum (bytes ++ b ∷ [])) gone (2 ^ 64 - 1) both

-- the bytes from a place on, with one more
pub drop-take_more : (bytes : List ℕ) (first i : ℕ) → first ≤ i → i < length bytes → drop first (take (i + 1) bytes) ≡ drop first (take i bytes) ++ get_or bytes i 0 ∷ []
drop-take_more bytes first i p q =
    let within : first ≤ length (take i bytes) = omega (arith, length-take-le i bytes (omega arith)) in
    ap (drop first) (take_more bytes i 0 q) ∙ drop-append-le first (take i bytes) (get_or bytes i 0 ∷ []) within

-- the window's first byte, and the others
pub drop-take_first : (bytes : List ℕ) (i : ℕ) → 48 ≤ i → i ≤ length bytes → drop (i - 48) (take i bytes) ≡ get_or bytes (i - 48) 0 ∷ drop (i + 1 - 48) (take i bytes)
drop-take_first bytes i p q =
    let within : i - 48 < length (take i bytes) = omega (arith, length-take-le i bytes q) in
    let next : i - 48 + 1 ≡ i + 1 - 48 = omega arith in
    drop_more (take i bytes) (i - 48) 0 within
    ∙ ap (λ x. x ∷ drop (i - 48 + 1) (take i bytes)) (get_or-take i bytes (i - 48) 0 (omega arith))
    ∙ ap (λ n. get_or bytes (i - 48) 0 ∷ drop n (take i bytes)) next

-- the window at a place of the bytes
pub window-take : (bytes : List ℕ) (i : ℕ) → i ≤ length bytes → window (take i bytes) ≡ drop (i - 48) (take i bytes)
window-take bytes i q = ap (λ n. drop (n - 48) (take i bytes)) (length-take-le i bytes q)

-- the hash of the window rolls on to the next place
pub roll_more : (bytes : List ℕ) (i hash next : ℕ) → 48 ≤ i → i < length bytes → next < 2 ^ 64 → hash ≡ window_hash (window (take i bytes)) → (next + (get_or bytes (i - 48) 0 + 1) * multiplier ^ 48) % 2 ^ 64 ≡ (hash * multiplier + (get_or bytes i 0 + 1)) % 2 ^ 64 → next ≡ window_hash (window (take (i + 1) bytes))
roll_more bytes i hash next p q small is h =
    let rest = drop (i + 1 - 48) (take i bytes) in
    let size : length rest ≡ 47 = omega (arith, length-drop (i + 1 - 48) (take i bytes), length-take-le i bytes (omega arith)) in
    let was : window (take i bytes) ≡ get_or bytes (i - 48) 0 ∷ rest = window-take bytes i (omega arith) ∙ drop-take_first bytes i p (omega arith) in
    let now : window (take (i + 1) bytes) ≡ rest ++ get_or bytes i 0 ∷ [] = window-take bytes (i + 1) (omega arith) ∙ drop-take_more bytes (i + 1 - 48) i (omega arith) q in
    window_hash-roll (get_or bytes (i - 48) 0) rest (get_or bytes i 0) hash next size small (is ∙ ap window_hash was) h ∙ ap window_hash (sym now)

-- the hash of a chunk below its least length, and of one with it
pub chunk_hash-young : (bytes : List ℕ) (least k : ℕ) → k ≤ least → k ≤ length bytes → chunk_hash least (take k bytes) ≡ window_hash (drop (least - 48) (take k bytes))
chunk_hash-young bytes least k short fits =
    let size : max (length (take k bytes)) least ≡ least = omega (arith, length-take-le k bytes fits) in
    ap (λ n. window_hash (drop (n - 48) (take k bytes))) size

pub chunk_hash-grown : (bytes : List ℕ) (least k : ℕ) → least ≤ k → k ≤ length bytes → chunk_hash least (take k bytes) ≡ window_hash (window (take k bytes))
chunk_hash-grown bytes least k long fits =
    let size : max (length (take k bytes)) least ≡ length (take k bytes) = omega (arith, length-take-le k bytes fits) in
    ap (λ n. window_hash (drop (n - 48) (take k bytes))) size

-- two beginnings with no byte behind a place
pub drop-take_none : (bytes : List ℕ) (first i : ℕ) → i ≤ first → drop first (take i bytes) ≡ []
drop-take_none bytes first i p = drop_all first (take i bytes) (omega (arith, length-take i bytes))

-- a place up to the next one
pub last_or_before : (k i : ℕ) → k ≤ i + 1 → (k ≤ i) ⊎ (k ≡ i + 1)
last_or_before k i h = ⊎_elim (λ below. inl (omega arith)) (λ above. inr (omega arith)) (cases_lt k (i + 1))

-- nothing is left out where what lies before the place is passed over
pub drop-take_start : (bytes : List ℕ) (first from to start : ℕ) → from ≤ to → start ≡ min (max from first) to → drop first (take from bytes) ≡ drop first (take start bytes)
drop-take_start bytes first from to start p e =
    ⊎_elim
    (λ before. drop-take_none bytes first from (omega arith) ∙ sym (drop-take_none bytes first start (omega arith)))
    (λ behind. let same : from ≡ start = omega arith in ap (λ n. drop first (take n bytes)) same)
    (cases_lt from first)

-- a chunk without a byte has the hash 0
pub chunk_hash-none : (least : ℕ) (bytes : List ℕ) → bytes ≡ [] → 0 ≡ chunk_hash least bytes
unfolding window_hash
chunk_hash-none least bytes e = sym (ap (chunk_hash least) e ∙ ap (λ x. window_sum x % 2 ^ 64) (drop_all (max 0 least - 48) [] (omega arith)))

ones_out : (n x k q : ℕ) → n + k + (x + 1) * q ≡ n + x * q + (k + q)
ones_out n x k q = omega arith

ones_in : (p m b k q : ℕ) → p * m + b + (k * m + 1) ≡ (p + k) * m + (b + 1)
ones_in p m b k q = omega arith

-- a plain sum that moves on is a hash that rolls
roll_plain : (plain next old byte : ℕ) → (next + old * multiplier ^ 48) % 2 ^ 64 ≡ (plain * multiplier + byte) % 2 ^ 64 → ((next + ones) % 2 ^ 64 + (old + 1) * multiplier ^ 48) % 2 ^ 64 ≡ (((plain + ones) % 2 ^ 64) * multiplier + (byte + 1)) % 2 ^ 64
roll_plain plain next old byte h =
    let q = multiplier ^ 48 in
    let p = 2 ^ 64 in
    let closed : (ones + q) % p ≡ (ones * multiplier + 1) % p = refl in
    mod-add-mod (next + ones) p ((old + 1) * q)
    ∙ ap (λ n. n % p) (ones_out next old ones q)
    ∙ sym (mod-add-mod (next + old * q) p (ones + q))
    ∙ ap (λ n. (n + (ones + q)) % p) h
    ∙ mod-add-mod (plain * multiplier + byte) p (ones + q)
    ∙ sym (add-mod-mod (plain * multiplier + byte) (ones + q) p)
    ∙ ap (λ n. (plain * multiplier + byte + n) % p) closed
    ∙ add-mod-mod (plain * multiplier + byte) (ones * multiplier + 1) p
    ∙ ap (λ n. n % p) (ones_in plain multiplier byte ones q)
    ∙ sym (mod_step (plain + ones) multiplier (byte + 1) p)

-- the hash of the window rolls on by its plain sum
pub roll_plain_more : (bytes : List ℕ) (i plain next : ℕ) → 48 ≤ i → i < length bytes → (plain + ones) % 2 ^ 64 ≡ window_hash (window (take i bytes)) → (next + get_or bytes (i - 48) 0 * multiplier ^ 48) % 2 ^ 64 ≡ (plain * multiplier + get_or bytes i 0) % 2 ^ 64 → (next + ones) % 2 ^ 64 ≡ window_hash (window (take (i + 1) bytes))
roll_plain_more bytes i plain next p q is h =
    roll_more bytes i ((plain + ones) % 2 ^ 64) ((next + ones) % 2 ^ 64) p q (mod_below (next + ones) (2 ^ 64) (lit< tt)) is (roll_plain plain next (get_or bytes (i - 48) 0) (get_or bytes i 0) h)

-- The target that is written for an order: its bytes, its length, and the path and query that a server cuts it into. The
-- key lemmas are target_visible, target_short, path_is and query_is.
use Rattle.std.proofs.Common.{IsUtf8, ℤ, pos, negsuc, suc, unsigned_abs, ◌^◌, decimal, ◌≡◌, ◌≢◌, ℕ, ◌+◌, ◌*◌, ◌<◌, ◌≤◌, ◌==◌, ◌&&◌, not, nat_lt, Bool, true, false, cond, IsTrue, List, [], ◌∷◌, ◌++◌, length, take, drop, get_or, All, Option, None, Some, codes, refl, sym, ap, subst, ◌∙◌, arith, lit≤, lit<, length-append, append-nil}
use Rattle.std.specs.Prelude.{⊤}
use Rattle.std.specs.Char.{is_ascii_digit}
use Rattle.std.specs.Fmt.{signed_decimal}
use Rattle.std.specs.List.{join_with_byte, list_all, position_or_len}
use Rattle.std.proofs.lemmas.Bool.{and_parts, and_from, eqb-true, false≢true}
use Rattle.std.proofs.lemmas.Bool.Decides.{nat_tests}
use Rattle.std.proofs.lemmas.Fmt.{length-decimal-le}
use Rattle.std.proofs.lemmas.List.{drop_all, drop_at, drop-drop, take_all, take_at}
use Rattle.std.proofs.lemmas.List.Elements.{All-from_get_or}
use Rattle.std.proofs.lemmas.List.Sums.{AllPass-from_list_all, list_all-from_AllPass}
use Rattle.std.proofs.lemmas.Str.{IsUtf8-from_ascii}
use Rattle.std.proofs.lemmas.Str.Ascii.{IsAscii-from_all}
use Rattle.hex.specs.Hex.{encode_lower, lower_digits}
use Rattle.hex.proofs.HexLemmas.{length-encode_with}
use Rattle.uuid.specs.Text.{hyphenated_text, lower}
use Rattle.ids.specs.Digits.{is_lower_digit}
use Rattle.uuid.specs.Text.{is_hyphen_place}
use Rattle.ids.specs.Kind.{kind_word}
use Rattle.ids.specs.declared.key.Kind.{Kind}
use Rattle.ids.specs.declared.key.Kind.TheVariants.{Commit, Fs, Block}
use Rattle.ids.proofs.DigitsLemmas.{AllPass-encode_lower}
use Rattle.ids.proofs.LibraryTextLemmas.{IsOf-hyphenated}
use Rattle.http_front.specs.CallQuery.{IsObjectId, check_query, days_query, ids_query, part_of, update_query}
use Rattle.http_front.specs.Query.{query_of}
use Rattle.http_front.specs.Route.{IsCall, parts_in, path_in, under}
use Rattle.http_front.specs.Target.{before_query, path_of, without_end_slash}
use Rattle.http_front.specs.declared.route.Route.{Route}
use Rattle.http_front.specs.declared.route.Route.TheVariants as route
use Rattle.http_front.proofs.NumberLemmas.{decimal_digits}
use Rattle.http_front.proofs.TargetLemmas.{no_end_slash}
use Rattle.http_front.specs.declared.order.What.{What}
use Rattle.http_front.specs.declared.order.What.TheVariants as what
use Rattle.library_state.specs.declared.call.Op.TheVariants.{Upload, Download}
use Rattle.http_client.specs.ReadOrder.{HasIds, IsLibraryOrNone}
use Rattle.http_client.specs.RequestText.{IsAsked, NamesLibrary, query_text, route_in, target_text}
use Rattle.ids.proofs.BasicLemmas.{list_all-joined}

-- visible ASCII
abbrev pub is_visible : ℕ → Bool
is_visible b = nat_lt 32 b && nat_lt b 127

-- what a path is written with: no `?`
abbrev is_path_byte : ℕ → Bool
is_path_byte b = is_visible b && not (b == 63)

-- what a part is written with: no `/` either
abbrev is_part_byte : ℕ → Bool
is_part_byte b = is_path_byte b && not (b == 47)

pub weaker : (p q : ℕ → Bool) → ((b : ℕ) → p b ≡ true → q b ≡ true) → (xs : List ℕ) → list_all p xs ≡ true → list_all q xs ≡ true
weaker p q f [] a = refl
weaker p q f (x ∷ xs) a = let both = and_parts (p x) (list_all p xs) a in and_from (q x) (list_all q xs) (f x both.0) (weaker p q f xs both.1)

digit_part_byte : (b : ℕ) → is_lower_digit b ≡ true → (is_path_byte b && not (b == 47)) ≡ true
digit_part_byte b is = grind (arith, nat_tests)

path_byte_visible : (b : ℕ) → is_path_byte b ≡ true → is_visible b ≡ true
path_byte_visible b is = (and_parts (is_visible b) (not (b == 63)) is).0

digits_are : (id : List ℕ) → All (λ byte. byte < 256) id → list_all is_part_byte (encode_lower id) ≡ true
digits_are id bytes = weaker is_lower_digit is_part_byte digit_part_byte (encode_lower id) (list_all-from_AllPass is_lower_digit (encode_lower id) (AllPass-encode_lower id bytes))

allowed_byte : (hyphen : Bool) (c : ℕ) → cond hyphen (c == 45) (is_lower_digit c) ≡ true → is_part_byte c ≡ true
allowed_byte true c is = subst (λ b. is_part_byte b ≡ true) (sym (eqb-true c 45 is)) refl
allowed_byte false c is = digit_part_byte c is

library_are : (lib : List ℕ) → list_all is_part_byte (hyphenated_text lower lib) ≡ true
library_are lib =
    let text = hyphenated_text lower lib in
    let form = IsOf-hyphenated lib in
    list_all-from_AllPass is_part_byte text
    (All-from_get_or (λ c. IsTrue (is_part_byte c)) text 0 (λ k l. allowed_byte (is_hyphen_place k) (get_or text k 0) (form.each k (omega (arith, l, form.whole)))))

pub visible_ascii : (b : ℕ) → is_visible b ≡ true → b < 128
visible_ascii b is = grind (arith, nat_tests)

pub visible_utf8 : (text : List ℕ) → list_all is_visible text ≡ true → IsUtf8 text
visible_utf8 text are =
    IsUtf8-from_ascii text (IsAscii-from_all text (All-from_get_or (λ b. b < 128) text 0 (λ k l. visible_ascii (get_or text k 0) (AllPass-from_list_all is_visible text are k 0 l))))

part_path_byte : (b : ℕ) → is_part_byte b ≡ true → is_path_byte b ≡ true
part_path_byte b is = (and_parts (is_path_byte b) (not (b == 47)) is).0

-- ---- a path: its parts, each short and of path bytes, of which the last is some bytes that end in no slash

record IsPart (part : List ℕ) : Type 0 where
  bytes : list_all is_part_byte part ≡ true
  short : length part ≤ 40

path_bytes_of : (part : List ℕ) → IsPart part → list_all is_path_byte part ≡ true
path_bytes_of part is = weaker is_part_byte is_path_byte part_path_byte part is.bytes

abbrev AreParts : List (List ℕ) → Type 0
AreParts [] = ⊤
AreParts (part ∷ parts) = IsPart part × AreParts parts

joined_bytes : (parts : List (List ℕ)) → AreParts parts → list_all is_path_byte (join_with_byte 47 parts) ≡ true
joined_bytes [] are = refl
joined_bytes (part ∷ []) are = path_bytes_of part are.0
joined_bytes (part ∷ next ∷ parts) are =
    list_all-joined is_path_byte part (47 ∷ join_with_byte 47 (next ∷ parts)) (path_bytes_of part are.0) (joined_bytes (next ∷ parts) are.1)

joined_short : (parts : List (List ℕ)) → AreParts parts → length (join_with_byte 47 parts) ≤ 41 * length parts
joined_short [] are = omega arith
joined_short (part ∷ []) are = let short = are.0.short in omega (arith, short)
joined_short (part ∷ next ∷ parts) are =
    let short = are.0.short in
    let more = joined_short (next ∷ parts) are.1 in
    omega (arith, short, more, length-append part (47 ∷ join_with_byte 47 (next ∷ parts)))

word_part : (word : List ℕ) → list_all is_part_byte word ≡ true → length word ≤ 40 → IsPart word
word_part word bytes short = record { bytes = bytes; short = short }

id_part : (id : List ℕ) → length id ≡ 20 → All (λ byte. byte < 256) id → IsPart (encode_lower id)
id_part id size bytes = record { bytes = digits_are id bytes; short = let twice = length-encode_with lower_digits id in omega (arith, size, twice) }

library_part : (lib : List ℕ) → IsPart (hyphenated_text lower lib)
library_part lib = record { bytes = library_are lib; short = let whole = (IsOf-hyphenated lib).whole in omega (arith, whole) }

kind_part : (kind : Kind) → IsPart (kind_word kind)
kind_part Commit = word_part (codes "commit") refl (lit≤ tt)
kind_part Fs = word_part (codes "fs") refl (lit≤ tt)
kind_part Block = word_part (codes "block") refl (lit≤ tt)

under_parts : (lib : List ℕ) (rest : List (List ℕ)) → AreParts rest → AreParts (under lib rest)
under_parts lib rest are = (word_part [] refl (lit≤ tt), (word_part (codes "repo") refl (lit≤ tt), (library_part lib, are)))

route_parts : (r : Route) → IsCall r → AreParts (parts_in r)
route_parts route.Version is = (word_part [] refl (lit≤ tt), (word_part (codes "protocol-version") refl (lit≤ tt), tt))
route_parts (route.Check lib) is = under_parts lib (codes "permission-check" ∷ []) (word_part (codes "permission-check") refl (lit≤ tt), tt)
route_parts (route.Head lib) is = under_parts lib (codes "commit" ∷ codes "HEAD" ∷ []) (word_part (codes "commit") refl (lit≤ tt), (word_part (codes "HEAD") refl (lit≤ tt), tt))
route_parts (route.Update lib) is = under_parts lib (codes "commit" ∷ codes "HEAD" ∷ []) (word_part (codes "commit") refl (lit≤ tt), (word_part (codes "HEAD") refl (lit≤ tt), tt))
route_parts (route.Get lib key) is = under_parts lib (kind_word key.kind ∷ encode_lower key.id ∷ []) (kind_part key.kind, (id_part key.id is.id_size is.id_bytes, tt))
route_parts (route.Put lib key) is = under_parts lib (kind_word key.kind ∷ encode_lower key.id ∷ []) (kind_part key.kind, (id_part key.id is.id_size is.id_bytes, tt))
route_parts (route.CheckFs lib) is = under_parts lib (codes "check-fs" ∷ []) (word_part (codes "check-fs") refl (lit≤ tt), tt)
route_parts (route.CheckBlocks lib) is = under_parts lib (codes "check-blocks" ∷ []) (word_part (codes "check-blocks") refl (lit≤ tt), tt)
route_parts (route.PutFs lib) is = under_parts lib (codes "recv-fs" ∷ []) (word_part (codes "recv-fs") refl (lit≤ tt), tt)
route_parts (route.GetFs lib) is = under_parts lib (codes "pack-fs" ∷ []) (word_part (codes "pack-fs") refl (lit≤ tt), tt)
route_parts (route.Ids lib) is = under_parts lib (codes "fs-id-list" ∷ []) (word_part (codes "fs-id-list") refl (lit≤ tt), tt)
route_parts (route.Limit lib) is = under_parts lib (codes "history-limit" ∷ []) (word_part (codes "history-limit") refl (lit≤ tt), tt)
route_parts (route.Collect lib) is = under_parts lib (codes "collect" ∷ []) (word_part (codes "collect") refl (lit≤ tt), tt)

few_parts : (r : Route) → length (parts_in r) ≤ 5
few_parts route.Version = lit≤ tt
few_parts (route.Check lib) = lit≤ tt
few_parts (route.Head lib) = lit≤ tt
few_parts (route.Update lib) = lit≤ tt
few_parts (route.Get lib key) = lit≤ tt
few_parts (route.Put lib key) = lit≤ tt
few_parts (route.CheckFs lib) = lit≤ tt
few_parts (route.CheckBlocks lib) = lit≤ tt
few_parts (route.PutFs lib) = lit≤ tt
few_parts (route.GetFs lib) = lit≤ tt
few_parts (route.Ids lib) = lit≤ tt
few_parts (route.Limit lib) = lit≤ tt
few_parts (route.Collect lib) = lit≤ tt

path_bytes : (r : Route) → IsCall r → list_all is_path_byte (path_in r) ≡ true
path_bytes r is = joined_bytes (parts_in r) (route_parts r is)

path_short : (r : Route) → IsCall r → length (path_in r) ≤ 205
path_short r is = let joined = joined_short (parts_in r) (route_parts r is) in let few = few_parts r in omega (arith, joined, few)

-- ---- the path and the query that the target is cut into

abbrev is_question : ℕ → Bool
is_question b = b == 63

no_question : (path : List ℕ) → list_all is_path_byte path ≡ true → list_all (λ b. not (is_question b)) path ≡ true
no_question path are = weaker is_path_byte (λ b. not (is_question b)) (λ b is. (and_parts (is_visible b) (not (b == 63)) is).1) path are

-- the path ends at the first `?`
cut_at_question : (path rest : List ℕ) → list_all (λ b. not (is_question b)) path ≡ true → position_or_len is_question (path ++ 63 ∷ rest) ≡ length path
cut_at_question [] rest are = refl
cut_at_question (b ∷ path) rest are =
    let parts = and_parts (not (is_question b)) (list_all (λ c. not (is_question c)) path) are in
    let later = cut_at_question path rest parts.1 in
    rw parts.0 (omega (arith, later))

uncut : (path : List ℕ) → list_all (λ b. not (is_question b)) path ≡ true → position_or_len is_question path ≡ length path
uncut [] are = refl
uncut (b ∷ path) are =
    let parts = and_parts (not (is_question b)) (list_all (λ c. not (is_question c)) path) are in
    let later = uncut path parts.1 in
    rw parts.0 (omega (arith, later))

-- what follows a path: nothing, or a `?` and a query
pub data IsTail : List ℕ → List ℕ → Type 0 where
  no_query : IsTail [] []
  with_query : (query : List ℕ) → IsTail (63 ∷ query) query

before_tail : (path tail query : List ℕ) → list_all is_path_byte path ≡ true → IsTail tail query → before_query (path ++ tail) ≡ path
before_tail path _ _ are no_query =
    ap (λ (t : List ℕ). before_query t) (append-nil path) ∙ ap (λ n. take n path) (uncut path (no_question path are)) ∙ take_all (length path) path (omega arith)
before_tail path _ _ are (with_query query) =
    ap (λ n. take n (path ++ 63 ∷ query)) (cut_at_question path query (no_question path are)) ∙ take_at path (63 ∷ query) (length path) refl

after_tail : (path tail query : List ℕ) → list_all is_path_byte path ≡ true → IsTail tail query → query_of (path ++ tail) ≡ query
after_tail path _ _ are no_query =
    ap (λ (t : List ℕ). query_of t) (append-nil path) ∙ ap (λ n. drop (n + 1) path) (uncut path (no_question path are)) ∙ drop_all (length path + 1) path (omega arith)
after_tail path _ _ are (with_query query) =
    ap (λ n. drop (n + 1) (path ++ 63 ∷ query)) (cut_at_question path query (no_question path are))
    ∙ sym (drop-drop 1 (length path) (path ++ 63 ∷ query)) ∙ ap (drop 1) (drop_at path (63 ∷ query) (length path) refl)

-- ---- the path ends in no slash

last_of : List ℕ → ℕ
last_of [] = 0
last_of (x ∷ []) = x
last_of (x ∷ y ∷ xs) = last_of (y ∷ xs)

last-append : (xs : List ℕ) (y : ℕ) (ys : List ℕ) → last_of (xs ++ y ∷ ys) ≡ last_of (y ∷ ys)
unfolding last_of
last-append [] y ys = refl
last-append (x ∷ []) y ys = refl
last-append (x ∷ z ∷ xs) y ys = last-append (z ∷ xs) y ys

last-cons : (x : ℕ) (ys : List ℕ) → 0 < length ys → last_of (x ∷ ys) ≡ last_of ys
unfolding last_of
last-cons x [] some = absurd (omega (arith, some))
last-cons x (y ∷ ys) some = refl

last_passes : (p : ℕ → Bool) (x : ℕ) (xs : List ℕ) → list_all p (x ∷ xs) ≡ true → p (last_of (x ∷ xs)) ≡ true
unfolding last_of
last_passes p x [] all = (and_parts (p x) true all).0
last_passes p x (y ∷ xs) all = last_passes p y xs (and_parts (p x) (list_all p (y ∷ xs)) all).1

last_part : (part : List ℕ) → IsPart part → 0 < length part → is_part_byte (last_of part) ≡ true
last_part [] is some = absurd (omega (arith, some))
last_part (x ∷ part) is some = last_passes is_part_byte x part is.bytes

abbrev EndsInSome : List (List ℕ) → Type 0
EndsInSome [] = ⊥
EndsInSome (part ∷ []) = 0 < length part
EndsInSome (part ∷ next ∷ parts) = EndsInSome (next ∷ parts)

joined_some : (parts : List (List ℕ)) → EndsInSome parts → 0 < length (join_with_byte 47 parts)
joined_some [] some = absurd some
joined_some (part ∷ []) some = some
joined_some (part ∷ next ∷ parts) some = omega (arith, length-append part (47 ∷ join_with_byte 47 (next ∷ parts)))

joined_last : (parts : List (List ℕ)) → AreParts parts → EndsInSome parts → is_part_byte (last_of (join_with_byte 47 parts)) ≡ true
joined_last [] are some = absurd some
joined_last (part ∷ []) are some = last_part part are.0 some
joined_last (part ∷ next ∷ parts) are some =
    subst (λ b. is_part_byte b ≡ true)
    (sym (last-append part 47 (join_with_byte 47 (next ∷ parts)) ∙ last-cons 47 (join_with_byte 47 (next ∷ parts)) (joined_some (next ∷ parts) some)))
    (joined_last (next ∷ parts) are.1 some)

id_some : (id : List ℕ) → length id ≡ 20 → 0 < length (encode_lower id)
id_some id size = let twice = length-encode_with lower_digits id in omega (arith, size, twice)

route_some : (r : Route) → IsCall r → EndsInSome (parts_in r)
route_some route.Version is = lit< tt
route_some (route.Check lib) is = lit< tt
route_some (route.Head lib) is = lit< tt
route_some (route.Update lib) is = lit< tt
route_some (route.Get lib key) is = id_some key.id is.id_size
route_some (route.Put lib key) is = id_some key.id is.id_size
route_some (route.CheckFs lib) is = lit< tt
route_some (route.CheckBlocks lib) is = lit< tt
route_some (route.PutFs lib) is = lit< tt
route_some (route.GetFs lib) is = lit< tt
route_some (route.Ids lib) is = lit< tt
route_some (route.Limit lib) is = lit< tt
route_some (route.Collect lib) is = lit< tt

no_slash_last : (path : List ℕ) → is_part_byte (last_of path) ≡ true → (front : List ℕ) → path ≢ front ++ 47 ∷ []
unfolding last_of
no_slash_last path is front same =
    let slash : last_of path ≡ 47 = ap last_of same ∙ last-append front 47 [] in
    false≢true (subst (λ b. is_part_byte b ≡ true) slash is)

pub path_is : (r : Route) (tail query : List ℕ) → IsCall r → IsTail tail query → path_of (path_in r ++ tail) ≡ path_in r
path_is r tail query is tail_is =
    ap without_end_slash (before_tail (path_in r) tail query (path_bytes r is) tail_is)
    ∙ sym (no_end_slash (path_in r) (no_slash_last (path_in r) (joined_last (parts_in r) (route_parts r is) (route_some r is))))

pub query_is : (r : Route) (tail query : List ℕ) → IsCall r → IsTail tail query → query_of (path_in r ++ tail) ≡ query
query_is r tail query is tail_is = after_tail (path_in r) tail query (path_bytes r is) tail_is

-- ---- the query

abbrev pub query_in : What → List ℕ
query_in (what.Check op) = check_query op
query_in (what.Update commit) = update_query commit
query_in (what.Ids server client) = ids_query server client
query_in (what.Limit days) = days_query days
query_in _ = []

pub tail_of : (w : What) → IsTail (query_text w) (query_in w)
tail_of what.Version = no_query
tail_of (what.Check op) = with_query (check_query op)
tail_of (what.Head tag) = no_query
tail_of (what.Update commit) = with_query (update_query commit)
tail_of (what.Get key) = no_query
tail_of (what.Put key bytes) = no_query
tail_of (what.Missing kind ids) = no_query
tail_of (what.PutFs rows) = no_query
tail_of (what.GetFs ids) = no_query
tail_of (what.Ids server client) = with_query (ids_query server client)
tail_of (what.Limit days) = with_query (days_query days)
tail_of what.Collect = no_query

record IsQuery (text : List ℕ) : Type 0 where
  bytes : list_all is_visible text ≡ true
  short : length text ≤ 120

digits_visible : (id : List ℕ) → IsObjectId id → list_all is_visible (encode_lower id) ≡ true
digits_visible id is = weaker is_part_byte is_visible (λ b e. path_byte_visible b (part_path_byte b e)) (encode_lower id) (digits_are id is.bytes)

forty : (id : List ℕ) → IsObjectId id → length (encode_lower id) ≡ 40
forty id is = let twice = length-encode_with lower_digits id in let size = is.size in omega (arith, size, twice)

pub digit_visible : (b : ℕ) → is_ascii_digit b ≡ true → is_visible b ≡ true
digit_visible b is = grind (arith, nat_tests)

record IsNumberText (text : List ℕ) : Type 0 where
  bytes : list_all is_visible text ≡ true
  short : length text ≤ 19

decimal_text : (n : ℕ) → n < 10 ^ 18 → (list_all is_visible (decimal n) ≡ true) × (length (decimal n) ≤ 18)
decimal_text n short =
    let fits : n < 2 ^ 64 = let most : 10 ^ 18 ≤ 2 ^ 64 = lit≤ tt in omega (arith, short, most) in
    (weaker is_ascii_digit is_visible digit_visible (decimal n) (decimal_digits n fits), length-decimal-le 18 n (lit< tt) short fits)

days_text : (days : ℤ) → unsigned_abs days < 10 ^ 18 → IsNumberText (signed_decimal days)
days_text (pos n) short = let d = decimal_text n short in record { bytes = d.0; short = let few = d.1 in omega (arith, few) }
days_text (negsuc n) short = let d = decimal_text (suc n) short in record { bytes = d.0; short = let few = d.1 in omega (arith, few) }

query_text_is : (w : What) → HasIds w → IsAsked w → IsQuery (query_text w)
query_text_is (what.Limit days) is asked = let d = days_text days asked in record { bytes = d.bytes; short = let few = d.short in omega (arith, few) }
query_text_is what.Collect is asked = record { bytes = refl; short = lit≤ tt }
query_text_is what.Version is asked = record { bytes = refl; short = lit≤ tt }
query_text_is (what.Check Upload) is asked = record { bytes = refl; short = lit≤ tt }
query_text_is (what.Check Download) is asked = record { bytes = refl; short = lit≤ tt }
query_text_is (what.Head tag) is asked = record { bytes = refl; short = lit≤ tt }
query_text_is (what.Update commit) is asked = record { bytes = digits_visible commit is; short = let f = forty commit is in omega (arith, f) }
query_text_is (what.Get key) is asked = record { bytes = refl; short = lit≤ tt }
query_text_is (what.Put key bytes) is asked = record { bytes = refl; short = lit≤ tt }
query_text_is (what.Missing kind ids) is asked = record { bytes = refl; short = lit≤ tt }
query_text_is (what.PutFs rows) is asked = record { bytes = refl; short = lit≤ tt }
query_text_is (what.GetFs ids) is asked = record { bytes = refl; short = lit≤ tt }
query_text_is (what.Ids server None) is asked = record { bytes = digits_visible server is.0; short = let f = forty server is.0 in omega (arith, f) }
query_text_is (what.Ids server (Some client)) is asked = record {
  bytes = list_all-joined is_visible (encode_lower server) (38 ∷ part_of (codes "client-head") (encode_lower client)) (digits_visible server is.0) (digits_visible client is.1);
  short = let f = forty server is.0 in let g = forty client is.1 in omega (arith, f, g, length-append (encode_lower server) (38 ∷ part_of (codes "client-head") (encode_lower client)));
}

-- ---- the whole target

pub target_visible : (lib : Option (List ℕ)) (w : What) → IsCall (route_in lib w) → HasIds w → IsAsked w → list_all is_visible (target_text lib w) ≡ true
target_visible lib w call ids asked =
    list_all-joined is_visible (path_in (route_in lib w)) (query_text w)
    (weaker is_path_byte is_visible path_byte_visible (path_in (route_in lib w)) (path_bytes (route_in lib w) call)) (query_text_is w ids asked).bytes

pub target_short : (lib : Option (List ℕ)) (w : What) → IsCall (route_in lib w) → HasIds w → IsAsked w → length (target_text lib w) ≤ 325
target_short lib w call ids asked =
    let path = path_short (route_in lib w) call in
    let query = (query_text_is w ids asked).short in
    omega (arith, path, query, length-append (path_in (route_in lib w)) (query_text w))

pub target_some : (lib : Option (List ℕ)) (w : What) → IsCall (route_in lib w) → 0 < length (target_text lib w)
target_some lib w call =
    let some = joined_some (parts_in (route_in lib w)) (route_some (route_in lib w) call) in
    omega (arith, some, length-append (path_in (route_in lib w)) (query_text w))

-- the call that is asked for is one of the table
pub route_call : (lib : Option (List ℕ)) (w : What) → IsLibraryOrNone lib → HasIds w → NamesLibrary lib w → IsAsked w → IsCall (route_in lib w)
route_call None w l i n a = tt
route_call (Some lib) what.Version l i n a = absurd n
route_call (Some lib) (what.Check op) l i n a = l
route_call (Some lib) (what.Head tag) l i n a = l
route_call (Some lib) (what.Update commit) l i n a = l
route_call (Some lib) (what.Get key) l i n a = record { lib_is = l; id_size = i.size; id_bytes = i.bytes; kind = a }
route_call (Some lib) (what.Put key bytes) l i n a = record { lib_is = l; id_size = i.size; id_bytes = i.bytes; kind = a }
route_call (Some lib) (what.Missing Commit ids) l i n a = absurd a
route_call (Some lib) (what.Missing Fs ids) l i n a = l
route_call (Some lib) (what.Missing Block ids) l i n a = l
route_call (Some lib) (what.PutFs rows) l i n a = l
route_call (Some lib) (what.GetFs ids) l i n a = l
route_call (Some lib) (what.Ids server client) l i n a = l
route_call (Some lib) (what.Limit days) l i n a = l
route_call (Some lib) what.Collect l i n a = l

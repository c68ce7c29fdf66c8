-- A call's own query is read as what it asks for. The lemmas that callers want are check_asked, update_asked, limit_asked
-- and ids_asked, at the end.
use Rattle.std.proofs.Common.{◌≡◌, ℕ, suc, ℤ, pos, negsuc, neg_ℤ, unsigned_abs, ◌^◌, ◌<◌, ◌≤◌, Bool, decimal, lit<, lit≤, option_map, nat_eq, nat_le, true, false, List, [], ◌∷◌, ◌++◌, length, get_or, codes, Option, Some, None, Result, Ok, refl, sym, ap, ◌∙◌, arith, not, All, take, drop, ◌+◌, if◌then◌else◌, length-append, ne_eqb}
use Rattle.std.proofs.lemmas.Bool.{and_parts, le-leb, true≢false, not-true}
use Rattle.std.proofs.lemmas.Fmt.{decimal_nonempty, length-decimal-le}
use Rattle.std.proofs.lemmas.List.{drop_at, get_or_append_left, get_or_at, length_push, append_assoc, take_at}
use Rattle.std.proofs.lemmas.List.Elements.{All-append, All-cons, All-from_get_or, All-get_or}
use Rattle.std.proofs.lemmas.List.Splits.{slice_split_at, slice_split_none}
use Rattle.std.proofs.lemmas.List.Sums.{AllPass-from_list_all, position_or_len_is}
use Rattle.std.specs.Char.{is_ascii_digit}
use Rattle.std.specs.Fmt.{signed_decimal}
use Rattle.std.specs.List.{after_first, before_first, list_all, position_or_len}
use Rattle.std.specs.Str.{bytes_eq}
use Rattle.hex.specs.Hex.{encode_lower}
use Rattle.ids.specs.Digits.{digits_form}
use Rattle.ids.proofs.DigitsLemmas as digits
use Rattle.library_state.specs.declared.call.Op.{Op}
use Rattle.library_state.specs.declared.call.Op.TheVariants.{Upload, Download}
use Rattle.library_state.specs.declared.refusal.Refusal.{Refusal}
use Rattle.library_state.specs.declared.tag.Tag.{Tag}
use Rattle.http_front.specs.CallQuery.{IsClient, IsObjectId, check_query, days_query, ids_query, part_of, update_query}
use Rattle.http_front.specs.Order.{IsOrder, asked_of, asks_to, asks_what_differs, limits, updates}
use Rattle.http_front.specs.Query.{and_more, client_asked, day_count, days_asked, days_of, id_asked, op_asked, query_of, value_in, values_in, values_of}
use Rattle.http_front.specs.RequestHead.{number_in}
use Rattle.http_front.specs.Route.{IsLibrary, method_in, path_in}
use Rattle.http_front.specs.Target.{path_of}
use Rattle.http_front.specs.declared.order.Order.{Order}
use Rattle.http_front.specs.declared.order.What.TheVariants as what
use Rattle.http_front.specs.declared.route.Route.TheVariants as route
use Rattle.http_front.proofs.CallLemmas.{id_reads, path_names}
use Rattle.http_front.proofs.NumberLemmas.{decimal_digits, digit_in_range, number_written}

-- ---- texts without a byte

abbrev Lacks : ℕ → List ℕ → Type 0
Lacks c text = All (λ x. nat_eq x c ≡ false) text

word_lacks : (c : ℕ) (word : List ℕ) → list_all (λ x. not (nat_eq x c)) word ≡ true → Lacks c word
word_lacks c word h k d below = not-true _ (AllPass-from_list_all (λ x. not (nat_eq x c)) word h k d below)

id_lacks_and : (id : List ℕ) → IsObjectId id → Lacks 38 (encode_lower id)
id_lacks_and id is =
    let form = digits.IsOf-encode_lower id is.size is.bytes in
    All-from_get_or (λ x. nat_eq x 38 ≡ false) (encode_lower id) 0
    (λ k l. ne_eqb (get_or (encode_lower id) k 0) 38 (λ e.
    let there : digits_form.allows k 38 ≡ true = subst_at k e (form.each k (omega (arith, form.whole))) in
    true≢false (sym there)))
  where
    subst_at : (k : ℕ) {c d : ℕ} → c ≡ d → digits_form.allows k c ≡ true → digits_form.allows k d ≡ true
    subst_at k e h = ap (digits_form.allows k) (sym e) ∙ h

part_lacks : (c : ℕ) (name value : List ℕ) → nat_eq 61 c ≡ false → Lacks c name → Lacks c value → Lacks c (part_of name value)
part_lacks c name value other first last =
    All-append (λ x. nat_eq x c ≡ false) name (61 ∷ value) first (All-cons (λ x. nat_eq x c ≡ false) 61 value other last)

-- ---- the value of a part

equals_at : (name value : List ℕ) → Lacks 61 name → position_or_len (λ x. nat_eq x 61) (part_of name value) ≡ length name
equals_at name value free =
    position_or_len_is (λ x. nat_eq x 61) (part_of name value) (length name) 0 (omega (arith, length-append name (61 ∷ value)))
    (λ k l. ap (λ (x : ℕ). nat_eq x 61) (get_or_append_left name (61 ∷ value) 0 k l) ∙ All-get_or (λ x. nat_eq x 61 ≡ false) name k 0 l free)
    (λ l. ap (λ (x : ℕ). nat_eq x 61) (get_or_at name 61 value 0 (length name) refl))

name_before : (name value : List ℕ) → Lacks 61 name → before_first (λ x. nat_eq x 61) (part_of name value) ≡ name
name_before name value free = ap (λ (n : ℕ). take_of n) (equals_at name value free) ∙ take_at name (61 ∷ value) (length name) refl
  where
    take_of : ℕ → List ℕ
    take_of n = take n (part_of name value)

value_after : (name value : List ℕ) → Lacks 61 name → after_first (λ x. nat_eq x 61) (part_of name value) ≡ value
value_after name value free =
    ap (λ (n : ℕ). drop (n + 1) (part_of name value)) (equals_at name value free)
    ∙ ap (λ (s : List ℕ). drop (length name + 1) s) (sym (append_assoc name (61 ∷ []) value))
    ∙ drop_at (name ++ 61 ∷ []) value (length name + 1) (length_push name 61)

has_equals : (name value : List ℕ) → Lacks 61 name → nat_eq (position_or_len (λ x. nat_eq x 61) (part_of name value)) (length (part_of name value)) ≡ false
has_equals name value free =
    ne_eqb _ _ (λ e. absurd (omega (arith, e, equals_at name value free, length-append name (61 ∷ value))))

value_named : (name own value : List ℕ) → Lacks 61 own → value_in name (part_of own value) ≡ (if bytes_eq own name then Some value else None)
value_named name own value free = rw (has_equals own value free, name_before own value free, value_after own value free) refl

-- ---- the values of a query of one part, and of two

one_part : (name part : List ℕ) → Lacks 38 part → values_of name part ≡ and_more (value_in name part) []
one_part name part free = ap (values_in name) (slice_split_none (λ x. nat_eq x 38) part free)

two_parts : (name part other : List ℕ) → Lacks 38 part → Lacks 38 other
    → values_of name (part ++ 38 ∷ other) ≡ and_more (value_in name part) (and_more (value_in name other) [])
two_parts name part other free last =
    ap (values_in name) (slice_split_at (λ x. nat_eq x 38) part 38 other free refl ∙ ap (λ (ps : List (List ℕ)). part ∷ ps) (slice_split_none (λ x. nat_eq x 38) other last))

-- ---- what is asked

op_read : (op : Op) → op_asked (check_query op) ≡ Some op
unfolding op_asked
op_read Upload = refl
op_read Download = refl

id_read_in : (name query : List ℕ) (id : List ℕ) → IsObjectId id → values_of name query ≡ encode_lower id ∷ [] → id_asked name query ≡ Some id
unfolding id_asked
id_read_in name query id is values = rw values (id_reads id is.size is.bytes)

update_values : (commit : List ℕ) → IsObjectId commit → values_of (codes "head") (update_query commit) ≡ encode_lower commit ∷ []
update_values commit is =
    rw (
      one_part (codes "head") (update_query commit) (part_lacks 38 (codes "head") (encode_lower commit) refl (word_lacks 38 (codes "head") refl) (id_lacks_and commit is)),
      value_named (codes "head") (codes "head") (encode_lower commit) (word_lacks 61 (codes "head") refl),
    ) refl

server_part : (server : List ℕ) → IsObjectId server → Lacks 38 (part_of (codes "server-head") (encode_lower server))
server_part server is = part_lacks 38 (codes "server-head") (encode_lower server) refl (word_lacks 38 (codes "server-head") refl) (id_lacks_and server is)

client_part : (client : List ℕ) → IsObjectId client → Lacks 38 (part_of (codes "client-head") (encode_lower client))
client_part client is = part_lacks 38 (codes "client-head") (encode_lower client) refl (word_lacks 38 (codes "client-head") refl) (id_lacks_and client is)

server_values : (server : List ℕ) (client : Option (List ℕ)) → IsObjectId server → IsClient client → values_of (codes "server-head") (ids_query server client) ≡ encode_lower server ∷ []
server_values server None is client_is =
    rw (one_part (codes "server-head") (ids_query server None) (server_part server is), value_named (codes "server-head") (codes "server-head") (encode_lower server) (word_lacks 61 (codes "server-head") refl)) refl
server_values server (Some client) is client_is =
    rw (
      two_parts (codes "server-head") (part_of (codes "server-head") (encode_lower server)) (part_of (codes "client-head") (encode_lower client)) (server_part server is) (client_part client client_is),
      value_named (codes "server-head") (codes "server-head") (encode_lower server) (word_lacks 61 (codes "server-head") refl),
      value_named (codes "server-head") (codes "client-head") (encode_lower client) (word_lacks 61 (codes "client-head") refl),
    ) refl

client_values : (server client : List ℕ) → IsObjectId server → IsObjectId client → values_of (codes "client-head") (ids_query server (Some client)) ≡ encode_lower client ∷ []
client_values server client is client_is =
    rw (
      two_parts (codes "client-head") (part_of (codes "server-head") (encode_lower server)) (part_of (codes "client-head") (encode_lower client)) (server_part server is) (client_part client client_is),
      value_named (codes "client-head") (codes "server-head") (encode_lower server) (word_lacks 61 (codes "server-head") refl),
      value_named (codes "client-head") (codes "client-head") (encode_lower client) (word_lacks 61 (codes "client-head") refl),
    ) refl

no_client : (server : List ℕ) → IsObjectId server → values_of (codes "client-head") (ids_query server None) ≡ []
no_client server is =
    rw (one_part (codes "client-head") (ids_query server None) (server_part server is), value_named (codes "client-head") (codes "server-head") (encode_lower server) (word_lacks 61 (codes "server-head") refl)) refl

client_read : (server : List ℕ) (client : Option (List ℕ)) → IsObjectId server → IsClient client → client_asked (ids_query server client) ≡ Some client
unfolding client_asked
client_read server None is client_is = rw (no_client server is) refl
client_read server (Some client) is client_is =
    rw (client_values server client is client_is, id_read_in (codes "client-head") (ids_query server (Some client)) client client_is (client_values server client is client_is)) refl

-- ---- days

fits : (n : ℕ) → n < 10 ^ 18 → n < 2 ^ 64
fits n short = let most : 10 ^ 18 ≤ 2 ^ 64 = lit≤ tt in omega (arith, short, most)

no_digit : (c d : ℕ) → d < 48 → is_ascii_digit c ≡ true → nat_eq c d ≡ false
no_digit c d below digit = let range = digit_in_range c digit in ne_eqb c d (λ e. absurd (omega (arith, range, below, e)))

digits_lack : (n : ℕ) → n < 2 ^ 64 → Lacks 38 (decimal n)
digits_lack n small k d below =
    no_digit (get_or (decimal n) k d) 38 (lit< tt) (AllPass-from_list_all is_ascii_digit (decimal n) (decimal_digits n small) k d below)

days_lack : (days : ℤ) → unsigned_abs days < 10 ^ 18 → Lacks 38 (signed_decimal days)
days_lack (pos n) short = digits_lack n (fits n short)
days_lack (negsuc n) short = All-cons (λ x. nat_eq x 38 ≡ false) 45 (decimal (suc n)) refl (digits_lack (suc n) (fits (suc n) short))

count_read : (n : ℕ) → n < 10 ^ 18 → day_count (decimal n) ≡ Some n
count_read n short =
    let few : nat_le (length (decimal n)) 18 ≡ true = le-leb _ _ (length-decimal-le 18 n (lit< tt) short (fits n short)) in
    let small : n < 10 ^ 19 = let more : 10 ^ 18 ≤ 10 ^ 19 = lit≤ tt in omega (arith, short, more) in
    ap (λ (b : Bool). if b then number_in (decimal n) else None) few ∙ number_written n small (fits n short)

-- digits alone begin with no minus
plain_days : (text : List ℕ) → 0 < length text → list_all is_ascii_digit text ≡ true → days_of text ≡ option_map pos (day_count text)
plain_days [] some are = absurd (omega (arith, some))
plain_days (c ∷ text) some are =
    ap (λ (b : Bool). if b then option_map (λ days. neg_ℤ (pos days)) (day_count text) else option_map pos (day_count (c ∷ text)))
    (no_digit c 45 (lit< tt) (and_parts (is_ascii_digit c) (list_all is_ascii_digit text) are).0)

text_read : (days : ℤ) → unsigned_abs days < 10 ^ 18 → days_of (signed_decimal days) ≡ Some days
text_read (pos n) short = plain_days (decimal n) (decimal_nonempty n (fits n short)) (decimal_digits n (fits n short)) ∙ ap (option_map pos) (count_read n short)
text_read (negsuc n) short = ap (option_map (λ days. neg_ℤ (pos days))) (count_read (suc n) short)

days_values : (days : ℤ) → unsigned_abs days < 10 ^ 18 → values_of (codes "days") (days_query days) ≡ signed_decimal days ∷ []
days_values days short =
    rw (
      one_part (codes "days") (days_query days) (part_lacks 38 (codes "days") (signed_decimal days) refl (word_lacks 38 (codes "days") refl) (days_lack days short)),
      value_named (codes "days") (codes "days") (signed_decimal days) (word_lacks 61 (codes "days") refl),
    ) refl

days_read : (days : ℤ) → unsigned_abs days < 10 ^ 18 → days_asked (days_query days) ≡ Some days
unfolding days_asked
days_read days short = rw (days_values days short) (text_read days short)

-- ---- orders

pub check_asked : (target lib : List ℕ) (op : Op) (secret : Option (List ℕ)) (tag : Option Tag) (body : List ℕ) (due : Result Order Refusal) → IsLibrary lib
    → path_of target ≡ path_in (route.Check lib) → query_of target ≡ check_query op → IsOrder (method_in (route.Check lib)) target secret tag body due
    → due ≡ Ok (asked_of lib secret (what.Check op))
check_asked target lib op secret tag body due is path query order =
    (rw (path_names target (route.Check lib) is path, query) at order) ∙ ap (asks_to lib secret) (op_read op)

pub update_asked : (target lib commit : List ℕ) (secret : Option (List ℕ)) (tag : Option Tag) (body : List ℕ) (due : Result Order Refusal) → IsLibrary lib → IsObjectId commit
    → path_of target ≡ path_in (route.Update lib) → query_of target ≡ update_query commit → IsOrder (method_in (route.Update lib)) target secret tag body due
    → due ≡ Ok (asked_of lib secret (what.Update commit))
update_asked target lib commit secret tag body due is commit_is path query order =
    (rw (path_names target (route.Update lib) is path, query) at order)
    ∙ ap (updates lib secret) (id_read_in (codes "head") (update_query commit) commit commit_is (update_values commit commit_is))

pub limit_asked : (target lib : List ℕ) (days : ℤ) (secret : Option (List ℕ)) (tag : Option Tag) (body : List ℕ) (due : Result Order Refusal) → IsLibrary lib → unsigned_abs days < 10 ^ 18
    → path_of target ≡ path_in (route.Limit lib) → query_of target ≡ days_query days → IsOrder (method_in (route.Limit lib)) target secret tag body due
    → due ≡ Ok (asked_of lib secret (what.Limit days))
limit_asked target lib days secret tag body due is short path query order =
    (rw (path_names target (route.Limit lib) is path, query) at order) ∙ ap (limits lib secret) (days_read days short)

pub ids_asked : (target lib server : List ℕ) (client secret : Option (List ℕ)) (tag : Option Tag) (body : List ℕ) (due : Result Order Refusal) → IsLibrary lib → IsObjectId server → IsClient client
    → path_of target ≡ path_in (route.Ids lib) → query_of target ≡ ids_query server client → IsOrder (method_in (route.Ids lib)) target secret tag body due
    → due ≡ Ok (asked_of lib secret (what.Ids server client))
ids_asked target lib server client secret tag body due is server_is client_is path query order =
    (rw (path_names target (route.Ids lib) is path, query) at order)
    ∙ ap (λ (s : Option (List ℕ)). asks_what_differs lib secret s (client_asked (ids_query server client)))
    (id_read_in (codes "server-head") (ids_query server client) server server_is (server_values server client server_is client_is))
    ∙ ap (asks_what_differs lib secret (Some server)) (client_read server client server_is client_is)

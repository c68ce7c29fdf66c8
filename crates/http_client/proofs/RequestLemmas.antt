-- A request that is written for an order is read as that order. The key lemma is order_spelled, at the end.
use Rattle.std.proofs.Common.{◌≡◌, ℕ, ℤ, unsigned_abs, ◌^◌, ◌<◌, ◌≤◌, ◌&&◌, nat_lt, Bool, true, false, List, [], ◌∷◌, ◌++◌, length, map, codes, refl, sym, ap, ap₂, subst, ◌∙◌, ◌==◌, if◌then◌else◌, lit≤, lit<, arith, Option, None, Some, Result, Ok, Err, All}
use Rattle.std.specs.List.{list_all}
use Rattle.std.proofs.lemmas.Bool.Decides.{nat_tests}
use Rattle.std.proofs.lemmas.List.Elements.{All-head, All-tail}
use Rattle.std.proofs.lemmas.List.Sums.{AllPass-from_list_all, list_all-from_AllPass}
use Rattle.std.proofs.lemmas.Str.{IsUtf8-from_ascii}
use Rattle.std.proofs.lemmas.Str.Ascii.{IsAscii-from_all}
use Rattle.std.proofs.lemmas.List.Elements.{All-from_get_or}
use Rattle.hex.specs.Hex.{encode_lower, lower_digits}
use Rattle.hex.proofs.HexLemmas.{IsAscii-encode_with, length-encode_with}
use Rattle.httparse.specs.Grammar.{IsToken, RequestHead, is_token_byte, is_uri_byte}
use Rattle.ids.specs.Digits.{is_lower_digit}
use Rattle.ids.proofs.DigitsLemmas.{AllPass-encode_lower, IsAscii-lower_digits}
use Rattle.ids.specs.declared.key.Kind.TheVariants.{Commit, Fs, Block}
use Rattle.serde_json.specs.Data.{array}
use Rattle.serde_json.specs.View.{items_of}
use Rattle.json_words.specs.Check.{each}
use Rattle.json_words.specs.IdText.{id_data}
use Rattle.json_words.proofs.FieldLemmas.{list_of-items_of}
use Rattle.json_words.proofs.FoundLemmas.{id_in-found}
use Rattle.json_words.proofs.WrittenLemmas.{AreSpelled, json_of-compact_text, flat_ids}
use Rattle.library_state.specs.declared.refusal.Refusal.{Refusal}
use Rattle.library_state.specs.declared.call.Op.{Op}
use Rattle.library_state.specs.declared.tag.Tag.{Tag}
use Rattle.http_front.specs.CallQuery.{IsClient, IsObjectId}
use Rattle.http_front.specs.IdArray.{array_text, id_at, ids_of, ids_of_value}
use Rattle.http_front.specs.Order.{IsOrder, IsOrderAt, asks_objects, asks_to, asks_what_differs, asks_what_is_absent, limits, updates}
use Rattle.http_front.specs.Query.{client_asked, days_asked, id_asked, op_asked, query_of}
use Rattle.http_front.specs.RequestHead.{closes_by, expects, expects_after, expects_by, fields_of, judge, judged, method_of, wants_continue}
use Rattle.http_front.specs.Route.{IsCall, IsLibrary, limit_at, limit_of, method_in, route_limit, route_of}
use Rattle.http_front.specs.declared.method.Method.{Method}
use Rattle.http_front.specs.declared.method.Method.TheVariants as method
use Rattle.http_front.specs.declared.order.Order.{Order}
use Rattle.http_front.specs.declared.order.What.{What}
use Rattle.http_front.specs.declared.order.What.TheVariants as what
use Rattle.http_front.specs.declared.route.Route.{Route}
use Rattle.http_front.specs.declared.route.Route.TheVariants as route
use Rattle.http_front.proofs.CallLemmas.{id_reads, path_names}
use Rattle.http_front.proofs.CallQueryLemmas.{check_asked, ids_asked, limit_asked, update_asked}
use Rattle.http_client.specs.ReadOrder.{HasIds, IsLibraryOrNone, IsSecretOrNone, IsTagOrNone, IsTyped, SpellsOrder}
use Rattle.http_client.specs.RequestText.{HasRequest, IsAsked, IsHost, IsWithinLimit, NamesLibrary, body_in, is_host_byte, method_word, named_tag, query_text, request_text, route_in, target_text}
use Rattle.http_client.proofs.TargetTextLemmas.{is_visible, path_is, query_in, query_is, route_call, tail_of, target_short, target_some, target_visible, weaker, visible_ascii}
use Rattle.http_client.proofs.HeadSizeLemmas.{SecretShort, few_so, head_short}
use Rattle.http_client.proofs.WrittenHeadLemmas.{HasWord, SecretVisible, are_fields, closes_so, get, head_with, judged_so, match_so, post, put, request_printed, route_word, secret_so, told_length, told_size, waits_not, word_is}
use Rattle.std.proofs.Math.Bool.{and-false}
use Rattle.std.proofs.lemmas.Bool.{le-leb}
use Rattle.http_front.proofs.UnfinishedLemmas.{limit_at_bound}

-- ---- lists of ids

each_reads : (ids : List (List ℕ)) → All IsObjectId ids → each id_at (map id_data ids) ≡ Ok ids
each_reads [] are = refl
each_reads (id ∷ ids) are =
    let here = All-head IsObjectId id ids are in
    rw (id_in-found (encode_lower id) id (id_reads id here.size here.bytes), each_reads ids (All-tail IsObjectId id ids are)) refl

spelled : (ids : List (List ℕ)) → AreSpelled (items_of (map id_data ids))
spelled [] = tt
spelled (id ∷ ids) = (IsUtf8-from_ascii (encode_lower id) (IsAscii-encode_with lower_digits id IsAscii-lower_digits), spelled ids)

pub ids_read_back : (ids : List (List ℕ)) → All IsObjectId ids → ids_of (array_text ids) ≡ Ok ids
unfolding ids_of array_text ids_of_value
ids_read_back ids are =
    let depth_is = flat_ids ids in
    rw (json_of-compact_text (array (items_of (map id_data ids))) (spelled ids) (omega (arith, depth_is)), list_of-items_of (map id_data ids), each_reads ids are) refl

-- ---- the order

module _ (m : Method) (target : List ℕ) (secret : Option (List ℕ)) (tag : Option Tag) (body : List ℕ) where
  order_by : (r : Route) (due : Result Order Refusal) → route_of m target ≡ Some r → IsOrderAt (Some r) m secret tag (query_of target) body due
      → IsOrder m target secret tag body due
  order_by r due named is = subst (λ (o : Option Route). IsOrderAt o m secret tag (query_of target) body due) (sym named) is

module _ (secret : Option (List ℕ)) where
  abbrev Reads : Option (List ℕ) → What → Type 0
  Reads lib w = IsOrder (method_in (route_in lib w)) (target_text lib w) secret (named_tag w) (body_in w) (Ok (record { lib = lib; secret = secret; what = w }))

  read_by : (lib : Option (List ℕ)) (w : What) → IsCall (route_in lib w)
      → IsOrderAt (Some (route_in lib w)) (method_in (route_in lib w)) secret (named_tag w) (query_of (target_text lib w)) (body_in w) (Ok (record { lib = lib; secret = secret; what = w }))
      → Reads lib w
  read_by lib w call is =
      order_by (method_in (route_in lib w)) (target_text lib w) secret (named_tag w) (body_in w) (route_in lib w) _
      (path_names (target_text lib w) (route_in lib w) call (path_is (route_in lib w) (query_text w) (query_in w) call (tail_of w))) is

  module _ (lib : List ℕ) (is : IsLibrary lib) where
    named_so : (w : What) → IsCall (route_in (Some lib) w) → route_of (method_in (route_in (Some lib) w)) (target_text (Some lib) w) ≡ Some (route_in (Some lib) w)
    named_so w call = path_names (target_text (Some lib) w) (route_in (Some lib) w) call (path_is (route_in (Some lib) w) (query_text w) (query_in w) call (tail_of w))

    check_read : (op : Op) → Reads (Some lib) (what.Check op)
    check_read op =
        let w = what.Check op in
        let target = target_text (Some lib) w in
        let due = asks_to lib secret (op_asked (query_of target)) in
        read_by (Some lib) w is
        (sym (check_asked target lib op secret None [] due is (path_is (route.Check lib) (query_text w) (query_in w) is (tail_of w))
        (query_is (route.Check lib) (query_text w) (query_in w) is (tail_of w)) (order_by (method_in (route.Check lib)) target secret None [] (route.Check lib) due (named_so w is) refl)))

    update_read : (commit : List ℕ) → IsObjectId commit → Reads (Some lib) (what.Update commit)
    update_read commit commit_is =
        let w = what.Update commit in
        let target = target_text (Some lib) w in
        let due = updates lib secret (id_asked (codes "head") (query_of target)) in
        read_by (Some lib) w is
        (sym (update_asked target lib commit secret None [] due is commit_is (path_is (route.Update lib) (query_text w) (query_in w) is (tail_of w))
        (query_is (route.Update lib) (query_text w) (query_in w) is (tail_of w)) (order_by (method_in (route.Update lib)) target secret None [] (route.Update lib) due (named_so w is) refl)))

    limit_read : (days : ℤ) → unsigned_abs days < 10 ^ 18 → Reads (Some lib) (what.Limit days)
    limit_read days short =
        let w = what.Limit days in
        let target = target_text (Some lib) w in
        let due = limits lib secret (days_asked (query_of target)) in
        read_by (Some lib) w is
        (sym (limit_asked target lib days secret None [] due is short (path_is (route.Limit lib) (query_text w) (query_in w) is (tail_of w))
        (query_is (route.Limit lib) (query_text w) (query_in w) is (tail_of w)) (order_by (method_in (route.Limit lib)) target secret None [] (route.Limit lib) due (named_so w is) refl)))

    list_read : (server : List ℕ) (client : Option (List ℕ)) → IsObjectId server → IsClient client → Reads (Some lib) (what.Ids server client)
    list_read server client server_is client_is =
        let w = what.Ids server client in
        let target = target_text (Some lib) w in
        let due = asks_what_differs lib secret (id_asked (codes "server-head") (query_of target)) (client_asked (query_of target)) in
        read_by (Some lib) w is
        (sym (ids_asked target lib server client secret None [] due is server_is client_is (path_is (route.Ids lib) (query_text w) (query_in w) is (tail_of w))
        (query_is (route.Ids lib) (query_text w) (query_in w) is (tail_of w)) (order_by (method_in (route.Ids lib)) target secret None [] (route.Ids lib) due (named_so w is) refl)))

  order_read : (lib : Option (List ℕ)) (w : What) → IsLibraryOrNone lib → HasIds w → NamesLibrary lib w → IsAsked w → Reads lib w
  order_read None what.Version l i n a = read_by None what.Version tt refl
  order_read None (what.Check op) l i n a = absurd n
  order_read None (what.Head tag) l i n a = absurd n
  order_read None (what.Update commit) l i n a = absurd n
  order_read None (what.Get key) l i n a = absurd n
  order_read None (what.Put key bytes) l i n a = absurd n
  order_read None (what.Missing kind ids) l i n a = absurd n
  order_read None (what.PutFs rows) l i n a = absurd n
  order_read None (what.GetFs ids) l i n a = absurd n
  order_read None (what.Ids server client) l i n a = absurd n
  order_read None (what.Limit days) l i n a = absurd n
  order_read None what.Collect l i n a = absurd n
  order_read (Some lib) what.Version l i n a = absurd n
  order_read (Some lib) (what.Check op) l i n a = check_read lib l op
  order_read (Some lib) (what.Head tag) l i n a = read_by (Some lib) (what.Head tag) l refl
  order_read (Some lib) (what.Update commit) l i n a = update_read lib l commit i
  order_read (Some lib) (what.Get key) l i n a = read_by (Some lib) (what.Get key) (route_call (Some lib) (what.Get key) l i n a) refl
  order_read (Some lib) (what.Put key bytes) l i n a = read_by (Some lib) (what.Put key bytes) (route_call (Some lib) (what.Put key bytes) l i n a) refl
  order_read (Some lib) (what.Missing Commit ids) l i n a = absurd a
  order_read (Some lib) (what.Missing Fs ids) l i n a = read_by (Some lib) (what.Missing Fs ids) l (ap (asks_what_is_absent lib secret Fs) (sym (ids_read_back ids i)))
  order_read (Some lib) (what.Missing Block ids) l i n a = read_by (Some lib) (what.Missing Block ids) l (ap (asks_what_is_absent lib secret Block) (sym (ids_read_back ids i)))
  order_read (Some lib) (what.PutFs rows) l i n a = read_by (Some lib) (what.PutFs rows) l (Ok rows, (i, refl), refl)
  order_read (Some lib) (what.GetFs ids) l i n a = read_by (Some lib) (what.GetFs ids) l (ap (asks_objects lib secret) (sym (ids_read_back ids i)))
  order_read (Some lib) (what.Ids server client) l i n a = list_read lib l server client i.0 i.1
  order_read (Some lib) (what.Limit days) l i n a = limit_read lib l days a
  order_read (Some lib) what.Collect l i n a = read_by (Some lib) what.Collect l refl

-- ---- the whole request

-- what is asked for with GET has no body
no_body : (lib : Option (List ℕ)) (w : What) → NamesLibrary lib w → IsAsked w → method_in (route_in lib w) ≡ method.Get → length (body_in w) ≡ 0
no_body lib what.Version n a e = refl
no_body lib (what.Check op) n a e = refl
no_body lib (what.Head tag) n a e = refl
no_body lib (what.Update commit) n a e = refl
no_body lib (what.Get key) n a e = refl
no_body None (what.Put key bytes) n a e = absurd n
no_body (Some lib) (what.Put key bytes) n a e = absurd (cc)
no_body None (what.Missing kind ids) n a e = absurd n
no_body (Some lib) (what.Missing Commit ids) n a e = absurd a
no_body (Some lib) (what.Missing Fs ids) n a e = absurd (cc)
no_body (Some lib) (what.Missing Block ids) n a e = absurd (cc)
no_body None (what.PutFs rows) n a e = absurd n
no_body (Some lib) (what.PutFs rows) n a e = absurd (cc)
no_body None (what.GetFs ids) n a e = absurd n
no_body (Some lib) (what.GetFs ids) n a e = absurd (cc)
no_body lib (what.Ids server client) n a e = refl
no_body lib (what.Limit days) n a e = refl
no_body lib what.Collect n a e = refl

host_visible : (b : ℕ) → is_host_byte b ≡ true → is_visible b ≡ true
host_visible b is = grind (arith, nat_tests)

lower_visible : (b : ℕ) → is_lower_digit b ≡ true → is_visible b ≡ true
lower_visible b is = grind (arith, nat_tests)

visible_uri : (b : ℕ) → is_visible b ≡ true → is_uri_byte b ≡ true
visible_uri b is = grind (arith, nat_tests)

secret_visible : (secret : Option (List ℕ)) → IsSecretOrNone secret → SecretVisible secret
secret_visible None is = tt
secret_visible (Some secret) is =
    weaker is_lower_digit is_visible lower_visible (encode_lower secret)
    (list_all-from_AllPass is_lower_digit (encode_lower secret) (AllPass-encode_lower secret (All-from_get_or (λ b. b < 256) secret 0 (λ k l. is.bytes k))))

secret_short : (secret : Option (List ℕ)) → IsSecretOrNone secret → SecretShort secret
secret_short None is = tt
secret_short (Some secret) is = let twice = length-encode_with lower_digits secret in let size = is.size in omega (arith, size, twice)

tag_typed : (w : What) → HasIds w → IsTagOrNone (named_tag w)
tag_typed (what.Head tag) is = is
tag_typed other is = tt

word_token : (m : Method) → HasWord m → IsToken (method_word m)
unfolding is_token_byte
word_token _ get = (lit< tt, AllPass-from_list_all is_token_byte (codes "GET") refl)
word_token _ put = (lit< tt, AllPass-from_list_all is_token_byte (codes "PUT") refl)
word_token _ post = (lit< tt, AllPass-from_list_all is_token_byte (codes "POST") refl)

limit_so : (m : Method) (target : List ℕ) (r : Route) → route_of m target ≡ Some r → limit_of m target ≡ route_limit r
unfolding limit_of
limit_so m target r named = ap limit_at named

accepted_by : (size limit : ℕ) → size ≤ limit → judged false (Some size) true limit ≡ Ok size
accepted_by size limit fits = ap (λ (b : Bool). if b then Ok size else Err 413) (le-leb size limit fits)

never_waits : (size : ℕ) (h : RequestHead) → judge h ≡ Ok size → wants_continue (fields_of h) ≡ false → expects h ≡ false
unfolding expects_by
never_waits size h ok none =
    ap (λ (j : Result ℕ ℕ). expects_after j h) ok
    ∙ ap (λ (w : Bool). ((h.minor == 1) && nat_lt 0 size) && w) none ∙ and-false ((h.minor == 1) && nat_lt 0 size)

pub order_spelled : (order : Order) (host rest : List ℕ) (ends : Bool) → IsTyped order → HasRequest order → IsWithinLimit order → IsHost host
    → SpellsOrder (request_text order host ends ++ rest) order ends rest
unfolding closes_by
order_spelled order host rest ends typed has within host_is =
    let r = route_in order.lib order.what in
    let m = method_in r in
    let target = target_text order.lib order.what in
    let body = body_in order.what in
    let size = length body in
    let call = route_call order.lib order.what typed.lib typed.ids has.library has.asked in
    let word = route_word r in
    let limit : route_limit r ≤ 67108864 = limit_at_bound (Some r) in
    let short = within.short in
    let small : size < 10 ^ 19 = omega (arith, limit, short) in
    let fits : size < 2 ^ 64 = omega (arith, limit, short) in
    let visible = target_visible order.lib order.what call typed.ids has.asked in
    let host_seen : list_all is_visible host ≡ true = weaker is_host_byte is_visible host_visible host (list_all-from_AllPass is_host_byte host host_is.allowed) in
    let secret_seen = secret_visible order.secret typed.secret in
    let tag = named_tag order.what in
    let tag_is = tag_typed order.what typed.ids in
    let head : RequestHead = head_with m target host order.secret tag size ends in
    let named : route_of m target ≡ Some r = path_names target r call (path_is r (query_text order.what) (query_in order.what) call (tail_of order.what)) in
    let same_word : method_of (method_word m) ≡ m = word_is m word in
    let limit_is : limit_of (method_of (method_word m)) target ≡ route_limit r = ap (λ (x : Method). limit_of x target) same_word ∙ limit_so m target r named in
    let told : told_length m size ≡ Some size = told_size m size word small fits (no_body order.lib order.what has.library has.asked) in
    let accepted : judge head ≡ Ok size =
    judged_so m target host order.secret tag size ends word ∙ ap₂ (λ (l : Option ℕ) (n : ℕ). judged false l true n) told limit_is ∙ accepted_by size (route_limit r) short in
    record {
      request = record { head = head; body = body };
      is = record {
        head = record {
          reads = (
            record {
              method = word_token m word;
              target = (target_some order.lib order.what call, AllPass-from_list_all is_uri_byte target (weaker is_visible is_uri_byte visible_uri target visible));
              target_text = IsUtf8-from_ascii target (IsAscii-from_all target (All-from_get_or (λ b. b < 128) target 0 (λ k l. visible_ascii _ (AllPass-from_list_all is_visible target visible k 0 l))));
              minor = lit≤ tt;
              fields = are_fields m host order.secret tag size ends host_seen secret_seen tag_is fits;
            },
            request_printed order host ends body rest,
          );
          few = few_so m host order.secret tag size ends word;
          short = head_short m target host order.secret tag size ends word (target_short order.lib order.what call typed.ids has.asked) host_is.short (secret_short order.secret typed.secret) tag_is small fits;
        };
        accepted = accepted;
      };
      waits = never_waits size head accepted (waits_not m host order.secret tag size ends word);
      ends_is = closes_so m host order.secret tag size ends word;
      secret_is = secret_so m host order.secret tag size ends word typed.secret secret_seen;
      tag_is = match_so m host order.secret tag size ends word tag_is;
      order_is = subst (λ (x : Method). IsOrder x target order.secret tag body (Ok order)) (sym same_word)
          (order_read order.secret order.lib order.what typed.lib typed.ids has.library has.asked);
    }

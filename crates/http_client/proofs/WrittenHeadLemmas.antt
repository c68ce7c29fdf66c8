-- The head that is written for an order, as a server reads it. The key lemmas are request_printed, are_fields, judged_so,
-- closes_so, secret_so and match_so.
use Rattle.std.proofs.Common.{◌≡◌, ℕ, ◌^◌, ◌<◌, Bool, true, false, List, [], ◌∷◌, ◌++◌, length, map, reverse, refl, sym, ap, ap₂, ◌∙◌, subst, arith, lit<, append_assoc, append-nil, Option, None, Some, codes, decimal, All}
use Rattle.std.specs.Prelude.{⊤}
use Rattle.std.specs.List.{AllByRecursion, flat_map, list_all}
use Rattle.std.specs.Char.{is_ascii_digit}
use Rattle.std.proofs.lemmas.Bool.{and_parts}
use Rattle.std.proofs.lemmas.Bool.Decides.{nat_tests}
use Rattle.std.proofs.lemmas.Grind.{flat_map-append}
use Rattle.std.proofs.lemmas.List.Elements.{All-from_recursion}
use Rattle.std.proofs.lemmas.List.Sums.{AllPass-from_list_all, list_all-from_AllPass}
use Rattle.hex.specs.Hex.{encode_lower}
use Rattle.httparse.specs.Grammar.{Field, IsField, RequestHead, crlf, is_ows, is_token_byte, is_value_byte, print_field, print_request, skip_ows, trim_ows}
use Rattle.httparse.specs.Spans.{name_and_value}
use Rattle.httparse.proofs.GrammarLemmas.{cons-append, print_request-append}
use Rattle.httparse.proofs.TrimLemmas.{AllPass-reverse, trim_ows_space}
use Rattle.ids.proofs.BasicLemmas.{list_all-joined}
use Rattle.library_state.specs.declared.tag.Tag.{Tag}
use Rattle.http_front.specs.EntityTag.{tag_text}
use Rattle.http_front.specs.Fields.{found, values_of}
use Rattle.http_front.specs.NextHead.{IsTag, IsTagIn, IsTokenIn}
use Rattle.http_front.specs.ReplyText.{close_line, end_of_line, line}
use Rattle.http_front.specs.RequestHead.{closes_by, judged, judged_by, method_of, number_in, wants_continue}
use Rattle.http_front.specs.Route.{limit_of, method_in}
use Rattle.http_front.specs.declared.method.Method.{Method}
use Rattle.http_front.specs.declared.method.Method.TheVariants as method
use Rattle.http_front.specs.declared.order.Order.{Order}
use Rattle.http_front.specs.declared.route.Route.{Route}
use Rattle.http_front.specs.declared.route.Route.TheVariants as route
use Rattle.http_front.proofs.NumberLemmas.{decimal_digits, number_written}
use Rattle.http_client.specs.ReadOrder.{IsSecretOrNone, IsTagOrNone}
use Rattle.http_client.specs.RequestText.{host_line, length_line, match_line, method_word, named_tag, request_with, route_in, target_text, token_line}
use Rattle.http_client.proofs.TargetTextLemmas.{digit_visible, is_visible, weaker}

-- ---- the head that is written

abbrev pub field_of : List ℕ → List ℕ → Field
field_of name value = record { name = name; raw = 32 ∷ value; end = crlf }

abbrev pub token_fields : Option (List ℕ) → List Field
token_fields None = []
token_fields (Some secret) = field_of (codes "Seafile-Repo-Token") (encode_lower secret) ∷ []

abbrev pub match_fields : Option Tag → List Field
match_fields None = []
match_fields (Some tag) = field_of (codes "If-None-Match") (tag_text tag) ∷ []

abbrev pub length_fields : Method → ℕ → List Field
length_fields method.Get size = []
length_fields method.Put size = field_of (codes "Content-Length") (decimal size) ∷ []
length_fields method.Post size = field_of (codes "Content-Length") (decimal size) ∷ []
length_fields method.Other size = []

abbrev pub close_fields : Bool → List Field
close_fields true = field_of (codes "Connection") (codes "close") ∷ []
close_fields false = []

abbrev pub head_fields : Method → List ℕ → Option (List ℕ) → Option Tag → ℕ → Bool → List Field
head_fields m host secret tag size ends = field_of (codes "Host") host ∷ (token_fields secret ++ (match_fields tag ++ (length_fields m size ++ close_fields ends)))

abbrev pub head_with : Method → List ℕ → List ℕ → Option (List ℕ) → Option Tag → ℕ → Bool → RequestHead
head_with m target host secret tag size ends = record {
  blank = [];
  method = method_word m;
  target = target;
  minor = 1;
  line_end = crlf;
  fields = head_fields m host secret tag size ends;
  last = crlf;
}

-- ---- its bytes

token_printed : (secret : Option (List ℕ)) → flat_map print_field (token_fields secret) ≡ token_line secret
unfolding line
token_printed None = refl
token_printed (Some secret) = append-nil _

match_printed : (tag : Option Tag) → flat_map print_field (match_fields tag) ≡ match_line tag
unfolding line
match_printed None = refl
match_printed (Some tag) = append-nil _

length_printed : (m : Method) (size : ℕ) → flat_map print_field (length_fields m size) ≡ length_line m size
unfolding line
length_printed method.Get size = refl
length_printed method.Put size = append-nil _
length_printed method.Post size = append-nil _
length_printed method.Other size = refl

pub close_printed : (ends : Bool) → flat_map print_field (close_fields ends) ≡ close_line ends
unfolding line
close_printed true = refl
close_printed false = refl

pub fields_printed : (m : Method) (host : List ℕ) (secret : Option (List ℕ)) (tag : Option Tag) (size : ℕ) (ends : Bool)
    → flat_map print_field (head_fields m host secret tag size ends) ≡ host_line host ++ (token_line secret ++ (match_line tag ++ (length_line m size ++ close_line ends)))
unfolding line
fields_printed m host secret tag size ends =
    ap (λ (xs : List ℕ). host_line host ++ xs)
    (flat_map-append print_field (token_fields secret) (match_fields tag ++ (length_fields m size ++ close_fields ends))
    ∙ ap₂ (λ (xs ys : List ℕ). xs ++ ys) (token_printed secret)
    (flat_map-append print_field (match_fields tag) (length_fields m size ++ close_fields ends)
    ∙ ap₂ (λ (xs ys : List ℕ). xs ++ ys) (match_printed tag)
    (flat_map-append print_field (length_fields m size) (close_fields ends)
    ∙ ap₂ (λ (xs ys : List ℕ). xs ++ ys) (length_printed m size) (close_printed ends))))

regrouped : (m target host token tag size ends body more : List ℕ)
    → (m ++ 32 ∷ target ++ codes " HTTP/1.1" ++ end_of_line ++ host ++ token ++ tag ++ size ++ ends ++ end_of_line ++ body) ++ more
    ≡ m ++ 32 ∷ (target ++ 32 ∷ (codes "HTTP/1.1" ++ (end_of_line ++ (((host ++ (token ++ (tag ++ (size ++ ends)))) ++ end_of_line) ++ (body ++ more)))))
regrouped m target host token tag size ends body more = simp (append_assoc, cons-append)

-- the request's bytes are its head's, and then the body
pub request_printed : (order : Order) (host : List ℕ) (ends : Bool) (body more : List ℕ)
    → request_with order host ends body ++ more
    ≡ print_request (head_with (method_in (route_in order.lib order.what)) (target_text order.lib order.what) host order.secret (named_tag order.what) (length body) ends)
    ++ (body ++ more)
unfolding request_with
request_printed order host ends body more =
    let m = method_in (route_in order.lib order.what) in
    let target = target_text order.lib order.what in
    let tag = named_tag order.what in
    let head = head_with m target host order.secret tag (length body) ends in
    regrouped (method_word m) target (host_line host) (token_line order.secret) (match_line tag) (length_line m (length body)) (close_line ends) body more
    ∙ ap (λ (xs : List ℕ). method_word m ++ 32 ∷ (target ++ 32 ∷ (codes "HTTP/1.1" ++ (end_of_line ++ ((xs ++ end_of_line) ++ (body ++ more))))))
    (sym (fields_printed m host order.secret tag (length body) ends))
    ∙ sym (print_request-append head (body ++ more))

-- ---- values without white space at their ends

visible_value : (b : ℕ) → is_visible b ≡ true → is_value_byte b ≡ true
visible_value b is = grind (arith, nat_tests)

visible_no_blank : (b : ℕ) → is_visible b ≡ true → is_ows b ≡ false
visible_no_blank b is = grind (arith, nat_tests)

skips_none : (v : List ℕ) → list_all is_visible v ≡ true → skip_ows v ≡ v
skips_none [] are = refl
skips_none (b ∷ v) are = rw (visible_no_blank b (and_parts (is_visible b) (list_all is_visible v) are).0) refl

pub trimmed : (v : List ℕ) → list_all is_visible v ≡ true → trim_ows (32 ∷ v) ≡ v
trimmed v are =
    trim_ows_space v (skips_none v are)
    (skips_none (reverse v) (list_all-from_AllPass is_visible (reverse v) (AllPass-reverse is_visible v (AllPass-from_list_all is_visible v are))))

pub size_visible : (n : ℕ) → n < 2 ^ 64 → list_all is_visible (decimal n) ≡ true
size_visible n fits = weaker is_ascii_digit is_visible digit_visible (decimal n) (decimal_digits n fits)

-- ---- each field is one

pub visible_field : (name value : List ℕ) → list_all is_token_byte name ≡ true → 0 < length name → list_all is_visible value ≡ true → IsField (field_of name value)
visible_field name value token some visible = record {
  name = (some, AllPass-from_list_all is_token_byte name token);
  raw = AllPass-from_list_all is_value_byte (32 ∷ value) (weaker is_visible is_value_byte visible_value value visible);
}

pub all-append : {A : Type 0} (P : A → Type 0) (xs ys : List A) → AllByRecursion P xs → AllByRecursion P ys → AllByRecursion P (xs ++ ys)
all-append P [] ys a b = b
all-append P (x ∷ xs) ys a b = (a.0, all-append P xs ys a.1 b)

abbrev pub SecretVisible : Option (List ℕ) → Type 0
SecretVisible None = ⊤
SecretVisible (Some secret) = list_all is_visible (encode_lower secret) ≡ true

token_are : (secret : Option (List ℕ)) → SecretVisible secret → AllByRecursion IsField (token_fields secret)
unfolding is_token_byte
token_are None is = tt
token_are (Some secret) is = (visible_field (codes "Seafile-Repo-Token") (encode_lower secret) refl (lit< tt) is, tt)

-- a tag's text is visible
pub tag_visible : (tag : Tag) → IsTag tag → list_all is_visible (tag_text tag) ≡ true
tag_visible tag is =
    list_all-joined is_visible (codes "\"" ++ decimal tag.opening ++ codes "-" ++ decimal tag.count) (codes "\"")
    (list_all-joined is_visible (codes "\"" ++ decimal tag.opening ++ codes "-") (decimal tag.count)
    (list_all-joined is_visible (codes "\"" ++ decimal tag.opening) (codes "-")
    (list_all-joined is_visible (codes "\"") (decimal tag.opening) refl (size_visible tag.opening is.opening)) refl) (size_visible tag.count is.count)) refl

match_are : (tag : Option Tag) → IsTagOrNone tag → AllByRecursion IsField (match_fields tag)
unfolding is_token_byte
match_are None is = tt
match_are (Some tag) is = (visible_field (codes "If-None-Match") (tag_text tag) refl (lit< tt) (tag_visible tag is), tt)

length_are : (m : Method) (size : ℕ) → size < 2 ^ 64 → AllByRecursion IsField (length_fields m size)
unfolding is_token_byte
length_are method.Get size fits = tt
length_are method.Put size fits = (visible_field (codes "Content-Length") (decimal size) refl (lit< tt) (size_visible size fits), tt)
length_are method.Post size fits = (visible_field (codes "Content-Length") (decimal size) refl (lit< tt) (size_visible size fits), tt)
length_are method.Other size fits = tt

pub close_are : (ends : Bool) → AllByRecursion IsField (close_fields ends)
unfolding is_token_byte
close_are true = (visible_field (codes "Connection") (codes "close") refl (lit< tt) refl, tt)
close_are false = tt

pub are_fields : (m : Method) (host : List ℕ) (secret : Option (List ℕ)) (tag : Option Tag) (size : ℕ) (ends : Bool) → list_all is_visible host ≡ true
    → SecretVisible secret → IsTagOrNone tag → size < 2 ^ 64 → All IsField (head_fields m host secret tag size ends)
unfolding is_token_byte
are_fields m host secret tag size ends host_is secret_is tag_is fits =
    All-from_recursion IsField (head_fields m host secret tag size ends) (
      visible_field (codes "Host") host refl (lit< tt) host_is,
      all-append IsField (token_fields secret) (match_fields tag ++ (length_fields m size ++ close_fields ends)) (token_are secret secret_is)
          (all-append IsField (match_fields tag) (length_fields m size ++ close_fields ends) (match_are tag tag_is)
          (all-append IsField (length_fields m size) (close_fields ends) (length_are m size fits) (close_are ends))),
    )

-- ---- what a server makes of them

pub data HasWord : Method → Type 0 where
  get : HasWord method.Get
  put : HasWord method.Put
  post : HasWord method.Post

pub route_word : (r : Route) → HasWord (method_in r)
route_word route.Version = get
route_word (route.Check lib) = get
route_word (route.Head lib) = get
route_word (route.Update lib) = put
route_word (route.Get lib key) = get
route_word (route.Put lib key) = put
route_word (route.CheckFs lib) = post
route_word (route.CheckBlocks lib) = post
route_word (route.PutFs lib) = post
route_word (route.GetFs lib) = post
route_word (route.Ids lib) = get
route_word (route.Limit lib) = put
route_word (route.Collect lib) = post

pub word_is : (m : Method) → HasWord m → method_of (method_word m) ≡ m
word_is _ get = refl
word_is _ put = refl
word_is _ post = refl

abbrev pub told_length : Method → ℕ → Option ℕ
told_length method.Get size = Some 0
told_length method.Put size = number_in (trim_ows (32 ∷ decimal size))
told_length method.Post size = number_in (trim_ows (32 ∷ decimal size))
told_length method.Other size = Some 0

pub judged_so : (m : Method) (target host : List ℕ) (secret : Option (List ℕ)) (tag : Option Tag) (size : ℕ) (ends : Bool) → HasWord m
    → judged_by 1 (method_word m) target (map name_and_value (head_fields m host secret tag size ends)) ≡ judged false (told_length m size) true (limit_of (method_of (method_word m)) target)
unfolding judged_by
judged_so _ target host None None size true get = refl
judged_so _ target host None (Some tag) size true get = refl
judged_so _ target host None None size false get = refl
judged_so _ target host None (Some tag) size false get = refl
judged_so _ target host (Some secret) None size true get = refl
judged_so _ target host (Some secret) (Some tag) size true get = refl
judged_so _ target host (Some secret) None size false get = refl
judged_so _ target host (Some secret) (Some tag) size false get = refl
judged_so _ target host secret tag size ends word = refl

pub closes_so : (m : Method) (host : List ℕ) (secret : Option (List ℕ)) (tag : Option Tag) (size : ℕ) (ends : Bool) → HasWord m
    → closes_by 1 (map name_and_value (head_fields m host secret tag size ends)) ≡ ends
unfolding closes_by trim_ows
closes_so _ host None None size true get = refl
closes_so _ host None (Some tag) size true get = refl
closes_so _ host None None size false get = refl
closes_so _ host None (Some tag) size false get = refl
closes_so _ host (Some secret) None size true get = refl
closes_so _ host (Some secret) (Some tag) size true get = refl
closes_so _ host (Some secret) None size false get = refl
closes_so _ host (Some secret) (Some tag) size false get = refl
closes_so _ host secret tag size ends word = refl

pub waits_not : (m : Method) (host : List ℕ) (secret : Option (List ℕ)) (tag : Option Tag) (size : ℕ) (ends : Bool) → HasWord m
    → wants_continue (map name_and_value (head_fields m host secret tag size ends)) ≡ false
waits_not _ host None None size true get = refl
waits_not _ host None (Some tag) size true get = refl
waits_not _ host None None size false get = refl
waits_not _ host None (Some tag) size false get = refl
waits_not _ host (Some secret) None size true get = refl
waits_not _ host (Some secret) (Some tag) size true get = refl
waits_not _ host (Some secret) None size false get = refl
waits_not _ host (Some secret) (Some tag) size false get = refl
waits_not _ host secret tag size ends word = refl

abbrev pub token_found : Option (List ℕ) → List (List ℕ)
token_found None = []
token_found (Some secret) = trim_ows (32 ∷ encode_lower secret) ∷ []

token_so : (m : Method) (host : List ℕ) (secret : Option (List ℕ)) (tag : Option Tag) (size : ℕ) (ends : Bool) → HasWord m
    → values_of (codes "seafile-repo-token") (map name_and_value (head_fields m host secret tag size ends)) ≡ token_found secret
token_so _ host None None size true get = refl
token_so _ host None (Some tag) size true get = refl
token_so _ host None None size false get = refl
token_so _ host None (Some tag) size false get = refl
token_so _ host (Some secret) None size true get = refl
token_so _ host (Some secret) (Some tag) size true get = refl
token_so _ host (Some secret) None size false get = refl
token_so _ host (Some secret) (Some tag) size false get = refl
token_so _ host secret tag size ends word = refl

secret_by : (secret : Option (List ℕ)) → IsSecretOrNone secret → SecretVisible secret → IsTokenIn (found (token_found secret)) secret
secret_by None is visible = λ secret is_secret e. absurd (cc)
secret_by (Some secret) is visible = (is, ap (λ (v : List ℕ). found (v ∷ [])) (trimmed (encode_lower secret) visible))

pub secret_so : (m : Method) (host : List ℕ) (secret : Option (List ℕ)) (tag : Option Tag) (size : ℕ) (ends : Bool) → HasWord m → IsSecretOrNone secret → SecretVisible secret
    → IsTokenIn (found (values_of (codes "seafile-repo-token") (map name_and_value (head_fields m host secret tag size ends)))) secret
secret_so m host secret tag size ends word is visible =
    subst (λ (vs : List (List ℕ)). IsTokenIn (found vs) secret) (sym (token_so m host secret tag size ends word)) (secret_by secret is visible)

abbrev pub match_found : Option Tag → List (List ℕ)
match_found None = []
match_found (Some tag) = trim_ows (32 ∷ tag_text tag) ∷ []

match_at : (m : Method) (host : List ℕ) (secret : Option (List ℕ)) (tag : Option Tag) (size : ℕ) (ends : Bool) → HasWord m
    → values_of (codes "if-none-match") (map name_and_value (head_fields m host secret tag size ends)) ≡ match_found tag
match_at _ host None None size true get = refl
match_at _ host None (Some tag) size true get = refl
match_at _ host None None size false get = refl
match_at _ host None (Some tag) size false get = refl
match_at _ host (Some secret) None size true get = refl
match_at _ host (Some secret) (Some tag) size true get = refl
match_at _ host (Some secret) None size false get = refl
match_at _ host (Some secret) (Some tag) size false get = refl
match_at _ host secret tag size ends word = refl

-- a tag that was written is read as it was
pub tag_by : (tag : Option Tag) → IsTagOrNone tag → IsTagIn (found (match_found tag)) tag
tag_by None is = λ tag is_tag e. absurd (cc)
tag_by (Some tag) is = (is, ap (λ (v : List ℕ). found (v ∷ [])) (trimmed (tag_text tag) (tag_visible tag is)))

pub match_so : (m : Method) (host : List ℕ) (secret : Option (List ℕ)) (tag : Option Tag) (size : ℕ) (ends : Bool) → HasWord m → IsTagOrNone tag
    → IsTagIn (found (values_of (codes "if-none-match") (map name_and_value (head_fields m host secret tag size ends)))) tag
match_so m host secret tag size ends word is =
    subst (λ (vs : List (List ℕ)). IsTagIn (found vs) tag) (sym (match_at m host secret tag size ends word)) (tag_by tag is)

-- ---- the length is read as it was written

pub told_size : (m : Method) (size : ℕ) → HasWord m → size < 10 ^ 19 → size < 2 ^ 64 → (m ≡ method.Get → size ≡ 0) → told_length m size ≡ Some size
told_size _ size get small fits none = ap Some (sym (none refl))
told_size _ size put small fits none = ap number_in (trimmed (decimal size) (size_visible size fits)) ∙ number_written size small fits
told_size _ size post small fits none = ap number_in (trimmed (decimal size) (size_visible size fits)) ∙ number_written size small fits

-- The head that is written for an order has few fields and is short. The key lemmas are few_so and head_short.
use Rattle.std.proofs.Common.{◌≡◌, ℕ, ◌+◌, ◌^◌, ◌<◌, ◌≤◌, Bool, true, false, List, [], ◌∷◌, ◌++◌, length, refl, ap, arith, lit≤, lit<, length-append, Option, None, Some, codes, decimal}
use Rattle.std.specs.Prelude.{⊤}
use Rattle.std.specs.List.{flat_map}
use Rattle.std.proofs.lemmas.Fmt.{length-decimal-le}
use Rattle.hex.specs.Hex.{encode_lower}
use Rattle.httparse.specs.Grammar.{print_field, print_request}
use Rattle.httparse.proofs.GrammarLemmas.{print_request-append}
use Rattle.library_state.specs.declared.tag.Tag.{Tag}
use Rattle.http_front.specs.EntityTag.{tag_text}
use Rattle.http_front.specs.NextHead.{IsTag}
use Rattle.http_front.specs.ReplyText.{close_line, end_of_line, line}
use Rattle.http_front.specs.declared.method.Method.{Method}
use Rattle.http_front.specs.declared.method.Method.TheVariants as method
use Rattle.http_client.specs.ReadOrder.{IsTagOrNone}
use Rattle.http_client.specs.RequestText.{host_line, length_line, match_line, method_word, token_line}
use Rattle.http_client.proofs.WrittenHeadLemmas.{HasWord, fields_printed, get, head_fields, head_with, post, put}

-- ---- the head is short

pub few_so : (m : Method) (host : List ℕ) (secret : Option (List ℕ)) (tag : Option Tag) (size : ℕ) (ends : Bool) → HasWord m
    → length (head_fields m host secret tag size ends) ≤ 64
few_so _ host None None size true get = lit≤ tt
few_so _ host None None size false get = lit≤ tt
few_so _ host None (Some tag) size true get = lit≤ tt
few_so _ host None (Some tag) size false get = lit≤ tt
few_so _ host (Some secret) None size true get = lit≤ tt
few_so _ host (Some secret) None size false get = lit≤ tt
few_so _ host (Some secret) (Some tag) size true get = lit≤ tt
few_so _ host (Some secret) (Some tag) size false get = lit≤ tt
few_so _ host None None size true put = lit≤ tt
few_so _ host None None size false put = lit≤ tt
few_so _ host None (Some tag) size true put = lit≤ tt
few_so _ host None (Some tag) size false put = lit≤ tt
few_so _ host (Some secret) None size true put = lit≤ tt
few_so _ host (Some secret) None size false put = lit≤ tt
few_so _ host (Some secret) (Some tag) size true put = lit≤ tt
few_so _ host (Some secret) (Some tag) size false put = lit≤ tt
few_so _ host None None size true post = lit≤ tt
few_so _ host None None size false post = lit≤ tt
few_so _ host None (Some tag) size true post = lit≤ tt
few_so _ host None (Some tag) size false post = lit≤ tt
few_so _ host (Some secret) None size true post = lit≤ tt
few_so _ host (Some secret) None size false post = lit≤ tt
few_so _ host (Some secret) (Some tag) size true post = lit≤ tt
few_so _ host (Some secret) (Some tag) size false post = lit≤ tt

line_is : (name value : List ℕ) → line name value ≡ (name ++ value) ++ end_of_line
unfolding line
line_is name value = refl

line_length : (name value : List ℕ) → length (line name value) ≡ length name + length value + 2
line_length name value =
    let same = ap length (line_is name value) in
    omega (arith, same, length-append (name ++ value) end_of_line, length-append name value)

abbrev pub SecretShort : Option (List ℕ) → Type 0
SecretShort None = ⊤
SecretShort (Some secret) = length (encode_lower secret) ≡ 40

token_short : (secret : Option (List ℕ)) → SecretShort secret → length (token_line secret) ≤ 62
token_short None is = lit≤ tt
token_short (Some secret) is = let whole = line_length (codes "Seafile-Repo-Token: ") (encode_lower secret) in omega (arith, whole, is)

pub tag_text_short : (tag : Tag) → IsTag tag → length (tag_text tag) ≤ 43
tag_text_short tag is =
    let opening_fits = is.opening in
    let count_fits = is.count in
    let opening = length-decimal-le 20 tag.opening (lit< tt) (omega (arith, opening_fits)) is.opening in
    let count = length-decimal-le 20 tag.count (lit< tt) (omega (arith, count_fits)) is.count in
    omega (
      arith,
      opening,
      count,
      length-append (decimal tag.opening ++ codes "-" ++ decimal tag.count) (codes "\""),
      length-append (decimal tag.opening ++ codes "-") (decimal tag.count),
      length-append (decimal tag.opening) (codes "-"),
    )

match_short : (tag : Option Tag) → IsTagOrNone tag → length (match_line tag) ≤ 60
match_short None is = lit≤ tt
match_short (Some tag) is =
    let whole = line_length (codes "If-None-Match: ") (tag_text tag) in
    let few = tag_text_short tag is in
    omega (arith, whole, few)

length_short : (m : Method) (size : ℕ) → size < 10 ^ 19 → size < 2 ^ 64 → length (length_line m size) ≤ 37
length_short method.Get size small fits = lit≤ tt
length_short method.Put size small fits =
    let whole = line_length (codes "Content-Length: ") (decimal size) in
    let few = length-decimal-le 19 size (lit< tt) small fits in
    omega (arith, whole, few)
length_short method.Post size small fits =
    let whole = line_length (codes "Content-Length: ") (decimal size) in
    let few = length-decimal-le 19 size (lit< tt) small fits in
    omega (arith, whole, few)
length_short method.Other size small fits = lit≤ tt

close_short : (ends : Bool) → length (close_line ends) ≤ 19
close_short true = let whole = line_length (codes "Connection: ") (codes "close") in omega (arith, whole)
close_short false = lit≤ tt

word_short : (m : Method) → HasWord m → length (method_word m) ≤ 4
word_short _ get = lit≤ tt
word_short _ put = lit≤ tt
word_short _ post = lit≤ tt

pub head_short : (m : Method) (target host : List ℕ) (secret : Option (List ℕ)) (tag : Option Tag) (size : ℕ) (ends : Bool) → HasWord m → length target ≤ 325
    → length host ≤ 255 → SecretShort secret → IsTagOrNone tag → size < 10 ^ 19 → size < 2 ^ 64
    → length (print_request (head_with m target host secret tag size ends)) ≤ 16384
head_short m target host secret tag size ends word target_is host_is secret_is tag_is small fits =
    let fields = flat_map print_field (head_fields m host secret tag size ends) in
    let section = fields ++ end_of_line in
    let version = codes "HTTP/1.1" in
    let same = ap length (print_request-append (head_with m target host secret tag size ends) []) in
    let lines = ap length (fields_printed m host secret tag size ends) in
    let host_length = line_length (codes "Host: ") host in
    let token = token_short secret secret_is in
    let matched = match_short tag tag_is in
    let sized = length_short m size small fits in
    let closed = close_short ends in
    let worded = word_short m word in
    omega (
      arith,
      same,
      lines,
      host_length,
      token,
      matched,
      sized,
      closed,
      worded,
      target_is,
      host_is,
      length-append (print_request (head_with m target host secret tag size ends)) [],
      length-append (method_word m) (32 ∷ (target ++ 32 ∷ (version ++ (end_of_line ++ (section ++ []))))),
      length-append target (32 ∷ (version ++ (end_of_line ++ (section ++ [])))),
      length-append section [],
      length-append fields end_of_line,
      length-append (host_line host) (token_line secret ++ (match_line tag ++ (length_line m size ++ close_line ends))),
      length-append (token_line secret) (match_line tag ++ (length_line m size ++ close_line ends)),
      length-append (match_line tag) (length_line m size ++ close_line ends),
      length-append (length_line m size) (close_line ends),
    )

-- The head of a reply that a server writes, as a client reads it. The key lemmas are reply_printed, is_head, few_so, right_so,
-- tag_so and closes_so.
use Rattle.std.proofs.Common.{◌≡◌, ℕ, ◌^◌, ◌<◌, ◌≤◌, ◌==◌, if◌then◌else◌, Bool, true, false, List, [], ◌∷◌, ◌++◌, length, take, drop, map, refl, sym, ap, ap₂, ◌∙◌, subst, lit≤, lit<, append_assoc, append-nil, Option, None, Some, codes, decimal}
use Rattle.std.specs.Prelude.{⊤}
use Rattle.std.specs.List.{AllByRecursion, flat_map, list_all}
use Rattle.std.specs.Char.{is_ascii_digit}
use Rattle.std.proofs.lemmas.Bool.{true≢false}
use Rattle.std.proofs.lemmas.Grind.{flat_map-append}
use Rattle.std.proofs.lemmas.List.Elements.{All-from_recursion}
use Rattle.std.proofs.lemmas.List.Sums.{AllPass-from_list_all}
use Rattle.httparse.specs.Grammar.{Field, IsField, IsResponseHead, ResponseHead, crlf, is_token_byte, is_value_byte, print_field, print_reason, print_response, print_version, status_code, trim_ows}
use Rattle.httparse.specs.Spans.{name_and_value}
use Rattle.httparse.proofs.GrammarLemmas.{cons-append, print_response-append}
use Rattle.library_state.specs.declared.tag.Tag.{Tag}
use Rattle.http_front.specs.EntityTag.{tag_text}
use Rattle.http_front.specs.Fields.{absent, found, once, values_of}
use Rattle.http_front.specs.NextHead.{IsTag, IsTagIn}
use Rattle.http_front.specs.ReplyText.{close_line, end_of_line, length_line, line, parts_by, reply_front, tag_line, type_line, written}
use Rattle.http_front.specs.RequestHead.{number_in, wants_close}
use Rattle.http_front.specs.Status.{status_words}
use Rattle.http_front.specs.declared.order.What.{What}
use Rattle.http_front.specs.declared.status.Status.{Status}
use Rattle.http_front.specs.declared.status.Status.TheVariants as status
use Rattle.http_client.specs.ReadOrder.{IsTagOrNone}
use Rattle.http_client.specs.ReplyHead.{IsRightBy, IsTagged, size_due, status_number, tag_due, tag_field}
use Rattle.http_front.proofs.NumberLemmas.{number_written}
use Rattle.http_client.proofs.WrittenHeadLemmas.{all-append, close_are, close_fields, close_printed, field_of, match_found, size_visible, tag_by, tag_visible, trimmed, visible_field}
use Rattle.http_client.proofs.TargetTextLemmas.{is_visible}

-- ---- the head that is written

abbrev pub type_fields : Bool → List ℕ → List Field
type_fields true content_type = []
type_fields false content_type = field_of (codes "Content-Type") content_type ∷ []

abbrev pub size_fields : Bool → ℕ → List Field
size_fields true size = field_of (codes "Content-Length") (decimal size) ∷ []
size_fields false size = []

abbrev pub tag_fields : Option Tag → List Field
tag_fields None = []
tag_fields (Some tag) = field_of (codes "ETag") (tag_text tag) ∷ []

-- `empty` tells that there is no body, `long` that its length is told
abbrev pub reply_fields : Bool → Bool → List ℕ → ℕ → Option Tag → Bool → List Field
reply_fields empty long content_type size tag ends = type_fields empty content_type ++ (size_fields long size ++ (tag_fields tag ++ close_fields ends))

-- a status but that of a reply without a body
abbrev pub has_body : Status → Bool
has_body status.NotModified = false
has_body other = true

abbrev pub reply_head : Status → Bool → List ℕ → ℕ → Option Tag → Bool → ResponseHead
reply_head s empty content_type size tag ends = record {
  blank = [];
  minor = 1;
  digits = take 3 (status_words s);
  reason = Some (drop 4 (status_words s));
  line_end = crlf;
  fields = reply_fields empty (has_body s) content_type size tag ends;
  last = crlf;
}

-- ---- its bytes

type_printed : (empty : Bool) (content_type : List ℕ) (size : ℕ) → (size == 0) ≡ empty → flat_map print_field (type_fields empty content_type) ≡ type_line content_type size
unfolding line
type_printed true content_type size is = sym (ap (λ (b : Bool). if b then [] else line (codes "Content-Type: ") content_type) is)
type_printed false content_type size is =
    append-nil (print_field (field_of (codes "Content-Type") content_type))
    ∙ sym (ap (λ (b : Bool). if b then [] else line (codes "Content-Type: ") content_type) is)

size_printed : (s : Status) (size : ℕ) → flat_map print_field (size_fields (has_body s) size) ≡ length_line s size
unfolding line
size_printed status.NotModified size = refl
size_printed other size = append-nil (print_field (field_of (codes "Content-Length") (decimal size)))

tag_printed : (tag : Option Tag) → flat_map print_field (tag_fields tag) ≡ tag_line tag
unfolding line
tag_printed None = refl
tag_printed (Some tag) = append-nil (print_field (field_of (codes "ETag") (tag_text tag)))

fields_printed : (s : Status) (empty : Bool) (content_type : List ℕ) (size : ℕ) (tag : Option Tag) (ends : Bool) → (size == 0) ≡ empty
    → flat_map print_field (reply_fields empty (has_body s) content_type size tag ends) ≡ type_line content_type size ++ (length_line s size ++ (tag_line tag ++ close_line ends))
fields_printed s empty content_type size tag ends is =
    flat_map-append print_field (type_fields empty content_type) (size_fields (has_body s) size ++ (tag_fields tag ++ close_fields ends))
    ∙ ap₂ (λ (xs ys : List ℕ). xs ++ ys) (type_printed empty content_type size is)
    (flat_map-append print_field (size_fields (has_body s) size) (tag_fields tag ++ close_fields ends)
    ∙ ap₂ (λ (xs ys : List ℕ). xs ++ ys) (size_printed s size)
    (flat_map-append print_field (tag_fields tag) (close_fields ends)
    ∙ ap₂ (λ (xs ys : List ℕ). xs ++ ys) (tag_printed tag) (close_printed ends)))

-- the version and the words of the status
words_printed : (s : Status) (more : List ℕ) → codes "HTTP/1.1 " ++ (status_words s ++ more)
    ≡ print_version 1 ++ 32 ∷ (take 3 (status_words s) ++ (print_reason (Some (drop 4 (status_words s))) ++ more))
words_printed status.Success more = refl
words_printed other more = refl

regrouped : (front words type size tag ends body more : List ℕ)
    → (((front ++ words ++ end_of_line) ++ type ++ size ++ tag ++ ends ++ end_of_line) ++ body) ++ more
    ≡ front ++ (words ++ (end_of_line ++ (((type ++ (size ++ (tag ++ ends))) ++ end_of_line) ++ (body ++ more))))
regrouped front words type size tag ends body more = simp (append_assoc, cons-append)

-- the reply's bytes are its head's, and then the body
pub reply_printed : (s : Status) (empty : Bool) (content_type body more : List ℕ) (tag : Option Tag) (ends : Bool) → (length body == 0) ≡ empty
    → written (parts_by s content_type tag body) ends ++ more ≡ print_response (reply_head s empty content_type (length body) tag ends) ++ (body ++ more)
unfolding written reply_front line
reply_printed s empty content_type body more tag ends is =
    let head = reply_head s empty content_type (length body) tag ends in
    regrouped (codes "HTTP/1.1 ") (status_words s) (type_line content_type (length body)) (length_line s (length body)) (tag_line tag) (close_line ends) body more
    ∙ words_printed s (end_of_line ++ (((type_line content_type (length body) ++ (length_line s (length body) ++ (tag_line tag ++ close_line ends))) ++ end_of_line) ++ (body ++ more)))
    ∙ ap (λ (f : List ℕ). print_version 1 ++ 32 ∷ (take 3 (status_words s) ++ (print_reason (Some (drop 4 (status_words s))) ++ (end_of_line ++ ((f ++ end_of_line) ++ (body ++ more))))))
    (sym (fields_printed s empty content_type (length body) tag ends is))
    ∙ sym (print_response-append head (body ++ more))

-- ---- it is a head

pub digits_are : (s : Status) → (length (take 3 (status_words s)) ≡ 3) × (list_all is_ascii_digit (take 3 (status_words s)) ≡ true)
digits_are status.Success = (refl, refl)
digits_are other = (refl, refl)

reason_is : (s : Status) → list_all is_value_byte (drop 4 (status_words s)) ≡ true
reason_is status.Success = refl
reason_is other = refl

type_are : (empty : Bool) (content_type : List ℕ) → list_all is_visible content_type ≡ true → AllByRecursion IsField (type_fields empty content_type)
unfolding is_token_byte
type_are true content_type seen = tt
type_are false content_type seen = (visible_field (codes "Content-Type") content_type refl (lit< tt) seen, tt)

size_are : (long : Bool) (size : ℕ) → size < 2 ^ 64 → AllByRecursion IsField (size_fields long size)
unfolding is_token_byte
size_are true size fits = (visible_field (codes "Content-Length") (decimal size) refl (lit< tt) (size_visible size fits), tt)
size_are false size fits = tt

tag_are : (tag : Option Tag) → IsTagOrNone tag → AllByRecursion IsField (tag_fields tag)
unfolding is_token_byte
tag_are None is = tt
tag_are (Some tag) is = (visible_field (codes "ETag") (tag_text tag) refl (lit< tt) (tag_visible tag is), tt)

fields_are : (empty long : Bool) (content_type : List ℕ) (size : ℕ) (tag : Option Tag) (ends : Bool) → list_all is_visible content_type ≡ true → size < 2 ^ 64
    → IsTagOrNone tag → AllByRecursion IsField (reply_fields empty long content_type size tag ends)
fields_are empty long content_type size tag ends seen fits tag_is =
    all-append IsField (type_fields empty content_type) (size_fields long size ++ (tag_fields tag ++ close_fields ends)) (type_are empty content_type seen)
    (all-append IsField (size_fields long size) (tag_fields tag ++ close_fields ends) (size_are long size fits)
    (all-append IsField (tag_fields tag) (close_fields ends) (tag_are tag tag_is) (close_are ends)))

pub is_head : (s : Status) (empty : Bool) (content_type : List ℕ) (size : ℕ) (tag : Option Tag) (ends : Bool) → list_all is_visible content_type ≡ true → size < 2 ^ 64
    → IsTagOrNone tag → IsResponseHead (reply_head s empty content_type size tag ends)
is_head s empty content_type size tag ends seen fits tag_is = record {
  minor = lit≤ tt;
  digits = ((digits_are s).0, AllPass-from_list_all is_ascii_digit (take 3 (status_words s)) (digits_are s).1);
  reason = AllPass-from_list_all is_value_byte (drop 4 (status_words s)) (reason_is s);
  fields =
      All-from_recursion IsField (reply_fields empty (has_body s) content_type size tag ends)
      (fields_are empty (has_body s) content_type size tag ends seen fits tag_is);
}

pub few_so : (empty long : Bool) (content_type : List ℕ) (size : ℕ) (tag : Option Tag) (ends : Bool) → length (reply_fields empty long content_type size tag ends) ≤ 64
few_so true true content_type size None true = lit≤ tt
few_so true true content_type size None false = lit≤ tt
few_so true true content_type size (Some tag) true = lit≤ tt
few_so true true content_type size (Some tag) false = lit≤ tt
few_so true false content_type size None true = lit≤ tt
few_so true false content_type size None false = lit≤ tt
few_so true false content_type size (Some tag) true = lit≤ tt
few_so true false content_type size (Some tag) false = lit≤ tt
few_so false true content_type size None true = lit≤ tt
few_so false true content_type size None false = lit≤ tt
few_so false true content_type size (Some tag) true = lit≤ tt
few_so false true content_type size (Some tag) false = lit≤ tt
few_so false false content_type size None true = lit≤ tt
few_so false false content_type size None false = lit≤ tt
few_so false false content_type size (Some tag) true = lit≤ tt
few_so false false content_type size (Some tag) false = lit≤ tt

-- ---- what a client makes of it

size_found : (empty : Bool) (content_type : List ℕ) (size : ℕ) (tag : Option Tag) (ends : Bool)
    → values_of (codes "content-length") (map name_and_value (reply_fields empty true content_type size tag ends)) ≡ trim_ows (32 ∷ decimal size) ∷ []
size_found true content_type size None true = refl
size_found true content_type size None false = refl
size_found true content_type size (Some tag) true = refl
size_found true content_type size (Some tag) false = refl
size_found false content_type size None true = refl
size_found false content_type size None false = refl
size_found false content_type size (Some tag) true = refl
size_found false content_type size (Some tag) false = refl

size_none : (empty : Bool) (content_type : List ℕ) (size : ℕ) (tag : Option Tag) (ends : Bool)
    → values_of (codes "content-length") (map name_and_value (reply_fields empty false content_type size tag ends)) ≡ []
size_none true content_type size None true = refl
size_none true content_type size None false = refl
size_none true content_type size (Some tag) true = refl
size_none true content_type size (Some tag) false = refl
size_none false content_type size None true = refl
size_none false content_type size None false = refl
size_none false content_type size (Some tag) true = refl
size_none false content_type size (Some tag) false = refl

tag_at : (empty long : Bool) (content_type : List ℕ) (size : ℕ) (tag : Option Tag) (ends : Bool)
    → values_of (codes "etag") (map name_and_value (reply_fields empty long content_type size tag ends)) ≡ match_found tag
tag_at true true content_type size None true = refl
tag_at true true content_type size None false = refl
tag_at true true content_type size (Some tag) true = refl
tag_at true true content_type size (Some tag) false = refl
tag_at true false content_type size None true = refl
tag_at true false content_type size None false = refl
tag_at true false content_type size (Some tag) true = refl
tag_at true false content_type size (Some tag) false = refl
tag_at false true content_type size None true = refl
tag_at false true content_type size None false = refl
tag_at false true content_type size (Some tag) true = refl
tag_at false true content_type size (Some tag) false = refl
tag_at false false content_type size None true = refl
tag_at false false content_type size None false = refl
tag_at false false content_type size (Some tag) true = refl
tag_at false false content_type size (Some tag) false = refl

pub tag_so : (empty long : Bool) (content_type : List ℕ) (size : ℕ) (tag : Option Tag) (ends : Bool) → IsTagOrNone tag
    → IsTagIn (tag_field (map name_and_value (reply_fields empty long content_type size tag ends))) tag
tag_so empty long content_type size tag ends is =
    subst (λ (vs : List (List ℕ)). IsTagIn (found vs) tag) (sym (tag_at empty long content_type size tag ends)) (tag_by tag is)

pub closes_so : (empty long : Bool) (content_type : List ℕ) (size : ℕ) (tag : Option Tag) (ends : Bool)
    → wants_close (map name_and_value (reply_fields empty long content_type size tag ends)) ≡ ends
unfolding trim_ows
closes_so true true content_type size None true = refl
closes_so true true content_type size None false = refl
closes_so true true content_type size (Some tag) true = refl
closes_so true true content_type size (Some tag) false = refl
closes_so true false content_type size None true = refl
closes_so true false content_type size None false = refl
closes_so true false content_type size (Some tag) true = refl
closes_so true false content_type size (Some tag) false = refl
closes_so false true content_type size None true = refl
closes_so false true content_type size None false = refl
closes_so false true content_type size (Some tag) true = refl
closes_so false true content_type size (Some tag) false = refl
closes_so false false content_type size None true = refl
closes_so false false content_type size None false = refl
closes_so false false content_type size (Some tag) true = refl
closes_so false false content_type size (Some tag) false = refl

size_told : (s : Status) (value : List ℕ) → has_body s ≡ true → size_due s (once value) ≡ number_in value
size_told status.NotModified value is = absurd (true≢false (sym is))
size_told other value is = refl

none_told : (s : Status) → has_body s ≡ false → size_due s absent ≡ Some 0
none_told status.NotModified is = refl
none_told other is = absurd (true≢false is)

-- the length of the body, which is 0 where it isn't told
size_so : (s : Status) (empty : Bool) (content_type : List ℕ) (size : ℕ) (tag : Option Tag) (ends : Bool) → size < 10 ^ 19 → size < 2 ^ 64 → (has_body s ≡ false → size ≡ 0)
    → size_due s (found (values_of (codes "content-length") (map name_and_value (reply_fields empty (has_body s) content_type size tag ends)))) ≡ Some size
size_so s empty content_type size tag ends small fits none = by (has_body s) refl
  where
    by : (long : Bool) → has_body s ≡ long
        → size_due s (found (values_of (codes "content-length") (map name_and_value (reply_fields empty long content_type size tag ends)))) ≡ Some size
    by true is =
        ap (λ (vs : List (List ℕ)). size_due s (found vs)) (size_found empty content_type size tag ends)
        ∙ size_told s (trim_ows (32 ∷ decimal size)) is
        ∙ ap number_in (trimmed (decimal size) (size_visible size fits)) ∙ number_written size small fits
    by false is = ap (λ (vs : List (List ℕ)). size_due s (found vs)) (size_none empty content_type size tag ends) ∙ none_told s is ∙ ap Some (sym (none is))

-- a tag that is due is there
abbrev pub HasDue : Bool → Option Tag → Type 0
HasDue false tag = ⊤
HasDue true None = ⊥
HasDue true (Some tag) = IsTag tag

tagged_so : (due empty long : Bool) (content_type : List ℕ) (size : ℕ) (tag : Option Tag) (ends : Bool) → HasDue due tag
    → IsTagged due (map name_and_value (reply_fields empty long content_type size tag ends))
tagged_so false empty long content_type size tag ends is = tt
tagged_so true empty long content_type size None ends is = absurd is
tagged_so true empty long content_type size (Some tag) ends is = record { tag = tag; there = tag_so empty long content_type size (Some tag) ends is }

number_told : (s : Status) (empty : Bool) (content_type : List ℕ) (size : ℕ) (tag : Option Tag) (ends : Bool) → status_number s ≡ status_code (reply_head s empty content_type size tag ends)
number_told status.Success empty content_type size tag ends = refl
number_told other empty content_type size tag ends = refl

pub right_so : (order : What) (s : Status) (empty : Bool) (content_type : List ℕ) (size : ℕ) (tag : Option Tag) (ends : Bool) → size < 10 ^ 19 → size < 2 ^ 64
    → (has_body s ≡ false → size ≡ 0) → HasDue (tag_due order s) tag
    → IsRightBy order (status_code (reply_head s empty content_type size tag ends)) (map name_and_value (reply_fields empty (has_body s) content_type size tag ends)) s size
right_so order s empty content_type size tag ends small fits none due = record {
  status_is = number_told s empty content_type size tag ends;
  size_is = size_so s empty content_type size tag ends small fits none;
  tagged = tagged_so (tag_due order s) empty (has_body s) content_type size tag ends due;
}

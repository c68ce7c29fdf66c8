-- The head of a reply that a server writes is short. The key lemma is reply_head_short.
use Rattle.std.proofs.Common.{◌≡◌, ℕ, ◌+◌, ◌^◌, ◌<◌, ◌≤◌, Bool, true, false, List, [], ◌∷◌, ◌++◌, length, take, drop, ap, arith, lit≤, lit<, length-append, Option, None, Some, codes, decimal}
use Rattle.std.specs.List.{flat_map}
use Rattle.std.proofs.lemmas.Grind.{flat_map-append}
use Rattle.std.proofs.lemmas.Fmt.{length-decimal-le}
use Rattle.httparse.specs.Grammar.{print_field, print_reason, print_response, print_version}
use Rattle.httparse.proofs.GrammarLemmas.{print_response-append}
use Rattle.library_state.specs.declared.tag.Tag.{Tag}
use Rattle.http_front.specs.EntityTag.{tag_text}
use Rattle.http_front.specs.ReplyText.{end_of_line}
use Rattle.http_front.specs.Status.{status_words}
use Rattle.http_front.specs.declared.status.Status.{Status}
use Rattle.http_front.specs.declared.status.Status.TheVariants as status
use Rattle.http_client.specs.ReadOrder.{IsTagOrNone}
use Rattle.http_client.proofs.HeadSizeLemmas.{tag_text_short}
use Rattle.http_client.proofs.WrittenHeadLemmas.{close_fields, field_of}
use Rattle.http_client.proofs.WrittenReplyLemmas.{digits_are, has_body, reply_fields, reply_head, size_fields, tag_fields, type_fields}

field_length : (name value : List ℕ) → length (print_field (field_of name value)) ≡ length name + length value + 4
field_length name value = simp length-append (omega arith)

module _ (content_type : List ℕ) (size : ℕ) (short : length content_type ≤ 24) (small : size < 10 ^ 19) (fits : size < 2 ^ 64) where
  size_field : length (print_field (field_of (codes "Content-Length") (decimal size))) ≤ 37
  size_field = let whole = field_length (codes "Content-Length") (decimal size) in let few = length-decimal-le 19 size (lit< tt) small fits in omega (arith, whole, few)

  type_field : length (print_field (field_of (codes "Content-Type") content_type)) ≤ 40
  type_field = let whole = field_length (codes "Content-Type") content_type in omega (arith, whole, short)

  close_field : length (print_field (field_of (codes "Connection") (codes "close"))) ≤ 19
  close_field = let whole = field_length (codes "Connection") (codes "close") in omega (arith, whole)

  size_fields_short : (long : Bool) → length (flat_map print_field (size_fields long size)) ≤ 37
  size_fields_short true = let is = size_field in omega (arith, is, length-append (print_field (field_of (codes "Content-Length") (decimal size))) [])
  size_fields_short false = lit≤ tt

  type_fields_short : (empty : Bool) → length (flat_map print_field (type_fields empty content_type)) ≤ 40
  type_fields_short true = lit≤ tt
  type_fields_short false = let is = type_field in omega (arith, is, length-append (print_field (field_of (codes "Content-Type") content_type)) [])

  close_fields_short : (ends : Bool) → length (flat_map print_field (close_fields ends)) ≤ 19
  close_fields_short true = let is = close_field in omega (arith, is, length-append (print_field (field_of (codes "Connection") (codes "close"))) [])
  close_fields_short false = lit≤ tt

  tag_fields_short : (tag : Option Tag) → IsTagOrNone tag → length (flat_map print_field (tag_fields tag)) ≤ 51
  tag_fields_short None is = lit≤ tt
  tag_fields_short (Some tag) is =
      let whole = field_length (codes "ETag") (tag_text tag) in
      let few = tag_text_short tag is in
      omega (arith, whole, few, length-append (print_field (field_of (codes "ETag") (tag_text tag))) [])

  fields_short : (empty long : Bool) (tag : Option Tag) (ends : Bool) → IsTagOrNone tag → length (flat_map print_field (reply_fields empty long content_type size tag ends)) ≤ 147
  fields_short empty long tag ends is =
      let t = flat_map print_field (type_fields empty content_type) in
      let s = flat_map print_field (size_fields long size) in
      let g = flat_map print_field (tag_fields tag) in
      let c = flat_map print_field (close_fields ends) in
      let whole = ap length (flat_map-append print_field (type_fields empty content_type) (size_fields long size ++ (tag_fields tag ++ close_fields ends))) in
      let rest = ap length (flat_map-append print_field (size_fields long size) (tag_fields tag ++ close_fields ends)) in
      let last = ap length (flat_map-append print_field (tag_fields tag) (close_fields ends)) in
      let t_short = type_fields_short empty in
      let s_short = size_fields_short long in
      let g_short = tag_fields_short tag is in
      let c_short = close_fields_short ends in
      omega (
        arith,
        whole,
        rest,
        last,
        t_short,
        s_short,
        g_short,
        c_short,
        length-append t (flat_map print_field (size_fields long size ++ (tag_fields tag ++ close_fields ends))),
        length-append s (flat_map print_field (tag_fields tag ++ close_fields ends)),
        length-append g c,
      )

phrase_short : (s : Status) → length (drop 4 (status_words s)) ≤ 40
phrase_short status.Success = lit≤ tt
phrase_short other = lit≤ tt

pub reply_head_short : (s : Status) (empty : Bool) (content_type : List ℕ) (size : ℕ) (tag : Option Tag) (ends : Bool) → length content_type ≤ 24 → size < 10 ^ 19
    → size < 2 ^ 64 → IsTagOrNone tag → length (print_response (reply_head s empty content_type size tag ends)) ≤ 16384
reply_head_short s empty content_type size tag ends short small fits tag_is =
    let head = reply_head s empty content_type size tag ends in
    let fields = flat_map print_field (reply_fields empty (has_body s) content_type size tag ends) in
    let section = fields ++ end_of_line in
    let digits = take 3 (status_words s) in
    let phrase = drop 4 (status_words s) in
    let same = ap length (print_response-append head []) in
    let three = (digits_are s).0 in
    let words = phrase_short s in
    let lines = fields_short content_type size short small fits empty (has_body s) tag ends tag_is in
    omega (
      arith,
      same,
      three,
      words,
      lines,
      length-append (print_response head) [],
      length-append (print_version 1) (32 ∷ (digits ++ (print_reason (Some phrase) ++ (end_of_line ++ (section ++ []))))),
      length-append digits (print_reason (Some phrase) ++ (end_of_line ++ (section ++ []))),
      length-append phrase (end_of_line ++ (section ++ [])),
      length-append section [],
      length-append fields end_of_line,
    )

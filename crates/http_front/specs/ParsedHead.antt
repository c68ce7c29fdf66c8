-- A head as it was read, before its spans are tied to a head of the grammar. Read first: NextHead.
use Rattle.std.specs.Prelude.{ℕ, ◌≡◌, Ok, Err, List, codes}
use Rattle.httparse.specs.Spans.{span_bytes}
use Rattle.httparse.specs.declared.spans.RequestSpans.{RequestSpans}
use Rattle.http_front.specs.Fields.{FieldList, found, values_of}
use Rattle.http_front.specs.RequestHead.{closes_by, expects_by, method_of, judged_by}
use Rattle.http_front.specs.NextHead.{IsTokenIn, IsTagIn}
use Rattle.http_front.specs.declared.head.Head.{Head}
use Rattle.http_front.specs.declared.head.Next.{Next}
use Rattle.http_front.specs.declared.head.Next.TheVariants as next

-- the head is what the spans and the fields say
pub record IsHeadBy (front : List ℕ) (spans : RequestSpans) (fields : FieldList) (head : Head) : Type 0 where
  pub used : head.used ≡ spans.len
  pub body : judged_by spans.version (span_bytes front spans.method) (span_bytes front spans.path) fields ≡ Ok head.body
  pub expects_is : head.expects ≡ expects_by spans.version head.body fields
  pub closes_is : head.closes ≡ closes_by spans.version fields
  pub method : head.method ≡ method_of (span_bytes front spans.method)
  pub target : head.target ≡ span_bytes front spans.path
  pub token : IsTokenIn (found (values_of (codes "seafile-repo-token") fields)) head.token
  pub tag : IsTagIn (found (values_of (codes "if-none-match") fields)) head.tag

-- what the spans and the fields make
abbrev pub IsParsedBy : List ℕ → RequestSpans → FieldList → Next → Type 0
IsParsedBy front spans fields next.Need = ⊥
IsParsedBy front spans fields (next.Head head) = IsHeadBy front spans fields head
IsParsedBy front spans fields (next.Bad status) =
    judged_by spans.version (span_bytes front spans.method) (span_bytes front spans.path) fields ≡ Err status

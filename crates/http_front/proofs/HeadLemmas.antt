-- From the spans of a head to the head of the grammar that they cover.
use Rattle.std.proofs.Common.{◌≡◌, ℕ, ◌≤◌, Bool, List, length, map, drop, sym, ap, subst, ◌∙◌, arith, Result, Ok, codes}
use Rattle.std.proofs.lemmas.List.{length-map}
use Rattle.httparse.specs.Grammar.{RequestHead, ReadsRequest, Field}
use Rattle.httparse.specs.Spans.{IsRequestAt, header_bytes, name_and_value, span_bytes}
use Rattle.httparse.specs.declared.spans.HeaderSpan.{HeaderSpan}
use Rattle.httparse.specs.declared.spans.RequestSpans.{RequestSpans}
use Rattle.http_front.specs.Fields.{FieldList, found, values_of}
use Rattle.http_front.specs.RequestHead.{fields_of, judge, judged_by, closes_by, expects_by, expects_after, method_of}
use Rattle.http_front.specs.NextHead.{of_head, IsTokenIn, IsTagIn, IsNextIn}
use Rattle.http_front.specs.ParsedHead.{IsParsedBy}
use Rattle.http_front.specs.declared.head.Next.{Next}
use Rattle.http_front.specs.declared.head.Next.TheVariants as next

-- the spans have as many fields as the head
pub few_fields : (bytes : List ℕ) (headers : List HeaderSpan) (fields : List Field)
    → map (header_bytes bytes) headers ≡ map name_and_value fields → length headers ≤ 64 → length fields ≤ 64
few_fields bytes headers fields same few =
    let sizes : length headers ≡ length fields =
    sym (length-map headers (header_bytes bytes)) ∙ ap length same ∙ length-map fields name_and_value in
    omega (arith, sizes, few)

-- the spans are those of that head, and these are its fields
pub record IsTied (front : List ℕ) (spans : RequestSpans) (fields : FieldList) (request : RequestHead) : Type 0 where
  pub headers : List HeaderSpan
  pub at : IsRequestAt front headers spans request
  pub fields_are : fields ≡ fields_of request
  pub few : length request.fields ≤ 64

judge_is : (front : List ℕ) (spans : RequestSpans) (fields : FieldList) (request : RequestHead) → IsTied front spans fields request
    → judge request ≡ judged_by spans.version (span_bytes front spans.method) (span_bytes front spans.path) fields
judge_is front spans fields request tied =
    sym (λ i. judged_by (tied.at.version i) (tied.at.method i) (tied.at.path i) (tied.fields_are i))

-- what the spans make is what the head asks for
pub parsed_by_spans : (front : List ℕ) (full : Bool) (spans : RequestSpans) (fields : FieldList) (request : RequestHead) (parsed : Next)
    → IsTied front spans fields request → IsParsedBy front spans fields parsed → IsNextIn front full parsed
parsed_by_spans front full spans fields request next.Need tied is = absurd is
parsed_by_spans front full spans fields request (next.Head head) tied is =
    let at = tied.at in
    let accepted : judge request ≡ Ok head.body = judge_is front spans fields request tied ∙ is.body in (
      request,
      record {
        reads = subst (λ n. ReadsRequest front request (drop n front)) (sym is.used) at.reads;
        few = tied.few;
        used = is.used ∙ at.len;
        body = accepted;
        expects_is = is.expects_is ∙ (λ i. expects_by (at.version i) head.body (tied.fields_are i))
            ∙ ap (λ (j : Result ℕ ℕ). expects_after j request) (sym accepted);
        closes_is = is.closes_is ∙ (λ i. closes_by (at.version i) (tied.fields_are i));
        method = is.method ∙ ap method_of at.method;
        target = is.target ∙ at.path;
        token = subst (λ (fs : FieldList). IsTokenIn (found (values_of (codes "seafile-repo-token") fs)) head.token) tied.fields_are is.token;
        tag = subst (λ (fs : FieldList). IsTagIn (found (values_of (codes "if-none-match") fs)) head.tag) tied.fields_are is.tag;
      },
    )
parsed_by_spans front full spans fields request (next.Bad status) tied is =
    of_head request _ tied.at.reads tied.few (judge_is front spans fields request tied ∙ is)

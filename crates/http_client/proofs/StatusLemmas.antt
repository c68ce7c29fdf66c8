-- What the number and the fields of a reply's head tell. The key lemmas are right_by, wrong_number, wrong_size and
-- wrong_tag.
use Rattle.std.proofs.Common.{◌≡◌, ℕ, ◌==◌, Bool, true, false, if◌then◌else◌, Option, None, Some, codes, refl, sym, ap, subst, ◌∙◌}
use Rattle.std.proofs.lemmas.Bool.{eqb-true}
use Rattle.ids.proofs.BasicLemmas.{same_from_some}
use Rattle.library_state.specs.declared.tag.Tag.{Tag}
use Rattle.http_front.specs.Fields.{FieldList, found, values_of}
use Rattle.http_front.specs.NextHead.{IsTagIn}
use Rattle.http_front.specs.declared.order.What.{What}
use Rattle.http_front.specs.declared.status.Status.{Status}
use Rattle.http_front.specs.declared.status.Status.TheVariants.{Success, NotModified, BadRequest, Forbidden, NotFound, Conflict, ContentTooLarge, HeadTooLarge, TooLarge, Damaged, Incomplete, Spent, ServerError, NotImplemented, Unavailable}
use Rattle.http_client.specs.HeadReading.{status_of}
use Rattle.http_client.specs.ReplyHead.{HasTag, IsRightBy, IsTagged, IsWrongBy, size_due, status_number, tag_due}

pub status_of-number : (s : Status) → status_of (status_number s) ≡ Some s
unfolding status_of
status_of-number Success = refl
status_of-number NotModified = refl
status_of-number BadRequest = refl
status_of-number Forbidden = refl
status_of-number NotFound = refl
status_of-number Conflict = refl
status_of-number ContentTooLarge = refl
status_of-number HeadTooLarge = refl
status_of-number TooLarge = refl
status_of-number Damaged = refl
status_of-number Incomplete = refl
status_of-number Spent = refl
status_of-number ServerError = refl
status_of-number NotImplemented = refl
status_of-number Unavailable = refl

numbered : (code k : ℕ) (t : Status) (rest : Option Status) → status_number t ≡ k → ((s : Status) → rest ≡ Some s → status_number s ≡ code)
    → (s : Status) → (if code == k then Some t else rest) ≡ Some s → status_number s ≡ code
numbered code k t rest is others s e = by (code == k) refl e
  where
    by : (b : Bool) → (code == k) ≡ b → (if b then Some t else rest) ≡ Some s → status_number s ≡ code
    by true same e = ap status_number (sym (same_from_some t s e)) ∙ is ∙ sym (eqb-true code k same)
    by false same e = others s e

no_number : (code : ℕ) (s : Status) → None ≡ Some s → status_number s ≡ code
no_number code s e = absurd (cc)

pub status_of-is : (code : ℕ) (s : Status) → status_of code ≡ Some s → status_number s ≡ code
unfolding status_of
status_of-is code =
    numbered code 200 Success _ refl
    (numbered code 304 NotModified _ refl
    (numbered code 400 BadRequest _ refl
    (numbered code 403 Forbidden _ refl
    (numbered code 404 NotFound _ refl
    (numbered code 409 Conflict _ refl
    (numbered code 413 ContentTooLarge _ refl
    (numbered code 431 HeadTooLarge _ refl
    (numbered code 442 TooLarge _ refl
    (numbered code 445 Damaged _ refl
    (numbered code 446 Incomplete _ refl
    (numbered code 449 Spent _ refl
    (numbered code 500 ServerError _ refl
    (numbered code 501 NotImplemented _ refl
    (numbered code 503 Unavailable None refl (no_number code)))))))))))))))

module _ (order : What) (code : ℕ) (fields : FieldList) where
  -- a right head's number is that of its status
  pub of_right : (s : Status) (n : ℕ) → IsRightBy order code fields s n → status_of code ≡ Some s
  of_right s n right = ap status_of (sym right.status_is) ∙ status_of-number s

  pub wrong_number : status_of code ≡ None → IsWrongBy order code fields
  wrong_number none s n right = let bad : ◌≡◌ {A = Option Status} None (Some s) = sym none ∙ of_right s n right in absurd (cc)

  same_status : (s t : Status) (n : ℕ) → status_of code ≡ Some s → IsRightBy order code fields t n → t ≡ s
  same_status s t n is right = same_from_some t s (sym (of_right t n right) ∙ is)

  pub wrong_size : (s : Status) → status_of code ≡ Some s → size_due s (found (values_of (codes "content-length") fields)) ≡ None → IsWrongBy order code fields
  wrong_size s is none t n right =
      let same = ap (λ x. size_due x (found (values_of (codes "content-length") fields))) (same_status s t n is right) in
      let bad : ◌≡◌ {A = Option ℕ} None (Some n) = sym none ∙ sym same ∙ right.size_is in absurd (cc)

  pub wrong_tag : (s : Status) → status_of code ≡ Some s → (IsTagged (tag_due order s) fields → ⊥) → IsWrongBy order code fields
  wrong_tag s is none t n right = none (subst (λ x. IsTagged (tag_due order x) fields) (same_status s t n is right) right.tagged)

  pub right_by : (s : Status) (n : ℕ) → status_of code ≡ Some s → size_due s (found (values_of (codes "content-length") fields)) ≡ Some n
      → IsTagged (tag_due order s) fields → IsRightBy order code fields s n
  right_by s n is size tagged = record { status_is = status_of-is code s is; size_is = size; tagged = tagged }

-- ---- tags

module _ (fields : FieldList) (due : Bool) where
  pub tagged_if_none_due : due ≡ false → IsTagged due fields
  tagged_if_none_due is = subst (λ b. IsTagged b fields) (sym is) tt

  pub tagged_by : (tag : Tag) → due ≡ true → IsTagIn (found (values_of (codes "etag") fields)) (Some tag) → IsTagged due fields
  tagged_by tag is there = subst (λ b. IsTagged b fields) (sym is) (record { tag = tag; there = there })

  pub not_tagged : due ≡ true → IsTagIn (found (values_of (codes "etag") fields)) None → IsTagged due fields → ⊥
  not_tagged is none tagged =
      let has : HasTag fields = subst (λ b. IsTagged b fields) is tagged in
      none has.tag has.there.0 has.there.1

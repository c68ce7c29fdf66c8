-- What is told of a buffer by the head that was seen at its front, and where none was. The key lemmas are cut_by, whole_by,
-- bad_body_by, bad_head_by and inside_buffer, and open_by, bad_bytes_by and bad_length_by.
use Rattle.std.proofs.Common.{◌≡◌, ℕ, ◌+◌, ◌-◌, ◌<◌, ◌≤◌, List, length, take, drop, None, Some, refl, ap, subst, ◌∙◌, arith, length-take, length-drop}
use Rattle.httparse.specs.Grammar.{HasNoResponse, print_response, status_code}
use Rattle.http_front.specs.declared.order.What.{What}
use Rattle.http_front.specs.declared.outcome.Outcome.{Outcome}
use Rattle.http_front.specs.declared.status.Status.{Status}
use Rattle.http_client.specs.HeadReading.{IsJudgedBy, IsSeen}
use Rattle.http_client.specs.OutcomeReading.{IsOutcome}
use Rattle.http_client.specs.ReplyHead.{HasNoHead, MayBecomeHead, NeverHasHead, fields_of}
use Rattle.http_client.specs.Response.{HasHead, IsBad, IsCut, IsWhole, front_of}
use Rattle.http_client.specs.declared.reply_head.SeenHead.{SeenHead}

module _ (order : What) (buffer : List ℕ) (seen : SeenHead) (is : IsSeen order (front_of buffer) seen) where
  pub inside_buffer : seen.size ≤ length buffer
  inside_buffer = let inside = is.inside in omega (arith, inside, length-take 16384 buffer)

  -- a head that is not right
  pub bad_head_by : seen.told ≡ None → IsBad order buffer seen.size
  bad_head_by none =
      IsBad.in_head is.head is.rest is.at (subst (IsJudgedBy order (status_code is.head) (fields_of is.head)) none is.told) is.size

  module _ (status : Status) (size : ℕ) (told : seen.told ≡ Some (status, size)) where
    has : HasHead order buffer is.head status size
    has = record { rest = is.rest; at = is.at; right = subst (IsJudgedBy order (status_code is.head) (fields_of is.head)) told is.told }

    behind_is : (behind : List ℕ) → behind ≡ drop seen.size buffer → length behind ≡ length buffer - seen.size
    behind_is behind there = ap length there ∙ length-drop seen.size buffer

    pub cut_by : (behind : List ℕ) → behind ≡ drop seen.size buffer → length behind < size → IsCut order buffer
    cut_by behind there less =
        let whole = behind_is behind there in
        let inside = inside_buffer in
        let same = is.size in
        IsCut.in_body is.head status size has (omega (arith, whole, inside, same, less))

    body_is : (behind body : List ℕ) → behind ≡ drop seen.size buffer → body ≡ take size behind → body ≡ take size (drop (length (print_response is.head)) buffer)
    body_is behind body there front = front ∙ ap (take size) (there ∙ ap (λ n. drop n buffer) is.size)

    module _ (behind body : List ℕ) (there : behind ≡ drop seen.size buffer) (front : body ≡ take size behind) (fits : size ≤ length behind) where
      pub whole_by : (outcome : Outcome) → IsOutcome order status seen.tag body (Some outcome) → IsWhole order buffer outcome (seen.size + size) seen.closes
      whole_by outcome tells =
          let whole = behind_is behind there in
          let inside = inside_buffer in
          record {
            head = is.head;
            status = status;
            size = size;
            has = has;
            used_is = ap (λ n. n + size) is.size;
            there = omega (arith, whole, inside, fits);
            tag = seen.tag;
            tag_is = is.tag_is;
            outcome_is = subst (λ b. IsOutcome order status seen.tag b (Some outcome)) (body_is behind body there front) tells;
            ends_is = is.closes_is;
          }

      pub bad_body_by : IsOutcome order status seen.tag body None → IsBad order buffer seen.size
      bad_body_by tells =
          let whole = behind_is behind there in
          let inside = inside_buffer in
          let same = is.size in
          IsBad.in_body is.head status size seen.tag has is.tag_is (omega (arith, whole, inside, same, fits))
          (subst (λ b. IsOutcome order status seen.tag b None) (body_is behind body there front) tells) is.size

-- where no head was seen
module _ (order : What) (buffer front : List ℕ) (is : front ≡ front_of buffer) where
  pub cut_head_by : length buffer < 16384 → HasNoResponse front → MayBecomeHead front → IsCut order buffer
  cut_head_by less none may = IsCut.in_head less (record { none = subst HasNoResponse is none; may = subst MayBecomeHead is may })

  pub bad_length_by : 16384 ≤ length buffer → HasNoResponse front → MayBecomeHead front → IsBad order buffer 16384
  bad_length_by full none may = IsBad.in_length refl full (record { none = subst HasNoResponse is none; may = subst MayBecomeHead is may })

  pub bad_bytes_by : (at : ℕ) → HasNoHead front → at < length front → MayBecomeHead (take at front) → NeverHasHead (take (at + 1) front) → IsBad order buffer at
  bad_bytes_by at none inside may never =
      IsBad.in_bytes (subst HasNoHead is none) (subst (λ f. at < length f) is inside) (subst (λ f. MayBecomeHead (take at f)) is may)
      (subst (λ f. NeverHasHead (take (at + 1) f)) is never)

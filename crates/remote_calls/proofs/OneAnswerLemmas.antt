-- Some bytes spell one answer to an order. The key lemma is one_answer.
use Rattle.std.proofs.Common.{◌≡◌, ℕ, ◌⊎◌, inl, inr, List, Ok, Err, sym, ap, ◌∙◌}
use Rattle.http_front.specs.declared.order.What.{What}
use Rattle.http_client.specs.Response.{IsResponse, NeedsManyFields}
use Rattle.http_client.specs.declared.response.Response.{Response}
use Rattle.http_client.specs.declared.response.Response.TheVariants.{Need, Whole, Bad}
use Rattle.http_client.proofs.OneReplyLemmas.{one_reply}
use Rattle.remote_calls.specs.Exchange.{IsOfBytes, Spells}
use Rattle.remote_calls.specs.Sends.{Ending}
use Rattle.remote_calls.specs.declared.error.RemoteFault.TheVariants as fault

module _ (what : What) (input : List ℕ) where
  -- two readings of the bytes are the same, and so is what follows from them
  by_one : (r s : Response) (a b : Ending) → IsResponse what input r → IsResponse what input s → (r ≡ s → a ≡ b) → (a ≡ b) ⊎ NeedsManyFields input
  by_one r s a b is also same =
      elim (one_reply what input r s is also) [
        | inl e ↦ inl (same e)
        | inr many ↦ inr many
      ]

  pub one_answer : (a b : Ending) → IsOfBytes a → IsOfBytes b → Spells what input a → Spells what input b → (a ≡ b) ⊎ NeedsManyFields input
  one_answer (Ok o) (Ok other) x y is also =
      by_one (Whole o is.0 is.1) (Whole other also.0 also.1) (Ok o) (Ok other) is.2 also.2 (λ e. let same : o ≡ other = cc in ap Ok same)
  one_answer (Ok o) (Err (fault.BadReply at)) x y is also =
      by_one (Whole o is.0 is.1) (Bad at) (Ok o) (Err (fault.BadReply at)) is.2 also (λ e. absurd (cc))
  one_answer (Ok o) (Err (fault.Cut size)) x y is also =
      by_one (Whole o is.0 is.1) Need (Ok o) (Err (fault.Cut size)) is.2 also.1 (λ e. absurd (cc))
  one_answer (Ok o) (Err other) x y is also = absurd y
  one_answer (Err (fault.BadReply at)) (Ok other) x y is also =
      by_one (Bad at) (Whole other also.0 also.1) (Err (fault.BadReply at)) (Ok other) is also.2 (λ e. absurd (cc))
  one_answer (Err (fault.BadReply at)) (Err (fault.BadReply place)) x y is also =
      by_one (Bad at) (Bad place) (Err (fault.BadReply at)) (Err (fault.BadReply place)) is also
      (λ e. let same : at ≡ place = cc in ap (λ (n : ℕ). Err (fault.BadReply n)) same)
  one_answer (Err (fault.BadReply at)) (Err (fault.Cut size)) x y is also =
      by_one (Bad at) Need (Err (fault.BadReply at)) (Err (fault.Cut size)) is also.1 (λ e. absurd (cc))
  one_answer (Err (fault.BadReply at)) (Err other) x y is also = absurd y
  one_answer (Err (fault.Cut size)) (Ok other) x y is also =
      by_one Need (Whole other also.0 also.1) (Err (fault.Cut size)) (Ok other) is.1 also.2 (λ e. absurd (cc))
  one_answer (Err (fault.Cut size)) (Err (fault.BadReply at)) x y is also =
      by_one Need (Bad at) (Err (fault.Cut size)) (Err (fault.BadReply at)) is.1 also (λ e. absurd (cc))
  one_answer (Err (fault.Cut size)) (Err (fault.Cut other)) x y is also = inl (ap (λ (n : ℕ). Err (fault.Cut n)) (is.0 ∙ sym also.0))
  one_answer (Err (fault.Cut size)) (Err other) x y is also = absurd y
  one_answer (Err other) b x y is also = absurd x

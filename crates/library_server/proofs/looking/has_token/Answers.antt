-- The first token that has the secret may ask for the head, as each may.
use Rattle.std.proofs.Common.{◌≡◌, ℕ, take, refl, ap, sym, ◌∙◌, subst, arith, Option, None, Some}
use Rattle.std.specs.Str.{bytes_eq}
use Rattle.depot.specs.Answering.{permits}
use Rattle.library_rules.specs.Calls.{token_of}
use Rattle.library_state.specs.declared.call.Act.TheVariants as act
use Rattle.library_state.specs.declared.token.Token.{Token}
use Rattle.library_server.proofs.LookingLemmas.{found_there, head_permitted, none_at, none_there, not_yet, shown_at}
use Rattle.library_server.proofs.looking.has_token.Goals as goal

pub loop-place-init : goal.loop-place-init
loop-place-init g c = refl

pub loop-place-preserved : goal.loop-place-preserved
loop-place-preserved g c =
    let tokens = c.args.depot.now.state.tokens in
    let at = shown_at tokens c.loop-place.place _ c.in-Some.ensures.value in
    not_yet tokens c.loop-place.place at.0 c.args.secret.now at.1 (ap (bytes_eq c.args.secret.now) at.2 ∙ (sym c.is.ensures.value ∙ c.if-is.false)) c.loop-place.invariant

pub returns-in-None : goal.returns-in-None
returns-in-None g c = record {
  value = sym (ap (λ (o : Option Token). permits o act.Head)
      (none_there c.args.depot.now.state.tokens c.loop-place.place 1000 c.args.secret.now (none_at c.args.depot.now.state.tokens c.loop-place.place c.in-None.ensures.value) (omega arith) c.loop-place.invariant));
}

pub returns-then-is : goal.returns-then-is
returns-then-is g c =
    let tokens = c.args.depot.now.state.tokens in
    let at = shown_at tokens c.loop-place.place _ c.in-Some.ensures.value in
    record {
      value = sym (ap (λ (o : Option Token). permits o act.Head)
          (found_there tokens c.loop-place.place 1000 at.0 c.args.secret.now at.1 (ap (bytes_eq c.args.secret.now) at.2 ∙ (sym c.is.ensures.value ∙ c.if-is.true)) (omega arith) c.loop-place.invariant)
          ∙ head_permitted at.0);
    }

pub returns : goal.returns
returns g c =
    let all : c.loop-place.place ≡ 1000 = omega arith in
    record {
      value = sym (ap (λ (o : Option Token). permits o act.Head)
          (subst (λ (n : ℕ). token_of (take n c.args.depot.now.state.tokens) (Some c.args.secret.now) ≡ None) all c.loop-place.invariant));
    }

-- An object is what its members are, and every other value is emptied.
use Rattle.std.proofs.Common.{◌≡◌, ℕ, ◌-◌, ◌<◌, ◌≤◌, List, ◌∷◌, length, map, Result, Ok, Err, IfOk, OnOk, sym, ap, ◌∙◌, arith}
use Rattle.json.specs.Token.{Token}
use Rattle.json.specs.Reads.{token_of}
use Rattle.serde_json.specs.Data.{Data, object}
use Rattle.serde_json.specs.View.{view}
use Rattle.serde_json.specs.declared.value.Value.{Value}
use Rattle.serde_json.proofs.Views.{view-Object}
use Rattle.json_tokens.specs.Kept.{emptied, kept}
use Rattle.json_tokens.specs.Front.{FrontIs, NoFront, NoMembers}
use Rattle.json_words.specs.declared.answer.ReadFault.{ReadFault}
use Rattle.json_words.specs.declared.answer.NotJson.{NotJson}
use Rattle.json.specs.declared.token.Token as kit
use Rattle.json.specs.declared.token.Token.TheVariants.{BeginObject}
use Rattle.json_words.proofs.AnswerLemmas.{OnBad-handed_on}
use Rattle.json_tokens.proofs.FrontLemmas.{FrontIs-object, NoFront-object, NoFront-too_deep_object, NoFront-end}
use Rattle.json_tokens.proofs.KeptLemmas.{kept-emptied}
use Rattle.json_tokens.proofs.kept.kept_value.Goals as goal

module _ (depth : ℕ) (first : kit.Token) (rest new : List Token) (result : Result Value (ReadFault NotJson)) where
  as_kept : (known : List (List ℕ)) → (first ≡ BeginObject → ⊥) → IfOk result (λ v. (d : Data) × FrontIs depth (token_of first ∷ rest) d new × (view v ≡ emptied d))
      → IfOk result (λ v. (d : Data) × FrontIs depth (token_of first ∷ rest) d new × (view v ≡ kept known d))
  as_kept = elim result as (λ r. (known : List (List ℕ)) → (first ≡ BeginObject → ⊥) → IfOk r (λ v. (d : Data) × FrontIs depth (token_of first ∷ rest) d new × (view v ≡ emptied d))
      → IfOk r (λ v. (d : Data) × FrontIs depth (token_of first ∷ rest) d new × (view v ≡ kept known d))) [
        | Ok v ↦ λ known apart is. (is.0, is.1, is.2 ∙ sym (kept-emptied known is.0 new depth first rest apart is.1))
        | Err fault ↦ λ known apart is. tt
      ]

  one_less : OnOk result (length new ≤ length rest) → OnOk result (length new < length (token_of first ∷ rest))
  one_less = elim result as (λ r. OnOk r (length new ≤ length rest) → OnOk r (length new < length (token_of first ∷ rest))) [ Ok v ↦ λ less. omega arith | Err fault ↦ λ less. tt ]

pub returns-then-depth-eq0-clause-err : goal.returns-then-depth-eq0-clause-err
returns-then-depth-eq0-clause-err c =
    let first : c.args.reader.now ≡ Token.begin_object ∷ c.next.new.self = c.in-Some.ensures.value ∙ ap (λ t. token_of t ∷ c.next.new.self) c.in-BeginObject.is in
    rw first (NoFront-too_deep_object c.args.depth c.next.new.self (omega arith))

pub returns-in_ok-kept_members-in-BeginObject-clause-ok : goal.returns-in_ok-kept_members-in-BeginObject-clause-ok
returns-in_ok-kept_members-in-BeginObject-clause-ok c =
    let first : c.args.reader.now ≡ Token.begin_object ∷ c.next.new.self = c.in-Some.ensures.value ∙ ap (λ t. token_of t ∷ c.next.new.self) c.in-BeginObject.is in
    let found = c.in_ok-kept_members-in-BeginObject in
    let ms = found.ensures.ok.0 in
    (object ms, rw first (FrontIs-object c.args.depth c.next.new.self ms c.kept_members.new.reader (omega arith) found.ensures.ok.1), view-Object found.field-0 ∙ ap object found.ensures.ok.2)

pub returns-in_err-kept_members-in-BeginObject-clause-err : goal.returns-in_err-kept_members-in-BeginObject-clause-err
returns-in_err-kept_members-in-BeginObject-clause-err c =
    let first : c.args.reader.now ≡ Token.begin_object ∷ c.next.new.self = c.in-Some.ensures.value ∙ ap (λ t. token_of t ∷ c.next.new.self) c.in-BeginObject.is in
    let spoils : NoMembers (c.args.depth - 1) c.next.new.self → NoFront c.args.depth c.args.reader.now = λ none. rw first (NoFront-object c.args.depth c.next.new.self (omega arith) none) in
    OnBad-handed_on c.in_err-kept_members-in-BeginObject.field-0.0 c.from_residual.result c.from_residual.ensures.1 spoils c.in_err-kept_members-in-BeginObject.ensures.err

pub returns-in_default-clause-err : goal.returns-in_default-clause-err
returns-in_default-clause-err c = rw c.in_default.ensures.value.0 (NoFront-end c.args.depth)

pub returns-in_default-first : goal.returns-in_default-first
returns-in_default-first c =
    let first = c.in-Some.first in
    let is : c.args.reader.now ≡ token_of first ∷ c.next.new.self = c.in-Some.ensures.value in
    let names = map (λ key. key.now) c.args.known.now in
    let read = c.emptied_from in
    record {
      ok = rw is (as_kept c.args.depth first c.next.new.self read.new.reader read.result names c.in_default-first.not-BeginObject read.ensures.ok);
      shorter = rw is (one_less c.args.depth first c.next.new.self read.new.reader read.result read.ensures.shorter);
      err = rw is read.ensures.err;
    }

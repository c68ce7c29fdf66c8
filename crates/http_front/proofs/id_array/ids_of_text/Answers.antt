-- The text has ids exactly where its array is read and nothing is behind it.
use Rattle.std.proofs.Common.{◌≡◌, ◌∷◌, sym, ◌∙◌}
use Rattle.std.proofs.lemmas.Bool.{MatchBool-at_true, MatchBool-at_false}
use Rattle.json.specs.Lex.{tokens}
use Rattle.json.specs.Token.{Token}
use Rattle.http_front.proofs.IdArrayLemmas.{no_array_read, ids_spoiled, ids_whole, ids_refused}
use Rattle.http_front.proofs.id_array.ids_of_text.Goals as goal

pub returns-then-not-opens_array : goal.returns-then-not-opens_array
returns-then-not-opens_array c = record {
  value = no_array_read c.args.text.now (rw (← c.in_ok-reader.ensures.ok) (MatchBool-at_false _ _ c.if-not-opens_array.true c.opens_array.ensures.value));
}

pub returns-in_default : goal.returns-in_default
returns-in_default c =
    let opened : tokens c.args.text.now ≡ Token.begin_array ∷ c.opens_array.new.reader = sym c.in_ok-reader.ensures.ok ∙ MatchBool-at_true _ _ c.if-not-opens_array.false c.opens_array.ensures.value in
    record { value = ids_refused c.args.text.now c.opens_array.new.reader opened (rw c.in_default.is at c.in_ok-ids.ensures.absent) }

pub returns-then-is_some : goal.returns-then-is_some
returns-then-is_some c =
    let opened : tokens c.args.text.now ≡ Token.begin_array ∷ c.opens_array.new.reader = sym c.in_ok-reader.ensures.ok ∙ MatchBool-at_true _ _ c.if-not-opens_array.false c.opens_array.ensures.value in
    let found = rw c.in-Some.is at c.in_ok-ids.ensures.found in
    record {
      value = ids_spoiled c.args.text.now c.opens_array.new.reader opened found.0 c.ids_behind.new.reader c.next.new.self c.next.result c.next.ensures.value (sym c.is_some.ensures ∙ c.if-is_some.true) found.1;
    }

pub returns : goal.returns
returns c =
    let opened : tokens c.args.text.now ≡ Token.begin_array ∷ c.opens_array.new.reader = sym c.in_ok-reader.ensures.ok ∙ MatchBool-at_true _ _ c.if-not-opens_array.false c.opens_array.ensures.value in
    let found = rw c.in-Some.is at c.in_ok-ids.ensures.found in
    record {
      value = ids_whole c.args.text.now c.opens_array.new.reader opened found.0 c.in-Some.ids c.ids_behind.new.reader c.next.new.self c.next.result c.next.ensures.value (sym c.is_some.ensures ∙ c.if-is_some.false) found.1 found.2;
    }

-- Each id joins those so far, and an item that is no id settles the answer.
use Rattle.std.proofs.Common.{◌≡◌, List, ℕ, Option, Some, None, Err, sym, ap, ◌∙◌, arith}
use Rattle.json.specs.Token.{Token}
use Rattle.json.specs.Json.{after_end_array}
use Rattle.serde_json.specs.Data.{Data}
use Rattle.json_words.specs.Check.{each, ok_or}
use Rattle.json_words.specs.IdText.{id_in}
use Rattle.json_words.proofs.EachLemmas.{each_after, each_after-start, each_after-end, each_after-ok, each_after-err}
use Rattle.json_tokens.specs.Front.{FrontIs}
use Rattle.json_tokens.proofs.RestLemmas.{Reads-start, Reads-more, Reads-end, Reads-settled}
use Rattle.http_front.specs.IdArray.{id_at}
use Rattle.http_front.proofs.id_array.ids_behind.Goals as goal

id_is : (d : Data) (o : Option (List ℕ)) → id_in d ≡ o → id_at d ≡ ok_or o 0
id_is d o is = ap (λ o. ok_or o 0) is

pub items-init : goal.items-init
items-init c = Reads-start (each id_at) 126 c.args.reader.now (each_after id_at c.new-ids.result)
    (λ ds. sym (each_after-start id_at ds) ∙ ap (λ done. each_after id_at done ds) (sym c.new-ids.ensures.value))

pub items-preserved : goal.items-preserved
items-preserved c =
    let l = c.items in
    let id = c.in-Some.id in
    let is = c.in-Some.ensures.found in
    let going : (after_end_array l.reader ≡ None) × (c.take_end_array.new.self ≡ l.reader) = grind arith in
    Reads-more (each id_at) 126 c.args.reader.now (each_after id_at l.ids) l.reader l.invariant is.0 c.next_id.new.reader (each_after id_at c.push.new.self)
    going.0 (rw (← going.1) is.1) (rw (← going.1) c.in-Some.ensures.shorter)
    (λ ds. each_after-ok id_at l.ids is.0 ds id (id_is is.0 (Some id) is.2) ∙ ap (λ all. each_after id_at all ds) (sym c.in_ok-push-in-Some.ensures.ok))

pub returns-in-None-clause-absent : goal.returns-in-None-clause-absent
returns-in-None-clause-absent c = λ ds rest are.
    let l = c.items in
    let going : (after_end_array l.reader ≡ None) × (c.take_end_array.new.self ≡ l.reader) = grind arith in
    let none : (d : Data) (behind : List Token) → FrontIs 126 l.reader d behind → id_in d ≡ None =
    λ d behind front. c.in-None.ensures.absent d behind (rw going.1 front) in
    Reads-settled (each id_at) 126 c.args.reader.now (each_after id_at l.ids) l.reader l.invariant (Err 0) going.0
    (λ d behind front ds. each_after-err id_at l.ids d ds 0 (id_is d None (none d behind front))) ds rest are

pub returns-clause-found : goal.returns-clause-found
returns-clause-found c =
    let l = c.items in
    let closes : after_end_array l.reader ≡ Some c.take_end_array.new.self = grind arith in
    let all = Reads-end (each id_at) 126 c.args.reader.now (each_after id_at l.ids) l.reader l.invariant c.take_end_array.new.self closes in
    (all.0, all.1, sym all.2 ∙ each_after-end id_at l.ids)

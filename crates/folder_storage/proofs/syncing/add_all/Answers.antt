use Rattle.std.proofs.Common.{◌≡◌, ◌+◌, ◌++◌, [], ◌∷◌, take, ap, sym, ◌∙◌, subst, arith}
use Rattle.std.proofs.lemmas.List.{take_all, take_more}
use Rattle.folder_storage.specs.Durability.{In}
use Rattle.folder_storage.proofs.DurabilityLemmas.{among-more}
use Rattle.folder_storage.proofs.syncing.add_all.Goals as goal

pub loop-key-init : goal.loop-key-init
loop-key-init c = ((λ key is. is), (λ key is. absurd is))

pub returns-in_err-note-clause-listed : goal.returns-in_err-note-clause-listed
returns-in_err-note-clause-listed c key is = c.note.ensures.listed key (c.loop-key.invariant.0 key is)

pub loop-key-preserved : goal.loop-key-preserved
loop-key-preserved c =
    let more = c.args.more.now in
    let place = c.loop-key.key-index in
    let item = c.key-item.result in
    let one : take (place + 1) more ≡ take place more ++ item ∷ [] = take_more more place item c.loop-key-test.true ∙ ap (λ y. take place more ++ y ∷ []) (sym c.key-item.is) in (
      (λ key is. c.note.ensures.listed key (c.loop-key.invariant.0 key is)),
      among-more (take place more) (take (place + 1) more) c.loop-key.keys.items c.note.new.keys.items item one c.loop-key.invariant.1 c.note.ensures.listed c.in_ok-note.ensures.found,
    )

pub returns-clause-listed : goal.returns-clause-listed
returns-clause-listed c = c.loop-key.invariant.0

pub returns-clause-found : goal.returns-clause-found
returns-clause-found c key is = c.loop-key.invariant.1 key (subst (In key) (sym (take_all c.loop-key.key-index c.args.more.now (omega (arith, c.loop-key-test.false)))) is)

-- Each block joins those so far, and behind a fault the items are passed over.
use Rattle.std.proofs.Common.{◌≡◌, ◌≢◌, ◌<◌, All, List, ℕ, Option, Some, None, Err, length, arith, sym, ap, subst, ◌∙◌}
use Rattle.std.proofs.lemmas.List.Elements.{All-push}
use Rattle.ids.specs.ObjectId.{nil}
use Rattle.json.specs.Token.{Token}
use Rattle.json.specs.Json.{after_end_array}
use Rattle.serde_json.specs.Data.{Data}
use Rattle.json_words.specs.Check.{each, ok_or}
use Rattle.json_tokens.specs.Front.{FrontIs, NoFront, NoItems}
use Rattle.json_words.specs.IdText.{stored_id_in}
use Rattle.json_words.proofs.AnswerLemmas.{OnBad-always, OnBad-handed_on}
use Rattle.json_words.proofs.EachLemmas.{each_after, each_after-start, each_after-end, each_after-ok, each_after-err}
use Rattle.fs_objects.specs.File.{block_of}
use Rattle.fs_objects.specs.declared.fault.BadFs.TheVariants.{WrongType}
use Rattle.fs_objects.specs.declared.fault.FsKey.TheVariants.{KBlockIds}
use Rattle.json_tokens.proofs.RestLemmas.{Reads, Reads-start, Reads-more, Reads-bad, Reads-end, Reads-rest, Reads-none}
use Rattle.fs_objects.proofs.file_reading.blocks_behind.Goals as goal

block_is : (d : Data) (found : Option (List ℕ)) → found ≡ stored_id_in d → block_of d ≡ ok_or found (WrongType KBlockIds)
block_is d found is = ap (λ o. ok_or o (WrongType KBlockIds)) (sym is)

-- behind an item that is no block's id, that is the answer
refused : (depth : ℕ) (start now rest : List Token) (done : List (List ℕ)) (d : Data) (found : Option (List ℕ)) → Reads (each block_of) (each_after block_of done) depth start now
    → after_end_array now ≡ None → FrontIs depth now d rest → length rest < length now → found ≡ stored_id_in d → found ≡ None → Reads (each block_of) (λ ds. Err (WrongType KBlockIds)) depth start rest
refused depth start now rest done d found reads going is shorter read none =
    Reads-more (each block_of) depth start (each_after block_of done) now reads d rest (λ ds. Err (WrongType KBlockIds)) going is shorter
    (λ ds. each_after-err block_of done d ds (WrongType KBlockIds) (block_is d found read ∙ ap (λ o. ok_or o (WrongType KBlockIds)) none))

pub items-init : goal.items-init
items-init c = record {
  reads = Reads-start (each block_of) c.args.depth c.args.reader.now (each_after block_of c.new-blocks.result)
      (λ ds. sym (each_after-start block_of ds) ∙ ap (λ done. each_after block_of done ds) (sym c.new-blocks.ensures.value));
  proper = rw c.new-blocks.ensures.value (λ k d below. absurd (omega arith));
}

pub returns-in_err-id-clause-err : goal.returns-in_err-id-clause-err
returns-in_err-id-clause-err c =
    let l = c.items in
    let going : (after_end_array l.reader ≡ None) × (c.take_end_array.new.self ≡ l.reader) = grind arith in
    let spoils : NoFront c.args.depth c.take_end_array.new.self → NoItems c.args.depth c.args.reader.now =
    λ none. Reads-bad (each block_of) c.args.depth c.args.reader.now (each_after block_of l.blocks) l.reader l.invariant.reads going.0 (rw (← going.1) none) in
    OnBad-handed_on c.in_err-id.field-0.0 c.from_residual.result c.from_residual.ensures.1 spoils c.in_err-id.ensures.err

pub items-preserved : goal.items-preserved
items-preserved c =
    let l = c.items in
    let id = c.in-Some.id in
    let is = c.in_ok-id.ensures.ok in
    let going : (after_end_array l.reader ≡ None) × (c.take_end_array.new.self ≡ l.reader) = grind arith in
    let passes = block_is is.0 c.in_ok-id.field-0 is.2 ∙ ap (λ o. ok_or o (WrongType KBlockIds)) c.in-Some.is in
    let other : id ≢ nil = rw c.in-Some.is at c.in_ok-id.ensures.not_zeros in
    record {
      reads = Reads-more (each block_of) c.args.depth c.args.reader.now (each_after block_of l.blocks) l.reader l.invariant.reads is.0 c.next_block.new.reader (each_after block_of c.push.new.self)
          going.0 (rw (← going.1) is.1) (rw (← going.1) c.in_ok-id.ensures.shorter)
          (λ ds. each_after-ok block_of l.blocks is.0 ds id passes ∙ ap (λ all. each_after block_of all ds) (sym c.in_ok-push-in-Some.ensures.ok));
      proper = let P : List (List ℕ) → Type 0 = λ ids. All (λ i. i ≢ nil) ids in
          subst P (sym c.in_ok-push-in-Some.ensures.ok) (All-push (λ i. i ≢ nil) l.blocks id l.invariant.proper other);
    }

pub returns-in_err-pass_items-in-None-clause-err : goal.returns-in_err-pass_items-in-None-clause-err
returns-in_err-pass_items-in-None-clause-err c =
    let l = c.items in
    let is = c.in_ok-id.ensures.ok in
    let going : (after_end_array l.reader ≡ None) × (c.take_end_array.new.self ≡ l.reader) = grind arith in
    let reads = refused c.args.depth c.args.reader.now l.reader c.next_block.new.reader l.blocks is.0 c.in_ok-id.field-0 l.invariant.reads going.0 (rw (← going.1) is.1) (rw (← going.1) c.in_ok-id.ensures.shorter) is.2 c.in-None.is in
    OnBad-always c.from_residual-in_err-pass_items-in-None.result
    (Reads-none (each block_of) c.args.depth c.args.reader.now (λ ds. Err (WrongType KBlockIds)) c.next_block.new.reader reads c.in_err-pass_items-in-None.ensures.err)

pub returns-in-None-clause-ok : goal.returns-in-None-clause-ok
returns-in-None-clause-ok c =
    let l = c.items in
    let is = c.in_ok-id.ensures.ok in
    let going : (after_end_array l.reader ≡ None) × (c.take_end_array.new.self ≡ l.reader) = grind arith in
    let reads = refused c.args.depth c.args.reader.now l.reader c.next_block.new.reader l.blocks is.0 c.in_ok-id.field-0 l.invariant.reads going.0 (rw (← going.1) is.1) (rw (← going.1) c.in_ok-id.ensures.shorter) is.2 c.in-None.is in
    let are = c.in_ok-pass_items-in-None.ensures.ok in
    Reads-rest (each block_of) c.args.depth c.args.reader.now (λ ds. Err (WrongType KBlockIds)) c.next_block.new.reader reads are.0 c.pass_items.new.reader are.1

pub returns-clause-ok : goal.returns-clause-ok
returns-clause-ok c =
    let l = c.items in
    let closes : after_end_array l.reader ≡ Some c.take_end_array.new.self = grind arith in
    let all = Reads-end (each block_of) c.args.depth c.args.reader.now (each_after block_of l.blocks) l.reader l.invariant.reads c.take_end_array.new.self closes in
    (all.0, all.1, sym (each_after-end block_of l.blocks) ∙ all.2)

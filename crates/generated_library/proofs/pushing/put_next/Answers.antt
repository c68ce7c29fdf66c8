-- The entry is that of the file that was put.
use Rattle.std.proofs.Common.{◌≡◌, ◌∙◌, ap₂, Bool, List, ℕ, length, rules}
use Rattle.generated_library.specs.Filled.{marked, pushed_bytes}
use Rattle.generated_library.specs.Generated.{file_bytes}
use Rattle.generated_library.proofs.FillLemmas.{entry_put}
use Rattle.generated_library.proofs.StoppingLemmas.{stopped, wants_memory}
use Rattle.generated_library.proofs.pushing.put_next.Goals as goal

pub returns-clause-entries : goal.returns-clause-entries
returns-clause-entries g c =
    let sized : c.len-size.result ≡ length c.mark.new.bytes.items = search rules in
    let is : c.mark.new.bytes.items ≡ pushed_bytes c.args.round.is_second c.args.number (file_bytes c.args.numbers.now.now) =
    c.in_ok-mark.ensures.ok ∙ ap₂ (λ (b : Bool) (bytes : List ℕ). marked b bytes) c.is_marked-is_changed.ensures.value c.in_ok-bytes.ensures.value in
    entry_put c.args.asker.now.moment c.args.number c.len-size.result c.in_ok-id.id c.mark.new.bytes.items (pushed_bytes c.args.round.is_second c.args.number (file_bytes c.args.numbers.now.now)) c.args.entries.now c.add_file.new.entries
    c.in_ok-id.ensures.value sized is c.in_ok-add_file.ensures.ok

pub returns-in_err-bytes-clause-stops : goal.returns-in_err-bytes-clause-stops
returns-in_err-bytes-clause-stops g c = wants_memory g.S.Shelf.contents g.S.Shelf.may_give g.S.Shelf.texts g.S.Shelf.faults c.args.asker.now.lib c.args.asker.now.secret c.args.asker.now.moment c.args.pass.now c.from_residual.result c.from_residual.ensures.1

pub returns-in_err-mark-clause-stops : goal.returns-in_err-mark-clause-stops
returns-in_err-mark-clause-stops g c = wants_memory g.S.Shelf.contents g.S.Shelf.may_give g.S.Shelf.texts g.S.Shelf.faults c.args.asker.now.lib c.args.asker.now.secret c.args.asker.now.moment c.args.pass.now c.from_residual-in_err-mark.result c.from_residual-in_err-mark.ensures.1

pub returns-in_err-id-clause-stops : goal.returns-in_err-id-clause-stops
returns-in_err-id-clause-stops g c =
    stopped g.S.Shelf.contents g.S.Shelf.may_give g.S.Shelf.texts g.S.Shelf.faults c.args.asker.now.lib c.args.asker.now.secret c.args.asker.now.moment c.put_file.new.pass c.in_err-id.field-0.0 c.from_residual-in_err-id.result c.from_residual-in_err-id.ensures.1 c.in_err-id.ensures.stops

pub returns-in_err-add_file-clause-stops : goal.returns-in_err-add_file-clause-stops
returns-in_err-add_file-clause-stops g c = wants_memory g.S.Shelf.contents g.S.Shelf.may_give g.S.Shelf.texts g.S.Shelf.faults c.args.asker.now.lib c.args.asker.now.secret c.args.asker.now.moment c.put_file.new.pass c.from_residual-in_err-add_file.result c.from_residual-in_err-add_file.ensures.1

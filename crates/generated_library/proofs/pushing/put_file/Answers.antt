-- A file that is new is put, under the name of its object.
use Rattle.std.proofs.Common.{◌≡◌, ◌≢◌, ap, ◌∙◌, refl, subst, ℕ, List, Ok}
use Rattle.fs_objects.specs.FsObject.{fs_of}
use Rattle.fs_objects.specs.declared.fs_object.FsObject.TheVariants as fs
use Rattle.ids.specs.ObjectId.{nil}
use Rattle.generated_library.specs.Filled.{file_object, file_text}
use Rattle.sha1.specs.Sha1.{sha1}
use Rattle.sync_calls.specs.Hall.{shown_by}
use Rattle.generated_library.proofs.LedLemmas.{file_led, unput_led}
use Rattle.generated_library.proofs.StoppingLemmas.{stopped, wants_memory}
use Rattle.generated_library.proofs.pushing.put_file.Goals as goal

pub returns-then-not-is_new-clause-leads : goal.returns-then-not-is_new-clause-leads
returns-then-not-is_new-clause-leads g c =
    unput_led g.S.Shelf.contents g.S.Shelf.may_give g.S.Shelf.texts g.S.Shelf.faults (shown_by c.args.pass.now) (shown_by c.args.pass.now) c.args.is_new c.args.bytes.items c.if-not-is_new.true refl

pub returns-clause-leads : goal.returns-clause-leads
returns-clause-leads g c =
    file_led g.S.Shelf.contents g.S.Shelf.may_give g.S.Shelf.texts g.S.Shelf.faults (shown_by c.args.pass.now) (shown_by c.put_both.new.pass) c.args.is_new c.args.bytes.items c.in_ok-text.text
    (c.in_ok-text.ensures.value ∙ ap file_text c.as_slice.ensures.value)
    (subst (λ (b : List ℕ). sha1 b ≢ nil → fs_of (file_text b) ≡ Ok (fs.File (file_object b))) c.as_slice.ensures.value c.in_ok-text.ensures.reads) c.in_ok-put_both.ensures.leads

pub returns-in_err-text-clause-stops : goal.returns-in_err-text-clause-stops
returns-in_err-text-clause-stops g c = wants_memory g.S.Shelf.contents g.S.Shelf.may_give g.S.Shelf.texts g.S.Shelf.faults c.args.asker.now.lib c.args.asker.now.secret c.args.asker.now.moment c.args.pass.now c.from_residual.result c.from_residual.ensures.1

pub returns-in_err-put_both-clause-stops : goal.returns-in_err-put_both-clause-stops
returns-in_err-put_both-clause-stops g c =
    stopped g.S.Shelf.contents g.S.Shelf.may_give g.S.Shelf.texts g.S.Shelf.faults c.args.asker.now.lib c.args.asker.now.secret c.args.asker.now.moment c.put_both.new.pass c.in_err-put_both.field-0.0 c.from_residual-in_err-put_both.result c.from_residual-in_err-put_both.ensures.1 c.in_err-put_both.ensures.stops

-- One file more is stored, with its entries.
use Rattle.std.proofs.Common.{◌≡◌, ◌≤◌, ◌+◌, ◌-◌, ◌∙◌, ℕ, arith, ap, refl, subst, sym}
use Rattle.sync_calls.specs.Hall.{shown_by}
use Rattle.generated_library.specs.Filled.{HasFiles, pushed_files}
use Rattle.generated_library.specs.Generated.{files_from}
use Rattle.generated_library.specs.Leading.{Leads}
use Rattle.generated_library.proofs.LedLemmas.{PutSoFar, files_all, files_led, files_none}
use Rattle.generated_library.proofs.PushingLemmas.{bytes_all, bytes_begun, bytes_more, entries_all, entries_begun, entries_more, one_left}
use Rattle.generated_library.proofs.StoppingLemmas.{stopped}
use Rattle.generated_library.proofs.pushing.put_files.Goals as goal

whole : (count : ℕ) → count - 0 ≡ count
whole count = omega arith

none_left : (count number : ℕ) → count ≤ number → count - number ≡ 0
none_left count number past = omega (arith, past)

pub loop-number-init : goal.loop-number-init
loop-number-init g c =
    let round = c.args.round in
    record {
      ready = c.requires.ready;
      size = (refl, refl);
      left = bytes_begun round.is_second round.count round.number;
      small = omega arith;
      entries = entries_begun round.is_second c.args.asker.now.moment round.count round.number c.args.entries.now c.requires.empty;
      leads = files_none g.S.Shelf.contents g.S.Shelf.may_give g.S.Shelf.texts g.S.Shelf.faults (shown_by c.args.pass.now) (shown_by c.args.pass.now) round.is_second (files_from round.count round.number)
          (round.count - 0) round.number (ap (λ (n : ℕ). files_from n round.number) (whole round.count)) refl;
    }

pub loop-number-preserved : goal.loop-number-preserved
loop-number-preserved g c =
    let inv = c.loop-number.invariant in
    let round = c.args.round in
    let number = c.loop-number.number in
    let x = c.loop-number.numbers.now in
    let first = files_from round.count round.number in
    let all = pushed_files round.is_second 0 first in
    let below = c.loop-number-test.true in
    let bytes = bytes_more round.is_second round.count number c.loop-number.total c.in_ok-size.size c.saturating_add-total.result x c.put_next.new.numbers.now _ below c.requires.few inv.left inv.small
    c.in_ok-size.ensures.value c.in_ok-size.ensures.after c.saturating_add-total.ensures in
    record {
      ready = c.in_ok-size.ensures.ready;
      size = (c.in_ok-size.ensures.size.0 ∙ inv.size.0, c.in_ok-size.ensures.size.1 ∙ inv.size.1);
      left = bytes.0;
      small = bytes.1;
      entries = entries_more round.is_second c.args.asker.now.moment round.count number x c.put_next.new.numbers.now c.loop-number.entries c.put_next.new.entries _ below c.in_ok-size.ensures.after
          c.in_ok-size.ensures.entries inv.entries;
      leads = subst (λ (y : ℕ). Leads g.S.Shelf.contents g.S.Shelf.faults (shown_by c.args.pass.now) (shown_by c.put_next.new.pass) (HasFiles round.is_second first)
          (PutSoFar round.is_second all (number + 1) (round.count - (number + 1)) y)) (sym c.in_ok-size.ensures.after)
          (files_led g.S.Shelf.contents g.S.Shelf.may_give g.S.Shelf.texts g.S.Shelf.faults (shown_by c.args.pass.now) (shown_by c.loop-number.pass) (shown_by c.put_next.new.pass) round.is_second first all number
          (round.count - (number + 1)) x
          (subst (λ (n : ℕ). Leads g.S.Shelf.contents g.S.Shelf.faults (shown_by c.args.pass.now) (shown_by c.loop-number.pass) (HasFiles round.is_second first) (PutSoFar round.is_second all number n x))
          (one_left round.count number below) inv.leads) c.in_ok-size.ensures.leads);
    }

pub returns-clause-value : goal.returns-clause-value
returns-clause-value g c =
    bytes_all c.args.round.is_second c.args.round.count c.loop-number.number c.loop-number.total c.loop-number.numbers.now _ c.loop-number-test.false c.loop-number.invariant.left

pub returns-clause-entries : goal.returns-clause-entries
returns-clause-entries g c =
    entries_all c.args.round.is_second c.args.asker.now.moment c.args.round.count c.loop-number.number c.loop-number.numbers.now c.loop-number.entries _ c.loop-number-test.false c.loop-number.invariant.entries

pub returns-clause-leads : goal.returns-clause-leads
returns-clause-leads g c =
    let round = c.args.round in
    let first = files_from round.count round.number in
    let all = pushed_files round.is_second 0 first in
    files_all g.S.Shelf.contents g.S.Shelf.may_give g.S.Shelf.texts g.S.Shelf.faults (shown_by c.args.pass.now) (shown_by c.loop-number.pass) round.is_second first all c.loop-number.number c.loop-number.numbers.now
    (subst (λ (n : ℕ). Leads g.S.Shelf.contents g.S.Shelf.faults (shown_by c.args.pass.now) (shown_by c.loop-number.pass) (HasFiles round.is_second first)
    (PutSoFar round.is_second all c.loop-number.number n c.loop-number.numbers.now)) (none_left round.count c.loop-number.number c.loop-number-test.false) c.loop-number.invariant.leads)

pub returns-in_err-size-clause-stops : goal.returns-in_err-size-clause-stops
returns-in_err-size-clause-stops g c =
    stopped g.S.Shelf.contents g.S.Shelf.may_give g.S.Shelf.texts g.S.Shelf.faults c.args.asker.now.lib c.args.asker.now.secret c.args.asker.now.moment c.put_next.new.pass c.in_err-size.field-0.0 c.from_residual.result c.from_residual.ensures.1 c.in_err-size.ensures.stops

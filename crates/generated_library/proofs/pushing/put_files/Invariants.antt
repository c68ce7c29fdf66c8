-- The bytes so far, with those of the files that are left, are all; and so are the entries, and what is stored.
use Rattle.std.proofs.Common.{◌≡◌, ◌+◌, ◌-◌, ◌*◌, ◌≤◌}
use Rattle.sync_calls.specs.Hall.{AreReady, made_with, shares_of, shown_by}
use Rattle.generated_library.specs.Filled.{HasFiles, entries_of, pushed_files, with_entries}
use Rattle.generated_library.specs.Generated.{bytes_from, bytes_pushed, files_from}
use Rattle.generated_library.specs.Leading.{Leads}
use Rattle.generated_library.proofs.LedLemmas.{PutSoFar}
use Rattle.generated_library.proofs.pushing.put_files.Given as goal

abbrev pub invariant-loop-number : goal.invariant-loop-number
invariant-loop-number g l = record {
  ready : AreReady g.S.Shelf.contents g.S.Shelf.may_give g.S.Shelf.texts g.S.Shelf.faults l.hall l.pass;
  size : (shares_of l.pass ≡ shares_of l.fn.pass) × (made_with l.pass ≡ made_with l.fn.pass);
  left : l.total + bytes_from l.round.is_second l.number (l.round.count - l.number) l.numbers.now ≡ bytes_pushed l.round.is_second l.round.count l.round.number;
  small : l.total ≤ l.number * 16385;
  entries : with_entries l.asker.moment l.number (pushed_files l.round.is_second l.number (files_from (l.round.count - l.number) l.numbers.now)) l.entries
      ≡ entries_of l.asker.moment (pushed_files l.round.is_second 0 (files_from l.round.count l.round.number));
  leads : Leads g.S.Shelf.contents g.S.Shelf.faults (shown_by l.fn.pass) (shown_by l.pass) (HasFiles l.round.is_second (files_from l.round.count l.round.number))
      (PutSoFar l.round.is_second (pushed_files l.round.is_second 0 (files_from l.round.count l.round.number)) l.number (l.round.count - l.number) l.numbers.now);
}

-- Each entry joins those so far, and behind a fault the items are passed over.
use Rattle.std.proofs.Common.{◌≡◌, ◌<◌, All, List, [], ◌∷◌, ◌++◌, ℕ, Some, None, Ok, Err, length, arith, sym, ap, subst, ◌∙◌}
use Rattle.std.proofs.lemmas.List.Elements.{All-push}
use Rattle.std.specs.List.{IsDistinct}
use Rattle.json.specs.Token.{Token}
use Rattle.json.specs.Json.{after_end_array}
use Rattle.serde_json.specs.Data.{Data}
use Rattle.json_tokens.specs.Front.{FrontIs, NoFront, NoItems}
use Rattle.json_words.proofs.AnswerLemmas.{OnBad-always, OnBad-handed_on}
use Rattle.fs_objects.specs.Directory.{entry_of, entries_after, is_taken, names_of}
use Rattle.fs_objects.specs.Proper.{IsProperEntry}
use Rattle.fs_objects.specs.Reading.{HasNames}
use Rattle.fs_objects.specs.declared.dirent.Dirent.{Dirent}
use Rattle.fs_objects.specs.declared.fault.BadFs.{BadFs}
use Rattle.fs_objects.proofs.DirectoryLemmas.{entries_after-ok, entries_after-err, entry_of-taken, IsDistinct-names_push}
use Rattle.json_tokens.proofs.RestLemmas.{Reads, Reads-start, Reads-more, Reads-bad, Reads-end, Reads-rest, Reads-none}
use Rattle.fs_objects.proofs.directory_reading.entries_behind.Goals as goal

-- behind an item that is no entry, its fault is the answer
refused : (depth : ℕ) (start now rest : List Token) (done : List Dirent) (d : Data) (bad : BadFs) → Reads (entries_after []) (entries_after done) depth start now
    → after_end_array now ≡ None → FrontIs depth now d rest → length rest < length now → entry_of done d ≡ Err bad → Reads (entries_after []) (λ ds. Err bad) depth start rest
refused depth start now rest done d bad reads going is shorter fails =
    Reads-more (entries_after []) depth start (entries_after done) now reads d rest (λ ds. Err bad) going is shorter (λ ds. entries_after-err done d ds bad fails)

pub items-init : goal.items-init
unfolding IsDistinct
items-init c = record {
  reads = Reads-start (entries_after []) c.args.depth c.args.reader.now (entries_after c.new-entries.result) (λ ds. ap (λ done. entries_after done ds) (sym c.new-entries.ensures.value));
  names = λ q. rw (c.new-names.ensures.empty, c.new-entries.ensures.value);
  distinct = rw c.new-entries.ensures.value tt;
  proper = rw c.new-entries.ensures.value (λ k d below. absurd (omega arith));
}

pub returns-in_err-entry-clause-err : goal.returns-in_err-entry-clause-err
returns-in_err-entry-clause-err c =
    let l = c.items in
    let going : (after_end_array l.reader ≡ None) × (c.take_end_array.new.self ≡ l.reader) = grind arith in
    let spoils : NoFront c.args.depth c.take_end_array.new.self → NoItems c.args.depth c.args.reader.now =
    λ none. Reads-bad (entries_after []) c.args.depth c.args.reader.now (entries_after l.entries) l.reader l.invariant.reads going.0 (rw (← going.1) none) in
    OnBad-handed_on c.in_err-entry.field-0.0 c.from_residual.result c.from_residual.ensures.1 spoils c.in_err-entry.ensures.err

pub items-preserved : goal.items-preserved
items-preserved c =
    let l = c.items in
    let done = l.entries in
    let entry = c.in-Ok.entry in
    let is = c.in_ok-entry.ensures.ok in
    let going : (after_end_array l.reader ≡ None) × (c.take_end_array.new.self ≡ l.reader) = grind arith in
    let whole : entry_of done is.0 ≡ Ok entry = sym is.2 ∙ c.in-Ok.is in
    let proper : IsProperEntry entry = rw c.in-Ok.is at c.in_ok-entry.ensures.proper in
    let known : HasNames c.read_entry.new.names.keys (done ++ entry ∷ []) = rw c.in-Ok.is at c.in_ok-entry.ensures.known in
    record {
      reads = Reads-more (entries_after []) c.args.depth c.args.reader.now (entries_after done) l.reader l.invariant.reads is.0 c.read_entry.new.reader (entries_after c.push.new.self)
          going.0 (rw (← going.1) is.1) (rw (← going.1) c.in_ok-entry.ensures.shorter)
          (λ ds. entries_after-ok done is.0 ds entry whole ∙ ap (λ all. entries_after all ds) (sym c.in-Ok-push.ensures.ok));
      names = λ q. known q ∙ ap (λ entries. is_taken (names_of entries) q) (sym c.in-Ok-push.ensures.ok);
      distinct = rw c.in-Ok-push.ensures.ok (IsDistinct-names_push done entry l.invariant.distinct (entry_of-taken done is.0 entry whole));
      proper = let P : List Dirent → Type 0 = λ entries. All IsProperEntry entries in
          subst P (sym c.in-Ok-push.ensures.ok) (All-push IsProperEntry done entry l.invariant.proper proper);
    }

pub returns-in_err-pass_items-in-Err-clause-err : goal.returns-in_err-pass_items-in-Err-clause-err
returns-in_err-pass_items-in-Err-clause-err c =
    let l = c.items in
    let bad = c.in-Err.bad in
    let is = c.in_ok-entry.ensures.ok in
    let going : (after_end_array l.reader ≡ None) × (c.take_end_array.new.self ≡ l.reader) = grind arith in
    let reads = refused c.args.depth c.args.reader.now l.reader c.read_entry.new.reader l.entries is.0 bad l.invariant.reads going.0 (rw (← going.1) is.1) (rw (← going.1) c.in_ok-entry.ensures.shorter) (sym is.2 ∙ c.in-Err.is) in
    OnBad-always c.from_residual-in_err-pass_items-in-Err.result
    (Reads-none (entries_after []) c.args.depth c.args.reader.now (λ ds. Err bad) c.read_entry.new.reader reads c.in_err-pass_items-in-Err.ensures.err)

pub returns-in-Err-clause-ok : goal.returns-in-Err-clause-ok
returns-in-Err-clause-ok c =
    let l = c.items in
    let bad = c.in-Err.bad in
    let is = c.in_ok-entry.ensures.ok in
    let going : (after_end_array l.reader ≡ None) × (c.take_end_array.new.self ≡ l.reader) = grind arith in
    let reads = refused c.args.depth c.args.reader.now l.reader c.read_entry.new.reader l.entries is.0 bad l.invariant.reads going.0 (rw (← going.1) is.1) (rw (← going.1) c.in_ok-entry.ensures.shorter) (sym is.2 ∙ c.in-Err.is) in
    let are = c.in_ok-pass_items-in-Err.ensures.ok in
    Reads-rest (entries_after []) c.args.depth c.args.reader.now (λ ds. Err bad) c.read_entry.new.reader reads are.0 c.pass_items.new.reader are.1

pub returns-clause-ok : goal.returns-clause-ok
returns-clause-ok c =
    let l = c.items in
    let closes : after_end_array l.reader ≡ Some c.take_end_array.new.self = grind arith in
    Reads-end (entries_after []) c.args.depth c.args.reader.now (entries_after l.entries) l.reader l.invariant.reads c.take_end_array.new.self closes

-- Each way out is what is answered of the entry at its place, after those before it.
use Rattle.std.proofs.Common.{◌≡◌, ◌++◌, ◌∷◌, [], Result, Ok, Err, IfOk, sym, ap, ◌∙◌}
use Rattle.std.proofs.lemmas.Bool.{not-false, not-true}
use Rattle.serde_json.specs.Data.{Data}
use Rattle.serde_json.specs.View.{view}
use Rattle.json_words.specs.Answer.{ReadsAs}
use Rattle.json_words.specs.declared.answer.ReadFault.{ReadFault}
use Rattle.fs_objects.specs.Directory as directory
use Rattle.fs_objects.specs.Directory.{head_of, entry_from, is_taken, names_of}
use Rattle.fs_objects.specs.Reading.{head_seen, HasNames}
use Rattle.fs_objects.specs.declared.dirent.Dirent.{Dirent}
use Rattle.fs_objects.specs.declared.fault.BadFs.{BadFs}
use Rattle.fs_objects.specs.declared.fault.BadFs.TheVariants.{Twice}
use Rattle.fs_objects.proofs.DirectoryLemmas.{entry_of-bad_head, entry_of-twice, entry_of-new, entry_from-name}
use Rattle.fs_objects.proofs.NameSetLemmas.{HasNames-push}
use Rattle.fs_objects.proofs.directory_reading.next_entry.Goals as goal

named : (Q : Dirent → Type 0) (r : Result Dirent (ReadFault BadFs)) (head : directory.Head) (d : Data) → ReadsAs r (entry_from head d) → ((entry : Dirent) → entry.name ≡ head.name → Q entry) → IfOk r Q
named Q (Ok entry) head d is then = then entry (entry_from-name head d entry is)
named Q (Err fault) head d is then = tt

pub returns-in-Err-clause-value : goal.returns-in-Err-clause-value
returns-in-Err-clause-value c =
    let d = view c.args.item.now in
    entry_of-bad_head c.args.earlier.now d c.in-Err.bad (ap (λ place. head_of place d) (sym c.len-place.ensures.value) ∙ sym c.in-Err.ensures.value)

pub unreachable-requires : goal.unreachable-requires
unreachable-requires c =
    let fault = (c.in-Err-Bad.ensures.bad c.in-Err-Bad.field-0-0).0 (ap Err c.in-Err-Bad.field-0-is) in
    let none = c.in-Ok.ensures.name in
    cc

pub returns-then-not-is_new-clause-value : goal.returns-then-not-is_new-clause-value
returns-then-not-is_new-clause-value c =
    let there = not-false _ (sym c.in-Ok-insert.ensures.added ∙ c.if-not-is_new.true) in
    let taken = ap (is_taken (names_of c.args.earlier.now)) (sym c.in-Ok-read.ensures.value) ∙ sym (c.requires.known c.in-Ok-read.name) ∙ there in
    let d = view c.args.item.now in
    let head = ap (λ place. head_of place d) (sym c.len-place.ensures.value) ∙ sym c.in-Ok.ensures.value in
    entry_of-twice c.args.earlier.now d (head_seen c.in-Ok.head) head taken ∙ ap (λ place. Err (Twice place)) (sym c.len-place.ensures.value)

pub returns-clause-value : goal.returns-clause-value
returns-clause-value c =
    let absent = not-true _ (sym c.in-Ok-insert.ensures.added ∙ c.if-not-is_new.false) in
    let new = ap (is_taken (names_of c.args.earlier.now)) (sym c.in-Ok-read.ensures.value) ∙ sym (c.requires.known c.in-Ok-read.name) ∙ absent in
    let d = view c.args.item.now in
    let head = ap (λ place. head_of place d) (sym c.len-place.ensures.value) ∙ sym c.in-Ok.ensures.value in
    rw (entry_of-new c.args.earlier.now d (head_seen c.in-Ok.head) head new) c.entry_from.ensures.value

pub returns-clause-known : goal.returns-clause-known
returns-clause-known c =
    let keys = c.args.names.now.keys in
    let name = c.in-Ok-read.name in
    let earlier = c.args.earlier.now in
    named (λ entry. HasNames c.insert.new.self.keys (earlier ++ entry ∷ [])) c.entry_from.result (head_seen c.in-Ok.head) (view c.args.item.now) c.entry_from.ensures.value
    (λ entry is. rw c.in-Ok-insert.ensures.keys (HasNames-push keys name earlier entry (is ∙ sym c.in-Ok-read.ensures.value) c.requires.known))

-- Each name that counts has its part; a member of another name leaves them all.
use Rattle.std.proofs.Common.{sym, ◌∙◌}
use Rattle.fs_objects.proofs.PartsLemmas.{IsMember-kind, IsMember-version, IsMember-size, IsMember-dirents, IsMember-block_ids, IsMember-more}
use Rattle.fs_objects.proofs.object_reading.read_member.Goals as goal

pub returns-then-eq-clause-ok : goal.returns-then-eq-clause-ok
returns-then-eq-clause-ok c = IsMember-dirents c.args.name.now c.args.reader.now c.read_dirents.new.reader c.args.parts.now c.in_ok-parts.field-0 (sym c.eq.ensures ∙ c.if-eq.true) c.in_ok-parts.ensures.ok

pub returns-then-eq-2-clause-ok : goal.returns-then-eq-2-clause-ok
returns-then-eq-2-clause-ok c = IsMember-block_ids c.args.name.now c.args.reader.now c.read_block_ids.new.reader c.args.parts.now c.in_ok-parts-2.field-0 (sym c.eq-2.ensures ∙ c.if-eq-2.true) c.in_ok-parts-2.ensures.ok

pub returns-then-eq-3-clause-ok : goal.returns-then-eq-3-clause-ok
returns-then-eq-3-clause-ok c = IsMember-kind c.args.name.now c.args.reader.now c.read_number.new.reader c.args.parts.now c.in_ok-parts-3.field-0 (sym c.eq-3.ensures ∙ c.if-eq-3.true) c.in_ok-parts-3.ensures.ok

pub returns-then-eq-4-clause-ok : goal.returns-then-eq-4-clause-ok
returns-then-eq-4-clause-ok c = IsMember-version c.args.name.now c.args.reader.now c.read_number-then-eq-4.new.reader c.args.parts.now c.in_ok-parts-4.field-0 (sym c.eq-4.ensures ∙ c.if-eq-4.true) c.in_ok-parts-4.ensures.ok

pub returns-then-eq-5-clause-ok : goal.returns-then-eq-5-clause-ok
returns-then-eq-5-clause-ok c = IsMember-size c.args.name.now c.args.reader.now c.read_number-then-eq-5.new.reader c.args.parts.now c.in_ok-parts-5.field-0 (sym c.eq-5.ensures ∙ c.if-eq-5.true) c.in_ok-parts-5.ensures.ok

pub returns-clause-ok : goal.returns-clause-ok
returns-clause-ok c =
    IsMember-more c.args.name.now c.args.reader.now c.pass_value.new.reader c.args.parts.now (sym c.eq-3.ensures ∙ c.if-eq-3.false) (sym c.eq-4.ensures ∙ c.if-eq-4.false)
    (sym c.eq-5.ensures ∙ c.if-eq-5.false) (sym c.eq.ensures ∙ c.if-eq.false) (sym c.eq-2.ensures ∙ c.if-eq-2.false) c.in_ok-pass_value.ensures.ok

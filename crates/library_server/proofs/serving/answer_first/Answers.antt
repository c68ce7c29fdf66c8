-- What is asked for lays nothing, and what changed the library is counted. A library whose objects lie under their names answers
-- with no refusal by storage that never fails.
use Rattle.std.proofs.Common.{◌≡◌, ◌∙◌, ap, false, refl, subst, sym}
use Rattle.library_server.proofs.CountingLemmas.{counted, kept_back, none_counted}
use Rattle.library_server.proofs.StartingLemmas.{is_other, is_same}
use Rattle.library_server.proofs.WholeLemmas.{answers_whole}
use Rattle.depot.specs.FirstGet.{fs_call}
use Rattle.depot.specs.Story.{IsAnswered}
use Rattle.worker_server.specs.Calls.{tag_of}
use Rattle.worker_server.specs.declared.host.Answer.{Answer}
use Rattle.library_server.specs.Answering.{NamesIn, is_storage_reply}
use Rattle.library_server.proofs.serving.answer_first.Goals as goal

pub returns-then-ne : goal.returns-then-ne
returns-then-ne g c = record {
  value = record {
    here = λ same. absurd (is_other _ _ c.if-ne.ensures (same ∙ sym c.lib.ensures.value));
    tagged = λ same. absurd (is_other _ _ c.if-ne.ensures (same ∙ sym c.lib.ensures.value));
    counts = none_counted g.S.Shelf.contents g.S.Shelf.faults c.args.library.now;
    elsewhere = λ other. (ap (λ (a : Answer). a.reply) c.elsewhere.ensures.value, refl);
    untagged = λ other. ap tag_of c.elsewhere.ensures.value;
    steady = λ steady names. (ap (λ (a : Answer). is_storage_reply a.reply) c.elsewhere.ensures.value, names);
    no_lines = refl;
  };
  bound = λ asked. absurd (is_other _ _ c.if-ne.ensures (asked.0 ∙ sym c.lib.ensures.value));
}

pub returns : goal.returns
returns g c =
    let same = is_same _ _ c.if-ne.ensures ∙ c.lib.ensures.value in
    let serves = c.tell_first-reply.ensures.answered.serves in
    record {
      value = record {
        here = λ is.
            subst (λ (a : Answer). IsAnswered g.S.Shelf.contents g.S.Shelf.may_give g.S.Shelf.texts g.S.Shelf.faults c.args.library.now.depot (fs_call c.args.secret.now c.args.id) c.args.moment a.reply c.tell_first-reply.new.self)
            (sym c.told_at.ensures.value) c.tell_first-reply.ensures.answered;
        tagged = λ is. ap tag_of c.told_at.ensures.value;
        counts = counted g.S.Shelf.contents g.S.Shelf.faults c.args.library.now _ _ _ c.tell_first-reply.ensures.same c.tell_first-reply.ensures.other c.count_after-library.ensures.value;
        elsewhere = λ other. absurd (other same);
        untagged = λ other. absurd (other same);
        steady = λ steady names.
            subst (λ (a : Answer). (is_storage_reply a.reply ≡ false) × NamesIn g.S.Shelf.contents c.tell_first-reply.new.self) (sym c.told_at.ensures.value)
            (answers_whole g.S.Shelf.contents g.S.Shelf.faults c.args.library.now.depot c.tell_first-reply.new.self _ c.args.moment _ serves.told serves.damage serves.count steady names);
        no_lines = refl;
      };
      bound = λ asked. (
        ap (λ (a : Answer). a.reply) c.told_at.ensures.value ∙ c.tell_first-reply.ensures.bound asked.1 asked.2,
        kept_back g.S.Shelf.contents g.S.Shelf.faults c.args.library.now _ _ _ (c.tell_first-reply.ensures.untouched asked.1 asked.2) c.tell_first-reply.ensures.other c.count_after-library.ensures.value,
      );
    }

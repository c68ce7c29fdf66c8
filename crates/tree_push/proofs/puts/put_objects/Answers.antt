-- One key more was put, or waits.
use Rattle.std.proofs.Common.{◌≡◌, ◌∷◌, ◌∙◌, List, refl, subst}
use Rattle.std.specs.Prelude.{⊤}
use Rattle.std.specs.FinMap as fin
use Rattle.std.specs.Map.Iter.{deref_pair}
use Rattle.std.proofs.lemmas.Map.Iter.{rest_more}
use Rattle.ids.specs.declared.key.Key.{Key}
use Rattle.tree_push.specs.Asking.{Ran, PutsAmong}
use Rattle.tree_push.proofs.PutsLemmas.{IsLeft, no_batch, putting_end, putting_more, putting_start, putting_stop}
use Rattle.tree_push.proofs.SentOnceLemmas.{putting_front}
use Rattle.tree_push.specs.Lacking.{has_key}
use Rattle.tree_push.proofs.puts.put_objects.Goals as goal

pub loop-key-init : goal.loop-key-init
loop-key-init g c = record {
  peer = refl;
  rows = no_batch c.new.result 0 c.new.ensures.value refl;
  ran = putting_start c.args.library.now c.args.made.now c.args.lacking.now c.into_iter-key-iterator.result c.new.result _
      (c.into_iter-key-iterator.ensures.into_iter_gives ∙ c.iter-key-items.ensures.value) c.new.ensures.value;
}

pub loop-key-preserved : goal.loop-key-preserved
loop-key-preserved g c =
    let next : c.loop-key.key-iterator ≡ (c.in-Some.key.now, tt) ∷ c.next.new.self
    = rest_more deref_pair _ _ _ (c.in-Some.key, c.in-Some.field-0-1) c.in-Some.is c.next.ensures.steps in
    record {
      peer = c.in-Ok.ensures.stays ∙ c.loop-key.invariant.peer;
      rows = c.in-Ok.ensures.after;
      ran = putting_more c.args.library.now c.args.made.now c.args.lacking.now c.in-Some.key.now c.next.new.self c.loop-key.batch.rows c.put_object.new.batch.rows _ _ _
          (subst (λ (left : List (Key × ⊤)). Ran c.args.library.now (PutsAmong (has_key c.args.lacking.now)) (IsLeft c.args.made.now (fin.keys c.args.lacking.now) left c.loop-key.batch.rows) (g.R.Remote.sends c.args.remote.now) (g.R.Remote.sends c.loop-key.remote))
          next c.loop-key.invariant.ran)
          c.in-Ok.ensures.value;
    }

pub returns-in-Err-clause-value : goal.returns-in-Err-clause-value
returns-in-Err-clause-value g c = putting_stop c.args.library.now c.args.made.now c.args.lacking.now c.loop-key.key-iterator c.loop-key.batch.rows _ _ _ c.in-Err.fault c.loop-key.invariant.ran c.in-Err.ensures.value

pub returns-clause-value : goal.returns-clause-value
returns-clause-value g c =
    putting_end c.args.library.now c.args.made.now c.args.lacking.now c.loop-key.key-iterator c.loop-key.batch.rows c.put_batch.new.batch.rows _ _ _ c.put_batch.result c.in-None.ensures.steps.0
    c.put_batch.ensures.none c.loop-key.invariant.ran c.put_batch.ensures.value

pub returns-in-Err-clause-once : goal.returns-in-Err-clause-once
returns-in-Err-clause-once g c =
    putting_front c.args.library.now c.args.made.now c.args.lacking.now c.loop-key.key-iterator c.loop-key.batch.rows _ _ _ c.loop-key.invariant.ran c.in-Err.ensures.once

pub returns-clause-once : goal.returns-clause-once
returns-clause-once g c =
    putting_front c.args.library.now c.args.made.now c.args.lacking.now c.loop-key.key-iterator c.loop-key.batch.rows _ _ _ c.loop-key.invariant.ran c.put_batch.ensures.once

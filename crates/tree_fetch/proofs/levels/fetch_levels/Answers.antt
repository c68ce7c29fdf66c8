-- One level more is got in each turn.
use Rattle.std.proofs.Common.{[], refl, sym, ◌∙◌, subst}
use Rattle.std.specs.FinMap as map
use Rattle.object_graph.specs.Reached.{own_keys}
use Rattle.tree_fetch.specs.Fetching.{Fetching}
use Rattle.tree_fetch.specs.Levels.{Adds, AreListed, AreReached, Grows, IsUpTo, Lists}
use Rattle.tree_fetch.proofs.CoverLemmas.{level_begins, level_next}
use Rattle.tree_fetch.proofs.LevelLemmas.{reached_root}
use Rattle.tree_fetch.proofs.SendLemmas.{begins, stops_here}
use Rattle.tree_fetch.proofs.levels.fetch_levels.Goals as goal

pub returns-in-Err-clause-value : goal.returns-in-Err-clause-value
returns-in-Err-clause-value g c =
    stops_here c.args.asker.now (own_keys c.args.root.now) (g.R.Remote.sends c.args.remote.now) (g.R.Remote.sends c.args.remote.now) map.empty
    (begins c.args.asker.now (own_keys c.args.root.now) (g.R.Remote.sends c.args.remote.now))

pub returns-in-Err-note-clause-value : goal.returns-in-Err-note-clause-value
returns-in-Err-note-clause-value g c =
    stops_here c.args.asker.now (own_keys c.args.root.now) (g.R.Remote.sends c.args.remote.now) (g.R.Remote.sends c.args.remote.now) map.empty
    (begins c.args.asker.now (own_keys c.args.root.now) (g.R.Remote.sends c.args.remote.now))

pub levels-init : goal.levels-init
levels-init g c = record {
  peer = refl;
  fetching = subst (Fetching c.args.asker.now (own_keys c.args.root.now) (g.R.Remote.sends c.args.remote.now) (g.R.Remote.sends c.args.remote.now)) (sym c.in-Ok.ensures.value)
      (begins c.args.asker.now (own_keys c.args.root.now) (g.R.Remote.sends c.args.remote.now));
  reached = subst (λ held. AreReached (own_keys c.args.root.now) held c.note.new.next) (sym c.in-Ok.ensures.value)
      (reached_root c.args.root.now c.note.new.next
      (subst (λ ids. Adds (own_keys c.args.root.now) ids c.note.new.next) c.new-ids.ensures.value c.in-Ok-note.ensures.named));
  up = subst (λ held. IsUpTo c.args.root.now 0 held c.note.new.seen c.note.new.next) (sym c.in-Ok.ensures.value)
      (level_begins c.args.root.now c.note.new.seen c.note.new.next
      (subst (λ seen. Lists seen c.note.new.seen [] c.note.new.next) c.new-seen.ensures.value
      (subst (λ ids. Lists c.new-seen.result c.note.new.seen ids c.note.new.next) c.new-ids.ensures.value c.in-Ok-note.ensures.value.0))
      c.in-Ok-note.ensures.value.1);
}

pub returns-in-Err-fetch_level-clause-value : goal.returns-in-Err-fetch_level-clause-value
returns-in-Err-fetch_level-clause-value g c =
    c.in-Err-fetch_level.ensures.value (own_keys c.args.root.now) (g.R.Remote.sends c.args.remote.now) c.levels.invariant.fetching
    (subst (AreReached (own_keys c.args.root.now) c.levels.held) (sym c.slice.ensures.value) c.levels.invariant.reached)

pub levels-preserved : goal.levels-preserved
levels-preserved g c =
    let got = c.in-Ok-fetch_level.ensures.value (own_keys c.args.root.now) (g.R.Remote.sends c.args.remote.now) c.levels.invariant.fetching
    (subst (AreReached (own_keys c.args.root.now) c.levels.held) (sym c.slice.ensures.value) c.levels.invariant.reached) in
    record {
      peer = c.in-Ok-fetch_level.ensures.stays ∙ c.levels.invariant.peer;
      fetching = got.0;
      reached = got.4;
      up = level_next c.args.root.now c.levels._level c.levels.held c.fetch_level.new.held c.levels.seen c.fetch_level.new.seen c.levels.ids c.in-Ok-fetch_level.next c.levels.invariant.up
          (subst (λ ids. Grows ids c.levels.held c.fetch_level.new.held) c.slice.ensures.value got.1) got.2
          (subst (λ ids. AreListed c.fetch_level.new.held c.fetch_level.new.seen ids) c.slice.ensures.value got.3);
    }

-- The list is got, and what it names is listed.
use Rattle.std.proofs.Common.{sym, subst}
use Rattle.tree_fetch.specs.Fetching.{Fetching}
use Rattle.tree_fetch.specs.Levels.{AreListed, AreReached, Grows}
use Rattle.tree_fetch.proofs.LevelLemmas.{reached_next}
use Rattle.tree_fetch.proofs.SendLemmas.{stops_here}
use Rattle.tree_fetch.proofs.levels.fetch_level.Goals as goal

pub returns-in-Ok-next_level-clause-value : goal.returns-in-Ok-next_level-clause-value
returns-in-Ok-next_level-clause-value g c =
    λ from before f reached.
    let got = c.in-Ok.ensures.value from before f reached in
    let listed = c.in-Ok-next_level.ensures.value in
    let same = sym c.in-Ok-next_level.ensures.stays in (
      subst (Fetching c.args.asker.now from before (g.R.Remote.sends c.fetch_list.new.remote)) same got.0,
      subst (Grows c.args.ids.now c.args.held.now) same got.1,
      listed.0,
      subst (λ held. AreListed held c.next_level.new.seen c.args.ids.now) same listed.1,
      subst (λ held. AreReached from held c.in-Ok-next_level.next) same
          (reached_next from c.args.held.now c.fetch_list.new.held c.args.ids.now c.in-Ok-next_level.next reached got.1 c.in-Ok-next_level.ensures.named),
    )

pub returns-in-Err-next_level-clause-value : goal.returns-in-Err-next_level-clause-value
returns-in-Err-next_level-clause-value g c =
    λ from before f reached.
    stops_here c.args.asker.now from before (g.R.Remote.sends c.fetch_list.new.remote) c.fetch_list.new.held (c.in-Ok.ensures.value from before f reached).0

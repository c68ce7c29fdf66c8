-- What is stored of what was asked for becomes fresh, and is shielded.
use Rattle.std.proofs.Common.{List, subst}
use Rattle.ids.specs.declared.key.Key.{Key}
use Rattle.collector.proofs.WorklistLemmas.{on_error}
use Rattle.depot.specs.Fresh.{MayKeep}
use Rattle.depot.proofs.MissingBesideLemmas.{fresh_still, keeps_then}
use Rattle.depot.proofs.missing.keep_present.Goals as goal

pub returns-in_err-keys-clause-err : goal.returns-in_err-keys-clause-err
returns-in_err-keys-clause-err g c = on_error _ c.from_residual.result (fresh_still c.args.running.now)

pub returns-clause-shown : goal.returns-clause-shown
returns-clause-shown g c = λ objects told.
    subst (λ (keys : List Key). MayKeep keys c.args.running.now c.shield.new.running) (c.in_ok-keys.ensures.shown objects told)
    (keeps_then c.in_ok-keys.keys c.slice.result.now c.args.running.now c.freshen.new.running c.shield.new.running c.slice.ensures.value c.in_ok-freshen.ensures.ok c.shield.ensures.value)

pub returns-clause-ok : goal.returns-clause-ok
returns-clause-ok g c =
    subst (λ (keys : List Key). MayKeep keys c.args.running.now c.shield.new.running) c.in_ok-keys.ensures.value
    (keeps_then c.in_ok-keys.keys c.slice.result.now c.args.running.now c.freshen.new.running c.shield.new.running c.slice.ensures.value c.in_ok-freshen.ensures.ok c.shield.ensures.value)

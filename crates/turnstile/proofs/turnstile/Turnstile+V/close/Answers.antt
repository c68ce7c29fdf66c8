use Rattle.turnstile.proofs.turnstile.Turnstile+V.close.Goals as goal

-- the load of the passes word left the pass as it was
pub returns-clause-ok : goal.returns-clause-ok
returns-clause-ok g c = rw c.total-passes.ensures.total.2 at c.reclaim.ensures.ok

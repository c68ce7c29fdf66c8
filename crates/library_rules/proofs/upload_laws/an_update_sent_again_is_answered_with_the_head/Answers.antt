-- The commit is kept since, and what is kept is known again.
use Rattle.library_rules.specs.History.{after}
use Rattle.library_rules.proofs.RetriedLemmas.{kept_since, again}
use Rattle.library_rules.proofs.upload_laws.an_update_sent_again_is_answered_with_the_head.Goals as goal

pub returns : goal.returns
returns c = λ start es place now first pushed at update below retained call asks e asked permits.
    again (after start es now) call pushed e asks (kept_since start es place now first pushed at update below retained) asked permits

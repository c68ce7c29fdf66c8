use Rattle.std.proofs.Common.{◌≡◌, [], ◌∷◌, ◌++◌, sym, ◌∙◌, ap}
use Rattle.std.specs.Prelude.{Some}
use Rattle.turnstile.proofs.PassLemmas.{makes}
use Rattle.turnstile.proofs.turnstile.Turnstile+V.make.Goals as goal

-- the one slot has the value
pub new-requires : goal.new-requires
new-requires g c =
    let items : c.push_reserved.new.self.items ≡ c.holding.result ∷ [] = c.push_reserved.ensures.items ∙ ap (λ l. l ++ c.holding.result ∷ []) c.in-Ok.ensures.items in
    rw items (makes _ _ c.holding.result c.requires.fits (ap (λ p. p.value) c.holding.ensures ∙ ap (λ v. Some v) (sym c.of.ensures)) (g.V.Story.begins _))

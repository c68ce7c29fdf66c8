-- A library is filled that has one object and an owner's token in front; any other comes out as it is.
use Rattle.std.proofs.Common.{inl, inr, refl}
use Rattle.library_server.specs.Filling.{exists, new}
use Rattle.library_server.proofs.filling.fill_opened.Goals as goal

pub returns-in-None : goal.returns-in-None
returns-in-None g c = λ left counts. exists (inr c.in-None.ensures.none) refl refl

pub returns-then-count-eq1 : goal.returns-then-count-eq1
returns-then-count-eq1 g c = λ left counts. new c.if-count-eq1.true c.in-Some.secret c.in-Some.ensures.some (c.fill_new.ensures left counts)

pub returns : goal.returns
returns g c = λ left counts. exists (inl c.if-count-eq1.false) refl refl

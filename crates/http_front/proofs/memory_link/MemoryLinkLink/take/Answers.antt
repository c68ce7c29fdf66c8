use Rattle.std.proofs.Common.{◌∙◌, length, take, sym, ap, Some, ◌++◌}
use Rattle.std.proofs.lemmas.List.{drop-drop}
use Rattle.http_front.specs.contracts.memory_link.MemoryLink.{the_view}
use Rattle.http_front.proofs.MemoryLinkLemmas.{asked_at, left_by, taken_by, is_after_take}
use Rattle.http_front.proofs.memory_link.MemoryLinkLink.take.Goals as goal

pub returns-clause-left : goal.returns-clause-left
returns-clause-left c =
    let copied = rw c.slice-2.ensures.value at c.copy_from.ensures in
    ap Some (sym (ap (λ s. s.left) c.self.view_is) ∙ left_by c.self.inside.input _ c.self.inside.place _ copied)

pub returns-clause-taken : goal.returns-clause-taken
returns-clause-taken c =
    let copied = rw c.slice-2.ensures.value at c.copy_from.ensures in
    ap Some (taken_by c.self.inside.input c.self.inside.place c.min-count.result
    ∙ ap (λ f. take c.self.inside.place c.self.inside.input ++ f) (sym copied)
    ∙ ap (λ s. s.taken ++ take c.min-count.result c.copy_from.new.into) c.self.view_is)

pub returns-clause-ok : goal.returns-clause-ok
returns-clause-ok c =
    rw (← c.self.view_is) (is_after_take (the_view c.self.inside) c.min-count.result _ _ _ _
    (sym (drop-drop c.min-count.result c.self.inside.place c.self.inside.input))
    (taken_by c.self.inside.input c.self.inside.place c.min-count.result)
    c.saturating_add-self-inside.ensures
    (c.and-self-inside.ensures ∙ asked_at c.self.inside.input c.self.inside.out.items c.self.inside.place _ c.self.inside.asked.items c.self.invariant.place (ap length c.as_slice.ensures.value)))

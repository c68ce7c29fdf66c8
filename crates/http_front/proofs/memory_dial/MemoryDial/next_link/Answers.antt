-- The next link is the last of those that are not handed out.
use Rattle.std.proofs.Common.{◌≡◌, All, List, [], ◌∷◌, ◌++◌, reverse, ap, subst, ◌∙◌}
use Rattle.std.proofs.lemmas.List.{reverse-append}
use Rattle.std.proofs.lemmas.List.Elements.{All-head, All-tail}
use Rattle.http_front.specs.MemoryDial.{IsUnused}
use Rattle.http_front.specs.MemoryLink.{MemoryLinkState}
use Rattle.http_front.proofs.memory_dial.MemoryDial.next_link.Goals as goal

-- the last of a list is the first of it turned round
unused_out : (before after : List MemoryLinkState) (link : MemoryLinkState) → before ≡ after ++ link ∷ [] → All IsUnused (reverse before) → All IsUnused (link ∷ reverse after)
unused_out before after link is = subst (λ (links : List MemoryLinkState). All IsUnused links) (ap reverse is ∙ reverse-append after (link ∷ []))

pub returns-clause-ok : goal.returns-clause-ok
returns-clause-ok c =
    let unused = unused_out c.self.inside.rest.items c.pop.new.self.items c.in-Some.link c.in-Some.ensures.items c.self.invariant.unused in
    All-head IsUnused c.in-Some.link (reverse c.pop.new.self.items) unused

pub invariant_of-self-2 : goal.invariant_of-self-2
invariant_of-self-2 c =
    let unused = unused_out c.self.inside.rest.items c.pop.new.self.items c.in-Some.link c.in-Some.ensures.items c.self.invariant.unused in
    record {
      unused = All-tail IsUnused c.in-Some.link (reverse c.pop.new.self.items) unused;
      kept = c.self.invariant.kept;
      room = c.self.invariant.room;
    }

-- Two links that were not used.
use Rattle.std.proofs.Common.{All, List, [], ◌∷◌, ◌++◌, ap, subst, sym, ◌∙◌}
use Rattle.std.proofs.lemmas.List.Elements.{All-cons, All-nil}
use Rattle.http_front.specs.MemoryDial.{IsUnused}
use Rattle.http_front.specs.MemoryLink.{MemoryLinkState}
use Rattle.client_tests.proofs.remote_tests.two_links.Goals as goal

pub returns : goal.returns
returns c =
    let both = c.in_ok-push-2.ensures.ok ∙ ap (λ (ls : List MemoryLinkState). ls ++ c.args.second ∷ []) (c.in_ok-push.ensures.ok ∙ ap (λ (ls : List MemoryLinkState). ls ++ c.args.first ∷ []) c.requires.none) in
    record {
      fresh = subst (λ (ls : List MemoryLinkState). All IsUnused ls) (sym both)
          (All-cons IsUnused c.args.first (c.args.second ∷ []) c.requires.new.0 (All-cons IsUnused c.args.second [] c.requires.new.1 (All-nil IsUnused)));
    }

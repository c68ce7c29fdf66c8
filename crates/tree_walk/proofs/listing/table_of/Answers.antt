-- Nothing put into the empty table; then one entry more.
use Rattle.std.proofs.Common.{◌∙◌, sym, ap}
use Rattle.tree_walk.proofs.ListingLemmas.{paths_onto, onto_nothing, onto_last}
use Rattle.tree_walk.proofs.listing.table_of.Goals as goal

pub loop-path-init : goal.loop-path-init
loop-path-init c = ap (paths_onto c.args.found.items) c.new-entries.ensures.value ∙ onto_nothing c.args.found.items

pub loop-path-preserved : goal.loop-path-preserved
loop-path-preserved c =
    ap (paths_onto c.pop.new.self.items) c.in_ok-put.ensures.ok
    ∙ sym (onto_last c.pop.new.self.items (c.in-Some.path, c.in-Some.entry) c.loop-path.entries)
    ∙ ap (λ xs. paths_onto xs c.loop-path.entries) (sym c.in-Some.ensures.items)
    ∙ c.loop-path.invariant

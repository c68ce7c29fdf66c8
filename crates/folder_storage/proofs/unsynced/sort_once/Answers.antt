use Rattle.std.proofs.Common.{◌∙◌, sym}
use Rattle.std.specs.Cmp.{Equal-is}
use Rattle.std.proofs.lemmas.List.Filters.{dedup_is}
use Rattle.std.proofs.lemmas.List.Kept.{Any-dedup}
use Rattle.std.proofs.lemmas.List.Sorted.{Contains-permutation}
use Rattle.folder_storage.proofs.unsynced.sort_once.Goals as goal

pub returns-clause-ok : goal.returns-clause-ok
returns-clause-ok g c key among =
    let kept = Any-dedup g.met.K.Eq.laws c.sort.new.self.items key (Contains-permutation _ _ key c.sort.ensures.permutation among) in
    rw (dedup_is _ _ _ c.dedup.ensures.filtered) (kept.0, kept.1, kept.2, kept.3, (Equal-is (g.K.Ord.cmp key kept.1)).0 (sym (g.met.K.Ord.matches_eq key kept.1) ∙ kept.4))

-- A call marks nothing. The key lemmas are marked_fresh, marked_shielded, marked_put and marked_told.
use Rattle.std.proofs.Common.{◌≡◌, ◌∙◌, ◌&&◌, not, Bool, List, length, ap, Option, None, Some}
use Rattle.std.specs.FinSet as set
use Rattle.ids.specs.Key.{key_cmp}
use Rattle.ids.specs.declared.key.Key.{Key}
use Rattle.object_graph.specs.Traversal.{is_in}
use Rattle.library_state.specs.declared.reply.Reply.{Reply}
use Rattle.library_state.specs.declared.reply.Reply.TheVariants.{Stored}
use Rattle.collector.specs.Marks.{MarksView}
use Rattle.depot.specs.DepotView.{CollectionView, marked_of}
use Rattle.depot.specs.Fresh.{EndsPut, MayHaveFresh, MayKeep, MayShield}

-- other keys are fresh
pub marked_fresh : (fresh : set.FinSet key_cmp → Key → Bool) (old new : Option CollectionView) → MayHaveFresh fresh old new → marked_of new ≡ marked_of old
marked_fresh fresh None new is = ap marked_of is
marked_fresh fresh (Some old) new (collection, is, has) = ap marked_of is ∙ ap (λ (m : MarksView). length m.marked) has.marks

-- keys are shielded
pub marked_shielded : (keys : List Key) (old new : Option CollectionView) → MayShield keys old new → marked_of new ≡ marked_of old
marked_shielded keys None new is = ap marked_of is
marked_shielded keys (Some old) new (collection, is, shields) = ap marked_of is ∙ ap length shields.marks.marked

-- a put ends
pub marked_put : (keys : List Key) (r : Reply) (old new : Option CollectionView) → EndsPut keys r old new → marked_of new ≡ marked_of old
marked_put keys (Stored newly) old new ends = marked_shielded keys old new ends
marked_put keys other old new ends = marked_fresh (λ fresh key. set.contains fresh key && not (is_in keys key)) old new ends

-- what is told to be stored is fresh, and shielded
pub marked_told : (keys : List Key) (old new : Option CollectionView) → MayKeep keys old new → marked_of new ≡ marked_of old
marked_told keys None new is = ap marked_of is
marked_told keys (Some old) new (collection, is, keeps) = ap marked_of is ∙ ap length keeps.shields.marks.marked ∙ ap (λ (m : MarksView). length m.marked) keeps.fresh.marks

use Rattle.object_store.specs.declared.shelf.Slot.TheVariants.{Object}
use Rattle.collector.proofs.OpenedLemmas.{whole_in}
use Rattle.collector.proofs.laws.what_was_opened_is_whole_where_the_shelf_tells.Goals as goal

pub returns : goal.returns
returns g c = λ store objects met key told other opened.
    whole_in (g.S.Shelf.contents store.shelf) store.index objects (g.S.Shelf.may_give store.shelf) met key
    (λ held given is gives. g.met.S.Shelf.told store.shelf held (Object key) given is gives) told other opened

-- The objects of a store in memory. Our own.
use Rattle.ids.specs.Key.{Objects}
use Rattle.object_store.specs.MemoryShelf.{MemoryShelfState}
use Rattle.object_store.specs.StoreView.{StoreView, indexed}

abbrev pub objects_in : StoreView MemoryShelfState → Objects
objects_in store = indexed store.index store.shelf.contents

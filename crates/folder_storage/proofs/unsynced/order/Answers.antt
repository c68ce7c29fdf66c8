use Rattle.folder_storage.proofs.UnsyncedLemmas.{order-listed}
use Rattle.folder_storage.proofs.unsynced.order.Goals as goal

pub returns : goal.returns
returns c = record { listed = order-listed c.args.keys.now.items c.sort_once.new.keys.items c.sort_once.result c.sort_once.ensures.ok c.sort_once.ensures.err }

-- What a scan tells of a folder.
use Rattle.sync_daemon.proofs.scanning.scan_folder.Goals as goal

pub returns-in-Ok-clause-value : goal.returns-in-Ok-clause-value
returns-in-Ok-clause-value g c = λ held is. record {
  scanned = c.in-Ok.ensures.value held is;
  formed = c.in-Ok.ensures.formed held is;
  within = c.in-Ok.ensures.bound held is;
}

-- What a scan and an index tell of a folder. The key lemma is clean_so.
use Rattle.std.proofs.Common.{Bool, true, false, not, refl, sym, ap, ◌∙◌}
use Rattle.std.proofs.lemmas.Bool.{false≢true}
use Rattle.std.specs.FinMap as fin
use Rattle.std.specs.Prelude.{◌↔◌, IsTrue}
use Rattle.block_chunker.specs.declared.cuts.Cuts.{Cuts}
use Rattle.folder_side.specs.Folder.{Contents}
use Rattle.folder_side.specs.ScanReport.{IsScan}
use Rattle.folder_side.specs.declared.scan_report.Scan.{Scan}
use Rattle.local_index.specs.ScanChanges.{change_of}
use Rattle.local_index.specs.declared.index.Index.{Index}
use Rattle.sync_daemon.specs.Rounds.{TellsChange}
use Rattle.sync_rules.specs.Offer.{Agrees}

pub clean_so : (cuts : Cuts) (c : Contents) (report : Scan) (index : Index) (changed : Bool) → IsScan cuts c report → TellsChange report index changed
    → IsTrue (not changed) ↔ Agrees cuts c index
clean_so cuts c report index false seen same = (
  λ clean path. ap (λ o. change_of o (fin.get index.entries path)) (sym (seen.paths path)) ∙ same path,
  λ agrees. refl,
)
clean_so cuts c report index true seen other = (
  λ clean. absurd (false≢true clean),
  λ agrees. absurd (other (λ path. ap (λ o. change_of o (fin.get index.entries path)) (seen.paths path) ∙ agrees path)),
)

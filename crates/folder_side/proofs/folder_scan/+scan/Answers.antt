use Rattle.std.proofs.Common.{◌≤◌, ◌∙◌, sym, ap, subst, arith, Some}
use Rattle.std.specs.FinMap as map
use Rattle.folder_side.specs.Folder.{at}
use Rattle.folder_side.proofs.CallLemmas.{glances_same, glances_then}
use Rattle.folder_side.proofs.ScanStepLemmas.{dir_nameless, dir_items, item_at, Goes-more, Goes-end, kind_other, kind_file, kind_dir, other_is_no_dir, file_is_no_dir, leaf_item, dir_item}
use Rattle.folder_side.proofs.folder_scan.+scan.Goals as goal
use Rattle.tree_model.specs.declared.limits.TheConstants.{MAX_PATHS}

pub scan_dir-returns-in-Err-clause-value : goal.scan_dir-returns-in-Err-clause-value
scan_dir-returns-in-Err-clause-value g t c = λ c' told are. c.scan_fault.ensures.value c'

pub scan_dir-returns-in-Err-note_if_nameless-clause-value : goal.scan_dir-returns-in-Err-note_if_nameless-clause-value
scan_dir-returns-in-Err-note_if_nameless-clause-value g t c = λ c' told are.
    c.in-Err-note_if_nameless.ensures.value c.args.cuts c' are (dir_nameless c' c.args.dir.now c.in-Ok.listing (c.in-Ok.ensures.listed c' told))

pub scan_dir-loop-item-init : goal.scan_dir-loop-item-init
scan_dir-loop-item-init g t c = record {
  told = c.in-Ok.ensures.stays.0;
  spare = c.in-Ok.ensures.stays.1;
  traced = glances_same _ _ c.in-Ok.ensures.traced;
  faults = c.in-Ok.ensures.faults;
  few = subst (λ m. map.len m ≤ MAX_PATHS) (sym c.in-Ok-note_if_nameless.ensures.stays) c.requires.few;
  folder = c.in-Ok.ensures.formed;
  items = λ c' told. c.slice-item-items.ensures.value ∙ dir_items c' c.args.dir.now c.in-Ok.listing (c.in-Ok.ensures.listed c' told);
  goes = λ c' told are.
      let noted = c.in-Ok-note_if_nameless.ensures.value c.args.cuts c' are (dir_nameless c' c.args.dir.now c.in-Ok.listing (c.in-Ok.ensures.listed c' told)) in
      record { grows = noted.0; nameless = noted.1; known = tt };
}

pub scan_dir-returns-in-Err-scan_item-clause-value : goal.scan_dir-returns-in-Err-scan_item-clause-value
scan_dir-returns-in-Err-scan_item-clause-value g t c = λ c' told are.
    let goes = c.loop-item.invariant.goes c' told are in
    let item = item_at c' c.args.dir.now c.slice-item-items.result.now c.loop-item.item-index c.item-item.result (c.loop-item.invariant.items c' told) (omega arith) c.item-item.is in
    c.in-Err-scan_item.ensures.value c' item.holding (c.loop-item.invariant.told ∙ told) (c.loop-item.invariant.folder c' told) goes.grows.are_of item.there item.kind

pub scan_dir-loop-item-preserved : goal.scan_dir-loop-item-preserved
scan_dir-loop-item-preserved g t c = record {
  told = c.in-Ok-scan_item.ensures.stays.0 ∙ c.loop-item.invariant.told;
  spare = c.in-Ok-scan_item.ensures.stays.1 ∙ c.loop-item.invariant.spare;
  traced = glances_then _ _ _ c.loop-item.invariant.traced c.in-Ok-scan_item.ensures.traced;
  faults = c.in-Ok-scan_item.ensures.faults ∙ c.loop-item.invariant.faults;
  few = c.in-Ok-scan_item.ensures.few;
  folder = c.loop-item.invariant.folder;
  items = c.loop-item.invariant.items;
  goes = λ c' told are.
      let goes = c.loop-item.invariant.goes c' told are in
      let item = item_at c' c.args.dir.now c.slice-item-items.result.now c.loop-item.item-index c.item-item.result (c.loop-item.invariant.items c' told) (omega arith) c.item-item.is in
      Goes-more c.args.cuts c' c.args.dir.now c.slice-item-items.result.now c.loop-item.item-index c.item-item.result c.args.found.now c.loop-item.found c.scan_item.new.found (omega arith) c.item-item.is goes
      (c.in-Ok-scan_item.ensures.value c' item.holding (c.loop-item.invariant.told ∙ told) (c.loop-item.invariant.folder c' told) goes.grows.are_of item.there item.kind);
}

pub scan_dir-returns-clause-value : goal.scan_dir-returns-clause-value
scan_dir-returns-clause-value g t c = λ c' told are. (
  c.loop-item.invariant.folder c' told,
  Goes-end c.args.cuts c' c.args.dir.now c.slice-item-items.result.now c.loop-item.item-index c.args.found.now c.loop-item.found (c.loop-item.invariant.folder c' told)
      (c.loop-item.invariant.items c' told) (omega arith) (c.loop-item.invariant.goes c' told are),
)

pub scan_item-returns-in-Other-clause-value : goal.scan_item-returns-in-Other-clause-value
scan_item-returns-in-Other-clause-value g t c = λ c' holding told folder are there kind.
    let is = kind_other holding (sym kind ∙ c.in-Other.is) in
    let here = ap (at c') c.in-Ok.ensures.value ∙ there ∙ ap Some is in
    leaf_item c.args.cuts c' c.args.found.now c.note_other.new.found c.args.dir.now c.args.item.now.name c.in-Ok.path c.in-Ok.ensures.value folder
    (other_is_no_dir (at c' c.in-Ok.path) here) c.note_other.result (c.note_other.ensures.value c.args.cuts c' are here)

pub scan_item-returns-in-File-clause-value : goal.scan_item-returns-in-File-clause-value
scan_item-returns-in-File-clause-value g t c = λ c' holding told folder are there kind.
    let is = kind_file holding (sym kind ∙ c.in-File.is) in
    let here = ap (at c') c.in-Ok.ensures.value ∙ there ∙ ap Some is.1 in
    leaf_item c.args.cuts c' c.args.found.now c.scan_file.new.found c.args.dir.now c.args.item.now.name c.in-Ok.path c.in-Ok.ensures.value folder
    (file_is_no_dir (at c' c.in-Ok.path) is.0 here) c.scan_file.result (c.scan_file.ensures.value c' is.0 told are here)

pub scan_item-returns-in-Ok-note_child-clause-value : goal.scan_item-returns-in-Ok-note_child-clause-value
scan_item-returns-in-Ok-note_child-clause-value g t c = λ c' holding told folder are there kind.
    let is = kind_dir holding (sym kind ∙ c.in-Dir.is) in
    let here = ap (at c') c.in-Ok.ensures.value ∙ there ∙ ap Some is in
    let taken = c.in-Ok-note_child.ensures.value c.args.cuts c' are here in
    dir_item c.args.cuts c' c.args.found.now c.note_child.new.found c.scan_dir.new.found c.args.dir.now c.args.item.now.name c.in-Ok.path c.in-Ok.ensures.value taken
    c.scan_dir.result (c.scan_dir.ensures.value c' told taken.grows.are_of)

pub scan_dir-returns-in-Err-clause-traced : goal.scan_dir-returns-in-Err-clause-traced
scan_dir-returns-in-Err-clause-traced g t c = glances_same _ _ c.in-Err.ensures.traced

pub scan_dir-returns-in-Err-note_if_nameless-clause-traced : goal.scan_dir-returns-in-Err-note_if_nameless-clause-traced
scan_dir-returns-in-Err-note_if_nameless-clause-traced g t c = glances_same _ _ c.in-Ok.ensures.traced

pub scan_dir-returns-in-Err-scan_item-clause-traced : goal.scan_dir-returns-in-Err-scan_item-clause-traced
scan_dir-returns-in-Err-scan_item-clause-traced g t c = glances_then _ _ _ c.loop-item.invariant.traced c.in-Err-scan_item.ensures.traced

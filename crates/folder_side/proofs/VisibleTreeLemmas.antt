-- What a scan means for the visible tree. The key lemmas are seen-visible and stuck-told.
use Rattle.std.proofs.Common.{◌≡◌, Bool, true, false, ◌&&◌, ◌||◌, if◌then◌else◌, List, [], ◌∷◌, refl, sym, ap, ◌∙◌, Option, Some, None, option_and_then, option_map}
use Rattle.std.specs.List.{filter_map, cons_option, list_any}
use Rattle.std.specs.FinMap as map
use Rattle.tree_model.specs.DirectorySurvival.{is_within, is_under}
use Rattle.tree_model.specs.Path.{PathV}
use Rattle.block_chunker.specs.declared.cuts.Cuts.{Cuts}
use Rattle.folder_side.specs.declared.holding.Holding.{Holding}
use Rattle.folder_side.specs.declared.holding.Holding.TheVariants.{Dir, File, Other}
use Rattle.folder_side.specs.declared.scan_report.Scan.{Scan}
use Rattle.folder_side.specs.Folder.{Contents, at, is_other, is_dir}
use Rattle.folder_side.specs.ScanReport.{seen_of, IsScan}
use Rattle.folder_side.specs.WorkingTree.{held_of, is_stuck, seen_as}
use Rattle.std.specs.Prelude.{nat_lt}
use Rattle.std.proofs.Math.Bool.{and-true, and-false}

pub seen-visible : (cuts : Cuts) (o : Option Holding) → option_and_then (seen_of cuts) o ≡ option_map (seen_as cuts) (option_and_then held_of o)
seen-visible cuts None = refl
seen-visible cuts (Some Dir) = refl
seen-visible cuts (Some (File bytes)) = refl
seen-visible cuts (Some Other) = refl

-- an entry that is chosen passes a test of its path exactly where the path of one that is chosen does
any-chosen : {X : Type 0} (p : PathV → Bool) (q : X → Bool) (entries : List (PathV × X)) →
    list_any (λ entry. p entry.0 && q entry.1) entries ≡ list_any p (filter_map (λ entry. if q entry.1 then Some entry.0 else None) entries)
any-chosen p q [] = refl
any-chosen {X = X} p q (e ∷ entries) = by (q e.1) (any-chosen p q entries)
  where
    some : Bool
    some = list_any (λ entry. p entry.0 && q entry.1) entries

    paths : List PathV
    paths = filter_map (λ entry. if q entry.1 then Some entry.0 else None) entries

    by : (b : Bool) → some ≡ list_any p paths → ((p e.0 && b) || some) ≡ list_any p (cons_option (if b then Some e.0 else None) paths)
    by true more = λ i. and-true (p e.0) i || more i
    by false more = λ i. and-false (p e.0) i || more i

pub stuck-told : (cuts : Cuts) (c : Contents) (scan : Scan) → IsScan cuts c scan → (dir : PathV) →
    is_stuck c dir ≡ (is_dir (at c dir) && (list_any (is_under dir) scan.skipped || list_any (is_within dir) scan.nameless))
stuck-told cuts c scan is dir =
    let others = any-chosen (is_under dir) is_other (map.entries c.paths) ∙ ap (list_any (is_under dir)) (sym is.skipped)
    in let hidden = any-chosen (is_within dir) (nat_lt 0) (map.entries c.nameless) ∙ ap (list_any (is_within dir)) (sym is.nameless)
    in λ i. is_dir (at c dir) && (others i || hidden i)

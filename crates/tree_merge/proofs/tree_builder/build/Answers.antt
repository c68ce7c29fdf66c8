use Rattle.std.proofs.Common.{◌≡◌, ◌∙◌, None, ap, option_map}
use Rattle.std.specs.FinMap as map
use Rattle.tree_model.specs.Path.{PathV, path_cmp}
use Rattle.tree_merge.specs.TreeBuilding.{kept_ids}
use Rattle.tree_merge.specs.declared.opening.Kept.{Kept}
use Rattle.tree_merge.proofs.KeptBuiltLemmas.{dirs_no_kept, keeps_nothing, no_kept, no_objects}
use Rattle.tree_merge.proofs.TableLemmas.{if_ok_more}
use Rattle.tree_merge.proofs.tree_builder.build.Goals as goal

nothing_kept : (kept : map.FinMap path_cmp Kept) → kept ≡ map.empty → (q : PathV) → kept_ids kept q ≡ None
nothing_kept kept is q = ap (option_map (λ own. own.id)) (ap (λ m. map.get m q) is ∙ map.get-empty path_cmp q)

pub returns : goal.returns
returns c =
    let none = nothing_kept c.new-kept.result c.new-kept.ensures.value in
    record {
      value = if_ok_more c.build_over.result (λ built h sound objects keeps. h no_objects c.args.entries (no_kept (kept_ids c.new-kept.result) none c.args.entries sound) objects (keeps_nothing objects) keeps) c.build_over.ensures.value;
      needed = if_ok_more c.build_over.result (λ built h sound id has objects keeps. h no_objects c.args.entries (no_kept (kept_ids c.new-kept.result) none c.args.entries sound) id has objects keeps) c.build_over.ensures.needed;
      dirs = if_ok_more c.build_over.result
          (λ built h sound. let both = h no_objects c.args.entries (no_kept (kept_ids c.new-kept.result) none c.args.entries sound) in (dirs_no_kept (kept_ids c.new-kept.result) none c.args.entries built.made both.0, both.1))
          c.build_over.ensures.dirs;
      zeros = if_ok_more c.build_over.result (λ built h sound. h no_objects c.args.entries (no_kept (kept_ids c.new-kept.result) none c.args.entries sound)) c.build_over.ensures.zeros;
      stays = c.build_over.ensures.stays;
      taken = λ id e sound. c.build_over.ensures.taken id e no_objects c.args.entries (no_kept (kept_ids c.new-kept.result) none c.args.entries sound);
      cause = c.build_over.ensures.cause;
    }

use Rattle.std.proofs.Common.{◌≡◌, ◌∙◌, ◌++◌, ◌∷◌, ℕ, List, [], ap, sym, subst, arith, Option, Some, None, is_some, Err, inl, inr, refl}
use Rattle.tree_merge.specs.declared.tree_builder.BuildFault.TheVariants.{Taken}
use Rattle.tree_merge.proofs.MadeLemmas.{build_caused, fault_told}
use Rattle.std.specs.FinMap as map
use Rattle.std.specs.List.{IsDistinct}
use Rattle.std.specs.Str.{bytes_eq}
use Rattle.ids.specs.Key.{Objects, key_cmp}
use Rattle.tree_model.specs.Path.{PathV, path_cmp}
use Rattle.fs_objects.specs.Directory.{names_of}
use Rattle.fs_objects.specs.declared.dirent.Dirent.{Dirent}
use Rattle.object_graph.specs.Objects.{entry_named}
use Rattle.tree_merge.specs.Sides.{Entries}
use Rattle.tree_merge.specs.TreeBuilding.{Given, IsRefusedList, IsShownPart, Lists, held_at, kept_ids}
use Rattle.object_graph.specs.declared.entry.Entry.{Entry}
use Rattle.tree_merge.proofs.TableLemmas.{get-popped, popped_len, above_popped, below_popped, gone_too}
use Rattle.tree_merge.proofs.DirentLemmas.{distinct_none}
use Rattle.tree_merge.proofs.BuildingLemmas.{built_more, entry_name}
use Rattle.tree_merge.proofs.BuiltSoFarLemmas.{built_start}
use Rattle.tree_merge.proofs.BuiltLemmas.{without_root, no_root_left, distinct_more, to_do_more}
use Rattle.tree_merge.proofs.KeptBuiltLemmas.{built_all, ids_all, needed_all, part_same, root_empty}
use Rattle.tree_merge.proofs.DirectoryLemmas.{dirs_start, dirs_more, dirs_all, root_nil, clash_here}
use Rattle.tree_merge.proofs.PathOrderLemmas.{before_child}
use Rattle.tree_merge.proofs.tree_builder.build_over.Goals as goal

nothing_held : (m : map.FinMap path_cmp (List Dirent)) → m ≡ map.empty → (d : PathV) → held_at (map.get m d) ≡ []
nothing_held m is d = ap held_at (ap (λ n. map.get n d) is ∙ map.get-empty path_cmp d)

no_key : {X : Type 0} (x : X) (o : Option X) → o ≡ Some x → o ≡ None → ⊥
no_key x o there none = let both : Some x ≡ None = sym there ∙ none in cc

pub loop-path-init : goal.loop-path-init
loop-path-init c = record {
  root = no_root_left c.args.entries c.drop_root.new.table c.drop_root.ensures.ok;
  distinct = λ d. subst (λ es. IsDistinct bytes_eq (names_of es)) (sym (nothing_held c.new-held.result c.new-held.ensures.value d)) distinct_none;
  to_do = λ d n there. ap (entry_named n) (nothing_held c.new-held.result c.new-held.ensures.value d);
  named = λ key bytes there. absurd (no_key bytes (map.get c.new-made.result key) there (ap (λ m. map.get m key) c.new-made.ensures.value ∙ map.get-empty key_cmp key));
  built = λ stored whole part. built_start stored (kept_ids c.args.kept.now) whole c.drop_root.new.table (λ d. held_at (map.get c.new-held.result d)) c.new-made.result part (nothing_held c.new-held.result c.new-held.ensures.value) c.new-made.ensures.value;
  dirs = λ stored whole part. dirs_start (kept_ids c.args.kept.now) whole (λ d. held_at (map.get c.new-held.result d)) c.new-made.result (nothing_held c.new-held.result c.new-held.ensures.value) c.new-made.ensures.value;
}

pub add_entry-requires : goal.add_entry-requires
add_entry-requires c = record {
  some = λ root. no_key c.in-Some.entry (map.get c.loop-path.entries c.in-Some.path) c.in-Some.ensures.value (ap (map.get c.loop-path.entries) root ∙ c.loop-path.invariant.root);
  ready = c.loop-path.invariant.distinct c.in-Some.path;
}

pub loop-path-smaller : goal.loop-path-smaller
loop-path-smaller c =
    let one = popped_len c.loop-path.entries c.pop_last.new.self (c.in-Some.path, c.in-Some.entry) c.in-Some.ensures.found in
    omega arith

pub loop-path-preserved : goal.loop-path-preserved
loop-path-preserved c =
    let inv = c.loop-path.invariant in
    let added = c.in-Ok.ensures.ok in
    let popped = get-popped c.loop-path.entries c.pop_last.new.self (c.in-Some.path, c.in-Some.entry) c.in-Some.ensures.ok in
    let there = c.in-Some.ensures.value in
    let free = inv.to_do added.dir added.name (ap (λ q. is_some (map.get c.loop-path.entries q)) (sym added.split) ∙ ap is_some there) in
    let name = entry_name c.add_entry.new.made added.name (kept_ids c.args.kept.now c.in-Some.path) c.in-Some.entry (held_at (map.get c.loop-path.held c.in-Some.path)) added.dirent added.made in
    record {
      root = gone_too c.loop-path.entries c.pop_last.new.self (c.in-Some.path, c.in-Some.entry) c.in-Some.ensures.ok [] inv.root;
      distinct = distinct_more c.loop-path.entries c.pop_last.new.self (λ d. held_at (map.get c.loop-path.held d)) (λ d. held_at (map.get c.add_entry.new.held d))
          c.in-Some.path added.dir added.name added.dirent added.split name free added.listed inv.distinct;
      to_do = to_do_more c.loop-path.entries c.pop_last.new.self (λ d. held_at (map.get c.loop-path.held d)) (λ d. held_at (map.get c.add_entry.new.held d))
          c.in-Some.path added.dir added.name added.dirent added.split name free added.listed popped inv.to_do;
      named = c.in-Ok.ensures.named inv.named;
      built = λ stored whole part.
          built_more stored (kept_ids c.args.kept.now) whole c.drop_root.new.table c.loop-path.entries c.pop_last.new.self (λ d. held_at (map.get c.loop-path.held d)) (λ d. held_at (map.get c.add_entry.new.held d))
          c.loop-path.made c.add_entry.new.made c.in-Some.path added.dir added.name c.in-Some.entry added.dirent
          part (inv.built stored whole part) added.split there popped
          (above_popped c.loop-path.entries c.pop_last.new.self (c.in-Some.path, c.in-Some.entry) c.in-Some.ensures.found)
          (below_popped c.loop-path.entries c.pop_last.new.self (c.in-Some.path, c.in-Some.entry) c.in-Some.ensures.found)
          added.made c.in-Ok.ensures.stays added.told free added.listed;
      dirs = λ stored whole part.
          dirs_more stored (kept_ids c.args.kept.now) whole c.drop_root.new.table c.loop-path.entries (λ d. held_at (map.get c.loop-path.held d)) (λ d. held_at (map.get c.add_entry.new.held d))
          c.loop-path.made c.add_entry.new.made c.in-Some.path added.dir added.name c.in-Some.entry added.dirent
          part (inv.built stored whole part) (inv.dirs stored whole part) added.split there
          (above_popped c.loop-path.entries c.pop_last.new.self (c.in-Some.path, c.in-Some.entry) c.in-Some.ensures.found)
          (before_child c.in-Some.path)
          added.made c.in-Ok.ensures.stays (c.in-Ok.ensures.named inv.named) added.told added.listed;
    }

gone_all : (m : map.FinMap path_cmp Entry) → m ≡ map.empty → (q : PathV) → map.get m q ≡ None
gone_all m is q = ap (λ n. map.get n q) is ∙ map.get-empty path_cmp q

top_lists : (made : Objects) (root : List ℕ) (held : map.FinMap path_cmp (List Dirent)) (top : PathV) (got : Option (List Dirent)) → top ≡ [] → got ≡ map.get held top
    → Lists made root (held_at got) → Lists made root (held_at (map.get held []))
top_lists made root held top got is told lists = subst (λ (o : Option (List Dirent)). Lists made root (held_at o)) (told ∙ ap (map.get held) is) lists

part_here : (stored : Given) (kept : PathV → Option (List ℕ)) (whole old new : Entries) → new ≡ map.remove old [] → IsShownPart stored kept whole old → IsShownPart stored kept whole new
part_here stored kept whole old new is part = part_same stored kept whole old new (without_root old new is part.nodes.no_root) part

pub returns-in-Ok-make_directory-clause-value : goal.returns-in-Ok-make_directory-clause-value
returns-in-Ok-make_directory-clause-value c stored whole part objects also keeps path =
    let own = part_here stored (kept_ids c.args.kept.now) whole c.args.entries c.drop_root.new.table c.drop_root.ensures.ok part in
    built_all stored (kept_ids c.args.kept.now) whole c.drop_root.new.table c.loop-path.entries (λ d. held_at (map.get c.loop-path.held d)) c.loop-path.made c.make_directory.new.made c.in-Ok-make_directory.root own
    (c.loop-path.invariant.built stored whole own) (gone_all c.loop-path.entries c.in_default.ensures.absent) c.in-Ok-make_directory.ensures.stays
    (top_lists c.make_directory.new.made c.in-Ok-make_directory.root c.loop-path.held c.root-root.result c.remove-top.result c.root-root.ensures.value c.remove-top.ensures.value c.in-Ok-make_directory.ensures.value)
    objects also keeps path

pub returns-in-Ok-make_directory-clause-needed : goal.returns-in-Ok-make_directory-clause-needed
returns-in-Ok-make_directory-clause-needed c stored whole part id has objects keeps =
    let own = part_here stored (kept_ids c.args.kept.now) whole c.args.entries c.drop_root.new.table c.drop_root.ensures.ok part in
    needed_all stored (kept_ids c.args.kept.now) whole c.drop_root.new.table c.loop-path.entries (λ d. held_at (map.get c.loop-path.held d)) c.loop-path.made c.make_directory.new.made c.in-Ok-make_directory.root own
    (c.loop-path.invariant.built stored whole own) (gone_all c.loop-path.entries c.in_default.ensures.absent) c.in-Ok-make_directory.ensures.stays
    (top_lists c.make_directory.new.made c.in-Ok-make_directory.root c.loop-path.held c.root-root.result c.remove-top.result c.root-root.ensures.value c.remove-top.ensures.value c.in-Ok-make_directory.ensures.value)
    c.in-Ok-make_directory.ensures.told id has objects keeps

pub returns-in-Ok-make_directory-clause-ids : goal.returns-in-Ok-make_directory-clause-ids
returns-in-Ok-make_directory-clause-ids c stored whole part dir id kept objects keeps =
    let own = part_here stored (kept_ids c.args.kept.now) whole c.args.entries c.drop_root.new.table c.drop_root.ensures.ok part in
    ids_all stored (kept_ids c.args.kept.now) whole c.drop_root.new.table c.loop-path.entries (λ d. held_at (map.get c.loop-path.held d)) c.loop-path.made c.make_directory.new.made c.in-Ok-make_directory.root own
    (c.loop-path.invariant.built stored whole own) (gone_all c.loop-path.entries c.in_default.ensures.absent) c.in-Ok-make_directory.ensures.stays
    (top_lists c.make_directory.new.made c.in-Ok-make_directory.root c.loop-path.held c.root-root.result c.remove-top.result c.root-root.ensures.value c.remove-top.ensures.value c.in-Ok-make_directory.ensures.value)
    dir id kept objects keeps

pub returns-in-Ok-make_directory-clause-stays : goal.returns-in-Ok-make_directory-clause-stays
returns-in-Ok-make_directory-clause-stays c = c.in-Ok-make_directory.ensures.named c.loop-path.invariant.named

pub returns-in-Ok-make_directory-clause-dirs : goal.returns-in-Ok-make_directory-clause-dirs
returns-in-Ok-make_directory-clause-dirs c stored whole part =
    let own = part_here stored (kept_ids c.args.kept.now) whole c.args.entries c.drop_root.new.table c.drop_root.ensures.ok part in
    dirs_all stored (kept_ids c.args.kept.now) whole c.drop_root.new.table c.loop-path.entries (λ d. held_at (map.get c.loop-path.held d)) c.loop-path.made c.make_directory.new.made c.in-Ok-make_directory.root own
    (c.loop-path.invariant.built stored whole own) (c.loop-path.invariant.dirs stored whole own) (gone_all c.loop-path.entries c.in_default.ensures.absent) c.in-Ok-make_directory.ensures.stays
    (c.in-Ok-make_directory.ensures.named c.loop-path.invariant.named)
    (top_lists c.make_directory.new.made c.in-Ok-make_directory.root c.loop-path.held c.root-root.result c.remove-top.result c.root-root.ensures.value c.remove-top.ensures.value c.in-Ok-make_directory.ensures.value)
    c.in-Ok-make_directory.ensures.told

pub returns-in-Ok-make_directory-clause-zeros : goal.returns-in-Ok-make_directory-clause-zeros
returns-in-Ok-make_directory-clause-zeros c stored whole part =
    let own = part_here stored (kept_ids c.args.kept.now) whole c.args.entries c.drop_root.new.table c.drop_root.ensures.ok part in
    root_empty whole c.in-Ok-make_directory.root part.sound
    (root_nil stored (kept_ids c.args.kept.now) whole c.drop_root.new.table c.loop-path.entries (λ d. held_at (map.get c.loop-path.held d)) c.loop-path.made c.make_directory.new.made c.in-Ok-make_directory.root own
    (c.loop-path.invariant.built stored whole own) (gone_all c.loop-path.entries c.in_default.ensures.absent)
    (top_lists c.make_directory.new.made c.in-Ok-make_directory.root c.loop-path.held c.root-root.result c.remove-top.result c.root-root.ensures.value c.remove-top.ensures.value c.in-Ok-make_directory.ensures.value))

pub returns-in-Err-clause-taken : goal.returns-in-Err-clause-taken
returns-in-Err-clause-taken c id e stored whole part =
    let own = part_here stored (kept_ids c.args.kept.now) whole c.args.entries c.drop_root.new.table c.drop_root.ensures.ok part in
    let refused = c.in-Err.ensures.taken id (ap Err (fault_told c.in-Err.fault (Taken id) e)) in
    let there = c.in-Some.ensures.value in
    let built = c.loop-path.invariant.built stored whole own in
    let given = sym (built.still c.in-Some.path (ap is_some there)) ∙ there in
    clash_here stored (kept_ids c.args.kept.now) whole c.drop_root.new.table c.loop-path.entries (λ d. held_at (map.get c.loop-path.held d)) c.loop-path.made c.in-Some.path id
    built (c.loop-path.invariant.dirs stored whole own) c.loop-path.invariant.named (inr (ap is_some there))
    (inr (sym (own.shown c.in-Some.path (ap is_some given)) ∙ given ∙ ap Some refused.is_dir)) refused.not_kept
    (λ name. above_popped c.loop-path.entries c.pop_last.new.self (c.in-Some.path, c.in-Some.entry) c.in-Some.ensures.found (c.in-Some.path ++ name ∷ []) (before_child c.in-Some.path name))
    refused.refused

pub returns-in-Err-clause-cause : goal.returns-in-Err-clause-cause
returns-in-Err-clause-cause c =
    build_caused c.loop-path.made (held_at (map.get c.loop-path.held c.in-Some.path)) c.loop-path.invariant.named c.in-Err.fault
    (λ id e. (c.in-Err.ensures.taken id (ap Err e)).refused)

top_refused : (made : Objects) (id : List ℕ) (held : map.FinMap path_cmp (List Dirent)) (top : PathV) (got : Option (List Dirent)) → top ≡ [] → got ≡ map.get held top
    → IsRefusedList made (held_at got) id → IsRefusedList made (held_at (map.get held [])) id
top_refused made id held top got is told refused = subst (λ (o : Option (List Dirent)). IsRefusedList made (held_at o) id) (told ∙ ap (map.get held) is) refused

pub returns-clause-taken : goal.returns-clause-taken
returns-clause-taken c id e stored whole part =
    let own = part_here stored (kept_ids c.args.kept.now) whole c.args.entries c.drop_root.new.table c.drop_root.ensures.ok part in
    let refused = c.in-Err-make_directory.ensures.taken id (ap Err (fault_told c.in-Err-make_directory.fault (Taken id) e)) in
    clash_here stored (kept_ids c.args.kept.now) whole c.drop_root.new.table c.loop-path.entries (λ d. held_at (map.get c.loop-path.held d)) c.loop-path.made [] id
    (c.loop-path.invariant.built stored whole own) (c.loop-path.invariant.dirs stored whole own) c.loop-path.invariant.named (inl refl) (inl refl) own.top
    (λ name. gone_all c.loop-path.entries c.in_default.ensures.absent (name ∷ []))
    (top_refused c.loop-path.made id c.loop-path.held c.root-root.result c.remove-top.result c.root-root.ensures.value c.remove-top.ensures.value refused)

pub returns-clause-cause : goal.returns-clause-cause
returns-clause-cause c =
    build_caused c.loop-path.made (held_at c.remove-top.result) c.loop-path.invariant.named c.in-Err-make_directory.fault
    (λ id e. c.in-Err-make_directory.ensures.taken id (ap Err e))

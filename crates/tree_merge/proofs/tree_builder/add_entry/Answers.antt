use Rattle.std.proofs.Common.{◌≡◌, ◌∙◌, ◌⊎◌, ℕ, List, Option, subst, ap, sym, Err}
use Rattle.std.specs.FinMap as map
use Rattle.ids.specs.Key.{Objects}
use Rattle.fs_objects.specs.declared.dirent.Dirent.{Dirent}
use Rattle.object_graph.specs.declared.entry.Entry.{Entry}
use Rattle.tree_merge.specs.TreeBuilding.{held_at, IsEntryListed, IsRefusedList, IsOwnListed, HasMade, kept_ids}
use Rattle.tree_merge.specs.declared.tree_builder.BuildFault.TheVariants.{Taken}
use Rattle.tree_merge.proofs.MadeLemmas.{fault_told}
use Rattle.tree_merge.proofs.HeldLemmas.{emptied_is}
use Rattle.tree_merge.proofs.tree_builder.add_entry.Goals as goal

listed_by : (made : Objects) (name : List ℕ) (entry : Entry) (e : Dirent) (own own2 : Option (List ℕ)) (es es2 : Option (List Dirent)) → own ≡ own2 → es ≡ es2
    → IsEntryListed made name own entry (held_at es) e → IsEntryListed made name own2 entry (held_at es2) e
listed_by made name entry e own own2 es es2 is also h =
    subst (λ (o : Option (List ℕ)). IsEntryListed made name o entry (held_at es2) e) is (subst (λ (l : Option (List Dirent)). IsEntryListed made name own entry (held_at l) e) also h)

pub returns-in-Ok-hold-clause-ok : goal.returns-in-Ok-hold-clause-ok
returns-in-Ok-hold-clause-ok c = record {
  dir = c.in-Some.dir;
  name = c.in-Some.name;
  dirent = c.in-Ok.dirent;
  split = c.in-Some.ensures.value;
  made = listed_by c.make_dirent.new.made c.in-Some.name c.args.entry c.in-Ok.dirent c.kept_at-own.result (kept_ids c.args.kept.now c.args.path) c.remove-entries.result (map.get c.args.held.now c.args.path)
      c.kept_at-own.ensures.value c.remove-entries.ensures.value c.in-Ok.ensures.value;
  told = λ id has. subst (λ (o : Option (List ℕ)). (HasMade c.args.made.now id) ⊎ IsOwnListed o c.args.entry c.in-Ok.dirent id) c.kept_at-own.ensures.value (c.in-Ok.ensures.told id has);
  listed = λ q. emptied_is c.args.held.now c.remove-entries.new.self c.hold.new.held c.args.path c.in-Some.dir c.in-Ok.dirent c.remove-entries.ensures.ok c.in-Ok-hold.ensures.ok q;
}

pub returns-in-Err-clause-taken : goal.returns-in-Err-clause-taken
returns-in-Err-clause-taken c id e =
    let refused = c.in-Err.ensures.taken id (ap Err (fault_told c.in-Err.fault (Taken id) e)) in
    record {
      is_dir = refused.is_dir;
      not_kept = sym c.kept_at-own.ensures.value ∙ refused.not_kept;
      refused = subst (λ es. IsRefusedList c.args.made.now (held_at es) id) c.remove-entries.ensures.value refused.refused;
    }

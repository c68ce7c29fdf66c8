-- The entries of a directory, put into a table by their paths, and taken out of three of them. The key lemmas are tells_more and
-- taken_left.
use Rattle.std.proofs.Common.{◌≡◌, ◌≤◌, ◌<◌, ◌-◌, ℕ, Bool, true, false, cond, if◌then◌else◌, List, [], ◌∷◌, ◌++◌, length, refl, sym, ap, ◌∙◌, arith, length-append, Option, Some, None, is_some, IsSome, true≢false}
use Rattle.std.specs.Option.{option_or}
use Rattle.std.specs.FinMap as map
use Rattle.tree_model.specs.Path.{PathV, path_cmp}
use Rattle.tree_model.specs.PathOrder.{paths_total}
use Rattle.tree_model.proofs.BelowLemmas.{last_push}
use Rattle.tree_model.proofs.ListedLemmas.{same_path, same_path-apart, same_path-itself, same_path-true}
use Rattle.tree_model.specs.Path.{last_name}
use Rattle.fs_objects.specs.declared.dirent.Dirent.{Dirent}
use Rattle.ids.specs.Key.{Objects}
use Rattle.ids.specs.ObjectId.{nil}
use Rattle.object_graph.specs.Objects.{dirents_at, entry_named}
use Rattle.object_graph.proofs.EntryLemmas.{same_name-true}
use Rattle.tree_merge.specs.Level.{Dirents, IsWithout, Tells}
use Rattle.tree_merge.proofs.DirentLemmas.{same_name, same_name-itself}
use Rattle.tree_merge.proofs.TableLemmas.{get-put}

-- ---- a table of entries

named_last : (name : List ℕ) (es : List Dirent) (e : Dirent) → entry_named name (es ++ e ∷ []) ≡ option_or (entry_named name es) (if same_name name e.name then Some e else None)
named_last name [] e = refl
named_last name (x ∷ es) e = by (same_name name x.name) (named_last name es e)
  where
    by : (b : Bool) → entry_named name (es ++ e ∷ []) ≡ option_or (entry_named name es) (if same_name name e.name then Some e else None)
        → (if b then Some x else entry_named name (es ++ e ∷ [])) ≡ option_or (if b then Some x else entry_named name es) (if same_name name e.name then Some e else None)
    by true more = refl
    by false more = more

pub same_child : (d : PathV) (m n : List ℕ) → same_path (d ++ m ∷ []) (d ++ n ∷ []) ≡ same_name m n
same_child d m n = by (same_name m n) refl
  where
    by : (b : Bool) → same_name m n ≡ b → same_path (d ++ m ∷ []) (d ++ n ∷ []) ≡ same_name m n
    by true e =
        let same : m ≡ n = same_name-true m n e in
        ap (λ k. same_path (d ++ k ∷ []) (d ++ n ∷ [])) same ∙ same_path-itself (d ++ n ∷ []) ∙ sym e
    by false e =
        same_path-apart (d ++ m ∷ []) (d ++ n ∷ []) (λ same. true≢false (sym (ap (λ k. same_name k n) (sym (last_push d m) ∙ ap last_name same ∙ last_push d n) ∙ same_name-itself n) ∙ e)) ∙ sym e

-- what is put already stands behind what is left
pub record TellsSo (path : PathV) (all left : List Dirent) (table : Dirents) : Type 0 where
  pub named : (name : List ℕ) → option_or (entry_named name left) (map.get table (path ++ name ∷ [])) ≡ entry_named name all
  pub only : (q : PathV) → IsSome (map.get table q) → (name : List ℕ) × (q ≡ path ++ name ∷ [])

pub tells_start : (path : PathV) (all : List Dirent) (table : Dirents) → table ≡ map.empty → TellsSo path all all table
tells_start path all table empty = record {
  named = λ name. ap (option_or (entry_named name all)) (none (path ++ name ∷ [])) ∙ or_none (entry_named name all);
  only = λ q there. absurd (true≢false (sym there ∙ ap is_some (none q)));
}
  where
    none : (q : PathV) → map.get table q ≡ None
    none q = ap (λ (m : Dirents). map.get m q) empty ∙ map.get-empty path_cmp q

    or_none : (o : Option Dirent) → option_or o None ≡ o
    or_none None = refl
    or_none (Some x) = refl

pub tells_more : (path own : PathV) (all left rest : List Dirent) (e : Dirent) (table new : Dirents) → TellsSo path all left table → left ≡ rest ++ e ∷ [] → own ≡ path ++ e.name ∷ []
    → new ≡ map.insert table own e → TellsSo path all rest new
tells_more path own all left rest e table new so split is put = record {
  named = λ name.
      ap (option_or (entry_named name rest)) (at name) ∙ moved (entry_named name rest) (same_name name e.name) (map.get table (path ++ name ∷ []))
      ∙ ap (λ o. option_or o (map.get table (path ++ name ∷ []))) (sym (named_last name rest e) ∙ ap (entry_named name) (sym split)) ∙ so.named name;
  only = λ q there. by q there (same_path q own) refl;
}
  where
    get_new : (q : PathV) → map.get new q ≡ (if same_path q own then Some e else map.get table q)
    get_new q = ap (λ (m : Dirents). map.get m q) put ∙ get-put table own e q

    at : (name : List ℕ) → map.get new (path ++ name ∷ []) ≡ (if same_name name e.name then Some e else map.get table (path ++ name ∷ []))
    at name =
        get_new (path ++ name ∷ [])
        ∙ ap (λ (b : Bool). if b then Some e else map.get table (path ++ name ∷ [])) (ap (same_path (path ++ name ∷ [])) is ∙ same_child path name e.name)

    moved : (o : Option Dirent) (b : Bool) (t : Option Dirent) → option_or o (if b then Some e else t) ≡ option_or (option_or o (if b then Some e else None)) t
    moved None true t = refl
    moved None false t = refl
    moved (Some x) b t = refl

    by : (q : PathV) → IsSome (map.get new q) → (b : Bool) → same_path q own ≡ b → (name : List ℕ) × (q ≡ path ++ name ∷ [])
    by q there true tie = (e.name, same_path-true q own tie ∙ is)
    by q there false apart = so.only q (ap is_some (sym (get_new q ∙ ap (λ (b : Bool). if b then Some e else map.get table q) apart)) ∙ there)

pub tells_end : (path : PathV) (all left : List Dirent) (table : Dirents) → left ≡ [] → TellsSo path all left table → Tells path all table
tells_end path all left table none so = record {
  named = λ name. ap (λ es. option_or (entry_named name es) (map.get table (path ++ name ∷ []))) (sym none) ∙ so.named name;
  only = so.only;
}

-- forty zeros are a directory of no entries
pub tells_nothing : (path : PathV) (entries : List Dirent) (table : Dirents) → entries ≡ [] → table ≡ map.empty → Tells path entries table
tells_nothing path entries table none empty = tells_end path entries entries table none (tells_start path entries table empty)

-- ---- what was taken

pub without_removed : (path : PathV) (old new : Dirents) → new ≡ map.remove old path → IsWithout path old new
without_removed path old new is q = ap (λ (m : Dirents). map.get m q) is ∙ map.get-remove paths_total old path q

pub without_none : (path : PathV) (old new : Dirents) → old ≡ map.empty → new ≡ old → IsWithout path old new
without_none path old new empty is q = ap (λ (m : Dirents). map.get m q) is ∙ by (same_path q path)
  where
    none : map.get old q ≡ None
    none = ap (λ (m : Dirents). map.get m q) empty ∙ map.get-empty path_cmp q

    by : (b : Bool) → map.get old q ≡ (if b then None else map.get old q)
    by true = none
    by false = refl

pub none_in : (path : PathV) (old : Dirents) → old ≡ map.empty → None ≡ map.get old path
none_in path old empty = sym (ap (λ (m : Dirents). map.get m path) empty ∙ map.get-empty path_cmp path)

pub removed_len : (path : PathV) (old new : Dirents) → new ≡ map.remove old path → map.len new ≤ map.len old
removed_len path old new is = by (map.contains_key old path) (ap map.len is ∙ map.len-remove paths_total old path)
  where
    by : (b : Bool) → map.len new ≡ cond b (map.len old - 1) (map.len old) → map.len new ≤ map.len old
    by true e = omega (arith, e)
    by false e = omega (arith, e)

pub popped_len : (old new : Dirents) (e : PathV × Dirent) → map.entries old ≡ map.entries new ++ e ∷ [] → map.len new < map.len old
popped_len old new e is =
    let a = map.len-entries old in
    let b = map.len-entries new in
    let c : length (map.entries old) ≡ length (map.entries new ++ e ∷ []) = ap length is in
    let d = length-append (map.entries new) (e ∷ []) in
    omega (arith, a, b, c, d)

pub nil_dirents : (objects : Objects) (id : List ℕ) → id ≡ nil → dirents_at objects id ≡ []
nil_dirents objects id is = ap (dirents_at objects) is

-- Whether the head's directory is right as it stands. The key lemmas are found_own, just_start, just_more, just_end and dirents_kept.
use Rattle.std.proofs.Common.{◌≡◌, ◌-◌, ◌↔◌, Bool, true, false, cond, if◌then◌else◌, ℕ, ℤ, List, [], ◌∷◌, ◌++◌, refl, sym, ap, ◌∙◌, subst, arith, Option, Some, None, IfNone, IfSome, is_some, option_map, Result, Ok, true≢false, ◌⊎◌, inl, inr}
use Rattle.std.specs.Cmp.Lexicographic.{bytes_decides}
use Rattle.std.specs.FinMap as map
use Rattle.ids.specs.Key.{Objects}
use Rattle.ids.proofs.BasicLemmas.{same_from_some}
use Rattle.tree_model.specs.Path.{PathV, path_cmp}
use Rattle.tree_model.specs.PathOrder.{paths_total}
use Rattle.tree_model.proofs.ListedLemmas.{same_path, same_path-true}
use Rattle.tree_model.proofs.OneSideLemmas.{same_len}
use Rattle.fs_objects.specs.Mode.{is_directory_mode}
use Rattle.fs_objects.specs.declared.dirent.Dirent.{Dirent}
use Rattle.fs_objects.specs.declared.fs_object.FsObject.{FsObject}
use Rattle.fs_objects.specs.declared.fs_object.FsObject.TheVariants as fs
use Rattle.object_graph.specs.Objects.{dirents_at, entries_of, entry_of, fs_at, fs_in, fs_key, is_nil, same_id}
use Rattle.object_graph.specs.Unchanged.{Keeps}
use Rattle.object_graph.specs.declared.entry.Entry.{Entry}
use Rattle.object_graph.specs.declared.entry.Entry.TheVariants.{Dir, File}
use Rattle.object_graph.specs.declared.fault.TreeFault.{TreeFault}
use Rattle.tree_merge.specs.HeadDirectory.{FindsOwn, IsRight, IsSameFile, ListsJust, StandsAs}
use Rattle.tree_merge.specs.Level.{Dirents, IsDirectoryAt, Tells}
use Rattle.tree_merge.specs.LevelMerge.{head_if}
use Rattle.tree_merge.specs.Opening.{IsDirectoryIf, id_in}
use Rattle.tree_merge.specs.Sides.{Entries}
use Rattle.tree_merge.specs.WorkSoFar.{is_refused}
use Rattle.tree_merge.specs.declared.opening.Kept.{Kept}
use Rattle.tree_merge.specs.declared.work.Work.{Work}
use Rattle.tree_merge.proofs.JoinedSideLemmas.{same_some}
use Rattle.tree_merge.proofs.TableLemmas.{get-popped, popped_len}

-- ---- a directory among more objects

pub dirents_kept : (objects more : Objects) → Keeps objects more → (id : List ℕ) → IsDirectoryAt objects id → dirents_at more id ≡ dirents_at objects id
dirents_kept objects more keeps id (inl zeros) =
    ap (λ (b : Bool). if b then [] else entries_of (fs_at more id)) zeros ∙ sym (ap (λ (b : Bool). if b then [] else entries_of (fs_at objects id)) zeros)
dirents_kept objects more keeps id (inr (entries, reads)) = ap (λ (r : Result FsObject TreeFault). if is_nil id then [] else entries_of r) (by (map.get objects (fs_key id)) refl reads)
  where
    by : (o : Option (List ℕ)) → map.get objects (fs_key id) ≡ o → fs_in (fs_key id) o ≡ Ok (fs.Dir entries) → fs_at more id ≡ fs_at objects id
    by None is found = cc found
    by (Some bytes) is found = ap (fs_in (fs_key id)) (keeps.kept (fs_key id) bytes is ∙ sym is)

-- ---- the head's directory is asked for, unless the merge is refused

pub asked_directory : (objects : Objects) (head : Option (List ℕ)) (work : Work) (asked : Option (List ℕ)) → asked ≡ head_if head work → IsDirectoryIf objects head → IsDirectoryIf objects asked
asked_directory objects head work asked is directory = subst (IsDirectoryIf objects) (sym is) (by (is_refused work))
  where
    by : (b : Bool) → IsDirectoryIf objects (if b then None else head)
    by true = tt
    by false = directory

pub asked_is : (head : Option (List ℕ)) (work : Work) (id : List ℕ) → head_if head work ≡ Some id → head ≡ Some id
asked_is head work id asked = by (is_refused work) asked
  where
    by : (b : Bool) → (if b then None else head) ≡ Some id → head ≡ Some id
    by true e = cc e
    by false e = e

-- ---- one table of a directory's entries

tells_same : (path : PathV) (entries : List Dirent) (t u : Dirents) → Tells path entries t → Tells path entries u → (q : PathV) → map.get t q ≡ map.get u q
tells_same path entries t u a b q = by (map.get t q) (map.get u q) refl refl
  where
    named : (n : List ℕ) → q ≡ path ++ n ∷ [] → map.get t q ≡ map.get u q
    named n is = ap (map.get t) is ∙ a.named n ∙ sym (b.named n) ∙ ap (map.get u) (sym is)

    by : (x y : Option Dirent) → map.get t q ≡ x → map.get u q ≡ y → map.get t q ≡ map.get u q
    by None None e f = e ∙ sym f
    by (Some x) y e f = let one = a.only q (ap is_some e) in named one.0 one.1
    by None (Some y) e f = let one = b.only q (ap is_some f) in named one.0 one.1

pub found_own : (objects : Objects) (head : Option (List ℕ)) (id : List ℕ) (nodes : Entries) (kept : map.FinMap path_cmp Kept) (listed : Dirents) → head ≡ Some id → Tells [] (dirents_at objects id) listed
    → (own : Option (List ℕ)) → IfSome own (λ i. (i ≡ id) × ListsJust listed nodes kept) → IfNone own (ListsJust listed nodes kept → ⊥) → FindsOwn objects head nodes kept own
found_own objects head id nodes kept listed is tells (Some i) some none =
    (is ∙ ap Some (sym some.0), subst (λ (j : List ℕ). IsRight objects j nodes kept) (sym some.0) (record { listed = listed; tells = tells; just = some.1 }))
found_own objects head id nodes kept listed is tells None some none = λ i asked right.
    let one : i ≡ id = same_from_some i id (sym asked ∙ is) in
    let same : (q : PathV) → map.get right.listed q ≡ map.get listed q =
    tells_same [] (dirents_at objects id) right.listed listed (subst (λ (j : List ℕ). Tells [] (dirents_at objects j) right.listed) one right.tells) tells in
    none (record {
      here = λ q. right.just.here q ∙ ap (option_map entry_of) (same q);
      below = λ q e there dir. right.just.below q e (same q ∙ there) dir;
    })

-- ---- the entries are compared one by one

-- some entries were found among the nodes; `left` are the nodes that weren't found yet
pub record JustSo (all : Dirents) (nodes : Entries) (kept : map.FinMap path_cmp Kept) (rest : Dirents) : Type 0 where
  pub left : Entries
  pub count : map.len left ≡ map.len rest
  pub still : (q : PathV) (e : Dirent) → map.get rest q ≡ Some e → (map.get all q ≡ Some e) × (map.get left q ≡ map.get nodes q)
  pub found : (q : PathV) (e : Dirent) → map.get all q ≡ Some e → (map.get rest q ≡ Some e) ⊎ ((x : Entry) × ((map.get nodes q ≡ Some x) × StandsAs (id_in (map.get kept q)) x e))
  pub others : (q : PathV) → map.get all q ≡ None → map.get left q ≡ map.get nodes q

pub just_start : (all : Dirents) (nodes : Entries) (kept : map.FinMap path_cmp Kept) → map.len all ≡ map.len nodes → JustSo all nodes kept all
just_start all nodes kept sizes = record {
  left = nodes;
  count = sym sizes;
  still = λ q e is. (is, refl);
  found = λ q e is. inl is;
  others = λ q none. refl;
}

-- one entry more is found
module _ (all : Dirents) (nodes : Entries) (kept : map.FinMap path_cmp Kept) (rest after : Dirents) (so : JustSo all nodes kept rest) (p : PathV) (e : Dirent) (there : map.get rest p ≡ Some e) where
  pub just_more : after ≡ map.remove rest p → map.entries rest ≡ map.entries after ++ (p, e) ∷ [] → (x : Entry) → map.get nodes p ≡ Some x → StandsAs (id_in (map.get kept p)) x e → JustSo all nodes kept after
  just_more taken last x node stands = record {
    left = map.remove so.left p;
    count = size;
    still = λ q y is. by_still q y (same_path q p) refl (sym (popped q) ∙ is);
    found = λ q y is. elim (so.found q y is) [ inl before ↦ by_found q y (same_path q p) refl before | inr known ↦ inr known ];
    others = λ q none. removed q ∙ by_other q none (same_path q p) refl;
  }
    where
      popped : (q : PathV) → map.get after q ≡ cond (same_path q p) None (map.get rest q)
      popped = get-popped rest after (p, e) taken

      removed : (q : PathV) → map.get (map.remove so.left p) q ≡ cond (same_path q p) None (map.get so.left q)
      removed q = map.get-remove paths_total so.left p q

      some_left : is_some (map.get so.left p) ≡ true
      some_left = ap is_some ((so.still p e there).1 ∙ node)

      size : map.len (map.remove so.left p) ≡ map.len after
      size =
          let less = map.len-remove paths_total so.left p ∙ ap (λ (b : Bool). cond b (map.len so.left - 1) (map.len so.left)) some_left in
          let one = popped_len rest after (p, e) last in
          let before = so.count in
          omega (arith, less, one, before)

      by_still : (q : PathV) (y : Dirent) (b : Bool) → same_path q p ≡ b → cond (same_path q p) None (map.get rest q) ≡ Some y → (map.get all q ≡ Some y) × (map.get (map.remove so.left p) q ≡ map.get nodes q)
      by_still q y true tie is = let both : None ≡ Some y = sym (ap (λ (b : Bool). cond b None (map.get rest q)) tie) ∙ is in cc
      by_still q y false tie is =
          let own = so.still q y (sym (ap (λ (b : Bool). cond b None (map.get rest q)) tie) ∙ is) in
          (own.0, removed q ∙ ap (λ (b : Bool). cond b None (map.get so.left q)) tie ∙ own.1)

      by_found : (q : PathV) (y : Dirent) (b : Bool) → same_path q p ≡ b → map.get rest q ≡ Some y
          → (map.get after q ≡ Some y) ⊎ ((z : Entry) × ((map.get nodes q ≡ Some z) × StandsAs (id_in (map.get kept q)) z y))
      by_found q y true tie is =
          let at : q ≡ p = same_path-true q p tie in
          let own : e ≡ y = (let both : Some e ≡ Some y = sym there ∙ ap (map.get rest) (sym at) ∙ is in cc) in
          inr (x, (ap (map.get nodes) at ∙ node, subst (StandsAs (id_in (map.get kept q)) x) own (subst (λ (r : PathV). StandsAs (id_in (map.get kept r)) x e) (sym at) stands)))
      by_found q y false tie is = inl (popped q ∙ ap (λ (b : Bool). cond b None (map.get rest q)) tie ∙ is)

      by_other : (q : PathV) → map.get all q ≡ None → (b : Bool) → same_path q p ≡ b → cond (same_path q p) None (map.get so.left q) ≡ map.get nodes q
      by_other q none true tie =
          let both : None ≡ Some e = sym none ∙ ap (map.get all) (same_path-true q p tie) ∙ (so.still p e there).0 in cc
      by_other q none false tie = ap (λ (b : Bool). cond b None (map.get so.left q)) tie ∙ so.others q none

  -- one isn't there, or is another one
  pub none_there : map.get nodes p ≡ None → ListsJust all nodes kept → ⊥
  none_there none just = let both : None ≡ Some (entry_of e) = sym none ∙ just.here p ∙ ap (option_map entry_of) (so.still p e there).0 in cc

  pub other_there : (x : Entry) → map.get nodes p ≡ Some x → (StandsAs (id_in (map.get kept p)) x e → ⊥) → ListsJust all nodes kept → ⊥
  other_there x node other just = other (same (sym node ∙ just.here p ∙ ap (option_map entry_of) (so.still p e there).0), just.below p e (so.still p e there).0)
    where
      same : Some x ≡ Some (entry_of e) → entry_of e ≡ x
      same is = cc is

-- all are found
pub just_end : (all : Dirents) (nodes : Entries) (kept : map.FinMap path_cmp Kept) (rest : Dirents) → JustSo all nodes kept rest → rest ≡ map.empty → ListsJust all nodes kept
just_end all nodes kept rest so empty = record {
  here = λ q. by q (map.get all q) refl;
  below = λ q e is dir. elim (so.found q e is) [ inl more ↦ absurd (none q e more) | inr own ↦ own.1.1.1 dir ];
}
  where
    none : (q : PathV) (e : Dirent) → map.get rest q ≡ Some e → ⊥
    none q e is = let both : None ≡ Some e = sym (ap (λ (m : Dirents). map.get m q) empty ∙ map.get-empty path_cmp q) ∙ is in cc

    no_left : (q : PathV) → map.get so.left q ≡ None
    no_left q = ap (λ (m : Entries). map.get m q) (map.empty_of_len so.left (so.count ∙ ap map.len empty ∙ map.len-empty path_cmp Dirent)) ∙ map.get-empty path_cmp q

    by : (q : PathV) (o : Option Dirent) → map.get all q ≡ o → map.get nodes q ≡ option_map entry_of (map.get all q)
    by q None is = sym (so.others q is) ∙ no_left q ∙ sym (ap (option_map entry_of) is)
    by q (Some e) is = elim (so.found q e is) [
      | inl more ↦ absurd (none q e more)
      | inr own ↦ own.1.0 ∙ ap Some (sym own.1.1.0) ∙ sym (ap (option_map entry_of) is)
    ]

-- as many of both
pub just_len : (all : Dirents) (nodes : Entries) (kept : map.FinMap path_cmp Kept) → ListsJust all nodes kept → map.len all ≡ map.len nodes
just_len all nodes kept just = same_len all nodes (λ q. sym (ap is_some (just.here q) ∙ same_some entry_of (map.get all q)))

-- ---- one entry

pub dir_stands : (e : Dirent) (own : List ℕ) (same : Bool) → same ≡ same_id e.id own → is_directory_mode e.mode ≡ true → (same ≡ true) ↔ StandsAs own Dir e
dir_stands e own same is dir = (
  (λ t. (ap (λ (b : Bool). if b then Dir else File e.id e.mode e.mtime e.modifier e.size) dir, λ d. (bytes_decides e.id own).0 (sym is ∙ t))),
  (λ stands. is ∙ (bytes_decides e.id own).1 (stands.1 dir)),
)

pub file_is_no_dir : (e : Dirent) (own : List ℕ) → is_directory_mode e.mode ≡ false → StandsAs own Dir e → ⊥
file_is_no_dir e own file stands =
    let both : File e.id e.mode e.mtime e.modifier e.size ≡ Dir = sym (ap (λ (b : Bool). if b then Dir else File e.id e.mode e.mtime e.modifier e.size) file) ∙ stands.0 in cc

pub dir_is_no_file : (e : Dirent) (own id modifier : List ℕ) (mode size : ℕ) (mtime : ℤ) → is_directory_mode e.mode ≡ true → StandsAs own (File id mode mtime modifier size) e → ⊥
dir_is_no_file e own id modifier mode size mtime dir stands =
    let both : Dir ≡ File id mode mtime modifier size = sym (ap (λ (b : Bool). if b then Dir else File e.id e.mode e.mtime e.modifier e.size) dir) ∙ stands.0 in cc

pub file_stands : (e : Dirent) (own id modifier : List ℕ) (mode size : ℕ) (mtime : ℤ) → is_directory_mode e.mode ≡ false → (same : Bool) → (same ≡ true) ↔ IsSameFile e id mode mtime modifier size
    → (same ≡ true) ↔ StandsAs own (File id mode mtime modifier size) e
file_stands e own id modifier mode size mtime file same both = (
  (λ t. let is = both.0 t in (is_file ∙ (λ i. File (is.own i) (is.kind i) (is.changed i) (is.by i) (is.bytes i)), λ d. absurd (true≢false (sym d ∙ file)))),
  (λ stands. both.1 (of_file (sym is_file ∙ stands.0))),
)
  where
    is_file : entry_of e ≡ File e.id e.mode e.mtime e.modifier e.size
    is_file = ap (λ (b : Bool). if b then Dir else File e.id e.mode e.mtime e.modifier e.size) file

    of_file : File e.id e.mode e.mtime e.modifier e.size ≡ File id mode mtime modifier size → IsSameFile e id mode mtime modifier size
    of_file is = record { own = cc is; kind = cc is; changed = cc is; by = cc is; bytes = cc is }

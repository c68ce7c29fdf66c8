-- What is wanted grows, file by file and id by id. The key lemmas are ids_start, ids_more, ids_end, has_if, adds_if, files_start,
-- files_more and files_end.
use Rattle.std.proofs.Common.{◌≡◌, ◌⊎◌, inl, inr, ℕ, Bool, true, false, cond, List, [], ◌∷◌, Option, None, Some, IsSome, is_some, refl, sym, ap, ◌∙◌, subst}
use Rattle.std.specs.Prelude.{⊤}
use Rattle.std.specs.FinMap as fin
use Rattle.std.specs.List.{AllByRecursion}
use Rattle.std.proofs.lemmas.Bool.{false≢true}
use Rattle.ids.specs.Key.{Objects}
use Rattle.ids.specs.declared.key.Key.{Key}
use Rattle.ids.proofs.KeyOrderLemmas.{key_cmp_total}
use Rattle.sha1.specs.Sha1.{sha1}
use Rattle.tree_model.specs.Path.{PathV, path_cmp}
use Rattle.tree_model.proofs.ListedLemmas.{same_path, same_path-true}
use Rattle.tree_model.proofs.MovingLemmas.{In}
use Rattle.object_graph.proofs.KeyLemmas.{same_key, same_key-itself, same_key-true}
use Rattle.object_graph.specs.Objects.{block_key, fs_key}
use Rattle.object_graph.specs.Unchanged.{Keeps}
use Rattle.folder_side.specs.declared.scan_report.Seen.{Seen}
use Rattle.folder_side.specs.declared.scan_report.Seen.TheVariants as seen
use Rattle.folder_side.proofs.SortedEntryLemmas.{Rises-entries, found_of, skip_first}
use Rattle.local_index.specs.OwnIds.{own_id}
use Rattle.local_index.specs.declared.index.Known.{Known}
use Rattle.tree_push.specs.ChangedOwns.{changed_own, own_unless}
use Rattle.tree_push.specs.OfferedEntries.{KnownPaths, SeenPaths, is_kept}
use Rattle.tree_push.specs.Wanted.{AddsChanged, AddsIds, AddsIf, AddsOf, AddsText, AddsUnless, AreOwnNamed, Blocks, Grows, HasFiles, HasIf, HasSeen, IsChangedBlock, IsChangedObject, IsIn, IsKept, IsObjectOf, IsOneOf, file_text}
use Rattle.tree_push.specs.declared.wanted.Wanted.{Wanted}

-- ---- ids

pub record IsAddingIds (ids rest : List (List ℕ)) (old now : Blocks) : Type 0 where
  pub kept : (key : Key) → IsSome (fin.get old key) → IsSome (fin.get now key)
  pub all : (id : List ℕ) → IsIn id ids → IsIn id rest ⊎ IsSome (fin.get now (block_key id))
  pub only : (key : Key) → IsSome (fin.get now key) → IsSome (fin.get old key) ⊎ IsOneOf ids key
  pub within : (id : List ℕ) → IsIn id rest → IsIn id ids

pub ids_start : (ids : List (List ℕ)) (old : Blocks) → IsAddingIds ids ids old old
ids_start ids old = record {
  kept = λ key there. there;
  all = λ id there. inl there;
  only = λ key there. inl there;
  within = λ id there. there;
}

got_put : (old new : Blocks) (key q : Key) → new ≡ fin.insert old key tt → fin.get new q ≡ cond (same_key q key) (Some tt) (fin.get old q)
got_put old new key q is = ap (λ (m : Blocks). fin.get m q) is ∙ fin.get-insert key_cmp_total old key tt q

some_put : (b : Bool) (o : Option ⊤) → IsSome o → IsSome (cond b (Some tt) o)
some_put true o there = refl
some_put false o there = there

pub ids_more : (ids rest : List (List ℕ)) (id : List ℕ) (old now new : Blocks) → IsAddingIds ids (id ∷ rest) old now → new ≡ fin.insert now (block_key id) tt → IsAddingIds ids rest old new
ids_more ids rest id old now new is more = record {
  kept = λ key there. grown key (is.kept key there);
  all = λ other there. by other (is.all other there);
  only = λ key there. from key (same_key key (block_key id)) refl (subst (λ (o : Option ⊤). IsSome o) (got_put now new (block_key id) key more) there);
  within = λ other there. is.within other (inr there);
}
  where
    grown : (key : Key) → IsSome (fin.get now key) → IsSome (fin.get new key)
    grown key there = subst (λ (o : Option ⊤). IsSome o) (sym (got_put now new (block_key id) key more)) (some_put (same_key key (block_key id)) (fin.get now key) there)

    own : IsSome (fin.get new (block_key id))
    own = subst (λ (o : Option ⊤). IsSome o) (sym (got_put now new (block_key id) (block_key id) more ∙ ap (λ b. cond b (Some tt) (fin.get now (block_key id))) (same_key-itself (block_key id)))) refl

    by : (other : List ℕ) → IsIn other (id ∷ rest) ⊎ IsSome (fin.get now (block_key other)) → IsIn other rest ⊎ IsSome (fin.get new (block_key other))
    by other (inl (inl same)) = inr (subst (λ (i : List ℕ). IsSome (fin.get new (block_key i))) (sym same) own)
    by other (inl (inr there)) = inl there
    by other (inr there) = inr (grown (block_key other) there)

    from : (key : Key) (b : Bool) → same_key key (block_key id) ≡ b → IsSome (cond (same_key key (block_key id)) (Some tt) (fin.get now key)) → IsSome (fin.get old key) ⊎ IsOneOf ids key
    from key true same there = inr (id, same_key-true key (block_key id) same, is.within id (inl refl))
    from key false other there = is.only key (subst (λ (b : Bool). IsSome (cond b (Some tt) (fin.get now key))) other there)

pub ids_end : (ids : List (List ℕ)) (old now : Blocks) → IsAddingIds ids [] old now → AddsIds ids old now
ids_end ids old now is = record {
  kept = is.kept;
  all = λ id there. by id (is.all id there);
  only = is.only;
}
  where
    by : (id : List ℕ) → IsIn id [] ⊎ IsSome (fin.get now (block_key id)) → IsSome (fin.get now (block_key id))
    by id (inl none) = absurd none
    by id (inr there) = there

-- ---- files

kept_some : (old new : Objects) (key : Key) → Keeps old new → IsSome (fin.get old key) → IsSome (fin.get new key)
kept_some old new key keeps there = by (fin.get old key) refl there
  where
    by : (o : Option (List ℕ)) → fin.get old key ≡ o → IsSome o → IsSome (fin.get new key)
    by None is some = absurd (cc)
    by (Some bytes) is some = ap is_some (keeps.kept key bytes is)

pub grows_none : (old : Wanted) → Grows old old
grows_none old = record { made = record { kept = λ key bytes is. is }; blocks = λ key there. there; named = λ are. are }

pub grows_then : (old mid new : Wanted) → Grows old mid → Grows mid new → Grows old new
grows_then old mid new first later = record {
  made = record { kept = λ key bytes is. later.made.kept key bytes (first.made.kept key bytes is) };
  blocks = λ key there. later.blocks key (first.blocks key there);
  named = λ are. later.named (first.named are);
}

seen_grows : (old new : Wanted) (was : Option Known) (s : Seen) → Grows old new → HasSeen old was s → HasSeen new was s
seen_grows old new was seen.Dir grows has = tt
seen_grows old new was (seen.File blocks size) grows has = λ changed. record {
  object = λ some. record {
    there = kept_some old.made new.made (fs_key (sha1 (file_text blocks size))) grows.made ((has changed).object some).there;
    reads = ((has changed).object some).reads;
  };
  all = λ id there. grows.blocks (block_key id) ((has changed).all id there);
}

-- a file that is new or changed is the one that has an own id
pub has_if : (new : Wanted) (was : Option Known) (s : Seen) (changed : Option (List ℕ)) → changed ≡ changed_own (Some s) was → HasIf s changed new → HasSeen new was s
has_if new was seen.Dir changed is has = tt
has_if new was (seen.File blocks size) changed is has = λ apart.
    subst (λ (o : Option (List ℕ)). HasIf (seen.File blocks size) o new) (is ∙ ap (λ (b : Bool). own_unless b (own_id blocks size)) apart) has

pub adds_if : (old new : Wanted) (was : Option Known) (s : Seen) (changed : Option (List ℕ)) → changed ≡ changed_own (Some s) was → AddsIf s changed old new → AddsOf was s old new
adds_if old new was seen.Dir changed is adds = adds
adds_if old new was (seen.File blocks size) changed is adds = by (is_kept was (own_id blocks size)) refl
  where
    by : (b : Bool) → is_kept was (own_id blocks size) ≡ b → AddsUnless b blocks size old new
    by true kept = subst (λ (o : Option (List ℕ)). AddsIf (seen.File blocks size) o old new) (is ∙ ap (λ (b : Bool). own_unless b (own_id blocks size)) kept) adds
    by false apart = subst (λ (o : Option (List ℕ)). AddsIf (seen.File blocks size) o old new) (is ∙ ap (λ (b : Bool). own_unless b (own_id blocks size)) apart) adds

pub record IsAddingFiles (knowns : KnownPaths) (seens : SeenPaths) (rest : List (PathV × Seen)) (old now : Wanted) : Type 0 where
  pub grows : Grows old now
  pub done : (path : PathV) (s : Seen) → fin.get seens path ≡ Some s → (fin.find path_cmp path rest ≡ Some s) ⊎ HasSeen now (fin.get knowns path) s
  pub are : AllByRecursion (λ e. fin.get seens e.0 ≡ Some e.1) rest
  pub within : AddsChanged knowns seens old now

-- each entry of a table is what it has there
all_seen : (seens : SeenPaths) (es : List (PathV × Seen)) → ((e : PathV × Seen) → In e es → fin.get seens e.0 ≡ Some e.1) → AllByRecursion (λ e. fin.get seens e.0 ≡ Some e.1) es
all_seen seens [] is = tt
all_seen seens (e ∷ es) is = (is e (inl refl), all_seen seens es (λ other there. is other (inr there)))

pub entries_are : (seens : SeenPaths) → AllByRecursion (λ e. fin.get seens e.0 ≡ Some e.1) (fin.entries seens)
entries_are seens = all_seen seens (fin.entries seens) (λ e there. fin.get-entries seens e.0 ∙ found_of (fin.entries seens) e (Rises-entries seens) there)

module _ (knowns : KnownPaths) (seens : SeenPaths) where
  pub files_start : (old : Wanted) → IsAddingFiles knowns seens (fin.entries seens) old old
  files_start old = record {
    grows = grows_none old;
    done = λ path s is. inl (sym (fin.get-entries seens path) ∙ is);
    are = entries_are seens;
    within = record { blocks = λ key there. inl there; objects = λ key there. inl there };
  }

  changed_adds : (path : PathV) (s : Seen) (old now new : Wanted) → fin.get seens path ≡ Some s → AddsOf (fin.get knowns path) s now new → AddsChanged knowns seens old now
      → AddsChanged knowns seens old new
  changed_adds path seen.Dir old now new is adds are = record { blocks = λ key there. are.blocks key (adds.blocks key there); objects = λ key there. are.objects key (adds.objects key there) }
  changed_adds path (seen.File blocks size) old now new is adds are = at (is_kept (fin.get knowns path) (own_id blocks size)) refl adds
    where
      at : (b : Bool) → is_kept (fin.get knowns path) (own_id blocks size) ≡ b → AddsUnless b blocks size now new → AddsChanged knowns seens old new
      at true kept none = record { blocks = λ key there. are.blocks key (none.blocks key there); objects = λ key there. are.objects key (none.objects key there) }
      at false changed more = record { blocks = λ key there. block key (more.blocks_of key there); objects = λ key there. object key (more.object_of key there) }
        where
          block : (key : Key) → IsSome (fin.get now.blocks key) ⊎ IsOneOf blocks key → IsSome (fin.get old.blocks key) ⊎ IsChangedBlock knowns seens key
          block key (inl there) = are.blocks key there
          block key (inr one) =
              inr (record { block = record { path = path; blocks = blocks; size = size; seen = is; id = one.0; is = one.1; there = one.2 }; changed = changed })

          object : (key : Key) → IsSome (fin.get now.made key) ⊎ IsObjectOf blocks size key → IsSome (fin.get old.made key) ⊎ IsChangedObject knowns seens key
          object key (inl there) = are.objects key there
          object key (inr one) = inr (record { path = path; blocks = blocks; size = size; seen = is; changed = changed; some = one.0; is = one.1 })

  pub files_more : (path : PathV) (s : Seen) (was : Option Known) (rest : List (PathV × Seen)) (old now new : Wanted) → IsAddingFiles knowns seens ((path, s) ∷ rest) old now
      → was ≡ fin.get knowns path → HasSeen new was s → Grows now new → AddsOf was s now new → IsAddingFiles knowns seens rest old new
  files_more path s was rest old now new is known has grows adds = record {
    grows = grows_then old now new is.grows grows;
    done = λ q t there. by q t there (is.done q t there);
    are = is.are.1;
    within = changed_adds path s old now new is.are.0 (subst (λ (k : Option Known). AddsOf k s now new) known adds) is.within;
  }
    where
      one : (x y : Seen) → Some x ≡ Some y → x ≡ y
      one x y e = cc

      first : (q : PathV) (t : Seen) → fin.get seens q ≡ Some t → same_path q path ≡ true → HasSeen new (fin.get knowns q) t
      first q t there same =
          subst (λ (p : PathV). HasSeen new (fin.get knowns p) t) (sym (same_path-true q path same))
          (subst (λ (u : Seen). HasSeen new (fin.get knowns path) u) (one s t (sym is.are.0 ∙ ap (fin.get seens) (sym (same_path-true q path same)) ∙ there))
          (subst (λ (k : Option Known). HasSeen new k s) known has))

      by : (q : PathV) (t : Seen) → fin.get seens q ≡ Some t → (fin.find path_cmp q ((path, s) ∷ rest) ≡ Some t) ⊎ HasSeen now (fin.get knowns q) t
          → (fin.find path_cmp q rest ≡ Some t) ⊎ HasSeen new (fin.get knowns q) t
      by q t there (inr done) = inr (seen_grows now new (fin.get knowns q) t grows done)
      by q t there (inl left) = at (same_path q path) refl
        where
          at : (b : Bool) → same_path q path ≡ b → (fin.find path_cmp q rest ≡ Some t) ⊎ HasSeen new (fin.get knowns q) t
          at true same = inr (first q t there same)
          at false apart = inl (sym (skip_first q (path, s) rest apart) ∙ left)

  pub files_end : (old now : Wanted) → IsAddingFiles knowns seens [] old now → HasFiles knowns seens now
  files_end old now is = λ path s there. by path s (is.done path s there)
    where
      by : (path : PathV) (s : Seen) → (fin.find path_cmp path [] ≡ Some s) ⊎ HasSeen now (fin.get knowns path) s → HasSeen now (fin.get knowns path) s
      by path s (inl none) = absurd (cc)
      by path s (inr has) = has

-- ---- one object

module _ (old new : Objects) (key : Key) (text : List ℕ) (is : key ≡ fs_key (sha1 text)) where
  module _ (more : new ≡ fin.insert old key text) where
    got_object : (q : Key) → fin.get new q ≡ cond (same_key q key) (Some text) (fin.get old q)
    got_object q = ap (λ (m : Objects). fin.get m q) more ∙ fin.get-insert key_cmp_total old key text q

    pub only_new : AddsText text old new
    only_new q there = by (same_key q key) refl (subst (λ (o : Option (List ℕ)). IsSome o) (got_object q) there)
      where
        by : (b : Bool) → same_key q key ≡ b → IsSome (cond (same_key q key) (Some text) (fin.get old q)) → IsSome (fin.get old q) ⊎ (q ≡ fs_key (sha1 text))
        by true same some = inr (same_key-true q key same ∙ is)
        by false apart some = inl (subst (λ (b : Bool). IsSome (cond b (Some text) (fin.get old q))) apart some)

    pub kept_new : IsKept text new
    kept_new =
        subst (λ (k : Key). IsSome (fin.get new k)) is
        (subst (λ (o : Option (List ℕ)). IsSome o) (sym (got_object key ∙ ap (λ b. cond b (Some text) (fin.get old key)) (same_key-itself key))) refl)

    pub keeps_new : is_some (fin.get old key) ≡ false → Keeps old new
    keeps_new none = record { kept = λ q bytes there. got_object q ∙ by q bytes there (same_key q key) refl }
      where
        by : (q : Key) (bytes : List ℕ) → fin.get old q ≡ Some bytes → (b : Bool) → same_key q key ≡ b → cond (same_key q key) (Some text) (fin.get old q) ≡ Some bytes
        by q bytes there true same =
            let some : is_some (fin.get old key) ≡ true = ap (λ (k : Key). is_some (fin.get old k)) (sym (same_key-true q key same)) ∙ ap is_some there in
            absurd (false≢true (sym none ∙ some))
        by q bytes there false apart = ap (λ b. cond b (Some text) (fin.get old q)) apart ∙ there

    pub named_new : AreOwnNamed old → AreOwnNamed new
    named_new are = λ q bytes there. by q bytes (same_key q key) refl (sym (got_object q) ∙ there)
      where
        by : (q : Key) (bytes : List ℕ) (b : Bool) → same_key q key ≡ b → cond (same_key q key) (Some text) (fin.get old q) ≡ Some bytes → q ≡ fs_key (sha1 bytes)
        by q bytes true same there =
            let one : text ≡ bytes = cc in
            same_key-true q key same ∙ is ∙ ap (λ (t : List ℕ). fs_key (sha1 t)) one
        by q bytes false apart there = are q bytes (sym (ap (λ b. cond b (Some text) (fin.get old q)) apart) ∙ there)

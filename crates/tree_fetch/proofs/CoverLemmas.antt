-- What is held once so many levels were got, and that its traversal is that of all objects which keep it. The key lemmas are
-- level_begins, level_next, same_walk, same_entries and no_sizes.
use Rattle.std.proofs.Common.{◌≡◌, ℕ, zero, suc, ◌+◌, Bool, true, false, if◌then◌else◌, is_some, nat_lt, List, [], ◌∷◌, ◌++◌, refl, sym, ap, ◌∙◌, subst, Option, None, Some, Result, Ok, Err, inl, inr, arith}
use Rattle.std.specs.Cmp.Lexicographic.{bytes_decides}
use Rattle.std.specs.FinMap as map
use Rattle.std.specs.List.{AllByRecursion}
use Rattle.std.specs.Prelude.{⊤}
use Rattle.ids.specs.Key.{Objects, key_cmp}
use Rattle.ids.specs.ObjectId.{nil}
use Rattle.ids.specs.declared.key.Key.{Key}
use Rattle.tree_model.specs.Path.{PathV}
use Rattle.tree_model.specs.declared.limits.TheConstants.{MAX_PATHS}
use Rattle.fs_objects.specs.FsObject.{fs_of}
use Rattle.fs_objects.specs.Mode.{is_directory_mode}
use Rattle.fs_objects.specs.declared.dirent.Dirent.{Dirent}
use Rattle.fs_objects.specs.declared.fault.BadFs.{BadFs}
use Rattle.fs_objects.specs.declared.fs_object.FsObject.{FsObject}
use Rattle.fs_objects.specs.declared.fs_object.FsObject.TheVariants as fs
use Rattle.object_graph.specs.Objects.{as_read, entry_below, fs_at, fs_in, fs_key, in_name_order, is_nil}
use Rattle.object_graph.specs.Traversal.{Walk, counted, failed, next_by, start, then_read, then_walk, visited, walk_below, walk_entries, walk_found, walk_object, walk_root}
use Rattle.object_graph.specs.Unchanged.{Keeps}
use Rattle.object_graph.specs.declared.fault.TreeFault.{TreeFault}
use Rattle.object_graph.specs.declared.fault.TreeFault.TheVariants.{TooMany, WrongSize}
use Rattle.object_graph.proofs.SameBelowLemmas.{ran_root, same_entry}
use Rattle.object_graph.proofs.SchemeLemmas.{Scheme, Step, along_root}
use Rattle.object_graph.proofs.StoredLemmas.{agree_kept, none_stored, root_stored}
use Rattle.tree_fetch.specs.Levels.{AreListed, AreSeen, Covers, entries_at, entries_in, Grows, IsAmong, IsHeld, IsMet, IsSeen, IsThere, IsUpTo, Lists, Seen}

-- ---- entries

all_as : {X : Type 0} (P Q : X → Type 0) → ((x : X) → P x → Q x) → (xs : List X) → AllByRecursion P xs → AllByRecursion Q xs
all_as P Q h [] all = tt
all_as P Q h (x ∷ xs) all = (h x all.0, all_as P Q h xs all.1)

-- ---- objects that keep what is held

pub held_kept : (F G : Objects) → Keeps F G → (id : List ℕ) → IsHeld F id → map.get G (fs_key id) ≡ map.get F (fs_key id)
held_kept F G keeps id = by (map.get F (fs_key id)) refl
  where
    by : (o : Option (List ℕ)) → map.get F (fs_key id) ≡ o → is_some (map.get F (fs_key id)) ≡ true → map.get G (fs_key id) ≡ map.get F (fs_key id)
    by None here held = cc (ap is_some here)
    by (Some bytes) here held = keeps.kept (fs_key id) bytes here ∙ sym here

pub still_held : (F G : Objects) → Keeps F G → (id : List ℕ) → IsHeld F id → IsHeld G id
still_held F G keeps id held = ap is_some (held_kept F G keeps id held) ∙ held

entries_kept : (F G : Objects) → Keeps F G → (id : List ℕ) → IsThere F id → entries_at G id ≡ entries_at F id
entries_kept F G keeps id (inl is) =
    let n : is_nil id ≡ true = (bytes_decides id nil).1 is in
    ap (λ (b : Bool). if b then [] else entries_in (fs_at G id)) n ∙ sym (ap (λ (b : Bool). if b then [] else entries_in (fs_at F id)) n)
entries_kept F G keeps id (inr held) =
    ap (λ (o : Option (List ℕ)). if is_nil id then [] else entries_in (fs_in (fs_key id) o)) (held_kept F G keeps id held)

-- ---- one level more

pub seen_more : (seen more : Seen) → ((id : List ℕ) → IsMet seen id → IsMet more id) → (id : List ℕ) → IsSeen seen id → IsSeen more id
seen_more seen more h id (inl is) = inl is
seen_more seen more h id (inr met) = inr (h id met)

pub are_seen_more : (seen more : Seen) → ((id : List ℕ) → IsMet seen id → IsMet more id) → (entries : List Dirent) → AreSeen seen entries → AreSeen more entries
are_seen_more seen more h entries = all_as (λ (e : Dirent). IsSeen seen e.id) (λ (e : Dirent). IsSeen more e.id) (λ e. seen_more seen more h e.id) entries

among_listed : (held : Objects) (seen : Seen) (id : List ℕ) (ids : List (List ℕ)) → AreListed held seen ids → IsAmong id ids → AreSeen seen (entries_at held id)
among_listed held seen id [] all none = absurd none
among_listed held seen id (other ∷ ids) all (inl is) = subst (λ i. AreSeen seen (entries_at held i)) (sym is) all.0
among_listed held seen id (other ∷ ids) all (inr more) = among_listed held seen id ids all.1 more

-- where what is held names what was seen, and that is there afterwards, it covers one object more
module _ (F G : Objects) (seen : Seen) (keeps : Keeps F G) (closed : (id : List ℕ) → IsHeld F id → AreSeen seen (entries_at F id))
    (there : (id : List ℕ) → IsSeen seen id → IsThere G id) where
  seen_below : (id : List ℕ) → IsThere F id → AreSeen seen (entries_at F id)
  seen_below id (inl is) = subst (λ (b : Bool). AreSeen seen (if b then [] else entries_in (fs_at F id))) (sym ((bytes_decides id nil).1 is)) tt
  seen_below id (inr held) = closed id held

  covers_all : (room : ℕ) → ((id : List ℕ) → IsSeen seen id → Covers F room id → Covers G (suc room) id) → (entries : List Dirent) → AreSeen seen entries
      → AllByRecursion (λ (e : Dirent). Covers F room e.id) entries → AllByRecursion (λ (e : Dirent). Covers G (suc room) e.id) entries
  covers_all room next [] named covered = tt
  covers_all room next (e ∷ entries) named covered = (next e.id named.0 covered.0, covers_all room next entries named.1 covered.1)

  none_covered : (entries : List Dirent) → AllByRecursion (λ (e : Dirent). Covers G zero e.id) entries
  none_covered [] = tt
  none_covered (e ∷ entries) = (tt, none_covered entries)

  covers_next : (room : ℕ) (id : List ℕ) → IsSeen seen id → Covers F room id → Covers G (suc room) id
  covers_next zero id is covered = (there id is, none_covered (entries_at G id))
  covers_next (suc room) id is covered = (
    there id is,
    subst (AllByRecursion (λ (e : Dirent). Covers G (suc room) e.id)) (sym (entries_kept F G keeps id covered.0))
        (covers_all room (covers_next room) (entries_at F id) (seen_below id covered.0) covered.1),
  )

pub level_next : (root : List ℕ) (levels : ℕ) (F G : Objects) (seen more : Seen) (ids next : List (List ℕ)) → IsUpTo root levels F seen ids → Grows ids F G
    → Lists seen more [] next → AreListed G more ids → IsUpTo root (levels + 1) G more next
level_next root levels F G seen more ids next up grows lists listed = record {
  met = λ id is. elim (lists.fresh id is) [ inl before ↦ inl (held id before) | inr new ↦ inr new ];
  closed = λ id is. elim (grows.only id is) [
    | inl before ↦ subst (AreSeen more) (sym (entries_kept F G grows.keeps id (inr before))) (are_seen_more seen more lists.met (entries_at F id) (up.closed id before))
    | inr new ↦ among_listed G more id ids listed new
  ];
  root_seen = seen_more seen more lists.met root up.root_seen;
  covered = subst (λ n. Covers G n root) one_more (covers_next F G seen grows.keeps up.closed there levels root up.root_seen up.covered);
}
  where
    held : (id : List ℕ) → IsMet seen id → IsHeld G id
    held id before = elim (up.met id before) [ inl there ↦ still_held F G grows.keeps id there | inr among ↦ grows.there id among ]

    there : (id : List ℕ) → IsSeen seen id → IsThere G id
    there id (inl is) = inl is
    there id (inr before) = inr (held id before)

    one_more : suc levels ≡ levels + 1
    one_more = omega arith

nothing_at : (X : Type 0) (key : Key) → is_some (map.get (map.empty {X = X} {R = key_cmp}) key) ≡ true → ⊥
nothing_at X key is = let none : is_some (map.get (map.empty {X = X} {R = key_cmp}) key) ≡ false = ap is_some (map.get-empty key_cmp key) in cc

pub level_begins : (root : List ℕ) (seen : Seen) (ids : List (List ℕ)) → Lists map.empty seen [] ids → IsSeen seen root → IsUpTo root 0 map.empty seen ids
level_begins root seen ids lists is = record {
  met = λ id met. elim (lists.fresh id met) [ inl before ↦ absurd (nothing_at ⊤ (fs_key id) before) | inr new ↦ inr new ];
  closed = λ id held. absurd (nothing_at (List ℕ) (fs_key id) held);
  root_seen = is;
  covered = tt;
}

-- ---- its traversal

module _ (F O : Objects) (keeps : Keeps F O) where
  walks_entries : (room : ℕ) → ((wants : Bool) (path : PathV) (id : List ℕ) → Covers F room id → walk_below false O room wants path id ≡ walk_below false F room wants path id)
      → (path : PathV) (entries : List Dirent) → AllByRecursion (λ (e : Dirent). Covers F room e.id) entries
      → walk_entries false O (walk_below false O room) path entries ≡ walk_entries false F (walk_below false F room) path entries
  walks_entries room below path [] all = λ i w. w
  walks_entries room below path (e ∷ entries) all =
      let first = below (is_directory_mode e.mode) (path ++ e.name ∷ []) e.id all.0 in
      let rest = walks_entries room below path entries all.1 in
      λ i w. then_walk (then_walk (counted w) (first i)) (rest i)

  walks_found : (room : ℕ) → ((wants : Bool) (path : PathV) (id : List ℕ) → Covers F room id → walk_below false O room wants path id ≡ walk_below false F room wants path id)
      → (wants : Bool) (path : PathV) (id : List ℕ) (object : FsObject) → AllByRecursion (λ (e : Dirent). Covers F room e.id) (entries_in (Ok object))
      → walk_found false O (walk_below false O room) wants path id object ≡ walk_found false F (walk_below false F room) wants path id object
  walks_found room below true path id (fs.File file) all = λ i w. failed (TreeFault.WrongKind id) w
  walks_found room below false path id (fs.File file) all = λ i w. w
  walks_found room below true path id (fs.Dir entries) all =
      walks_entries room below path (in_name_order entries) all
  walks_found room below false path id (fs.Dir entries) all = λ i w. failed (TreeFault.WrongKind id) w

  walks_object : (room : ℕ) → ((wants : Bool) (path : PathV) (id : List ℕ) → Covers F room id → walk_below false O room wants path id ≡ walk_below false F room wants path id)
      → (wants : Bool) (path : PathV) (id : List ℕ) → Covers F (suc room) id
      → walk_object false O (walk_below false O room) wants path id ≡ walk_object false F (walk_below false F room) wants path id
  walks_object room below wants path id covered = by (is_nil id) refl covered.1
    where
      read : (r : Result FsObject TreeFault) → AllByRecursion (λ (e : Dirent). Covers F room e.id) (entries_in r) → (w : Walk)
          → then_read r (walk_found false O (walk_below false O room) wants path id) w ≡ then_read r (walk_found false F (walk_below false F room) wants path id) w
      read (Ok object) all w = λ i. walks_found room below wants path id object all i w
      read (Err fault) all w = refl

      held : is_nil id ≡ false → IsThere F id → IsHeld F id
      held other (inl is) = let n : is_nil id ≡ true = (bytes_decides id nil).1 is in cc
      held other (inr is) = is

      by : (n : Bool) → is_nil id ≡ n → AllByRecursion (λ (e : Dirent). Covers F room e.id) (if n then [] else entries_in (fs_at F id))
          → ◌≡◌ {A = Walk → Walk} (λ w. if n then w else then_read (fs_at O id) (walk_found false O (walk_below false O room) wants path id) (visited (fs_key id) w))
          (λ w. if n then w else then_read (fs_at F id) (walk_found false F (walk_below false F room) wants path id) (visited (fs_key id) w))
      by true other all = refl
      by false other all =
          let same : fs_at O id ≡ fs_at F id = ap (fs_in (fs_key id)) (held_kept F O keeps id (held other covered.0)) in
          let each = λ (w : Walk).
          ap (λ (r : Result FsObject TreeFault). then_read r (walk_found false O (walk_below false O room) wants path id) (visited (fs_key id) w)) same
          ∙ read (fs_at F id) all (visited (fs_key id) w) in
          λ i w. each w i

  walks_below : (room : ℕ) (wants : Bool) (path : PathV) (id : List ℕ) → Covers F room id → walk_below false O room wants path id ≡ walk_below false F room wants path id
  unfolding walk_below
  walks_below zero wants path id covered = refl
  walks_below (suc room) wants path id covered = walks_object room (walks_below room) wants path id covered

  pub same_walk : (root : List ℕ) → Covers F 101 root → walk_root false O root start ≡ walk_root false F root start
  same_walk root covered = λ i. walks_object 100 (walks_below 100) true [] root covered i start

  -- what stands at each path, where nothing is wrong
  pub same_entries : (root : List ℕ) → (walk_root false F root start).fault ≡ None → (path : PathV) → entry_below O path root ≡ entry_below F path root
  same_entries root none path =
      let visits = (walk_root false F root start).visits in
      same_entry false F O path 100 [] root visits (ran_root false F root start none)
      (agree_kept F O visits keeps (root_stored F false root start (none_stored F) none))

-- ---- no size is looked at where no block is

record Unsized (f : Step) : Type 0 where
  none : (w : Walk) (id : List ℕ) → (f w).fault ≡ Some (WrongSize id) → w.fault ≡ Some (WrongSize id)

unsized_next : (f next : Step) → Unsized f → Unsized next → (w : Walk) (id : List ℕ) → (then_walk (f w) next).fault ≡ Some (WrongSize id) → w.fault ≡ Some (WrongSize id)
unsized_next f next first second w id = by (f w).fault refl
  where
    by : (o : Option TreeFault) → (f w).fault ≡ o → (next_by o next (f w)).fault ≡ Some (WrongSize id) → w.fault ≡ Some (WrongSize id)
    by None here is = first.none w id (second.none (f w) id is)
    by (Some fault) here is = first.none w id is

module _ (A : Objects) where
  unsized_object : (id : List ℕ) (F G : FsObject → Step) → ((object : FsObject) → Unsized (F object)) → Unsized (λ w. then_read (fs_at A id) F (visited (fs_key id) w))
  unsized_object id F G h = record { none = λ w other. by w other (map.get A (fs_key id)) }
    where
      read : (w : Walk) (other : List ℕ) (r : Result FsObject BadFs) → (then_read (as_read (fs_key id) r) F (visited (fs_key id) w)).fault ≡ Some (WrongSize other) → w.fault ≡ Some (WrongSize other)
      read w other (Ok object) is = (h object).none (visited (fs_key id) w) other is
      read w other (Err bad) is = cc

      by : (w : Walk) (other : List ℕ) (o : Option (List ℕ)) → (then_read (fs_in (fs_key id) o) F (visited (fs_key id) w)).fault ≡ Some (WrongSize other) → w.fault ≡ Some (WrongSize other)
      by w other None is = cc
      by w other (Some bytes) is = read w other (fs_of bytes) is

  unsized : Scheme false false A A (λ f g. Unsized f)
  unsized = record {
    nothing = record { none = λ w id is. is };
    counts = record { none = λ w id. counts w id (nat_lt MAX_PATHS (w.paths + 1)) };
    deep = λ path. record { none = λ w id is. cc };
    kind = λ other. record { none = λ w id is. cc };
    after = λ f g next other first second. record { none = unsized_next f next first second };
    file = λ id file. record { none = λ w other is. is };
    object = unsized_object;
  }
    where
      counts : (w : Walk) (id : List ℕ) (b : Bool) → (if b then failed (TooMany (w.paths + 1)) (record w { paths = w.paths + 1 }) else record w { paths = w.paths + 1 }).fault ≡ Some (WrongSize id)
          → w.fault ≡ Some (WrongSize id)
      counts w id true is = cc
      counts w id false is = is

  pub no_sizes : (root id : List ℕ) → (walk_root false A root start).fault ≡ Some (WrongSize id) → ⊥
  no_sizes root id is = let none : None ≡ Some (WrongSize id) = (along_root false false A A (λ f g. Unsized f) unsized root).none start id is in cc

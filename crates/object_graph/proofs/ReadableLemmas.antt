-- What a traversal without a fault visits can be read, and is no other commit. The key lemmas are commit_readable and root_reads.
use Rattle.std.proofs.Common.{◌≡◌, ℕ, ◌==◌, Bool, true, false, if◌then◌else◌, is_some, List, [], ◌∷◌, ◌++◌, length, refl, sym, ap, ◌∙◌, subst, None, Result, Ok, Err, inl, inr}
use Rattle.std.specs.Prelude.{⊤}
use Rattle.std.specs.FinMap as map
use Rattle.ids.specs.Key.{Objects}
use Rattle.ids.specs.declared.key.Key.{Key}
use Rattle.ids.specs.declared.key.Kind.{Kind}
use Rattle.ids.specs.declared.key.Kind.TheVariants as kinds
use Rattle.fs_objects.specs.declared.file_object.FileObject.{FileObject}
use Rattle.fs_objects.specs.declared.fs_object.FsObject.{FsObject}
use Rattle.commit_objects.specs.declared.commit.Commit.{Commit}
use Rattle.object_graph.specs.Objects.{block_key, commit_at, commit_key, fs_at, fs_key, joined}
use Rattle.object_graph.specs.Traversal.{IsComplete, Walk, counted, failed, is_in, sized, start, then_read, then_walk, visited, walk_block, walk_blocks, walk_commit, walk_file, walk_root}
use Rattle.object_graph.specs.declared.fault.TreeFault.{TreeFault}
use Rattle.object_graph.specs.declared.fault.TreeFault.TheVariants.{Incomplete, WrongSize}
use Rattle.object_graph.proofs.KeyLemmas.{in_pushed}
use Rattle.object_graph.proofs.LocalityLemmas.{counted-visits}
use Rattle.object_graph.proofs.SchemeLemmas.{Step, Scheme, along_root, goes_on, none_before}

-- a file or directory can be read, a block needs not, and no commit but this one is meant
abbrev pub IsReadable : Objects → (commit : List ℕ) → Kind → List ℕ → Type 0
IsReadable A commit kinds.Commit id = id ≡ commit
IsReadable A commit kinds.Fs id = (object : FsObject) × (fs_at A id ≡ Ok object)
IsReadable A commit kinds.Block id = ⊤

pub record AllReadable (A : Objects) (commit : List ℕ) (keys : List Key) : Type 0 where
  pub each : (key : Key) → is_in keys key ≡ true → IsReadable A commit key.kind key.id

module _ (A : Objects) (commit : List ℕ) where
  none_readable : AllReadable A commit []
  none_readable = record { each = λ key e. cc e }

  readable_pushed : (keys : List Key) (last : Key) → AllReadable A commit keys → IsReadable A commit last.kind last.id → AllReadable A commit (keys ++ last ∷ [])
  readable_pushed keys last all here = record {
    each = λ key e. elim (in_pushed keys last key e) [ inl old ↦ all.each key old | inr is ↦ subst (λ (k : Key). IsReadable A commit k.kind k.id) (sym is) here ];
  }

  -- a step that has no fault visits what can be read
  record Goes (f : Step) : Type 0 where
    goes : (w : Walk) → AllReadable A commit w.visits → (f w).fault ≡ None → AllReadable A commit (f w).visits

  goes_nothing : Goes (λ w. w)
  goes_nothing = record { goes = λ w all none. all }

  goes_after : (f next : Step) → Goes f → Goes next → Goes (λ w. then_walk (f w) next)
  goes_after f next first second = record { goes = goes }
    where
      goes : (w : Walk) → AllReadable A commit w.visits → (then_walk (f w) next).fault ≡ None → AllReadable A commit (then_walk (f w) next).visits
      goes w all none =
          let early = none_before (f w) next none in
          let on = goes_on (f w) next early in
          let part = first.goes w all early in
          let late : (next (f w)).fault ≡ None = ap (λ (v : Walk). v.fault) (sym on) ∙ none in
          subst (λ (v : Walk). AllReadable A commit v.visits) (sym on) (second.goes (f w) part late)

  goes_counted : Goes counted
  goes_counted = record { goes = λ w all none. subst (AllReadable A commit) (sym (counted-visits w)) all }

  goes_block : (blocks : Bool) (id : List ℕ) → Goes (walk_block blocks A id)
  goes_block blocks id = record { goes = λ w. by w (is_some (map.get A (block_key id))) }
    where
      by : (w : Walk) (b : Bool) → AllReadable A commit w.visits
          → (if b then visited (block_key id) w else failed (Incomplete (block_key id)) (visited (block_key id) w)).fault ≡ None
          → AllReadable A commit (if b then visited (block_key id) w else failed (Incomplete (block_key id)) (visited (block_key id) w)).visits
      by w true all none = readable_pushed w.visits (block_key id) all tt
      by w false all none = readable_pushed w.visits (block_key id) all tt

  goes_blocks : (blocks : Bool) (ids : List (List ℕ)) → Goes (walk_blocks blocks A ids)
  goes_blocks blocks [] = goes_nothing
  goes_blocks blocks (id ∷ ids) = goes_after (walk_block blocks A id) (walk_blocks blocks A ids) (goes_block blocks id) (goes_blocks blocks ids)

  goes_sized : (blocks : Bool) (id : List ℕ) (file : FileObject) → Goes (sized blocks A id file)
  goes_sized blocks id file = record { goes = λ w. by w (file.size == length (joined A file.blocks)) }
    where
      by : (w : Walk) (b : Bool) → AllReadable A commit w.visits → (if b then w else failed (WrongSize id) w).fault ≡ None
          → AllReadable A commit (if b then w else failed (WrongSize id) w).visits
      by w true all none = all
      by w false all none = all

  goes_file : (blocks : Bool) (id : List ℕ) (file : FileObject) → Goes (walk_file blocks A id file)
  goes_file true id file = goes_after (walk_blocks true A file.blocks) (sized true A id file) (goes_blocks true file.blocks) (goes_sized true id file)
  goes_file false id file = goes_nothing

  goes_object : (id : List ℕ) (F : FsObject → Step) → ((object : FsObject) → Goes (F object)) → Goes (λ w. then_read (fs_at A id) F (visited (fs_key id) w))
  goes_object id F h = record { goes = λ w. by w (fs_at A id) refl }
    where
      by : (w : Walk) (r : Result FsObject TreeFault) → fs_at A id ≡ r → AllReadable A commit w.visits → (then_read r F (visited (fs_key id) w)).fault ≡ None
          → AllReadable A commit (then_read r F (visited (fs_key id) w)).visits
      by w (Ok object) read all none = (h object).goes (visited (fs_key id) w) (readable_pushed w.visits (fs_key id) all (object, read)) none
      by w (Err fault) read all none = cc none

  going : (blocks : Bool) → Scheme blocks blocks A A (λ f g. Goes f)
  going blocks = record {
    nothing = goes_nothing;
    counts = goes_counted;
    deep = λ path. record { goes = λ w all none. all };
    kind = λ id. record { goes = λ w all none. all };
    after = λ f g next other first second. goes_after f next first second;
    file = λ id file. goes_file blocks id file;
    object = λ id F G h. goes_object id F h;
  }

  root_readable : (id : List ℕ) (w : Walk) → AllReadable A commit w.visits → (walk_root true A id w).fault ≡ None → AllReadable A commit (walk_root true A id w).visits
  root_readable id = (along_root true true A A (λ f g. Goes f) (going true) id).goes

  pub root_reads : (id : List ℕ) → (walk_root true A id start).fault ≡ None → AllReadable A commit (walk_root true A id start).visits
  root_reads id = root_readable id start none_readable

  pub commit_readable : IsComplete A commit → AllReadable A commit (walk_commit A commit).visits
  unfolding walk_commit
  commit_readable = by (commit_at A commit)
    where
      first : AllReadable A commit (visited (commit_key commit) start).visits
      first = readable_pushed [] (commit_key commit) none_readable refl

      by : (r : Result Commit TreeFault) → (then_read r (λ c. walk_root true A c.root) (visited (commit_key commit) start)).fault ≡ None
          → AllReadable A commit (then_read r (λ c. walk_root true A c.root) (visited (commit_key commit) start)).visits
      by (Ok c) none = root_readable c.root (visited (commit_key commit) start) first none
      by (Err fault) none = cc none

-- How what waits of one tree is opened beside another, and where its objects are read. The key lemmas are no_commit, passes_block,
-- opens_beside, finds_spared, finds_beside, object_stored, object_made and object_gone.
use Rattle.std.proofs.Common.{◌≡◌, ◌≢◌, inl, inr, ℕ, true, false, not, if◌then◌else◌, is_some, filter, length, option_map, List, [], ◌∷◌, ◌++◌, refl, sym, ap, ◌∙◌, subst, true≢false, Option, None, Some, Result, Ok, Err}
use Rattle.std.specs.FinMap as map
use Rattle.std.proofs.lemmas.Bool.{or_right}
use Rattle.ids.specs.Key.{Objects, key_cmp}
use Rattle.ids.specs.declared.key.Key.{Key}
use Rattle.ids.specs.declared.key.Kind.{Kind}
use Rattle.ids.specs.declared.key.Kind.TheVariants as kind
use Rattle.ids.proofs.BasicLemmas.{inner_is_some}
use Rattle.fs_objects.specs.declared.fs_object.FsObject.{FsObject}
use Rattle.fs_objects.specs.declared.dirent.Dirent.{Dirent}
use Rattle.object_graph.specs.Objects.{commit_key, fs_at, fs_in, fs_key}
use Rattle.object_graph.specs.Reached.{entry_keys, named, named_by_fs, named_in, named_under}
use Rattle.object_graph.specs.Traversal.{IsCompleteRoot, distinct_from, is_in}
use Rattle.object_graph.specs.declared.fault.TreeFault.{TreeFault}
use Rattle.object_graph.proofs.ReadableLemmas.{root_reads}
use Rattle.tree_walk.specs.Reading.{AnswersRead}
use Rattle.tree_walk.specs.declared.fault.WalkFault.{WalkFault}
use Rattle.collector.specs.Compared.{AreAmong, ComparedView, Finds, FindsNamed, IsFirst, OpensFirst, Spares, is_spared}
use Rattle.tree_walk.specs.declared.fault.WalkFault.TheVariants as walk
use Rattle.collector.proofs.MadeLemmas.{get-with_made}
use Rattle.collector.proofs.NamingLemmas.{as_fs, key_of}
use Rattle.collector.specs.Comparing.{AreComplete, AreSettled, AreWithMade, FindsBeside, FindsSpared, SparesBeside, is_below}
use Rattle.collector.proofs.ComparingLemmas.{placed_waiting, same_bytes, settled_opens, settled_passes}

-- no commit is below a root: what is read there is no commit but any that one likes
no_commit_id : (id : List ℕ) → id ≡ [] → id ≡ 0 ∷ [] → ⊥
no_commit_id id none one = cc (none, one)

pub no_commit : (all : Objects) (new : List ℕ) (key : Key) → IsCompleteRoot all new → key.kind ≡ kind.Commit → is_below all new key ≡ true → ⊥
no_commit all new key complete is below =
    no_commit_id key.id
    ((root_reads all [] new complete).each (commit_key key.id) (subst (λ (k : Key). is_below all new k ≡ true) (ap (λ (k : Kind). key_of k key.id) is) below))
    ((root_reads all (0 ∷ []) new complete).each (commit_key key.id) (subst (λ (k : Key). is_below all new k ≡ true) (ap (λ (k : Kind). key_of k key.id) is) below))

-- a block names nothing
pub block_names_none : (all : Objects) (key : Key) → key.kind ≡ kind.Block → named all key ≡ []
block_names_none all key is = ap (λ (k : Kind). named_under all k key.id) is

-- the first that waits is the one that is opened
same_key_first : (a b : Key) (xs ys : List Key) → a ∷ xs ≡ b ∷ ys → a ≡ b
same_key_first a b xs ys e = cc

some_first : (c : ComparedView) (key : Key) → IsFirst key c → c.waiting ≡ [] → ⊥
some_first c key first none = inner_is_some [] key first.rest (sym first.first ∙ none)

module _ (objects all : Objects) (old new : List ℕ) where
  -- a block is passed
  pub passes_block : (key : Key) (before after : ComparedView) → IsFirst key before → key.kind ≡ kind.Block → AreSettled objects all old new before
      → (before.waiting ≢ [] → OpensFirst before after) → AreSettled objects all old new after
  passes_block key before after first is settled opens =
      let one = opens (some_first before key first) in
      let own : one.key ≡ key = same_key_first one.key key one.rest first.rest (sym one.first ∙ first.first) in
      subst (AreSettled objects all old new) (sym one.is)
      (settled_passes objects all old new one.key one.rest before settled one.first (ap (λ (k : Key). named all k) own ∙ block_names_none all key is))

  -- an object that was found beside is opened
  pub opens_beside : (key : Key) (before next after : ComparedView) → AreComplete objects all old new → AreSettled objects all old new before → IsFirst key before
      → FindsBeside objects all key before next → (next.waiting ≢ [] → OpensFirst next after) → AreSettled objects all old new after
  opens_beside key before next after complete settled first finds opens =
      let one = opens some in
      let own : one.key ≡ key = same_key_first one.key key one.rest (first.rest ++ found) (sym one.first ∙ waits) in
      subst (AreSettled objects all old new) (sym one.is)
      (subst (λ (k : Key). AreSettled objects all old new (record next { opened = next.opened ++ k ∷ []; waiting = one.rest })) (sym own)
      (settled_opens objects all old new key before next complete settled first finds one.rest (one.first ∙ ap (λ (k : Key). k ∷ one.rest) own)))
    where
      found : List Key
      found = distinct_from (finds.placed.opened ++ finds.placed.waiting) (filter (λ (k : Key). not (is_spared finds.placed k)) (named all key))

      waits : next.waiting ≡ key ∷ (first.rest ++ found)
      waits = finds.finds.waiting ∙ ap (λ (ks : List Key). ks ++ found) (placed_waiting objects all old new key before next complete settled first finds ∙ first.first)

      some : next.waiting ≢ []
      some none = inner_is_some [] key (first.rest ++ found) (sym waits ∙ none)

-- ---- what is found beside

-- names are found, after what stands beside was spared
pub finds_spared : (objects : Objects) (beside : Option (List ℕ)) (names : List Key) (older : List Dirent) (old next new : ComparedView) → SparesBeside objects beside old next
    → ((id : List ℕ) → is_in (entry_keys older) (fs_key id) ≡ true → is_spared next (fs_key id) ≡ true) → FindsNamed names older next new
    → FindsSpared objects beside names old new
finds_spared objects beside names older old next new spares among finds = record {
  next = next;
  spares = spares;
  placed = finds.next;
  opened = finds.places.opened;
  waiting = finds.places.waiting;
  spared = finds.places.spared;
  each = λ at id is. elim (finds.places.each at id is) [ inl was ↦ inl was | inr naming ↦ inr (among id naming) ];
  finds = finds.finds;
}

-- where nothing stands beside
pub finds_alone : (objects : Objects) (names : List Key) (older : List Dirent) (old new : ComparedView) → older ≡ [] → FindsNamed names older old new
    → FindsSpared objects None names old new
finds_alone objects names older old new none finds =
    finds_spared objects None names older old old new refl
    (λ id naming. absurd (true≢false (sym (ap (λ (es : List Dirent). is_in (entry_keys es) (fs_key id)) (sym none) ∙ naming)))) finds

-- where an object does, whose names are spared
pub finds_after : (objects : Objects) (id : List ℕ) (names : List Key) (older : List Dirent) (old next new : ComparedView)
    → Spares (named objects (fs_key id)) old next → AreAmong (named objects (fs_key id)) older → FindsNamed names older next new → FindsSpared objects (Some id) names old new
finds_after objects id names older old next new spares among finds =
    finds_spared objects (Some id) names older old next new spares
    (λ other naming.
    spares.spared (fs_key other) ∙ or_right (is_spared old (fs_key other)) (is_in (named objects (fs_key id)) (fs_key other)) (among (fs_key other) naming)) finds

-- what an object of a key names, by what is read
pub named_as_read : (objects : Objects) (id : List ℕ) (object : FsObject) → fs_at objects id ≡ Ok object → named objects (fs_key id) ≡ named_in object
named_as_read objects id object reads = ap named_by_fs reads

pub finds_beside : (objects all : Objects) (key : Key) (object : FsObject) (before taken new : ComparedView) → key.kind ≡ kind.Fs → fs_at all key.id ≡ Ok object
    → taken ≡ record before { beside = map.remove before.beside key } → FindsSpared objects (map.get before.beside key) (named_in object) taken new
    → FindsBeside objects all key before new
finds_beside objects all key object before taken new is reads took finds = record {
  object = object;
  reads = reads;
  next = finds.next;
  spares = subst (λ (c : ComparedView). SparesBeside objects (map.get before.beside key) c finds.next) took finds.spares;
  placed = finds.placed;
  opened = finds.opened;
  waiting = finds.waiting;
  spared = finds.spared;
  each = finds.each;
  finds = subst (λ (names : List Key). Finds names finds.placed new) (sym (ap (λ (k : Kind). named_under all k key.id) is ∙ ap named_by_fs reads)) finds.finds;
}

pub as_found : (objects : Objects) (one other : Option (List ℕ)) (names : List Key) (old new : ComparedView) → one ≡ other → FindsSpared objects one names old new
    → FindsSpared objects other names old new
as_found objects one other names old new same finds = subst (λ (beside : Option (List ℕ)). FindsSpared objects beside names old new) same finds

-- ---- an object that is stored or made

pub object_stored : (objects all : Objects) (made : map.FinMap key_cmp (List ℕ)) (key : Key) (size : ℕ) (r : Result FsObject WalkFault) → AreWithMade objects made all
    → key.kind ≡ kind.Fs → Some size ≡ option_map length (map.get objects key) → AnswersRead objects (fs_at objects key.id) r → AnswersRead objects (fs_at all key.id) r
object_stored objects all made key size r with is there read =
    subst (λ (o : Option (List ℕ)). AnswersRead objects (fs_in (fs_key key.id) o) r)
    (sym (same_bytes objects all with.keeps (fs_key key.id) (ap (λ (k : Key). is_some (map.get objects k)) (sym (as_fs key is)) ∙ stored (map.get objects key) there))) read
  where
    stored : (o : Option (List ℕ)) → Some size ≡ option_map length o → is_some o ≡ true
    stored None e = cc
    stored (Some bytes) e = refl

-- what isn't stored is what is made
not_stored : (objects all : Objects) (made : map.FinMap key_cmp (List ℕ)) (key : Key) → AreWithMade objects made all → key.kind ≡ kind.Fs
    → None ≡ option_map length (map.get objects key) → map.get all key ≡ map.get made key
not_stored objects all made key with is gone = with.fs key is ∙ get-with_made objects made key ∙ by (map.get objects key) gone
  where
    by : (o : Option (List ℕ)) → None ≡ option_map length o → (if is_some o then o else map.get made key) ≡ map.get made key
    by None e = refl
    by (Some bytes) e = cc

at_key : (all : Objects) (key : Key) (o : Option (List ℕ)) → key.kind ≡ kind.Fs → map.get all key ≡ o → fs_in key o ≡ fs_at all key.id
at_key all key o is has =
    ap (λ (k : Key). fs_in k o) (as_fs key is) ∙ ap (λ (bytes : Option (List ℕ)). fs_in (fs_key key.id) bytes) (sym has ∙ ap (λ (k : Key). map.get all k) (as_fs key is))

pub object_made : (objects all : Objects) (made : map.FinMap key_cmp (List ℕ)) (key : Key) (bytes : List ℕ) (r : Result FsObject WalkFault) → AreWithMade objects made all
    → key.kind ≡ kind.Fs → None ≡ option_map length (map.get objects key) → Some bytes ≡ map.get made key → AnswersRead objects (fs_in key (Some bytes)) r
    → AnswersRead objects (fs_at all key.id) r
object_made objects all made key bytes r with is gone has read =
    subst (λ (due : Result FsObject TreeFault). AnswersRead objects due r) (at_key all key (Some bytes) is (not_stored objects all made key with is gone ∙ sym has)) read

pub object_gone : (objects all : Objects) (made : map.FinMap key_cmp (List ℕ)) (key : Key) → AreWithMade objects made all → key.kind ≡ kind.Fs
    → None ≡ option_map length (map.get objects key) → None ≡ map.get made key → AnswersRead {T = FsObject} objects (fs_at all key.id) (Err (walk.Incomplete key))
object_gone objects all made key with is gone none =
    subst (λ (due : Result FsObject TreeFault). AnswersRead {T = FsObject} objects due (Err (walk.Incomplete key))) (at_key all key None is (not_stored objects all made key with is gone ∙ sym none)) refl

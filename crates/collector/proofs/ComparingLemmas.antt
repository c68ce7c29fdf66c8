-- What one tree needs beside another. The key lemmas are nothing_settled, settled_alone,
-- settled_beside, settled_opens, settled_passes, settled_lists and fails_by_store.
use Rattle.std.proofs.Common.{◌≡◌, ◌≢◌, ◌↔◌, IsTrue, ◌||◌, ◌⊎◌, inl, inr, ℕ, Bool, true, false, cond, not, if◌then◌else◌, is_some, filter, List, [], ◌∷◌, ◌++◌, refl, sym, ap, ap₂, ◌∙◌, subst, append_assoc, true≢false, Option, None, Some, Result, Ok, Err}
use Rattle.std.specs.Prelude.{⊤}
use Rattle.std.specs.Cmp.Lexicographic.{bytes_decides}
use Rattle.std.specs.FinMap as map
use Rattle.std.proofs.lemmas.Bool.{or_cases, or_left, or_right}
use Rattle.ids.specs.Key.{Objects, key_cmp}
use Rattle.ids.specs.ObjectId.{nil}
use Rattle.ids.specs.declared.key.Key.{Key}
use Rattle.ids.specs.declared.key.Kind.{Kind}
use Rattle.ids.specs.declared.key.Kind.TheVariants as kind
use Rattle.ids.proofs.BasicLemmas.{same_from_some}
use Rattle.ids.proofs.KeyOrderLemmas.{key_cmp_total}
use Rattle.fs_objects.specs.declared.fs_object.FsObject.{FsObject}
use Rattle.object_graph.specs.Objects.{commit_in, fs_at, fs_in, fs_key, is_nil}
use Rattle.object_graph.specs.Reached.{named, named_by_commit, named_by_fs, named_under, own_keys}
use Rattle.object_graph.specs.Traversal.{IsCompleteRoot, distinct_from, is_in, start}
use Rattle.object_graph.specs.Unchanged.{Keeps}
use Rattle.object_graph.specs.declared.fault.TreeFault.{TreeFault}
use Rattle.object_graph.proofs.KeyLemmas.{in_append, in_distinct_from, in_pushed, same_key, same_key-itself, same_key-true}
use Rattle.object_graph.proofs.ReachingLemmas.{in_first, root_closes, root_has, root_within}
use Rattle.object_graph.proofs.ReadableLemmas.{root_reads}
use Rattle.object_graph.proofs.StoredLemmas.{none_stored, root_stored}
use Rattle.tree_walk.specs.Reading.{AnswersRead, IsDue}
use Rattle.tree_walk.specs.declared.fault.WalkFault.{WalkFault}
use Rattle.collector.specs.Compared.{ComparedView, IsFirst, is_found, is_spared, nothing_compared}
use Rattle.collector.proofs.NamingLemmas.{as_fs}
use Rattle.collector.specs.Comparing.{AreComplete, AreSettled, FindsBeside, IsFsFault, IsOfStore, of_object, of_older, ListsUnshared, SparesBeside, is_below}

-- ---- below a complete root

-- what something below a complete root names is below it
pub named_below : (objects : Objects) (root : List ℕ) (above key : Key) → IsCompleteRoot objects root → is_below objects root above ≡ true
    → is_in (named objects above) key ≡ true → is_below objects root key ≡ true
named_below objects root above key complete below naming = root_closes objects root complete above key below naming

-- a stored key has its bytes among more objects, so it names the same there
pub same_bytes : (objects all : Objects) → Keeps objects all → (key : Key) → is_some (map.get objects key) ≡ true → map.get all key ≡ map.get objects key
same_bytes objects all keeps key stored = by (map.get objects key) refl stored
  where
    by : (o : Option (List ℕ)) → map.get objects key ≡ o → is_some o ≡ true → map.get all key ≡ map.get objects key
    by None is e = absurd (true≢false (sym e))
    by (Some bytes) is e = keeps.kept key bytes is ∙ sym is

-- what stands for a key's names goes by its bytes alone
pub same_named : (objects all : Objects) (key : Key) → map.get all key ≡ map.get objects key → named all key ≡ named objects key
same_named objects all key same = by key.kind key.id same
  where
    by : (k : Kind) (id : List ℕ) → map.get all (record { kind = k; id = id }) ≡ map.get objects (record { kind = k; id = id })
        → named_under all k id ≡ named_under objects k id
    by kind.Commit id is = ap (λ (o : Option (List ℕ)). named_by_commit (commit_in id o)) is
    by kind.Fs id is = ap (λ (o : Option (List ℕ)). named_by_fs (fs_in (fs_key id) o)) is
    by kind.Block id is = refl

below_stored : (objects : Objects) (root : List ℕ) → IsCompleteRoot objects root → (key : Key) → is_below objects root key ≡ true → is_some (map.get objects key) ≡ true
below_stored objects root complete key below = (root_stored objects true root start (none_stored objects) complete).stored key below

-- ---- lists of keys

in_filter : (p : Key → Bool) (keys : List Key) (q : Key) → is_in (filter p keys) q ≡ true → is_in keys q ≡ true
in_filter p [] q e = e
in_filter p (k ∷ keys) q e = by (p k) e (in_filter p keys q)
  where
    by : (b : Bool) → is_in (if b then k ∷ filter p keys else filter p keys) q ≡ true → (is_in (filter p keys) q ≡ true → is_in keys q ≡ true)
        → (same_key q k || is_in keys q) ≡ true
    by true e rest = elim (or_cases (same_key q k) (is_in (filter p keys) q) e) [
      | inl own ↦ or_left (same_key q k) (is_in keys q) own
      | inr there ↦ or_right (same_key q k) (is_in keys q) (rest there)
    ]
    by false e rest = or_right (same_key q k) (is_in keys q) (rest e)

filtered : (p : Key → Bool) (keys : List Key) (q : Key) → is_in keys q ≡ true → p q ≡ true → is_in (filter p keys) q ≡ true
filtered p [] q e good = e
filtered p (k ∷ keys) q e good = by (p k) refl (or_cases (same_key q k) (is_in keys q) e) (λ there. filtered p keys q there good)
  where
    by : (b : Bool) → p k ≡ b → (same_key q k ≡ true) ⊎ (is_in keys q ≡ true) → (is_in keys q ≡ true → is_in (filter p keys) q ≡ true)
        → is_in (if b then k ∷ filter p keys else filter p keys) q ≡ true
    by true is (inl own) rest = or_left (same_key q k) (is_in (filter p keys) q) own
    by true is (inr there) rest = or_right (same_key q k) (is_in (filter p keys) q) (rest there)
    by false is (inl own) rest = absurd (true≢false (sym good ∙ ap p (same_key-true q k own) ∙ is))
    by false is (inr there) rest = rest there

-- ---- the steps

-- the first that waits was found
pub first_found : (c : ComparedView) (key : Key) → IsFirst key c → is_found c key ≡ true
first_found c key first =
    in_append c.opened c.waiting key
    ∙ or_right (is_in c.opened key) (is_in c.waiting key) (ap (λ (ks : List Key). is_in ks key) first.first ∙ in_first key first.rest)

-- the first that waits is the last that was opened
moved : (c : ComparedView) (key : Key) (rest : List Key) → c.waiting ≡ key ∷ rest → (q : Key) → is_in ((c.opened ++ key ∷ []) ++ rest) q ≡ is_found c q
moved c key rest waits q = ap (λ (ks : List Key). is_in ks q) (append_assoc c.opened (key ∷ []) rest ∙ ap (λ (ks : List Key). c.opened ++ ks) (sym waits))

module _ (objects all : Objects) (old new : List ℕ) where
  -- the first that waits, which names nothing, is opened
  pub settled_passes : (key : Key) (rest : List Key) (c : ComparedView) → AreSettled objects all old new c → c.waiting ≡ key ∷ rest → named all key ≡ []
      → AreSettled objects all old new (record c { opened = c.opened ++ key ∷ []; waiting = rest })
  settled_passes key rest c settled waits none = record {
    needed = λ q is. settled.needed q (sym (moved c key rest waits q) ∙ is);
    shared = settled.shared;
    beside = settled.beside;
    closed = λ above q is naming. ap (λ (b : Bool). b || is_spared c q) (moved c key rest waits q) ∙ on above q (in_pushed c.opened key above is) naming;
    root = λ some. ap (λ (b : Bool). b || is_below objects old (fs_key new)) (moved c key rest waits (fs_key new)) ∙ settled.root some;
  }
    where
      on : (above q : Key) → (is_in c.opened above ≡ true) ⊎ (above ≡ key) → is_in (named all above) q ≡ true → (is_found c q || is_spared c q) ≡ true
      on above q (inl before) naming = settled.closed above q before naming
      on above q (inr own) naming =
          absurd (true≢false (sym (sym (ap (λ (ks : List Key). is_in ks q) (ap (λ (k : Key). named all k) own ∙ none)) ∙ naming)))

  -- where nothing waits, what was found and what the older tree has are all
  pub settled_lists : (c : ComparedView) → Keeps objects all → AreComplete objects all old new → AreSettled objects all old new c → c.waiting ≡ []
      → ListsUnshared objects all old new (c.opened ++ c.waiting)
  settled_lists c keeps complete settled none = record {
    needed = settled.needed;
    each = λ key below. root_within all (λ (q : Key). (is_found c q || is_below objects old q) ≡ true) closed new first key below;
  }
    where
      opened : (q : Key) → is_found c q ≡ true → is_in c.opened q ≡ true
      opened q found =
          elim (or_cases (is_in c.opened q) (is_in c.waiting q) (sym (in_append c.opened c.waiting q) ∙ found)) [
            | inl there ↦ there
            | inr waits ↦ absurd (true≢false (sym (sym (ap (λ (ks : List Key). is_in ks q) none) ∙ waits)))
          ]

      shared : (q : Key) → (is_found c q ≡ true) ⊎ (is_spared c q ≡ true) → (is_found c q || is_below objects old q) ≡ true
      shared q (inl found) = or_left (is_found c q) (is_below objects old q) found
      shared q (inr spared) = or_right (is_found c q) (is_below objects old q) (settled.shared q spared)

      by : (above q : Key) → (is_found c above ≡ true) ⊎ (is_below objects old above ≡ true) → is_in (named all above) q ≡ true → (is_found c q || is_below objects old q) ≡ true
      by above q (inl found) naming = shared q (or_cases (is_found c q) (is_spared c q) (settled.closed above q (opened above found) naming))
      by above q (inr below) naming =
          or_right (is_found c q) (is_below objects old q)
          (named_below objects old above q complete.older below
          (ap (λ (ks : List Key). is_in ks q) (sym (same_named objects all above (same_bytes objects all keeps above (below_stored objects old complete.older above below)))) ∙ naming))

      closed : (above q : Key) → (is_found c above || is_below objects old above) ≡ true → is_in (named all above) q ≡ true → (is_found c q || is_below objects old q) ≡ true
      closed above q is naming = by above q (or_cases (is_found c above) (is_below objects old above) is) naming

      own : (b : Bool) → is_nil new ≡ b → (q : Key) → is_in (if b then [] else fs_key new ∷ []) q ≡ true → (is_found c q || is_below objects old q) ≡ true
      own true none q is = absurd (true≢false (sym is))
      own false some q is = elim (in_pushed [] (fs_key new) q is) [
        | inl none_there ↦ absurd (true≢false (sym none_there))
        | inr same ↦ subst (λ (k : Key). (is_found c k || is_below objects old k) ≡ true) (sym same) (settled.root some)
      ]

      first : (q : Key) → is_in (own_keys new) q ≡ true → (is_found c q || is_below objects old q) ≡ true
      first q is = own (is_nil new) refl q is

-- ---- the first that waits is opened, with what stands beside it

module _ (objects : Objects) where
  -- what is spared then: what was, and what the one beside names
  spared_by : (o : Option (List ℕ)) (c next : ComparedView) (q : Key) → SparesBeside objects o c next → is_spared next q ≡ true
      → (is_spared c q ≡ true) ⊎ ((id : List ℕ) × (o ≡ Some id) × (is_in (named objects (fs_key id)) q ≡ true))
  spared_by None c next q same spared = inl (ap (λ (n : ComparedView). is_spared n q) (sym same) ∙ spared)
  spared_by (Some id) c next q spares spared = elim (or_cases (is_spared c q) (is_in (named objects (fs_key id)) q) (sym (spares.spared q) ∙ spared)) [
    | inl was ↦ inl was
    | inr naming ↦ inr (id, refl, naming)
  ]

  spared_stays : (o : Option (List ℕ)) (c next : ComparedView) (q : Key) → SparesBeside objects o c next → is_spared c q ≡ true → is_spared next q ≡ true
  spared_stays None c next q same spared = ap (λ (n : ComparedView). is_spared n q) same ∙ spared
  spared_stays (Some id) c next q spares spared = spares.spared q ∙ or_left (is_spared c q) (is_in (named objects (fs_key id)) q) spared

  opened_by : (o : Option (List ℕ)) (c next : ComparedView) → SparesBeside objects o c next → next.opened ≡ c.opened
  opened_by None c next same = ap (λ (n : ComparedView). n.opened) same
  opened_by (Some id) c next spares = spares.opened

  waiting_by : (o : Option (List ℕ)) (c next : ComparedView) → SparesBeside objects o c next → next.waiting ≡ c.waiting
  waiting_by None c next same = ap (λ (n : ComparedView). n.waiting) same
  waiting_by (Some id) c next spares = spares.waiting

  beside_by : (o : Option (List ℕ)) (c next : ComparedView) → SparesBeside objects o c next → next.beside ≡ c.beside
  beside_by None c next same = ap (λ (n : ComparedView). n.beside) same
  beside_by (Some id) c next spares = spares.beside

module _ (objects all : Objects) (old new : List ℕ) (key : Key) (before after : ComparedView) (complete : AreComplete objects all old new)
    (settled : AreSettled objects all old new before) (first : IsFirst key before) (finds : FindsBeside objects all key before after) where
  -- the view before, without what stands beside the key
  abbrev alone : ComparedView
  alone = record before { beside = map.remove before.beside key }

  -- what the key names, without what is spared
  abbrev more : List Key
  more = filter (λ (k : Key). not (is_spared finds.placed k)) (named all key)

  spared_is : (q : Key) → is_spared after q ≡ is_spared finds.next q
  spared_is q = ap (λ (s : map.FinMap key_cmp ⊤). is_some (map.get s q)) (finds.finds.spared ∙ finds.spared)

  placed_is : (q : Key) → is_spared finds.placed q ≡ is_spared finds.next q
  placed_is q = ap (λ (s : map.FinMap key_cmp ⊤). is_some (map.get s q)) finds.spared

  placed_opened : finds.placed.opened ≡ before.opened
  placed_opened = finds.opened ∙ opened_by objects (map.get before.beside key) alone finds.next finds.spares

  pub placed_waiting : finds.placed.waiting ≡ before.waiting
  placed_waiting = finds.waiting ∙ waiting_by objects (map.get before.beside key) alone finds.next finds.spares

  met_is : finds.placed.opened ++ finds.placed.waiting ≡ before.opened ++ before.waiting
  met_is = ap₂ (λ (a : List Key) (b : List Key). a ++ b) placed_opened placed_waiting

  found_is : (q : Key) → is_found after q ≡ (is_found before q || is_in more q)
  found_is q =
      ap₂ (λ (a : List Key) (b : List Key). is_in (a ++ b) q) finds.finds.opened finds.finds.waiting
      ∙ ap (λ (ks : List Key). is_in ks q) (sym (append_assoc finds.placed.opened finds.placed.waiting (distinct_from (finds.placed.opened ++ finds.placed.waiting) more)))
      ∙ in_append (finds.placed.opened ++ finds.placed.waiting) (distinct_from (finds.placed.opened ++ finds.placed.waiting) more) q
      ∙ in_distinct_from (finds.placed.opened ++ finds.placed.waiting) more q
      ∙ ap (λ (ks : List Key). is_in ks q || is_in more q) met_is

  found_stays : (q : Key) → is_found before q ≡ true → is_found after q ≡ true
  found_stays q found = found_is q ∙ or_left (is_found before q) (is_in more q) found

  spares_stay : (q : Key) → is_spared before q ≡ true → is_spared after q ≡ true
  spares_stay q spared = spared_is q ∙ spared_stays objects (map.get before.beside key) alone finds.next q finds.spares spared

  needed_then : (q : Key) → is_found after q ≡ true → is_below all new q ≡ true
  needed_then q found = elim (or_cases (is_found before q) (is_in more q) (sym (found_is q) ∙ found)) [
    | inl was ↦ settled.needed q was
    | inr there ↦ named_below all new key q complete.newer (settled.needed key (first_found before key first)) (in_filter (λ (k : Key). not (is_spared finds.placed k)) (named all key) q there)
  ]

  shared_then : (q : Key) → is_spared after q ≡ true → is_below objects old q ≡ true
  shared_then q spared = elim (spared_by objects (map.get before.beside key) alone finds.next q finds.spares (sym (spared_is q) ∙ spared)) [
    | inl was ↦ settled.shared q was
    | inr named_there ↦ named_below objects old (fs_key named_there.0) q complete.older
        (settled.shared (fs_key named_there.0) (settled.beside key named_there.0 named_there.1)) named_there.2
  ]

  beside_then : (at : Key) (id : List ℕ) → map.get after.beside at ≡ Some id → is_spared after (fs_key id) ≡ true
  beside_then at id is = elim (finds.each at id (ap (λ (m : map.FinMap key_cmp (List ℕ)). map.get m at) (sym finds.finds.beside) ∙ is)) [
    | inl was ↦ spares_stay (fs_key id)
        (by (same_key at key) (sym (map.get-remove key_cmp_total before.beside key at)
        ∙ ap (λ (m : map.FinMap key_cmp (List ℕ)). map.get m at) (sym (beside_by objects (map.get before.beside key) alone finds.next finds.spares)) ∙ was))
    | inr spared ↦ spared_is (fs_key id) ∙ spared
  ]
    where
      by : (b : Bool) → cond b None (map.get before.beside at) ≡ Some id → is_spared before (fs_key id) ≡ true
      by true e = cc e
      by false e = settled.beside at id e

  grown_found : (q : Key) → (is_found before q ≡ true) ⊎ (is_spared before q ≡ true) → (is_found after q || is_spared after q) ≡ true
  grown_found q (inl found) = or_left (is_found after q) (is_spared after q) (found_stays q found)
  grown_found q (inr spared) = or_right (is_found after q) (is_spared after q) (spares_stay q spared)

  own_found : (q : Key) → is_in (named all key) q ≡ true → (is_found after q || is_spared after q) ≡ true
  own_found q naming = by (is_spared finds.placed q) refl
    where
      by : (b : Bool) → is_spared finds.placed q ≡ b → (is_found after q || is_spared after q) ≡ true
      by true spared = or_right (is_found after q) (is_spared after q) (spared_is q ∙ sym (placed_is q) ∙ spared)
      by false free =
          or_left (is_found after q) (is_spared after q)
          (found_is q ∙ or_right (is_found before q) (is_in more q) (filtered (λ (k : Key). not (is_spared finds.placed k)) (named all key) q naming (ap not free)))

  closed_then : (above q : Key) → (is_in after.opened above ≡ true) ⊎ (above ≡ key) → is_in (named all above) q ≡ true → (is_found after q || is_spared after q) ≡ true
  closed_then above q (inl was) naming =
      grown_found q (or_cases (is_found before q) (is_spared before q)
      (settled.closed above q (ap (λ (ks : List Key). is_in ks above) (sym (finds.finds.opened ∙ placed_opened)) ∙ was) naming))
  closed_then above q (inr own) naming = own_found q (subst (λ (k : Key). is_in (named all k) q ≡ true) own naming)

  root_then : (is_found before (fs_key new) ≡ true) ⊎ (is_below objects old (fs_key new) ≡ true) → (is_found after (fs_key new) || is_below objects old (fs_key new)) ≡ true
  root_then (inl found) = or_left (is_found after (fs_key new)) (is_below objects old (fs_key new)) (found_stays (fs_key new) found)
  root_then (inr below) = or_right (is_found after (fs_key new)) (is_below objects old (fs_key new)) below

  pub settled_opens : (rest : List Key) → after.waiting ≡ key ∷ rest → AreSettled objects all old new (record after { opened = after.opened ++ key ∷ []; waiting = rest })
  settled_opens rest waits = record {
    needed = λ q is. needed_then q (sym (moved after key rest waits q) ∙ is);
    shared = shared_then;
    beside = beside_then;
    closed = λ above q is naming. ap (λ (b : Bool). b || is_spared after q) (moved after key rest waits q) ∙ closed_then above q (in_pushed after.opened key above is) naming;
    root = λ some.
        ap (λ (b : Bool). b || is_below objects old (fs_key new)) (moved after key rest waits (fs_key new))
        ∙ root_then (or_cases (is_found before (fs_key new)) (is_below objects old (fs_key new)) (settled.root some));
  }

-- ---- the begin

-- forty zeros, as an id is compared
pub is_nil_id : (id : List ℕ) (b : Bool) → (IsTrue b ↔ (id ≡ nil)) → b ≡ true → is_nil id ≡ true
is_nil_id id b same is = (bytes_decides id nil).1 (same.0 is)

own_there : (id : List ℕ) → is_nil id ≡ false → is_in (own_keys id) (fs_key id) ≡ true
own_there id some = ap (λ (b : Bool). is_in (if b then [] else fs_key id ∷ []) (fs_key id)) some ∙ in_first (fs_key id) []

nothing_at : (X : Type 0) (q : Key) → is_some (map.get (map.empty {X = X} {R = key_cmp}) q) ≡ true → ⊥
nothing_at X q e = true≢false (sym (sym (ap is_some (map.get-empty key_cmp q)) ∙ e))

module _ (objects all : Objects) (old new : List ℕ) (complete : AreComplete objects all old new) where
  old_below : is_nil old ≡ false → is_below objects old (fs_key old) ≡ true
  old_below some = root_has objects old complete.older (fs_key old) (own_there old some)

  new_below : is_nil new ≡ false → is_below all new (fs_key new) ≡ true
  new_below some = root_has all new complete.newer (fs_key new) (own_there new some)

  -- a root of no object, or the older one itself
  pub nothing_settled : (is_nil new ≡ true) ⊎ (new ≡ old) → AreSettled objects all old new nothing_compared
  nothing_settled which = record {
    needed = λ q e. absurd (true≢false (sym e));
    shared = λ q e. absurd (nothing_at ⊤ q e);
    beside = λ at id e. absurd (nothing_at (List ℕ) at (ap is_some e));
    closed = λ above q e naming. absurd (true≢false (sym e));
    root = λ some. by which some;
  }
    where
      by : (is_nil new ≡ true) ⊎ (new ≡ old) → is_nil new ≡ false → is_below objects old (fs_key new) ≡ true
      by (inl none) some = absurd (true≢false (sym none ∙ some))
      by (inr same) some = ap (λ (id : List ℕ). is_below objects old (fs_key id)) same ∙ old_below (ap is_nil (sym same) ∙ some)

  -- a root beside none
  pub settled_alone : is_nil new ≡ false → AreSettled objects all old new (record nothing_compared { waiting = fs_key new ∷ [] })
  settled_alone some = record {
    needed = λ q e. only q (in_pushed [] (fs_key new) q e);
    shared = λ q e. absurd (nothing_at ⊤ q e);
    beside = λ at id e. absurd (nothing_at (List ℕ) at (ap is_some e));
    closed = λ above q e naming. absurd (true≢false (sym e));
    root = λ there. or_left (is_in (fs_key new ∷ []) (fs_key new)) (is_below objects old (fs_key new)) (in_first (fs_key new) []);
  }
    where
      only : (q : Key) → (is_in [] q ≡ true) ⊎ (q ≡ fs_key new) → is_below all new q ≡ true
      only q (inl none) = absurd (true≢false (sym none))
      only q (inr same) = ap (λ (k : Key). is_below all new k) same ∙ new_below some

  -- a root beside an older one
  pub settled_beside : is_nil new ≡ false → is_nil old ≡ false
      → AreSettled objects all old new (record { opened = []; waiting = fs_key new ∷ []; spared = map.insert map.empty (fs_key old) tt; beside = map.insert map.empty (fs_key new) old })
  settled_beside some older = record {
    needed = (settled_alone some).needed;
    shared = λ q e. spared q (same_key q (fs_key old)) refl (sym (ap is_some (map.get-insert key_cmp_total map.empty (fs_key old) tt q)) ∙ e);
    beside = λ at id e. stands id (same_key at (fs_key new)) at (sym (map.get-insert key_cmp_total map.empty (fs_key new) old at) ∙ e);
    closed = λ above q e naming. absurd (true≢false (sym e));
    root = λ there. or_left (is_in (fs_key new ∷ []) (fs_key new)) (is_below objects old (fs_key new)) (in_first (fs_key new) []);
  }
    where
      spared : (q : Key) (b : Bool) → same_key q (fs_key old) ≡ b → is_some (cond b (Some tt) (map.get (map.empty {X = ⊤} {R = key_cmp}) q)) ≡ true → is_below objects old q ≡ true
      spared q true same e = ap (λ (k : Key). is_below objects old k) (same_key-true q (fs_key old) same) ∙ old_below older
      spared q false other e = absurd (nothing_at ⊤ q e)

      stands : (id : List ℕ) (b : Bool) (at : Key) → cond b (Some old) (map.get (map.empty {X = List ℕ} {R = key_cmp}) at) ≡ Some id
          → is_some (map.get (map.insert (map.empty {X = ⊤} {R = key_cmp}) (fs_key old) tt) (fs_key id)) ≡ true
      stands id true at e =
          ap is_some (map.get-insert key_cmp_total map.empty (fs_key old) tt (fs_key id)
          ∙ ap (λ (i : List ℕ). cond (same_key (fs_key i) (fs_key old)) (Some tt) (map.get (map.empty {X = ⊤} {R = key_cmp}) (fs_key id))) (sym (same_from_some old id e))
          ∙ ap (λ (b : Bool). cond b (Some tt) (map.get (map.empty {X = ⊤} {R = key_cmp}) (fs_key id))) (same_key-itself (fs_key old)))
      stands id false at e = absurd (nothing_at (List ℕ) at (ap is_some e))

-- ---- faults

read_alone : (objects : Objects) (r : Result FsObject TreeFault) (object : FsObject) (fault : WalkFault) → r ≡ Ok object
    → AnswersRead {T = FsObject} objects r (Err fault) → IsDue objects None fault
read_alone objects (Ok other) object fault e due = due
read_alone objects (Err why) object fault e due = cc e

-- over complete trees only the store can fail
pub fails_by_store : (objects all : Objects) (old new : List ℕ) (key : Key) (c : ComparedView) (fault : WalkFault) → AreComplete objects all old new
    → AreSettled objects all old new c → IsFirst key c → key.kind ≡ kind.Fs → IsFsFault objects all key c fault → IsOfStore objects fault
fails_by_store objects all old new key c fault complete settled first is (of_object due) =
    let read = (root_reads all [] new complete.newer).each (fs_key key.id) (subst (λ (k : Key). is_below all new k ≡ true) (as_fs key is) (settled.needed key (first_found c key first))) in
    read_alone objects (fs_at all key.id) read.0 fault read.1 due
fails_by_store objects all old new key c fault complete settled first is (of_older id beside due) =
    let read = (root_reads objects [] old complete.older).each (fs_key id) (settled.shared (fs_key id) (settled.beside key id beside)) in
    read_alone objects (fs_at objects id) read.0 fault read.1 due

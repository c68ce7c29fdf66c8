-- What directories name, one after another. The key lemmas are lists_then, adds_then, entries_next, entries_end,
-- ids_next, ids_end, named_next, named_end, noted and reached_next.
use Rattle.std.proofs.Common.{IsTrue, true≢false, ◌↔◌, ◌≡◌, ◌<◌, ◌≤◌, ◌+◌, ℕ, zero, suc, Bool, true, false, if◌then◌else◌, arith, refl, Option, List, [], ◌∷◌, ◌++◌, length, drop, get_or, is_some, sym, ap, subst, ◌∙◌, ◌⊎◌, Result, Ok, Err, inl, inr}
use Rattle.std.specs.Cmp.Lexicographic.{bytes_decides}
use Rattle.std.specs.FinMap as map
use Rattle.std.proofs.lemmas.Bool.{or_left, or_right}
use Rattle.std.specs.Prelude.{OnOk}
use Rattle.ids.specs.Key.{Objects}
use Rattle.ids.specs.ObjectId.{nil}
use Rattle.ids.specs.declared.key.Key.{Key}
use Rattle.fs_objects.specs.declared.dirent.Dirent.{Dirent}
use Rattle.object_graph.specs.Objects.{fs_in, fs_key, is_nil}
use Rattle.object_graph.specs.Reached.{pends, names, entry_keys, named, named_by_fs, own_keys}
use Rattle.object_graph.specs.Traversal.{is_in}
use Rattle.object_graph.proofs.KeyLemmas.{in_append}
use Rattle.object_graph.proofs.ReachingLemmas.{in_first}
use Rattle.tree_walk.proofs.ReadsLemmas.{nothing_left}
use Rattle.tree_walk.proofs.StepsLemmas.{next_entry}
use Rattle.tree_fetch.specs.Levels.{Adds, AreListed, AreNamed, AreReached, AreSeen, Grows, IsAmong, IsMet, IsNamedBy, IsSeen, Lists, Seen, entries_at}
use Rattle.tree_fetch.proofs.CoverLemmas.{are_seen_more, held_kept, seen_more}
use Rattle.tree_fetch.proofs.RowLemmas.{among_either, among_first, among_later, get_put, keeps_then, put_only, put_stays}

pub lists_then : (old mid new : Seen) (before now after : List (List ℕ)) → Lists old mid before now → Lists mid new now after → Lists old new before after
lists_then old mid new before now after one two = record {
  met = λ id is. two.met id (one.met id is);
  stays = λ id is. two.stays id (one.stays id is);
  fresh = λ id is. elim (two.fresh id is) [
    | inl there ↦ elim (one.fresh id there) [ inl first ↦ inl first | inr here ↦ inr (two.stays id here) ]
    | inr here ↦ inr here
  ];
}

-- ---- nothing is listed but what is named

pub adds_none : (keys : List Key) (listed : List (List ℕ)) → Adds keys listed listed
adds_none keys listed = record { only = λ id is. inl is }

pub adds_then : (keys here : List Key) (before now after : List (List ℕ)) → ((id : List ℕ) → is_in here (fs_key id) ≡ true → is_in keys (fs_key id) ≡ true)
    → Adds keys before now → Adds here now after → Adds keys before after
adds_then keys here before now after within one two = record {
  only = λ id is. elim (two.only id is) [ inl there ↦ one.only id there | inr new ↦ inr (within id new) ];
}

-- the object of an entry is among those of all
pub own_among : (entries : List Dirent) (i : ℕ) (e : Dirent) → i < length entries → e ≡ get_or entries i e → (key : Key) → is_in (own_keys e.id) key ≡ true → is_in (entry_keys entries) key ≡ true
own_among [] i e within is key there = absurd (not_less i within)
  where
    not_less : (n : ℕ) → n < 0 → ⊥
    not_less n less = omega (arith, less)
own_among (x ∷ entries) zero e within is key there =
    in_append (own_keys x.id) (entry_keys entries) key
    ∙ or_left (is_in (own_keys x.id) key) (is_in (entry_keys entries) key) (subst (λ (d : Dirent). is_in (own_keys d.id) key ≡ true) is there)
own_among (x ∷ entries) (suc i) e within is key there =
    in_append (own_keys x.id) (entry_keys entries) key
    ∙ or_right (is_in (own_keys x.id) key) (is_in (entry_keys entries) key) (own_among entries i e (shorter within) is key there)
  where
    shorter : suc i < suc (length entries) → i < length entries
    shorter less = omega (arith, less)

-- an id that was not met
pub notes_new : (seen : Seen) (listed : List (List ℕ)) (id : List ℕ) → Lists seen (map.insert seen (fs_key id) tt) listed (listed ++ id ∷ []) × IsSeen (map.insert seen (fs_key id) tt) id
notes_new seen listed id = (
  record {
    met = λ other is. put_stays seen id other tt is;
    stays = λ other is. among_first other listed (id ∷ []) is;
    fresh = λ other is. elim (put_only seen id other tt is) [ inl before ↦ inl before | inr same ↦ inr (among_later other listed (id ∷ []) (inl same)) ];
  },
  inr (ap is_some (get_put seen (fs_key id) tt)),
)

-- ---- entries, one after another

-- wherever the first ones were seen, and the rest is, all are
abbrev pub EntriesLeft : List Dirent → ℕ → Seen → Type 0
EntriesLeft entries i now = (more : Seen) → ((id : List ℕ) → IsMet now id → IsMet more id) → AreSeen more (drop i entries) → AreSeen more entries

pub entries_next : (entries : List Dirent) (i : ℕ) (e : Dirent) (now new : Seen) → i < length entries → e ≡ get_or entries i e → EntriesLeft entries i now
    → ((id : List ℕ) → IsMet now id → IsMet new id) → IsSeen new e.id → EntriesLeft entries (i + 1) new
entries_next entries i e now new within is left met seen more mono rest =
    left more (λ id before. mono id (met id before)) (subst (AreSeen more) (sym (next_entry entries i e within is)) (seen_more new more mono e.id seen, rest))

pub entries_end : (entries : List Dirent) (i : ℕ) (now : Seen) → length entries ≤ i → EntriesLeft entries i now → AreSeen now entries
entries_end entries i now past left = left now (λ id is. is) (subst (AreSeen now) (sym (nothing_left entries i past)) tt)

-- ---- ids, one after another

abbrev pub IdsLeft : Objects → List (List ℕ) → ℕ → Seen → Type 0
IdsLeft held ids i now = (more : Seen) → ((id : List ℕ) → IsMet now id → IsMet more id) → AreListed held more (drop i ids) → AreListed held more ids

pub ids_next : (held : Objects) (ids : List (List ℕ)) (i : ℕ) (id : List ℕ) (now new : Seen) → i < length ids → id ≡ get_or ids i id → IdsLeft held ids i now
    → ((other : List ℕ) → IsMet now other → IsMet new other) → AreSeen new (entries_at held id) → IdsLeft held ids (i + 1) new
ids_next held ids i id now new within is left met seen more mono rest =
    left more (λ other before. mono other (met other before))
    (subst (AreListed held more) (sym (next_entry ids i id within is)) (are_seen_more new more mono (entries_at held id) seen, rest))

pub ids_end : (held : Objects) (ids : List (List ℕ)) (i : ℕ) (now : Seen) → length ids ≤ i → IdsLeft held ids i now → AreListed held now ids
ids_end held ids i now past left = left now (λ id is. is) (subst (AreListed held now) (sym (nothing_left ids i past)) tt)

-- ---- an id is noted

pub on_ok : {T E P Q : Type 0} (result : Result T E) → OnOk result P → (P → Q) → OnOk result Q
on_ok (Ok done) is h = h is
on_ok (Err failed) is h = tt

pub not_nil : (b : Bool) (id : List ℕ) → IsTrue b ↔ (id ≡ nil) → b ≡ false → is_nil id ≡ false
not_nil b id told other = by (is_nil id) refl
  where
    by : (n : Bool) → is_nil id ≡ n → is_nil id ≡ false
    by true is = absurd (true≢false (sym (told.1 ((bytes_decides id nil).0 is)) ∙ other))
    by false is = is

pub adds_note : (listed more : List (List ℕ)) (id : List ℕ) → is_nil id ≡ false → more ≡ listed ++ id ∷ [] → Adds (own_keys id) listed more
adds_note listed more id some pushed =
    subst (Adds (own_keys id) listed) (sym pushed) (record { only = λ other is. elim (among_either other listed (id ∷ []) is) [ inl before ↦ inl before | inr here ↦ inr (own other here) ] })
  where
    own : (other : List ℕ) → IsAmong other (id ∷ []) → is_in (own_keys id) (fs_key other) ≡ true
    own other (inl same) =
        subst (λ (i : List ℕ). is_in (own_keys id) (fs_key i) ≡ true) (sym same)
        (ap (λ (b : Bool). is_in (if b then [] else fs_key id ∷ []) (fs_key id)) some ∙ in_first (fs_key id) [])
    own other (inr none) = absurd none

pub noted : (seen new : Seen) (listed more : List (List ℕ)) (id : List ℕ) (key : Key) → key ≡ fs_key id → more ≡ listed ++ id ∷ [] → new ≡ map.insert seen key tt
    → Lists seen new listed more × IsSeen new id
noted seen new listed more id key same pushed put =
    let at : new ≡ map.insert seen (fs_key id) tt = put ∙ ap (λ k. map.insert seen k tt) same in
    subst (λ (s : Seen). Lists seen s listed more × IsSeen s id) (sym at)
    (subst (λ (l : List (List ℕ)). Lists seen (map.insert seen (fs_key id) tt) listed l × IsSeen (map.insert seen (fs_key id) tt) id) (sym pushed) (notes_new seen listed id))

-- ---- what the directories of some ids name

-- what is listed more is named by one of them
pub record NamesMore (held : Objects) (ids listed more : List (List ℕ)) : Type 0 where
  pub each : (id : List ℕ) → IsAmong id more → IsAmong id listed ⊎ IsNamedBy held ids id

pub named_next : (held : Objects) (ids : List (List ℕ)) (i : ℕ) (above : List ℕ) (before now after : List (List ℕ)) → i < length ids → above ≡ get_or ids i above
    → NamesMore held ids before now → Adds (named held (fs_key above)) now after → NamesMore held ids before after
named_next held ids i above before now after within is so_far adds = record {
  each = λ id among. elim (adds.only id among) [
    | inl there ↦ so_far.each id there
    | inr naming ↦ inr (record { above = above; among = at_place ids i above within is; naming = naming })
  ];
}
  where
    not_less : (n : ℕ) → n < 0 → ⊥
    not_less n less = omega (arith, less)

    shorter : (m n : ℕ) → suc m < suc n → m < n
    shorter m n less = omega (arith, less)

    at_place : (list : List (List ℕ)) (k : ℕ) (x : List ℕ) → k < length list → x ≡ get_or list k x → IsAmong x list
    at_place [] k x less here = absurd (not_less k less)
    at_place (y ∷ list) zero x less here = inl here
    at_place (y ∷ list) (suc k) x less here = inr (at_place list k x (shorter k (length list) less) here)

pub named_end : (held : Objects) (ids before after : List (List ℕ)) → before ≡ [] → NamesMore held ids before after → AreNamed held ids after
named_end held ids before after none more = record {
  each = λ id among. elim (more.each id among) [ inl there ↦ absurd (subst (IsAmong id) none there) | inr by ↦ by ];
}

-- what the next level asks for is reached, as this one was
pub reached_next : (from : List Key) (F G : Objects) (ids next : List (List ℕ)) → AreReached from F ids → Grows ids F G → AreNamed G ids next → AreReached from G next
reached_next from F G ids next reached grows by = record {
  each = λ id among objects keeps.
      let own = by.each id among in
      let same : named objects (fs_key own.above) ≡ named G (fs_key own.above) =
      ap (λ (o : Option (List ℕ)). named_by_fs (fs_in (fs_key own.above) o)) (held_kept G objects keeps own.above (grows.there own.above own.among)) in
      names (fs_key own.above) (fs_key id) (reached.each own.above own.among objects (keeps_then F G objects grows.keeps keeps))
      (ap (λ (keys : List Key). is_in keys (fs_key id)) same ∙ own.naming) refl;
}

-- what a root needs is asked for first
pub reached_root : (root : List ℕ) (ids : List (List ℕ)) → Adds (own_keys root) [] ids → AreReached (own_keys root) map.empty ids
reached_root root ids adds = record {
  each = λ id among objects keeps. elim (adds.only id among) [ inl none ↦ absurd none | inr own ↦ pends (fs_key id) own ];
}

-- What is listed below a root has distinct paths, at each of which something stands: so there are no more than the table of its
-- entries has. The key lemma is listed_few.
use Rattle.std.proofs.Common.{◌≡◌, ◌≢◌, ◌≤◌, ◌-◌, ℕ, zero, suc, Bool, true, false, cond, if◌then◌else◌, List, [], ◌∷◌, ◌++◌, length, refl, sym, ap, ◌∙◌, arith, Option, None, Some, is_some, IsSome, option_map, option_and_then, inl, inr, true≢false}
use Rattle.std.specs.Prelude.{⊤}
use Rattle.std.specs.FinMap as map
use Rattle.std.specs.List.{AllByRecursion}
use Rattle.ids.specs.Key.{Objects}
use Rattle.tree_model.specs.Path.{PathV, path_cmp}
use Rattle.tree_model.specs.PathOrder.{paths_total}
use Rattle.tree_model.proofs.ListedLemmas.{same_path-apart}
use Rattle.fs_objects.specs.Mode.{is_directory_mode}
use Rattle.fs_objects.specs.declared.dirent.Dirent.{Dirent}
use Rattle.object_graph.specs.Listing.{Listed, listed, listed_entry, listed_in, prefixed}
use Rattle.object_graph.specs.Objects.{AreEntriesOf, directory_in, dirents_at, entry_below, entry_in, entry_named, entry_of, in_name_order}
use Rattle.object_graph.specs.declared.entry.Entry.{Entry}
use Rattle.object_graph.proofs.EntryLemmas.{In, Apart, apart_in_order, named_in_order}
use Rattle.tree_merge.specs.Sides.{Entries}
use Rattle.tree_merge.proofs.CompleteRootLemmas.{member_named}
use Rattle.tree_merge.proofs.DirentLemmas.{same_name, same_name-itself}

abbrev pub Item : Type 0
Item = PathV × Entry

-- no path stands twice
abbrev pub Distinct : Listed → Type 0
Distinct [] = ⊤
Distinct (x ∷ xs) = AllByRecursion (λ (y : Item). y.0 ≢ x.0) xs × Distinct xs

pub all_more : (P Q : Item → Type 0) → ((y : Item) → P y → Q y) → (xs : Listed) → AllByRecursion P xs → AllByRecursion Q xs
all_more P Q more [] all = tt
all_more P Q more (x ∷ xs) all = (more x all.0, all_more P Q more xs all.1)

all_append : (P : Item → Type 0) (xs ys : Listed) → AllByRecursion P xs → AllByRecursion P ys → AllByRecursion P (xs ++ ys)
all_append P [] ys all also = also
all_append P (x ∷ xs) ys all also = (all.0, all_append P xs ys all.1 also)

pub all_prefixed : (P Q : Item → Type 0) (name : List ℕ) → ((y : Item) → P y → Q (name ∷ y.0, y.1)) → (xs : Listed) → AllByRecursion P xs → AllByRecursion Q (prefixed name xs)
all_prefixed P Q name more [] all = tt
all_prefixed P Q name more (x ∷ xs) all = (more x all.0, all_prefixed P Q name more xs all.1)

tails : (name : List ℕ) (p q : PathV) → name ∷ p ≡ name ∷ q → p ≡ q
tails name p q e = cc

heads : (m n : List ℕ) (p q : PathV) → m ∷ p ≡ n ∷ q → m ≡ n
heads m n p q e = cc

pub distinct_prefixed : (name : List ℕ) (xs : Listed) → Distinct xs → Distinct (prefixed name xs)
distinct_prefixed name [] distinct = tt
distinct_prefixed name (x ∷ xs) distinct = (
  all_prefixed (λ y. y.0 ≢ x.0) (λ y. y.0 ≢ name ∷ x.0) name (λ y other e. other (tails name y.0 x.0 e)) xs distinct.0,
  distinct_prefixed name xs distinct.1,
)

distinct_append : (xs ys : Listed) → Distinct xs → Distinct ys → AllByRecursion (λ (x : Item). AllByRecursion (λ (y : Item). y.0 ≢ x.0) ys) xs → Distinct (xs ++ ys)
distinct_append [] ys one two apart = two
distinct_append (x ∷ xs) ys one two apart = (all_append (λ y. y.0 ≢ x.0) xs ys one.0 apart.0, distinct_append xs ys one.1 two apart.1)

-- ---- what is listed

module _ (A : Objects) where
  -- something stands at the path, which is not the directory itself
  pub record StandsBelow (id : List ℕ) (y : Item) : Type 0 where
    pub other : y.0 ≢ []
    pub there : IsSome (entry_below A y.0 id)

  pub record IsListed (id : List ℕ) (xs : Listed) : Type 0 where
    pub all : AllByRecursion (StandsBelow id) xs
    pub distinct : Distinct xs

  -- something stands at the path, whose first name is that of one of the entries
  record StandsIn (ds es : List Dirent) (y : Item) : Type 0 where
    name : List ℕ
    rest : PathV
    is : y.0 ≡ name ∷ rest
    there : IsSome (entry_in A ds y.0)
    known : IsSome (entry_named name es)

  record AreListed (ds es : List Dirent) (xs : Listed) : Type 0 where
    all : AllByRecursion (StandsIn ds es) xs
    pub distinct : Distinct xs

  inner_listed : (room : ℕ) → ((id : List ℕ) → IsListed id (listed A room id)) → (e : Dirent) (b : Bool) → is_directory_mode e.mode ≡ b
      → AllByRecursion (λ (y : Item). (y.0 ≢ []) × (is_directory_mode e.mode ≡ true) × IsSome (entry_below A y.0 e.id)) (if b then listed A room e.id else []) × Distinct (if b then listed A room e.id else [])
  inner_listed room more e true dir =
      let own = more e.id in
      (all_more (StandsBelow e.id) (λ y. (y.0 ≢ []) × (is_directory_mode e.mode ≡ true) × IsSome (entry_below A y.0 e.id)) (λ y stands. (stands.other, dir, stands.there)) (listed A room e.id) own.all, own.distinct)
  inner_listed room more e false dir = (tt, tt)

  named_itself : (e : Dirent) (es : List Dirent) → entry_named e.name (e ∷ es) ≡ Some e
  named_itself e es = ap (λ (b : Bool). if b then Some e else entry_named e.name es) (same_name-itself e.name)

  still_known : (e : Dirent) (es : List Dirent) (name : List ℕ) → IsSome (entry_named name es) → IsSome (entry_named name (e ∷ es))
  still_known e es name some = by (same_name name e.name)
    where
      by : (b : Bool) → IsSome (if b then Some e else entry_named name es)
      by true = refl
      by false = some

  -- one entry, and what lies below it
  one_listed : (room : ℕ) → ((id : List ℕ) → IsListed id (listed A room id)) → (ds : List Dirent) (e : Dirent) (es : List Dirent) → entry_named e.name ds ≡ Some e
      → AllByRecursion (λ (y : Item). StandsIn ds (e ∷ es) y × ((rest : PathV) × (y.0 ≡ e.name ∷ rest))) (listed_entry (listed A room) e) × Distinct (listed_entry (listed A room) e)
  one_listed room more ds e es is =
      let inner : Listed = if is_directory_mode e.mode then listed A room e.id else [] in
      let own = inner_listed room more e (is_directory_mode e.mode) refl in (
        (
          (record { name = e.name; rest = []; is = refl; there = ap (λ (o : Option Dirent). is_some (option_map entry_of o)) is; known = ap is_some (named_itself e es) }, ([], refl)),
          all_prefixed (λ y. (y.0 ≢ []) × (is_directory_mode e.mode ≡ true) × IsSome (entry_below A y.0 e.id)) (λ y. StandsIn ds (e ∷ es) y × ((rest : PathV) × (y.0 ≡ e.name ∷ rest))) e.name
              (λ y stands. (record { name = e.name; rest = y.0; is = refl; there = further y.0 stands.0 stands.1 stands.2; known = ap is_some (named_itself e es) }, (y.0, refl)))
              inner own.0,
        ),
        (
          all_prefixed (λ y. (y.0 ≢ []) × (is_directory_mode e.mode ≡ true) × IsSome (entry_below A y.0 e.id)) (λ y. y.0 ≢ e.name ∷ []) e.name (λ y stands same. stands.0 (tails e.name y.0 [] same)) inner own.0,
          distinct_prefixed e.name inner own.1,
        ),
      )
    where
      further : (q : PathV) → q ≢ [] → is_directory_mode e.mode ≡ true → IsSome (entry_below A q e.id) → IsSome (entry_in A ds (e.name ∷ q))
      further [] other dir there = absurd (other refl)
      further (m ∷ q) other dir there =
          ap (λ (o : Option Dirent). is_some (option_and_then (λ i. entry_in A (dirents_at A i) (m ∷ q)) (directory_in o))) is
          ∙ ap (λ (b : Bool). is_some (option_and_then (λ i. entry_in A (dirents_at A i) (m ∷ q)) (if b then Some e.id else None))) dir ∙ there

  entries_listed : (room : ℕ) → ((id : List ℕ) → IsListed id (listed A room id)) → (ds es : List Dirent) → Apart es → ((e : Dirent) → In e es → entry_named e.name ds ≡ Some e)
      → AreListed ds es (listed_in (listed A room) es)
  unfolding In Apart
  entries_listed room more ds [] apart named = record { all = tt; distinct = tt }
  entries_listed room more ds (e ∷ es) apart named =
      let first = one_listed room more ds e es (named e (inl refl)) in
      let later = entries_listed room more ds es apart.1 (λ f there. named f (inr there)) in
      record {
        all = all_append (StandsIn ds (e ∷ es)) (listed_entry (listed A room) e) (listed_in (listed A room) es)
            (all_more (λ y. StandsIn ds (e ∷ es) y × ((rest : PathV) × (y.0 ≡ e.name ∷ rest))) (StandsIn ds (e ∷ es)) (λ y both. both.0) (listed_entry (listed A room) e) first.0)
            (all_more (StandsIn ds es) (StandsIn ds (e ∷ es)) (λ y stands. record { name = stands.name; rest = stands.rest; is = stands.is; there = stands.there; known = still_known e es stands.name stands.known }) (listed_in (listed A room) es) later.all);
        distinct = distinct_append (listed_entry (listed A room) e) (listed_in (listed A room) es) first.1 later.distinct
            (all_more (λ y. StandsIn ds (e ∷ es) y × ((rest : PathV) × (y.0 ≡ e.name ∷ rest))) (λ x. AllByRecursion (λ (y : Item). y.0 ≢ x.0) (listed_in (listed A room) es))
            (λ x both. all_more (StandsIn ds es) (λ y. y.0 ≢ x.0) (λ y stands same. unlike stands.name (stands.known) (heads stands.name e.name stands.rest both.1.0 (sym stands.is ∙ same ∙ both.1.1))) (listed_in (listed A room) es) later.all)
            (listed_entry (listed A room) e) first.0);
      }
    where
      unlike : (name : List ℕ) → IsSome (entry_named name es) → name ≡ e.name → ⊥
      unlike name some same = true≢false (sym some ∙ ap (λ n. is_some (entry_named n es)) same ∙ ap is_some apart.0)

  pub lists_below : (room : ℕ) (id : List ℕ) → IsListed id (listed A room id)
  unfolding listed
  lists_below zero id = record { all = tt; distinct = tt }
  lists_below (suc room) id =
      let ds : List Dirent = dirents_at A id in
      let es : List Dirent = in_name_order ds in
      let are = entries_listed room (lists_below room) ds es (apart_in_order ds)
      (λ e there. sym (named_in_order e.name ds) ∙ member_named A es (apart_in_order ds) e there) in
      record {
        all = all_more (StandsIn ds es) (StandsBelow id) (λ y stands. record { other = λ none. no_root stands.name stands.rest (sym none ∙ stands.is); there = stands.there }) (listed_in (listed A room) es) are.all;
        distinct = are.distinct;
      }
    where
      no_root : (name : List ℕ) (rest : PathV) → [] ≡ name ∷ rest → ⊥
      no_root name rest e = cc

-- ---- how many they are

pub fits_in : (xs : Listed) (m : Entries) → Distinct xs → AllByRecursion (λ (y : Item). IsSome (map.get m y.0)) xs → length xs ≤ map.len m
fits_in [] m distinct all = omega arith
fits_in (x ∷ xs) m distinct all =
    let rest : length xs ≤ map.len (map.remove m x.0) =
    fits_in xs (map.remove m x.0) distinct.1 (both xs distinct.0 all.1) in
    let less : map.len (map.remove m x.0) ≡ map.len m - 1 = map.len-remove paths_total m x.0 ∙ ap (λ (b : Bool). cond b (map.len m - 1) (map.len m)) all.0 in
    let some : 1 ≤ map.len m = not_empty (map.len m) refl in
    omega (arith, rest, less, some)
  where
    not_empty : (n : ℕ) → map.len m ≡ n → 1 ≤ map.len m
    not_empty zero is = absurd (true≢false (sym all.0 ∙ ap (λ (k : Entries). is_some (map.get k x.0)) (map.empty_of_len m is) ∙ ap is_some (map.get-empty path_cmp x.0)))
    not_empty (suc n) is = omega (arith, is)

    still : (y : Item) → y.0 ≢ x.0 → IsSome (map.get m y.0) → IsSome (map.get (map.remove m x.0) y.0)
    still y other there =
        ap is_some (map.get-remove paths_total m x.0 y.0 ∙ ap (λ (b : Bool). cond b None (map.get m y.0)) (same_path-apart y.0 x.0 other)) ∙ there

    both : (ys : Listed) → AllByRecursion (λ (y : Item). y.0 ≢ x.0) ys → AllByRecursion (λ (y : Item). IsSome (map.get m y.0)) ys → AllByRecursion (λ (y : Item). IsSome (map.get (map.remove m x.0) y.0)) ys
    both [] others there = tt
    both (y ∷ ys) others there = (still y others.0 there.0, both ys others.1 there.1)

pub listed_few : (A : Objects) (room : ℕ) (root : List ℕ) (entries : Entries) → AreEntriesOf A root entries → length (listed A room root) ≤ map.len entries
listed_few A room root entries are =
    let own = lists_below A room root in
    fits_in (listed A room root) entries own.distinct
    (all_more (StandsBelow A root) (λ y. IsSome (map.get entries y.0)) (λ y stands. ap is_some (are y.0) ∙ stands.there) (listed A room root) own.all)

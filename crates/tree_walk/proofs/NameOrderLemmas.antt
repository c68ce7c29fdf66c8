-- Entries whose names descend. The key lemmas are none_descends, more_descends and turned_values.
use Rattle.std.proofs.Common.{◌≡◌, ◌&&◌, ◌<◌, ◌+◌, ℕ, Bool, true, false, List, [], ◌∷◌, ◌++◌, length, map as list_map, reverse, drop, get_or, Ordering, Less, Equal, Greater, arith, refl, sym, ap, ◌∙◌, subst, true≢false}
use Rattle.std.specs.FinMap as map
use Rattle.std.specs.List.{AllByRecursion}
use Rattle.std.specs.Ordering.{is_lt, ordering_reverse}
use Rattle.std.proofs.lemmas.Bool.{and_parts}
use Rattle.std.proofs.lemmas.List.{drop_all, drop_more, map-append, nil_from_length, reverse-append}
use Rattle.ids.proofs.BasicLemmas.{AllByRecursion-push}
use Rattle.fs_objects.specs.declared.dirent.Dirent.{Dirent}
use Rattle.object_graph.specs.Objects.{by_name, in_name_order, name_cmp}
use Rattle.object_graph.proofs.EntryLemmas.{names_total}
use Rattle.tree_walk.specs.NameOrder.{descending, is_above}

abbrev Named : Type 0
Named = List ℕ × Dirent

-- the entries with their names
abbrev named : List Dirent → List Named
named entries = list_map (λ (e : Dirent). (e.name, e)) entries

-- ---- from the last entry to the first

pub none_descends : (entries : List Dirent) (at : ℕ) → at ≡ length entries → descending (drop at entries) ≡ true
none_descends entries at is = ap descending (drop_all at entries (omega (arith, is)))

pub more_descends : (entries : List Dirent) (at : ℕ) (e : Dirent) → at < length entries → e ≡ get_or entries at e
    → is_above e (drop (at + 1) entries) ≡ true → descending (drop (at + 1) entries) ≡ true → descending (drop at entries) ≡ true
more_descends entries at e within is above rest =
    ap descending (drop_more entries at e within ∙ ap (λ (x : Dirent). x ∷ drop (at + 1) entries) (sym is))
    ∙ both (is_above e (drop (at + 1) entries)) (descending (drop (at + 1) entries)) above rest
  where
    both : (a b : Bool) → a ≡ true → b ≡ true → (a && b) ≡ true
    both true b p q = q
    both false b p q = p

-- ---- the entries under their names

is_less : (o : Ordering) → is_lt o ≡ true → o ≡ Less
is_less Less e = refl
is_less Equal e = absurd (true≢false (sym e))
is_less Greater e = absurd (true≢false (sym e))

-- each name behind an entry is below its own
below_all : (e : Dirent) (entries : List Dirent) → is_above e entries ≡ true → descending entries ≡ true
    → AllByRecursion (λ (x : Dirent). name_cmp e.name x.name ≡ Greater) entries
below_all e [] above rest = tt
below_all e (x ∷ entries) above rest =
    let parts = and_parts (is_above x entries) (descending entries) rest in
    (turned x e (is_less (name_cmp x.name e.name) above), carried entries (below_all x entries parts.0 parts.1))
  where
    turned : (x e : Dirent) → name_cmp x.name e.name ≡ Less → name_cmp e.name x.name ≡ Greater
    turned x e is = names_total.antisymm e.name x.name ∙ ap ordering_reverse is

    back : (y x : Dirent) → name_cmp x.name y.name ≡ Greater → name_cmp y.name x.name ≡ Less
    back y x is = names_total.antisymm y.name x.name ∙ ap ordering_reverse is

    carried : (entries : List Dirent) → AllByRecursion (λ (y : Dirent). name_cmp x.name y.name ≡ Greater) entries
        → AllByRecursion (λ (y : Dirent). name_cmp e.name y.name ≡ Greater) entries
    carried [] all = tt
    carried (y ∷ entries) all =
        (turned y e (names_total.trans y.name x.name e.name (back y x all.0) (is_less (name_cmp x.name e.name) above)), carried entries all.1)

-- what is put above all stands last
put_last : (e : Dirent) (pairs : List Named) → AllByRecursion (λ (p : Named). name_cmp e.name p.0 ≡ Greater) pairs
    → map.put name_cmp e.name e pairs ≡ pairs ++ (e.name, e) ∷ []
put_last e [] above = refl
put_last e (p ∷ pairs) above = rw above.0 (ap (λ (ps : List Named). p ∷ ps) (put_last e pairs above.1))

named_turned : (x : Dirent) (entries : List Dirent) → named (reverse (x ∷ entries)) ≡ named (reverse entries) ++ (x.name, x) ∷ []
named_turned x entries = ap named (reverse-append (x ∷ []) entries) ∙ map-append (λ (e : Dirent). (e.name, e)) (reverse entries) (x ∷ [])

turned_all : (P : Dirent → Type 0) (Q : Named → Type 0) → ((x : Dirent) → P x → Q (x.name, x)) → (entries : List Dirent) → AllByRecursion P entries
    → AllByRecursion Q (named (reverse entries))
turned_all P Q gives [] all = tt
turned_all P Q gives (x ∷ entries) all =
    subst (λ (pairs : List Named). AllByRecursion Q pairs) (sym (named_turned x entries))
    (AllByRecursion-push Q (named (reverse entries)) (x.name, x) (turned_all P Q gives entries all.1) (gives x all.0))

entries_named : (entries : List Dirent) → descending entries ≡ true → map.entries (by_name entries) ≡ named (reverse entries)
entries_named [] is = nil_from_length (map.entries (by_name [])) (sym (map.len-entries (by_name [])) ∙ map.len-empty name_cmp Dirent)
entries_named (e ∷ entries) is =
    let parts = and_parts (is_above e entries) (descending entries) is in
    map.entries-insert names_total (by_name entries) e.name e ∙ ap (map.put name_cmp e.name e) (entries_named entries parts.1)
    ∙ put_last e (named (reverse entries)) (turned_all (λ (x : Dirent). name_cmp e.name x.name ≡ Greater) (λ (p : Named). name_cmp e.name p.0 ≡ Greater) (λ x less. less) entries
    (below_all e entries parts.0 parts.1))
    ∙ sym (named_turned e entries)

unnamed : (entries : List Dirent) → list_map (λ (p : Named). p.1) (named entries) ≡ entries
unnamed [] = refl
unnamed (e ∷ entries) = ap (λ (es : List Dirent). e ∷ es) (unnamed entries)

-- where names descend, the order of the names is the other one
descending_values : (entries : List Dirent) → descending entries ≡ true → reverse entries ≡ in_name_order entries
descending_values entries is = sym (ap (list_map (λ (p : Named). p.1)) (entries_named entries is) ∙ unnamed (reverse entries))

-- the same, as the calls tell it
pub turned_values : (sorted items slice entries : List Dirent) (is : Bool) → sorted ≡ reverse items → items ≡ entries → slice ≡ items
    → (is ≡ true → descending slice ≡ true) → is ≡ true → sorted ≡ in_name_order entries
turned_values sorted items slice entries is turned whole looked tells met =
    turned ∙ ap reverse whole ∙ descending_values entries (ap descending (sym (looked ∙ whole)) ∙ tells met)

-- The map of values by name shows the placed entries, step by step. The key lemma is placed_shown-push.
use Rattle.std.proofs.Common.{◌≡◌, ℕ, List, [], ◌∷◌, ◌++◌, map, reverse, Bor, Ordering, Less, Equal, Greater, nat_cmp, refl, sym, ap, ◌∙◌}
use Rattle.std.proofs.lemmas.List.{map-append, reverse-append}
use Rattle.std.specs.BTreeMap.{insert_entry}
use Rattle.std.specs.Cmp.Lexicographic.{slice_cmp}
use Rattle.std.specs.Map.{values_of}
use Rattle.std.specs.Ordering.{match_ordering}
use Rattle.serde_json.specs.View.{view}
use Rattle.serde_json.specs.declared.value.Value.{Value}
use Rattle.fs_objects.specs.Placing.{shown, seen}
use Rattle.fs_objects.specs.Spelling.{entry_data, placed, in_written_order}
use Rattle.fs_objects.specs.declared.dirent.Dirent.{Dirent}

abbrev text_cmp : Bor (List ℕ) → Bor (List ℕ) → Ordering
text_cmp a b = slice_cmp nat_cmp a.now b.now

-- one more entry is put in under its name
pub placed-push : (before : List (List ℕ × Dirent)) (entries : List Dirent) (entry : Dirent) → placed before (entries ++ entry ∷ []) ≡ insert_entry (slice_cmp nat_cmp) (placed before entries) entry.name entry
placed-push before [] entry = refl
placed-push before (e ∷ entries) entry = placed-push (insert_entry (slice_cmp nat_cmp) before e.name e) entries entry

map_at : {K X K' X' : Type 0} (f : K × X → K' × X') (o : Ordering) (a b c : List (K × X)) → map f (match_ordering o a b c) ≡ match_ordering o (map f a) (map f b) (map f c)
map_at f Less a b c = refl
map_at f Equal a b c = refl
map_at f Greater a b c = refl

-- keys and values that are seen in another way are put in alike, where the orders agree
seen-insert_entry : (es : List (Bor (List ℕ) × Value)) (k : Bor (List ℕ)) (v : Value) → map seen (insert_entry text_cmp es k v) ≡ insert_entry (slice_cmp nat_cmp) (map seen es) k.now (view v)
seen-insert_entry [] k v = refl
seen-insert_entry (e ∷ es) k v =
    map_at seen (text_cmp k e.0) ((k, v) ∷ e ∷ es) ((e.0, v) ∷ es) (e ∷ insert_entry text_cmp es k v)
    ∙ ap (λ rest. match_ordering (slice_cmp nat_cmp k.now e.0.now) ((k.now, view v) ∷ seen e ∷ map seen es) ((e.0.now, view v) ∷ map seen es) (seen e ∷ rest)) (seen-insert_entry es k v)

shown-insert_entry : (es : List (List ℕ × Dirent)) (k : List ℕ) (v : Dirent) → map shown (insert_entry (slice_cmp nat_cmp) es k v) ≡ insert_entry (slice_cmp nat_cmp) (map shown es) k (entry_data v)
shown-insert_entry [] k v = refl
shown-insert_entry (e ∷ es) k v =
    map_at shown (slice_cmp nat_cmp k e.0) ((k, v) ∷ e ∷ es) ((e.0, v) ∷ es) (e ∷ insert_entry (slice_cmp nat_cmp) es k v)
    ∙ ap (λ rest. match_ordering (slice_cmp nat_cmp k e.0) ((k, entry_data v) ∷ shown e ∷ map shown es) ((e.0, entry_data v) ∷ map shown es) (shown e ∷ rest)) (shown-insert_entry es k v)

-- a map that shows the entries so far shows one more after its value was put in
pub placed_shown-push : (es : List (Bor (List ℕ) × Value)) (key : Bor (List ℕ)) (value : Value) (entries : List Dirent) (entry : Dirent)
    → map seen es ≡ map shown (placed [] entries) → key.now ≡ entry.name → view value ≡ entry_data entry
    → map seen (insert_entry text_cmp es key value) ≡ map shown (placed [] (entries ++ entry ∷ []))
placed_shown-push es key value entries entry before named is =
    seen-insert_entry es key value
    ∙ ap (λ shown_before. insert_entry (slice_cmp nat_cmp) shown_before key.now (view value)) before
    ∙ ap (λ name. insert_entry (slice_cmp nat_cmp) (map shown (placed [] entries)) name (view value)) named
    ∙ ap (insert_entry (slice_cmp nat_cmp) (map shown (placed [] entries)) entry.name) is
    ∙ sym (shown-insert_entry (placed [] entries) entry.name entry)
    ∙ ap (map shown) (sym (placed-push [] entries entry))

map-reverse : {X Y : Type 0} (f : X → Y) (xs : List X) → map f (reverse xs) ≡ reverse (map f xs)
map-reverse f [] = refl
map-reverse f (x ∷ xs) =
    ap (map f) (reverse-append (x ∷ []) xs)
    ∙ map-append f (reverse xs) (x ∷ [])
    ∙ ap (λ ys. ys ++ f x ∷ []) (map-reverse f xs)
    ∙ sym (reverse-append (f x ∷ []) (map f xs))

values-seen : (es : List (Bor (List ℕ) × Value)) → map view (values_of es) ≡ map (λ p. p.1) (map seen es)
values-seen [] = refl
values-seen (e ∷ es) = ap (λ rest. view e.1 ∷ rest) (values-seen es)

values-shown : (es : List (List ℕ × Dirent)) → map entry_data (values_of es) ≡ map (λ p. p.1) (map shown es)
values-shown [] = refl
values-shown (e ∷ es) = ap (λ rest. entry_data e.1 ∷ rest) (values-shown es)

-- the values of such a map, the last first, are those of the entries in written order
pub written_values : (es : List (Bor (List ℕ) × Value)) (values : List Value) (entries : List Dirent)
    → map seen es ≡ map shown (placed [] entries) → values ≡ reverse (values_of es) → map view values ≡ map entry_data (in_written_order entries)
unfolding in_written_order
written_values es values entries shows last_first =
    ap (map view) last_first
    ∙ map-reverse view (values_of es)
    ∙ ap reverse (values-seen es ∙ ap (map (λ p. p.1)) shows ∙ sym (values-shown (placed [] entries)))
    ∙ sym (map-reverse entry_data (values_of (placed [] entries)))

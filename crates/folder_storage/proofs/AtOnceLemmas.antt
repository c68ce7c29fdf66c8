-- What came of syncs that were asked for at once, as lists that grow together. The key lemmas are map-more, both-more and
-- ended-so.
use Rattle.std.proofs.Common.{◌≡◌, ℕ, List, [], ◌∷◌, ◌++◌, map, Option, None, Some, IfSome, ap, subst, sym, ◌∙◌, slice_index_or}
use Rattle.std.proofs.lemmas.List.{append_assoc, map-append}
use Rattle.std.specs.List.{HoldsAt}
use Rattle.std.specs.declared.cmp.Ordering.TheVariants.{Equal}
use Rattle.ids.specs.Key.{key_cmp}
use Rattle.ids.specs.declared.key.Key.{Key}
use Rattle.ids.proofs.KeyOrderLemmas.{key_cmp_exact}
use Rattle.folder_storage.specs.declared.file_system.SyncEnding.{SyncEnding}
use Rattle.folder_storage.specs.AtOnce.{EndedSo}

-- what is made of one more
pub map-more : {A B : Type 0} (f : A → B) (xs more : List A) (x : A) (start mid new : List B) → more ≡ xs ++ x ∷ [] → mid ≡ start ++ map f xs
    → new ≡ mid ++ f x ∷ [] → new ≡ start ++ map f more
map-more f xs more x start mid new all passed pushed =
    pushed ∙ ap (λ list. list ++ f x ∷ []) passed ∙ append_assoc start (map f xs) (f x ∷ [])
    ∙ ap (λ list. start ++ list) (sym (map-append f xs (x ∷ [])) ∙ ap (map f) (sym all))

-- one more of each of two lists of which the same is made
pub both-more : {A B C : Type 0} (p : A → C) (q : B → C) (items pushed : List A) (xs more : List B) (item : A) (x : B) → more ≡ xs ++ x ∷ []
    → pushed ≡ items ++ item ∷ [] → p item ≡ q x → map p items ≡ map q xs → map p pushed ≡ map q more
both-more p q items pushed xs more item x all grown same so =
    ap (map p) grown ∙ map-append p items (item ∷ []) ∙ ap (λ list. list ++ p item ∷ []) so ∙ ap (λ last. map q xs ++ last ∷ []) same
    ∙ sym (map-append q xs (x ∷ [])) ∙ ap (map q) (sym all)

-- the ending at the place at which a search finds the key
pub ended-so : (keys seen : List Key) (endings slice : List SyncEnding) (key : Key) (place : ℕ) (result : Option SyncEnding) → seen ≡ keys → slice ≡ endings
    → HoldsAt (λ other. key_cmp other key ≡ Equal) seen place → IfSome result (λ ending. HoldsAt (λ told. told ≡ ending) slice place)
    → IfSome result (λ ending. EndedSo keys endings key ending)
ended-so keys seen endings slice key place None same same_endings is told = _
ended-so keys seen endings slice key place (Some ending) same same_endings is told = (
  place,
  (λ d. key_cmp_exact (slice_index_or keys place d) key (subst (λ list. key_cmp (slice_index_or list place d) key ≡ Equal) same (is d))),
  subst (λ list. HoldsAt (λ told. told ≡ ending) list place) same_endings told,
)

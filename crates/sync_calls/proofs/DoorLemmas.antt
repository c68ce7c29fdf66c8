-- A copy of who may ask. The key lemmas are holder_more, holders_all, door_admits and door_collects.
use Rattle.std.proofs.Common.{◌≡◌, ℕ, ◌+◌, ⊎_elim, true, false, if◌then◌else◌, List, [], ◌∷◌, ◌++◌, take, refl, sym, ◌∙◌, ap, cond, Option, None, Some}
use Rattle.std.specs.List.{slice_get}
use Rattle.std.specs.Str.{bytes_eq}
use Rattle.std.proofs.lemmas.List.{take_all, take_more}
use Rattle.std.proofs.lemmas.Option.{get_or_from_slice_get, slice_get_cases, slice_get_within}
use Rattle.library_rules.specs.Calls.{token_of}
use Rattle.library_state.specs.declared.call.Act.{Act}
use Rattle.library_state.specs.declared.token.Token.{Token}
use Rattle.depot.specs.Answering.{permits}
use Rattle.depot.specs.CollectionTurns.{permits_collection}
use Rattle.depot.specs.DepotView.{DepotView}
use Rattle.sync_calls.specs.Collecting.{collects}
use Rattle.sync_calls.specs.Door.{IsDoorOf, admits, admits_collection, admitted, holders_of, is_enough, is_owners, right_in, right_shown}
use Rattle.sync_calls.specs.declared.door.Door.{Door}

pub holder_more : {A : Type 0} (hs xs new : List A) (n m : ℕ) (h : A) → xs ≡ take n hs → Some h ≡ slice_get hs n → new ≡ xs ++ h ∷ [] → m ≡ n + 1 → new ≡ take m hs
holder_more hs xs new n m h so there grown more =
    let below = slice_get_within hs n h (sym there) in
    grown ∙ (ap (λ l. l ++ h ∷ []) so ∙ (ap (λ x. take n hs ++ x ∷ []) (sym (get_or_from_slice_get hs n h h (sym there))) ∙ (sym (take_more hs n h below) ∙ ap (λ k. take k hs) (sym more))))

pub holders_all : {A : Type 0} (hs xs : List A) (n : ℕ) → xs ≡ take n hs → ((h : A) → slice_get hs n ≡ Some h → ⊥) → xs ≡ hs
holders_all hs xs n so none =
    so ∙ take_all n hs (⊎_elim (λ found. absurd (none found.0 found.2)) (λ past. past.0) (slice_get_cases hs n).1)

-- the first holder of a secret has the right of its token
right_held : (tokens : List Token) (secret : List ℕ) (a : Act) → is_enough a (right_in (holders_of tokens) secret) ≡ permits (token_of tokens (Some secret)) a
right_held [] secret a = refl
right_held (t ∷ tokens) secret a =
    elim (bytes_eq secret t.secret) as (λ b. is_enough a (if b then Some t.right else right_in (holders_of tokens) secret) ≡ permits (cond b (Some t) (token_of tokens (Some secret))) a)
    [ true ↦ refl | false ↦ right_held tokens secret a ]

shown_held : (tokens : List Token) (secret : Option (List ℕ)) (a : Act) → is_enough a (right_shown (holders_of tokens) secret) ≡ permits (token_of tokens secret) a
shown_held tokens None a = refl
shown_held tokens (Some secret) a = right_held tokens secret a

-- a door lets in whom the library would
pub door_admits : {S : Type 0} (door : Door) (depot : DepotView S) (start : Option (DepotView S)) (secret : Option (List ℕ)) (a : Act) → IsDoorOf door depot → start ≡ Some depot
    → admits door secret a ≡ admitted start secret a
door_admits {S} door depot start secret a is begins =
    ap (λ hs. is_enough a (right_shown hs secret)) is.holders ∙ (shown_held depot.state.tokens secret a ∙ ap (λ (o : Option (DepotView S)). admitted o secret a) (sym begins))

-- ---- of a collection

owner_held : (tokens : List Token) (secret : List ℕ) → is_owners (right_in (holders_of tokens) secret) ≡ permits_collection (token_of tokens (Some secret))
owner_held [] secret = refl
owner_held (t ∷ tokens) secret =
    elim (bytes_eq secret t.secret) as (λ b. is_owners (if b then Some t.right else right_in (holders_of tokens) secret) ≡ permits_collection (cond b (Some t) (token_of tokens (Some secret))))
    [ true ↦ refl | false ↦ owner_held tokens secret ]

owner_shown : (tokens : List Token) (secret : Option (List ℕ)) → is_owners (right_shown (holders_of tokens) secret) ≡ permits_collection (token_of tokens secret)
owner_shown tokens None = refl
owner_shown tokens (Some secret) = owner_held tokens secret

pub door_collects : {S : Type 0} (door : Door) (depot : DepotView S) (start : Option (DepotView S)) (secret : Option (List ℕ)) → IsDoorOf door depot → start ≡ Some depot
    → admits_collection door secret ≡ collects start secret
door_collects {S} door depot start secret is begins =
    ap (λ hs. is_owners (right_shown hs secret)) is.holders ∙ (owner_shown depot.state.tokens secret ∙ ap (λ (o : Option (DepotView S)). collects o secret) (sym begins))

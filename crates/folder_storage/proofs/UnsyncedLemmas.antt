-- What is unsynced after steps, and that texts come in their order. The key lemmas are order-put, order-before, order-short,
-- stops-short, put-text and put-text-order.
use Rattle.std.proofs.Common.{◌≡◌, ◌⊎◌, ℕ, Bool, false, true, List, [], ◌∷◌, ◌++◌, inl, inr, map, Option, None, Some, Result, Ok, Err, OnOk, OnErr, slice_index, subst, refl, sym, ◌∙◌, ap, arith}
use Rattle.std.specs.Bool.{⊤}
use Rattle.std.specs.List.{Any, Contains}
use Rattle.std.specs.declared.cmp.Ordering.TheVariants.{Equal}
use Rattle.std.proofs.lemmas.Bool.{false≢true}
use Rattle.std.proofs.lemmas.List.Elements.{Contains-append_right, Contains-get_or}
use Rattle.ids.specs.Key.{key_cmp}
use Rattle.ids.specs.declared.key.Key.{Key}
use Rattle.ids.proofs.KeyOrderLemmas.{key_cmp_exact}
use Rattle.folder_storage.specs.declared.durability.Directory.{Directory}
use Rattle.folder_storage.specs.declared.durability.Directory.TheVariants.{Objects, OfKind}
use Rattle.folder_storage.specs.Durability.{AreAmong, AreInOrder, AreNamedIn, AreSyncs, BeganSyncs, BeginsSyncs, Due, EndedSyncs, File, Gathered, In, IsDueIn, IsDueOf, IsInOrder, IsUnsynced, Names, OnlySyncs, PutObject, PutText, PutsDurably, Step, StopsBefore, StopsShort, SyncedDirectory, SyncedObject, SyncsAll, SyncsEach, with_steps}
use Rattle.folder_storage.proofs.DurabilityLemmas.{In-at, directories-syncs, objects-syncs, round-steps, syncs-append}

-- in a list, by a place in it
Contains-in : (keys : List Key) (key : Key) → In key keys → Contains keys key
Contains-in [] key is = absurd is
Contains-in (first ∷ keys) key (inl same) = subst (Contains (first ∷ keys)) (sym same) (Contains-get_or (first ∷ keys) 0 first (omega arith))
Contains-in (first ∷ keys) key (inr later) = Contains-append_right (first ∷ []) keys key (Contains-in keys key later)

In-from : (keys : List Key) (key : Key) → Contains keys key → In key keys
In-from keys key (place, below, is) = subst (λ k. In k keys) is (In-at keys place key below)

-- of a sorted list that has one of those that are alike: keys that are alike are one
pub order-listed : {E : Type 0} (old new : List Key) (result : Result ⊤ E) → OnOk result ((key : Key) → Contains old key → Any (λ other. key_cmp key other ≡ Equal) new)
    → OnErr result (new ≡ old) → AreAmong old new
order-listed old new (Ok done) kept same key is =
    let found = kept key (Contains-in old key is) in
    subst (λ k. In k new) (sym (key_cmp_exact key found.1 found.4)) (In-from new found.1 (found.0, found.2, found.3))
order-listed old new (Err failure) kept same key is = subst (In key) (sym same) is

-- nothing
abbrev none : Due → Type 0
none due = ⊥

unsynced-append : (p : Due → Type 0) (a b : List Step) (due : Due) → IsUnsynced p (a ++ b) due → IsUnsynced (IsUnsynced p a) b due
unsynced-append p [] b due is = is
unsynced-append p (PutObject put ∷ a) b due is = unsynced-append (λ d. IsDueOf put d ⊎ p d) a b due is
unsynced-append p (Gathered keys ∷ a) b due is = unsynced-append (λ d. IsDueIn keys d ⊎ p d) a b due is
unsynced-append p (BeganSyncs keys ∷ a) b due is = unsynced-append p a b due is
unsynced-append p (SyncedObject key ∷ a) b due is = unsynced-append (λ d. p d × (d ≡ File key → ⊥)) a b due is
unsynced-append p (SyncedDirectory directory ∷ a) b due is = unsynced-append (λ d. p d × (d ≡ Names directory → ⊥)) a b due is
unsynced-append p (EndedSyncs is_synced ∷ a) b due is = unsynced-append p a b due is
unsynced-append p (PutText text ∷ a) b due is = unsynced-append p a b due is

ordered-append : (p : Due → Type 0) (a b : List Step) → AreInOrder p a → AreInOrder (IsUnsynced p a) b → AreInOrder p (a ++ b)
ordered-append p [] b first more = more
ordered-append p (PutObject put ∷ a) b first more = ordered-append (λ d. IsDueOf put d ⊎ p d) a b first more
ordered-append p (Gathered keys ∷ a) b first more = ordered-append (λ d. IsDueIn keys d ⊎ p d) a b first more
ordered-append p (BeganSyncs keys ∷ a) b first more = ordered-append p a b first more
ordered-append p (SyncedObject key ∷ a) b first more = ordered-append (λ d. p d × (d ≡ File key → ⊥)) a b first more
ordered-append p (SyncedDirectory directory ∷ a) b first more = ordered-append (λ d. p d × (d ≡ Names directory → ⊥)) a b first more
ordered-append p (EndedSyncs is_synced ∷ a) b first more = (first.0, ordered-append p a b first.1 more)
ordered-append p (PutText text ∷ a) b first more = (first.0, ordered-append p a b first.1 more)

-- syncs have no text, and leave no more unsynced
syncs-ordered : (p : Due → Type 0) (steps : List Step) → AreSyncs steps → AreInOrder p steps
syncs-ordered p [] syncs = _
syncs-ordered p (PutObject put ∷ steps) syncs = absurd syncs
syncs-ordered p (Gathered keys ∷ steps) syncs = absurd syncs
syncs-ordered p (BeganSyncs keys ∷ steps) syncs = absurd syncs
syncs-ordered p (SyncedObject key ∷ steps) syncs = syncs-ordered (λ d. p d × (d ≡ File key → ⊥)) steps syncs
syncs-ordered p (SyncedDirectory directory ∷ steps) syncs = syncs-ordered (λ d. p d × (d ≡ Names directory → ⊥)) steps syncs
syncs-ordered p (EndedSyncs is_synced ∷ steps) syncs = absurd syncs
syncs-ordered p (PutText text ∷ steps) syncs = absurd syncs

syncs-unsynced : (p : Due → Type 0) (steps : List Step) → AreSyncs steps → (due : Due) → IsUnsynced p steps due → p due
syncs-unsynced p [] syncs due is = is
syncs-unsynced p (PutObject put ∷ steps) syncs due is = absurd syncs
syncs-unsynced p (Gathered keys ∷ steps) syncs due is = absurd syncs
syncs-unsynced p (BeganSyncs keys ∷ steps) syncs due is = absurd syncs
syncs-unsynced p (SyncedObject key ∷ steps) syncs due is = (syncs-unsynced (λ d. p d × (d ≡ File key → ⊥)) steps syncs due is).0
syncs-unsynced p (SyncedDirectory directory ∷ steps) syncs due is = (syncs-unsynced (λ d. p d × (d ≡ Names directory → ⊥)) steps syncs due is).0
syncs-unsynced p (EndedSyncs is_synced ∷ steps) syncs due is = absurd syncs
syncs-unsynced p (PutText text ∷ steps) syncs due is = absurd syncs

-- what was synced is not left
file-none : (p : Due → Type 0) (keys : List Key) (rest : List Step) → AreSyncs rest → (key : Key) → IsUnsynced p (map SyncedObject keys ++ rest) (File key) → In key keys → ⊥
file-none p [] rest syncs key is among = among
file-none p (k ∷ keys) rest syncs key is (inl same) =
    (syncs-unsynced (λ d. p d × (d ≡ File k → ⊥)) (map SyncedObject keys ++ rest) (syncs-append (map SyncedObject keys) rest (objects-syncs keys) syncs) (File key) is).1 (ap File same)
file-none p (k ∷ keys) rest syncs key is (inr later) = file-none (λ d. p d × (d ≡ File k → ⊥)) keys rest syncs key is later

names-none : (p : Due → Type 0) (directories : List Directory) (directory : Directory) → IsUnsynced p (map SyncedDirectory directories) (Names directory) → In directory directories → ⊥
names-none p [] directory is among = among
names-none p (o ∷ directories) directory is (inl same) =
    (syncs-unsynced (λ d. p d × (d ≡ Names o → ⊥)) (map SyncedDirectory directories) (directories-syncs directories) (Names directory) is).1 (ap Names same)
names-none p (o ∷ directories) directory is (inr later) = names-none (λ d. p d × (d ≡ Names o → ⊥)) directories directory is later

named-none : (p : Due → Type 0) (directories : List Directory) (directory objects of_kind : Directory) → In objects directories × In of_kind directories
    → (directory ≡ objects) ⊎ (directory ≡ of_kind) → IsUnsynced p (map SyncedDirectory directories) (Names directory) → ⊥
named-none p directories directory objects of_kind named (inl same) is = names-none p directories directory is (subst (λ o. In o directories) (sym same) named.0)
named-none p directories directory objects of_kind named (inr same) is = names-none p directories directory is (subst (λ o. In o directories) (sym same) named.1)

due-none : (p : Due → Type 0) (synced : List Key) (directories : List Directory) → AreNamedIn synced directories → (due : Due)
    → IsUnsynced p (map SyncedObject synced ++ map SyncedDirectory directories) due → IsDueIn synced due → ⊥
due-none p synced directories named (File key) is (put, among, same) =
    file-none p synced (map SyncedDirectory directories) (directories-syncs directories) key is (subst (λ k. In k synced) (sym same) among)
due-none p synced directories named (Names directory) is (put, among, same) =
    named-none (IsUnsynced p (map SyncedObject synced)) directories directory (Objects put.kind (slice_index put.id 0)) (OfKind put.kind) (named put among) same
    (unsynced-append p (map SyncedObject synced) (map SyncedDirectory directories) (Names directory) is)

-- a longer list
due-more : (keys more : List Key) → AreAmong keys more → (due : Due) → IsDueIn keys due → IsDueIn more due
due-more keys more among due (key, is, of_key) = (key, among key is, of_key)

order-more : (told : Option (List Step)) (keys more : List Key) → AreAmong keys more → IsInOrder told keys → IsInOrder told more
order-more None keys more among order = _
order-more (Some steps) keys more among order = (order.0, λ due is. due-more keys more among due (order.1 due is))

pub order-same : (old new : Option (List Step)) (keys more : List Key) → new ≡ old → AreAmong keys more → IsInOrder old keys → IsInOrder new more
order-same old new keys more same among order = order-more new keys more among (subst (λ told. IsInOrder told keys) (sym same) order)

-- an object is put, and is in the list
put-one : (told : Option (List Step)) (keys more : List Key) (put : Key) → AreAmong keys more → In put more → IsInOrder told keys
    → IsInOrder (with_steps told (PutObject put ∷ [])) more
put-one None keys more put among named order = _
put-one (Some steps) keys more put among named order = (
  ordered-append none steps (PutObject put ∷ []) order.0 _,
  λ due is. elim (unsynced-append none steps (PutObject put ∷ []) due is) [ inl of_put ↦ (put, named, of_put) | inr before ↦ due-more keys more among due (order.1 due before) ],
)

pub order-put : {E : Type 0} (old new : Option (List Step)) (keys more : List Key) (put : Key) (result : Result ⊤ E)
    → OnOk result (new ≡ with_steps old (PutObject put ∷ [])) → OnErr result ((new ≡ old) ⊎ (new ≡ with_steps old (PutObject put ∷ [])))
    → AreAmong keys more → In put more → IsInOrder old keys → IsInOrder new more
order-put old new keys more put (Ok done) done-so failed among named order = subst (λ told. IsInOrder told more) (sym done-so) (put-one old keys more put among named order)
order-put old new keys more put (Err failure) done-so (inl same) among named order = order-same old new keys more same among order
order-put old new keys more put (Err failure) done-so (inr put-so) among named order = subst (λ told. IsInOrder told more) (sym put-so) (put-one old keys more put among named order)

-- syncs alone
only-more : (told : Option (List Step)) (syncs : List Step) (keys more : List Key) → AreSyncs syncs → AreAmong keys more → IsInOrder told keys → IsInOrder (with_steps told syncs) more
only-more None syncs keys more are among order = _
only-more (Some steps) syncs keys more are among order = (
  ordered-append none steps syncs order.0 (syncs-ordered (IsUnsynced none steps) syncs are),
  λ due is. due-more keys more among due (order.1 due (syncs-unsynced (IsUnsynced none steps) syncs are due (unsynced-append none steps syncs due is))),
)

-- what earlier runs put is in the list too
gathered-due : (p : Due → Type 0) (keys gathered more : List Key) (due : Due) → AreAmong keys gathered → AreAmong gathered more
    → (p due → IsDueIn keys due) → IsDueIn gathered due ⊎ p due → IsDueIn more due
gathered-due p keys gathered more due grown whole before (inl of_key) = due-more gathered more whole due of_key
gathered-due p keys gathered more due grown whole before (inr is) = due-more gathered more whole due (due-more keys gathered grown due (before is))

gather-more : (told : Option (List Step)) (keys gathered more : List Key) → AreAmong keys gathered → AreAmong gathered more → IsInOrder told keys
    → IsInOrder (with_steps told (Gathered gathered ∷ [])) more
gather-more None keys gathered more grown whole order = _
gather-more (Some steps) keys gathered more grown whole order = (
  ordered-append none steps (Gathered gathered ∷ []) order.0 _,
  λ due is. gathered-due (IsUnsynced none steps) keys gathered more due grown whole (order.1 due) (unsynced-append none steps (Gathered gathered ∷ []) due is),
)

begin-more : (told : Option (List Step)) (keys gathered begun : List Key) → AreAmong keys gathered → AreAmong gathered begun → IsInOrder told keys
    → IsInOrder (with_steps told (Gathered gathered ∷ BeganSyncs begun ∷ [])) begun
begin-more None keys gathered begun grown whole order = _
begin-more (Some steps) keys gathered begun grown whole order = (
  ordered-append none steps (Gathered gathered ∷ BeganSyncs begun ∷ []) order.0 _,
  λ due is. gathered-due (IsUnsynced none steps) keys gathered begun due grown whole (order.1 due)
      (unsynced-append none steps (Gathered gathered ∷ BeganSyncs begun ∷ []) due is),
)

-- the disk is told that not all is synced, or that all is where none is left
end-short : (told : Option (List Step)) (keys : List Key) → IsInOrder told keys → IsInOrder (with_steps told (EndedSyncs false ∷ [])) keys
end-short None keys order = _
end-short (Some steps) keys order = (
  ordered-append none steps (EndedSyncs false ∷ []) order.0 ((λ is due unsynced. absurd (false≢true is)), _),
  λ due is. order.1 due (unsynced-append none steps (EndedSyncs false ∷ []) due is),
)

end-all : (told : Option (List Step)) → IsInOrder told [] → IsInOrder (with_steps told (EndedSyncs true ∷ [])) []
end-all None order = _
end-all (Some steps) order = (
  ordered-append none steps (EndedSyncs true ∷ []) order.0 ((λ is due unsynced. (order.1 due unsynced).1), _),
  λ due is. order.1 due (unsynced-append none steps (EndedSyncs true ∷ []) due is),
)

-- after a failure before the syncs, and after a round that was cut short
pub order-before : (old new : Option (List Step)) (keys left : List Key) → StopsBefore old new keys left → IsInOrder old keys → IsInOrder new left
order-before old new keys left (inl stays) order = order-same old new keys left stays.0 stays.1 order
order-before old new keys left (inr gathers) order =
    subst (λ told. IsInOrder told left) (sym gathers.steps) (gather-more old keys gathers.gathered left gathers.grown gathers.whole order)

short-more : (told : Option (List Step)) (keys gathered begun : List Key) (syncs : List Step) → AreAmong keys gathered → AreAmong gathered begun → AreSyncs syncs
    → IsInOrder told keys → IsInOrder (with_steps (with_steps (with_steps told (Gathered gathered ∷ BeganSyncs begun ∷ [])) syncs) (EndedSyncs false ∷ [])) begun
short-more told keys gathered begun syncs grown whole are order =
    let ready = with_steps told (Gathered gathered ∷ BeganSyncs begun ∷ []) in
    end-short (with_steps ready syncs) begun (only-more ready syncs begun begun are (λ key is. is) (begin-more told keys gathered begun grown whole order))

pub order-short : (old new : Option (List Step)) (keys left : List Key) → StopsShort old new keys left → IsInOrder old keys → IsInOrder new left
order-short old new keys left short order =
    let ready = with_steps old (Gathered short.gathered ∷ BeganSyncs left ∷ []) in
    let synced = with_steps ready short.syncs in
    let same = round-steps old ready synced (with_steps synced (EndedSyncs false ∷ [])) short.gathered left short.syncs false refl refl refl in
    subst (λ told. IsInOrder told left) (same ∙ sym short.steps) (short-more old keys short.gathered left short.syncs short.grown short.whole short.no_text order)

-- where each of the list is synced, and the folders that name it, nothing is left
all-more : (told : Option (List Step)) (keys synced : List Key) (directories : List Directory) → AreAmong keys synced → AreNamedIn synced directories → IsInOrder told keys
    → IsInOrder (with_steps told (map SyncedObject synced ++ map SyncedDirectory directories)) []
all-more None keys synced directories whole named order = _
all-more (Some steps) keys synced directories whole named order =
    let more = map SyncedObject synced ++ map SyncedDirectory directories in
    let are = syncs-append (map SyncedObject synced) (map SyncedDirectory directories) (objects-syncs synced) (directories-syncs directories) in (
      ordered-append none steps more order.0 (syncs-ordered (IsUnsynced none steps) more are),
      λ due is. absurd (due-none (IsUnsynced none steps) synced directories named due (unsynced-append none steps more due is)
          (due-more keys synced whole due (order.1 due (syncs-unsynced (IsUnsynced none steps) more are due (unsynced-append none steps more due is))))),
    )

round-more : (told : Option (List Step)) (keys gathered synced : List Key) (directories : List Directory) → AreAmong keys gathered → AreAmong gathered synced
    → AreNamedIn synced directories → IsInOrder told keys
    → IsInOrder (with_steps (with_steps (with_steps told (Gathered gathered ∷ BeganSyncs synced ∷ [])) (map SyncedObject synced ++ map SyncedDirectory directories)) (EndedSyncs true ∷ [])) []
round-more told keys gathered synced directories grown whole named order =
    let ready = with_steps told (Gathered gathered ∷ BeganSyncs synced ∷ []) in
    end-all (with_steps ready (map SyncedObject synced ++ map SyncedDirectory directories))
    (all-more ready synced synced directories (λ key is. is) named (begin-more told keys gathered synced grown whole order))

order-all : (old new : Option (List Step)) (keys : List Key) → SyncsAll old new keys → IsInOrder old keys → IsInOrder new []
order-all old new keys all order =
    let ready = with_steps old (Gathered all.gathered ∷ BeganSyncs all.synced ∷ []) in
    let syncs = map SyncedObject all.synced ++ map SyncedDirectory all.directories in
    let synced = with_steps ready syncs in
    let same = round-steps old ready synced (with_steps synced (EndedSyncs true ∷ [])) all.gathered all.synced syncs true refl refl refl in
    subst (λ told. IsInOrder told []) (same ∙ sym all.steps) (round-more old keys all.gathered all.synced all.directories all.grown all.whole all.named order)

-- a text where none is left
text-more : (told : Option (List Step)) (text : List ℕ) → IsInOrder told [] → IsInOrder (with_steps told (PutText text ∷ [])) []
text-more None text order = _
text-more (Some steps) text order =
    (ordered-append none steps (PutText text ∷ []) order.0 ((λ due is. (order.1 due is).1), _), λ due is. order.1 due (unsynced-append none steps (PutText text ∷ []) due is))

order-text : {E : Type 0} (old new : Option (List Step)) (text : List ℕ) (result : Result ⊤ E)
    → OnOk result (new ≡ with_steps old (PutText text ∷ [])) → OnErr result ((new ≡ old) ⊎ (new ≡ with_steps old (PutText text ∷ [])))
    → IsInOrder old [] → IsInOrder new []
order-text old new text (Ok done) put failed order = subst (λ told. IsInOrder told []) (sym put) (text-more old text order)
order-text old new text (Err failure) put (inl same) order = subst (λ told. IsInOrder told []) (sym same) order
order-text old new text (Err failure) put (inr done) order = subst (λ told. IsInOrder told []) (sym done) (text-more old text order)

-- a round, by what each call of it says
pub stops-short : (old ready synced ended : Option (List Step)) (keys begun : List Key) (is_synced : Bool) → BeginsSyncs old ready keys begun → OnlySyncs ready synced
    → is_synced ≡ false → ended ≡ with_steps synced (EndedSyncs is_synced ∷ []) → StopsShort old ended keys begun
stops-short old ready synced ended keys begun is_synced begins only failed told = record {
  gathered = begins.gathered;
  grown = begins.grown;
  whole = begins.whole;
  syncs = only.syncs;
  no_text = only.no_text;
  steps = round-steps old ready synced ended begins.gathered begun only.syncs false begins.steps only.steps
      (told ∙ ap (λ is. with_steps synced (EndedSyncs is ∷ [])) failed);
}

all-between : (old ready synced ended : Option (List Step)) (keys begun : List Key) (is_synced : Bool) → BeginsSyncs old ready keys begun → SyncsEach ready synced begun
    → is_synced ≡ true → ended ≡ with_steps synced (EndedSyncs is_synced ∷ []) → SyncsAll old ended keys
all-between old ready synced ended keys begun is_synced begins each done told = record {
  gathered = begins.gathered;
  grown = begins.grown;
  synced = begun;
  whole = begins.whole;
  directories = each.directories;
  named = each.named;
  steps = round-steps old ready synced ended begins.gathered begun (map SyncedObject begun ++ map SyncedDirectory each.directories) true begins.steps each.steps
      (told ∙ ap (λ is. with_steps synced (EndedSyncs is ∷ [])) done);
}

-- a text is put after the round
pub put-text : {E : Type 0} (old ready synced ended new : Option (List Step)) (keys begun left : List Key) (text : List ℕ) (is_synced : Bool) (result : Result ⊤ E)
    → BeginsSyncs old ready keys begun → SyncsEach ready synced begun → is_synced ≡ true → ended ≡ with_steps synced (EndedSyncs is_synced ∷ [])
    → OnOk result (new ≡ with_steps ended (PutText text ∷ [])) → OnErr result ((new ≡ ended) ⊎ (new ≡ with_steps ended (PutText text ∷ [])))
    → PutsDurably old new keys left text result
put-text old ready synced ended new keys begun left text is_synced (Ok done) begins each all told put failed =
    record { before = ended; synced = all-between old ready synced ended keys begun is_synced begins each all told; put = put }
put-text old ready synced ended new keys begun left text is_synced (Err failure) begins each all told put (inl none-put) =
    inr (inl (all-between old ready synced new keys begun is_synced begins each all (none-put ∙ told)))
put-text old ready synced ended new keys begun left text is_synced (Err failure) begins each all told put (inr put-so) =
    inr (inr (record { before = ended; synced = all-between old ready synced ended keys begun is_synced begins each all told; put = put-so }))

pub put-text-order : {E : Type 0} (old ready synced ended new : Option (List Step)) (keys begun left : List Key) (text : List ℕ) (is_synced : Bool) (result : Result ⊤ E)
    → BeginsSyncs old ready keys begun → SyncsEach ready synced begun → is_synced ≡ true → ended ≡ with_steps synced (EndedSyncs is_synced ∷ []) → left ≡ []
    → OnOk result (new ≡ with_steps ended (PutText text ∷ [])) → OnErr result ((new ≡ ended) ⊎ (new ≡ with_steps ended (PutText text ∷ [])))
    → IsInOrder old keys → IsInOrder new left
put-text-order old ready synced ended new keys begun left text is_synced result begins each all told cleared put failed order =
    subst (IsInOrder new) (sym cleared)
    (order-text ended new text result put failed (order-all old ended keys (all-between old ready synced ended keys begun is_synced begins each all told) order))

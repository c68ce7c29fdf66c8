-- What steps add to steps, and which keys and directories are among some. The key lemmas are objects-only,
-- directories-only, made-durable, readied, unready, round-steps, named-more, among-more and adds-earlier.
use Rattle.std.proofs.Common.{◌≡◌, ◌⊎◌, ℕ, suc, zero, ◌<◌, ◌+◌, Bool, List, [], ◌∷◌, ◌++◌, length, get_or, inl, inr, take, map, Option, None, Some, Result, Ok, Err, OnOk, OnErr, slice_index, subst, refl, sym, ◌∙◌, ap, arith}
use Rattle.std.specs.Bool.{⊤}
use Rattle.std.specs.IoError.{error_kind}
use Rattle.std.specs.declared.io.Error.{Error}
use Rattle.std.specs.declared.io.ErrorKind.{ErrorKind}
use Rattle.std.proofs.lemmas.List.{append-nil, append_assoc, map-append, take_more}
use Rattle.ids.specs.declared.key.Key.{Key}
use Rattle.folder_storage.specs.declared.durability.Directory.{Directory}
use Rattle.folder_storage.specs.declared.durability.Directory.TheVariants.{Objects, OfKind}
use Rattle.folder_storage.specs.Durability.{AddsEarlier, AreAmong, AreNamedIn, AreSyncs, BeganSyncs, BeginsSyncs, EndedSyncs, FailsAsDisk, FailsSo, Gathered, Gathers, In, MakesDurable, OnlySyncs, PutObject, PutText, Step, StopsBefore, SyncedObject, SyncedDirectory, SyncsEach, fault_kind, round_of, with_steps}

-- these steps, and then those
pub steps-more : (told : Option (List Step)) (a b : List Step) → with_steps (with_steps told a) b ≡ with_steps told (a ++ b)
steps-more None a b = refl
steps-more (Some steps) a b = ap Some (append_assoc steps a b)

-- nothing more was done
pub no-steps : (told : Option (List Step)) → told ≡ with_steps told []
no-steps None = refl
no-steps (Some steps) = ap Some (sym (append-nil steps))

-- one more is passed
pub passed-more : {A : Type 0} (f : A → Step) (xs : List A) (i : ℕ) (d : A) → i < length xs
    → map f (take i xs) ++ f (get_or xs i d) ∷ [] ≡ map f (take (i + 1) xs)
passed-more f xs i d below = sym (ap (map f) (take_more xs i d below) ∙ map-append f (take i xs) (get_or xs i d ∷ []))

-- syncs are no texts
pub objects-syncs : (keys : List Key) → AreSyncs (map SyncedObject keys)
objects-syncs [] = _
objects-syncs (key ∷ keys) = objects-syncs keys

pub directories-syncs : (directories : List Directory) → AreSyncs (map SyncedDirectory directories)
directories-syncs [] = _
directories-syncs (directory ∷ directories) = directories-syncs directories

-- one of a list
pub In-at : {A : Type 0} (xs : List A) (i : ℕ) (d : A) → i < length xs → In (get_or xs i d) xs
In-at [] i d below = absurd (omega (arith, below))
In-at (x ∷ xs) zero d below = inl refl
In-at (x ∷ xs) (suc i) d below = inr (In-at xs i d (omega (arith, below)))

pub In-split : {A : Type 0} (x : A) (xs ys : List A) → In x (xs ++ ys) → In x xs ⊎ In x ys
In-split x [] ys is = inr is
In-split x (y ∷ xs) ys (inl same) = inl (inl same)
In-split x (y ∷ xs) ys (inr later) = elim (In-split x xs ys later) [ inl front ↦ inl (inr front) | inr back ↦ inr back ]

pub In-last : {A : Type 0} (xs : List A) (x : A) → In x (xs ++ x ∷ [])
In-last [] x = inl refl
In-last (y ∷ xs) x = inr (In-last xs x)

pub In-front : {A : Type 0} (x : A) (xs ys : List A) → In x xs → In x (xs ++ ys)
In-front x [] ys is = absurd is
In-front x (y ∷ xs) ys (inl same) = inl same
In-front x (y ∷ xs) ys (inr later) = inr (In-front x xs ys later)

pub syncs-append : (a b : List Step) → AreSyncs a → AreSyncs b → AreSyncs (a ++ b)
syncs-append [] b first more = more
syncs-append (PutObject key ∷ a) b first more = absurd first
syncs-append (Gathered keys ∷ a) b first more = absurd first
syncs-append (BeganSyncs keys ∷ a) b first more = absurd first
syncs-append (SyncedObject key ∷ a) b first more = syncs-append a b first more
syncs-append (SyncedDirectory directory ∷ a) b first more = syncs-append a b first more
syncs-append (EndedSyncs is_synced ∷ a) b first more = absurd first
syncs-append (PutText text ∷ a) b first more = absurd first

-- what was passed before a failure is syncs alone
pub objects-only : (old mid new : Option (List Step)) (keys : List Key) → mid ≡ with_steps old (map SyncedObject keys) → new ≡ mid → OnlySyncs old new
objects-only old mid new keys done same = record { syncs = map SyncedObject keys; steps = same ∙ done; no_text = objects-syncs keys }

pub directories-only : (old mid new : Option (List Step)) (directories : List Directory) → mid ≡ with_steps old (map SyncedDirectory directories) → new ≡ mid → OnlySyncs old new
directories-only old mid new directories done same = record { syncs = map SyncedDirectory directories; steps = same ∙ done; no_text = directories-syncs directories }

pub only-after : (old mid new : Option (List Step)) (keys : List Key) → mid ≡ with_steps old (map SyncedObject keys) → OnlySyncs mid new → OnlySyncs old new
only-after old mid new keys done only = record {
  syncs = map SyncedObject keys ++ only.syncs;
  steps = only.steps ∙ ap (λ m. with_steps m only.syncs) done ∙ steps-more old (map SyncedObject keys) only.syncs;
  no_text = syncs-append (map SyncedObject keys) only.syncs (objects-syncs keys) only.no_text;
}

-- what was done from the same steps on
pub begun-ok : {E : Type 0} (old mid new : Option (List Step)) (more : List Step) (result : Result ⊤ E) → mid ≡ old
    → OnOk result (new ≡ with_steps mid more) → OnOk result (new ≡ with_steps old more)
begun-ok old mid new more result same done = subst (λ told. OnOk result (new ≡ with_steps told more)) same done

pub begun-err : {E : Type 0} (old mid new : Option (List Step)) (result : Result ⊤ E) → mid ≡ old → OnErr result (OnlySyncs mid new) → OnErr result (OnlySyncs old new)
begun-err old mid new result same failed = subst (λ told. OnErr result (OnlySyncs told new)) same failed

pub none-synced : (old new : Option (List Step)) → new ≡ old → OnlySyncs old new
none-synced old new same = record { syncs = []; steps = same ∙ no-steps old; no_text = _ }

-- the objects, and then the folders
pub both-synced : (old mid new : Option (List Step)) (keys : List Key) (directories : List Directory) → AreNamedIn keys directories
    → mid ≡ with_steps old (map SyncedObject keys) → new ≡ with_steps mid (map SyncedDirectory directories) → SyncsEach old new keys
both-synced old mid new keys directories named synced placed = record {
  directories = directories;
  named = named;
  steps = placed ∙ ap (λ m. with_steps m (map SyncedDirectory directories)) synced ∙ steps-more old (map SyncedObject keys) (map SyncedDirectory directories);
}

pub made-durable : {E : Type 0} (old mid new : Option (List Step)) (keys : List Key) (directories : List Directory) (result : Result ⊤ E)
    → AreNamedIn keys directories → mid ≡ with_steps old (map SyncedObject keys)
    → OnOk result (new ≡ with_steps mid (map SyncedDirectory directories)) → OnErr result (OnlySyncs mid new) → MakesDurable old new keys result
made-durable old mid new keys directories (Ok done) named synced placed failed = both-synced old mid new keys directories named synced placed
made-durable old mid new keys directories (Err failure) named synced placed failed = only-after old mid new keys synced failed

-- what earlier runs put is in the list, and then its syncs are begun, unless that fails
pub readied : {E : Type 0} (old mid new : Option (List Step)) (keys gathered begun slice : List Key) (result : Result ⊤ E)
    → AreAmong keys gathered → AreAmong gathered begun → slice ≡ begun → mid ≡ with_steps old (Gathered gathered ∷ [])
    → OnOk result (new ≡ with_steps mid (BeganSyncs slice ∷ [])) → OnOk result (BeginsSyncs old new keys begun)
readied old mid new keys gathered begun slice (Ok done) grown whole same first began = record {
  gathered = gathered;
  grown = grown;
  whole = whole;
  steps = began ∙ ap (λ told. with_steps told (BeganSyncs slice ∷ [])) first ∙ steps-more old (Gathered gathered ∷ []) (BeganSyncs slice ∷ [])
      ∙ ap (λ list. with_steps old (Gathered gathered ∷ BeganSyncs list ∷ [])) same;
}
readied old mid new keys gathered begun slice (Err failure) grown whole same first began = _

pub gathers-only : (old mid new : Option (List Step)) (keys gathered more : List Key) → AreAmong keys gathered → AreAmong gathered more
    → mid ≡ with_steps old (Gathered gathered ∷ []) → new ≡ mid → Gathers old new keys more
gathers-only old mid new keys gathered more grown whole first same = record { gathered = gathered; grown = grown; whole = whole; steps = same ∙ first }

pub unready : {E : Type 0} (old mid new : Option (List Step)) (keys gathered more : List Key) (result : Result ⊤ E)
    → AreAmong keys gathered → AreAmong gathered more → mid ≡ with_steps old (Gathered gathered ∷ []) → OnErr result (new ≡ mid)
    → OnErr result (StopsBefore old new keys more)
unready old mid new keys gathered more (Ok done) grown whole first same = _
unready old mid new keys gathered more (Err failure) grown whole first same = inr (gathers-only old mid new keys gathered more grown whole first same)

-- a whole round, by its parts
pub round-steps : (old ready synced new : Option (List Step)) (gathered begun : List Key) (syncs : List Step) (is_synced : Bool)
    → ready ≡ with_steps old (Gathered gathered ∷ BeganSyncs begun ∷ []) → synced ≡ with_steps ready syncs
    → new ≡ with_steps synced (EndedSyncs is_synced ∷ []) → new ≡ with_steps old (round_of gathered begun syncs is_synced)
round-steps old ready synced new gathered begun syncs is_synced began done ended =
    ended ∙ ap (λ told. with_steps told (EndedSyncs is_synced ∷ [])) done ∙ steps-more ready syncs (EndedSyncs is_synced ∷ [])
    ∙ ap (λ told. with_steps told (syncs ++ EndedSyncs is_synced ∷ [])) began
    ∙ steps-more old (Gathered gathered ∷ BeganSyncs begun ∷ []) (syncs ++ EndedSyncs is_synced ∷ [])

named-last : (key x : Key) (byte : ℕ) (p : List Directory) → byte ≡ slice_index x.id 0 → In key (x ∷ []) → In (Objects x.kind byte) p → In (OfKind x.kind) p
    → In (Objects key.kind (slice_index key.id 0)) p × In (OfKind key.kind) p
named-last key x byte p is (inl same) has of_kind =
    subst (λ k. In (Objects k.kind (slice_index k.id 0)) p × In (OfKind k.kind) p) (sym same) (subst (λ b. In (Objects x.kind b) p) is has, of_kind)
named-last key x byte p is (inr none) has of_kind = absurd none

named-either : (keys : List Key) (key x : Key) (byte : ℕ) (directories p q : List Directory) → AreNamedIn keys directories
    → ((o : Directory) → In o directories → In o p) → ((o : Directory) → In o p → In o q) → byte ≡ slice_index x.id 0
    → In (Objects x.kind byte) p → In (OfKind x.kind) q → In key keys ⊎ In key (x ∷ [])
    → In (Objects key.kind (slice_index key.id 0)) q × In (OfKind key.kind) q
named-either keys key x byte directories p q named grows more is has of_kind (inl before) = (more _ (grows _ (named key before).0), more _ (grows _ (named key before).1))
named-either keys key x byte directories p q named grows more is has of_kind (inr last) = named-last key x byte q is last (more _ has) of_kind

-- the folders of one more
pub named-more : (keys keys' : List Key) (x : Key) (byte : ℕ) (directories p q : List Directory) → keys' ≡ keys ++ x ∷ [] → AreNamedIn keys directories
    → ((o : Directory) → In o directories → In o p) → ((o : Directory) → In o p → In o q) → byte ≡ slice_index x.id 0
    → In (Objects x.kind byte) p → In (OfKind x.kind) q → AreNamedIn keys' q
named-more keys keys' x byte directories p q all named grows more is has of_kind key among =
    named-either keys key x byte directories p q named grows more is has of_kind (In-split key keys (x ∷ []) (subst (In key) all among))

among-last : (new : List Key) (key x : Key) → In x new → In key (x ∷ []) → In key new
among-last new key x last (inl same) = subst (λ k. In k new) (sym same) last
among-last new key x last (inr none) = absurd none

-- one more of a list is among others
pub among-more : (keys keys' old new : List Key) (x : Key) → keys' ≡ keys ++ x ∷ [] → AreAmong keys old → AreAmong old new → In x new → AreAmong keys' new
among-more keys keys' old new x all passed grows last key is =
    elim (In-split key keys (x ∷ []) (subst (In key) all is)) [ inl front ↦ grows key (passed key front) | inr back ↦ among-last new key x last back ]

-- what was found stays found as nothing else of it changes
pub adds-earlier : {E : Type 0} (near near' whole whole' keys : List Key) (once once' : Bool) (result : Result ⊤ E)
    → (near' ≡ near) × (whole' ≡ whole) × (once' ≡ once) → OnOk result (AddsEarlier near' whole' once' keys) → OnOk result (AddsEarlier near whole once keys)
adds-earlier near near' whole whole' keys once once' (Ok done) same adds = λ is.
    let both : AreAmong near' keys × AreAmong whole' keys = adds (same.2 ∙ is) in
    (subst (λ list. AreAmong list keys) same.0 both.0, subst (λ list. AreAmong list keys) same.1 both.1)
adds-earlier near near' whole whole' keys once once' (Err failure) same adds = _

-- after a failure a mark is as it was before two calls
pub mark-stays : {E : Type 0} (old mid new : Bool) (result : Result ⊤ E) → mid ≡ old → OnErr result (new ≡ mid) → OnErr result (new ≡ old)
mark-stays old mid new (Ok done) first failed = _
mark-stays old mid new (Err failure) first failed = failed ∙ first

-- a call of the disk that is handed on fails as the disk does
pub fails-by : {D T : Type 0} (ends : Option ErrorKind → D → Type 0) (disk : D) (result : Result T Error) → ends (fault_kind result) disk → FailsAsDisk ends disk result
fails-by ends disk (Ok done) told = _
fails-by ends disk (Err failure) told = inr told

-- what was known of the disk then is known of it since
pub fails-on : {D : Type 0} (ends : Option ErrorKind → D → Type 0) (mid new : D) (failure : Error) → FailsSo ends mid failure
    → ((kind : Option ErrorKind) → ends kind mid → ends kind new) → FailsSo ends new failure
fails-on ends mid new failure (inl want) on = inl want
fails-on ends mid new failure (inr told) on = inr (on (Some (error_kind failure)) told)

-- one more of a list is done
pub one-more : {A : Type 0} (f : A → Step) (old mid new : Option (List Step)) (xs all : List A) (x : A) → all ≡ xs ++ x ∷ [] → mid ≡ with_steps old (map f xs)
    → new ≡ with_steps mid (f x ∷ []) → new ≡ with_steps old (map f all)
one-more f old mid new xs all x more done one =
    one ∙ ap (λ told. with_steps told (f x ∷ [])) done ∙ steps-more old (map f xs) (f x ∷ [])
    ∙ ap (λ list. with_steps old list) (sym (map-append f xs (x ∷ []))) ∙ ap (λ list. with_steps old (map f list)) (sym more)

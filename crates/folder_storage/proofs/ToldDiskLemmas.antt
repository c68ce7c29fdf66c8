-- What was done first comes first, and what a run over a disk that tells its calls has done. The key lemmas are noted-more,
-- puts-only, after-puts and ends-durably; and total-more, failed-after and ends-after of how many calls it does.
use Rattle.std.proofs.Common.{◌≡◌, ◌⊎◌, ◌+◌, ℕ, Bool, true, false, List, [], ◌∷◌, ◌++◌, map, inl, inr, Option, None, Some, Result, Ok, Err, slice_index, subst, refl, sym, ◌∙◌, ap, arith}
use Rattle.std.specs.Bool.{⊤}
use Rattle.std.specs.IoError.{error_kind}
use Rattle.std.specs.declared.io.Error.{Error}
use Rattle.std.specs.declared.io.ErrorKind.TheVariants.{OutOfMemory}
use Rattle.std.proofs.lemmas.List.{map-append}
use Rattle.ids.specs.declared.key.Key.{Key}
use Rattle.folder_storage.specs.declared.durability.Directory.{Directory}
use Rattle.folder_storage.specs.declared.durability.Directory.TheVariants.{Objects, OfKind}
use Rattle.folder_storage.specs.declared.told_disk.Done.{Done}
use Rattle.folder_storage.specs.declared.told_disk.Done.TheVariants.{End}
use Rattle.folder_storage.specs.Durability.{AreAmong, AreSyncs, BeganSyncs, EndedSyncs, FailsAsDisk, FailsSo, Gathered, In, IsInOrder, PutObject, PutText, PutsDurably, Step, SyncedDirectory, SyncedObject, TextComesLast, round_of, with_steps}
use Rattle.folder_storage.specs.ToldDisk.{EndsAfter, EndsAt, EndsDurably, Follows, HasNoText, IsDurableBefore, IsMadeDurable, OnlyPuts, calls_of, count_of, step_of, steps_of, total_of}
use Rattle.folder_storage.proofs.DurabilityLemmas.{In-front, one-more}

-- one more is noted
pub noted-more : (old new : List (Done × ℕ)) (done : Done) (left : ℕ) → new ≡ old ++ (done, left) ∷ []
    → Some (steps_of new) ≡ with_steps (Some (steps_of old)) (step_of done ∷ [])
noted-more old new done left more = ap Some (ap steps_of more ∙ map-append (λ (one : Done × ℕ). step_of one.0) old ((done, left) ∷ []))

-- what stands behind, and what is made of one of a list
In-back : {A : Type 0} (x : A) (xs ys : List A) → In x ys → In x (xs ++ ys)
In-back x [] ys is = is
In-back x (y ∷ xs) ys is = inr (In-back x xs ys is)

In-map : {A B : Type 0} (f : A → B) (x : A) (xs : List A) → In x xs → In (f x) (map f xs)
In-map f x [] is = absurd is
In-map f x (y ∷ xs) (inl same) = inl (ap f same)
In-map f x (y ∷ xs) (inr later) = inr (In-map f x xs later)

-- what is among the first comes before what is among the others
follows-append : (first second : Step) (xs ys : List Step) → In first xs → In second ys → Follows first second (xs ++ ys)
follows-append first second [] ys is later = absurd is
follows-append first second (x ∷ xs) ys (inl same) later = inl (same, In-back second xs ys later)
follows-append first second (x ∷ xs) ys (inr more) later = inr (follows-append first second xs ys more later)

-- no text among puts and syncs
no-text-append : (a b : List Step) → HasNoText a → HasNoText b → HasNoText (a ++ b)
no-text-append [] b first more = more
no-text-append (PutObject key ∷ a) b first more = no-text-append a b first more
no-text-append (Gathered keys ∷ a) b first more = no-text-append a b first more
no-text-append (BeganSyncs keys ∷ a) b first more = no-text-append a b first more
no-text-append (SyncedObject key ∷ a) b first more = no-text-append a b first more
no-text-append (SyncedDirectory directory ∷ a) b first more = no-text-append a b first more
no-text-append (EndedSyncs is_synced ∷ a) b first more = no-text-append a b first more
no-text-append (PutText text ∷ a) b first more = absurd first

puts-no-text : (keys : List Key) → HasNoText (map PutObject keys)
puts-no-text [] = _
puts-no-text (key ∷ keys) = puts-no-text keys

objects-no-text : (keys : List Key) → HasNoText (map SyncedObject keys)
objects-no-text [] = _
objects-no-text (key ∷ keys) = objects-no-text keys

directories-no-text : (directories : List Directory) → HasNoText (map SyncedDirectory directories)
directories-no-text [] = _
directories-no-text (directory ∷ directories) = directories-no-text directories

syncs-no-text : (steps : List Step) → AreSyncs steps → HasNoText steps
syncs-no-text [] are = _
syncs-no-text (PutObject key ∷ steps) are = absurd are
syncs-no-text (Gathered keys ∷ steps) are = absurd are
syncs-no-text (BeganSyncs keys ∷ steps) are = absurd are
syncs-no-text (SyncedObject key ∷ steps) are = syncs-no-text steps are
syncs-no-text (SyncedDirectory directory ∷ steps) are = syncs-no-text steps are
syncs-no-text (EndedSyncs is_synced ∷ steps) are = absurd are
syncs-no-text (PutText text ∷ steps) are = absurd are

round-no-text : (gathered begun : List Key) (syncs : List Step) (is_synced : Bool) → HasNoText syncs → HasNoText (round_of gathered begun syncs is_synced)
round-no-text gathered begun syncs is_synced none = no-text-append syncs (EndedSyncs is_synced ∷ []) none _

-- the steps themselves, where they are told
abbrev steps_told : Option (List Step) → List Step
steps_told None = []
steps_told (Some steps) = steps

told-steps : (a b : List Step) → Some a ≡ Some b → a ≡ b
told-steps a b same = ap steps_told same

-- nothing was done yet
pub order-none : (steps : List Step) (keys : List Key) → steps ≡ [] → IsInOrder (Some steps) keys
order-none steps keys none = subst (λ list. IsInOrder (Some list) keys) (sym none) (_, λ due is. absurd is)

-- one more is put
pub put-more : (old mid new : Option (List Step)) (keys keys' : List Key) (key : Key) → keys' ≡ keys ++ key ∷ [] → mid ≡ with_steps old (map PutObject keys)
    → new ≡ with_steps mid (PutObject key ∷ []) → new ≡ with_steps old (map PutObject keys')
put-more old mid new keys keys' key all done put =
    one-more PutObject old mid new keys keys' key all done put

-- puts that were cut short
pub puts-only : (old mid new : Option (List Step)) (keys : List Key) (key : Key) → mid ≡ with_steps old (map PutObject keys)
    → (new ≡ mid) ⊎ (new ≡ with_steps mid (PutObject key ∷ [])) → OnlyPuts old new
puts-only old mid new keys key done (inl same) = record { puts = keys; steps = same ∙ done }
puts-only old mid new keys key done (inr put) = record { puts = keys ++ key ∷ []; steps = put-more old mid new keys (keys ++ key ∷ []) key refl done put }

-- a run of which only objects were put
pub after-puts : {E : Type 0} (start : Option (List Step)) (keys : List Key) (text : List ℕ) (steps : List Step) (failure : E) → start ≡ Some []
    → OnlyPuts start (Some steps) → EndsDurably keys text steps (Err failure)
after-puts start keys text steps failure empty only =
    let same : steps ≡ map PutObject only.puts = told-steps steps (map PutObject only.puts) (only.steps ∙ ap (λ told. with_steps told (map PutObject only.puts)) empty) in
    inl (subst HasNoText (sym same) (puts-no-text only.puts))

-- objects were put, and this was done after it
after-all : (start mid new : Option (List Step)) (keys : List Key) (more : List Step) → start ≡ Some [] → mid ≡ with_steps start (map PutObject keys)
    → new ≡ with_steps mid more → new ≡ Some (map PutObject keys ++ more)
after-all start mid new keys more empty put done = done ∙ ap (λ told. with_steps told more) (put ∙ ap (λ told. with_steps told (map PutObject keys)) empty)

no-text-after : (start mid : Option (List Step)) (steps more : List Step) (keys : List Key) → start ≡ Some [] → mid ≡ with_steps start (map PutObject keys)
    → Some steps ≡ with_steps mid more → HasNoText more → HasNoText steps
no-text-after start mid steps more keys empty put done none =
    subst HasNoText (sym (told-steps steps (map PutObject keys ++ more) (after-all start mid (Some steps) keys more empty put done)))
    (no-text-append (map PutObject keys) more (puts-no-text keys) none)

-- a round in which all was synced
abbrev synced_round : (gathered synced : List Key) → List Directory → List Step
synced_round gathered synced directories = round_of gathered synced (map SyncedObject synced ++ map SyncedDirectory directories) true

all-no-text : (gathered synced : List Key) (directories : List Directory) → HasNoText (synced_round gathered synced directories)
all-no-text gathered synced directories =
    round-no-text gathered synced (map SyncedObject synced ++ map SyncedDirectory directories) true
    (no-text-append (map SyncedObject synced) (map SyncedDirectory directories) (objects-no-text synced) (directories-no-text directories))

in-round : (gathered synced : List Key) (syncs : List Step) (step : Step) → In step syncs → In step (round_of gathered synced syncs true)
in-round gathered synced syncs step is = inr (inr (In-front step syncs (EndedSyncs true ∷ []) is))

folder-in : (gathered synced : List Key) (directories : List Directory) (directory : Directory) → In directory directories
    → In (SyncedDirectory directory) (synced_round gathered synced directories)
folder-in gathered synced directories directory is =
    in-round gathered synced (map SyncedObject synced ++ map SyncedDirectory directories) (SyncedDirectory directory)
    (In-back (SyncedDirectory directory) (map SyncedObject synced) (map SyncedDirectory directories) (In-map SyncedDirectory directory directories is))

file-in : (gathered synced : List Key) (directories : List Directory) (key : Key) → In key synced → In (SyncedObject key) (synced_round gathered synced directories)
file-in gathered synced directories key is =
    in-round gathered synced (map SyncedObject synced ++ map SyncedDirectory directories) (SyncedObject key)
    (In-front (SyncedObject key) (map SyncedObject synced) (map SyncedDirectory directories) (In-map SyncedObject key synced is))

key-durable : (keys gathered synced : List Key) (directories : List Directory) (key : Key) → In key keys → In key synced
    → In (Objects key.kind (slice_index key.id 0)) directories × In (OfKind key.kind) directories
    → IsMadeDurable key (map PutObject keys ++ synced_round gathered synced directories)
key-durable keys gathered synced directories key put is named =
    let first : In (PutObject key) (map PutObject keys) = In-map PutObject key keys put in
    let round = synced_round gathered synced directories in (
      follows-append (PutObject key) (SyncedObject key) (map PutObject keys) round first (file-in gathered synced directories key is),
      follows-append (PutObject key) (SyncedDirectory (Objects key.kind (slice_index key.id 0))) (map PutObject keys) round first
          (folder-in gathered synced directories (Objects key.kind (slice_index key.id 0)) named.0),
      follows-append (PutObject key) (SyncedDirectory (OfKind key.kind)) (map PutObject keys) round first (folder-in gathered synced directories (OfKind key.kind) named.1),
    )

text-last : (start mid : Option (List Step)) (steps : List Step) (keys held : List Key) (text : List ℕ) → start ≡ Some [] → mid ≡ with_steps start (map PutObject keys)
    → AreAmong keys held → TextComesLast mid (Some steps) held text → IsDurableBefore keys text steps
text-last start mid steps keys held text empty put among comes =
    let all = comes.synced in
    let round = synced_round all.gathered all.synced all.directories in
    let is : (key : Key) → In key keys → In key all.synced = λ key of. all.whole key (all.grown key (among key of)) in
    record {
      before = map PutObject keys ++ round;
      no_text = no-text-append (map PutObject keys) round (puts-no-text keys) (all-no-text all.gathered all.synced all.directories);
      durable = λ key of. key-durable keys all.gathered all.synced all.directories key of (is key of) (all.named key (is key of));
      last = told-steps steps ((map PutObject keys ++ round) ++ PutText text ∷ [])
          (comes.put ∙ ap (λ told. with_steps told (PutText text ∷ [])) (after-all start mid comes.before keys round empty put all.steps));
    }

-- the whole run
pub ends-durably : {E : Type 0} (start mid : Option (List Step)) (steps : List Step) (keys held left : List Key) (text : List ℕ) (result : Result ⊤ E) → start ≡ Some []
    → mid ≡ with_steps start (map PutObject keys) → AreAmong keys held → PutsDurably mid (Some steps) held left text result → EndsDurably keys text steps result
ends-durably start mid steps keys held left text (Ok done) empty put among last = text-last start mid steps keys held text empty put among last
ends-durably start mid steps keys held left text (Err failure) empty put among (inl (inl (inl stays))) =
    inl (subst HasNoText (sym (told-steps steps (map PutObject keys) (stays.0 ∙ put ∙ ap (λ told. with_steps told (map PutObject keys)) empty))) (puts-no-text keys))
ends-durably start mid steps keys held left text (Err failure) empty put among (inl (inl (inr gathers))) =
    inl (no-text-after start mid steps (Gathered gathers.gathered ∷ []) keys empty put gathers.steps _)
ends-durably start mid steps keys held left text (Err failure) empty put among (inl (inr short)) =
    inl (no-text-after start mid steps (round_of short.gathered left short.syncs false) keys empty put short.steps
    (round-no-text short.gathered left short.syncs false (syncs-no-text short.syncs short.no_text)))
ends-durably start mid steps keys held left text (Err failure) empty put among (inr (inl all)) =
    inl (no-text-after start mid steps (synced_round all.gathered all.synced all.directories) keys empty put all.steps
    (all-no-text all.gathered all.synced all.directories))
ends-durably start mid steps keys held left text (Err failure) empty put among (inr (inr last)) = inr (text-last start mid steps keys held text empty put among last)

-- one step more counts the calls that it is
count-more : (steps : List Step) (step : Step) → count_of (steps ++ step ∷ []) ≡ count_of steps + calls_of step
count-more [] step = omega arith
count-more (first ∷ steps) step = omega (arith, count-more steps step)

-- what was noted took from what is left the calls that it is
pub total-more : (old new : List (Done × ℕ)) (done : Done) (left rest : ℕ) → Some (steps_of new) ≡ with_steps (Some (steps_of old)) (step_of done ∷ [])
    → calls_of (step_of done) + rest ≡ left → total_of new rest ≡ total_of old left
total-more old new done left rest more whole =
    let steps : steps_of new ≡ steps_of old ++ step_of done ∷ [] = told-steps (steps_of new) (steps_of old ++ step_of done ∷ []) more in
    let counted : count_of (steps_of old ++ step_of done ∷ []) + rest ≡ count_of (steps_of old) + left =
    omega (arith, count-more (steps_of old) (step_of done), whole) in
    ap (λ list. count_of list + rest) steps ∙ counted

-- that the syncs ended takes none
pub total-end : (old new : List (Done × ℕ)) (is_synced : Bool) (left rest : ℕ) → Some (steps_of new) ≡ with_steps (Some (steps_of old)) (EndedSyncs is_synced ∷ [])
    → rest ≡ left → total_of new rest ≡ total_of old left
total-end old new is_synced left rest more same =
    let none : 0 + rest ≡ left = omega (arith, same) in
    total-more old new (End is_synced) left rest more none

-- nothing was noted
pub total-same : (old new : List (Done × ℕ)) (left rest : ℕ) → new ≡ old → rest ≡ left → total_of new rest ≡ total_of old left
total-same old new left rest same stays = ap (λ noted. total_of noted rest) same ∙ ap (λ n. total_of old n) stays

-- of a disk that did nothing yet all are left
pub total-new : (noted : List (Done × ℕ)) (left most : ℕ) → steps_of noted ≡ [] → left ≡ most → total_of noted left ≡ most
total-new noted left most none same =
    let nothing : count_of (steps_of noted) ≡ 0 = ap count_of none in
    omega (arith, nothing, same)

-- a run that isn't done wanted memory, or no call is left
pub failed-after : {D : Type 0} (left_of : D → ℕ) (most : ℕ) (disk : D) (steps : List Step) (failure : Error) → count_of steps + left_of disk ≡ most
    → FailsSo (λ kind d. EndsAt kind (left_of d)) disk failure → (error_kind failure ≡ OutOfMemory) ⊎ (count_of steps ≡ most)
failed-after left_of most disk steps failure all (inl want) = inl want
failed-after left_of most disk steps failure all (inr (inl want)) = inl want
failed-after left_of most disk steps failure all (inr (inr spent)) = inr (omega (arith, all, spent))

pub ends-after : {D T : Type 0} (left_of : D → ℕ) (most : ℕ) (disk : D) (steps : List Step) (result : Result T Error) → count_of steps + left_of disk ≡ most
    → FailsAsDisk (λ kind d. EndsAt kind (left_of d)) disk result → EndsAfter most steps result
ends-after left_of most disk steps (Ok done) all fails = _
ends-after left_of most disk steps (Err failure) all fails = failed-after left_of most disk steps failure all fails

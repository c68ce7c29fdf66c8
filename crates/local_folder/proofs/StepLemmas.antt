-- What steps after steps come to. The key lemmas are first-failed, more-done, last-done, none-done,
-- small-put, small-unmade, stopped-after, done-after and small-named; kept_synced, synced_so, moves_synced, moves_now and moves_stopped.
use Rattle.std.proofs.Common.{◌≡◌, ◌⊎◌, inl, inr, ℕ, true≢false, Bool, true, false, List, [], ◌∷◌, ◌++◌, Option, None, Some, Result, Ok, Err, refl, sym, ◌∙◌, ap, subst}
use Rattle.std.proofs.lemmas.List.{append_assoc, append-nil}
use Rattle.std.specs.Prelude.{IsTrue, is_ok}
use Rattle.tree_model.specs.Path.{PathV, parent_of}
use Rattle.local_folder.specs.Steps.{Step, Created, Removed, SyncedFile, with_steps, Does, DoesAll, Empties, MovesIn, PutsSmall, StopsIn, ends_in_sync, filled_small, has_sync_last, is_so_synced, moved_in, spare_path}

-- these steps, and then those
pub steps-more : (told : Option (List Step)) (a b : List Step) → with_steps (with_steps told a) b ≡ with_steps told (a ++ b)
steps-more None a b = refl
steps-more (Some steps) a b = ap Some (append_assoc steps a b)

pub steps-none : (told : Option (List Step)) → told ≡ with_steps told []
steps-none None = refl
steps-none (Some steps) = ap Some (sym (append-nil steps))

-- nothing was done
pub none-done : (steps : List Step) (old new : Option (List Step)) → new ≡ old → StopsIn steps old new
none-done steps old new same = record { done = []; front = (steps, refl); told = same ∙ steps-none old }

-- the first step failed
pub first-failed : (step : Step) (steps : List Step) (old new : Option (List Step))
    → (new ≡ old) ⊎ (new ≡ with_steps old (step ∷ [])) → StopsIn (step ∷ steps) old new
first-failed step steps old new (inl same) = none-done (step ∷ steps) old new same
first-failed step steps old new (inr done) = record { done = step ∷ []; front = (steps, refl); told = done }

-- the first step was done, and then some of the others, or all
pub more-stopped : (step : Step) (steps : List Step) (old mid new : Option (List Step))
    → mid ≡ with_steps old (step ∷ []) → StopsIn steps mid new → StopsIn (step ∷ steps) old new
more-stopped step steps old mid new first more = record {
  done = step ∷ more.done;
  front = (more.front.0, ap (λ s. step ∷ s) more.front.1);
  told = more.told ∙ ap (λ m. with_steps m more.done) first ∙ steps-more old (step ∷ []) more.done;
}

pub more-done : {T E : Type 0} (step : Step) (steps : List Step) (old mid new : Option (List Step)) (result : Result T E)
    → mid ≡ with_steps old (step ∷ []) → DoesAll steps mid new result → DoesAll (step ∷ steps) old new result
more-done step steps old mid new (Ok x) first more = more ∙ ap (λ m. with_steps m steps) first ∙ steps-more old (step ∷ []) steps
more-done step steps old mid new (Err e) first more = more-stopped step steps old mid new first more

-- one step is all
pub last-done : {T E : Type 0} (step : Step) (old new : Option (List Step)) (result : Result T E)
    → Does step old new result → DoesAll (step ∷ []) old new result
last-done step old new (Ok x) done = done
last-done step old new (Err e) done = first-failed step [] old new done

-- a path's own directory and name
pub parent-last : (path : PathV) (name : List ℕ) → parent_of (path ++ name ∷ []) ≡ path
parent-last [] name = refl
parent-last (first ∷ []) name = refl
parent-last (first ∷ next ∷ path) name = ap (λ p. first ∷ p) (parent-last (next ∷ path) name)

-- the spare was taken away, if it was there, and then an empty one is made
pub emptied-first : {T E : Type 0} (old mid new : Option (List Step)) (result : Result T E)
    → (mid ≡ old) ⊎ (mid ≡ with_steps old (Removed spare_path ∷ [])) → Does (Created spare_path) mid new result → Empties old new result
emptied-first old mid new result (inl same) done =
    inl (last-done (Created spare_path) old new result (subst (λ m. Does (Created spare_path) m new result) same done))
emptied-first old mid new result (inr swept) done =
    inr (more-done (Removed spare_path) (Created spare_path ∷ []) old mid new result swept (last-done (Created spare_path) mid new result done))

-- ---- the same of a step on the entry of a name, which a call was given as its text

pub first-named : (make : List ℕ → Step) (said name : List ℕ) (steps : List Step) (old new : Option (List Step)) → said ≡ name
    → (new ≡ old) ⊎ (new ≡ with_steps old (make said ∷ [])) → StopsIn (make name ∷ steps) old new
first-named make said name steps old new same failed = subst (λ n. StopsIn (make n ∷ steps) old new) same (first-failed (make said) steps old new failed)

pub done-named : {T E : Type 0} (make : List ℕ → Step) (said name : List ℕ) (steps : List Step) (old mid new : Option (List Step)) (result : Result T E)
    → said ≡ name → mid ≡ with_steps old (make said ∷ []) → DoesAll steps mid new result → DoesAll (make name ∷ steps) old new result
done-named make said name steps old mid new result same first more =
    subst (λ n. DoesAll (make n ∷ steps) old new result) same (more-done (make said) steps old mid new result first more)

pub does-named : {T E : Type 0} (make : List ℕ → Step) (said name : List ℕ) (old mid new : Option (List Step)) (result : Result T E)
    → said ≡ name → mid ≡ old → Does (make said) mid new result → Does (make name) old new result
does-named make said name old mid new result same stays done =
    subst (λ n. Does (make n) old new result) same (subst (λ m. Does (make said) m new result) stays done)

-- the change of an entry is that of its path, where nothing was done before
pub on-path : {T E : Type 0} (steps_of : PathV → PathV → List Step) (above names : PathV) (name : List ℕ) (old mid new : Option (List Step)) (result : Result T E)
    → names ≡ above ++ name ∷ [] → mid ≡ old → DoesAll (steps_of above (above ++ name ∷ [])) mid new result
    → DoesAll (steps_of (parent_of names) names) old new result
on-path steps_of above names name old mid new result split stays done =
    let parent : above ≡ parent_of names = sym (ap parent_of split ∙ parent-last above name) in
    subst (λ p. DoesAll (steps_of p names) old new result) parent
    (subst (λ n. DoesAll (steps_of above n) old new result) (sym split) (subst (λ m. DoesAll (steps_of above (above ++ name ∷ [])) m new result) stays done))

-- ---- the sync that is the last step

last_is_sync : (steps : List Step) → has_sync_last (steps ++ SyncedFile ∷ []) ≡ true
last_is_sync [] = refl
last_is_sync (step ∷ []) = refl
last_is_sync (step ∷ next ∷ more) = last_is_sync (next ∷ more)

ends_so : (told : Option (List Step)) → ends_in_sync (with_steps told (SyncedFile ∷ [])) ≡ true
ends_so None = refl
ends_so (Some steps) = last_is_sync steps

-- no step was done
pub kept_synced : (is_synced : Bool) (old new : Option (List Step)) → new ≡ old → IsTrue (is_so_synced is_synced old) → IsTrue (is_so_synced is_synced new)
kept_synced is_synced old new same synced = subst (λ told. IsTrue (is_so_synced is_synced told)) (sym same) synced

-- the sync was done, or failed
pub synced_so : {T E : Type 0} (old new : Option (List Step)) (result : Result T E) → Does SyncedFile old new result → IsTrue (is_so_synced (is_ok result) new)
synced_so old new (Ok x) done = ap ends_in_sync done ∙ ends_so old
synced_so old new (Err e) done = refl

pub synced_before : (is_synced : Bool) (told : Option (List Step)) → is_synced ≡ true → IsTrue (is_so_synced is_synced told) → IsTrue (ends_in_sync told)
synced_before true told is synced = synced
synced_before false told is synced = absurd (true≢false (sym is))

-- a move of what was synced before, or just now
pub moves_synced : {T E : Type 0} (file : PathV) (is_synced : Bool) (old new : Option (List Step)) (result : Result T E) → is_synced ≡ true → IsTrue (is_so_synced is_synced old)
    → DoesAll (moved_in file) old new result → MovesIn file old new result
moves_synced file is_synced old new result is synced moves = inl (synced_before is_synced old is synced, moves)

pub moves_now : {T E : Type 0} (file : PathV) (old mid new : Option (List Step)) (result : Result T E) → mid ≡ with_steps old (SyncedFile ∷ [])
    → DoesAll (moved_in file) mid new result → MovesIn file old new result
moves_now file old mid new result synced moves = inr (more-done SyncedFile (moved_in file) old mid new result synced moves)

pub moves_stopped : (T : Type 0) {E : Type 0} (file : PathV) (old new : Option (List Step)) (e : E) → (new ≡ old) ⊎ (new ≡ with_steps old (SyncedFile ∷ []))
    → MovesIn {T = T} file old new (Err e)
moves_stopped T file old new e done = inr (first-failed SyncedFile (moved_in file) old new done)

-- ---- a small file

-- what stopped in the first steps stopped in all
pub stops-longer : (steps more : List Step) (old new : Option (List Step)) → StopsIn steps old new → StopsIn (steps ++ more) old new
stops-longer steps more old new stopped = record {
  done = stopped.done;
  front = (stopped.front.0 ++ more, ap (λ s. s ++ more) stopped.front.1 ∙ append_assoc stopped.done stopped.front.0 more);
  told = stopped.told;
}

-- the spare was made, and what comes behind was done
pub small-put : {S T E : Type 0} (x : S) (name bytes : List ℕ) (old mid new : Option (List Step)) (result : Result T E)
    → Empties {T = S} {E = E} old mid (Ok x) → DoesAll (filled_small name bytes) mid new result → PutsSmall name bytes old new result
small-put x name bytes old mid new result (inl made) done = inl (more-done (Created spare_path) (filled_small name bytes) old mid new result made done)
small-put x name bytes old mid new result (inr made) done =
    let swept : Option (List Step) = with_steps old (Removed spare_path ∷ []) in
    inr (more-done (Removed spare_path) (Created spare_path ∷ filled_small name bytes) old swept new result refl
    (more-done (Created spare_path) (filled_small name bytes) swept mid new result (made ∙ sym (steps-more old (Removed spare_path ∷ []) (Created spare_path ∷ []))) done))

-- or it could not be made
pub small-unmade : (name bytes : List ℕ) (old new : Option (List Step)) → StopsIn (Created spare_path ∷ []) old new ⊎ StopsIn (Removed spare_path ∷ Created spare_path ∷ []) old new
    → StopsIn (Created spare_path ∷ filled_small name bytes) old new ⊎ StopsIn (Removed spare_path ∷ Created spare_path ∷ filled_small name bytes) old new
small-unmade name bytes old new (inl stopped) = inl (stops-longer (Created spare_path ∷ []) (filled_small name bytes) old new stopped)
small-unmade name bytes old new (inr stopped) = inr (stops-longer (Removed spare_path ∷ Created spare_path ∷ []) (filled_small name bytes) old new stopped)

-- it was looked at something before
pub stopped-after : (steps : List Step) (old mid new : Option (List Step)) → mid ≡ old → StopsIn steps mid new → StopsIn steps old new
stopped-after steps old mid new same stopped = subst (λ o. StopsIn steps o new) same stopped

pub done-after : {T E : Type 0} (steps : List Step) (old mid new : Option (List Step)) (result : Result T E) → mid ≡ old → DoesAll steps mid new result → DoesAll steps old new result
done-after steps old mid new result same done = subst (λ o. DoesAll steps o new result) same done

-- it has the name and the bytes that are said
pub small-named : {T E : Type 0} (said name told bytes : List ℕ) (old new : Option (List Step)) (result : Result T E) → said ≡ name → told ≡ bytes → PutsSmall said told old new result
    → PutsSmall name bytes old new result
small-named said name told bytes old new result same also put = subst (λ n. PutsSmall n bytes old new result) same (subst (λ b. PutsSmall said b old new result) also put)

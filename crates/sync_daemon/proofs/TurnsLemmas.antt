-- One turn more. The key lemmas are turns_more, turned_next, turned_all and turned_part.
use Rattle.std.proofs.Common.{◌≡◌, ◌<◌, ◌≤◌, ℕ, zero, suc, ◌+◌, List, [], ◌∷◌, ◌++◌, length, map, Result, Ok, Err, OnErr, refl, sym, ap, subst, ◌∙◌, append_assoc, append-nil, arith}
use Rattle.std.specs.List.{slice_index_or, slice_set}
use Rattle.std.proofs.Math.ListN.{get_or-map}
use Rattle.std.proofs.lemmas.List.{length-map, map-set}
use Rattle.sync_rules.specs.declared.fault.SyncFault.{SyncFault}
use Rattle.sync_rules.specs.declared.synced.Synced.{Synced}
use Rattle.sync_daemon.specs.Turns.{JobSo, JobState, StopsTurn, TurnSo, Turning, TurnsSo}

module _ {Peer : Type 0} (shows : ℕ → Type 0) where
  -- a turn behind some turns
  pub turns_more : (turns : ℕ) (old mid new : List (JobState Peer)) (results more : List (Result Synced SyncFault)) → TurnsSo shows turns old mid results → TurnSo shows mid new more
      → TurnsSo shows (suc turns) old new (results ++ more)
  turns_more zero old mid new results more (same, none) turn = (
    new,
    more,
    [],
    ap (λ (rs : List (Result Synced SyncFault)). rs ++ more) none ∙ sym (append-nil more),
    subst (λ (before : List (JobState Peer)). TurnSo shows before new more) same turn,
    (refl, refl),
  )
  turns_more (suc turns) old mid new results more (first, ones, rest, split, one, later) turn = (
    first,
    ones,
    rest ++ more,
    ap (λ (rs : List (Result Synced SyncFault)). rs ++ more) split ∙ append_assoc ones rest more,
    one,
    turns_more turns first mid new rest more later turn,
  )

  turning_first : (old now : List (JobState Peer)) (done : List (Result Synced SyncFault)) (x y : JobState Peer) (result : Result Synced SyncFault) → now ≡ old → done ≡ [] → 0 < length now
      → x ≡ slice_index_or now 0 x → JobSo shows x y result → Turning shows 1 old (slice_set now 0 y) (done ++ result ∷ [])
  turning_first old [] done x y result same none some is job = let no : ⊥ = omega (arith, some) in absurd no
  turning_first old (a ∷ now) done x y result same none some is job =
      subst (λ (before : List (JobState Peer)). Turning shows 1 before (y ∷ now) (done ++ result ∷ [])) same
      (subst (λ (first : List (Result Synced SyncFault)). Turning shows 1 (a ∷ now) (y ∷ now) (first ++ result ∷ [])) (sym none)
      (subst (λ (before : JobState Peer). JobSo shows before y result) is job, (refl, refl)))

  turning_next : (place : ℕ) (old now : List (JobState Peer)) (done : List (Result Synced SyncFault)) (x y : JobState Peer) (result : Result Synced SyncFault) → Turning shows place old now done
      → place < length now → x ≡ slice_index_or now place x → JobSo shows x y result → Turning shows (suc place) old (slice_set now place y) (done ++ result ∷ [])
  turning_next zero old now done x y result (same, none) some is job = turning_first old now done x y result same none some is job
  turning_next (suc place) [] now done x y result turning within is job = absurd turning
  turning_next (suc place) (b ∷ old) [] done x y result turning within is job = absurd turning
  turning_next (suc place) (b ∷ old) (a ∷ now) [] x y result turning within is job = absurd turning
  turning_next (suc place) (b ∷ old) (a ∷ now) (r ∷ done) x y result turning within is job =
      (turning.0, turning_next place old now done x y result turning.1 (omega (arith, within)) is job)

  turning_end : (place : ℕ) (old now : List (JobState Peer)) (done : List (Result Synced SyncFault)) → length now ≤ place → Turning shows place old now done → TurnSo {Peer = Peer} shows old now done
  turning_end zero old [] done past (same, none) =
      subst (λ (before : List (JobState Peer)). TurnSo {Peer = Peer} shows before [] done) same (subst (TurnSo {Peer = Peer} shows [] []) (sym none) tt)
  turning_end zero old (a ∷ now) done past turning = let no : ⊥ = omega (arith, past) in absurd no
  turning_end (suc place) [] now done past turning = absurd turning
  turning_end (suc place) (b ∷ old) [] done past turning = absurd turning
  turning_end (suc place) (b ∷ old) (a ∷ now) [] past turning = absurd turning
  turning_end (suc place) (b ∷ old) (a ∷ now) (r ∷ done) past turning = (turning.0, turning_end place old now done (omega (arith, past)) turning.1)

  -- ---- of jobs that have these states

  pub turned_next : {J : Type 0} (state : J → JobState Peer) (place : ℕ) (old : List (JobState Peer)) (jobs : List J) (done : List (Result Synced SyncFault)) (x y : J) (result : Result Synced SyncFault)
      → Turning shows place old (map state jobs) done → place < length jobs → x ≡ slice_index_or jobs place x → JobSo shows (state x) (state y) result
      → Turning shows (place + 1) old (map state (slice_set jobs place y)) (done ++ result ∷ [])
  turned_next state place old jobs done x y result turning within is job =
      let one : suc place ≡ place + 1 = omega arith in
      subst (λ (n : ℕ). Turning shows n old (map state (slice_set jobs place y)) (done ++ result ∷ [])) one
      (subst (λ (now : List (JobState Peer)). Turning shows (suc place) old now (done ++ result ∷ [])) (sym (map-set state jobs place y))
      (turning_next place old (map state jobs) done (state x) (state y) result turning (subst (λ (n : ℕ). place < n) (sym (length-map jobs state)) within)
      (ap state is ∙ sym (get_or-map state jobs place x)) job))

  pub turned_all : {J : Type 0} (state : J → JobState Peer) (place : ℕ) (old : List (JobState Peer)) (jobs : List J) (done : List (Result Synced SyncFault)) → length jobs ≤ place
      → Turning shows place old (map state jobs) done → TurnSo {Peer = Peer} shows old (map state jobs) done
  turned_all state place old jobs done past turning = turning_end place old (map state jobs) done (subst (λ (n : ℕ). n ≤ place) (sym (length-map jobs state)) past) turning

  -- there was no room for the next one
  pub turned_part : {J : Type 0} (state : J → JobState Peer) (place : ℕ) (old : List (JobState Peer)) (jobs : List J) (done : List (Result Synced SyncFault)) → place < length jobs
      → Turning shows place old (map state jobs) done → StopsTurn shows old (map state jobs)
  turned_part state place old jobs done within turning = (place, subst (λ (n : ℕ). place < n) (sym (length-map jobs state)) within, done, turning)

-- want of memory is told with what was done
pub on_error : {T E : Type 0} (P : Type 0) (r : Result T E) → P → OnErr r P
on_error P (Ok value) is = tt
on_error P (Err fault) is = is

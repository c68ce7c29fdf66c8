-- What a link was asked last. The key lemmas are came_start, came_fill, came_gave, failed_fill, read_later and stop_came.
use Rattle.std.proofs.Common.{◌≡◌, ℕ, ◌+◌, ◌<◌, ◌⊎◌, List, [], ◌∷◌, ◌++◌, length, Option, None, Some, inl, inr, refl, sym, ap, subst, ◌∙◌, arith, append_assoc, length-append}
use Rattle.std.specs.Io.KnownBytes.{IsAtEnd, append_known}
use Rattle.http_front.specs.Buffer.{Fills}
use Rattle.http_front.specs.Link.{Asked, AskedInVain, GivesFront, LinkTells, asked_once_more}
use Rattle.http_front.specs.ReplyText.{bad_text}
use Rattle.worker_server.specs.RequestSteps.{EndAsked, IsNoFault, StillComes, StopAsked, StopsSo}
use Rattle.worker_server.specs.ServedConnection.{CameLast, EndsAsked, FailedLast}
use Rattle.worker_server.specs.declared.reading.End.{End}
use Rattle.worker_server.specs.declared.reading.End.TheVariants as end
use Rattle.worker_server.specs.declared.served.Served.{Served}
use Rattle.worker_server.specs.declared.served.Served.TheVariants as served

-- ---- what is told now was told before

pub told_before : (old : Option (List ℕ)) (piece now : List ℕ) → append_known old piece ≡ Some now → (before : List ℕ) × (old ≡ Some before) × (now ≡ before ++ piece)
told_before None piece now e = absurd (cc)
told_before (Some before) piece now e = let same : now ≡ before ++ piece = cc in (before, refl, same)

pub asked_more : (asked : Option (List Asked)) (taken given : Option (List ℕ)) (before : List Asked) (t g : List ℕ) → asked ≡ Some before → taken ≡ Some t → given ≡ Some g
    → asked_once_more asked taken given ≡ Some (before ++ (length t, length g) ∷ [])
asked_more asked taken given before t g ea et eg = λ i. asked_once_more (ea i) (et i) (eg i)

-- ---- one time more

-- what was asked before this time, in front of it
abbrev AskedBefore : LinkTells → LinkTells → Type 0
AskedBefore start old = (before : List Asked) → start.asked ≡ Some before → (asked : List Asked) × (old.asked ≡ Some (before ++ asked))

before_of : (start old : LinkTells) (left : Option (List ℕ)) → CameLast start old left → (taken given : List ℕ) → old.taken ≡ Some taken → old.given ≡ Some given
    → AskedBefore start old
before_of start old left came taken given et eg before ea =
    elim (came taken given before et eg ea) [
      | inl none ↦ ([], none ∙ ap Some (sym (nothing_more before)))
      | inr some ↦ (some.0 ++ some.1 ∷ [], some.2)
    ]
  where
    nothing_more : (xs : List Asked) → xs ++ [] ≡ xs
    nothing_more [] = refl
    nothing_more (x ∷ xs) = ap (λ l. x ∷ l) (nothing_more xs)

-- the link was asked once more
once_more : (start old new : LinkTells) (left : Option (List ℕ)) (t g : List ℕ) (before : List Asked) → CameLast start old left → old.taken ≡ Some t → old.given ≡ Some g
    → start.asked ≡ Some before → new.asked ≡ asked_once_more old.asked old.taken old.given
    → (asked : List Asked) × (new.asked ≡ Some (before ++ (asked ++ (length t, length g) ∷ [])))
once_more start old new left t g before came et eg ea once =
    let had = before_of start old left came t g et eg before ea in
    (had.0, once ∙ asked_more old.asked old.taken old.given (before ++ had.0) t g had.1 et eg ∙ ap Some (append_assoc before had.0 ((length t, length g) ∷ [])))

-- ---- each step

-- as a call begins
pub came_start : (start : LinkTells) (left : Option (List ℕ)) → CameLast start start left
came_start start left = λ taken given before et eg ea. inl ea

-- nothing was asked, and bytes may have been given
pub came_gave : (old new : LinkTells) (left now_left : Option (List ℕ)) (piece : List ℕ) → new.taken ≡ old.taken → new.asked ≡ old.asked → now_left ≡ left
    → new.given ≡ append_known old.given piece → StillComes old new left now_left
came_gave old new left now_left piece same_taken same_asked same_left gave = λ start came taken given before et eg ea.
    let had = told_before old.given piece given (sym gave ∙ eg) in
    elim (came taken had.0 before (sym same_taken ∙ et) had.1 ea) [
      | inl none ↦ inl (same_asked ∙ none)
      | inr some ↦ inr (some.0, some.1, same_asked ∙ some.2, still some.3)
    ]
  where
    still : {P : Type 0} → P ⊎ IsAtEnd left → P ⊎ IsAtEnd now_left
    still (inl more) = inl more
    still (inr end) = inr (subst IsAtEnd (sym same_left) end)

-- a piece came, or the input is at its end
pub came_fill : (buffer now : List ℕ) (n : ℕ) (old new : LinkTells) (left now_left : Option (List ℕ)) → Fills buffer now old new
    → length now ≡ length buffer + n → (n ≡ 0 → IsAtEnd now_left) → StillComes old new left now_left
came_fill buffer now n old new left now_left fills size end = λ start came taken given before et eg ea.
    let had = told_before old.taken fills.piece taken (sym fills.taken ∙ et) in
    let gave = sym fills.given ∙ eg in
    elim fills.asked [
      | inl none ↦ elim (came had.0 given before had.1 gave ea) [
        | inl same ↦ inl (none.1 ∙ same)
        | inr some ↦ inr (some.0, some.1, none.1 ∙ some.2, inr (end (no_size none.0)))
      ]
      | inr once ↦
          let more = once_more start old new left had.0 given before came had.1 gave ea once in
          inr (more.0, (length had.0, length given), more.1, by_piece fills.piece refl had.0 taken had.2)
    ]
  where
    whole : length now ≡ length buffer + length fills.piece
    whole = ap length fills.grown ∙ length-append buffer fills.piece

    no_size : fills.piece ≡ [] → n ≡ 0
    no_size none = let zero : length fills.piece ≡ 0 = ap length none in omega (arith, whole, size, zero)

    by_piece : (piece : List ℕ) → fills.piece ≡ piece → (t taken : List ℕ) → taken ≡ t ++ fills.piece → (length t < length taken) ⊎ IsAtEnd now_left
    by_piece [] is t taken all = inr (end (no_size is))
    by_piece (x ∷ piece) is t taken all =
        let long : length taken ≡ length t + length (x ∷ piece) = ap length (all ∙ ap (λ p. t ++ p) is) ∙ length-append t (x ∷ piece) in
        inl (omega (arith, long))

-- a take failed
pub failed_fill : (old new : LinkTells) (left : Option (List ℕ)) → AskedInVain old new → (start : LinkTells) → CameLast start old left → FailedLast start new
failed_fill old new left vain start came = λ taken given before et eg ea.
    once_more start old new left taken given before came (sym vain.0 ∙ et) (sym vain.1 ∙ eg) ea vain.2

-- ---- one step after another

-- a reading that goes on as this one did
pub read_later : (end_is : End) (old mid new : LinkTells) (left mid_left now_left : Option (List ℕ)) → StillComes old mid left mid_left
    → EndAsked end_is mid new mid_left now_left → EndAsked end_is old new left now_left
read_later end.Over old mid new left mid_left now_left still last = tt
read_later (end.Cut read) old mid new left mid_left now_left still last = tt
read_later (end.Refused status) old mid new left mid_left now_left still last = λ start came. last start (still start came)
read_later end.ReadFault old mid new left mid_left now_left still last = λ start came. last start (still start came)
read_later end.NoMemory old mid new left mid_left now_left still last = tt

-- where no take failed, all came
pub read_whole : (how : End) (old new : LinkTells) (left now_left : Option (List ℕ)) → StillComes old new left now_left → IsNoFault how
    → EndAsked how old new left now_left
read_whole end.Over old new left now_left still none = tt
read_whole (end.Cut read) old new left now_left still none = tt
read_whole (end.Refused status) old new left now_left still none = still
read_whole end.ReadFault old new left now_left still none = absurd none
read_whole end.NoMemory old new left now_left still none = tt

-- nothing was moved since
failed_still : (start old new : LinkTells) → new.taken ≡ old.taken → new.given ≡ old.given → new.asked ≡ old.asked → FailedLast start old → FailedLast start new
failed_still start old new same_taken same_given same_asked last = λ taken given before et eg ea.
    let had = last taken given before (sym same_taken ∙ et) (sym same_given ∙ eg) ea in
    (had.0, same_asked ∙ had.1)

-- a give that failed after a front stops the connection, as no take had
pub stop_gave : (old new : LinkTells) (left now_left : Option (List ℕ)) (bytes : List ℕ) → new.taken ≡ old.taken → new.asked ≡ old.asked → now_left ≡ left
    → GivesFront old.given new.given bytes → StopAsked served.WriteFault old new left now_left
stop_gave old new left now_left bytes same_taken same_asked same_left gives = came_gave old new left now_left gives.front same_taken same_asked same_left gives.given

-- how the connection stops where no head was read, or its body was not
pub stop_came : (end_is : End) (how : Served) (old mid new : LinkTells) (left mid_left now_left : Option (List ℕ)) → EndAsked end_is old mid left mid_left
    → StopsSo end_is mid.given new.given how → new.taken ≡ mid.taken → new.asked ≡ mid.asked → now_left ≡ mid_left → StopAsked how old new left now_left
stop_came end.Over how old mid new left mid_left now_left last stops same_taken same_asked same_left = λ start came. subst (λ h. EndsAsked h start new now_left) (sym stops.0) tt
stop_came (end.Cut read) how old mid new left mid_left now_left last stops same_taken same_asked same_left = λ start came. subst (λ h. EndsAsked h start new now_left) (sym stops.0) tt
stop_came (end.Refused status) served.Ended old mid new left mid_left now_left last stops same_taken same_asked same_left = λ start came. tt
stop_came (end.Refused status) served.Limit old mid new left mid_left now_left last stops same_taken same_asked same_left = λ start came. tt
stop_came (end.Refused status) (served.Cut read) old mid new left mid_left now_left last stops same_taken same_asked same_left = λ start came. tt
stop_came (end.Refused status) (served.Refused told) old mid new left mid_left now_left last stops same_taken same_asked same_left = λ start came. tt
stop_came (end.Refused status) served.ReadFault old mid new left mid_left now_left last stops same_taken same_asked same_left = absurd stops
stop_came (end.Refused status) served.WriteFault old mid new left mid_left now_left last stops same_taken same_asked same_left = λ start came.
    stop_gave mid new mid_left now_left (bad_text status) same_taken same_asked same_left stops start (last start came)
stop_came (end.Refused status) served.NoMemory old mid new left mid_left now_left last stops same_taken same_asked same_left = λ start came. tt
stop_came end.ReadFault how old mid new left mid_left now_left last stops same_taken same_asked same_left = λ start came.
    subst (λ h. EndsAsked h start new now_left) (sym stops.0) (failed_still start mid new same_taken stops.1 same_asked (last start came))
stop_came end.NoMemory how old mid new left mid_left now_left last stops same_taken same_asked same_left = λ start came. subst (λ h. EndsAsked h start new now_left) (sym stops.0) tt

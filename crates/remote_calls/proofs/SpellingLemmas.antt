-- What is given and taken on a link grows, and spells the sends so far and one more. The key lemmas are open_spells, open_more,
-- open_ends, open_unlisted, spells_skip, kept_more and kept_unlisted.
use Rattle.std.proofs.Common.{◌≡◌, ℕ, Bool, true, false, List, [], ◌∷◌, ◌++◌, length, take, drop, Option, Some, Ok, Err, refl, sym, ap, subst, ◌∙◌, append-nil, append_assoc}
use Rattle.std.specs.Io.KnownBytes.{append_known}
use Rattle.std.proofs.lemmas.List.{length-take-le, take-append-drop}
use Rattle.http_front.specs.declared.order.Order.{Order}
use Rattle.http_front.specs.declared.order.What.{What}
use Rattle.http_front.specs.declared.outcome.Outcome.{Outcome}
use Rattle.http_client.specs.Response.{IsBad, IsCut, IsWhole}
use Rattle.http_client.proofs.MoreBytesLemmas.{whole_alone}
use Rattle.worker_server.proofs.AskedLemmas.{told_before}
use Rattle.remote_calls.specs.Exchange.{ComesTo, Exchanges, OpenView, ReadFails, Replies}
use Rattle.remote_calls.specs.Sends.{Ending, Sent}
use Rattle.remote_calls.specs.Spelling.{BytesSpell, BytesSpellBy, BytesSpellOpen, IsFrontOf, IsGivenLast, IsReply, KeptSpells, NoneGiven, request_of}
use Rattle.remote_calls.specs.declared.error.RemoteFault.{RemoteFault}
use Rattle.remote_calls.specs.declared.error.RemoteFault.TheVariants as fault

-- a whole reply in front of what is held is one by itself
pub reply_in_front : (what : What) (held : List ℕ) (outcome : Outcome) (used : ℕ) (ends : Bool) → IsWhole what held outcome used ends → IsReply what (take used held) outcome
reply_in_front what held outcome used ends is =
    let alone = whole_alone what held outcome used ends is in
    (ends, subst (λ (n : ℕ). IsWhole what (take used held) outcome n ends) (sym (length-take-le used held is.there)) alone)

-- a list of sends after one more: want of memory isn't listed
abbrev pub after_send : List Sent → Order → Ending → List Sent
after_send mine order (Err fault.NoMemory) = mine
after_send mine order ending = mine ++ (order, ending) ∷ []

module _ (host : List ℕ) where
  -- what is spelled on a link that goes on is spelled
  pub open_spells : (mine : List Sent) (given taken unread : List ℕ) → BytesSpellOpen host mine given taken unread → BytesSpell host mine given taken unread
  open_spells [] given taken unread is = (IsGivenLast.none is.0, is.1)
  open_spells ((order, Ok outcome) ∷ mine) given taken unread is =
      (is.0, is.1, is.2, is.3, is.4, is.5, open_spells mine is.1 is.2 unread is.6)
  open_spells ((order, Err (fault.TooLarge size)) ∷ mine) given taken unread is = open_spells mine given taken unread is
  open_spells ((first, Err other) ∷ mine) given taken unread is = absurd is

  -- a request that had its whole reply: what is behind that is kept unread
  pub open_more : (mine : List Sent) (given taken unread piece : List ℕ) (order : Order) (outcome : Outcome) (used : ℕ) → BytesSpellOpen host mine given taken unread
      → IsReply order.what (take used (unread ++ piece)) outcome
      → BytesSpellOpen host (mine ++ (order, Ok outcome) ∷ []) (given ++ request_of host order) (taken ++ piece) (drop used (unread ++ piece))
  open_more [] given taken unread piece order outcome used is reply = (
    take used (unread ++ piece),
    [],
    drop used (unread ++ piece),
    ap (λ (g : List ℕ). g ++ request_of host order) is.0 ∙ sym (append-nil (request_of host order)),
    ap (λ (t : List ℕ). t ++ piece) is.1 ∙ sym (take-append-drop used (unread ++ piece)),
    reply,
    (refl, refl),
  )
  open_more ((first, Ok done) ∷ mine) given taken unread piece order outcome used is reply = (
    is.0,
    is.1 ++ request_of host order,
    is.2 ++ piece,
    ap (λ (g : List ℕ). g ++ request_of host order) is.3 ∙ append_assoc (request_of host first) is.1 (request_of host order),
    ap (λ (t : List ℕ). t ++ piece) is.4 ∙ append_assoc is.0 is.2 piece,
    is.5,
    open_more mine is.1 is.2 unread piece order outcome used is.6 reply,
  )
  open_more ((first, Err (fault.TooLarge size)) ∷ mine) given taken unread piece order outcome used is reply =
      open_more mine given taken unread piece order outcome used is reply
  open_more ((first, Err other) ∷ mine) given taken unread piece order outcome used is reply = absurd is

  -- the last request on a link, by what its order failed for: so much of it was given, and this is held
  abbrev pub LastSpells : Order → RemoteFault → (part held : List ℕ) → Type 0
  LastSpells order (fault.BadReply at) part held = (part ≡ request_of host order) × IsBad order.what held at
  LastSpells order (fault.Cut size) part held = (part ≡ request_of host order) × (size ≡ length held) × IsCut order.what held
  LastSpells order fault.Link part held = IsFrontOf part (request_of host order)
  LastSpells order (fault.TooLarge size) part held = ⊥
  LastSpells order fault.NoMemory part held = ⊥

  last_spells : (order : Order) (f : RemoteFault) (part given taken held : List ℕ) → given ≡ part → taken ≡ held → LastSpells order f part held
      → BytesSpell host ((order, Err f) ∷ []) given taken held
  last_spells order (fault.BadReply at) part given taken held given_is taken_is is = (tt, given_is ∙ is.0, taken_is, is.1)
  last_spells order (fault.Cut size) part given taken held given_is taken_is is = (tt, given_is ∙ is.0, taken_is, is.1, is.2)
  last_spells order fault.Link part given taken held given_is taken_is is =
      (tt, subst (λ (g : List ℕ). IsFrontOf g (request_of host order)) (sym given_is) is, taken_is)
  last_spells order (fault.TooLarge size) part given taken held given_is taken_is is = absurd is
  last_spells order fault.NoMemory part given taken held given_is taken_is is = absurd is

  pub open_ends : (mine : List Sent) (given taken unread part piece : List ℕ) (order : Order) (f : RemoteFault) → BytesSpellOpen host mine given taken unread
      → LastSpells order f part (unread ++ piece)
      → BytesSpell host (mine ++ (order, Err f) ∷ []) (given ++ part) (taken ++ piece) (unread ++ piece)
  open_ends [] given taken unread part piece order f is last =
      last_spells order f part (given ++ part) (taken ++ piece) (unread ++ piece) (ap (λ (g : List ℕ). g ++ part) is.0) (ap (λ (t : List ℕ). t ++ piece) is.1) last
  open_ends ((first, Ok done) ∷ mine) given taken unread part piece order f is last = (
    is.0,
    is.1 ++ part,
    is.2 ++ piece,
    ap (λ (g : List ℕ). g ++ part) is.3 ∙ append_assoc (request_of host first) is.1 part,
    ap (λ (t : List ℕ). t ++ piece) is.4 ∙ append_assoc is.0 is.2 piece,
    is.5,
    open_ends mine is.1 is.2 unread part piece order f is.6 last,
  )
  open_ends ((first, Err (fault.TooLarge size)) ∷ mine) given taken unread part piece order f is last = open_ends mine given taken unread part piece order f is last
  open_ends ((first, Err other) ∷ mine) given taken unread part piece order f is last = absurd is

  -- an order that isn't listed: a front of its request was given
  pub open_unlisted : (mine : List Sent) (given taken unread part piece : List ℕ) (order : Order) → BytesSpellOpen host mine given taken unread
      → IsFrontOf part (request_of host order) → BytesSpell host mine (given ++ part) (taken ++ piece) (unread ++ piece)
  open_unlisted [] given taken unread part piece order is front =
      (IsGivenLast.unlisted order (subst (λ (g : List ℕ). IsFrontOf g (request_of host order)) (sym (ap (λ (g : List ℕ). g ++ part) is.0)) front), ap (λ (t : List ℕ). t ++ piece) is.1)
  open_unlisted ((first, Ok done) ∷ mine) given taken unread part piece order is front = (
    is.0,
    is.1 ++ part,
    is.2 ++ piece,
    ap (λ (g : List ℕ). g ++ part) is.3 ∙ append_assoc (request_of host first) is.1 part,
    ap (λ (t : List ℕ). t ++ piece) is.4 ∙ append_assoc is.0 is.2 piece,
    is.5,
    open_unlisted mine is.1 is.2 unread part piece order is.6 front,
  )
  open_unlisted ((first, Err (fault.TooLarge size)) ∷ mine) given taken unread part piece order is front = open_unlisted mine given taken unread part piece order is front
  open_unlisted ((first, Err other) ∷ mine) given taken unread part piece order is front = absurd is

  -- ---- an order that is too large

  none_more : (mine : List Sent) (order : Order) (size : ℕ) → NoneGiven mine → NoneGiven (mine ++ (order, Err (fault.TooLarge size)) ∷ [])
  none_more [] order size is = (tt, tt)
  none_more (sent ∷ mine) order size is = (is.0, none_more mine order size is.1)

  pub spells_skip : (mine : List Sent) (given taken unread : List ℕ) (order : Order) (size : ℕ) → BytesSpell host mine given taken unread
      → BytesSpell host (mine ++ (order, Err (fault.TooLarge size)) ∷ []) given taken unread
  spells_skip [] given taken unread order size is = is
  spells_skip ((first, Ok done) ∷ mine) given taken unread order size is =
      (is.0, is.1, is.2, is.3, is.4, is.5, spells_skip mine is.1 is.2 unread order size is.6)
  spells_skip ((first, Err (fault.TooLarge large)) ∷ mine) given taken unread order size is = spells_skip mine given taken unread order size is
  spells_skip ((first, Err fault.NoMemory) ∷ mine) given taken unread order size is = absurd is
  spells_skip ((first, Err (fault.BadReply at)) ∷ mine) given taken unread order size is = (none_more mine order size is.0, is.1, is.2, is.3)
  spells_skip ((first, Err (fault.Cut cut)) ∷ mine) given taken unread order size is = (none_more mine order size is.0, is.1, is.2, is.3, is.4)
  spells_skip ((first, Err fault.Link) ∷ mine) given taken unread order size is = (none_more mine order size is.0, is.1, is.2)

  open_skip : (mine : List Sent) (given taken unread : List ℕ) (order : Order) (size : ℕ) → BytesSpellOpen host mine given taken unread
      → BytesSpellOpen host (mine ++ (order, Err (fault.TooLarge size)) ∷ []) given taken unread
  open_skip [] given taken unread order size is = is
  open_skip ((first, Ok done) ∷ mine) given taken unread order size is =
      (is.0, is.1, is.2, is.3, is.4, is.5, open_skip mine is.1 is.2 unread order size is.6)
  open_skip ((first, Err (fault.TooLarge large)) ∷ mine) given taken unread order size is = open_skip mine given taken unread order size is
  open_skip ((first, Err other) ∷ mine) given taken unread order size is = absurd is

  pub skip_by : (over : Bool) (mine : List Sent) (given taken unread : List ℕ) (order : Order) (size : ℕ) → BytesSpellBy host over mine given taken unread
      → BytesSpellBy host over (mine ++ (order, Err (fault.TooLarge size)) ∷ []) given taken unread
  skip_by true mine given taken unread order size is = spells_skip mine given taken unread order size is
  skip_by false mine given taken unread order size is = open_skip mine given taken unread order size is

  -- whatever is kept is spelled
  pub spells_by : (over : Bool) (mine : List Sent) (given taken unread : List ℕ) → BytesSpellBy host over mine given taken unread → BytesSpell host mine given taken unread
  spells_by true mine given taken unread is = is
  spells_by false mine given taken unread is = open_spells mine given taken unread is

  -- ---- an order on a link

  ended_by : (mine : List Sent) (given taken unread piece : List ℕ) (order : Order) (left : Option (List ℕ)) (f : RemoteFault) → BytesSpellOpen host mine given taken unread
      → ReadFails order.what (unread ++ piece) left f
      → BytesSpell host (after_send mine order (Err f)) (given ++ request_of host order) (taken ++ piece) (unread ++ piece)
  ended_by mine given taken unread piece order left (fault.BadReply at) is fails =
      open_ends mine given taken unread (request_of host order) piece order (fault.BadReply at) is (refl, fails)
  ended_by mine given taken unread piece order left (fault.Cut size) is fails =
      open_ends mine given taken unread (request_of host order) piece order (fault.Cut size) is (refl, fails.0, fails.1)
  ended_by mine given taken unread piece order left (fault.TooLarge size) is fails = absurd fails
  ended_by mine given taken unread piece order left fault.Link is fails =
      open_ends mine given taken unread (request_of host order) piece order fault.Link is ([], sym (append-nil (request_of host order)))
  ended_by mine given taken unread piece order left fault.NoMemory is fails =
      open_unlisted mine given taken unread (request_of host order) piece order is ([], sym (append-nil (request_of host order)))

  by_over : (over : Bool) (mine : List Sent) (given taken unread : List ℕ) → BytesSpellOpen host mine given taken unread → BytesSpellBy host over mine given taken unread
  by_over true mine given taken unread is = open_spells mine given taken unread is
  by_over false mine given taken unread is = is

  came : (mine : List Sent) (given taken unread piece held new_unread : List ℕ) (order : Order) (left : Option (List ℕ)) (ending : Ending) (over : Bool)
      → BytesSpellOpen host mine given taken unread → held ≡ unread ++ piece → ComesTo order.what held left ending new_unread over
      → BytesSpellBy host over (after_send mine order ending) (given ++ request_of host order) (taken ++ piece) new_unread
  came mine given taken unread piece held new_unread order left (Ok outcome) over is held_is comes =
      let reply : IsReply order.what (take comes.0 (unread ++ piece)) outcome =
      subst (λ (h : List ℕ). IsReply order.what (take comes.0 h) outcome) held_is (reply_in_front order.what held outcome comes.0 over comes.1) in
      subst (λ (u : List ℕ). BytesSpellBy host over (mine ++ (order, Ok outcome) ∷ []) (given ++ request_of host order) (taken ++ piece) u) (sym (comes.2 ∙ ap (drop comes.0) held_is))
      (by_over over (mine ++ (order, Ok outcome) ∷ []) _ _ _ (open_more mine given taken unread piece order outcome comes.0 is reply))
  came mine given taken unread piece held new_unread order left (Err f) over is held_is comes =
      let fails : ReadFails order.what (unread ++ piece) left f = subst (λ (h : List ℕ). ReadFails order.what h left f) held_is comes.0 in
      subst (λ (b : Bool). BytesSpellBy host b (after_send mine order (Err f)) (given ++ request_of host order) (taken ++ piece) new_unread) (sym comes.2)
      (subst (λ (u : List ℕ). BytesSpell host (after_send mine order (Err f)) (given ++ request_of host order) (taken ++ piece) u) (sym (comes.1 ∙ held_is))
      (ended_by mine given taken unread piece order left f is fails))

  pub kept_more : (o after : OpenView) (mine : List Sent) (order : Order) (ending : Ending) → o.over ≡ false → KeptSpells host (Some o) mine
      → Exchanges order.what (request_of host order) o after ending → KeptSpells host (Some after) (after_send mine order ending)
  kept_more o after mine order ending goes_on is (Exchanges.given count replies) = λ given taken eg et.
      let gave = told_before o.link.tells.given (request_of host order) given (sym replies.given ∙ (sym replies.reads.given ∙ eg)) in
      let took = told_before o.link.tells.taken replies.reads.piece taken (ap (λ (t : Option (List ℕ)). append_known t replies.reads.piece) (sym replies.taken) ∙ (sym replies.reads.taken ∙ et)) in
      let open_is = subst (λ (b : Bool). BytesSpellBy host b mine gave.0 took.0 o.unread) goes_on (is gave.0 took.0 gave.1 took.1) in
      subst (λ (g : List ℕ). BytesSpellBy host after.over (after_send mine order ending) g taken after.unread) (sym gave.2)
      (subst (λ (t : List ℕ). BytesSpellBy host after.over (after_send mine order ending) (gave.0 ++ request_of host order) t after.unread) (sym took.2)
      (came mine gave.0 took.0 o.unread replies.reads.piece replies.held after.unread order after.link.left ending after.over open_is replies.reads.grown replies.comes))
  kept_more o after mine order ending goes_on is (Exchanges.cut_off count fails) = λ given taken eg et.
      let gave = told_before o.link.tells.given fails.given.front given (sym fails.given.given ∙ eg) in
      let open_is = subst (λ (b : Bool). BytesSpellBy host b mine gave.0 taken o.unread) goes_on (is gave.0 taken gave.1 (sym fails.taken ∙ et)) in
      let front : IsFrontOf fails.given.front (request_of host order) = (fails.given.rest, fails.given.cut) in
      let ends = open_ends mine gave.0 taken o.unread fails.given.front [] order fault.Link open_is front in
      cut_so ending after.over given taken after.unread gave.0 fails.given.front fails.is fails.over gave.2 fails.unread ends
    where
      cut_so : (e : Ending) (over : Bool) (g t u before front : List ℕ) → e ≡ Err fault.Link → over ≡ true → g ≡ before ++ front → u ≡ o.unread
          → BytesSpell host (mine ++ (order, Err fault.Link) ∷ []) (before ++ front) (t ++ []) (o.unread ++ []) → BytesSpellBy host over (after_send mine order e) g t u
      cut_so e over g t u before front e_is over_is g_is u_is ends =
          subst (λ (f : Ending). BytesSpellBy host over (after_send mine order f) g t u) (sym e_is)
          (subst (λ (b : Bool). BytesSpellBy host b (mine ++ (order, Err fault.Link) ∷ []) g t u) (sym over_is)
          (subst (λ (h : List ℕ). BytesSpell host (mine ++ (order, Err fault.Link) ∷ []) h t u) (sym g_is)
          (subst (λ (h : List ℕ). BytesSpell host (mine ++ (order, Err fault.Link) ∷ []) (before ++ front) t h) (sym u_is)
          (subst (λ (h : List ℕ). BytesSpell host (mine ++ (order, Err fault.Link) ∷ []) (before ++ front) h o.unread) (append-nil t)
          (subst (λ (h : List ℕ). BytesSpell host (mine ++ (order, Err fault.Link) ∷ []) (before ++ front) (t ++ []) h) (append-nil o.unread) ends)))))

  -- ---- an order that is given once more on another link, and isn't listed here

  unanswered : (what : What) (text : List ℕ) (o after : OpenView) (f : RemoteFault) → Replies what text o after (Err f) → Replies what text o after (Err fault.NoMemory)
  unanswered what text o after f is = record {
    between = is.between;
    given = is.given;
    taken = is.taken;
    asked = is.asked;
    held = is.held;
    reads = is.reads;
    ahead = is.ahead;
    comes = (tt, is.comes.1, is.comes.2);
    last = tt;
  }

  pub kept_unlisted : (o after : OpenView) (mine : List Sent) (order : Order) (f : RemoteFault) → o.over ≡ false → KeptSpells host (Some o) mine
      → Exchanges order.what (request_of host order) o after (Err f) → KeptSpells host (Some after) mine
  kept_unlisted o after mine order f goes_on is (Exchanges.given count replies) =
      kept_more o after mine order (Err fault.NoMemory) goes_on is (Exchanges.given count (unanswered order.what (request_of host order) o after f replies))
  kept_unlisted o after mine order f goes_on is (Exchanges.cut_off count fails) = λ given taken eg et.
      let gave = told_before o.link.tells.given fails.given.front given (sym fails.given.given ∙ eg) in
      let open_is = subst (λ (b : Bool). BytesSpellBy host b mine gave.0 taken o.unread) goes_on (is gave.0 taken gave.1 (sym fails.taken ∙ et)) in
      let front : IsFrontOf fails.given.front (request_of host order) = (fails.given.rest, fails.given.cut) in
      let spells = open_unlisted mine gave.0 taken o.unread fails.given.front [] order open_is front in
      subst (λ (b : Bool). BytesSpellBy host b mine given taken after.unread) (sym fails.over)
      (subst (λ (h : List ℕ). BytesSpell host mine h taken after.unread) (sym gave.2)
      (subst (λ (h : List ℕ). BytesSpell host mine (gave.0 ++ fails.given.front) taken h) (sym fails.unread)
      (subst (λ (h : List ℕ). BytesSpell host mine (gave.0 ++ fails.given.front) h o.unread) (append-nil taken)
      (subst (λ (h : List ℕ). BytesSpell host mine (gave.0 ++ fails.given.front) (taken ++ []) h) (append-nil o.unread) spells))))

-- After each send the links of a remote spell its sends. The key lemmas are spelled_first, spelled_step,
-- spelled_rest and spells_all.
use Rattle.std.proofs.Common.{◌≡◌, ℕ, Bool, true, false, not, ◌&&◌, List, [], ◌∷◌, ◌++◌, Option, None, Some, Ok, Err, refl, sym, ap, subst, ◌∙◌, append-nil, append_assoc}
use Rattle.std.proofs.lemmas.Bool.{and_parts, false≢true}
use Rattle.http_front.specs.Dial.{IsNothing}
use Rattle.http_front.specs.declared.order.Order.{Order}
use Rattle.http_front.specs.declared.order.What.{What}
use Rattle.remote_calls.specs.Exchange.{Exchanges, LinkView, OpenView}
use Rattle.remote_calls.specs.HttpRemote.{GoesOver, HasNoLink, HttpRemoteView, IsNew, LeavesAll, LeavesLink, LinksView, ReadiesBy, SendsOver, Tries, ends_unanswered, gives_again, is_unanswered, keeps, keeps_open, left_over}
use Rattle.remote_calls.specs.Sends.{Ending, SendsOne, Sent, size_told}
use Rattle.remote_calls.specs.Spelling.{AllSpell, AreAnswered, BytesSpellBy, IsSpelled, KeptSpares, KeptSpells, LinkSpells, SparesBy, SpellsAll, request_of}
use Rattle.remote_calls.specs.declared.error.RemoteFault.{RemoteFault}
use Rattle.remote_calls.specs.declared.error.RemoteFault.TheVariants as fault
use Rattle.remote_calls.proofs.SparesLemmas.{over_then, spares_by, spares_first, spares_left, spares_more, spares_skip}
use Rattle.remote_calls.proofs.SpellingLemmas.{after_send, kept_more, kept_unlisted, skip_by, spells_by}

-- ---- the list

pub sends_are : (old new : List Sent) (order : Order) (ending : Ending) → SendsOne old new order ending → new ≡ after_send old order ending
sends_are old new order (Ok outcome) is = is
sends_are old new order (Err fault.NoMemory) is = is
sends_are old new order (Err other) is = is

after_both : (before mine : List Sent) (order : Order) (ending : Ending) → after_send (before ++ mine) order ending ≡ before ++ after_send mine order ending
after_both before mine order (Ok outcome) = append_assoc before mine ((order, Ok outcome) ∷ [])
after_both before mine order (Err fault.NoMemory) = refl
after_both before mine order (Err other) = append_assoc before mine ((order, Err other) ∷ [])

-- ---- a link goes back

-- what the links of a remote spell, with the one that was kept among those that went back
went_spells : (host : List ℕ) (links : List LinkView) (kept : Option OpenView) (before mine : List Sent) → AllSpell host links before → KeptSpells host kept mine
    → KeptSpares kept mine → AllSpell host (links ++ left_over kept) (before ++ mine)
went_spells host links None before mine all is spares =
    let none : before ++ mine ≡ before = ap (λ (ms : List Sent). before ++ ms) is ∙ append-nil before in
    subst (λ (ls : List LinkView). AllSpell host ls (before ++ mine)) (sym (append-nil links)) (subst (λ (ss : List Sent). AllSpell host links ss) (sym none) all)
went_spells host links (Some o) before mine all is spares =
    let spells : LinkSpells host o.link o.unread mine = λ given taken eg et. spells_by host o.over mine given taken o.unread (is given taken eg et) in
    AllSpell.over_link links o.link o.unread before mine spells (spares_by o.over mine o.unread spares) all

-- what is nothing, where it is told, is the empty list
nothing : (told : Option (List ℕ)) (bytes : List ℕ) → IsNothing told → told ≡ Some bytes → bytes ≡ []
nothing None bytes is e = absurd (cc)
nothing (Some held) bytes is e = let same : bytes ≡ held = cc in same ∙ is

-- a link that was just made spells nothing
new_spells : (host : List ℕ) (o : OpenView) → IsNew o → KeptSpells host (Some o) []
new_spells host o new = λ given taken eg et.
    subst (λ (b : Bool). BytesSpellBy host b [] given taken o.unread) (sym new.over)
    (nothing o.link.tells.given given new.given eg, nothing o.link.tells.taken taken new.taken et ∙ sym new.unread)

-- ---- a send

-- where the links are as they were, and what is kept spells more
stays_so : (old new : HttpRemoteView) (mine : List Sent) (is : IsSpelled old) → new.peer ≡ old.peer → new.links ≡ old.links → new.sends ≡ is.before ++ mine
    → KeptSpells old.peer.host old.links.kept mine → KeptSpares old.links.kept mine → IsSpelled new
stays_so old new mine is peer_is links_are sends kept spares = record {
  links = is.links;
  before = is.before;
  mine = mine;
  sends = sends;
  back = ap (λ ls. ls.back) links_are ∙ is.back ∙ ap (λ (ls : List LinkView). ls ++ is.links) (sym (ap (λ p. p.start) peer_is));
  spelled = subst (λ (h : List ℕ). AllSpell h is.links is.before) (sym (ap (λ p. p.host) peer_is)) is.spelled;
  kept = subst (λ (h : List ℕ). KeptSpells h new.links.kept mine) (sym (ap (λ p. p.host) peer_is)) (subst (λ (k : Option OpenView). KeptSpells old.peer.host k mine) (sym (ap (λ ls. ls.kept) links_are)) kept);
  spares = subst (λ (k : Option OpenView). KeptSpares k mine) (sym (ap (λ ls. ls.kept) links_are)) spares;
}

-- where what was kept, if anything, went back, and these sends came after
back_so : (old new : HttpRemoteView) (mine : List Sent) (kept : Option OpenView) (is : IsSpelled old) → new.peer ≡ old.peer
    → new.links.back ≡ old.links.back ++ left_over old.links.kept → new.links.kept ≡ kept → new.sends ≡ old.sends ++ mine → KeptSpells old.peer.host kept mine
    → KeptSpares kept mine → IsSpelled new
back_so old new mine kept is peer_is back_is kept_is sends spells spares = record {
  links = is.links ++ left_over old.links.kept;
  before = is.before ++ is.mine;
  mine = mine;
  sends = sends ∙ ap (λ (ss : List Sent). ss ++ mine) is.sends;
  back = back_is ∙ ap (λ (ls : List LinkView). ls ++ left_over old.links.kept) is.back ∙ append_assoc old.peer.start is.links (left_over old.links.kept) ∙ ap (λ (ls : List LinkView). ls ++ (is.links ++ left_over old.links.kept)) (sym (ap (λ p. p.start) peer_is));
  spelled = subst (λ (h : List ℕ). AllSpell h (is.links ++ left_over old.links.kept) (is.before ++ is.mine)) (sym (ap (λ p. p.host) peer_is))
      (went_spells old.peer.host is.links old.links.kept is.before is.mine is.spelled is.kept is.spares);
  kept = subst (λ (h : List ℕ). KeptSpells h new.links.kept mine) (sym (ap (λ p. p.host) peer_is)) (subst (λ (k : Option OpenView). KeptSpells old.peer.host k mine) (sym kept_is) spells);
  spares = subst (λ (k : Option OpenView). KeptSpares k mine) (sym kept_is) spares;
}

-- no link could be made: the send went over none
unsent_so : (old new : HttpRemoteView) (order : Order) (is : IsSpelled old) → new.peer ≡ old.peer → new.links.back ≡ old.links.back ++ left_over old.links.kept
    → new.links.kept ≡ None → new.sends ≡ old.sends ++ (order, Err fault.Link) ∷ [] → IsSpelled new
unsent_so old new order is peer_is back_is kept_is sends = record {
  links = is.links ++ left_over old.links.kept;
  before = (is.before ++ is.mine) ++ (order, Err fault.Link) ∷ [];
  mine = [];
  sends = sends ∙ ap (λ (ss : List Sent). ss ++ (order, Err fault.Link) ∷ []) is.sends ∙ sym (append-nil _);
  back = back_is ∙ ap (λ (ls : List LinkView). ls ++ left_over old.links.kept) is.back ∙ append_assoc old.peer.start is.links (left_over old.links.kept) ∙ ap (λ (ls : List LinkView). ls ++ (is.links ++ left_over old.links.kept)) (sym (ap (λ p. p.start) peer_is));
  spelled = subst (λ (h : List ℕ). AllSpell h (is.links ++ left_over old.links.kept) ((is.before ++ is.mine) ++ (order, Err fault.Link) ∷ [])) (sym (ap (λ p. p.host) peer_is))
      (AllSpell.unsent (is.links ++ left_over old.links.kept) (is.before ++ is.mine) order (Err fault.Link) tt (went_spells old.peer.host is.links old.links.kept is.before is.mine is.spelled is.kept is.spares));
  kept = subst (λ (k : Option OpenView). KeptSpells new.peer.host k []) (sym kept_is) refl;
  spares = subst (λ (k : Option OpenView). KeptSpares k []) (sym kept_is) tt;
}

-- an order that is too large goes over no link
large_kept : (host : List ℕ) (kept : Option OpenView) (mine : List Sent) (order : Order) (size : ℕ) (o : OpenView) → kept ≡ Some o → KeptSpells host kept mine
    → KeptSpells host kept (mine ++ (order, Err (fault.TooLarge size)) ∷ [])
large_kept host None mine order size o some is = absurd (cc)
large_kept host (Some k) mine order size o some is = λ given taken eg et. skip_by host k.over mine given taken k.unread order size (is given taken eg et)

large_so : (old new : HttpRemoteView) (order : Order) (size : ℕ) (kept : Option OpenView) → old.links.kept ≡ kept → (is : IsSpelled old) → new.peer ≡ old.peer → new.links ≡ old.links
    → new.sends ≡ old.sends ++ (order, Err (fault.TooLarge size)) ∷ [] → IsSpelled new
large_so old new order size None none is peer_is links_are sends = record {
  links = is.links;
  before = is.before ++ (order, Err (fault.TooLarge size)) ∷ [];
  mine = [];
  sends = sends ∙ ap (λ (ss : List Sent). ss ++ (order, Err (fault.TooLarge size)) ∷ []) (is.sends ∙ ap (λ (ms : List Sent). is.before ++ ms) nothing_kept ∙ append-nil is.before) ∙ sym (append-nil _);
  back = ap (λ ls. ls.back) links_are ∙ is.back ∙ ap (λ (ls : List LinkView). ls ++ is.links) (sym (ap (λ p. p.start) peer_is));
  spelled = subst (λ (h : List ℕ). AllSpell h is.links (is.before ++ (order, Err (fault.TooLarge size)) ∷ [])) (sym (ap (λ p. p.host) peer_is))
      (AllSpell.unsent is.links is.before order (Err (fault.TooLarge size)) tt is.spelled);
  kept = subst (λ (k : Option OpenView). KeptSpells new.peer.host k []) (sym (ap (λ ls. ls.kept) links_are ∙ none)) refl;
  spares = subst (λ (k : Option OpenView). KeptSpares k []) (sym (ap (λ ls. ls.kept) links_are ∙ none)) tt;
}
  where
    nothing_kept : is.mine ≡ []
    nothing_kept = subst (λ (k : Option OpenView). KeptSpells old.peer.host k is.mine) none is.kept
large_so old new order size (Some o) some is peer_is links_are sends =
    stays_so old new (is.mine ++ (order, Err (fault.TooLarge size)) ∷ []) is peer_is links_are
    (sends ∙ ap (λ (ss : List Sent). ss ++ (order, Err (fault.TooLarge size)) ∷ []) is.sends ∙ append_assoc is.before is.mine ((order, Err (fault.TooLarge size)) ∷ []))
    (large_kept old.peer.host old.links.kept is.mine order size o some is.kept) (spares_skip old.links.kept is.mine order size is.spares)

-- a link that may be kept isn't over
goes_on : (o : OpenView) → keeps o.over o.count ≡ true → o.over ≡ false
goes_on o may = by o.over (and_parts (not o.over) _ may).0
  where
    by : (b : Bool) → not b ≡ true → b ≡ false
    by true is = absurd (false≢true is)
    by false is = refl

-- each send of a link that may be kept has its outcome
answered : (kept : Option OpenView) (o : OpenView) (mine : List Sent) → kept ≡ Some o → keeps_open kept ≡ true → KeptSpares kept mine → AreAnswered mine
answered kept o mine some may is =
    let here : KeptSpares (Some o) mine = subst (λ (k : Option OpenView). KeptSpares k mine) some is in
    subst (λ (b : Bool). SparesBy b mine o.unread) (goes_on o (subst (λ (k : Option OpenView). keeps_open k ≡ true) some may)) here

kept_so : (old new : HttpRemoteView) (order : Order) (ending : Ending) (o after : OpenView) → IsSpelled old → new.peer ≡ old.peer → old.links.kept ≡ Some o
    → keeps_open old.links.kept ≡ true → new.links.back ≡ old.links.back → new.links.kept ≡ Some after → new.sends ≡ after_send old.sends order ending
    → Exchanges order.what (request_of old.peer.host order) o after ending → ((f : RemoteFault) → ending ≡ Err f → is_unanswered f after.unread ≡ false) → IsSpelled new
kept_so old new order ending o after is peer_is some may back_is kept_is sends exchange byte = record {
  links = is.links;
  before = is.before;
  mine = after_send is.mine order ending;
  sends = sends ∙ ap (λ (ss : List Sent). after_send ss order ending) is.sends ∙ after_both is.before is.mine order ending;
  back = back_is ∙ is.back ∙ ap (λ (ls : List LinkView). ls ++ is.links) (sym (ap (λ p. p.start) peer_is));
  spelled = subst (λ (h : List ℕ). AllSpell h is.links is.before) (sym (ap (λ p. p.host) peer_is)) is.spelled;
  kept = subst (λ (h : List ℕ). KeptSpells h new.links.kept (after_send is.mine order ending)) (sym (ap (λ p. p.host) peer_is))
      (subst (λ (k : Option OpenView). KeptSpells old.peer.host k (after_send is.mine order ending)) (sym kept_is)
      (kept_more old.peer.host o after is.mine order ending (goes_on o (subst (λ (k : Option OpenView). keeps_open k ≡ true) some may))
      (subst (λ (k : Option OpenView). KeptSpells old.peer.host k is.mine) some is.kept) exchange));
  spares = subst (λ (k : Option OpenView). KeptSpares k (after_send is.mine order ending)) (sym kept_is)
      (spares_more (request_of old.peer.host order) o after is.mine order ending (answered old.links.kept o is.mine some may is.spares) exchange byte);
}

-- the dial as it was handed in
pub made_one : {D : Type 0} (made before : List (D × ℕ)) (dial : D) → made ≡ before ++ (dial, 0) ∷ [] → before ≡ [] → made ≡ (dial, 0) ∷ []
made_one {D} made before dial is none = is ∙ ap (λ (items : List (D × ℕ)). items ++ (dial, 0) ∷ []) none

-- a remote that was sent nothing
pub spelled_first : (remote : HttpRemoteView) → remote.sends ≡ [] → remote.links.kept ≡ None → remote.links.back ≡ remote.peer.start → IsSpelled remote
spelled_first remote none unlinked back_is = record {
  links = [];
  before = [];
  mine = [];
  sends = none;
  back = back_is ∙ sym (append-nil remote.peer.start);
  spelled = AllSpell.nothing;
  kept = subst (λ (k : Option OpenView). KeptSpells remote.peer.host k []) (sym unlinked) refl;
  spares = subst (λ (k : Option OpenView). KeptSpares k []) (sym unlinked) tt;
}

-- where an order on a link that was kept isn't given once more, a fault came after a byte of the reply
answered_byte : (kept then_kept : Option OpenView) (after : OpenView) (ending : Ending) → keeps_open kept ≡ true → then_kept ≡ Some after → gives_again kept ending then_kept ≡ false
    → (f : RemoteFault) → ending ≡ Err f → is_unanswered f after.unread ≡ false
answered_byte kept then_kept after ending may kept_is due f ending_is =
    ap (λ (k : Bool). k && is_unanswered f after.unread) (sym may) ∙ ap (λ (t : Option OpenView). gives_again kept (Err f) t) (sym kept_is)
    ∙ ap (λ (e : Ending). gives_again kept e then_kept) (sym ending_is) ∙ due

-- a link on which a fault came isn't given the next order
over_again : (kept : Option OpenView) (after : OpenView) (ending : Ending) (then_kept : Option OpenView) → kept ≡ Some after → after.over ≡ true
    → gives_again kept ending then_kept ≡ false
over_again kept after (Ok outcome) then_kept kept_is over = refl
over_again kept after (Err f) then_kept kept_is over =
    ap (λ (k : Option OpenView). gives_again k (Err f) then_kept) kept_is ∙ ap (λ (b : Bool). keeps b after.count && ends_unanswered f then_kept) over

-- one try
module _ (reaches : LinkView → Type 0) where
  went_step : (old new : HttpRemoteView) (order : Order) (ending : Ending) → IsSpelled old → new.peer ≡ old.peer
      → GoesOver reaches order.what (request_of old.peer.host order) old.links new.links ending → gives_again old.links.kept ending new.links.kept ≡ false
      → SendsOne old.sends new.sends order ending → IsSpelled new
  went_step old new order ending is peer_is (GoesOver.unlinked (HasNoLink.undialled ending_is leaves none)) due sends =
      let listed = sends_are old.sends new.sends order ending sends ∙ ap (after_send old.sends order) ending_is in
      unsent_so old new order is peer_is leaves.back_is none listed
  went_step old new order ending is peer_is (GoesOver.unlinked (HasNoLink.no_room ending_is leaves none)) due sends =
      let listed = sends_are old.sends new.sends order ending sends ∙ ap (after_send old.sends order) ending_is in
      back_so old new [] None is peer_is leaves.back_is none (listed ∙ sym (append-nil old.sends)) refl tt
  went_step old new order ending is peer_is (GoesOver.exchanged o after (ReadiesBy.kept keeps_it) exchange kept_is) due sends =
      kept_so old new order ending o after is peer_is keeps_it.is keeps_it.may keeps_it.back_is kept_is (sends_are old.sends new.sends order ending sends) exchange
      (answered_byte old.links.kept new.links.kept after ending keeps_it.may kept_is due)
  went_step old new order ending is peer_is (GoesOver.exchanged o after (ReadiesBy.made leaves fresh there) exchange kept_is) due sends =
      let listed = sends_are old.sends new.sends order ending sends
      ∙ ap (λ (ss : List Sent). after_send ss order ending) (sym (append-nil old.sends)) ∙ after_both old.sends [] order ending in
      back_so old new (after_send [] order ending) (Some after) is peer_is leaves.back_is kept_is listed
      (kept_more old.peer.host o after [] order ending fresh.over (new_spells old.peer.host o fresh) exchange)
      (spares_first (request_of old.peer.host order) o after order ending exchange)

  -- a remote as its order is to be given once more
  abbrev pub with_links : HttpRemoteView → LinksView → HttpRemoteView
  with_links old mid = record { peer = old.peer; links = mid; sends = old.sends }

  never_open : {P : Type 0} (old : LinksView) (back : List LinkView) → LeavesLink old back → keeps_open old.kept ≡ true → P
  never_open old back leaves may = absurd (false≢true (sym leaves.no_more ∙ may))

  left_step : (old : HttpRemoteView) (mid : LinksView) (order : Order) (f : RemoteFault) → IsSpelled old → keeps_open old.links.kept ≡ true
      → GoesOver reaches order.what (request_of old.peer.host order) old.links mid (Err f) → IsSpelled (with_links old mid)
  left_step old mid order f is may (GoesOver.unlinked (HasNoLink.undialled ending_is leaves none)) = never_open old.links mid.back leaves may
  left_step old mid order f is may (GoesOver.unlinked (HasNoLink.no_room ending_is leaves none)) = never_open old.links mid.back leaves may
  left_step old mid order f is may (GoesOver.exchanged o after (ReadiesBy.made leaves fresh there) exchange kept_is) = never_open old.links mid.back leaves may
  left_step old mid order f is may (GoesOver.exchanged o after (ReadiesBy.kept keeps_it) exchange kept_is) = record {
    links = is.links;
    before = is.before;
    mine = is.mine;
    sends = is.sends;
    back = keeps_it.back_is ∙ is.back;
    spelled = is.spelled;
    kept = subst (λ (k : Option OpenView). KeptSpells old.peer.host k is.mine) (sym kept_is)
        (kept_unlisted old.peer.host o after is.mine order f (goes_on o (subst (λ (k : Option OpenView). keeps_open k ≡ true) keeps_it.is keeps_it.may))
        (subst (λ (k : Option OpenView). KeptSpells old.peer.host k is.mine) keeps_it.is is.kept) exchange);
    spares = subst (λ (k : Option OpenView). KeptSpares k is.mine) (sym kept_is)
        (spares_left order.what (request_of old.peer.host order) o after is.mine f (answered old.links.kept o is.mine keeps_it.is keeps_it.may is.spares) exchange);
  }

  -- it isn't given a third time
  never_third : (old mid : LinksView) (what : What) (text : List ℕ) (f : RemoteFault) (ending : Ending) (then_kept : Option OpenView) → keeps_open old.kept ≡ true
      → GoesOver reaches what text old mid (Err f) → gives_again mid.kept ending then_kept ≡ false
  never_third old mid what text f ending then_kept may (GoesOver.unlinked (HasNoLink.undialled ending_is leaves none)) = never_open old mid.back leaves may
  never_third old mid what text f ending then_kept may (GoesOver.unlinked (HasNoLink.no_room ending_is leaves none)) = never_open old mid.back leaves may
  never_third old mid what text f ending then_kept may (GoesOver.exchanged o after readies exchange kept_is) =
      over_again mid.kept after ending then_kept kept_is (over_then what text o after f exchange)

  tried_step : (old new : HttpRemoteView) (order : Order) (ending : Ending) → IsSpelled old → new.peer ≡ old.peer
      → Tries reaches order.what (request_of old.peer.host order) old.links new.links ending → SendsOne old.sends new.sends order ending → IsSpelled new
  tried_step old new order ending is peer_is (Tries.once goes counts due) sends = went_step old new order ending is peer_is goes due sends
  tried_step old new order ending is peer_is (Tries.again mid f first counts due goes more) sends =
      let may = (and_parts (keeps_open old.links.kept) (ends_unanswered f mid.kept) due).0 in
      went_step (with_links old mid) new order ending (left_step old mid order f is may first) peer_is goes
      (never_third old.links mid order.what (request_of old.peer.host order) f ending new.links.kept may first) sends

pub spelled_step : (reaches : LinkView → List ℕ → ℕ → Type 0) (old new : HttpRemoteView) (order : Order) (ending : Ending) → IsSpelled old → new.peer ≡ old.peer
    → SendsOver reaches old.peer.host old.peer.port order old.links new.links ending → SendsOne old.sends new.sends order ending → IsSpelled new
spelled_step reaches old new order ending is peer_is (SendsOver.too_large large ending_is same) sends =
    let listed = sends_are old.sends new.sends order ending sends ∙ ap (after_send old.sends order) ending_is in
    large_so old new order (size_told order) old.links.kept refl is peer_is same listed
spelled_step reaches old new order ending is peer_is (SendsOver.unwritten ending_is same) sends =
    let listed = sends_are old.sends new.sends order ending sends ∙ ap (after_send old.sends order) ending_is in
    stays_so old new is.mine is peer_is same (listed ∙ is.sends) is.kept is.spares
spelled_step reaches old new order ending is peer_is (SendsOver.tried tries) sends =
    tried_step (λ link. reaches link old.peer.host old.peer.port) old new order ending is peer_is tries sends

-- ---- where nothing is sent

pub spelled_rest : (old new : HttpRemoteView) → IsSpelled old → new.peer ≡ old.peer → LeavesAll old.links new.links → new.sends ≡ old.sends → IsSpelled new
spelled_rest old new is peer_is leaves sends = back_so old new [] None is peer_is leaves.back_is leaves.none (sends ∙ sym (append-nil old.sends)) refl tt

-- ---- at the end

pub spells_all : (remote : HttpRemoteView) (back : List LinkView) → IsSpelled remote → back ≡ remote.links.back ++ left_over remote.links.kept
    → SpellsAll remote.peer.host remote.peer.start back remote.sends
spells_all remote back is back_is = record {
  links = is.links ++ left_over remote.links.kept;
  back_is = back_is ∙ ap (λ (ls : List LinkView). ls ++ left_over remote.links.kept) is.back ∙ append_assoc remote.peer.start is.links (left_over remote.links.kept);
  spelled = subst (λ (ss : List Sent). AllSpell remote.peer.host (is.links ++ left_over remote.links.kept) ss) (sym is.sends)
      (went_spells remote.peer.host is.links remote.links.kept is.before is.mine is.spelled is.kept is.spares);
}

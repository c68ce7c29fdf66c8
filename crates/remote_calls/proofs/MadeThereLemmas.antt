-- As many links come back as were made to a port of a host. The key lemmas are there_first, there_step, there_rest
-- and there_at_end.
use Rattle.std.proofs.Common.{◌≡◌, ℕ, ◌+◌, suc, List, [], ◌∷◌, ◌++◌, length, Bool, false, Option, None, Some, Err, refl, sym, ap, ap₂, subst, ◌∙◌, append-nil, arith}
use Rattle.std.proofs.lemmas.List.{length-append}
use Rattle.http_client.specs.RequestText.{request_text}
use Rattle.http_front.specs.declared.order.Order.{Order}
use Rattle.http_front.specs.declared.order.What.{What}
use Rattle.remote_calls.specs.Exchange.{LinkView, OpenView}
use Rattle.remote_calls.specs.HttpRemote.{AreMadeThere, GoesOver, HasNoLink, HttpPeer, LeavesAll, LinksView, ReadiesBy, SendsOver, Tries, left_over}
use Rattle.remote_calls.specs.Sends.{Ending}

-- the links that came back, and the one that is kept
abbrev pub all_of : LinksView → List LinkView
all_of links = links.back ++ left_over links.kept

none_more : (all start : ℕ) → all ≡ start → all ≡ start + 0
none_more all start is = omega (arith, is)

one_longer : (now before start made : ℕ) → now ≡ before + 1 → before ≡ start + made → now ≡ start + suc made
one_longer now before start made more is = omega (arith, more, is)

-- the one that was kept went back, and none is kept
went_back : (old new : LinksView) → new.back ≡ old.back ++ left_over old.kept → new.kept ≡ None → all_of new ≡ all_of old
went_back old new back_is none = ap₂ (λ (back : List LinkView) (kept : Option OpenView). back ++ left_over kept) back_is none ∙ append-nil (all_of old)

-- another is kept in the place of one
as_many : (old new : LinksView) (o after : OpenView) → new.back ≡ old.back → old.kept ≡ Some o → new.kept ≡ Some after → length (all_of new) ≡ length (all_of old)
as_many old new o after back_is was is =
    ap₂ (λ (back : List LinkView) (kept : Option OpenView). length (back ++ left_over kept)) back_is is ∙ length-append old.back (after.link ∷ [])
    ∙ sym (length-append old.back (o.link ∷ [])) ∙ sym (ap (λ (kept : Option OpenView). length (old.back ++ left_over kept)) was)

-- the one that was kept went back, and another is kept
one_more_kept : (old new : LinksView) (after : OpenView) → new.back ≡ old.back ++ left_over old.kept → new.kept ≡ Some after
    → length (all_of new) ≡ length (all_of old) + 1
one_more_kept old new after back_is is =
    ap₂ (λ (back : List LinkView) (kept : Option OpenView). length (back ++ left_over kept)) back_is is ∙ length-append (all_of old) (after.link ∷ [])

module _ (reaches : LinkView → List ℕ → ℕ → Type 0) where
  pub there_first : (peer : HttpPeer) (links : LinksView) → links.back ≡ peer.start → links.kept ≡ None → AreMadeThere reaches peer (all_of links)
  there_first peer links back_is none = record {
    made = [];
    each = tt;
    count = none_more (length (all_of links)) (length peer.start)
        (ap length (ap₂ (λ (back : List LinkView) (kept : Option OpenView). back ++ left_over kept) back_is none ∙ append-nil peer.start));
  }

  there_again : (peer : HttpPeer) (links more : List LinkView) → length more ≡ length links → AreMadeThere reaches peer links → AreMadeThere reaches peer more
  there_again peer links more many is = record { made = is.made; each = is.each; count = many ∙ is.count }

  one_made : (peer : HttpPeer) (links more : List LinkView) (link : LinkView) → reaches link peer.host peer.port → length more ≡ length links + 1
      → AreMadeThere reaches peer links → AreMadeThere reaches peer more
  one_made peer links more link there many is = record {
    made = link ∷ is.made;
    each = (there, is.each);
    count = one_longer (length more) (length links) (length peer.start) (length is.made) many is.count;
  }

  went_there : (peer : HttpPeer) (what : What) (text : List ℕ) (old new : LinksView) (ending : Ending) → AreMadeThere reaches peer (all_of old)
      → GoesOver (λ link. reaches link peer.host peer.port) what text old new ending → AreMadeThere reaches peer (all_of new)
  went_there peer what text old new ending is (GoesOver.unlinked (HasNoLink.undialled ending_is leaves none)) =
      there_again peer (all_of old) (all_of new) (ap length (went_back old new leaves.back_is none)) is
  went_there peer what text old new ending is (GoesOver.unlinked (HasNoLink.no_room ending_is leaves none)) =
      there_again peer (all_of old) (all_of new) (ap length (went_back old new leaves.back_is none)) is
  went_there peer what text old new ending is (GoesOver.exchanged o after (ReadiesBy.kept keeps_it) exchange kept_is) =
      there_again peer (all_of old) (all_of new) (as_many old new o after keeps_it.back_is keeps_it.is kept_is) is
  went_there peer what text old new ending is (GoesOver.exchanged o after (ReadiesBy.made leaves fresh there) exchange kept_is) =
      one_made peer (all_of old) (all_of new) o.link there (one_more_kept old new after leaves.back_is kept_is) is

  tried_there : (peer : HttpPeer) (what : What) (text : List ℕ) (old new : LinksView) (ending : Ending) → AreMadeThere reaches peer (all_of old)
      → Tries (λ link. reaches link peer.host peer.port) what text old new ending → AreMadeThere reaches peer (all_of new)
  tried_there peer what text old new ending is (Tries.once goes counts due) = went_there peer what text old new ending is goes
  tried_there peer what text old new ending is (Tries.again mid f first counts due goes more) =
      went_there peer what text mid new ending (went_there peer what text old mid (Err f) is first) goes

  sent_there : (peer : HttpPeer) (old new : LinksView) (order : Order) (ending : Ending) → AreMadeThere reaches peer (all_of old)
      → SendsOver reaches peer.host peer.port order old new ending → AreMadeThere reaches peer (all_of new)
  sent_there peer old new order ending is (SendsOver.too_large large ending_is same) = subst (λ (links : LinksView). AreMadeThere reaches peer (all_of links)) (sym same) is
  sent_there peer old new order ending is (SendsOver.unwritten ending_is same) = subst (λ (links : LinksView). AreMadeThere reaches peer (all_of links)) (sym same) is
  sent_there peer old new order ending is (SendsOver.tried tries) = tried_there peer order.what (request_text order peer.host false) old new ending is tries

  pub there_step : (peer peer_then : HttpPeer) (old new : LinksView) (order : Order) (ending : Ending) → AreMadeThere reaches peer (all_of old) → peer_then ≡ peer
      → SendsOver reaches peer.host peer.port order old new ending → AreMadeThere reaches peer_then (all_of new)
  there_step peer peer_then old new order ending is same sends =
      subst (λ (p : HttpPeer). AreMadeThere reaches p (all_of new)) (sym same) (sent_there peer old new order ending is sends)

  pub there_rest : (peer peer_then : HttpPeer) (old new : LinksView) → AreMadeThere reaches peer (all_of old) → peer_then ≡ peer → LeavesAll old new
      → AreMadeThere reaches peer_then (all_of new)
  there_rest peer peer_then old new is same leaves =
      subst (λ (p : HttpPeer). AreMadeThere reaches p (all_of new)) (sym same)
      (there_again peer (all_of old) (all_of new) (ap length (went_back old new leaves.back_is leaves.none)) is)

  pub there_at_end : (peer : HttpPeer) (all back : List LinkView) → AreMadeThere reaches peer all → back ≡ all → AreMadeThere reaches peer back
  there_at_end peer all back is same = there_again peer all back (ap length same) is

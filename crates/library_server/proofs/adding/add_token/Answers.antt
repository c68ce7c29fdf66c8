-- The library that was opened comes back, with the token or without it.
use Rattle.server_words.specs.Spelling.{location_text}
use Rattle.library_server.specs.Standing.{came_back}
use Rattle.library_server.proofs.DepotLemmas.{stands_back}
use Rattle.library_server.proofs.StandingLemmas.{comes_back, others_back}
use Rattle.library_server.proofs.TokenLemmas.{refuses_token, token_refused}
use Rattle.std.proofs.Common.{Err}
use Rattle.std.specs.Prelude.{⊤}
use Rattle.depot.specs.Tokens.{is_token_counted}
use Rattle.library_server.proofs.WholeLemmas.{steady_count, token_whole}
use Rattle.library_server.proofs.adding.add_token.Goals as goal

pub returns-in-Ok-add_token-clause-shown : goal.returns-in-Ok-add_token-clause-shown
returns-in-Ok-add_token-clause-shown g c = λ standing there.
    let opens = c.in-Ok.ensures.shown standing there in (
      opens.0,
      opens.2,
      stands_back g.G.S.Shelf.contents g.G.S.Shelf.faults c.add_token.new.self _ _ _ _ _ standing
          c.add_token.ensures.stands (λ key stray. c.in-Ok.ensures.lying key (c.add_token.ensures.lying key stray)) c.in-Ok-add_token.ensures.text.0 (c.in-Ok-add_token.ensures.shown opens.0 opens.1)
          (comes_back _ _ _ _ _ _ c.in-Ok.ensures.back (rw c.folder_word.ensures.value at c.bring_back.ensures.ok)) there,
    )

pub returns-in-Ok-add_token-clause-back : goal.returns-in-Ok-add_token-clause-back
returns-in-Ok-add_token-clause-back g c =
    came_back c.add_token.new.self.store.shelf (comes_back _ _ _ _ _ _ c.in-Ok.ensures.back (rw c.folder_word.ensures.value at c.bring_back.ensures.ok))

pub returns-in-Err-add_token-clause-shown : goal.returns-in-Err-add_token-clause-shown
returns-in-Err-add_token-clause-shown g c = λ standing there.
    let opens = c.in-Ok.ensures.shown standing there in
    let back = comes_back _ _ _ _ _ _ c.in-Ok.ensures.back (rw c.folder_word-in-Err-add_token.ensures.value at c.bring_back-in-Err-add_token.ensures.ok) in (
      opens.0,
      opens.2,
      refuses_token g.G.S.Shelf.contents g.G.S.Shelf.faults c.in-Ok.depot c.add_token.new.self opens.0 c.args.token.now c.in-Err-add_token.fault _
          c.in-Ok.ensures.good c.in-Ok.ensures.lying (λ key stray. c.in-Ok.ensures.lying key (c.add_token.ensures.lying key stray)) c.in-Ok.ensures.settled opens.1 c.in-Err-add_token.ensures.refused c.in-Err-add_token.ensures.untouched c.in-Err-add_token.ensures.text
          c.add_token.ensures.stays (λ held told. back.here standing held there told),
    )

pub returns-in-Err-add_token-clause-back : goal.returns-in-Err-add_token-clause-back
returns-in-Err-add_token-clause-back g c =
    came_back c.add_token.new.self.store.shelf (comes_back _ _ _ _ _ _ c.in-Ok.ensures.back (rw c.folder_word-in-Err-add_token.ensures.value at c.bring_back-in-Err-add_token.ensures.ok))

pub returns-in-Err-add_token-clause-steady : goal.returns-in-Err-add_token-clause-steady
returns-in-Err-add_token-clause-steady g c = λ steady standing there whole.
    token_whole c.in-Ok.depot.state.tokens c.args.token.now.secret c.in-Err-add_token.fault c.in-Err-add_token.ensures.refused
    (steady_count {T = ⊤} is_token_counted _ _ (Err c.in-Err-add_token.fault) (steady _) (steady _) c.in-Err-add_token.ensures.faults)

pub returns-in-Err-add_token-clause-cause : goal.returns-in-Err-add_token-clause-cause
returns-in-Err-add_token-clause-cause g c =
    (c.in-Ok.depot.state, c.in-Ok.ensures.any, token_refused c.in-Ok.depot.state c.args.token.now c.in-Err-add_token.fault c.in-Err-add_token.ensures.refused)

pub returns-in-Ok-add_token-clause-any : goal.returns-in-Ok-add_token-clause-any
returns-in-Ok-add_token-clause-any g c = (c.in-Ok.depot.state, c.in-Ok.ensures.any, c.in-Ok-add_token.ensures.refused)

pub returns-in-Ok-add_token-clause-others : goal.returns-in-Ok-add_token-clause-others
returns-in-Ok-add_token-clause-others g c =
    others_back (location_text c.args.location.now) c.args.lib c.in-Ok.ensures.others (rw c.folder_word.ensures.value at c.bring_back.ensures.gives)

pub returns-in-Err-add_token-clause-others : goal.returns-in-Err-add_token-clause-others
returns-in-Err-add_token-clause-others g c =
    others_back (location_text c.args.location.now) c.args.lib c.in-Ok.ensures.others (rw c.folder_word-in-Err-add_token.ensures.value at c.bring_back-in-Err-add_token.ensures.gives)

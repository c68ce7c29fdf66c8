-- Histories, one after another. The key lemmas are stands_join, step_stands and answer_stands.
use Rattle.std.proofs.Common.{◌≡◌, ℕ, List, [], ◌∷◌, ◌++◌, length, refl, sym, ap, ◌∙◌, subst}
use Rattle.library_state.specs.declared.reply.Reply.{Reply}
use Rattle.library_rules.specs.Changes.{apply}
use Rattle.library_rules.specs.History.{Legal, after, StepSo, Stands}
use Rattle.library_rules.specs.LibraryState.{State, IsSound}
use Rattle.library_rules.specs.declared.entry.Entry.{Entry}
use Rattle.library_rules.specs.declared.entry.Step.{Step}
use Rattle.library_rules.proofs.HistoryLemmas.{sound_after}

pub legal_join : (s : State) (es fs : List Entry) → Legal s es → Legal (after s es (length es)) fs → Legal s (es ++ fs)
legal_join s [] fs first second = second
legal_join s (e ∷ es) fs first second = (first.0, legal_join (apply s e) es fs first.1 second)

pub after_join : (s : State) (es fs : List Entry) → after s (es ++ fs) (length (es ++ fs)) ≡ after (after s es (length es)) fs (length fs)
after_join s [] fs = refl
after_join s (e ∷ es) fs = after_join (apply s e) es fs

pub stands_join : (start s t : State) (es fs : List Entry) → Stands start es s → Stands s fs t → Stands start (es ++ fs) t
stands_join start s t es fs first second = record {
  legal = legal_join start es fs first.legal (subst (λ m. Legal m fs) (sym first.state) second.legal);
  state = after_join start es fs ∙ ap (λ m. after m fs (length fs)) first.state ∙ second.state;
}

-- what a step leaves is a history of its own
pub step_stands : (s : State) (st : Step) (moment : ℕ) (reply : Reply) (t : State) (es : List Entry) → StepSo s st moment reply t es → Stands s es t
step_stands s st moment reply t [] so = record { legal = tt; state = sym so.0 }
step_stands s st moment reply t (e ∷ []) so = record { legal = (so.permitted, tt); state = so.state }
step_stands s st moment reply t (e ∷ f ∷ es) so = absurd so

pub answer_stands : (start s t : State) (es fs : List Entry) (st : Step) (moment : ℕ) (reply : Reply) → Stands start es s → StepSo s st moment reply t fs → Stands start (es ++ fs) t
answer_stands start s t es fs st moment reply stands so = stands_join start s t es fs stands (step_stands s st moment reply t fs so)

pub sound_stands : (start s : State) (es : List Entry) → IsSound start → Stands start es s → IsSound s
sound_stands start s es sound stands = subst IsSound stands.state (sound_after start es (length es) stands.legal sound)

-- The parts of a state are typed, so the state is.
use Rattle.std.proofs.Common.{rules, All, List, Result, Ok, Err, OnOk, subst}
use Rattle.library_state.specs.TypedState.{IsTypedInstall, IsTypedToken}
use Rattle.library_state.specs.declared.history.Install.{Install}
use Rattle.library_state.specs.declared.token.Token.{Token}
use Rattle.library_state.proofs.state_writing.state_value.Goals as goal

on_ok : {T E : Type 0} (P : Type 0) (r : Result T E) → P → OnOk r P
on_ok P (Ok x) holds = holds
on_ok P (Err e) holds = tt

pub returns-clause-typed : goal.returns-clause-typed
returns-clause-typed c =
    let AreInstalls : List Install → Type 0 = λ installs. All IsTypedInstall installs in
    let AreTokens : List Token → Type 0 = λ tokens. All IsTypedToken tokens in
    on_ok _ c.state_with.result (record {
      lib = c.library_id_value.ensures.reads_back;
      name = c.slice-name.ensures.utf8;
      days = search rules;
      kept = subst AreInstalls c.slice.ensures.value c.in_ok-kept.ensures.typed;
      tokens = subst AreTokens c.slice-2.ensures.value c.in_ok-tokens.ensures.typed;
    })

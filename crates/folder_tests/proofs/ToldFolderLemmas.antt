-- What was noted, and one call more, or none.
use Rattle.std.proofs.Common.{◌≡◌, List, [], ◌∷◌, ◌++◌, Some, sym, ap, ◌∙◌}
use Rattle.std.proofs.lemmas.List.{append-nil, map-append}
use Rattle.tree_model.specs.Path.{PathV}
use Rattle.folder_side.specs.Calls.{with_calls}
use Rattle.folder_tests.specs.ToldFolder.{call_of, calls_of}
use Rattle.folder_tests.specs.declared.made.Made.{Made}

pub noted_more : (noted more : List (PathV × Made)) (path : PathV) (made : Made) → more ≡ noted ++ (path, made) ∷ []
    → Some (calls_of more) ≡ with_calls (Some (calls_of noted)) (call_of path made ∷ [])
noted_more noted more path made is = ap Some (ap calls_of is ∙ map-append (λ (one : PathV × Made). call_of one.0 one.1) noted ((path, made) ∷ []))

pub noted_none : (noted : List (PathV × Made)) → Some (calls_of noted) ≡ with_calls (Some (calls_of noted)) []
noted_none noted = ap Some (sym (append-nil (calls_of noted)))
